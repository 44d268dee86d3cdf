-- Calls of a store one after another, ended by an error or all made.
use Rattle.std.proofs.Common.{◌≡◌, ℕ, ◌≤◌, true, List, [], ◌∷◌, ◌++◌, length, Option, Some, IsSome, unwrap_or, Result, Ok, Err, refl, sym, subst, arith, length-append}
use Rattle.std.specs.Str.{bytes_eq}
use Rattle.std.proofs.lemmas.Slice.Eq.{bytes_eq-Decides}
use Rattle.wf_io.specs.Files.{Counted, failed_name}
use Rattle.wf_io.specs.declared.store.IoError.{IoError}
use Rattle.wf_io.specs.declared.store.IoError.TheVariants as io
use Rattle.wf_model.specs.Files.{Files, StoreCall, with_file, bytes_at}
use Rattle.wf_model.specs.StoreRuns.{Told, MayLeave, Ran}
use Rattle.wf_model.specs.Failed.{file_of}
use Rattle.wf_model.proofs.StoreRunLaws.{told_back, ran_then, stopped_none, stopped_one, stopped_left, stopped_right, failed_one, failed_left, failed_right}
use Rattle.wf_stream.specs.Writing.{HasRecords}
use Rattle.wf_stream.specs.StoreWrites.{HasRoom, Wrote, stream_error_of}
use Rattle.wf_stream.specs.declared.writer.StreamError.{StreamError}
use Rattle.wf_stream.specs.declared.writer.StreamError.TheVariants as stream

-- ---- one call

-- calls that were all made
pub wrote_all : {X : Type 0} (calls : List StoreCall) (name : List ℕ) (a b : Option Files) (m n : ℕ) (failed : List ℕ) (x : X)
    → Ran calls a b → m ≤ n → Wrote calls name a b m n failed (Ok x)
wrote_all calls name a b m n failed x ran later = record {
  ok = ran;
  err = tt;
  failed_call = λ e. absurd (cc e);
  later = later;
  rose = λ e. absurd (cc e);
  last = λ e. absurd (cc e);
}

-- no call, and no memory
pub wrote_none : {X : Type 0} (calls : List StoreCall) (name : List ℕ) (a : Option Files) (m : ℕ) (failed : List ℕ)
    → Wrote {X = X} calls name a a m m failed (Err stream.Memory)
wrote_none calls name a m failed = record {
  ok = tt;
  err = stopped_none calls a;
  failed_call = λ e. absurd (cc e);
  later = omega arith;
  rose = λ e. absurd (cc e);
  last = λ e. absurd (cc e);
}

-- a call that failed
pub wrote_failed : {X Y : Type 0} (c : StoreCall) (name : List ℕ) (a b : Option Files) (m n : ℕ) (failed : List ℕ) (e : IoError)
    → file_of c ≡ name → Told a b (MayLeave c) → Counted {X = Y} m n (Err e) → failed ≡ failed_name {X = Y} (Err e) name
    → Wrote {X = X} (c ∷ []) name a b m n failed (Err (stream_error_of e))
wrote_failed c name a b m n failed io.Fault on left counted last = record {
  ok = tt;
  err = stopped_one c [] a b left;
  failed_call = λ e. failed_one c [] name a b on left;
  later = counted.later;
  rose = λ e. counted.rose refl;
  last = λ e. last;
}
wrote_failed c name a b m n failed io.Memory on left counted last = record {
  ok = tt;
  err = stopped_one c [] a b left;
  failed_call = λ e. absurd (cc e);
  later = counted.later;
  rose = λ e. absurd (cc e);
  last = λ e. absurd (cc e);
}

-- the same, as the writer tells it
pub wrote_error : {X Y : Type 0} (c : StoreCall) (name : List ℕ) (a b : Option Files) (m n : ℕ) (failed : List ℕ) (e : IoError) (s : StreamError)
    → s ≡ stream_error_of e → file_of c ≡ name → Told a b (MayLeave c) → Counted {X = Y} m n (Err e) → failed ≡ failed_name {X = Y} (Err e) name
    → Wrote {X = X} (c ∷ []) name a b m n failed (Err s)
wrote_error {X} {Y} c name a b m n failed e s is on left counted last =
    subst (λ (t : StreamError). Wrote {X = X} (c ∷ []) name a b m n failed (Err t)) (sym is) (wrote_failed {X = X} {Y = Y} c name a b m n failed e on left counted last)

-- ---- calls after calls

-- behind calls that were all made
pub wrote_then : {X Y : Type 0} (cs ds : List StoreCall) (name : List ℕ) (a b c : Option Files) (l m n : ℕ) (f g : List ℕ) (x : X) (r : Result Y StreamError)
    → Wrote cs name a b l m f (Ok x) → Wrote ds name b c m n g r → Wrote (cs ++ ds) name a c l n g r
wrote_then cs ds name a b c l m n f g x (Ok y) p q = wrote_all (cs ++ ds) name a c l n g y (ran_then cs ds a b c p.ok q.ok) (omega (arith, p.later, q.later))
wrote_then cs ds name a b c l m n f g x (Err e) p q = record {
  ok = tt;
  err = stopped_right cs ds a b c p.ok q.err;
  failed_call = λ is. failed_right cs ds name a b c p.ok (q.failed_call is);
  later = omega (arith, p.later, q.later);
  rose = λ is. λ small. omega (arith, p.later, q.rose is small);
  last = λ is. q.last is;
}

-- an error is the last
pub wrote_left : {X Y : Type 0} (cs ds : List StoreCall) (name : List ℕ) (a b : Option Files) (m n : ℕ) (f : List ℕ) (e : StreamError)
    → Wrote {X = X} cs name a b m n f (Err e) → Wrote {X = Y} (cs ++ ds) name a b m n f (Err e)
wrote_left cs ds name a b m n f stream.Store p = record {
  ok = tt;
  err = stopped_left cs ds a b p.err;
  failed_call = λ is. failed_left cs ds name a b (p.failed_call refl);
  later = p.later;
  rose = λ is. p.rose refl;
  last = λ is. p.last refl;
}
wrote_left cs ds name a b m n f stream.Memory p = record {
  ok = tt;
  err = stopped_left cs ds a b p.err;
  failed_call = λ is. absurd (cc is);
  later = p.later;
  rose = λ is. absurd (cc is);
  last = λ is. absurd (cc is);
}

-- an error by another result
pub wrote_as : {X Y : Type 0} (cs : List StoreCall) (name : List ℕ) (a b : Option Files) (m n : ℕ) (f : List ℕ) (e : StreamError)
    → Wrote {X = X} cs name a b m n f (Err e) → Wrote {X = Y} cs name a b m n f (Err e)
wrote_as cs name a b m n f stream.Store p = record { ok = tt; err = p.err; failed_call = λ is. p.failed_call refl; later = p.later; rose = λ is. p.rose refl; last = λ is. p.last refl }
wrote_as cs name a b m n f stream.Memory p = record { ok = tt; err = p.err; failed_call = λ is. absurd (cc is); later = p.later; rose = λ is. absurd (cc is); last = λ is. absurd (cc is) }

-- ---- room for the number of records

-- a name that was written is there
with_there : (m : Files) (name b : List ℕ) → with_file m name b name ≡ Some b
with_there m name b = let e : bytes_eq name name ≡ true = (bytes_eq-Decides name name).1 refl in rw e refl

-- and has these bytes
has_bytes : (m : Files) (name b : List ℕ) → 8 ≤ length b → HasRecords name (with_file m name b)
has_bytes m name b long = record {
  there = subst (λ (o : Option (List ℕ)). IsSome o) (sym (with_there m name b)) refl;
  within = subst (λ (o : Option (List ℕ)). 8 ≤ length (unwrap_or o [])) (sym (with_there m name b)) long;
}

-- bytes at the end leave room
pub room_appended : (name bytes : List ℕ) (a b : Option Files) → HasRoom name a → Told a b (λ m n. n ≡ with_file m name (bytes_at m name ++ bytes)) → HasRoom name b
room_appended name bytes a b room told n e =
    let w = told_back a b (λ m n. n ≡ with_file m name (bytes_at m name ++ bytes)) told n e in
    subst (HasRecords name) (sym w.2) (has_bytes w.0 name (bytes_at w.0 name ++ bytes) (omega (arith, length-append (bytes_at w.0 name) bytes, (room w.0 w.1).within)))

-- a header has room
pub room_made : (name header : List ℕ) (a b c : Option Files) → 8 ≤ length header → Told a b (λ m n. n ≡ with_file m name []) → Told b c (λ m n. n ≡ with_file m name (bytes_at m name ++ header)) → HasRoom name c
room_made name header a b c long made told n e =
    let w = told_back b c (λ m n. n ≡ with_file m name (bytes_at m name ++ header)) told n e in
    subst (HasRecords name) (sym w.2) (has_bytes w.0 name (bytes_at w.0 name ++ header) (omega (arith, length-append (bytes_at w.0 name) header, long)))
