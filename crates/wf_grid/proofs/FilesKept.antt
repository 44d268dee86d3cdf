-- The files of frames stay there, with room for their number of records.
use Rattle.std.proofs.Common.{◌≡◌, ◌⊎◌, inl, inr, ℕ, ◌+◌, ◌≤◌, Bool, true, false, List, [], ◌∷◌, ◌++◌, length, take, drop, map, Option, Some, IsSome, unwrap_or, refl, sym, ap, subst, ◌∙◌, arith, length-append, length-take, length-drop}
use Rattle.std.specs.Prelude.{if◌then◌else◌}
use Rattle.std.specs.Str.{bytes_eq}
use Rattle.std.specs.List.{slice_get}
use Rattle.std.proofs.lemmas.Slice.Eq.{bytes_eq-Decides}
use Rattle.std.proofs.lemmas.Bool.{cases_lt}
use Rattle.wf_model.specs.declared.frame.Frame.{Frame}
use Rattle.wf_model.specs.declared.header.Header.{Header}
use Rattle.wf_model.specs.Bytes.{four_bytes, header_bytes}
use Rattle.wf_model.specs.Files.{Files, StoreCall, create, append, write_at, with_file, bytes_at, patched, files_after_all}
use Rattle.wf_model.specs.Frames.{frames_of}
use Rattle.wf_model.specs.Headers.{file_header, placed}
use Rattle.wf_model.specs.Outcome.{RunData}
use Rattle.wf_model.specs.Plans.{begin_of}
use Rattle.wf_model.specs.StoreRuns.{Ran}
use Rattle.wf_model.specs.Writes.{frame_calls, record_of, header_of, steps_at}
use Rattle.wf_model.proofs.StoreRunLaws.{told_back, files_after_all-append}
use Rattle.wf_stream.specs.Writing.{HasRecords, HasFile}
use Rattle.wf_stream.proofs.FrameLaws.{opened_before}
use Rattle.wf_grid.specs.FrameEnds.{HaveFiles}

-- a file that is there, and eight bytes of it
record IsLong (x : Option (List ℕ)) : Type 0 where
  pub there : IsSome x
  pub within : 8 ≤ length (unwrap_or x [])

long_of : (q : List ℕ) (m : Files) → HasRecords q m → IsLong (m q)
long_of q m h = record { there = h.there; within = h.within }

records_of : (q : List ℕ) (m : Files) → IsLong (m q) → HasRecords q m
records_of q m h = record { there = h.there; within = h.within }

long_either : (b : Bool) (bytes : List ℕ) (x : Option (List ℕ)) → (b ≡ false → IsLong x) → (b ≡ true → 8 ≤ length bytes) → IsLong (if b then Some bytes else x)
long_either true bytes x other this = record { there = refl; within = this refl }
long_either false bytes x other this = other refl

-- a name that is written
written : (q name bytes : List ℕ) (m : Files) → (bytes_eq q name ≡ false → HasRecords q m) → (bytes_eq q name ≡ true → 8 ≤ length bytes) → HasRecords q (with_file m name bytes)
written q name bytes m other this = records_of q (with_file m name bytes) (long_either (bytes_eq q name) bytes (m q) (λ e. long_of q m (other e)) this)

same_name : (q name : List ℕ) → bytes_eq q name ≡ true → q ≡ name
same_name q name e = (bytes_eq-Decides q name).0 e

-- bytes more
appended : (q name bytes : List ℕ) (m : Files) → HasRecords q m → HasRecords q (with_file m name (bytes_at m name ++ bytes))
appended q name bytes m h =
    written q name (bytes_at m name ++ bytes) m (λ e. h)
    (λ e. let room : 8 ≤ length (bytes_at m name) = subst (λ (n : List ℕ). 8 ≤ length (bytes_at m n)) (same_name q name e) h.within in omega (arith, room, length-append (bytes_at m name) bytes))

long_patched : (o w : List ℕ) → 8 ≤ length o → length w ≡ 4 → 8 ≤ length (patched o 4 w)
long_patched o w h e = omega (arith, length-append (take 4 o ++ w) (drop (4 + length w) o), length-append (take 4 o) w, length-take 4 o, length-drop (4 + length w) o)

-- four bytes replaced
replaced : (q name bytes : List ℕ) (m : Files) → length bytes ≡ 4 → HasRecords q m → HasRecords q (with_file m name (patched (bytes_at m name) 4 bytes))
replaced q name bytes m four h =
    written q name (patched (bytes_at m name) 4 bytes) m (λ e. h)
    (λ e. long_patched (bytes_at m name) bytes (subst (λ (n : List ℕ). 8 ≤ length (bytes_at m n)) (same_name q name e) h.within) four)

-- slabs more
slabs_kept : (q name : List ℕ) (slabs : List (List ℕ)) (m : Files) → HasRecords q m → HasRecords q (files_after_all m (map (append name) slabs))
slabs_kept q name [] m h = h
slabs_kept q name (s ∷ ss) m h = slabs_kept q name ss (with_file m name (bytes_at m name ++ s)) (appended q name s m h)

-- a file that is made with a header
at_name : (m : Files) (name b : List ℕ) → bytes_at (with_file m name b) name ≡ b
at_name m name b = let e : bytes_eq name name ≡ true = (bytes_eq-Decides name name).1 refl in ap (λ (t : Bool). unwrap_or (if t then Some b else m name) []) e

made : (q name header : List ℕ) (m : Files) → 8 ≤ length header → (bytes_eq q name ≡ false → HasRecords q m) → HasRecords q (files_after_all m (create name ∷ append name header ∷ []))
made q name header m long other =
    written q name (bytes_at (with_file m name []) name ++ header) (with_file m name [])
    (λ e. written q name [] m other (λ t. absurd (cc (e, t))))
    (λ e. omega (arith, long, length-append (bytes_at (with_file m name []) name) header))

-- a header has more than eight bytes
header_long : (h : Header) → 8 ≤ length (header_bytes h)
unfolding header_bytes
header_long h = omega arith

-- the last call of a frame
count_kept : (q name bytes : List ℕ) (m : Files) → length bytes ≡ 4 → HasRecords q m → HasRecords q (files_after_all m (write_at name 4 bytes ∷ []))
count_kept q name bytes m four h = replaced q name bytes m four h

module _ (r : RunData) (frame : Frame) (q : List ℕ) where
  -- the calls of a frame, by whether it is the first in its file
  abbrev opens : Bool → List StoreCall
  opens b = if b then create frame.file ∷ append frame.file (header_of r frame) ∷ [] else []

  abbrev counts : List StoreCall
  counts = write_at frame.file 4 (four_bytes (frame.rec + 1)) ∷ []

  -- behind its first calls
  opened : (b : Bool) (m : Files) → (b ≡ false → HasRecords frame.file m) → HasRecords q m ⊎ (q ≡ frame.file) → HasRecords q (files_after_all m (opens b))
  opened true m there (inl h) = made q frame.file (header_of r frame) m (header_long (placed (file_header r.plan frame.domain frame.stream (begin_of r.initial.begins frame.domain).start_text (steps_at r frame)))) (λ e. h)
  opened true m there (inr e) = made q frame.file (header_of r frame) m (header_long (placed (file_header r.plan frame.domain frame.stream (begin_of r.initial.begins frame.domain).start_text (steps_at r frame))))
      (λ f. let t : bytes_eq q frame.file ≡ true = (bytes_eq-Decides q frame.file).1 e in absurd (cc (f, t)))
  opened false m there (inl h) = h
  opened false m there (inr e) = subst (λ (n : List ℕ). HasRecords n m) (sym e) (there refl)

  -- a frame keeps the files that were there, and has its own there
  pub frame_keeps : (m : Files) → HasFile frame m → HasRecords q m ⊎ (q ≡ frame.file) → HasRecords q (files_after_all m (frame_calls r frame))
  unfolding frame_calls
  frame_keeps m there h =
      let slabs : List StoreCall = map (append frame.file) (record_of r frame) in
      let m1 : Files = files_after_all m (opens frame.first) in
      let m2 : Files = files_after_all m1 (map (append frame.file) (record_of r frame)) in
      let last : HasRecords q (files_after_all m2 counts) = count_kept q frame.file (four_bytes (frame.rec + 1)) m2 refl (slabs_kept q frame.file (record_of r frame) m1 (opened frame.first m there h)) in
      subst (λ (n : Files). HasRecords q n) (sym (files_after_all-append (opens frame.first ++ slabs) counts m ∙ ap (λ (n : Files). files_after_all n counts) (files_after_all-append (opens frame.first) slabs m))) last

-- the file of the next frame is there, where it is not the first in it
pub has_file : (r : RunData) (n : ℕ) (f : Frame) (m : Files) → slice_get (frames_of r) n ≡ Some f → HaveFiles r n m → HasFile f m
has_file r n f m is have = λ other. let w = opened_before r n f is other in subst (λ (q : List ℕ). HasRecords q m) w.file (have w.m w.g w.before w.is)

-- and one frame more
pub have_more : (r : RunData) (n : ℕ) (f : Frame) (old new : Option Files) → slice_get (frames_of r) n ≡ Some f → ((m : Files) → old ≡ Some m → HaveFiles r n m) → Ran (frame_calls r f) old new →
    (m : Files) → new ≡ Some m → HaveFiles r (n + 1) m
have_more r n f old new is have ran m e k g below at =
    let w = told_back old new (λ a b. b ≡ files_after_all a (frame_calls r f)) ran m e in
    let before : HaveFiles r n w.0 = have w.0 w.1 in
    subst (λ (x : Files). HasRecords g.file x) (sym w.2) (frame_keeps r f g.file w.0 (has_file r n f w.0 is before) (kept before))
  where
    same_frame : (k : ℕ) → k ≡ n → slice_get (frames_of r) k ≡ Some g → g ≡ f
    same_frame k e h = let here : slice_get (frames_of r) n ≡ Some g = subst (λ (i : ℕ). slice_get (frames_of r) i ≡ Some g) e h in cc

    kept : {m0 : Files} → HaveFiles r n m0 → HasRecords g.file m0 ⊎ (g.file ≡ f.file)
    kept before = elim (cases_lt k n) [
      | inl l ↦ inl (before k g l at)
      | inr l ↦ inr (ap (λ (x : Frame). x.file) (same_frame k (omega (arith, l, below)) at))
    ]
