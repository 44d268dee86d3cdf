-- The names of the files of a run are names that a store takes.
use Rattle.std.proofs.Common.{◌≡◌, ℕ, zero, suc, ◌+◌, ◌-◌, ◌/◌, ◌%◌, ◌<◌, ◌≤◌, Bool, true, false, ◌&&◌, List, [], ◌∷◌, ◌++◌, length, get_or, Some, IsTrue, codes, refl, sym, ap, ◌∙◌, subst, arith, length-append}
use Rattle.std.specs.Prelude.{slice_get, nat_lt, nat_le, ◌==◌, ◌||◌, if◌then◌else◌}
use Rattle.std.specs.List.{list_all}
use Rattle.std.specs.Str.{bytes_eq}
use Rattle.std.proofs.lemmas.Bool.{eqb-true, eqb-false}
use Rattle.std.proofs.lemmas.Bool.Decides.{nat_tests}
use Rattle.std.proofs.lemmas.List.Folds.{list_all-append}
use Rattle.wf_io.specs.Files.{is_store_name}
use Rattle.wf_model.specs.declared.frame.Frame.{Frame}
use Rattle.wf_model.specs.Calendar.{Moment, is_leap, month_days, moment_after, moment_of, text_of, time_text, two_digits}
use Rattle.wf_model.specs.Frames.{Output, frames_of}
use Rattle.wf_model.specs.Outcome.{RunData}
use Rattle.wf_model.specs.Script.{restart_stream}
use Rattle.wf_model.specs.SoundRun.{IsSoundRun}
use Rattle.wf_model.specs.Streams.{file_name, frames_per_file, stream_prefix}
use Rattle.wf_stamp.specs.Moments.{is_moment}
use Rattle.wf_stamp.proofs.Days.{IsDay-from_is_date}
use Rattle.wf_stamp.proofs.Laws.{date_of_moment, second_of_moment, year-from_seconds, is_moment-moment_after}
use Rattle.wf_stream.specs.FrameCounts.{IsKnownOutput}
use Rattle.wf_stream.specs.StoreWrites.{is_store_byte}
use Rattle.wf_stream.proofs.FrameLaws.{is_frame, like_before, opened_before}
use Rattle.wf_stream.proofs.SoundFrames.{known_output}

-- each byte is one of a store's names
record AreTaken (xs : List ℕ) : Type 0 where
  all : list_all is_store_byte xs ≡ true

and_true : (a b : Bool) → a ≡ true → b ≡ true → (a && b) ≡ true
and_true a b p q = (λ i. p i && q i)

and_first : (a b : Bool) → (a && b) ≡ true → a ≡ true
and_first true b e = refl
and_first false b e = e

both : {xs ys : List ℕ} → AreTaken xs → AreTaken ys → AreTaken (xs ++ ys)
both {xs} {ys} p q = record { all = list_all-append is_store_byte xs ys ∙ and_true (list_all is_store_byte xs) (list_all is_store_byte ys) p.all q.all }

one : {x : ℕ} {xs : List ℕ} → is_store_byte x ≡ true → AreTaken xs → AreTaken (x ∷ xs)
one {x} {xs} p q = record { all = and_true (is_store_byte x) (list_all is_store_byte xs) p q.all }

none : AreTaken []
none = record { all = refl }

digit : (k : ℕ) → k ≤ 9 → is_store_byte (48 + k) ≡ true
digit k h = grind (arith, nat_tests)

digits : (n : ℕ) → n < 100 → AreTaken (two_digits n)
digits n h = one (digit (n / 10) (omega arith)) (one (digit (n % 10) (omega arith)) none)

-- ---- the text of a moment

thirty_one : (leap is_two is_short : Bool) → (if is_two then (if leap then 29 else 28) else (if is_short then 30 else 31)) ≤ 31
thirty_one true true s = omega arith
thirty_one false true s = omega arith
thirty_one l false true = omega arith
thirty_one l false false = omega arith

text_taken : (m : Moment) → IsTrue (is_moment m) → AreTaken (text_of m)
text_taken m h =
    let day = IsDay-from_is_date m.date (date_of_moment m h) in
    let second = second_of_moment m h in
    let month : month_days m.date.year m.date.month ≤ 31 = thirty_one (is_leap m.date.year) (m.date.month == 2) ((m.date.month == 4) || (m.date.month == 6) || (m.date.month == 9) || (m.date.month == 11)) in
    let last : m.date.day ≤ 31 = omega (arith, (day.0).day_end) in
    both (both (both (both (both (both (digits (m.date.year / 100) (omega (arith, day.1))) (digits (m.date.year % 100) (omega arith)))
    (one refl (digits m.date.month (omega (arith, (day.0).month_end))))) (one refl (digits m.date.day (omega (arith, last)))))
    (one refl (digits (m.second / 3600) (omega (arith, second))))) (one refl (digits (m.second / 60 % 60) (omega arith)))) (one refl (digits (m.second % 60) (omega arith)))

-- ---- the name of a file

record IsShort (xs : List ℕ) : Type 0 where
  taken : AreTaken xs
  least : 1 ≤ length xs
  most : length xs ≤ 8

prefix : (stream : ℕ) (a b : Bool) → (stream == 0) ≡ a → (stream == restart_stream) ≡ b → stream ≤ restart_stream
    → IsShort (if a then codes "wrfout" else (if b then codes "wrfrst" else (codes "auxhist" ++ ((48 + stream) ∷ []))))
prefix stream true b p q h = record { taken = record { all = refl }; least = omega arith; most = omega arith }
prefix stream false true p q h = record { taken = record { all = refl }; least = omega arith; most = omega arith }
prefix stream false false p q h =
    let known : stream ≤ 9 = omega (arith, h, eqb-false stream restart_stream q) in
    record { taken = both {xs = codes "auxhist"} (record { all = refl }) (one (digit stream known) none); least = omega arith; most = omega arith }

name_taken : (stream d : ℕ) (m : Moment) → stream ≤ restart_stream → d < 100 → IsTrue (is_moment m) → IsTrue (is_store_name (file_name stream d (text_of m)))
name_taken stream d m h few is =
    let front = prefix stream (stream == 0) (stream == restart_stream) refl refl h in
    let bytes = both (both (both (both front.taken (record { all = refl })) (digits d few)) (record { all = refl })) (text_taken m is) in
    let long : length (file_name stream d (text_of m)) ≡ length (stream_prefix stream) + 24
    = omega (arith, length-append (stream_prefix stream) (codes "_d"), length-append (stream_prefix stream ++ codes "_d") (two_digits d), length-append (stream_prefix stream ++ codes "_d" ++ two_digits d) (codes "_"), length-append (stream_prefix stream ++ codes "_d" ++ two_digits d ++ codes "_") (text_of m)) in
    let word = file_name stream d (text_of m) in
    and_true (nat_lt 0 (length word) && nat_le (length word) 128) (list_all is_store_byte word) (within (length word) (omega (arith, long, front.least)) (omega (arith, long, front.most))) bytes.all
  where
    within : (n : ℕ) → 0 < n → n ≤ 128 → (nat_lt 0 n && nat_le n 128) ≡ true
    within n some few = grind (arith, nat_tests)

-- the last one of a list
last_one : {X : Type 0} (xs : List X) (x : X) (k : ℕ) → k ≡ length xs → get_or (xs ++ x ∷ []) k x ≡ x
last_one [] x zero e = refl
last_one [] x (suc k) e = refl
last_one (y ∷ ys) x zero e = absurd (omega arith)
last_one (y ∷ ys) x (suc k) e = last_one ys x k (omega arith)

module _ (r : RunData) (run : IsSoundRun r) where
  output_taken : (o : Output) → IsKnownOutput r.plan o → IsTrue (is_store_name (file_name o.stream o.entry.domain (time_text (r.plan).start o.entry.time)))
  unfolding time_text
  output_taken o known =
      let start : IsTrue (is_moment (moment_of (r.plan).start)) = and_first (is_moment (moment_of (r.plan).start)) (bytes_eq (r.plan).start (text_of (moment_of (r.plan).start))) ((run.ranged).time).start in
      let year = year-from_seconds (moment_of (r.plan).start) o.entry.time start (omega (arith, ((run.ranged).time).finish, known.time)) in
      name_taken o.stream o.entry.domain (moment_after (moment_of (r.plan).start) o.entry.time) known.stream (omega (arith, (known.domain).1, ((run.ranged).limits).domains)) (is_moment-moment_after (moment_of (r.plan).start) o.entry.time start year)

  first_taken : (n : ℕ) (f : Frame) → slice_get (frames_of r) n ≡ Some f → f.first ≡ true → IsTrue (is_store_name f.file)
  first_taken n f is first =
      let t = is_frame r n f is in
      let like = like_before r n t.o in
      let count = length like in
      let rec : count % frames_per_file r.plan (t.o).entry.domain (t.o).stream ≡ 0 = eqb-true _ _ (ap (λ (x : Frame). x.first) t.frame ∙ first) in
      let opener = last_one like t.o (count - count % frames_per_file r.plan (t.o).entry.domain (t.o).stream) (omega arith) in
      let file : file_name (t.o).stream (t.o).entry.domain (time_text (r.plan).start (t.o).entry.time) ≡ f.file
      = ap (λ (o : Output). file_name (t.o).stream (t.o).entry.domain (time_text (r.plan).start o.entry.time)) (sym opener) ∙ ap (λ (x : Frame). x.file) t.frame in
      subst (λ (name : List ℕ). IsTrue (is_store_name name)) file (output_taken t.o (known_output r run.sound (t.output).k t.o (t.output).entry (t.output).act))

  by_first : (n : ℕ) (f : Frame) → slice_get (frames_of r) n ≡ Some f → (b : Bool) → f.first ≡ b → IsTrue (is_store_name f.file)
  by_first n f is true first = first_taken n f is first
  by_first n f is false first =
      let w = opened_before r n f is first in
      subst (λ (name : List ℕ). IsTrue (is_store_name name)) w.file (first_taken w.m w.g w.is w.first)

  -- the file of each frame has such a name
  pub file_taken : (n : ℕ) (f : Frame) → slice_get (frames_of r) n ≡ Some f → IsTrue (is_store_name f.file)
  file_taken n f is = by_first n f is f.first refl
