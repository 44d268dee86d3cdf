-- One step of going through the frames of a run: the next output, its frame, and the files behind it.
use Rattle.std.proofs.Common.{◌≡◌, inl, inr, ℕ, zero, suc, ◌+◌, ◌-◌, ◌/◌, ◌%◌, ◌<◌, ◌≤◌, ◌==◌, ◌&&◌, if◌then◌else◌, cond, Bool, true, false, not, List, [], ◌∷◌, ◌++◌, length, take, drop, get_or, set, Some, None, refl, ap, sym, ◌∙◌, subst, append-nil, length-append, length-set, arith}
use Rattle.std.specs.Prelude.{slice_get, option_map}
use Rattle.std.proofs.Math.Nat.{mod-eq_of_lt, mod-le, mod-lt, mul-add-mod_self_left, mod_self}
use Rattle.std.proofs.Math.Seq.{drop-cons, get_or-append_seam}
use Rattle.std.proofs.lemmas.Bool.{eqb-true, eqb-false, eq-eqb, ne_eqb, cases_eq, and_from, and_left, and_right}
use Rattle.std.proofs.lemmas.List.{drop_all, length-take-le, get_or_append_left, get_or_default, get_or-set_same, get_or-set_other}
use Rattle.std.proofs.lemmas.List.Elements.{filter-append}
use Rattle.std.proofs.lemmas.List.Filters.{length-filter_both}
use Rattle.std.proofs.lemmas.Option.{slice_get_within}
use Rattle.wf_model.specs.declared.plan.Plan.{Plan}
use Rattle.wf_model.specs.declared.script.Act.{Act}
use Rattle.wf_model.specs.declared.script.Act.TheVariants.{Start, Force, Feedback, Table, Emit}
use Rattle.wf_model.specs.declared.script.Entry.{Entry}
use Rattle.wf_model.specs.declared.frame.Frame.{Frame}
use Rattle.wf_model.specs.Calendar.{time_text}
use Rattle.wf_model.specs.Frames.{Output, output_at, outputs_from, frame_for, frames_of}
use Rattle.wf_model.specs.Outcome.{RunData, script}
use Rattle.wf_model.specs.Script.{restart_stream}
use Rattle.wf_model.specs.Sound.{IsDomain}
use Rattle.wf_model.specs.Streams.{frames_per_file, file_name}
use Rattle.wf_stream.specs.declared.frames.StreamFile.{StreamFile}
use Rattle.wf_stream.specs.FrameCounts.{like_outputs, no_output, opener_in, IsFileOf, next_record, file_with, frame_in, IsKnownOutput, no_file, file_place, AreFilesOf, IsUnderWay}
use Rattle.wf_stream.proofs.FrameLaws.{frame_there, frame-of_output}

-- ---- lists and numbers

-- the first of what is left, behind what was taken
take-one_more : {A : Type 0} (xs : List A) (n : ℕ) (x : A) (rest : List A) → drop n xs ≡ x ∷ rest → take (n + 1) xs ≡ take n xs ++ x ∷ []
take-one_more [] zero x rest h = absurd (cc (h))
take-one_more [] (suc n) x rest h = absurd (cc (h))
take-one_more (y ∷ xs) zero x rest h = let w : y ≡ x = cc (h) in ap (λ (z : _). z ∷ []) w
take-one_more (y ∷ xs) (suc n) x rest h =
    let m : suc n + 1 ≡ suc (n + 1) = omega arith in
    rw m (ap (λ (ys : List _). y ∷ ys) (take-one_more xs n x rest h))

-- and what is left behind it
drop-one_more : {A : Type 0} (xs : List A) (n : ℕ) (x : A) (rest : List A) → drop n xs ≡ x ∷ rest → drop (n + 1) xs ≡ rest
drop-one_more [] zero x rest h = absurd (cc (h))
drop-one_more [] (suc n) x rest h = absurd (cc (h))
drop-one_more (y ∷ xs) zero x rest h = cc (h)
drop-one_more (y ∷ xs) (suc n) x rest h =
    let m : suc n + 1 ≡ suc (n + 1) = omega arith in
    rw m (drop-one_more xs n x rest h)

-- the first of what is left, by its place
slice_get-drop : {A : Type 0} (xs : List A) (n : ℕ) (x : A) (rest : List A) → drop n xs ≡ x ∷ rest → slice_get xs n ≡ Some x
slice_get-drop [] zero x rest h = absurd (cc (h))
slice_get-drop [] (suc n) x rest h = absurd (cc (h))
slice_get-drop (y ∷ xs) zero x rest h = let w : y ≡ x = cc (h) in ap (λ (z : _). Some z) w
slice_get-drop (y ∷ xs) (suc n) x rest h = slice_get-drop xs n x rest h

-- where nothing is left there is no element
slice_get-none : {A : Type 0} (xs : List A) (n : ℕ) → drop n xs ≡ [] → slice_get xs n ≡ None
slice_get-none [] zero h = refl
slice_get-none [] (suc n) h = refl
slice_get-none (y ∷ xs) zero h = absurd (cc (h))
slice_get-none (y ∷ xs) (suc n) h = slice_get-none xs n h

-- what is left by a number grows by one, until it is none
mod-one_more : (n k : ℕ) → 0 < k → ((n + 1) % k ≡ 0 → ⊥) → (n + 1) % k ≡ n % k + 1
mod-one_more n k some more =
    let r = n % k in
    let below : r < k = mod-lt n some in
    let same : (n + 1) % k ≡ (r + 1) % k = ap (λ (m : ℕ). m % k) (omega arith) ∙ mul-add-mod_self_left k (n / k) (r + 1) in
    elim (cases_eq (r + 1) k) [
      | inl e ↦ absurd (more (same ∙ ap (λ (m : ℕ). m % k) e ∙ mod_self k))
      | inr ne ↦ same ∙ mod-eq_of_lt (omega (arith, below, ne))
    ]

-- ---- the script

-- the outputs of an entry and of those behind it
outputs-drop : (es : List Entry) (n : ℕ) (d : Entry) → n < length es → outputs_from n (drop n es) ≡ output_at n (get_or es n d) (get_or es n d).act ++ outputs_from (n + 1) (drop (n + 1) es)
unfolding outputs_from
outputs-drop es n d within =
    let m : suc n ≡ n + 1 = omega arith in
    ap (outputs_from n) (drop-cons es n d within ∙ ap (λ (k : ℕ). get_or es n d ∷ drop k es) m)

-- an entry that is an output
pub outputs-found : (es : List Entry) (n s : ℕ) (d : Entry) → n < length es → (get_or es n d).act ≡ Emit s
    → outputs_from n (drop n es) ≡ record { place = n; stream = s; entry = get_or es n d } ∷ outputs_from (n + 1) (drop (n + 1) es)
outputs-found es n s d within act = outputs-drop es n d within ∙ ap (λ (a : Act). output_at n (get_or es n d) a ++ outputs_from (n + 1) (drop (n + 1) es)) act

-- what is no output
no_output-at : (n : ℕ) (e : Entry) (act : Act) → ((s : ℕ) → act ≡ Emit s → ⊥) → output_at n e act ≡ []
no_output-at n e Start none = refl
no_output-at n e Force none = refl
no_output-at n e Feedback none = refl
no_output-at n e (Table t) none = refl
no_output-at n e (Emit s) none = absurd (none s refl)

-- an entry that is none
pub outputs-passed : (es : List Entry) (n : ℕ) (d : Entry) → n < length es → ((s : ℕ) → (get_or es n d).act ≡ Emit s → ⊥) → outputs_from n (drop n es) ≡ outputs_from (n + 1) (drop (n + 1) es)
outputs-passed es n d within none = outputs-drop es n d within ∙ ap (λ (os : List Output). os ++ outputs_from (n + 1) (drop (n + 1) es)) (no_output-at n (get_or es n d) (get_or es n d).act none)

-- behind the last entry
pub outputs-end : (es : List Entry) (n : ℕ) → length es ≤ n → outputs_from n (drop n es) ≡ []
unfolding outputs_from
outputs-end es n past = ap (outputs_from n) (drop_all n es past)

-- ---- one file

module _ (plan : Plan) (os : List Output) (o : Output) where
  abbrev d : ℕ
  d = o.entry.domain

  abbrev like : List Output
  like = like_outputs d o.stream os

  -- the output is like itself
  like-more : like_outputs d o.stream (os ++ o ∷ []) ≡ like ++ o ∷ []
  like-more =
      let same : ((o.stream == o.stream) && (d == d)) ≡ true = and_from _ _ (eq-eqb o.stream o.stream refl) (eq-eqb d d refl) in
      filter-append (λ (q : Output). (o.stream == q.stream) && (d == q.entry.domain)) os (o ∷ [])
      ∙ ap (λ (b : Bool). like ++ cond b (o ∷ []) []) same

  -- another stream or another domain
  not_like : (e s : ℕ) → ((d ≡ e) × (o.stream ≡ s) → ⊥) → ((s == o.stream) && (e == d)) ≡ false
  not_like e s apart = elim (cases_eq s o.stream) [
    | inl same ↦ elim (cases_eq e d) [
      | inl here ↦ absurd (apart (sym here, sym same))
      | inr other ↦ and_right (s == o.stream) (e == d) (ne_eqb e d other)
    ]
    | inr other ↦ and_left (s == o.stream) (e == d) (ne_eqb s o.stream other)
  ]

  -- and like none of another stream or domain
  like-other : (e s : ℕ) → ((d ≡ e) × (o.stream ≡ s) → ⊥) → like_outputs e s (os ++ o ∷ []) ≡ like_outputs e s os
  like-other e s apart =
      let other : ((s == o.stream) && (e == d)) ≡ false = not_like e s apart in
      filter-append (λ (q : Output). (s == q.stream) && (e == q.entry.domain)) os (o ∷ [])
      ∙ ap (λ (b : Bool). like_outputs e s os ++ cond b (o ∷ []) []) other ∙ append-nil (like_outputs e s os)

  module _ (x : StreamFile) (is : IsFileOf plan os d o.stream x) (some : 0 < frames_per_file plan d o.stream) where
    abbrev per : ℕ
    per = frames_per_file plan d o.stream

    abbrev start_of : Output → List ℕ
    start_of p = time_text plan.start p.entry.time

    -- the time at which the file of the output was opened
    opened_time : (b : Bool) → (x.count % per == 0) ≡ b → start_of (get_or (like ++ o ∷ []) (length like - length like % per) o) ≡ (if b then start_of o else x.opened)
    opened_time true e =
        let none : length like % per ≡ 0 = ap (λ (n : ℕ). n % per) (sym is.count) ∙ eqb-true _ 0 e in
        let last : length like - length like % per ≡ length like = omega (arith, none) in
        ap start_of (ap (λ (k : ℕ). get_or (like ++ o ∷ []) k o) last ∙ get_or-append_seam like o [] o)
    opened_time false e =
        let rec : length like % per ≡ x.count % per = ap (λ (n : ℕ). n % per) (sym is.count) in
        let later : x.count % per ≡ 0 → ⊥ = eqb-false _ 0 e in
        let k = length like - length like % per in
        let left : length like % per ≡ 0 → ⊥ = λ none. later (sym rec ∙ none) in
        let within : k < length like = omega (arith, left, mod-le (length like) per) in
        ap start_of (get_or_append_left like (o ∷ []) o k within ∙ get_or_default like k o no_output within) ∙ sym (is.opened later)

    -- the frame of the output
    frame_is : frame_for plan os o ≡ frame_in plan (length os) x o
    frame_is =
        let rec : length like % per ≡ next_record plan x o = ap (λ (n : ℕ). n % per) (sym is.count) in
        let file = ap (file_name o.stream d) (opened_time (x.count % per == 0) refl) in
        ap (λ (n : ℕ). record (frame_for plan os o) { first = n == 0; rec = n }) rec
        ∙ ap (λ (name : List ℕ). record (frame_in plan (length os) x o) { file = name }) file

    -- the first of a file's frames stays the first while the file takes more
    same_opener : ((x.count + 1) % per ≡ 0 → ⊥) → get_or (like ++ o ∷ []) (length like - length like % per) o ≡ opener_in plan d o.stream (os ++ o ∷ [])
    same_opener more =
        let count = length like in
        let k = count - count % per in
        let next : (count + 1) % per ≡ count % per + 1 = mod-one_more count per some (λ none. more (ap (λ (n : ℕ). (n + 1) % per) is.count ∙ none)) in
        let long : length (like ++ o ∷ []) ≡ count + 1 = length-append like (o ∷ []) in
        let place : length (like ++ o ∷ []) - length (like ++ o ∷ []) % per ≡ k = ap (λ (n : ℕ). n - n % per) long ∙ omega (arith, next, mod-le count per) in
        sym (ap (λ (zs : List Output). get_or zs (length zs - length zs % per) no_output) like-more
        ∙ ap (λ (n : ℕ). get_or (like ++ o ∷ []) n no_output) place
        ∙ get_or_default (like ++ o ∷ []) k no_output o (omega (arith, long)))

    -- the file with the output
    file_is : IsFileOf plan (os ++ o ∷ []) d o.stream (file_with plan x o)
    file_is = record {
      count = omega (arith, is.count, ap length like-more, length-append like (o ∷ []));
      opened = λ more. sym (opened_time (x.count % per == 0) refl) ∙ ap start_of (same_opener more);
    }

  -- a file of another stream or domain
  other_file : (e s : ℕ) (x : StreamFile) → ((d ≡ e) × (o.stream ≡ s) → ⊥) → IsFileOf plan os e s x → IsFileOf plan (os ++ o ∷ []) e s x
  other_file e s x apart is =
      let same = sym (like-other e s apart) in
      record {
        count = is.count ∙ ap length same;
        opened = λ more. is.opened more ∙ ap (λ (zs : List Output). time_text plan.start (get_or zs (length zs - length zs % frames_per_file plan e s) no_output).entry.time) same;
      }

  -- ---- all files

  module _ (files : List StreamFile) (are : AreFilesOf plan os files) (known : IsKnownOutput plan o) (some : 0 < frames_per_file plan d o.stream) where
    abbrev pub at : ℕ
    at = file_place d o.stream

    abbrev pub own : StreamFile
    own = get_or files at no_file

    -- the file of the output
    own_is : IsFileOf plan os d o.stream own
    own_is = are.each d o.stream known.domain known.stream

    -- its place is one of the table
    at_within : at < length files
    at_within = omega (arith, are.count, known.domain, known.stream)

    -- the files behind the output
    abbrev pub files_more : List StreamFile
    files_more = set files at (file_with plan own o)

    -- the file of a domain and stream, by whether they are those of the output
    each-more : (e s : ℕ) → IsDomain plan e → s ≤ restart_stream → IsFileOf plan (os ++ o ∷ []) e s (get_or files_more (file_place e s) no_file)
    each-more e s is low = elim (cases_eq (file_place e s) at) [
      | inl same ↦
          let domain : d ≡ e = omega (arith, same, is, low, known.domain, known.stream) in
          let stream : o.stream ≡ s = omega (arith, same, is, low, known.domain, known.stream) in
          let here : get_or files_more (file_place e s) no_file ≡ file_with plan own o = ap (λ (k : ℕ). get_or files_more k no_file) same ∙ get_or-set_same files at (file_with plan own o) no_file at_within in
          subst (λ (f : ℕ). IsFileOf plan (os ++ o ∷ []) f s (get_or files_more (file_place e s) no_file)) domain
          (subst (λ (t : ℕ). IsFileOf plan (os ++ o ∷ []) d t (get_or files_more (file_place e s) no_file)) stream
          (subst (IsFileOf plan (os ++ o ∷ []) d o.stream) (sym here) (file_is own own_is some)))
      | inr other ↦
          let there : get_or files_more (file_place e s) no_file ≡ get_or files (file_place e s) no_file = get_or-set_other files at (file_place e s) (file_with plan own o) no_file other in
          let apart : (d ≡ e) × (o.stream ≡ s) → ⊥ = λ both. other (ap (λ (f : ℕ). file_place f s) (sym both.0) ∙ ap (file_place d) (sym both.1)) in
          subst (IsFileOf plan (os ++ o ∷ []) e s) (sym there) (other_file e s (get_or files (file_place e s) no_file) apart (are.each e s is low))
    ]

    pub are-more : AreFilesOf plan (os ++ o ∷ []) files_more
    are-more = record { count = length-set files at (file_with plan own o) ∙ are.count; each = each-more }

    -- the frame of the output
    pub own_frame : frame_for plan os o ≡ frame_in plan (length os) own o
    own_frame = frame_is own own_is some

    -- no more frames of one stream than of all
    pub own_count : own.count ≤ length os
    own_count =
        let is_like : Output → Bool = λ q. (o.stream == q.stream) && (d == q.entry.domain) in
        omega (arith, own_is.count, length-filter_both is_like (λ q. not (is_like q)) (λ q. refl) os)

-- ---- the run

module _ (r : RunData) (number place : ℕ) (files : List StreamFile) (under : IsUnderWay r number place files) where
  abbrev outs : List Output
  outs = outputs_from 0 (script r)

  -- where no output is left there is no frame
  pub no_frame-left : outputs_from place (drop place (script r)) ≡ [] → slice_get (frames_of r) number ≡ None
  no_frame-left none = frame-of_output r number ∙ ap (option_map (frame_for r.plan (take number outs))) (slice_get-none outs number (under.rest ∙ none))

  module _ (o : Output) (q : ℕ) (found : outputs_from place (drop place (script r)) ≡ o ∷ outputs_from (q + 1) (drop (q + 1) (script r))) (known : IsKnownOutput r.plan o) (some : 0 < frames_per_file r.plan o.entry.domain o.stream) where
    abbrev left : drop number outs ≡ o ∷ outputs_from (q + 1) (drop (q + 1) (script r))
    left = under.rest ∙ found

    output_at-number : slice_get outs number ≡ Some o
    output_at-number = slice_get-drop outs number o _ left

    taken : length (take number outs) ≡ number
    taken = length-take-le number outs (omega (arith, slice_get_within outs number o output_at-number))

    -- the next frame
    pub next_frame : slice_get (frames_of r) number ≡ Some (frame_in r.plan number (get_or files (file_place o.entry.domain o.stream) no_file) o)
    next_frame =
        frame_there r number o output_at-number
        ∙ ap (λ (f : Frame). Some f) (own_frame r.plan (take number outs) o files under.counted known some)
        ∙ ap (λ (n : ℕ). Some (frame_in r.plan n (get_or files (file_place o.entry.domain o.stream) no_file) o)) taken

    -- and what is known behind it
    pub under-more : place ≤ q → IsUnderWay r (number + 1) (q + 1) (files_more r.plan (take number outs) o files under.counted known some)
    under-more le = record {
      short = under.short;
      within = omega (arith, under.within, le);
      rest = drop-one_more outs number o _ left;
      counted = subst (λ (os : List Output). AreFilesOf r.plan os (files_more r.plan (take number outs) o files under.counted known some)) (sym (take-one_more outs number o _ left))
          (are-more r.plan (take number outs) o files under.counted known some);
    }

    -- its file had no more frames than the run
    pub count_below : (get_or files (file_place o.entry.domain o.stream) no_file).count ≤ number
    count_below = omega (arith, own_count r.plan (take number outs) o files under.counted known some, taken)
