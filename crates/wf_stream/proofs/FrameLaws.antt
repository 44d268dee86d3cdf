-- The frames of a run by their number: of which entry of the script each is, and the record of which file.
use Rattle.std.proofs.Common.{◌≡◌, inl, inr, ℕ, zero, suc, ◌+◌, ◌-◌, ◌*◌, ◌/◌, ◌%◌, ◌<◌, ◌≤◌, ◌==◌, ◌&&◌, nat_lt, cond, Bool, true, false, List, [], ◌∷◌, ◌++◌, length, take, get_or, Option, Some, None, refl, ap, sym, ◌∙◌, subst, append_assoc, append-nil, length-append, arith}
use Rattle.std.specs.Prelude.{slice_get, filter, option_map, IsFalse}
use Rattle.std.proofs.Math.Nat.{mul-mod_right, mod-zero, mod-le}
use Rattle.std.proofs.Math.Seq.{get_or-append_seam}
use Rattle.std.proofs.lemmas.Bool.{lt-ltb, le-ltb, eqb-true, eqb-false, eq-eqb, cases_lt, and_parts}
use Rattle.std.proofs.lemmas.List.{length-take-le, get_or_append_left}
use Rattle.std.proofs.lemmas.Option.{slice_get_within, slice_get-get_or, get_or_from_slice_get}
use Rattle.wf_model.specs.declared.plan.Plan.{Plan}
use Rattle.wf_model.specs.declared.script.Act.{Act}
use Rattle.wf_model.specs.declared.script.Act.TheVariants.{Start, Force, Feedback, Table, Emit}
use Rattle.wf_model.specs.declared.script.Entry.{Entry}
use Rattle.wf_model.specs.declared.frame.Frame.{Frame}
use Rattle.wf_model.specs.Calendar.{time_text}
use Rattle.wf_model.specs.Frames.{Output, output_at, outputs_from, is_like, frame_for, frames_from, frames_of, no_frame}
use Rattle.wf_model.specs.Outcome.{RunData, script, entry_at, no_entry}
use Rattle.wf_model.specs.Streams.{frames_per_file, file_name}

-- ---- lists

-- the one value of an optional value that was mapped
pub record MappedFrom {A B : Type 0} (f : A → B) (from : Option A) (y : B) : Type 0 where
  pub x : A
  pub is : from ≡ Some x
  pub gives : f x ≡ y

pub mapped_from : {A B : Type 0} (f : A → B) (o : Option A) (y : B) → option_map f o ≡ Some y → MappedFrom f o y
mapped_from f None y h = absurd (cc (h))
mapped_from f (Some x) y h = record { x = x; is = refl; gives = cc (h) }

-- a list behind another, read past its length
slice_get-behind : {A : Type 0} (front back more : List A) → slice_get (front ++ back) (length (front ++ more)) ≡ slice_get back (length more)
slice_get-behind [] back more = refl
slice_get-behind (x ∷ front) back more = slice_get-behind front back more

-- an element that is among the first n, in the whole list
slice_get-take : {A : Type 0} (xs : List A) (n k : ℕ) (x : A) → slice_get (take n xs) k ≡ Some x → (k < n) × (slice_get xs k ≡ Some x)
slice_get-take [] zero k x h = absurd (cc (h))
slice_get-take [] (suc n) k x h = absurd (cc (h))
slice_get-take (y ∷ xs) zero k x h = absurd (cc (h))
slice_get-take (y ∷ xs) (suc n) zero x h = (omega arith, h)
slice_get-take (y ∷ xs) (suc n) (suc k) x h = let t = slice_get-take xs n k x h in (omega (arith, t.0), t.1)

-- the first m of the first n
take-take-less : {A : Type 0} (xs : List A) (m n : ℕ) → m ≤ n → take m (take n xs) ≡ take m xs
take-take-less [] zero zero h = refl
take-take-less [] zero (suc n) h = refl
take-take-less [] (suc m) zero h = refl
take-take-less [] (suc m) (suc n) h = refl
take-take-less (x ∷ xs) zero zero h = refl
take-take-less (x ∷ xs) zero (suc n) h = refl
take-take-less (x ∷ xs) (suc m) zero h = absurd (omega (arith, h))
take-take-less (x ∷ xs) (suc m) (suc n) h = ap (λ (ys : List _). x ∷ ys) (take-take-less xs m n (omega (arith, h)))

-- the elements that pass, where they are the first ones
pub filter-first : {A : Type 0} (test : A → Bool) (xs : List A) (n : ℕ) → ((i : ℕ) (x : A) → slice_get xs i ≡ Some x → i < n → test x ≡ true) → ((i : ℕ) (x : A) → slice_get xs i ≡ Some x → n ≤ i → test x ≡ false) → filter test xs ≡ take n xs
filter-first test [] zero passes fails = refl
filter-first test [] (suc n) passes fails = refl
filter-first test (x ∷ xs) zero passes fails =
    ap (λ (b : Bool). cond b (x ∷ filter test xs) (filter test xs)) (fails 0 x refl (omega arith))
    ∙ filter-first test xs zero (λ i y is lt. absurd (omega (arith, lt))) (λ i y is le. fails (suc i) y is (omega arith))
filter-first test (x ∷ xs) (suc n) passes fails =
    ap (λ (b : Bool). cond b (x ∷ filter test xs) (filter test xs)) (passes 0 x refl (omega arith))
    ∙ ap (λ (ys : List _). x ∷ ys) (filter-first test xs n (λ i y is lt. passes (suc i) y is (omega (arith, lt))) (λ i y is le. fails (suc i) y is (omega (arith, le))))

-- an element that passes, with its place in the whole list
record PassesAt {A : Type 0} (test : A → Bool) (xs : List A) (k : ℕ) (x : A) : Type 0 where
  m : ℕ
  is : slice_get xs m ≡ Some x
  passes : test x ≡ true
  before : length (filter test (take m xs)) ≡ k

-- by whether the first one passes
one : {A : Type 0} (test : A → Bool) (y : A) (xs : List A) (k : ℕ) (x : A) (b : Bool) → test y ≡ b → ((j : ℕ) → slice_get (filter test xs) j ≡ Some x → PassesAt test xs j x) → slice_get (cond b (y ∷ filter test xs) (filter test xs)) k ≡ Some x → PassesAt test (y ∷ xs) k x
one test y xs k x false e next h =
    let t = next k h in
    record { m = suc t.m; is = t.is; passes = t.passes; before = ap (λ (b : Bool). length (cond b (y ∷ filter test (take t.m xs)) (filter test (take t.m xs)))) e ∙ t.before }
one test y xs zero x true e next h =
    let w : y ≡ x = cc (h) in
    record { m = 0; is = h; passes = ap test (sym w) ∙ e; before = refl }
one test y xs (suc k) x true e next h =
    let t = next k h in
    record { m = suc t.m; is = t.is; passes = t.passes; before = ap (λ (b : Bool). length (cond b (y ∷ filter test (take t.m xs)) (filter test (take t.m xs)))) e ∙ ap (λ n. suc n) t.before }

-- an element that passes stands in the whole list
passes_at : {A : Type 0} (test : A → Bool) (xs : List A) (k : ℕ) (x : A) → slice_get (filter test xs) k ≡ Some x → PassesAt test xs k x
passes_at test [] k x h = absurd (cc (h))
passes_at test (y ∷ xs) k x h = one test y xs k x (test y) refl (λ j t. passes_at test xs j x t) h

-- ---- outputs

-- the outputs of entries and of those behind them
pub outputs-append : (n : ℕ) (es fs : List Entry) → outputs_from n (es ++ fs) ≡ outputs_from n es ++ outputs_from (n + length es) fs
unfolding outputs_from
outputs-append n [] fs = ap (λ (m : ℕ). outputs_from m fs) (omega arith)
outputs-append n (e ∷ es) fs =
    let m : n + 1 + length es ≡ n + suc (length es) = omega arith in
    ap (λ (os : List Output). output_at n e e.act ++ os) (outputs-append (n + 1) es fs ∙ ap (λ (k : ℕ). outputs_from (n + 1) es ++ outputs_from k fs) m)
    ∙ sym (append_assoc (output_at n e e.act) (outputs_from (n + 1) es) (outputs_from (n + suc (length es)) fs))

-- outputs are counted upward along the script
pub outputs-rise : (es : List Entry) (n j k : ℕ) → j ≤ k → length (outputs_from n (take j es)) ≤ length (outputs_from n (take k es))
unfolding outputs_from
outputs-rise [] n zero zero h = omega arith
outputs-rise [] n zero (suc k) h = omega arith
outputs-rise [] n (suc j) zero h = omega arith
outputs-rise [] n (suc j) (suc k) h = omega arith
outputs-rise (e ∷ es) n zero k h = omega arith
outputs-rise (e ∷ es) n (suc j) zero h = absurd (omega (arith, h))
outputs-rise (e ∷ es) n (suc j) (suc k) h =
    omega (arith, outputs-rise es (n + 1) j k (omega (arith, h)), length-append (output_at n e e.act) (outputs_from (n + 1) (take j es)), length-append (output_at n e e.act) (outputs_from (n + 1) (take k es)))

-- an output of entries, the first of which stands at place n: the entry that it is of
pub record IsOutput (es : List Entry) (n i : ℕ) (o : Output) : Type 0 where
  pub k : ℕ
  pub place : o.place ≡ n + k
  pub entry : slice_get es k ≡ Some o.entry
  pub act : o.entry.act ≡ Emit o.stream
  pub number : i ≡ length (outputs_from n (take k es))

-- an output of later entries, where the first entry has none
later : (x : Entry) (es : List Entry) (n i : ℕ) (o : Output) → output_at n x x.act ≡ [] → IsOutput es (n + 1) i o → IsOutput (x ∷ es) n i o
unfolding outputs_from
later x es n i o none a = record {
  k = suc a.k;
  place = omega (arith, a.place);
  entry = a.entry;
  act = a.act;
  number = a.number ∙ ap (λ (os : List Output). length (os ++ outputs_from (n + 1) (take a.k es))) (sym none);
}

-- an output of an entry and those behind it, by what the entry does
by_act : (act : Act) (x : Entry) (es : List Entry) (n i : ℕ) (o : Output) → x.act ≡ act
    → ((m j : ℕ) → slice_get (outputs_from m es) j ≡ Some o → IsOutput es m j o)
    → slice_get (output_at n x act ++ outputs_from (n + 1) es) i ≡ Some o → IsOutput (x ∷ es) n i o
unfolding outputs_from
by_act Start x es n i o a next h = later x es n i o (ap (output_at n x) a) (next (n + 1) i h)
by_act Force x es n i o a next h = later x es n i o (ap (output_at n x) a) (next (n + 1) i h)
by_act Feedback x es n i o a next h = later x es n i o (ap (output_at n x) a) (next (n + 1) i h)
by_act (Table t) x es n i o a next h = later x es n i o (ap (output_at n x) a) (next (n + 1) i h)
by_act (Emit s) x es n zero o a next h =
    let p : Output = record { place = n; stream = s; entry = x } in
    let w : p ≡ o = cc (h) in
    subst (IsOutput (x ∷ es) n 0) w (record { k = 0; place = omega arith; entry = refl; act = a; number = refl })
by_act (Emit s) x es n (suc i) o a next h =
    let t = next (n + 1) i h in
    record {
      k = suc t.k;
      place = omega (arith, t.place);
      entry = t.entry;
      act = t.act;
      number = ap (λ (m : ℕ). suc m) t.number ∙ ap (λ (os : List Output). length (os ++ outputs_from (n + 1) (take t.k es))) (sym (ap (output_at n x) a));
    }

-- each output is of an entry
pub output-entry : (es : List Entry) (n i : ℕ) (o : Output) → slice_get (outputs_from n es) i ≡ Some o → IsOutput es n i o
unfolding outputs_from
output-entry [] n i o h = absurd (cc (h))
output-entry (x ∷ es) n i o h = by_act x.act x es n i o refl (λ m j is. output-entry es m j o is) h

-- each entry that is an output has its own, behind those of the entries before it
pub output-there : (es : List Entry) (n k : ℕ) (e : Entry) (s : ℕ) → slice_get es k ≡ Some e → e.act ≡ Emit s
    → slice_get (outputs_from n es) (length (outputs_from n (take k es))) ≡ Some (record { place = n + k; stream = s; entry = e })
unfolding outputs_from
output-there [] n k e s h a = absurd (cc (h))
output-there (x ∷ es) n zero e s h a =
    let w : e ≡ x = cc (h) in
    let first : output_at n x x.act ≡ record { place = n; stream = s; entry = e } ∷ [] = ap (λ (y : Entry). output_at n y y.act) (sym w) ∙ ap (output_at n e) a in
    ap (λ (os : List Output). slice_get (os ++ outputs_from (n + 1) es) 0) first ∙ ap (λ (m : ℕ). Some (record { place = m; stream = s; entry = e })) (omega arith)
output-there (x ∷ es) n (suc k) e s h a =
    slice_get-behind (output_at n x x.act) (outputs_from (n + 1) es) (outputs_from (n + 1) (take k es))
    ∙ output-there es (n + 1) k e s h a
    ∙ ap (λ (m : ℕ). Some (record { place = m; stream = s; entry = e })) (omega arith)

-- ---- frames

-- the frame of each output, by those before it
pub frames-at : (plan : Plan) (before os : List Output) (n : ℕ) → slice_get (frames_from plan before os) n ≡ option_map (frame_for plan (before ++ take n os)) (slice_get os n)
unfolding frames_from
frames-at plan before [] n = refl
frames-at plan before (o ∷ os) zero = ap (λ (bs : List Output). Some (frame_for plan bs o)) (sym (append-nil before))
frames-at plan before (o ∷ os) (suc n) =
    frames-at plan (before ++ o ∷ []) os n
    ∙ ap (λ (bs : List Output). option_map (frame_for plan bs) (slice_get os n)) (append_assoc before (o ∷ []) (take n os))

-- what is left of a number by another is below it
mod_below : (n k : ℕ) → 0 < k → n % k < k
mod_below n k h = omega arith

-- and leaves a multiple
whole_files : (n k : ℕ) → (n - n % k) % k ≡ 0
whole_files n zero = omega (arith, mod-zero (n - n % zero), mod-zero n)
whole_files n (suc k) =
    let e : n - n % suc k ≡ suc k * (n / suc k) = omega arith in
    ap (λ (m : ℕ). m % suc k) e ∙ mul-mod_right (suc k) (n / suc k)

-- outputs that are like one are like another of its stream and domain
same_like : (o p : Output) (os : List Output) → o.stream ≡ p.stream → o.entry.domain ≡ p.entry.domain → length (filter (is_like p) os) ≡ length (filter (is_like o) os)
same_like o p os stream domain =
    ap (λ (s : ℕ). length (filter (λ (q : Output). (s == q.stream) && (p.entry.domain == q.entry.domain)) os)) (sym stream)
    ∙ ap (λ (d : ℕ). length (filter (λ (q : Output). (o.stream == q.stream) && (d == q.entry.domain)) os)) (sym domain)

-- behind all others stands the last one
last_one : (os : List Output) (o : Output) (rec : ℕ) → rec ≡ 0 → get_or (os ++ o ∷ []) (length os - rec) o ≡ o
last_one os o rec h =
    let e : length os - rec ≡ length os = omega (arith, h) in
    ap (λ (k : ℕ). get_or (os ++ o ∷ []) k o) e ∙ get_or-append_seam os o [] o

module _ (r : RunData) where
  -- all outputs of the run
  abbrev pub outputs_of : List Output
  outputs_of = outputs_from 0 (script r)

  -- the frame of a number is that of the output of this number
  pub frame-of_output : (n : ℕ) → slice_get (frames_of r) n ≡ option_map (frame_for r.plan (take n outputs_of)) (slice_get outputs_of n)
  unfolding frames_of
  frame-of_output n = frames-at r.plan [] outputs_of n

  -- a frame of the run, with its output
  pub record IsFrame (n : ℕ) (f : Frame) : Type 0 where
    pub o : Output
    pub is : slice_get outputs_of n ≡ Some o
    pub frame : frame_for r.plan (take n outputs_of) o ≡ f
    pub output : IsOutput (script r) 0 n o

  -- each frame is of an output
  pub is_frame : (n : ℕ) (f : Frame) → slice_get (frames_of r) n ≡ Some f → IsFrame n f
  is_frame n f h =
      let m = mapped_from (frame_for r.plan (take n outputs_of)) (slice_get outputs_of n) f (sym (frame-of_output n) ∙ h) in
      record { o = m.x; is = m.is; frame = m.gives; output = output-entry (script r) 0 n m.x m.is }

  -- each output has its frame
  pub frame_there : (n : ℕ) (o : Output) → slice_get outputs_of n ≡ Some o → slice_get (frames_of r) n ≡ Some (frame_for r.plan (take n outputs_of) o)
  frame_there n o h = frame-of_output n ∙ ap (option_map (frame_for r.plan (take n outputs_of))) h

  -- frames are numbered in order
  pub frame_number : (n : ℕ) (f : Frame) → slice_get (frames_of r) n ≡ Some f → f.number ≡ n
  frame_number n f h =
      let t = is_frame n f h in
      ap (λ (g : Frame). g.number) (sym t.frame) ∙ length-take-le n outputs_of (omega (arith, slice_get_within outputs_of n t.o t.is))

  -- the entry of the script that a frame is of
  pub record HasEntry (f : Frame) : Type 0 where
    pub within : f.place < length (script r)
    pub act : (entry_at r f.place).act ≡ Emit f.stream
    pub domain : (entry_at r f.place).domain ≡ f.domain
    pub time : time_text (r.plan).start (entry_at r f.place).time ≡ f.time

  pub frame_entry : (n : ℕ) (f : Frame) → slice_get (frames_of r) n ≡ Some f → HasEntry f
  unfolding entry_at
  frame_entry n f h =
      let t = is_frame n f h in
      let place : (t.o).place ≡ (t.output).k = omega (arith, (t.output).place) in
      let entry : slice_get (script r) (t.o).place ≡ Some (t.o).entry = ap (slice_get (script r)) place ∙ (t.output).entry in
      let at : get_or (script r) (t.o).place no_entry ≡ (t.o).entry = get_or_from_slice_get (script r) (t.o).place (t.o).entry no_entry entry in
      subst HasEntry t.frame (record {
        within = slice_get_within (script r) (t.o).place (t.o).entry entry;
        act = ap (λ (e : Entry). e.act) at ∙ (t.output).act;
        domain = ap (λ (e : Entry). e.domain) at;
        time = ap (λ (e : Entry). time_text (r.plan).start e.time) at;
      })

  -- the number of a frame is how many outputs stand before its place
  pub number_before : (n : ℕ) (f : Frame) → slice_get (frames_of r) n ≡ Some f → n ≡ length (outputs_from 0 (take f.place (script r)))
  number_before n f h =
      let t = is_frame n f h in
      let place : (t.output).k ≡ f.place = omega (arith, (t.output).place, ap (λ (g : Frame). g.place) t.frame) in
      (t.output).number ∙ ap (λ (k : ℕ). length (outputs_from 0 (take k (script r)))) place

  -- frames stand in script order
  pub places_ascend : (m n : ℕ) (f g : Frame) → slice_get (frames_of r) m ≡ Some f → slice_get (frames_of r) n ≡ Some g → m < n → f.place < g.place
  places_ascend m n f g fs gs lt = elim (cases_lt f.place g.place) [
    | inl w ↦ w
    | inr w ↦ absurd (omega (arith, outputs-rise (script r) 0 g.place f.place w, number_before m f fs, number_before n g gs, lt))
  ]

  -- a number below that of a frame is that of a frame
  pub frame_below : (m n : ℕ) (g : Frame) → slice_get (frames_of r) n ≡ Some g → m ≤ n → slice_get (frames_of r) m ≡ Some (get_or (frames_of r) m no_frame)
  frame_below m n g gs le = slice_get-get_or (frames_of r) m no_frame (omega (arith, slice_get_within (frames_of r) n g gs, le))

  -- the frames from a number on stand behind a place, where the first of them does
  pub frames_behind : (n p : ℕ) → ((f : Frame) → slice_get (frames_of r) n ≡ Some f → p ≤ f.place) → (m : ℕ) (f : Frame) → n ≤ m → slice_get (frames_of r) m ≡ Some f → p ≤ f.place
  frames_behind n p next m f le is =
      let at = frame_below n m f is le in
      let first = get_or (frames_of r) n no_frame in
      let least : p ≤ first.place = next first at in
      elim (cases_lt n m) [
        | inl lt ↦ omega (arith, places_ascend n m first f at is lt, least)
        | inr ge ↦
            let same : m ≡ n = omega (arith, ge, le) in
            next f (ap (slice_get (frames_of r)) (sym same) ∙ is)
      ]

  -- the frames before a place, where the first n stand before it and the next does not
  pub frames_before : (n p : ℕ) → ((m : ℕ) (f : Frame) → m < n → slice_get (frames_of r) m ≡ Some f → f.place < p) → ((f : Frame) → slice_get (frames_of r) n ≡ Some f → p ≤ f.place)
      → filter (λ (f : Frame). nat_lt f.place p) (frames_of r) ≡ take n (frames_of r)
  frames_before n p before next = filter-first (λ (f : Frame). nat_lt f.place p) (frames_of r) n
      (λ i f is lt. lt-ltb f.place p (before i f lt is))
      (λ i f is le. le-ltb f.place p (frames_behind n p next i f le is))

  -- each emit has its frame, whose place it is
  pub emit_frame : (q s : ℕ) → q < length (script r) → (entry_at r q).act ≡ Emit s → (m : ℕ) × (f : Frame) × (slice_get (frames_of r) m ≡ Some f) × (f.place ≡ q) × (f.stream ≡ s)
  unfolding entry_at
  emit_frame q s within act =
      let e = get_or (script r) q no_entry in
      let entry : slice_get (script r) q ≡ Some e = slice_get-get_or (script r) q no_entry within in
      let m = length (outputs_from 0 (take q (script r))) in
      let o : Output = record { place = 0 + q; stream = s; entry = e } in
      (m, frame_for r.plan (take m outputs_of) o, frame_there m o (output-there (script r) 0 q e s entry act), omega arith, refl)

  -- the frames below a number stand before a place, where the last of them does
  pub all_before : (n q : ℕ) → n ≤ length (frames_of r) → ((m : ℕ) (f : Frame) → m + 1 ≡ n → slice_get (frames_of r) m ≡ Some f → f.place < q)
      → (m : ℕ) (f : Frame) → m < n → slice_get (frames_of r) m ≡ Some f → f.place < q
  all_before n q le last m f lt is =
      let end = n - 1 in
      let final = get_or (frames_of r) end no_frame in
      let at : slice_get (frames_of r) end ≡ Some final = slice_get-get_or (frames_of r) end no_frame (omega (arith, le, lt)) in
      let near : final.place < q = last end final (omega (arith, lt)) at in
      elim (cases_lt m end) [
        | inl w ↦ omega (arith, places_ascend m end f final is at w, near)
        | inr w ↦
            let same : m ≡ end = omega (arith, w, lt) in
            last m f (omega (arith, same, lt)) is
      ]

  -- where the frames below a number stand before a place, and the frame of that number behind it, it is no output
  pub no_emit_between : (n q : ℕ) → ((m : ℕ) (f : Frame) → m < n → slice_get (frames_of r) m ≡ Some f → f.place < q) → ((f : Frame) → slice_get (frames_of r) n ≡ Some f → q < f.place)
      → q < length (script r) → (s : ℕ) → (entry_at r q).act ≡ Emit s → ⊥
  no_emit_between n q before next within s act =
      let t = emit_frame q s within act in
      let m = t.0 in
      elim (cases_lt m n) [
        | inl lt ↦ omega (arith, before m t.1 lt t.2, t.3)
        | inr le ↦ omega (arith, frames_behind n (q + 1) (λ f is. omega (arith, next f is)) m t.1 le t.2, t.3)
      ]

  -- ---- files

  -- the outputs of the same stream and domain that stand before one
  abbrev pub like_before : ℕ → Output → List Output
  like_before n o = filter (is_like o) (take n outputs_of)

  -- how many frames a file of this output's stream and domain takes
  abbrev pub per_file : Output → ℕ
  per_file o = frames_per_file r.plan o.entry.domain o.stream

  -- the record of a frame is below what its file takes
  pub frame_record : (n : ℕ) (f : Frame) → slice_get (frames_of r) n ≡ Some f → 0 < frames_per_file r.plan f.domain f.stream → f.rec < frames_per_file r.plan f.domain f.stream
  frame_record n f h some =
      let t = is_frame n f h in
      let file : per_file t.o ≡ frames_per_file r.plan f.domain f.stream = ap (λ (g : Frame). frames_per_file r.plan g.domain g.stream) t.frame in
      let rec : length (like_before n t.o) % per_file t.o ≡ f.rec = ap (λ (g : Frame). g.rec) t.frame in
      omega (arith, mod_below (length (like_before n t.o)) (per_file t.o) (omega (arith, some, file)), rec, file)

  -- the output whose frame is the first in the file of another
  record IsOpener (n : ℕ) (o : Output) : Type 0 where
    m : ℕ
    p : Output
    before : m < n
    is : slice_get outputs_of m ≡ Some p
    stream : o.stream ≡ p.stream
    domain : o.entry.domain ≡ p.entry.domain
    opener : get_or (like_before n o ++ o ∷ []) (length (like_before n o) - length (like_before n o) % per_file o) o ≡ p
    first : length (like_before m p) % per_file p ≡ 0

  -- the file of an output that is not the first in it begins with one of the same stream and domain
  opener_of : (n : ℕ) (o : Output) → (length (like_before n o) % per_file o ≡ 0 → ⊥) → IsOpener n o
  opener_of n o some =
      let count = length (like_before n o) in
      let j = count - count % per_file o in
      let within : j < count = omega (arith, some, mod-le count (per_file o)) in
      let p = get_or (like_before n o) j o in
      let at = passes_at (is_like o) (take n outputs_of) j p (slice_get-get_or (like_before n o) j o within) in
      let here = slice_get-take outputs_of n at.m p at.is in
      let both = and_parts _ _ at.passes in
      let stream : o.stream ≡ p.stream = eqb-true _ _ both.0 in
      let domain : o.entry.domain ≡ p.entry.domain = eqb-true _ _ both.1 in
      let front : take at.m outputs_of ≡ take at.m (take n outputs_of) = sym (take-take-less outputs_of at.m n (omega (arith, here.0))) in
      let before : length (like_before at.m p) ≡ j = same_like o p (take at.m outputs_of) stream domain ∙ ap (λ (os : List Output). length (filter (is_like o) os)) front ∙ at.before in
      let file : per_file p ≡ per_file o = ap (λ (d : ℕ). frames_per_file r.plan d p.stream) (sym domain) ∙ ap (frames_per_file r.plan o.entry.domain) (sym stream) in
      record {
        m = at.m;
        p = p;
        before = here.0;
        is = here.1;
        stream = stream;
        domain = domain;
        opener = get_or_append_left (like_before n o) (o ∷ []) o j within;
        first = ap (λ (k : ℕ). k % per_file p) before ∙ ap (λ (k : ℕ). j % k) file ∙ whole_files count (per_file o);
      }

  -- the name of the file of an output that is opened by another
  abbrev named : Output → Output → List ℕ
  named o opener = file_name o.stream o.entry.domain (time_text (r.plan).start opener.entry.time)

  -- the file of the first has the first's own time
  same_file : (n : ℕ) (o : Output) (t : IsOpener n o) → (frame_for r.plan (take t.m outputs_of) t.p).file ≡ (frame_for r.plan (take n outputs_of) o).file
  same_file n o t =
      ap (named t.p) (last_one (like_before t.m t.p) t.p _ t.first)
      ∙ ap (λ (d : ℕ). file_name (t.p).stream d (time_text (r.plan).start (t.p).entry.time)) (sym t.domain)
      ∙ ap (λ (s : ℕ). file_name s o.entry.domain (time_text (r.plan).start (t.p).entry.time)) (sym t.stream)
      ∙ ap (named o) (sym t.opener)

  -- an earlier frame of the same file, which is the first in it
  pub record IsOpened (n : ℕ) (f : Frame) : Type 0 where
    pub m : ℕ
    pub g : Frame
    pub before : m < n
    pub is : slice_get (frames_of r) m ≡ Some g
    pub file : g.file ≡ f.file
    pub first : g.first ≡ true

  -- where a frame is not the first in its file, an earlier one opened it
  pub opened_before : (n : ℕ) (f : Frame) → slice_get (frames_of r) n ≡ Some f → IsFalse f.first → IsOpened n f
  opened_before n f h other =
      let t = is_frame n f h in
      let some : length (like_before n t.o) % per_file t.o ≡ 0 → ⊥ = eqb-false _ 0 (ap (λ (x : Frame). x.first) t.frame ∙ other) in
      let w = opener_of n t.o some in
      record {
        m = w.m;
        g = frame_for r.plan (take w.m outputs_of) w.p;
        before = w.before;
        is = frame_there w.m w.p w.is;
        file = same_file n t.o w ∙ ap (λ (x : Frame). x.file) t.frame;
        first = eq-eqb _ _ w.first;
      }
