-- Variables of a file judged, kind by kind.
use Rattle.std.proofs.Common.{◌≡◌, ◌∙◌, sym, ap, refl, subst, ℕ, zero, suc, ◌+◌, ◌<◌, Bool, true, false, cond, List, [], ◌∷◌, ◌++◌, map, length, None, Result, Ok, Err, arith, add-zero}
use Rattle.std.specs.Prelude.{filter, IsOk, IsTrue, ◌||◌}
use Rattle.std.specs.List.{list_any, range_with_len}
use Rattle.std.proofs.Math.Bool.{or-false}
use Rattle.std.proofs.lemmas.Bool.{or_parts, or_right, or_left}
use Rattle.std.proofs.lemmas.List.{append-nil, map-append}
use Rattle.std.proofs.lemmas.List.Elements.{filter-append}
use Rattle.std.proofs.lemmas.List.Folds.{list_any-append}
use Rattle.wf_model.specs.declared.header.Header.{Header}
use Rattle.wf_model.specs.declared.plan.Plan.{Plan}
use Rattle.wf_model.specs.declared.cdf_error.SlabError.{SlabError}
use Rattle.wf_model.specs.declared.cdf_error.SlabError.TheVariants as slab
use Rattle.wf_model.specs.declared.plan_fault.InputKind.TheVariants as kind
use Rattle.wf_model.specs.InputOf.{Asked, slab_read, slabs_fault, is_no_variable, is_wrong_type, is_wrong_shape, is_truncated, times, level_asked, is_input, all_slabs}
use Rattle.wf_model.specs.Reading.{fault_if, first_fault}
use Rattle.wf_model.specs.Plans.{domain_of, field_of}
use Rattle.wf_stream.specs.declared.slabs.SlabFaults.{SlabFaults}
use Rattle.wf_stream.specs.Levels.{asked_in}
use Rattle.wf_stream.specs.Slabs.{with_slab, faults_of, slabs_up_to}
use Rattle.wf_stream.proofs.RowLemmas.{range-more}

-- ---- one variable more

abbrev Slab : Type 0
Slab = Result (List ℕ) SlabError

-- of a variable that has the fault
any_here : (p : Slab → Bool) (xs : List Slab) (x : Slab) → p x ≡ true → true ≡ list_any p (xs ++ x ∷ [])
any_here p xs x is = sym (list_any-append p xs (x ∷ []) ∙ or_right (list_any p xs) (list_any p (x ∷ [])) (or_left (p x) false is))

-- of one that has it not
any_not : (p : Slab → Bool) (xs : List Slab) (x : Slab) → p x ≡ false → list_any p xs ≡ list_any p (xs ++ x ∷ [])
any_not p xs x is =
    sym (list_any-append p xs (x ∷ []) ∙ ap (λ (b : Bool). list_any p xs || (b || false)) is ∙ or-false (list_any p xs))

same_faults : (a b c d e f g h : Bool) → a ≡ e → b ≡ f → c ≡ g → d ≡ h
    → (let x : SlabFaults = record { no_variable = a; wrong_type = b; wrong_shape = c; truncated = d } in x) ≡ record { no_variable = e; wrong_type = f; wrong_shape = g; truncated = h }
same_faults a b c d e f g h p q r s = λ i. record { no_variable = p i; wrong_type = q i; wrong_shape = r i; truncated = s i }

-- the faults with those of one variable more are those of all
pub one_more : (xs : List Slab) (x : Slab) → with_slab (faults_of xs) x ≡ faults_of (xs ++ x ∷ [])
one_more xs (Ok bs) =
    same_faults _ _ _ _ _ _ _ _ (any_not is_no_variable xs (Ok bs) refl) (any_not is_wrong_type xs (Ok bs) refl) (any_not is_wrong_shape xs (Ok bs) refl) (any_not is_truncated xs (Ok bs) refl)
one_more xs (Err slab.NoVariable) =
    let x : Slab = Err slab.NoVariable in
    same_faults _ _ _ _ _ _ _ _ (any_here is_no_variable xs x refl) (any_not is_wrong_type xs x refl) (any_not is_wrong_shape xs x refl) (any_not is_truncated xs x refl)
one_more xs (Err slab.WrongType) =
    let x : Slab = Err slab.WrongType in
    same_faults _ _ _ _ _ _ _ _ (any_not is_no_variable xs x refl) (any_here is_wrong_type xs x refl) (any_not is_wrong_shape xs x refl) (any_not is_truncated xs x refl)
one_more xs (Err slab.WrongShape) =
    let x : Slab = Err slab.WrongShape in
    same_faults _ _ _ _ _ _ _ _ (any_not is_no_variable xs x refl) (any_not is_wrong_type xs x refl) (any_here is_wrong_shape xs x refl) (any_not is_truncated xs x refl)
one_more xs (Err (slab.Truncated at)) =
    let x : Slab = Err (slab.Truncated at) in
    same_faults _ _ _ _ _ _ _ _ (any_not is_no_variable xs x refl) (any_not is_wrong_type xs x refl) (any_not is_wrong_shape xs x refl) (any_here is_truncated xs x refl)

-- ---- one level more

-- the name of a level's variable in an input file is the data name
pub asked_is : (plan : Plan) (d f : ℕ) → level_asked plan d 0 f ≡ asked_in (domain_of plan d) (field_of plan f)
asked_is plan d f = ap (λ (n : List ℕ). record { name = n; type = 4; shape = (asked_in (domain_of plan d) (field_of plan f)).shape }) (append-nil (field_of plan f).dname)

last_picked : {X : Type 0} (g : ℕ → X) (n : ℕ) (b : Bool) → map g (cond b (n ∷ []) []) ≡ cond b (g n ∷ []) []
last_picked g n true = refl
last_picked g n false = refl

-- one item more of those that are picked
picked-more : {X : Type 0} (g : ℕ → X) (p : ℕ → Bool) (n : ℕ)
    → map g (filter p (range_with_len 0 (n + 1))) ≡ map g (filter p (range_with_len 0 n)) ++ cond (p n) (g n ∷ []) []
picked-more {X} g p n =
    let z : 0 + n ≡ n = omega arith in
    ap (λ (r : List ℕ). map g (filter p r)) (range-more 0 n)
    ∙ ap (λ (k : ℕ). map g (filter p (range_with_len 0 n ++ k ∷ []))) z
    ∙ ap (λ (r : List ℕ). map g r) (filter-append p (range_with_len 0 n) (n ∷ []))
    ∙ map-append g (filter p (range_with_len 0 n)) (filter p (n ∷ []))
    ∙ ap (λ (r : List X). map g (filter p (range_with_len 0 n)) ++ r) (last_picked g n (p n))

asked_more : (read : Asked → Slab) (b : Bool) (xs : List Asked) (a : Asked)
    → cond b (with_slab (faults_of (map read xs)) (read a)) (faults_of (map read xs)) ≡ faults_of (map read (xs ++ cond b (a ∷ []) []))
asked_more read true xs a = one_more (map read xs) (read a) ∙ ap (λ (r : List Slab). faults_of r) (sym (map-append read xs (a ∷ [])))
asked_more read false xs a = ap (λ (r : List Asked). faults_of (map read r)) (sym (append-nil xs))

-- the faults with those of one level more are those of all these levels
pub level_more : (plan : Plan) (d n : ℕ) (bytes : List ℕ) (h : Header)
    → cond (is_input plan n) (with_slab (faults_of (slabs_up_to plan d n bytes h)) (slab_read bytes h (level_asked plan d 0 n))) (faults_of (slabs_up_to plan d n bytes h))
    ≡ faults_of (slabs_up_to plan d (n + 1) bytes h)
unfolding slabs_up_to
level_more plan d n bytes h =
    asked_more (slab_read bytes h) (is_input plan n) (times ∷ map (level_asked plan d 0) (filter (is_input plan) (range_with_len 0 n))) (level_asked plan d 0 n)
    ∙ ap (λ (r : List Asked). faults_of (map (slab_read bytes h) (times ∷ r))) (sym (picked-more (level_asked plan d 0) (is_input plan) n))

-- ---- no fault is found

no_fault : (a b c d : Bool) (k : ℕ)
    → first_fault (fault_if a kind.NoVariable ∷ fault_if b kind.WrongType ∷ fault_if c kind.WrongShape ∷ fault_if d (kind.Truncated k) ∷ []) ≡ None
    → (a ≡ false) × (b ≡ false) × (c ≡ false) × (d ≡ false)
no_fault true b c d k e = absurd (cc e)
no_fault false true c d k e = absurd (cc e)
no_fault false false true d k e = absurd (cc e)
no_fault false false false true k e = absurd (cc e)
no_fault false false false false k e = (refl, refl, refl, refl)

no_slab_fault : (x : Slab) → is_no_variable x ≡ false → is_wrong_type x ≡ false → is_wrong_shape x ≡ false → is_truncated x ≡ false → IsOk x
no_slab_fault (Ok bs) a b c d = refl
no_slab_fault (Err slab.NoVariable) a b c d = absurd (cc a)
no_slab_fault (Err slab.WrongType) a b c d = absurd (cc b)
no_slab_fault (Err slab.WrongShape) a b c d = absurd (cc c)
no_slab_fault (Err (slab.Truncated at)) a b c d = absurd (cc d)

module _ (p : Slab → Bool) (read : Asked → Slab) (g : ℕ → Asked) (t : ℕ → Bool) where
  none_behind : (a : ℕ) (rest : List ℕ) (b : Bool) → list_any p (map read (map g (cond b (a ∷ rest) rest))) ≡ false → list_any p (map read (map g rest)) ≡ false
  none_behind a rest true none = (or_parts (p (read (g a))) (list_any p (map read (map g rest))) none).1
  none_behind a rest false none = none

  none_first : (a : ℕ) (rest : List ℕ) (b : Bool) → b ≡ true → list_any p (map read (map g (cond b (a ∷ rest) rest))) ≡ false → p (read (g a)) ≡ false
  none_first a rest true is none = (or_parts (p (read (g a))) (list_any p (map read (map g rest))) none).0
  none_first a rest false is none = absurd (cc is)

  -- where no item that is picked has a fault, one that is picked has none
  none_there : (a n i : ℕ) → list_any p (map read (map g (filter t (range_with_len a n)))) ≡ false → i < n → t (a + i) ≡ true → p (read (g (a + i))) ≡ false
  none_there a zero i none lt is = absurd (omega arith)
  none_there a (suc n) zero none lt is =
      let z : a + 0 ≡ a = add-zero a in
      ap (λ (k : ℕ). p (read (g k))) z ∙ none_first a (filter t (range_with_len (a + 1) n)) (t a) (ap t (sym z) ∙ is) none
  none_there a (suc n) (suc i) none lt is =
      let e : a + suc i ≡ a + 1 + i = omega arith in
      ap (λ (k : ℕ). p (read (g k))) e
      ∙ none_there (a + 1) n i (none_behind a (filter t (range_with_len (a + 1) n)) (t a) none) (omega arith) (ap t (sym e) ∙ is)

-- the same of the variables of an input file
none_level : (p : Slab → Bool) (plan : Plan) (d : ℕ) (bytes : List ℕ) (h : Header) (f : ℕ)
    → list_any p (all_slabs plan d 0 (is_input plan) bytes h) ≡ false → f < length plan.fields → is_input plan f ≡ true
    → p (slab_read bytes h (level_asked plan d 0 f)) ≡ false
none_level p plan d bytes h f none lt is =
    let z : 0 + f ≡ f = omega arith in
    rw z at (none_there p (slab_read bytes h) (level_asked plan d 0) (is_input plan) 0 (length plan.fields) f
    (or_parts (p (slab_read bytes h times)) _ none).1 lt (ap (is_input plan) z ∙ is))

-- where no fault is found, the variable of a level that an input file gives is there
pub found_level : (plan : Plan) (d : ℕ) (bytes : List ℕ) (h : Header) (f : ℕ) → slabs_fault bytes (all_slabs plan d 0 (is_input plan) bytes h) ≡ None
    → f < length plan.fields → IsTrue (is_input plan f) → IsOk (slab_read bytes h (asked_in (domain_of plan d) (field_of plan f)))
found_level plan d bytes h f none lt is =
    let slabs : List Slab = all_slabs plan d 0 (is_input plan) bytes h in
    let parts = no_fault (list_any is_no_variable slabs) (list_any is_wrong_type slabs) (list_any is_wrong_shape slabs) (list_any is_truncated slabs) (length bytes) none in
    subst (λ (a : Asked). IsOk (slab_read bytes h a)) (asked_is plan d f)
    (no_slab_fault (slab_read bytes h (level_asked plan d 0 f))
    (none_level is_no_variable plan d bytes h f parts.0 lt is) (none_level is_wrong_type plan d bytes h f parts.1 lt is)
    (none_level is_wrong_shape plan d bytes h f parts.2 lt is) (none_level is_truncated plan d bytes h f parts.3 lt is))
