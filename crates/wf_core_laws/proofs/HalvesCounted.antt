-- The number of halves before a place is the count of a domain's halves that stand before it.
use Rattle.std.proofs.Common.{◌≡◌, ℕ, zero, suc, ◌+◌, ◌≤◌, nat_lt, cond, Bool, true, false, List, [], ◌∷◌, length, map, length-append, refl, ap, sym, ◌∙◌, arith}
use Rattle.std.specs.Prelude.{filter}
use Rattle.std.proofs.lemmas.Bool.{lt-ltb, le-ltb}
use Rattle.std.proofs.lemmas.List.Elements.{filter-append}
use Rattle.wf_model.specs.declared.plan.Plan.{Plan}
use Rattle.wf_model.specs.declared.script.Entry.{Entry}
use Rattle.wf_model.specs.Outcome.{script}
use Rattle.wf_model.specs.Halves.{Half, Due, act_halves, halves_of}
use Rattle.wf_model.specs.Front.{halves_in}
use Rattle.wf_core_laws.specs.Front.{HalvesBeforeAreCounted}
use Rattle.wf_core_laws.proofs.Places.{due_here, halves_here, halves_from}

-- the halves of one entry stand all before a place, or none does
count_here : (n m : ℕ) (e : Entry) (b : Bool) → nat_lt n m ≡ b → (hs : List Half) → length (filter (λ (x : Due). nat_lt x.place m) (map (due_here n e) hs)) ≡ cond b (length hs) 0
count_here n m e true is [] = refl
count_here n m e false is [] = refl
count_here n m e true is (h ∷ hs) =
    let rest = count_here n m e true is hs in
    let kept : List Due = filter (λ (x : Due). nat_lt x.place m) (map (due_here n e) hs) in
    ap (λ (b : Bool). length (cond b (due_here n e h ∷ kept) kept)) is ∙ omega (arith, rest)
count_here n m e false is (h ∷ hs) =
    let kept : List Due = filter (λ (x : Due). nat_lt x.place m) (map (due_here n e) hs) in
    ap (λ (b : Bool). length (cond b (due_here n e h ∷ kept) kept)) is ∙ count_here n m e false is hs

module _ (plan : Plan) (d : ℕ) where
  abbrev before : ℕ → Due → Bool
  before m x = nat_lt x.place m

  -- the halves of an entry and of those after it
  count_both : (e : Entry) (es : List Entry) (n m : ℕ) → length (filter (before m) (halves_from plan d n (e ∷ es)))
      ≡ length (filter (before m) (halves_here plan d n e)) + length (filter (before m) (halves_from plan d (n + 1) es))
  count_both e es n m =
      ap (length) (filter-append (before m) (halves_here plan d n e) (halves_from plan d (n + 1) es))
      ∙ length-append (filter (before m) (halves_here plan d n e)) (filter (before m) (halves_from plan d (n + 1) es))

  -- no half of later entries stands before
  none_before : (es : List Entry) (n m : ℕ) → m ≤ n → length (filter (before m) (halves_from plan d n es)) ≡ 0
  none_before [] n m h = refl
  none_before (e ∷ es) n m h =
      let here = count_here n m e false (le-ltb n m h) (act_halves plan d e e.act) in
      omega (arith, count_both e es n m, here, none_before es (n + 1) m (omega (arith, h)))

  count_from : (es : List Entry) (n k : ℕ) → length (filter (before (n + k)) (halves_from plan d n es)) ≡ halves_in plan d es k
  unfolding halves_in
  count_from [] n k = refl
  count_from (e ∷ es) n zero = none_before (e ∷ es) n (n + 0) (omega arith)
  count_from (e ∷ es) n (suc k) =
      let here = count_here n (n + suc k) e true (lt-ltb n (n + suc k) (omega arith)) (act_halves plan d e e.act) in
      let same : n + 1 + k ≡ n + suc k = omega arith in
      let rest = ap (λ (m : ℕ). length (filter (before m) (halves_from plan d (n + 1) es))) (sym same) ∙ count_from es (n + 1) k in
      omega (arith, count_both e es n (n + suc k), here, rest)

-- the law on the count of halves
pub halves_before_are_counted : HalvesBeforeAreCounted
unfolding halves_of
halves_before_are_counted r d n =
    sym (count_from r.plan d (script r) 0 n) ∙ ap (λ (m : ℕ). length (filter (λ (x : Due). nat_lt x.place m) (halves_from r.plan d 0 (script r)))) (omega arith)
