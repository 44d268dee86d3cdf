-- One layer of the walk: what is found in the operands is what is found in the expression.
use Rattle.std.proofs.Common.{◌≡◌, ◌∙◌, sym, ap, ap₂, refl, ℕ, List, [], ◌++◌, Bool, Option, Some, None}
use Rattle.std.specs.Prelude.{find}
use Rattle.std.specs.Option.{option_map, option_or}
use Rattle.std.proofs.lemmas.List.Folds.{find-append}
use Rattle.wf_model.specs.declared.expr.Expr.{Expr}
use Rattle.wf_model.specs.Reads.{Read, reads_of}
use Rattle.wf_plan_reads.specs.Regions.{first_of}

module _ (test : Read → Bool) where
  or_fields : (a b : Option Read) → option_map (λ (r : Read). r.field) (option_or a b) ≡ option_or (option_map (λ (r : Read). r.field) a) (option_map (λ (r : Read). r.field) b)
  or_fields None b = refl
  or_fields (Some r) b = refl

  first_of-append : (xs ys : List Read) → first_of test (xs ++ ys) ≡ option_or (first_of test xs) (first_of test ys)
  first_of-append xs ys = ap (option_map (λ (r : Read). r.field)) (find-append test xs ys) ∙ or_fields (find test xs) (find test ys)

  -- found in the first of two lists
  pub in_first : (xs ys zs : List Read) (found : Option ℕ) (field : ℕ) → zs ≡ xs ++ ys → found ≡ first_of test xs → found ≡ Some field → Some field ≡ first_of test zs
  in_first xs ys zs found field parts here some =
      ap (λ o. option_or o (first_of test ys)) (sym some ∙ here) ∙ sym (first_of-append xs ys) ∙ ap (first_of test) (sym parts)

  -- not found there, so in the second, if any
  pub in_second : (xs ys zs : List Read) (found result : Option ℕ) → zs ≡ xs ++ ys → found ≡ first_of test xs → found ≡ None → result ≡ first_of test ys → result ≡ first_of test zs
  in_second xs ys zs found result parts here none there =
      there ∙ ap (λ o. option_or o (first_of test ys)) (sym none ∙ here) ∙ sym (first_of-append xs ys) ∙ ap (first_of test) (sym parts)

  -- there are no reads
  pub in_none : (zs : List Read) → zs ≡ [] → None ≡ first_of test zs
  in_none zs none = ap (first_of test) (sym none)

  -- the reads are those of another list
  pub in_same : (xs zs : List Read) (result : Option ℕ) → zs ≡ xs → result ≡ first_of test xs → result ≡ first_of test zs
  in_same xs zs result same there = there ∙ ap (first_of test) (sym same)

  -- the reads of p and q, which are those of a and b
  pub pair_is : (p q a b : Expr) → p ≡ a → q ≡ b → reads_of p ++ reads_of q ≡ reads_of a ++ reads_of b
  pair_is p q a b ep eq = ap₂ (λ x y. reads_of x ++ reads_of y) ep eq
