-- The greatest of numbers, one more at a time, and of two lists.
use Rattle.std.proofs.Common.{◌≡◌, ℕ, ◌+◌, ◌<◌, max, List, [], ◌∷◌, ◌++◌, length, map, take, get_or, sym, ap, ap₂, ◌∙◌, arith}
use Rattle.std.specs.Prelude.{fold}
use Rattle.std.proofs.lemmas.List.Sums.{fold_more}
use Rattle.std.proofs.lemmas.List.Folds.{fold-map}
use Rattle.wf_model.specs.declared.expr.Expr.{Expr}
use Rattle.wf_model.specs.Reads.{Read, greatest, reach, reads_of}
use Rattle.wf_margin.specs.Reaches.{reach_in}

fold_max : (d : ℕ) (ns : List ℕ) → fold max d ns ≡ max d (greatest ns)
fold_max d [] = omega arith
fold_max d (n ∷ ns) = omega (arith, fold_max (max d n) ns, fold_max (max 0 n) ns)

-- one more
pub greatest_more : {X : Type 0} (f : X → ℕ) (xs : List X) (i most n : ℕ) (x : X) → i < length xs → x ≡ get_or xs i x → n ≡ f x → most ≡ greatest (map f (take i xs))
    → max most n ≡ greatest (map f (take (i + 1) xs))
greatest_more f xs i most n x there read here before =
    ap₂ max (before ∙ fold-map max f 0 (take i xs)) (here ∙ ap f read) ∙ sym (fold_more (λ a y. max a (f y)) 0 xs i x there) ∙ sym (fold-map max f 0 (take (i + 1) xs))

-- of reads one behind the other
pub reach_append : (xs ys : List Read) → reach_in (xs ++ ys) ≡ max (reach_in xs) (reach_in ys)
reach_append [] ys = omega arith
reach_append (x ∷ xs) ys = omega (arith, fold_max (max 0 (reach x)) (map reach (xs ++ ys)), fold_max (max 0 (reach x)) (map reach xs), reach_append xs ys)

-- the reads of p and q, which are those of a and b
pub pair_is : (p q a b : Expr) → p ≡ a → q ≡ b → reads_of p ++ reads_of q ≡ reads_of a ++ reads_of b
pair_is p q a b ep eq = ap₂ (λ x y. reads_of x ++ reads_of y) ep eq
