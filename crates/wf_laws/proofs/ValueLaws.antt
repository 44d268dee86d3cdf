-- The laws of values and of lists of grids.
use Rattle.std.proofs.Common.{◌≡◌, ℕ, ◌+◌, ◌-◌, ◌*◌, ◌≤◌, List, [], ◌∷◌, ap, ◌∙◌, arith}
use Rattle.std.proofs.Math.Nat.{add-mul, mul_assoc}
use Rattle.std.proofs.lemmas.List.Elements.{All-head, All-tail}
use Rattle.std.specs.List.{All}
use Rattle.std.specs.Prelude.{pos, slice_index_or}
use Rattle.wf_model.specs.Numbers.{and_then, in_i32}
use Rattle.wf_model.specs.Plans.{nx, ny, nz}
use Rattle.wf_model.specs.Reads.{Read, reads_of}
use Rattle.wf_model.specs.Grids.{grid_from, level_list}
use Rattle.wf_laws.specs.Values.{ValueDependsOnItsReads, ListHasEachPointOnce, ListHasPointsInOrder, GridOfTheListIsTheGrid}
use Rattle.wf_laws.proofs.Expressions.{AllReads, number_of-same}
use Rattle.wf_laws.proofs.Listing.{length-listed, get_or-listed}

-- what holds of all reads, by recursion on them
AllReads-All : (P : Read → Type 0) (rs : List Read) → All P rs → AllReads P rs
AllReads-All P [] h = tt
AllReads-All P (r ∷ rs) h = (All-head P r rs h, AllReads-All P rs (All-tail P r rs h))

-- a value depends on its reads alone
pub depends_on_reads : ValueDependsOnItsReads
depends_on_reads m x s t h = ap (λ o. and_then o in_i32) (number_of-same m s t h.i h.j h.k h.step x (AllReads-All _ (reads_of x) h.reads))

-- a level's list has each point once
pub each_point_once : ListHasEachPointOnce
each_point_once plan d f g = length-listed (nz plan f) (ny plan d f) (nx plan d f) (g d f)

-- a place in order k, j, i, by planes and rows
place_is : (a b c ys xs : ℕ) → (a * ys + b) * xs + c ≡ a * (ys * xs) + (b * xs + c)
place_is a b c ys xs = omega (arith, add-mul (a * ys) b xs, mul_assoc a ys xs)

-- in order
pub in_order : ListHasPointsInOrder
in_order plan d f g k j i hk hj hi =
    ap (λ (m : ℕ). slice_index_or (level_list plan d f g) m (pos 0)) (place_is (k - 1) (j - 1) (i - 1) (ny plan d f) (nx plan d f))
    ∙ get_or-listed (nz plan f) (ny plan d f) (nx plan d f) (g d f) (k - 1) (j - 1) (i - 1) (omega (arith, hk.0, hk.1)) (omega (arith, hj.0, hj.1)) (omega (arith, hi.0, hi.1))
    ∙ (λ n. g d f (back k hk.0 n) (back j hj.0 n) (back i hi.0 n))
  where
    back : (a : ℕ) → 1 ≤ a → 1 + (a - 1) ≡ a
    back a h = omega arith

-- and gives the grid back
pub grid_back : GridOfTheListIsTheGrid
unfolding grid_from
grid_back plan d f g k j i hk hj hi = in_order plan d f g k j i hk hj hi
