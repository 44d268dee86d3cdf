-- A patch is a column and a row of patches.
use Rattle.std.proofs.Common.{◌≡◌, ℕ, ◌+◌, ◌-◌, ◌*◌, ◌/◌, ◌%◌, ◌<◌, ◌≤◌, sym, ap, subst, arith}
use Rattle.std.proofs.Math.Nat.{mod-lt, mul_comm, div-lt_iff_lt-mul, mod-add-div'}
use Rattle.std.proofs.lemmas.Nat.{rows, div-mul-add, mod-mul-add}
use Rattle.wf_rect.specs.Blocks.{HasPoint, IsTheOne}
use Rattle.wf_rect.specs.Owners.{IsInPatch, PointsHaveOneOwner}
use Rattle.wf_rect.proofs.BlockPlaces.{the_block_of_point}

-- the patch in a row and a column
pub placed : (w h x y : ℕ) → x < w → y < h → y * w + x < w * h
placed w h x y in_x in_y = grind (arith, rows)

-- the patch in the row and the column of a point is its owner
pub the_owner :
    (nx ny width height i j column row : ℕ) → IsTheOne nx (λ q. HasPoint q nx width i) column
    → IsTheOne ny (λ q. HasPoint q ny height j) row
    → IsTheOne (nx * ny) (λ q. IsInPatch nx ny width height q i j) (row * nx + column)
the_owner nx ny width height i j column row x y =
    let below : column < nx = x.below in
    let some : 0 < nx = omega arith in
    let is_x : (row * nx + column) % nx ≡ column = mod-mul-add row nx column below in
    let is_y : (row * nx + column) / nx ≡ row = div-mul-add row nx column below in
    record {
      below = placed nx ny column row below y.below;
      passes = record {
        in_x = subst (λ (q : ℕ). HasPoint q nx width i) (sym is_x) x.passes;
        in_y = subst (λ (q : ℕ). HasPoint q ny height j) (sym is_y) y.passes;
      };
      alone = λ q lt h.
          let in_x : q % nx ≡ column = x.alone (q % nx) (mod-lt q some) h.in_x in
          let up : q < ny * nx = omega (arith, mul_comm nx ny, lt) in
          let in_y : q / nx ≡ row = y.alone (q / nx) ((div-lt_iff_lt-mul some).1 up) h.in_y in
          let whole : q % nx + q / nx * nx ≡ q = mod-add-div' q nx in
          let same : q / nx * nx ≡ row * nx = ap (λ (k : ℕ). k * nx) in_y in
          omega (arith, whole, same, in_x);
    }

-- the patch in the row and the column that the quotients tell is the owner of a point
pub owner_is :
    (nx ny width height i j : ℕ) → 0 < nx → 0 < ny → (1 ≤ i) × (i ≤ width)
    → (1 ≤ j) × (j ≤ height)
    → IsTheOne (nx * ny) (λ q. IsInPatch nx ny width height q i j)
    ((j * ny - 1) / height * nx + (i * nx - 1) / width)
owner_is nx ny width height i j some_x some_y in_x in_y =
    let x = the_block_of_point nx width i some_x in_x in
    let y = the_block_of_point ny height j some_y in_y in
    the_owner nx ny width height i j _ _ x y

pub points_have_one_owner : PointsHaveOneOwner
points_have_one_owner nx ny width height i j some_x some_y in_x in_y =
    (_, owner_is nx ny width height i j some_x some_y in_x in_y)
