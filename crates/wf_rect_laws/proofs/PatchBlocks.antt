-- Patches of a run are patches of blocks.
use Rattle.std.proofs.Common.{◌≡◌, ℕ, zero, suc, ◌+◌, ◌-◌, ◌*◌, ◌/◌, ◌%◌, ◌<◌, sym, arith}
use Rattle.std.proofs.Math.Nat.{mod-lt, mul_comm, div-lt_iff_lt-mul, mod-add-div'}
use Rattle.std.proofs.lemmas.Nat.{div-mul-add, mod-mul-add}
use Rattle.wf_model.specs.Plans.{domain_of, field_of, extra, nx, ny}
use Rattle.wf_model.specs.Patches.{block, own_box, is_own}
use Rattle.wf_laws.proofs.Bools.{and_left, and_right, and_both}
use Rattle.wf_laws.proofs.Owners.{each_owner}
use Rattle.wf_rect.proofs.Owning.{placed}
use Rattle.wf_rect_laws.specs.Patches.{columns, rows, PatchesGoRowByRow, EachPatchHasItsPlace}
use Rattle.wf_rect_laws.specs.Patches.{OwnBoxesAreBlocks, OwnPointsAreInPatches, OwnersAreAlike}
use Rattle.wf_rect_laws.proofs.BlockPoints.{block_has}

pub row_by_row : PatchesGoRowByRow
row_by_row layout column row in_x in_y = record {
  patch = placed layout.nproc_x layout.nproc_y column row in_x in_y;
  in_column = mod-mul-add row layout.nproc_x column in_x;
  in_row = div-mul-add row layout.nproc_x column in_x;
}

-- of a product that has a number below it the first factor is not 0
some_of : (a b p : ℕ) → p < a * b → 0 < a
some_of zero b p below = omega (arith, below)
some_of (suc a) b p below = omega arith

pub each_place : EachPatchHasItsPlace
each_place layout p below =
    let m : ℕ = layout.nproc_x in
    let some : 0 < m = some_of m layout.nproc_y p below in
    let whole : p % m + p / m * m ≡ p = mod-add-div' p m in
    let swap : m * layout.nproc_y ≡ layout.nproc_y * m = mul_comm m layout.nproc_y in
    record {
      column = mod-lt p some;
      row = (div-lt_iff_lt-mul some).1 (omega (arith, below, swap));
      number = omega (arith, whole);
    }

-- what is added is what is left
rest : (a b : ℕ) → a + b - a ≡ b
rest a b = omega arith

pub own_boxes : OwnBoxesAreBlocks
unfolding own_box
own_boxes plan layout d p f =
    let s = domain_of plan d in
    let x = rest (columns plan d) (extra (field_of plan f).stag_x s.periodic_x) in
    let y = rest (rows plan d) (extra (field_of plan f).stag_y s.periodic_y) in
    λ n. record {
      x = block (p % layout.nproc_x) layout.nproc_x (columns plan d) (x n);
      y = block (p / layout.nproc_x) layout.nproc_y (rows plan d) (y n);
    }

-- a point of a field is one of the length and the extra points past it
pub own_points : OwnPointsAreInPatches
unfolding is_own own_box
own_points plan layout d p f j i laid is patch in_y in_x =
    let at = each_place layout p patch in
    let x = block_has (p % layout.nproc_x) layout.nproc_x (columns plan d)
    (nx plan d f - columns plan d) i at.column (laid.room_x d is)
    (in_x.0, omega (arith, in_x.1)) in
    let y = block_has (p / layout.nproc_x) layout.nproc_y (rows plan d)
    (ny plan d f - rows plan d) j at.row (laid.room_y d is)
    (in_y.0, omega (arith, in_y.1)) in (
      λ h. record { in_x = x.0 (and_right _ _ h); in_y = y.0 (and_left _ _ h) },
      λ h. and_both _ _ (y.1 h.in_y) (x.1 h.in_x),
    )

pub owners : OwnersAreAlike
owners plan layout d p f j i laid is in_y in_x one =
    let own = each_owner plan layout d f j i laid is in_y in_x in
    let here = own_points plan layout d p f j i laid is one.below in_y in_x in
    sym (own.alone p one.below (here.1 one.passes))
