-- A level's list in file shape: its own points, and its numbers.
use Rattle.std.proofs.Common.{◌≡◌, ℕ, ◌+◌, ◌-◌, ◌*◌, ◌≤◌, Bool, true, false, get_or, pos, ap, ◌∙◌, arith}
use Rattle.wf_model.specs.Plans.{domain_of, field_of, nx, ny, nz, extra, point_x, point_y}
use Rattle.wf_model.specs.Grids.{Grid, listed, grid_from}
use Rattle.wf_model.specs.Streams.{one_if, file_x, file_y, file_list}
use Rattle.wf_laws.proofs.Listing.{get_or-listed}
use Rattle.wf_laws.proofs.Places.{wrapped-back}
use Rattle.wf_restart_laws.specs.Filed.{FileListsHoldOwnPoints}
use Rattle.wf_restart_laws.proofs.GoAlike.{listed-same}

-- files hold each own point
extra_held : (s p : Bool) → extra s p ≤ one_if s
extra_held true true = omega arith
extra_held true false = omega arith
extra_held false true = omega arith
extra_held false false = omega arith

pub own_back : FileListsHoldOwnPoints
unfolding file_list grid_from
own_back plan d f g sound dom level =
    listed-same (nz plan f) (ny plan d f) (nx plan d f) (grid_from (file_y plan d f) (file_x plan d f) (listed (nz plan f) (file_y plan d f) (file_x plan d f) shape)) (g d f) (λ k j i a b c.
    let fy : ℕ = file_y plan d f in
    let fx : ℕ = file_x plan d f in
    let ey : extra (field_of plan f).stag_y (domain_of plan d).periodic_y ≤ one_if (field_of plan f).stag_y = extra_held (field_of plan f).stag_y (domain_of plan d).periodic_y in
    let ex : extra (field_of plan f).stag_x (domain_of plan d).periodic_x ≤ one_if (field_of plan f).stag_x = extra_held (field_of plan f).stag_x (domain_of plan d).periodic_x in
    ap (λ n. get_or (listed (nz plan f) fy fx shape) n (pos 0)) (place (k - 1) (j - 1) (i - 1) fy fx)
    ∙ get_or-listed (nz plan f) fy fx shape (k - 1) (j - 1) (i - 1) (omega (arith, a.0, a.1)) (omega (arith, b.0, b.1, ey)) (omega (arith, c.0, c.1, ex))
    ∙ (λ n. shape (up_again k a.0 n) (up_again j b.0 n) (up_again i c.0 n))
    ∙ (λ n. g d f k (wrapped-back (domain_of plan d).periodic_y (ny plan d f) j b.0 b.1 n) (wrapped-back (domain_of plan d).periodic_x (nx plan d f) i c.0 c.1 n)))
  where
    shape : Grid
    shape = λ k j i. g d f k (point_y plan d f (pos j)) (point_x plan d f (pos i))

    place : (k j i fy fx : ℕ) → (k * fy + j) * fx + i ≡ k * (fy * fx) + (j * fx + i)
    place k j i fy fx = grind arith

    up_again : (n : ℕ) → 1 ≤ n → 1 + (n - 1) ≡ n
    up_again n h = omega arith
