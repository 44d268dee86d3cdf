-- The lists of a domain's levels, and the grids that they stand for.
use Rattle.std.proofs.Common.{◌≡◌, ℕ, ◌+◌, ◌-◌, ◌*◌, ◌<◌, List, map, length, get_or, refl, sym, ap, subst, ◌∙◌, arith}
use Rattle.std.proofs.lemmas.Nat.{mul-add-lt}
use Rattle.std.proofs.lemmas.List.FromFn.{length-map-range_with_len, get_or-map-range_with_len}
use Rattle.std.specs.Prelude.{ℤ, pos}
use Rattle.wf_model.specs.declared.plan.Plan.{Plan}
use Rattle.wf_model.specs.Plans.{nx, ny, nz, levels_of}
use Rattle.wf_model.specs.Grids.{Grid, Grids, listed, grid_from, level_list}
use Rattle.wf_model.specs.Sound.{IsLevel}
use Rattle.wf_model.specs.Outcome.{no_list}
use Rattle.wf_grid.specs.Levels.{place_in, IsPlaceIn, grids_of, lists_of}
use Rattle.wf_grid.proofs.Cells.{cells, length-cells, get_or-cells, PointOf, point_of, same_list}

-- the place of a point lies in the list
pub place_below : (zs ys xs k j i : ℕ) → IsPlaceIn zs ys xs k j i → place_in ys xs k j i < zs * (ys * xs)
place_below zs ys xs k j i h =
    let row : (k - 1) * ys + (j - 1) < ys * zs = mul-add-lt (k - 1) ys (j - 1) zs (omega (arith, h.in_z.0, h.in_z.1)) (omega (arith, h.in_y.0, h.in_y.1)) in
    let all : ((k - 1) * ys + (j - 1)) * xs + (i - 1) < xs * (ys * zs) = mul-add-lt ((k - 1) * ys + (j - 1)) xs (i - 1) (ys * zs) row (omega (arith, h.in_x.0, h.in_x.1)) in
    let turned : xs * (ys * zs) ≡ zs * (ys * xs) = grind arith in
    omega (arith, all, turned)

-- a list that has each point's number at its place
list_is : (zs ys xs : ℕ) (g : Grid) (list : List ℤ) → length list ≡ zs * (ys * xs) → ((k j i : ℕ) → IsPlaceIn zs ys xs k j i → get_or list (place_in ys xs k j i) (pos 0) ≡ g k j i) → list ≡ listed zs ys xs g
unfolding listed cells
list_is zs ys xs g list l h =
    same_list list (cells g zs ys xs) (pos 0) (l ∙ sym (length-cells g zs ys xs))
    (λ q p. let at : PointOf zs ys xs q = point_of zs ys xs q (subst (λ (n : ℕ). q < n) l p) in
    ap (λ (n : ℕ). get_or list n (pos 0)) (sym at.is) ∙ h at.k at.j at.i at.inside ∙ sym (get_or-cells g zs ys xs (pos 0) at.k at.j at.i at.inside) ∙ ap (λ (n : ℕ). get_or (cells g zs ys xs) n (pos 0)) at.is)

module _ (plan : Plan) (d : ℕ) (lists : List (List ℤ)) where
  -- lists that have each point's number at its place
  pub lists_are : (g : Grids) → length lists ≡ length plan.fields → ((f : ℕ) → IsLevel plan f → length (get_or lists f no_list) ≡ nz plan f * (ny plan d f * nx plan d f)) →
      ((f k j i : ℕ) → IsLevel plan f → IsPlaceIn (nz plan f) (ny plan d f) (nx plan d f) k j i → get_or (get_or lists f no_list) (place_in (ny plan d f) (nx plan d f) k j i) (pos 0) ≡ g d f k j i) →
      lists ≡ lists_of plan d g
  unfolding lists_of
  lists_are g l each h =
      same_list lists (map (λ f. level_list plan d f g) (levels_of plan)) no_list (l ∙ sym (length-map-range_with_len (λ f. level_list plan d f g) 0 (length plan.fields)))
      (λ q p. let level : IsLevel plan q = subst (λ (n : ℕ). q < n) l p in
      list_is (nz plan q) (ny plan d q) (nx plan d q) (g d q) (get_or lists q no_list) (each q level) (λ k j i. h q k j i level)
      ∙ sym (get_or-map-range_with_len (λ f. level_list plan d f g) 0 (length plan.fields) q q no_list level (omega arith)))

  -- the number of a point of the lists
  pub number_in : (f k j i : ℕ) → get_or (get_or lists f no_list) (place_in (ny plan d f) (nx plan d f) k j i) (pos 0) ≡ grids_of plan d lists d f k j i
  unfolding grids_of grid_from
  number_in f k j i = refl
