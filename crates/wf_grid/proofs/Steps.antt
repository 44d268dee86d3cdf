-- One turn more of items or steps that go on until one overflows.
use Rattle.std.proofs.Common.{◌≡◌, ℕ, suc, ◌+◌, ◌-◌, ◌<◌, ◌≤◌, List, ◌∷◌, length, sym, ap, ◌∙◌, arith, Some, None}
use Rattle.std.proofs.lemmas.List.FromFn.{length-map-range_with_len, get_or-map-range_with_len}
use Rattle.std.specs.Prelude.{ℤ, Option}
use Rattle.std.specs.List.{range_with_len}
use Rattle.wf_model.specs.declared.plan.Plan.{Plan}
use Rattle.wf_model.specs.declared.point.Point.{Point}
use Rattle.wf_model.specs.Plans.{nx, ny, nz}
use Rattle.wf_model.specs.Value.{Answers}
use Rattle.wf_model.specs.Grids.{Grids, level_list, listed}
use Rattle.wf_model.specs.Changes.{Change, changed}
use Rattle.wf_model.specs.Outcome.{no_list}
use Rattle.wf_grid.specs.Levels.{AreLists, grids_of, lists_of}
use Rattle.wf_grid.specs.Stepped.{Left, and_on, left_by, left_by_item, lists_after, item_change, item_point}
use Rattle.wf_grid.proofs.Cells.{cells, length-cells}

module _ (f : ℕ → List (List ℤ) → Left) (n len : ℕ) (lists new : List (List ℤ)) (whole : Left) where
  -- the numbers from n on, if there is one
  more : n < len → range_with_len n (len - n) ≡ n ∷ range_with_len (n + 1) (len - (n + 1))
  more h = let e : len - n ≡ suc (len - (n + 1)) = omega arith in ap (range_with_len n) e

  -- the first of them
  opened : n < len → left_by f (range_with_len n (len - n)) lists ≡ whole → new ≡ (f n lists).lists → and_on (f n lists).point new (left_by f (range_with_len (n + 1) (len - (n + 1)))) ≡ whole
  unfolding left_by
  opened h e is = (λ i. and_on (f n lists).point (is i) (left_by f (range_with_len (n + 1) (len - (n + 1))))) ∙ sym (ap (λ (ns : List ℕ). left_by f ns lists) (more h)) ∙ e

  -- nothing overflowed
  pub goes_on : n < len → left_by f (range_with_len n (len - n)) lists ≡ whole → None ≡ (f n lists).point → new ≡ (f n lists).lists → left_by f (range_with_len (n + 1) (len - (n + 1))) new ≡ whole
  goes_on h e none is = ap (λ (o : Option Point). and_on o new (left_by f (range_with_len (n + 1) (len - (n + 1))))) none ∙ opened h e is

  -- a point overflowed
  pub stops : (p : Point) → n < len → left_by f (range_with_len n (len - n)) lists ≡ whole → Some p ≡ (f n lists).point → new ≡ (f n lists).lists → record { point = Some p; lists = new } ≡ whole
  stops p h e some is = ap (λ (o : Option Point). and_on o new (left_by f (range_with_len (n + 1) (len - (n + 1))))) some ∙ opened h e is

  -- all are done
  pub ends : len ≤ n → left_by f (range_with_len n (len - n)) lists ≡ whole → record { point = None; lists = lists } ≡ whole
  unfolding left_by
  ends h e = let z : len - n ≡ 0 = omega arith in sym (ap (λ (k : ℕ). left_by f (range_with_len n k) lists) z) ∙ e

-- the lists of grids are lists of the domain
pub lists_of_are : (plan : Plan) (d : ℕ) (lists : List (List ℤ)) (g : Grids) → AreLists plan d lists → AreLists plan d (lists_of plan d g)
unfolding lists_of listed cells
lists_of_are plan d lists g are = record {
  domain = are.domain;
  wide = are.wide;
  high = are.high;
  levels = length-map-range_with_len (λ f. level_list plan d f g) 0 (length plan.fields);
  each = λ f h. ap length (get_or-map-range_with_len (λ f. level_list plan d f g) 0 (length plan.fields) f f no_list h (omega arith)) ∙ length-cells (g d f) (nz plan f) (ny plan d f) (nx plan d f);
}

-- and so are the lists after a change
after_are : (plan : Plan) (d : ℕ) (c : Change) (lists : List (List ℤ)) (p : Option Point) → AreLists plan d lists → AreLists plan d (lists_after plan d c lists p)
after_are plan d c lists None are = lists_of_are plan d lists (changed c (grids_of plan d lists)) are
after_are plan d c lists (Some p) are = are

pub item_are : (plan : Plan) (m : Answers) (d step n : ℕ) (lists : List (List ℤ)) → AreLists plan d lists → AreLists plan d (left_by_item plan m d step n lists).lists
unfolding left_by_item
item_are plan m d step n lists are = after_are plan d (item_change plan m d lists step n) lists (item_point plan m d lists step n) are
