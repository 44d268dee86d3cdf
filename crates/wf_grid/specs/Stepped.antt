-- What the items of the table make of a domain's lists, up to the first that overflows.
use Rattle.std.specs.Prelude.{ℕ, ◌+◌, List, [], ◌∷◌, length, ℤ, Option, Some, None, option_map}
use Rattle.std.specs.List.{range_with_len}
use Rattle.wf_model.specs.declared.plan.Plan.{Plan}
use Rattle.wf_model.specs.declared.point.Point.{Point}
use Rattle.wf_model.specs.declared.script.Act.TheVariants.{Table}
use Rattle.wf_model.specs.Plans.{item_of}
use Rattle.wf_model.specs.Value.{Answers}
use Rattle.wf_model.specs.Changes.{Change, changed, overflow_in, table_change}
use Rattle.wf_model.specs.Script.{entry}
use Rattle.wf_model.specs.Outcome.{point_of}
use Rattle.wf_grid.specs.Levels.{grids_of, lists_of}

-- the point that overflowed, if one did, and the lists then
pub record Left : Type 0 where
  pub point : Option Point
  pub lists : List (List ℤ)

-- what an item sets
abbrev pub item_change : Plan → Answers → ℕ → List (List ℤ) → ℕ → ℕ → Change
item_change plan m d lists step n =
    table_change plan m (grids_of plan d lists) d step (item_of plan n)

-- the lists after a change, or as they were where a point overflows
abbrev pub lists_after : Plan → ℕ → Change → List (List ℤ) → Option Point → List (List ℤ)
lists_after plan d c lists None = lists_of plan d (changed c (grids_of plan d lists))
lists_after plan d c lists (Some p) = lists

-- the point that overflows at an item
abbrev pub item_point : Plan → Answers → ℕ → List (List ℤ) → ℕ → ℕ → Option Point
item_point plan m d lists step n =
    option_map (point_of (item_change plan m d lists step n) (entry d step 0 (Table n)))
    (overflow_in plan (item_change plan m d lists step n))

-- after one item
unfoldable pub left_by_item : Plan → Answers → ℕ → ℕ → ℕ → List (List ℤ) → Left
left_by_item plan m d step n lists = record {
  point = item_point plan m d lists step n;
  lists = lists_after plan d (item_change plan m d lists step n) lists
      (item_point plan m d lists step n);
}

-- on, where nothing overflowed
abbrev pub and_on : Option Point → List (List ℤ) → (List (List ℤ) → Left) → Left
and_on None lists f = f lists
and_on (Some p) lists f = record { point = Some p; lists = lists }

-- one after the other
unfoldable pub left_by : (ℕ → List (List ℤ) → Left) → List ℕ → List (List ℤ) → Left
left_by f [] lists = record { point = None; lists = lists }
left_by f (n ∷ ns) lists = and_on (f n lists).point (f n lists).lists (left_by f ns)

-- after one step
abbrev pub left_by_step : Plan → Answers → ℕ → ℕ → List (List ℤ) → Left
left_by_step plan m d step lists =
    left_by (left_by_item plan m d step) (range_with_len 0 (length plan.items)) lists

-- after all steps, which go on from those before
abbrev pub left_by_steps : Plan → Answers → ℕ → ℕ → List (List ℤ) → Left
left_by_steps plan m d before lists =
    left_by (λ n ls. left_by_step plan m d (before + n + 1) ls) (range_with_len 0 plan.steps) lists
