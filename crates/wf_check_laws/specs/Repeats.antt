-- Columns and rows of patches of one point that decide of a read as those before them do.
use Rattle.std.specs.Prelude.{◌≡◌, ℕ, ◌+◌, ◌-◌, ◌*◌, ◌/◌, ◌%◌, ◌<◌, ◌≤◌, min, max, Bool, true, ◌&&◌}
use Rattle.std.specs.Prelude.{◌||◌, not, nat_lt, length, filter, fold, find, List, Some, None, ℤ}
use Rattle.std.specs.Prelude.{pos, ◌+ℤ◌, unsigned_abs, IsTrue, IsFalse, if◌then◌else◌}
use Rattle.std.specs.List.{list_all, range_with_len, Contains}
use Rattle.wf_model.specs.declared.plan.Plan.{Plan}
use Rattle.wf_model.specs.declared.plan.Item.{Item}
use Rattle.wf_model.specs.declared.plan.Item.TheVariants as item
use Rattle.wf_model.specs.Plans.{domain_of, nx, ny, nz, up_to, level_at}
use Rattle.wf_model.specs.Changes.{is_phase_level}
use Rattle.wf_model.specs.Patches.{fine, patches_of, span_list}
use Rattle.wf_model.specs.Covered.{Asked, all_asked, is_cell_covered, IsReadCovered, IsCovered}
use Rattle.wf_model.specs.Covered.{IsFirstUncovered}
use Rattle.wf_model.specs.Uncovered.{computed_box, is_patch_covered, is_read_covered}
use Rattle.wf_model.specs.Uncovered.{first_uncovered}
use Rattle.wf_model.specs.Sound.{IsSoundPlan}

-- how far from its own point a patch looks, in x and in y, for a read of a phase
abbrev pub look_x : Asked → ℕ
look_x a = a.phase.extend + unsigned_abs a.read.di

abbrev pub look_y : Asked → ℕ
look_y a = a.phase.extend + unsigned_abs a.read.dj

-- b is none of the numbers from c - m to c + m
abbrev pub is_away : ℕ → ℕ → ℕ → Bool
is_away m c b = nat_lt (b + m) c || nat_lt (c + m) b

-- and so for the ends of an item's region in x: the last number before it, and its own last number
abbrev pub is_away_x : Plan → ℕ → ℕ → ℕ → Item → Bool
is_away_x plan d m c (item.Halo parts) = true
is_away_x plan d m c (item.Period parts) = true
is_away_x plan d m c (item.Swap one two) = true
is_away_x plan d m c (item.Phase ph) =
    is_away m c ph.mx && is_away m c (nx plan d ph.writes - ph.mx)

-- and in y
abbrev pub is_away_y : Plan → ℕ → ℕ → ℕ → Item → Bool
is_away_y plan d m c (item.Halo parts) = true
is_away_y plan d m c (item.Period parts) = true
is_away_y plan d m c (item.Swap one two) = true
is_away_y plan d m c (item.Phase ph) =
    is_away m c ph.my && is_away m c (ny plan d ph.writes - ph.my)

-- column x of patches, from 0, repeats the one before it: all that a read meets from either lies
-- inside the domain, and no region begins or ends there. In a periodic direction regions have no
-- ends
unfoldable pub repeats_x : Plan → Asked → ℕ → Bool
repeats_x plan a x =
    nat_lt (look_x a) x
    && (nat_lt (x + look_x a) ((domain_of plan a.domain).ide - 1)
    && (nat_lt (x + 1) ((domain_of plan a.domain).ide - 1)
    && ((domain_of plan a.domain).periodic_x
    || list_all (is_away_x plan a.domain (look_x a) x) plan.items)))

-- row y repeats the one before it
unfoldable pub repeats_y : Plan → Asked → ℕ → Bool
repeats_y plan a y =
    nat_lt (look_y a) y
    && (nat_lt (y + look_y a) ((domain_of plan a.domain).jde - 1)
    && (nat_lt (y + 1) ((domain_of plan a.domain).jde - 1)
    && ((domain_of plan a.domain).periodic_y
    || list_all (is_away_y plan a.domain (look_y a) y) plan.items)))

-- the patch in column x and row y of a domain
abbrev pub patch_in : Plan → Asked → ℕ → ℕ → ℕ
patch_in plan a y x = y * (fine plan a.domain).in_x + x

-- a column that repeats decides as the one before it, point by point
abbrev pub RepeatedColumnsDecideAlike : Type 0
RepeatedColumnsDecideAlike =
    (plan : Plan) (a : Asked) (y x k : ℕ) (j i : ℤ) → Contains (all_asked plan) a →
    IsTrue (repeats_x plan a (x + 1)) →
    is_cell_covered plan a (patch_in plan a y (x + 1)) k j (i +ℤ pos 1)
    ≡ is_cell_covered plan a (patch_in plan a y x) k j i

-- and a row
abbrev pub RepeatedRowsDecideAlike : Type 0
RepeatedRowsDecideAlike =
    (plan : Plan) (a : Asked) (y x k : ℕ) (j i : ℤ) → Contains (all_asked plan) a →
    IsTrue (repeats_y plan a (y + 1)) → x < (fine plan a.domain).in_x →
    is_cell_covered plan a (patch_in plan a (y + 1) x) k (j +ℤ pos 1) i
    ≡ is_cell_covered plan a (patch_in plan a y x) k j i

-- ---- levels

-- both hold, or neither
abbrev pub both_or_neither : Bool → Bool → Bool
both_or_neither b c = if b then c else not c

-- a phase has both levels, or neither
abbrev pub has_both : Plan → ℕ → ℕ → Item → Bool
has_both plan k l (item.Halo parts) = true
has_both plan k l (item.Period parts) = true
has_both plan k l (item.Swap one two) = true
has_both plan k l (item.Phase ph) =
    both_or_neither (is_phase_level plan ph k) (is_phase_level plan ph l)

-- level k repeats the one before it: the read's phase has both or neither, and so has each phase
-- the two levels that the read meets from there
unfoldable pub repeats_z : Plan → Asked → ℕ → Bool
repeats_z plan a k =
    let met = level_at plan a.read.field k a.read.dk in
    let met_before = level_at plan a.read.field (k - 1) a.read.dk in
    nat_lt 1 k
    && (both_or_neither (is_phase_level plan a.phase k) (is_phase_level plan a.phase (k - 1))
    && list_all (has_both plan met met_before) plan.items)

-- a level that repeats decides as the one before it
abbrev pub RepeatedLevelsDecideAlike : Type 0
RepeatedLevelsDecideAlike =
    (plan : Plan) (a : Asked) (patch k : ℕ) (j i : ℤ) → Contains (all_asked plan) a →
    IsTrue (repeats_z plan a (k + 1)) →
    is_cell_covered plan a patch (k + 1) j i ≡ is_cell_covered plan a patch k j i

-- the test of a patch that leaves out the levels that repeat
abbrev pub level_passes_or_repeats : Plan → Asked → ℕ → ℕ → Bool
level_passes_or_repeats plan a patch k =
    let b = computed_box plan a patch in
    repeats_z plan a k
    || list_all (λ j. list_all (λ i. is_cell_covered plan a patch k j i) (span_list b.x))
    (span_list b.y)

unfoldable pub is_patch_covered_at_few : Plan → Asked → ℕ → Bool
is_patch_covered_at_few plan a patch =
    list_all (level_passes_or_repeats plan a patch) (up_to (nz plan a.phase.writes))

-- it is the test over all levels
abbrev pub FewLevelsDecide : Type 0
FewLevelsDecide =
    (plan : Plan) (a : Asked) (patch : ℕ) → Contains (all_asked plan) a →
    is_patch_covered_at_few plan a patch ≡ is_patch_covered plan a patch

-- ---- all together

-- each patch whose column and row repeat no other passes at the levels that repeat no other
abbrev pub RepresentativesPass : Plan → Asked → Type 0
RepresentativesPass plan a =
    (y x : ℕ) → y < (fine plan a.domain).in_y → x < (fine plan a.domain).in_x →
    IsFalse (repeats_y plan a y) → IsFalse (repeats_x plan a x) →
    IsTrue (is_patch_covered_at_few plan a (patch_in plan a y x))

-- each patch does, whatever repeats
abbrev pub AllPass : Plan → Asked → Type 0
AllPass plan a =
    (y x : ℕ) → y < (fine plan a.domain).in_y → x < (fine plan a.domain).in_x →
    IsTrue (is_patch_covered_at_few plan a (patch_in plan a y x))

-- where those pass, the read is covered at each patch and each point; where it is, each patch
-- passes. So one patch that does not pass refuses the read
abbrev pub RepresentativesAreEnough : Type 0
RepresentativesAreEnough =
    (plan : Plan) (a : Asked) → IsSoundPlan plan → Contains (all_asked plan) a →
    (RepresentativesPass plan a → IsReadCovered plan a) × (IsReadCovered plan a → AllPass plan a)

-- the test of a read that leaves out what repeats
abbrev pub passes_or_repeats : Plan → Asked → ℕ → Bool
passes_or_repeats plan a p =
    repeats_x plan a (p % (fine plan a.domain).in_x)
    || (repeats_y plan a (p / (fine plan a.domain).in_x) || is_patch_covered_at_few plan a p)

unfoldable pub is_covered_at_few : Plan → Asked → Bool
is_covered_at_few plan a = list_all (passes_or_repeats plan a) (patches_of (fine plan a.domain))

-- it is the test over all patches
abbrev pub FewPatchesDecide : Type 0
FewPatchesDecide =
    (plan : Plan) (a : Asked) → IsSoundPlan plan → Contains (all_asked plan) a →
    is_covered_at_few plan a ≡ is_read_covered plan a

-- so the first read that it refuses is the first uncovered one
abbrev pub FewPatchesFindTheFirst : Type 0
FewPatchesFindTheFirst =
    (plan : Plan) → IsSoundPlan plan →
    find (λ a. not (is_covered_at_few plan a)) (all_asked plan) ≡ first_uncovered plan

-- the test over all reads tells of the rule: none is found where the check accepts, and else the
-- first uncovered read
abbrev pub FirstUncoveredTells : Type 0
FirstUncoveredTells =
    (plan : Plan) → IsSoundPlan plan →
    (first_uncovered plan ≡ None → IsCovered plan)
    × ((a : Asked) → first_uncovered plan ≡ Some a → IsFirstUncovered plan a)

-- ---- from one column to the next that repeats none, without a look at those between

-- at most n, and at most the first number from x on that is not away from b
abbrev pub before_near : ℕ → ℕ → ℕ → ℕ → ℕ
before_near m x b n = if nat_lt (b + m) x then n else min n (max x (b - m))

-- and so for the ends of an item's region in x
abbrev pub before_item_x : Plan → ℕ → ℕ → ℕ → ℕ → Item → ℕ
before_item_x plan d m x n (item.Halo parts) = n
before_item_x plan d m x n (item.Period parts) = n
before_item_x plan d m x n (item.Swap one two) = n
before_item_x plan d m x n (item.Phase ph) =
    before_near m x (nx plan d ph.writes - ph.mx) (before_near m x ph.mx n)

-- and in y
abbrev pub before_item_y : Plan → ℕ → ℕ → ℕ → ℕ → Item → ℕ
before_item_y plan d m x n (item.Halo parts) = n
before_item_y plan d m x n (item.Period parts) = n
before_item_y plan d m x n (item.Swap one two) = n
before_item_y plan d m x n (item.Phase ph) =
    before_near m x (ny plan d ph.writes - ph.my) (before_near m x ph.my n)

-- the first number from x on that comes near the end n
abbrev pub before_end : ℕ → ℕ → ℕ → ℕ
before_end m x n = max x (min (n - m) (n - 1))

-- the first column from x on that does not repeat the one before it
unfoldable pub next_x : Plan → Asked → ℕ → ℕ
next_x plan a x =
    let far = before_end (look_x a) x ((domain_of plan a.domain).ide - 1) in
    if nat_lt (look_x a) x
    then (if (domain_of plan a.domain).periodic_x
    then far
    else fold (before_item_x plan a.domain (look_x a) x) far plan.items)
    else x

-- the first row
unfoldable pub next_y : Plan → Asked → ℕ → ℕ
next_y plan a y =
    let far = before_end (look_y a) y ((domain_of plan a.domain).jde - 1) in
    if nat_lt (look_y a) y
    then (if (domain_of plan a.domain).periodic_y
    then far
    else fold (before_item_y plan a.domain (look_y a) y) far plan.items)
    else y

-- the columns from x up to it repeat those before them, and it does not; it is not before x, and a
-- column of the domain if x is
pub record IsNextColumn (plan : Plan) (a : Asked) (x : ℕ) : Type 0 where
  pub between : (z : ℕ) → x ≤ z → z < next_x plan a x → IsTrue (repeats_x plan a z)
  pub stops : IsFalse (repeats_x plan a (next_x plan a x))
  pub from : x ≤ next_x plan a x
  pub below :
      x < (domain_of plan a.domain).ide - 1 → next_x plan a x < (domain_of plan a.domain).ide - 1

pub record IsNextRow (plan : Plan) (a : Asked) (y : ℕ) : Type 0 where
  pub between : (z : ℕ) → y ≤ z → z < next_y plan a y → IsTrue (repeats_y plan a z)
  pub stops : IsFalse (repeats_y plan a (next_y plan a y))
  pub from : y ≤ next_y plan a y
  pub below :
      y < (domain_of plan a.domain).jde - 1 → next_y plan a y < (domain_of plan a.domain).jde - 1

abbrev pub NextColumnsAndRows : Type 0
NextColumnsAndRows = (plan : Plan) (a : Asked) (n : ℕ) → IsNextColumn plan a n × IsNextRow plan a n

-- ---- row by row, and in a row column by column

-- of the patches whose column and row repeat no other, those in the rows before y pass, and those
-- in row y before column x
pub record PassTo (plan : Plan) (a : Asked) (y x : ℕ) : Type 0 where
  pub rows :
      (v u : ℕ) → v < y → u < (fine plan a.domain).in_x →
      IsFalse (repeats_y plan a v) → IsFalse (repeats_x plan a u) →
      IsTrue (is_patch_covered_at_few plan a (patch_in plan a v u))
  pub columns :
      (u : ℕ) → u < x → u < (fine plan a.domain).in_x → IsFalse (repeats_x plan a u) →
      IsTrue (is_patch_covered_at_few plan a (patch_in plan a y u))

-- what a loop over them needs: its start, a patch that passes, the columns that are left out, the
-- end of a row, the rows that are left out, and its end
pub record ScanGoesOn (plan : Plan) (a : Asked) : Type 0 where
  pub starts : PassTo plan a 0 0
  pub passes :
      (y x : ℕ) → PassTo plan a y x →
      IsTrue (is_patch_covered_at_few plan a (patch_in plan a y x)) → PassTo plan a y (x + 1)
  pub leaps : (y x : ℕ) → PassTo plan a y x → PassTo plan a y (next_x plan a x)
  pub ends_row :
      (y x : ℕ) → (fine plan a.domain).in_x ≤ x → PassTo plan a y x → PassTo plan a (y + 1) 0
  pub leaps_rows : (y : ℕ) → PassTo plan a y 0 → PassTo plan a (next_y plan a y) 0
  pub ends :
      (y x : ℕ) → (fine plan a.domain).in_y ≤ y → PassTo plan a y x → RepresentativesPass plan a

abbrev pub ScansGoOn : Type 0
ScansGoOn = (plan : Plan) (a : Asked) → ScanGoesOn plan a

-- ---- how many are left

-- the columns that repeat no other, and the rows
abbrev pub columns_left : Plan → Asked → List ℕ
columns_left plan a =
    filter (λ x. not (repeats_x plan a x)) (range_with_len 0 ((domain_of plan a.domain).ide - 1))

abbrev pub rows_left : Plan → Asked → List ℕ
rows_left plan a =
    filter (λ y. not (repeats_y plan a y)) (range_with_len 0 ((domain_of plan a.domain).jde - 1))

-- so many are left, however large the domain is
abbrev pub most_left : Plan → ℕ → ℕ
most_left plan look = 2 * (look + 1) + length plan.items * (2 * (2 * look + 1))

abbrev pub FewAreLeft : Type 0
FewAreLeft =
    (plan : Plan) (a : Asked) →
    (length (columns_left plan a) ≤ most_left plan (look_x a))
    × (length (rows_left plan a) ≤ most_left plan (look_y a))
