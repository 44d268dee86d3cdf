-- A plan of one domain and what fits it are ready to be settled.
use Rattle.std.proofs.Common.{◌≡◌, ℕ, zero, suc, Bool, true, false, ◌∷◌, set, take, drop, ◌++◌, ◌+◌, ◌-◌, ◌*◌, ◌^◌, ◌<◌, ◌≤◌, List, [], length, get_or, refl, sym, ap, subst, ◌∙◌, arith}
use Rattle.std.specs.List.{range_with_len}
use Rattle.std.proofs.Math.Nat.{zero-mul, suc-mul, mul-le-mul_left}
use Rattle.std.proofs.lemmas.List.{take-append-le, take_all}
use Rattle.std.proofs.lemmas.List.Sums.{sum_by-cons}
use Rattle.std.specs.Prelude.{ℤ, sum_by, ◌==◌, ◌||◌, if◌then◌else◌}
use Rattle.wf_model.specs.Calendar.{is_leap, month_days, moment_of}
use Rattle.wf_model.specs.Dates.{year_days, days_before, seconds_before, last_moment}
use Rattle.wf_model.specs.declared.plan.Plan.{Plan}
use Rattle.wf_model.specs.declared.plan.Phase.{Phase}
use Rattle.wf_model.specs.declared.plan.Item.{Item}
use Rattle.wf_model.specs.declared.plan.Item.TheVariants as item
use Rattle.wf_model.specs.declared.initial.Initial.{Initial}
use Rattle.wf_model.specs.Plans.{domain_of, field_of, item_of, no_item, no_field, begin_of, nx, ny, nz}
use Rattle.wf_model.specs.Ranges.{IsRangedItem, IsRangedPhase}
use Rattle.wf_model.specs.Sound.{IsDomain, IsLevel, IsSoundPlan, IsRangedPlan, IsFittingInitial, IsSoundItem, IsSoundPhase}
use Rattle.wf_model.specs.Outcome.{no_list, no_lists}
use Rattle.wf_grid.specs.Levels.{AreLists}
use Rattle.wf_grid.specs.Reading.{IsRunnable}
use Rattle.wf_grid.specs.Takeable.{IsTakeable, IsTable}
use Rattle.wf_grid.specs.Held.{IsReady, first_lists}

-- a sum of numbers up to a greatest
sum_most : (f : ℕ → ℕ) (c : ℕ) → ((k : ℕ) → f k ≤ c) → (a n : ℕ) → sum_by f (range_with_len a n) ≤ n * c
sum_most f c h a zero = omega (arith, zero-mul c)
sum_most f c h a (suc n) = omega (arith, sum_by-cons f a (range_with_len (a + 1) n), h a, sum_most f c h (a + 1) n, suc-mul n c)

-- the days of a year and of a month
year_most : (y : ℕ) → year_days y ≤ 366
year_most y = by (is_leap y)
  where
    by : (b : Bool) → (if b then 366 else 365) ≤ 366
    by true = omega arith
    by false = omega arith

month_most : (y m : ℕ) → month_days y m ≤ 31
month_most y m = by (m == 2) (is_leap y) ((m == 4) || (m == 6) || (m == 9) || (m == 11))
  where
    by : (a b c : Bool) → (if a then (if b then 29 else 28) else (if c then 30 else 31)) ≤ 31
    by true true c = omega arith
    by true false c = omega arith
    by false b true = omega arith
    by false b false = omega arith

-- the seconds of the years 1 to 9999
last_is_early : seconds_before last_moment < 2 ^ 62
unfolding days_before
last_is_early = omega (arith, sum_most year_days 366 year_most 1 9998, sum_most (month_days 9999) 31 (month_most 9999) 1 11)

module _ (plan : Plan) (initial : Initial) (sound : IsSoundPlan plan) (ranged : IsRangedPlan plan) (fitting : IsFittingInitial plan initial)
    (one : length plan.domains ≡ 1) where
  -- domain 1 is the plan's
  first_domain : IsDomain plan 1
  first_domain = (omega arith, omega (arith, one))

  -- a phase can be run
  runnable : (ph : Phase) → IsSoundPhase plan ph → IsRangedPhase ph → IsRunnable plan 1 ph
  runnable ph s r = record {
    writes = s.writes;
    divisors = λ k d h. (r.expr.divisors k d h).0;
    reads = λ k j i region n x h.
        let read = s.reads 1 first_domain n x h in
        record { level = read.level; inside = read.inside k j i region; levels = read.levels k j i region; above = read.above k j i region };
  }

  -- and so can each item be done
  takeable : (it : Item) → IsSoundItem plan it → IsRangedItem it → IsTakeable plan 1 it
  takeable (item.Halo parts) s r = tt
  takeable (item.Period parts) s r = tt
  takeable (item.Swap a b) s r =
      let pair = sound.pairs a s.0 in
      let is : (field_of plan a).pair ≡ b = s.1 in
      record {
        first = s.0;
        second = subst (IsLevel plan) is pair.is;
        other = s.2;
        levels = subst (λ (f : ℕ). nz plan f ≡ nz plan a) is pair.levels;
        rows = (λ n. (domain_of plan 1).jde - 1 + Rattle.wf_model.specs.Plans.extra (subst (λ (f : ℕ). (field_of plan f).stag_y ≡ (field_of plan a).stag_y) is pair.stag_y n) (domain_of plan 1).periodic_y);
        columns = (λ n. (domain_of plan 1).ide - 1 + Rattle.wf_model.specs.Plans.extra (subst (λ (f : ℕ). (field_of plan f).stag_x ≡ (field_of plan a).stag_x) is pair.stag_x n) (domain_of plan 1).periodic_x);
      }
  takeable (item.Phase ph) s r = runnable ph s r

  table : IsTable plan 1
  unfolding item_of field_of
  table = record {
    items = λ n h. takeable (item_of plan n) (sound.items n no_item h) (ranged.items n no_item h);
    few = λ f h. omega (arith, (ranged.fields f no_field h).nz.1);
    fields = ranged.limits.levels;
  }

  are : AreLists plan 1 (first_lists initial)
  are = record {
    domain = first_domain;
    wide = sound.wide 1 first_domain;
    high = sound.high 1 first_domain;
    levels = fitting.shape.levels 1 first_domain;
    each = λ f h. fitting.lists 1 f first_domain h;
  }

  -- the steps are few, since the run ends by the last year that a date has
  few_steps : (begin_of initial.begins 1).steps + plan.steps < 2 ^ 64
  few_steps =
      let before : (begin_of initial.begins 1).steps ≤ 1000000000 = (fitting.sound 1 first_domain).steps in
      let times : plan.steps * 1 ≤ plan.steps * (domain_of plan 1).seconds = mul-le-mul_left plan.steps (sound.steps 1 first_domain) in
      let finish : plan.steps * (domain_of plan 1).seconds ≤ seconds_before last_moment = rest (seconds_before (moment_of plan.start)) (plan.steps * (domain_of plan 1).seconds) (seconds_before last_moment) ranged.time.finish in
      omega (arith, before, times, finish, last_is_early)
    where
      rest : (a b c : ℕ) → a + b ≤ c → b ≤ c
      rest a b c h = omega arith

  -- with a scratch as long as the longest level
  pub ready : (scratch : List ℤ) → ((f : ℕ) → f < length (first_lists initial) → length (get_or (first_lists initial) f no_list) ≤ length scratch) → IsReady plan initial scratch
  ready scratch long = record {
    sound = sound;
    ranged = ranged;
    fitting = fitting;
    first = ranged.first;
    one_domain = one;
    domains = fitting.shape.domains ∙ one;
    begins = omega (arith, fitting.begins, one);
    lists = are;
    table = table;
    items = omega (arith, ranged.limits.items);
    room = λ f h. let level : f < length (first_lists initial) = omega (arith, h, are.levels) in omega (arith, long f level, are.each f h);
    steps = few_steps;
  }

-- other lists of the same lengths fit the plan too
fitting_after : (plan : Plan) (initial : Initial) (grids : List (List (List ℤ))) → length plan.domains ≡ 1 → IsFittingInitial plan initial → length grids ≡ 1 → AreLists plan 1 (get_or grids 0 no_lists) → IsFittingInitial plan (record { grids = grids; begins = initial.begins })
fitting_after plan initial grids one old l are = record {
  shape = record {
    domains = l ∙ sym one;
    levels = λ d h. let here : 0 ≡ d - 1 = omega (arith, h.0, h.1, one) in subst (λ (n : ℕ). length (get_or grids n no_lists) ≡ length plan.fields) here are.levels;
  };
  begins = old.begins;
  sound = old.sound;
  first = old.first;
  fresh = old.fresh;
  started = old.started;
  lists = λ d f h level.
      let here : 0 ≡ d - 1 = omega (arith, h.0, h.1, one) in
      let this : 1 ≡ d = omega (arith, h.0, h.1, one) in
      subst (λ (n : ℕ). length (get_or (get_or grids n no_lists) f no_list) ≡ nz plan f * (ny plan d f * nx plan d f)) here
      (subst (λ (k : ℕ). length (get_or (get_or grids 0 no_lists) f no_list) ≡ nz plan f * (ny plan k f * nx plan k f)) this (are.each f level));
}

-- after the run it is ready again
pub ready_after : (plan : Plan) (initial : Initial) (scratch : List ℤ) (grids : List (List (List ℤ))) (used : List ℤ) → IsReady plan initial scratch → length grids ≡ 1 → AreLists plan 1 (get_or grids 0 no_lists) → length used ≡ length scratch →
    IsReady plan (record { grids = grids; begins = initial.begins }) used
ready_after plan initial scratch grids used r l are same = record {
  sound = r.sound;
  ranged = r.ranged;
  fitting = fitting_after plan initial grids r.one_domain r.fitting l are;
  first = r.first;
  one_domain = r.one_domain;
  domains = l;
  begins = r.begins;
  lists = are;
  table = r.table;
  items = r.items;
  room = λ f h. omega (arith, r.room f h, same);
  steps = r.steps;
}

-- a list whose items were lent and came back
pub lent_back : {X : Type 0} (xs ys : List X) → length ys ≡ length xs → take (length xs) (ys ++ drop (length ys) xs) ≡ ys
lent_back xs ys e =
    let h : length xs ≤ length ys = omega (arith, e) in
    rw take-append-le (take_all (length xs) ys (omega (arith, e)))

pub lent_back_at : {X : Type 0} (n : ℕ) (xs ys : List X) → n ≡ length xs → length ys ≡ length xs → take n (ys ++ drop (length ys) xs) ≡ ys
lent_back_at n xs ys p e = ap (λ (k : ℕ). take k (ys ++ drop (length ys) xs)) p ∙ lent_back xs ys e

-- the one list of lists, replaced
pub only_one : {X : Type 0} (xs : List X) (v : X) → length xs ≡ 1 → set xs 0 v ≡ v ∷ []
only_one [] v e = absurd (omega (arith, e))
only_one (x ∷ []) v e = refl
only_one (x ∷ y ∷ ys) v e = absurd (omega (arith, e))
