-- The least stop of a state: by place, and then by level, k, j and i of the point that a stopped
-- patch names.
use Rattle.std.specs.Prelude.{ℕ, ◌==◌, ◌&&◌, Bool, false, List, [], ◌∷◌, length, find, Option, Some}
use Rattle.std.specs.Prelude.{None, option_map, Result, Ok, Err, if◌then◌else◌}
use Rattle.std.specs.Option.{option_or}
use Rattle.std.specs.List.{list_any, range_with_len}
use Rattle.wf_model.specs.declared.layout.Layout.{Layout}
use Rattle.wf_model.specs.declared.script.Entry.{Entry}
use Rattle.wf_model.specs.Grids.{Grids}
use Rattle.wf_model.specs.Changes.{Spot, spots}
use Rattle.wf_model.specs.Outcome.{RunData, Overflow, script, entry_at, what_of}
use Rattle.wf_model.specs.Patches.{split_of, patches_of}
use Rattle.wf_model.specs.Exchange.{receiver_of}
use Rattle.wf_model.specs.Halves.{Half, acts, sends, takes, posts, Due}
use Rattle.wf_model.specs.Core.{CoreState, due_of, has_mail, failure_at}
use Rattle.wf_model.specs.PatchEffect.{Memory, least_failure}
use Rattle.wf_model.specs.Front.{Stands, half_sets, lacks_mail}

-- the first of the list of which there is something
unfoldable pub first_some : {A : Type 0} → (ℕ → Option A) → List ℕ → Option A
first_some f [] = None
first_some f (n ∷ ns) = option_or (f n) (first_some f ns)

-- the overflow that ends a run, if one does
abbrev pub first_overflow : Result Grids Overflow → Option Overflow
first_overflow (Ok g) = None
first_overflow (Err o) = Some o

abbrev pub same_spot : Spot → Spot → Bool
same_spot x y = (x.field == y.field) && ((x.k == y.k) && ((x.j == y.j) && (x.i == y.i)))

-- the point is the one that is named, if one is
abbrev pub is_named : Spot → Option Spot → Bool
is_named x None = false
is_named x (Some y) = same_spot x y

-- the domain whose patches compute or receive at a place
abbrev pub domain_at : RunData → ℕ → ℕ
domain_at r n = receiver_of r.plan (entry_at r n) (entry_at r n).act

module _ (r : RunData) (layout : Layout) where
  -- the least point that overflows in a half. A patch whose mail is not all there stopped for want
  -- of it, and names no point
  abbrev pub half_names : CoreState → ℕ → ℕ → Due → Half → Option Spot
  half_names s d p due acts = failure_at r layout s d p due
  half_names s d p due sends = None
  half_names s d p due takes =
      if has_mail r layout s due p then failure_at r layout s d p due else None
  half_names s d p due (posts levels) = None

  abbrev pub due_names : CoreState → ℕ → ℕ → ℕ → Option Due → Option Spot
  due_names s n d p None = None
  due_names s n d p (Some due) = if due.place == n then half_names s d p due due.half else None

  -- the point that a patch which is stopped at place n names
  abbrev pub stop_names : CoreState → ℕ → ℕ → ℕ → Option Spot
  stop_names s n d p =
      if (s.patches d p).is_stopped then due_names s n d p (due_of r layout s d p) else None

  -- the first point, by level, k, j and i, that some patch which is stopped at place n names
  abbrev pub least_stop_at : CoreState → ℕ → Option Spot
  least_stop_at s n =
      find (λ x. list_any (λ p. is_named x (stop_names s n (domain_at r n) p))
      (patches_of (split_of layout)))
      (spots r.plan (domain_at r n))

  -- the point with its domain, its step and its item, and the place
  abbrev pub stop_at : ℕ → Spot → Overflow
  stop_at n x = record {
    place = n;
    point = record {
      domain = domain_at r n;
      step = (entry_at r n).step;
      what = what_of (entry_at r n).act;
      field = x.field;
      k = x.k;
      j = x.j;
      i = x.i;
    };
  }

  -- the least of all stops that name a point
  unfoldable pub least_stop : CoreState → Option Overflow
  least_stop s =
      first_some (λ n. option_map (stop_at n) (least_stop_at s n))
      (range_with_len 0 (length (script r)))

  -- the point at which a half of the front overflows; a patch that lacks mail names none
  abbrev pub front_names : Stands → Entry → ℕ → ℕ → Memory → Half → Option Spot
  front_names f e d p m acts =
      least_failure r.plan (split_of layout) d p (half_sets r layout f e p m acts)
  front_names f e d p m sends = None
  front_names f e d p m takes =
      if lacks_mail r layout f e p then None
      else least_failure r.plan (split_of layout) d p (half_sets r layout f e p m takes)
  front_names f e d p m (posts levels) = None
