-- Levels in file shape, and the slabs of a frame that a run has reached.
use Rattle.std.proofs.Common.{◌≡◌, ℕ, ◌+◌, ◌-◌, ◌<◌, ◌≤◌, Bool, true, false, List, length, get_or, subst, refl, sym, ap, ◌∙◌, arith, Some}
use Rattle.std.specs.Prelude.{ℤ, pos, ◌||◌, if◌then◌else◌}
use Rattle.std.specs.List.{slice_get}
use Rattle.std.proofs.lemmas.Int.{ints}
use Rattle.std.proofs.lemmas.Option.{get_or_from_slice_get}
use Rattle.wf_model.specs.declared.frame.Frame.{Frame}
use Rattle.wf_model.specs.declared.layout.Layout.{Layout}
use Rattle.wf_model.specs.declared.plan.Plan.{Plan}
use Rattle.wf_model.specs.Frames.{frames_of, frame_of, no_frame}
use Rattle.wf_model.specs.Grids.{Grids}
use Rattle.wf_model.specs.Held.{numbers_at, slab_numbers, stands_past, grids_in_patches}
use Rattle.wf_model.specs.Outcome.{RunData, grids_at, outcome_of}
use Rattle.wf_model.specs.Patches.{in_span}
use Rattle.wf_model.specs.Plans.{domain_of, field_of, extra, nx, ny, nz, point_x, point_y}
use Rattle.wf_model.specs.Sound.{IsLevel}
use Rattle.wf_model.specs.Streams.{one_if, file_x, file_y, file_list, stream_levels}
use Rattle.std.proofs.lemmas.List.Elements.{All-get_or}
use Rattle.wf_cdf.proofs.LevelLoops.{levels_within}
use Rattle.wf_laws.proofs.Places.{whole, point-range}
use Rattle.wf_stream.proofs.FrameLaws.{frame_entry}
use Rattle.wf_grid.specs.Levels.{IsPlaceIn, grids_of, lists_of}
use Rattle.wf_grid.specs.Reached.{IsSteppable, IsReached}
use Rattle.wf_grid.proofs.Agreeing.{Agree, grids_back, level_same}
use Rattle.wf_grid.proofs.OwnEntries.{IsOwnAct, entry_own}

-- a point of a direction in files stands for a point of the domain
pub in_direction : (p s : Bool) (e c : ℕ) → 1 ≤ c → c ≤ e + one_if s → (p || in_span (whole (e + extra s p)) (pos c)) ≡ true
in_direction true s e c low high = refl
in_direction false true e c low high = grind (arith, ints)
in_direction false false e c low high = grind (arith, ints)

module _ (plan : Plan) (d f : ℕ) (wide : (1 ≤ nx plan d f) × (1 ≤ ny plan d f)) where
  -- so do the points of a level in files
  placed : (k j i : ℕ) → IsPlaceIn (nz plan f) (file_y plan d f) (file_x plan d f) k j i → IsPlaceIn (nz plan f) (ny plan d f) (nx plan d f) k (point_y plan d f (pos j)) (point_x plan d f (pos i))
  placed k j i h = record {
    in_z = h.in_z;
    in_y = point-range (domain_of plan d).periodic_y (ny plan d f) (pos j) (omega (arith, wide.1)) (in_direction (domain_of plan d).periodic_y (field_of plan f).stag_y ((domain_of plan d).jde - 1) j h.in_y.0 h.in_y.1);
    in_x = point-range (domain_of plan d).periodic_x (nx plan d f) (pos i) (omega (arith, wide.0)) (in_direction (domain_of plan d).periodic_x (field_of plan f).stag_x ((domain_of plan d).ide - 1) i h.in_x.0 h.in_x.1);
  }

  -- grids that agree have one list in file shape
  pub shape_same : IsLevel plan f → (g h : Grids) → Agree plan d g h → file_list plan d f g ≡ file_list plan d f h
  unfolding file_list
  shape_same level g h a =
      level_same (nz plan f) (file_y plan d f) (file_x plan d f) (λ k j i. g d f k (point_y plan d f (pos j)) (point_x plan d f (pos i))) (λ k j i. h d f k (point_y plan d f (pos j)) (point_x plan d f (pos i)))
      (λ k j i inside. a.same f k (point_y plan d f (pos j)) (point_x plan d f (pos i)) level (placed k j i inside))

-- the numbers of a run up to its first overflow
numbers_are : (r : RunData) (layout : Layout) (n : ℕ) → stands_past n (outcome_of r) ≡ false → numbers_at r layout n ≡ grids_at r n
unfolding numbers_at
numbers_are r layout n h = ap (λ (b : Bool). if b then grids_in_patches r layout n else grids_at r n) h

-- the slab of a level
pub slab_is : (r : RunData) (layout : Layout) (frame : Frame) (f : ℕ) (lists : List (List ℤ)) → IsSteppable r → slice_get (frames_of r) frame.number ≡ Some frame → IsReached r frame.place lists → IsLevel r.plan f →
    file_list r.plan 1 f (grids_of r.plan 1 lists) ≡ slab_numbers r layout frame.number f
unfolding slab_numbers frame_of
slab_is r layout frame f lists s is reached level =
    let this : frame_of r frame.number ≡ frame = get_or_from_slice_get (frames_of r) frame.number frame no_frame is in
    let entry = frame_entry r frame.number frame is in
    let domain : frame.domain ≡ 1 = sym entry.domain ∙ (entry_own r frame.place s.one_domain entry.within).domain in
    ap (λ (ls : List (List ℤ)). file_list r.plan 1 f (grids_of r.plan 1 ls)) reached.same
    ∙ shape_same r.plan 1 f (omega (arith, s.lists.wide), omega (arith, s.lists.high)) level (grids_of r.plan 1 (lists_of r.plan 1 (grids_at r frame.place))) (grids_at r frame.place) (grids_back r.plan 1 (grids_at r frame.place))
    ∙ (λ i. file_list r.plan (sym domain i) f (sym (numbers_are r layout frame.place reached.up.before) i))
    ∙ (λ i. file_list r.plan (sym this i).domain f (numbers_at r layout (sym this i).place))

-- the stream of a frame
pub stream_few : (r : RunData) (frame : Frame) → IsSteppable r → slice_get (frames_of r) frame.number ≡ Some frame → frame.stream ≤ 10
stream_few r frame s is =
    let entry = frame_entry r frame.number frame is in
    subst (IsOwnAct r.plan) entry.act (entry_own r frame.place s.one_domain entry.within).act

-- the levels that a frame's stream holds, as the code has them
module _ (r : RunData) (plan : Plan) (plan_is : plan ≡ r.plan) (stream : ℕ) (items fields : List ℕ) (are : items ≡ fields) (held : fields ≡ stream_levels plan stream) where
  pub fields_are : items ≡ stream_levels r.plan stream
  fields_are = are ∙ held ∙ ap (λ (x : Plan). stream_levels x stream) plan_is

  pub field_level : (i : ℕ) → i < length items → IsLevel r.plan (get_or items i 0)
  field_level i h =
      subst (λ (xs : List ℕ). IsLevel r.plan (get_or xs i 0)) (sym fields_are)
      (All-get_or (IsLevel r.plan) (stream_levels r.plan stream) i 0 (subst (λ (xs : List ℕ). i < length xs) fields_are h) (levels_within r.plan stream))
