-- Cells that the halves of a patch read and set are of the memory.
use Rattle.std.proofs.Common.{◌≡◌, ◌⊎◌, ℕ, zero, suc, ◌+◌, ◌≤◌, ◌<◌, Bool, true, false, List, [], ◌∷◌, length, refl, sym, subst, arith}
use Rattle.std.proofs.lemmas.Int.{ints}
use Rattle.std.specs.Prelude.{ℤ, pos, ◌+ℤ◌, ◌&&◌, ◌||◌, ◌==◌, unsigned_abs, map, max, is_some, slice_index_or}
use Rattle.std.specs.List.{Contains}
use Rattle.wf_model.specs.declared.layout.Layout.{Layout}
use Rattle.wf_model.specs.declared.plan.Plan.{Plan}
use Rattle.wf_model.specs.declared.plan.Field.{Field}
use Rattle.wf_model.specs.declared.plan.Phase.{Phase}
use Rattle.wf_model.specs.declared.plan.HaloPart.{HaloPart}
use Rattle.wf_model.specs.declared.plan.PeriodPart.{PeriodPart}
use Rattle.wf_model.specs.declared.plan.Item.{Item}
use Rattle.wf_model.specs.declared.plan.Item.TheVariants as item
use Rattle.wf_model.specs.declared.script.Act.{Act}
use Rattle.wf_model.specs.declared.script.Act.TheVariants.{Table}
use Rattle.wf_model.specs.declared.script.Entry.{Entry}
use Rattle.wf_model.specs.Plans.{domain_of, field_of, item_of, no_field, no_item, nx, ny, nz, point_x, point_y}
use Rattle.wf_model.specs.Changes.{in_region, is_phase_level}
use Rattle.wf_model.specs.Reads.{reads_of, reach, greatest, margin_of}
use Rattle.wf_model.specs.Patches.{Split, Span, Cell, split_of, in_span, in_box, grown, cut_unless, own_box, is_own, is_place, reached_box, memory_box, region_holds, cells_in}
use Rattle.wf_model.specs.Shapes.{halo_holds, period_holds, halo_cells, period_cells, fetched_cells, cell_owner}
use Rattle.wf_model.specs.Exchange.{carried}
use Rattle.wf_model.specs.Sound.{IsLevel, IsSoundHaloPart, IsSoundPhase, IsSoundRead, IsSoundItem}
use Rattle.wf_model.specs.Kept.{IsSoundPatch, IsKeptCell}
use Rattle.wf_laws.proofs.Bools.{and_left, and_right, and_both}
use Rattle.wf_laws.proofs.Members.{In, In-map, In-flat_map_out, In-filter_out, In-get_or, All-In, Contains-In}
use Rattle.wf_laws.proofs.Places.{IsRoom, room_of, place_moved}
use Rattle.wf_laws.proofs.Cells.{IsCellIn, In-cells_out}
use Rattle.wf_laws.proofs.PhaseStep.{computes-region, region-in}
use Rattle.wf_laws.proofs.Right.{computes-in}
use Rattle.wf_laws.proofs.Reach.{item_within, read_within, own_memory, read_memory, fold_member}
use Rattle.wf_laws.proofs.Boxes.{IsIn, in_span-IsIn, cut_unless-IsIn}
use Rattle.wf_patch_laws.specs.InMemory.{OwnCellsAreKept, PhasesSetKeptCells, PhasesReadKeptCells, FetchedCellsAreKept, MessagesCarryKeptCells, StartsSetKeptPlaces, ForcesSetKeptPlaces, FeedbacksSetKeptPlaces}

-- a span grown more and cut holds it grown less and cut
grown_cut : (p : Bool) (n a b : ℕ) (s : Span) (c : ℤ) → a ≤ b → in_span (cut_unless p 1 n (grown a s)) c ≡ true → in_span (cut_unless p 1 n (grown b s)) c ≡ true
grown_cut p n a b s c le h =
    let more : IsIn (grown a s) (grown b s) = record { low = omega (arith, ints, le); high = omega (arith, ints, le) } in
    in_span-IsIn (cut_unless p 1 n (grown a s)) (cut_unless p 1 n (grown b s)) c (cut_unless-IsIn p 1 n (grown a s) (grown b s) more) h

-- a cell that a patch reaches within the margin is of its memory
reached_memory : (plan : Plan) (split : Split) (d p f a : ℕ) (j i : ℤ) → a ≤ margin_of plan → in_box (reached_box plan split d p f a a) j i ≡ true → in_box (memory_box plan split d p f) j i ≡ true
unfolding memory_box
reached_memory plan split d p f a j i le h =
    and_both _ _
    (grown_cut (domain_of plan d).periodic_y (ny plan d f) a (margin_of plan) (own_box plan split d p f).y j le (and_left (in_span (reached_box plan split d p f a a).y j) (in_span (reached_box plan split d p f a a).x i) h))
    (grown_cut (domain_of plan d).periodic_x (nx plan d f) a (margin_of plan) (own_box plan split d p f).x i le (and_right (in_span (reached_box plan split d p f a a).y j) (in_span (reached_box plan split d p f a a).x i) h))

-- own cells
pub own_kept : OwnCellsAreKept
own_kept plan layout d p c is level own = record {
  field = level;
  within = record {
    level = own.level;
    within = own_memory plan (split_of layout) d (room_of plan layout is.laid d is.domain) p c.field c.j c.i is.patch own.own;
  };
}

-- a phase of the plan is sound
phase_sound : (plan : Plan) (layout : Layout) (d p : ℕ) (ph : Phase) → IsSoundPatch plan layout d p → In (item.Phase ph) plan.items → IsSoundPhase plan ph
phase_sound plan layout d p ph is h = All-In (IsSoundItem plan) (item.Phase ph) plan.items (is.sound).items h

-- a cell of the region is a place
region_place : (plan : Plan) (d : ℕ) (ph : Phase) (k : ℕ) (j i : ℤ) → region_holds plan d ph k j i ≡ true → is_place plan d ph.writes j i ≡ true
unfolding region_holds
region_place plan d ph k j i h = and_left _ _ h

-- what it reads
pub read_kept : PhasesReadKeptCells
read_kept plan layout d p ph rd k j i is it rds c =
    let split : Split = split_of layout in
    let room : IsRoom plan split d = room_of plan layout is.laid d is.domain in
    let in_items = Contains-In (item.Phase ph) plan.items it in
    let in_reads = Contains-In rd (reads_of ph.expr) rds in
    let sound : IsSoundPhase plan ph = phase_sound plan layout d p ph is in_items in
    let region : region_holds plan d ph k j i ≡ true = computes-region plan split d p ph k j i c in
    let at = region-in plan d ph k j i region in
    let s : IsSoundRead plan d ph rd = All-In (IsSoundRead plan d ph) rd (reads_of ph.expr) (sound.reads d is.domain) in_reads in
    record {
      field = s.level;
      within = record {
        level = s.levels k (point_y plan d ph.writes j) (point_x plan d ph.writes i) at;
        within = read_memory plan split d room p is.patch ph.writes rd.field ph.extend j i rd.dj rd.di (computes-in plan split d p ph k j i c) (read_within plan ph rd in_items in_reads)
            (place_moved plan split d room ph.writes rd.field j i rd.dj rd.di (region_place plan d ph k j i region) (s.inside k (point_y plan d ph.writes j) (point_x plan d ph.writes i) at));
      };
    }

-- the levels of a region
region_level : (plan : Plan) (d : ℕ) (ph : Phase) (k j i : ℕ) → IsSoundPhase plan ph → in_region plan d ph k j i ≡ true → is_phase_level plan ph k ≡ true
unfolding in_region
region_level plan d ph k j i s h = and_left (is_phase_level plan ph k) _ (and_left _ _ h)

-- an extend is no more than the margin
extend_within : (plan : Plan) (ph : Phase) → In (item.Phase ph) plan.items → ph.extend + max (unsigned_abs (pos 0)) (unsigned_abs (pos 0)) ≤ margin_of plan
extend_within plan ph h =
    let a : ph.extend + greatest (map reach (reads_of ph.expr)) ≤ margin_of plan = item_within plan (item.Phase ph) h in
    less ph.extend (greatest (map reach (reads_of ph.expr))) (margin_of plan) a
  where
    less : (e g m : ℕ) → e + g ≤ m → e + max (unsigned_abs (pos 0)) (unsigned_abs (pos 0)) ≤ m
    less e g m h = omega arith

-- no step from a place
stay : (c : ℤ) → c +ℤ pos 0 ≡ c
stay c = omega (arith, ints)

-- a phase's levels lie within its field's
phase_levels : (plan : Plan) (ph : Phase) (k : ℕ) → ph.to ≤ nz plan ph.writes → 1 ≤ ph.from ⊎ (ph.from ≡ 0) → is_phase_level plan ph k ≡ true → (1 ≤ k) × (k ≤ nz plan ph.writes)
phase_levels plan ph k top low h = grind arith

-- what a phase sets
pub set_kept : PhasesSetKeptCells
set_kept plan layout d p ph k j i is it c =
    let split : Split = split_of layout in
    let room : IsRoom plan split d = room_of plan layout is.laid d is.domain in
    let in_items = Contains-In (item.Phase ph) plan.items it in
    let sound : IsSoundPhase plan ph = phase_sound plan layout d p ph is in_items in
    let region : region_holds plan d ph k j i ≡ true = computes-region plan split d p ph k j i c in
    let at = region-in plan d ph k j i region in
    let place : is_place plan d ph.writes j i ≡ true = region_place plan d ph k j i region in
    let level = phase_levels plan ph k sound.top (zero_or ph.from) (region_level plan d ph k (point_y plan d ph.writes j) (point_x plan d ph.writes i) sound at) in
    record {
      field = sound.writes;
      within = record {
        level = level;
        within = subst (λ (y : ℤ). in_box (memory_box plan split d p ph.writes) y i ≡ true) (stay j) (subst (λ (x : ℤ). in_box (memory_box plan split d p ph.writes) (j +ℤ pos 0) x ≡ true) (stay i)
            (read_memory plan split d room p is.patch ph.writes ph.writes ph.extend j i (pos 0) (pos 0) (computes-in plan split d p ph k j i c) (extend_within plan ph in_items)
            (subst (λ (y : ℤ). is_place plan d ph.writes y (i +ℤ pos 0) ≡ true) (sym (stay j)) (subst (λ (x : ℤ). is_place plan d ph.writes j x ≡ true) (sym (stay i)) place))));
      };
    }
  where
    zero_or : (n : ℕ) → 1 ≤ n ⊎ (n ≡ 0)
    zero_or n = grind arith

-- a cell that a patch reaches within the margin is kept
reached_kept : (plan : Plan) (split : Split) (d p f a m : ℕ) (c : Cell) → IsLevel plan f → a ≤ m → m ≤ margin_of plan → In c (cells_in plan f (reached_box plan split d p f a a)) → IsKeptCell plan split d p c
reached_kept plan split d p f a m c is far all h =
    let b : IsCellIn plan f (reached_box plan split d p f a a) c = In-cells_out plan f (reached_box plan split d p f a a) c h in
    record {
      field = subst (λ (g : ℕ). IsLevel plan g) (sym b.field) is;
      within = record {
        level = (b.low, subst (λ (g : ℕ). c.k ≤ nz plan g) (sym b.field) b.high);
        within = subst (λ (g : ℕ). in_box (memory_box plan split d p g) c.j c.i ≡ true) (sym b.field) (reached_memory plan split d p f a c.j c.i (omega (arith, far, all)) b.box);
      };
    }

-- the cells of a halo
halo_kept : (plan : Plan) (layout : Layout) (d p : ℕ) (parts : List HaloPart) (x : HaloPart) (c : Cell) → IsSoundPatch plan layout d p → In (item.Halo parts) plan.items → In x parts → In c (halo_cells plan (split_of layout) d p x) →
    IsKeptCell plan (split_of layout) d p c
halo_kept plan layout d p parts x c is it at h =
    let split : Split = split_of layout in
    let s : IsSoundHaloPart plan x = All-In (IsSoundHaloPart plan) x parts (All-In (IsSoundItem plan) (item.Halo parts) plan.items (is.sound).items it) at in
    reached_kept plan split d p x.field x.radius (greatest (map (λ (y : HaloPart). y.radius) parts)) c s.level
    (fold_member 0 x.radius (map (λ (y : HaloPart). y.radius) parts) (In-map (λ (y : HaloPart). y.radius) x parts at)) (item_within plan (item.Halo parts) it)
    (In-filter_out (λ (y : Cell). halo_holds plan split d p x y.j y.i) c (cells_in plan x.field (reached_box plan split d p x.field x.radius x.radius)) h).0

-- the cells of a period
period_kept : (plan : Plan) (layout : Layout) (d p : ℕ) (parts : List PeriodPart) (x : PeriodPart) (c : Cell) → IsSoundPatch plan layout d p → In (item.Period parts) plan.items → In x parts → In c (period_cells plan (split_of layout) d p x) →
    IsKeptCell plan (split_of layout) d p c
period_kept plan layout d p parts x c is it at h =
    let split : Split = split_of layout in
    let s : IsLevel plan x.field = All-In (λ (y : PeriodPart). IsLevel plan y.field) x parts (All-In (IsSoundItem plan) (item.Period parts) plan.items (is.sound).items it) at in
    reached_kept plan split d p x.field x.width (greatest (map (λ (y : PeriodPart). y.width) parts)) c s
    (fold_member 0 x.width (map (λ (y : PeriodPart). y.width) parts) (In-map (λ (y : PeriodPart). y.width) x parts at)) (item_within plan (item.Period parts) it)
    (In-filter_out (λ (y : Cell). period_holds plan split d p x y.j y.i) c (cells_in plan x.field (reached_box plan split d p x.field x.width x.width)) h).0

-- what an item fetches
pub item_kept : (plan : Plan) (layout : Layout) (d p : ℕ) (it : Item) (c : Cell) → IsSoundPatch plan layout d p → In it plan.items → In c (fetched_cells plan (split_of layout) d it p) → IsKeptCell plan (split_of layout) d p c
unfolding fetched_cells
item_kept plan layout d p (item.Halo parts) c is it h = let w = In-flat_map_out (halo_cells plan (split_of layout) d p) c parts h in halo_kept plan layout d p parts w.0 c is it w.1 w.2
item_kept plan layout d p (item.Period parts) c is it h = let w = In-flat_map_out (period_cells plan (split_of layout) d p) c parts h in period_kept plan layout d p parts w.0 c is it w.1 w.2
item_kept plan layout d p (item.Swap one two) c is it h = absurd h
item_kept plan layout d p (item.Phase ph) c is it h = absurd h

-- the law on what is fetched
pub fetched_kept : FetchedCellsAreKept
fetched_kept plan layout d p it c is at h = item_kept plan layout d p it c is (Contains-In it plan.items at) (Contains-In c (fetched_cells plan (split_of layout) d it p) h)

-- the cells of a message of an item of the table
table_cells : (plan : Plan) (layout : Layout) (e : Entry) (n from to : ℕ) (c : Cell) → In c (carried plan (split_of layout) e (Table n) from to) → In c (fetched_cells plan (split_of layout) e.domain (item_of plan n) to)
unfolding carried
table_cells plan layout e n from to c h = (In-filter_out (λ x. cell_owner plan (split_of layout) e.domain x == from) c (fetched_cells plan (split_of layout) e.domain (item_of plan n) to) h).0

-- an item of the table is one of the plan's
item_there : (plan : Plan) (n : ℕ) → n < length plan.items → In (item_of plan n) plan.items
unfolding item_of
item_there plan n h = In-get_or plan.items n no_item h

-- the law on messages
pub messages_kept : MessagesCarryKeptCells
messages_kept plan layout e n from to c is act small h =
    item_kept plan layout e.domain to (item_of plan n) c is (item_there plan n small)
    (table_cells plan layout e n from to c (Contains-In c _ (subst (λ (a : Act). Contains (carried plan (split_of layout) e a from to) c) act h)))

-- a level of which something holds that does not hold of no level
level_there : (test : Field → Bool) (fs : List Field) (f : ℕ) → test no_field ≡ false → test (slice_index_or fs f no_field) ≡ true → f < length fs
level_there test [] f none h = absurd (cc (none, h))
level_there test (x ∷ fs) zero none h = omega arith
level_there test (x ∷ fs) (suc f) none h = let w : f < length fs = level_there test fs f none h in omega (arith, w)

-- a level with a function for the edge
edge_level : (plan : Plan) (f : ℕ) → is_some (field_of plan f).edge ≡ true → IsLevel plan f
unfolding field_of no_field
edge_level plan f h = level_there (λ x. is_some x.edge) plan.fields f refl h

-- one with a function up
up_level : (plan : Plan) (f : ℕ) → is_some (field_of plan f).up ≡ true → IsLevel plan f
unfolding field_of no_field
up_level plan f h = level_there (λ x. is_some x.up) plan.fields f refl h

-- one that a start sets
start_level : (plan : Plan) (from_file : Bool) (f : ℕ) → (is_some (field_of plan f).down || ((field_of plan f).input && from_file)) ≡ true → IsLevel plan f
unfolding field_of no_field
start_level plan from_file f h = level_there (λ x. is_some x.down || (x.input && from_file)) plan.fields f refl h

-- the law on starts
pub start_kept : StartsSetKeptPlaces
start_kept r split c p mail m f k j i h = record {
  field = start_level r.plan (domain_of r.plan c).from_file f (and_right (in_box (memory_box r.plan split c p f) j i) _ h);
  within = and_left (in_box (memory_box r.plan split c p f) j i) _ h;
}

-- the law on forces
pub force_kept : ForcesSetKeptPlaces
force_kept r layout c p mail f k j i is h =
    let rest = and_right (is_some (field_of r.plan f).edge) _ h in
    record {
      field = edge_level r.plan f (and_left (is_some (field_of r.plan f).edge) _ h);
      within = own_memory r.plan (split_of layout) c (room_of r.plan layout is.laid c is.domain) p f j i is.patch (and_left (is_own r.plan (split_of layout) c p f j i) _ rest);
    }

-- the law on feedbacks
pub feedback_kept : FeedbacksSetKeptPlaces
feedback_kept r layout c p mail f k j i is h =
    let rest = and_right (is_some (field_of r.plan f).up) _ h in
    record {
      field = up_level r.plan f (and_left (is_some (field_of r.plan f).up) _ h);
      within = own_memory r.plan (split_of layout) (domain_of r.plan c).parent (room_of r.plan layout is.laid (domain_of r.plan c).parent is.domain) p f j i is.patch (and_left (is_own r.plan (split_of layout) (domain_of r.plan c).parent p f j i) _ rest);
    }
