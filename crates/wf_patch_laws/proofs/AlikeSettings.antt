-- Settings on memories that hold alike.
use Rattle.std.proofs.Common.{◌≡◌, ◌⊎◌, inl, inr, ⊎_elim, ℕ, zero, suc, ◌+◌, ◌-◌, ◌/◌, ◌%◌, ◌≤◌, ◌<◌, Bool, true, List, [], ◌∷◌, length, refl, sym, ap, ◌∙◌, subst, arith, Option, Some}
use Rattle.std.specs.Prelude.{ℤ, pos, ◌&&◌, ◌||◌, ◌==◌, find, is_none, unwrap_or, if◌then◌else◌, slice_index_or}
use Rattle.std.specs.List.{list_any}
use Rattle.wf_model.specs.declared.layout.Layout.{Layout}
use Rattle.wf_model.specs.declared.plan.Plan.{Plan}
use Rattle.wf_model.specs.declared.plan.Item.{Item}
use Rattle.wf_model.specs.declared.plan.Item.TheVariants as item
use Rattle.wf_model.specs.declared.script.Act.{Act}
use Rattle.wf_model.specs.declared.script.Act.TheVariants.{Start, Force, Feedback, Table, Emit}
use Rattle.wf_model.specs.declared.script.Entry.{Entry}
use Rattle.wf_model.specs.Numbers.{and_then}
use Rattle.wf_model.specs.Nests.{or_old}
use Rattle.wf_model.specs.Plans.{domain_of, field_of, item_of, no_item, levels_of, nz, point_x, point_y, extra}
use Rattle.wf_model.specs.Changes.{Spot, spots, swapped_with}
use Rattle.wf_model.specs.Reads.{reads_of, margin_of}
use Rattle.wf_model.specs.Outcome.{RunData, input_grids}
use Rattle.wf_model.specs.Patches.{Split, Box, Cell, split_of, in_box, block, grown, cut_unless, own_box, memory_box, cells_in, computes}
use Rattle.wf_model.specs.Exchange.{receiver_of}
use Rattle.wf_model.specs.PatchEffect.{Memory, Setting, Mail, patch_sight, item_setting, computing, taking, between_cells, after_setting, stands_for, fails_at, patch_cells, least_failure}
use Rattle.wf_model.specs.Sound.{IsLevel, IsSoundItem, IsSoundPair}
use Rattle.wf_model.specs.Kept.{IsSoundPatch, IsKeptCell, HoldAlike, SetAlike}
use Rattle.wf_laws.specs.Patches.{cell_read}
use Rattle.wf_laws.proofs.Bools.{and_right, split_bool, equal_of}
use Rattle.wf_laws.proofs.Members.{In, In-flat_map_out, In-range_out, In-Contains, All-In, In-All}
use Rattle.wf_laws.proofs.Cells.{IsCellIn, In-cells_out, cell}
use Rattle.wf_laws.proofs.ValueLaws.{depends_on_reads}
use Rattle.wf_patch_laws.specs.Alike.{PatchesComputeAlike, PatchesTakeAlike, AlikeSettingsFailAlike, AlikeSettingsLeaveAlike}
use Rattle.wf_patch_laws.proofs.KeptCells.{read_kept}

-- an item by its number is one of the plan's, or none
item_or_none : (items : List Item) (n : ℕ) → In (slice_index_or items n no_item) items ⊎ (slice_index_or items n no_item ≡ no_item)
item_or_none [] n = inr refl
item_or_none (x ∷ items) zero = inl (inl refl)
item_or_none (x ∷ items) (suc n) = ⊎_elim (λ h. inl (inr h)) (λ h. inr h) (item_or_none items n)

-- a memory's box by whether the field is staggered
abbrev box_by : Plan → Split → ℕ → ℕ → Bool → Bool → Box
box_by plan split d p x y =
    let lx : ℕ = (domain_of plan d).ide - 1 in
    let ly : ℕ = (domain_of plan d).jde - 1 in
    record {
      x = cut_unless (domain_of plan d).periodic_x 1 (lx + extra x (domain_of plan d).periodic_x) (grown (margin_of plan) (block (p % split.in_x) split.in_x lx (lx + extra x (domain_of plan d).periodic_x - lx)));
      y = cut_unless (domain_of plan d).periodic_y 1 (ly + extra y (domain_of plan d).periodic_y) (grown (margin_of plan) (block (p / split.in_x) split.in_y ly (ly + extra y (domain_of plan d).periodic_y - ly)));
    }

-- levels that are staggered alike have one box
same_memory : (plan : Plan) (split : Split) (d p f g : ℕ) → (field_of plan f).stag_x ≡ (field_of plan g).stag_x → (field_of plan f).stag_y ≡ (field_of plan g).stag_y → memory_box plan split d p f ≡ memory_box plan split d p g
unfolding memory_box own_box
same_memory plan split d p f g x y = ap (λ (b : Bool). box_by plan split d p b (field_of plan f).stag_y) x ∙ ap (λ (b : Bool). box_by plan split d p (field_of plan g).stag_x b) y

-- a cell of another level that is as high and staggered alike
kept_across : (plan : Plan) (split : Split) (d p f g k : ℕ) (j i : ℤ) → IsLevel plan g → (field_of plan f).stag_x ≡ (field_of plan g).stag_x → (field_of plan f).stag_y ≡ (field_of plan g).stag_y → nz plan f ≡ nz plan g →
    IsKeptCell plan split d p (cell f k j i) → IsKeptCell plan split d p (cell g k j i)
kept_across plan split d p f g k j i level x y z h = record {
  field = level;
  within = record {
    level = ((h.within).level.0, subst (λ (n : ℕ). k ≤ n) z (h.within).level.1);
    within = subst (λ (b : Box). in_box b j i ≡ true) (same_memory plan split d p f g x y) (h.within).within;
  };
}

-- the other one of a pair is kept too
swapped_kept : (plan : Plan) (split : Split) (d p one two k f : ℕ) (j i : ℤ) → IsLevel plan one → IsLevel plan two → (one ≡ two → ⊥) → nz plan two ≡ nz plan one → (field_of plan two).stag_x ≡ (field_of plan one).stag_x → (field_of plan two).stag_y ≡ (field_of plan one).stag_y →
    ((f == one) || (f == two)) ≡ true → IsKeptCell plan split d p (cell f k j i) → IsKeptCell plan split d p (cell (swapped_with one two f) k j i)
swapped_kept plan split d p one two k f j i l1 l2 apart z x y which h =
    ⊎_elim
    (λ t. let e : f ≡ one = equal_of f one t in
    subst (λ (g : ℕ). IsKeptCell plan split d p (cell g k j i)) (sym (ap (λ (b : Bool). if b then two else one) t))
    (kept_across plan split d p one two k j i l2 (sym x) (sym y) (sym z) (subst (λ (g : ℕ). IsKeptCell plan split d p (cell g k j i)) e h)))
    (λ t. let e : f ≡ two = equal_of f two (ap (λ (b : Bool). b || (f == two)) (sym t) ∙ which) in
    subst (λ (g : ℕ). IsKeptCell plan split d p (cell g k j i)) (sym (ap (λ (b : Bool). if b then two else one) t))
    (kept_across plan split d p two one k j i l1 x y z (subst (λ (g : ℕ). IsKeptCell plan split d p (cell g k j i)) e h)))
    (split_bool (f == one))

module _ (r : RunData) (layout : Layout) (d p step : ℕ) (m n : Memory) (is : IsSoundPatch r.plan layout d p) (alike : HoldAlike r.plan (split_of layout) d p m n) where
  -- of an item of the plan
  item_alike : (it : Item) → In it r.plan.items → SetAlike r.plan (split_of layout) d p (item_setting r (split_of layout) d p step it m) (item_setting r (split_of layout) d p step it n)
  item_alike (item.Halo parts) h = record { sets = λ c k. refl; value = λ c k t. refl }
  item_alike (item.Period parts) h = record { sets = λ c k. refl; value = λ c k t. refl }
  item_alike (item.Swap one two) h =
      let s = All-In (IsSoundItem r.plan) (item.Swap one two) r.plan.items (is.sound).items h in
      let pairs : IsSoundPair r.plan one = (is.sound).pairs one s.0 in
      let to : (field_of r.plan one).pair ≡ two = s.1 in
      record {
        sets = λ c k. refl;
        value = λ c k t.
            ap (λ (v : ℤ). Some v) (alike (cell (swapped_with one two c.field) c.k c.j c.i)
            (swapped_kept r.plan (split_of layout) d p one two c.k c.field c.j c.i s.0 (subst (λ (g : ℕ). IsLevel r.plan g) to pairs.is) s.2 (subst (λ (g : ℕ). nz r.plan g ≡ nz r.plan one) to pairs.levels)
            (subst (λ (g : ℕ). (field_of r.plan g).stag_x ≡ (field_of r.plan one).stag_x) to pairs.stag_x) (subst (λ (g : ℕ). (field_of r.plan g).stag_y ≡ (field_of r.plan one).stag_y) to pairs.stag_y) t k));
      }
  item_alike (item.Phase ph) h = record {
    sets = λ c k. refl;
    value = λ c k t.
        depends_on_reads r.answers ph.expr (patch_sight r.plan d ph.writes m step c.k c.j c.i) (patch_sight r.plan d ph.writes n step c.k c.j c.i) (record {
          i = refl;
          j = refl;
          k = refl;
          step = refl;
          reads = In-All _ (reads_of ph.expr) (λ rd at.
              alike (cell_read r.plan rd c.k c.j c.i) (read_kept r.plan layout d p ph rd c.k c.j c.i is (In-Contains (item.Phase ph) r.plan.items h) (In-Contains rd (reads_of ph.expr) at)
              (and_right (c.field == ph.writes) (computes r.plan (split_of layout) d p ph c.k c.j c.i) t)));
        });
  }

  -- of an item by its number
  number_alike : (it : Item) → In it r.plan.items ⊎ (it ≡ no_item) → SetAlike r.plan (split_of layout) d p (item_setting r (split_of layout) d p step it m) (item_setting r (split_of layout) d p step it n)
  unfolding no_item
  number_alike it h = ⊎_elim (λ at. item_alike it at) (λ e. subst (λ (x : Item). SetAlike r.plan (split_of layout) d p (item_setting r (split_of layout) d p step x m) (item_setting r (split_of layout) d p step x n)) (sym e) (record { sets = λ c k. refl; value = λ c k t. refl })) h

-- the item of a number
pub item_there : (plan : Plan) (n : ℕ) → In (item_of plan n) plan.items ⊎ (item_of plan n ≡ no_item)
unfolding item_of
item_there plan n = item_or_none plan.items n

-- by the act
act_alike : (r : RunData) (layout : Layout) (e : Entry) (act : Act) (p : ℕ) (m n : Memory) → IsSoundPatch r.plan layout e.domain p → HoldAlike r.plan (split_of layout) e.domain p m n →
    SetAlike r.plan (split_of layout) e.domain p (computing r (split_of layout) e act p m) (computing r (split_of layout) e act p n)
act_alike r layout e Start p m n is alike = record { sets = λ c k. refl; value = λ c k t. refl }
act_alike r layout e Force p m n is alike = record { sets = λ c k. refl; value = λ c k t. refl }
act_alike r layout e Feedback p m n is alike = record { sets = λ c k. refl; value = λ c k t. refl }
act_alike r layout e (Table number) p m n is alike = number_alike r layout e.domain p e.step m n is alike (item_of r.plan number) (item_there r.plan number)
act_alike r layout e (Emit s) p m n is alike = record { sets = λ c k. refl; value = λ c k t. refl }

-- the law on computing
pub compute_alike : PatchesComputeAlike
compute_alike r layout e p m n is alike = act_alike r layout e e.act p m n is alike

-- what a start makes of an old number
abbrev start_value : RunData → ℕ → Mail → ℕ → ℕ → ℤ → ℤ → ℤ → Option ℤ
start_value r c mail f k j i old =
    let parents = or_old (λ id. between_cells r c mail id (record { field = f; k = k; j = j; i = i })) old (field_of r.plan f).down in
    if (field_of r.plan f).input && (domain_of r.plan c).from_file
    then and_then parents (λ v. Some (input_grids r c f k (point_y r.plan c f j) (point_x r.plan c f i))) else parents

-- taking by the act
taken_alike : (r : RunData) (split : Split) (e : Entry) (act : Act) (p : ℕ) (mail : Mail) (m n : Memory) → HoldAlike r.plan split (receiver_of r.plan e act) p m n →
    SetAlike r.plan split (receiver_of r.plan e act) p (taking r split e act p mail m) (taking r split e act p mail n)
taken_alike r split e Start p mail m n alike = record { sets = λ c k. refl; value = λ c k t. ap (λ (v : ℤ). start_value r e.domain mail c.field c.k c.j c.i v) (alike c k) }
taken_alike r split e Force p mail m n alike = record { sets = λ c k. refl; value = λ c k t. refl }
taken_alike r split e Feedback p mail m n alike = record { sets = λ c k. refl; value = λ c k t. refl }
taken_alike r split e (Table number) p mail m n alike = record { sets = λ c k. refl; value = λ c k t. refl }
taken_alike r split e (Emit s) p mail m n alike = record { sets = λ c k. refl; value = λ c k t. refl }

-- the law on taking
pub take_alike : PatchesTakeAlike
take_alike r split e p mail m n alike = taken_alike r split e e.act p mail m n alike

-- each cell of a patch's memory is kept
cells_kept : (plan : Plan) (split : Split) (d p : ℕ) (c : Cell) → In c (patch_cells plan split d p) → IsKeptCell plan split d p c
cells_kept plan split d p c h =
    let f = In-flat_map_out (λ f. cells_in plan f (memory_box plan split d p f)) c (levels_of plan) h in
    let b : IsCellIn plan f.0 (memory_box plan split d p f.0) c = In-cells_out plan f.0 (memory_box plan split d p f.0) c f.2 in
    let range = In-range_out f.0 0 (length plan.fields) f.1 in
    record {
      field = subst (λ (g : ℕ). g < length plan.fields) (sym b.field) (below f.0 (length plan.fields) range.1);
      within = record {
        level = (b.low, subst (λ (g : ℕ). c.k ≤ nz plan g) (sym b.field) b.high);
        within = subst (λ (g : ℕ). in_box (memory_box plan split d p g) c.j c.i ≡ true) (sym b.field) b.box;
      };
    }
  where
    below : (a n : ℕ) → a < 0 + n → a < n
    below a n h = omega arith

-- tests that agree on the members of a list
any_alike : {X : Type 0} (f g : X → Bool) (xs : List X) → ((x : X) → In x xs → f x ≡ g x) → list_any f xs ≡ list_any g xs
any_alike f g [] h = refl
any_alike f g (x ∷ xs) h = λ n. h x (inl refl) n || any_alike f g xs (λ y t. h y (inr t)) n

-- two settings fail alike at a cell
fails_alike : (plan : Plan) (split : Split) (d p : ℕ) (a b : Setting) (c : Cell) → SetAlike plan split d p a b → IsKeptCell plan split d p c → fails_at a c ≡ fails_at b c
fails_alike plan split d p a b c same k =
    ⊎_elim
    (λ t. ap (λ (o : Option ℤ). a.sets c.field c.k c.j c.i && is_none o) (same.value c k t) ∙ ap (λ (x : Bool). x && is_none (b.value c.field c.k c.j c.i)) (same.sets c k))
    (λ t. ap (λ (x : Bool). x && is_none (a.value c.field c.k c.j c.i)) t ∙ sym (ap (λ (x : Bool). x && is_none (b.value c.field c.k c.j c.i)) (sym (same.sets c k) ∙ t)))
    (split_bool (a.sets c.field c.k c.j c.i))

-- the law on failures
pub failure_alike : AlikeSettingsFailAlike
unfolding least_failure
failure_alike plan split d p a b same =
    ap (λ (t : Spot → Bool). find t (spots plan d))
    (λ n x. any_alike (λ c. stands_for plan d x c && fails_at a c) (λ c. stands_for plan d x c && fails_at b c) (patch_cells plan split d p)
    (λ c h. ap (λ (y : Bool). stands_for plan d x c && y) (fails_alike plan split d p a b c same (cells_kept plan split d p c h))) n)

-- the law on what is left
pub leave_alike : AlikeSettingsLeaveAlike
unfolding after_setting
leave_alike plan split d p a b m n same alike c k =
    ⊎_elim
    (λ t. ap (λ (x : Bool). if x then unwrap_or (a.value c.field c.k c.j c.i) (pos 0) else m c.field c.k c.j c.i) t
    ∙ ap (λ (o : Option ℤ). unwrap_or o (pos 0)) (same.value c k t)
    ∙ sym (ap (λ (x : Bool). if x then unwrap_or (b.value c.field c.k c.j c.i) (pos 0) else n c.field c.k c.j c.i) (sym (same.sets c k) ∙ t)))
    (λ t. ap (λ (x : Bool). if x then unwrap_or (a.value c.field c.k c.j c.i) (pos 0) else m c.field c.k c.j c.i) t
    ∙ alike c k
    ∙ sym (ap (λ (x : Bool). if x then unwrap_or (b.value c.field c.k c.j c.i) (pos 0) else n c.field c.k c.j c.i) (sym (same.sets c k) ∙ t)))
    (split_bool (a.sets c.field c.k c.j c.i))
