-- The parts of an item.
use Rattle.std.proofs.Common.{◌≡◌, ℕ, ◌<◌, List, [], length, refl, ap, ◌∙◌}
use Rattle.std.specs.Prelude.{filter, ◌==◌}
use Rattle.wf_model.specs.declared.layout.Layout.{Layout}
use Rattle.wf_model.specs.declared.plan.Plan.{Plan}
use Rattle.wf_model.specs.declared.plan.HaloPart.{HaloPart}
use Rattle.wf_model.specs.declared.plan.PeriodPart.{PeriodPart}
use Rattle.wf_model.specs.declared.plan.Item.{Item}
use Rattle.wf_model.specs.declared.plan.Item.TheVariants as item
use Rattle.wf_model.specs.declared.script.Act.{Act}
use Rattle.wf_model.specs.declared.script.Act.TheVariants.{Start, Force, Feedback, Table, Emit}
use Rattle.wf_model.specs.declared.script.Entry.{Entry}
use Rattle.wf_model.specs.Agreement.{IsPatch}
use Rattle.wf_model.specs.Exchange.{carried}
use Rattle.wf_model.specs.Outcome.{RunData}
use Rattle.wf_model.specs.Patches.{Cell, split_of}
use Rattle.wf_model.specs.Plans.{item_of, no_item}
use Rattle.wf_model.specs.Ranges.{Within, IsRangedItem}
use Rattle.wf_model.specs.Shapes.{cell_owner, fetched_cells, halo_cells, period_cells}
use Rattle.wf_model.specs.Sound.{IsDomain, IsLevel, IsSoundHaloPart, IsSoundItem, IsSoundLayout}
use Rattle.wf_model.specs.SoundRun.{IsSoundRun}
use Rattle.wf_laws.proofs.Members.{In, All-In, In-All, In-get_or}
use Rattle.wf_halo.proofs.Lists.{filter-flat_map}
use Rattle.wf_halo.specs.declared.parts.Between.{Between}
use Rattle.wf_halo.specs.Exchange.{AreLinked, halo_list, item_cells, period_list}
use Rattle.wf_halo.specs.Parts.{IsLink, around}

module _ (plan : Plan) (layout : Layout) (b : Between) where
  pub halo_items : (parts : List HaloPart) → item_cells plan layout b (item.Halo parts) ≡ halo_list plan layout b parts
  unfolding fetched_cells
  halo_items parts = filter-flat_map (λ (c : Cell). cell_owner plan (split_of layout) b.domain c == b.from) (halo_cells plan (split_of layout) b.domain b.to) parts

  pub period_items : (parts : List PeriodPart) → item_cells plan layout b (item.Period parts) ≡ period_list plan layout b parts
  unfolding fetched_cells
  period_items parts = filter-flat_map (λ (c : Cell). cell_owner plan (split_of layout) b.domain c == b.from) (period_cells plan (split_of layout) b.domain b.to) parts

  pub no_items : (it : Item) (one two : ℕ) → it ≡ item.Swap one two → item_cells plan layout b it ≡ []
  unfolding fetched_cells
  no_items it one two e = ap (item_cells plan layout b) e

  pub no_cells : (it : Item) → ((parts : List HaloPart) → it ≡ item.Halo parts → ⊥) → ((parts : List PeriodPart) → it ≡ item.Period parts → ⊥) → item_cells plan layout b it ≡ []
  unfolding fetched_cells
  no_cells (item.Halo parts) f g = absurd (f parts refl)
  no_cells (item.Period parts) f g = absurd (g parts refl)
  no_cells (item.Swap one two) f g = refl
  no_cells (item.Phase ph) f g = refl

  -- what a message carries
  pub carried_items : (it : Item) (e : Entry) (n : ℕ) → e.act ≡ Table n → e.domain ≡ b.domain → item_of plan n ≡ it → carried plan (split_of layout) e e.act b.from b.to ≡ item_cells plan layout b it
  unfolding carried
  carried_items it e n act domain is =
      ap (λ (t : Act). carried plan (split_of layout) e t b.from b.to) act
      ∙ (λ m. filter (λ (c : Cell). cell_owner plan (split_of layout) (domain m) c == b.from) (fetched_cells plan (split_of layout) (domain m) (is m) b.to))

number_of : Act → ℕ
number_of Start = 0
number_of Force = 0
number_of Feedback = 0
number_of (Table n) = n
number_of (Emit s) = 0

-- an act has one number
pub table_same : (m n : ℕ) → Table m ≡ Table n → m ≡ n
unfolding number_of
table_same m n e = ap number_of e

-- an item of the plan
pub item_there : (plan : Plan) (n : ℕ) → n < length plan.items → In (item_of plan n) plan.items
unfolding item_of
item_there plan n h = In-get_or plan.items n no_item h

-- its parts are between the patches
module _ (r : RunData) (layout : Layout) (b : Between) (sound : IsSoundRun r) (laid : IsSoundLayout r.plan layout) (domain : IsDomain r.plan b.domain) (receiver : IsPatch layout b.to) (sender : IsPatch layout b.from) where
  by_item : (it : Item) → IsSoundItem r.plan it → IsRangedItem it → AreLinked r layout b it
  by_item (item.Halo parts) s q =
      In-All (IsLink r layout b) parts (λ x at.
      let one : IsSoundHaloPart r.plan x = All-In (IsSoundHaloPart r.plan) x parts s at in
      record { sound = sound; laid = laid; domain = domain; receiver = receiver; sender = sender; level = one.level; small = (All-In (λ (p : HaloPart). Within 1 6 p.radius) x parts q at).1 })
  by_item (item.Period parts) s q =
      In-All (λ (x : PeriodPart). IsLink r layout b (around x)) parts (λ x at.
      record { sound = sound; laid = laid; domain = domain; receiver = receiver; sender = sender; level = All-In (λ (p : PeriodPart). IsLevel r.plan p.field) x parts s at; small = (All-In (λ (p : PeriodPart). Within 1 6 p.width) x parts q at).1 })
  by_item (item.Swap one two) s q = tt
  by_item (item.Phase ph) s q = tt

  pub linked : (it : Item) → In it (r.plan).items → AreLinked r layout b it
  linked it at = by_item it (All-In (IsSoundItem r.plan) it (r.plan).items (sound.sound).items at) (All-In IsRangedItem it (r.plan).items (sound.ranged).items at)
