-- Messages and pieces that are made of the lists have the numbers of the function that they hold.
use Rattle.std.proofs.Common.{◌≡◌, ⊎_elim, ℕ, ◌+◌, ◌<◌, ◌≤◌, true, List, length, sym, subst, arith}
use Rattle.std.specs.Prelude.{◌==◌, flat_map}
use Rattle.std.specs.List.{list_any}
use Rattle.wf_model.specs.declared.layout.Layout.{Layout}
use Rattle.wf_model.specs.declared.plan.Plan.{Plan}
use Rattle.wf_model.specs.declared.plan.Item.{Item}
use Rattle.wf_model.specs.declared.script.Act.{Act}
use Rattle.wf_model.specs.declared.script.Act.TheVariants.{Start, Force, Feedback, Table, Emit}
use Rattle.wf_model.specs.declared.script.Entry.{Entry}
use Rattle.wf_model.specs.Plans.{domain_of, item_of, no_item, levels_of, nz}
use Rattle.wf_model.specs.Patches.{Split, Cell, split_of, own_box, is_own, in_box, cells_in}
use Rattle.wf_model.specs.Shapes.{cell_owner, fetched_cells}
use Rattle.wf_model.specs.Exchange.{same_cell, sender_of, carried, around, cells_behind, start_cells, force_cells, feedback_cells, owned_among}
use Rattle.wf_model.specs.Sound.{IsLevel}
use Rattle.wf_model.specs.Agreement.{IsPatch, IsOwnCell}
use Rattle.wf_model.specs.Kept.{IsSoundPatch, IsKeptCell}
use Rattle.wf_laws.proofs.Members.{In, In-flat_map_out, In-filter_out, In-range_out, map-same}
use Rattle.wf_laws.proofs.Cells.{IsCellIn, In-cells_out}
use Rattle.wf_patch_laws.specs.InMemory.{point_cell}
use Rattle.wf_patch_laws.specs.Shown.{ListsSendAsTheMemory, ListsPostAsTheMemory}
use Rattle.wf_patch_laws.proofs.KeptCells.{own_kept, item_kept}
use Rattle.wf_patch_laws.proofs.AlikeSettings.{item_there}
use Rattle.wf_patch_laws.proofs.SentCells.{act_own}

-- own cells among those that are asked for are of levels of the plan
among_level : (plan : Plan) (split : Split) (d q : ℕ) (asked : List Cell) (c : Cell) → In c (owned_among plan split d q asked) → IsLevel plan c.field
among_level plan split d q asked c h =
    let a = In-filter_out (λ (x : Cell). list_any (same_cell x) asked) c (flat_map (λ f. cells_in plan f (own_box plan split d q f)) (levels_of plan)) h in
    let b = In-flat_map_out (λ (f : ℕ). cells_in plan f (own_box plan split d q f)) c (levels_of plan) a.0 in
    let e : IsCellIn plan b.0 (own_box plan split d q b.0) c = In-cells_out plan b.0 (own_box plan split d q b.0) c b.2 in
    subst (λ (f : ℕ). IsLevel plan f) (sym e.field) (below b.0 (length plan.fields) (In-range_out b.0 0 (length plan.fields) b.1).1)
  where
    below : (a n : ℕ) → a < 0 + n → a < n
    below a n h = omega arith

-- no item fetches nothing
none_fetched : (plan : Plan) (split : Split) (d p : ℕ) (c : Cell) → In c (fetched_cells plan split d no_item p) → ⊥
unfolding fetched_cells no_item
none_fetched plan split d p c h = h

-- the level of a fetched cell
fetched_level : (plan : Plan) (layout : Layout) (d p n : ℕ) (c : Cell) → IsSoundPatch plan layout d p → In c (fetched_cells plan (split_of layout) d (item_of plan n) p) → IsLevel plan c.field
fetched_level plan layout d p n c is h =
    ⊎_elim (λ at. let k : IsKeptCell plan (split_of layout) d p c = item_kept plan layout d p (item_of plan n) c is at h in k.field)
    (λ none. absurd (none_fetched plan (split_of layout) d p c (subst (λ (it : Item). In c (fetched_cells plan (split_of layout) d it p)) none h))) (item_there plan n)

-- the level of a cell of a message
carried_level : (plan : Plan) (layout : Layout) (e : Entry) (act : Act) (from to : ℕ) (c : Cell) → IsSoundPatch plan layout (sender_of plan e act) from → IsPatch layout to → In c (carried plan (split_of layout) e act from to) → IsLevel plan c.field
unfolding carried
carried_level plan layout e Start from to c is there h = among_level plan (split_of layout) (domain_of plan e.domain).parent from (flat_map (around plan e.domain) (start_cells plan (split_of layout) e.domain to)) c h
carried_level plan layout e Force from to c is there h = among_level plan (split_of layout) (domain_of plan e.domain).parent from (flat_map (around plan e.domain) (force_cells plan (split_of layout) e.domain to)) c h
carried_level plan layout e Feedback from to c is there h = among_level plan (split_of layout) e.domain from (flat_map (cells_behind plan e.domain) (feedback_cells plan (split_of layout) e.domain to)) c h
carried_level plan layout e (Table n) from to c is there h =
    fetched_level plan layout e.domain to n c (record { sound = is.sound; laid = is.laid; domain = is.domain; patch = there })
    (In-filter_out (λ x. cell_owner plan (split_of layout) e.domain x == from) c (fetched_cells plan (split_of layout) e.domain (item_of plan n) to) h).0
carried_level plan layout e (Emit s) from to c is there h = absurd h

-- the law on messages
pub send_same : ListsSendAsTheMemory
send_same plan layout e from to lists m is there shows =
    map-same _ _ (carried plan (split_of layout) e e.act from to) (λ c h.
    shows.holds (point_cell plan (sender_of plan e e.act) c)
    (own_kept plan layout (sender_of plan e e.act) from (point_cell plan (sender_of plan e e.act) c) is (carried_level plan layout e e.act from to c is there h)
    (act_own plan layout e e.act from to c is.laid is.domain is.patch h)))

-- the cells of a piece are own
piece_own : (plan : Plan) (split : Split) (d p f : ℕ) (c : Cell) → In c (cells_in plan f (own_box plan split d p f)) → IsLevel plan f → IsLevel plan c.field × IsOwnCell plan split d p c
unfolding is_own
piece_own plan split d p f c h level =
    let b : IsCellIn plan f (own_box plan split d p f) c = In-cells_out plan f (own_box plan split d p f) c h in (
      subst (λ (g : ℕ). IsLevel plan g) (sym b.field) level,
      record {
        level = (b.low, subst (λ (g : ℕ). c.k ≤ nz plan g) (sym b.field) b.high);
        own = subst (λ (g : ℕ). in_box (own_box plan split d p g) c.j c.i ≡ true) (sym b.field) b.box;
      },
    )

-- the law on pieces
pub post_same : ListsPostAsTheMemory
post_same plan layout d p f lists m is level shows =
    map-same _ _ (cells_in plan f (own_box plan (split_of layout) d p f)) (λ c h.
    let w = piece_own plan (split_of layout) d p f c h level in
    shows.holds c (own_kept plan layout d p c is w.0 w.1))
