use Rattle.std.proofs.Common.{◌≡◌, ◌≤◌, List, [], length, sym, ap, subst, ◌∙◌, All}
use Rattle.wf_model.specs.Patches.{Cell, split_of}
use Rattle.wf_field.specs.Kept.{Keeps}
use Rattle.wf_field.proofs.Joining.{none_kept, cells_kept}
use Rattle.wf_halo.specs.Exchange.{halo_list, item_cells, period_list}
use Rattle.wf_halo.specs.Walks.{SetsBy}
use Rattle.wf_halo.proofs.Items.{halo_items, period_items, no_cells}
use Rattle.wf_halo.proofs.receiving.unpack_item.Goals as goal

pub unpack_halos-requires-clause-kept : goal.unpack_halos-requires-clause-kept
unpack_halos-requires-clause-kept g c =
    let a = c.args in
    let r = g.N.RunName.run in
    let layout = g.N.RunName.layout in
    let all = ap (halo_list r.plan layout a.between) c.as_slice.ensures ∙ sym (halo_items r.plan layout a.between c.in-Halo.parts) ∙ ap (item_cells r.plan layout a.between) (sym c.in-Halo.is) in
    subst (λ (cs : List Cell). All (Keeps r.plan layout a.memory.now) cs) (sym all) c.requires.kept

pub unpack_halos-requires-clause-long : goal.unpack_halos-requires-clause-long
unpack_halos-requires-clause-long g c =
    let a = c.args in
    let r = g.N.RunName.run in
    let layout = g.N.RunName.layout in
    let all = ap (halo_list r.plan layout a.between) c.as_slice.ensures ∙ sym (halo_items r.plan layout a.between c.in-Halo.parts) ∙ ap (item_cells r.plan layout a.between) (sym c.in-Halo.is) in
    subst (λ (cs : List Cell). length cs ≤ length a.values.now) (sym all) c.requires.long

pub returns-in-Halo-clause-set : goal.returns-in-Halo-clause-set
returns-in-Halo-clause-set g c =
    let a = c.args in
    let r = g.N.RunName.run in
    let layout = g.N.RunName.layout in
    let all = ap (halo_list r.plan layout a.between) c.as_slice.ensures ∙ sym (halo_items r.plan layout a.between c.in-Halo.parts) ∙ ap (item_cells r.plan layout a.between) (sym c.in-Halo.is) in
    subst (λ (cs : List Cell). SetsBy r.plan layout a.values.now cs a.memory.now c.unpack_halos.new.memory) all c.unpack_halos.ensures.set

pub unpack_periods-requires-clause-kept : goal.unpack_periods-requires-clause-kept
unpack_periods-requires-clause-kept g c =
    let a = c.args in
    let r = g.N.RunName.run in
    let layout = g.N.RunName.layout in
    let all = ap (period_list r.plan layout a.between) c.as_slice-in-Period.ensures ∙ sym (period_items r.plan layout a.between c.in-Period.parts) ∙ ap (item_cells r.plan layout a.between) (sym c.in-Period.is) in
    subst (λ (cs : List Cell). All (Keeps r.plan layout a.memory.now) cs) (sym all) c.requires.kept

pub unpack_periods-requires-clause-long : goal.unpack_periods-requires-clause-long
unpack_periods-requires-clause-long g c =
    let a = c.args in
    let r = g.N.RunName.run in
    let layout = g.N.RunName.layout in
    let all = ap (period_list r.plan layout a.between) c.as_slice-in-Period.ensures ∙ sym (period_items r.plan layout a.between c.in-Period.parts) ∙ ap (item_cells r.plan layout a.between) (sym c.in-Period.is) in
    subst (λ (cs : List Cell). length cs ≤ length a.values.now) (sym all) c.requires.long

pub returns-in-Period-clause-set : goal.returns-in-Period-clause-set
returns-in-Period-clause-set g c =
    let a = c.args in
    let r = g.N.RunName.run in
    let layout = g.N.RunName.layout in
    let all = ap (period_list r.plan layout a.between) c.as_slice-in-Period.ensures ∙ sym (period_items r.plan layout a.between c.in-Period.parts) ∙ ap (item_cells r.plan layout a.between) (sym c.in-Period.is) in
    subst (λ (cs : List Cell). SetsBy r.plan layout a.values.now cs a.memory.now c.unpack_periods.new.memory) all c.unpack_periods.ensures.set

pub returns-in-Swap-clause-set : goal.returns-in-Swap-clause-set
returns-in-Swap-clause-set g c =
    let a = c.args in
    let m = a.memory.now in
    let r = g.N.RunName.run in
    let layout = g.N.RunName.layout in
    let none : item_cells r.plan layout a.between a.item.now ≡ [] = no_cells r.plan layout a.between a.item.now (λ parts e. absurd (cc)) (λ parts e. absurd (cc)) in
    λ v b. cells_kept r.plan (split_of layout) m.domain m.patch v [] (item_cells r.plan layout a.between a.item.now) m.levels m.levels (sym none) (none_kept r.plan (split_of layout) m.domain m.patch v m.levels)

pub returns-in-Phase-clause-set : goal.returns-in-Phase-clause-set
returns-in-Phase-clause-set g c =
    let a = c.args in
    let m = a.memory.now in
    let r = g.N.RunName.run in
    let layout = g.N.RunName.layout in
    let none : item_cells r.plan layout a.between a.item.now ≡ [] = no_cells r.plan layout a.between a.item.now (λ parts e. absurd (cc)) (λ parts e. absurd (cc)) in
    λ v b. cells_kept r.plan (split_of layout) m.domain m.patch v [] (item_cells r.plan layout a.between a.item.now) m.levels m.levels (sym none) (none_kept r.plan (split_of layout) m.domain m.patch v m.levels)
