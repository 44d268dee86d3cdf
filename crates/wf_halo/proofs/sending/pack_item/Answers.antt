use Rattle.std.proofs.Common.{◌≡◌, List, [], ◌++◌, map, sym, ap, subst, ◌∙◌}
use Rattle.std.specs.Prelude.{OnOk}
use Rattle.wf_model.specs.Core.{memory_point}
use Rattle.wf_model.specs.Patches.{Cell}
use Rattle.wf_field.specs.Kept.{number_in}
use Rattle.wf_halo.specs.Exchange.{Adds, halo_list, item_cells, period_list}
use Rattle.wf_halo.proofs.Items.{halo_items, period_items, no_cells}
use Rattle.wf_halo.proofs.Lists.{alone}
use Rattle.wf_halo.proofs.sending.pack_item.Goals as goal

pub returns-in-Halo : goal.returns-in-Halo
returns-in-Halo g c =
    let a = c.args in
    let r = g.N.RunName.run in
    let layout = g.N.RunName.layout in
    let all = ap (halo_list r.plan layout a.between) c.as_slice.ensures ∙ sym (halo_items r.plan layout a.between c.in-Halo.parts) ∙ ap (item_cells r.plan layout a.between) (sym c.in-Halo.is) in
    subst (λ (cs : List Cell). OnOk c.pack_halos.result (Adds r layout a.memory.now cs a.values.now.items c.pack_halos.new.values.items)) all c.pack_halos.ensures

pub returns-in-Period : goal.returns-in-Period
returns-in-Period g c =
    let a = c.args in
    let r = g.N.RunName.run in
    let layout = g.N.RunName.layout in
    let all = ap (period_list r.plan layout a.between) c.as_slice-in-Period.ensures ∙ sym (period_items r.plan layout a.between c.in-Period.parts) ∙ ap (item_cells r.plan layout a.between) (sym c.in-Period.is) in
    subst (λ (cs : List Cell). OnOk c.pack_periods.result (Adds r layout a.memory.now cs a.values.now.items c.pack_periods.new.values.items)) all c.pack_periods.ensures

pub returns-in-Swap : goal.returns-in-Swap
returns-in-Swap g c =
    let a = c.args in
    let r = g.N.RunName.run in
    let layout = g.N.RunName.layout in
    let none : item_cells r.plan layout a.between a.item.now ≡ [] = no_cells r.plan layout a.between a.item.now (λ parts e. absurd (cc)) (λ parts e. absurd (cc)) in
    sym (alone a.values.now.items) ∙ ap (λ (cs : List Cell). a.values.now.items ++ map (memory_point r.plan a.memory.now.domain (number_in r.plan layout a.memory.now)) cs) (sym none)

pub returns-in-Phase : goal.returns-in-Phase
returns-in-Phase g c =
    let a = c.args in
    let r = g.N.RunName.run in
    let layout = g.N.RunName.layout in
    let none : item_cells r.plan layout a.between a.item.now ≡ [] = no_cells r.plan layout a.between a.item.now (λ parts e. absurd (cc)) (λ parts e. absurd (cc)) in
    sym (alone a.values.now.items) ∙ ap (λ (cs : List Cell). a.values.now.items ++ map (memory_point r.plan a.memory.now.domain (number_in r.plan layout a.memory.now)) cs) (sym none)
