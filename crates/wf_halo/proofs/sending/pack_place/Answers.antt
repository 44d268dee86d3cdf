use Rattle.std.proofs.Common.{ℕ, ◌<◌, List, length, sym, ap, subst, ◌∙◌}
use Rattle.std.specs.Prelude.{OnOk}
use Rattle.wf_model.specs.declared.plan.Plan.{Plan}
use Rattle.wf_model.specs.declared.script.Entry.{Entry}
use Rattle.wf_model.specs.Agreement.{IsPatch}
use Rattle.wf_model.specs.Outcome.{entry_at}
use Rattle.wf_model.specs.Patches.{Cell, split_of}
use Rattle.wf_model.specs.Plans.{item_of}
use Rattle.wf_model.specs.Exchange.{carried}
use Rattle.wf_model.specs.Sound.{IsDomain}
use Rattle.wf_halo.specs.Exchange.{Adds, AreLinked}
use Rattle.wf_halo.proofs.Items.{carried_items, item_there, linked, table_same}
use Rattle.wf_halo.proofs.sending.pack_place.Goals as goal

pub pack_item-requires-clause-links : goal.pack_item-requires-clause-links
pack_item-requires-clause-links g c =
    let r = g.N.RunName.run in
    let layout = g.N.RunName.layout in
    let b = c.args.between in
    let q = c.requires in
    let act = ap (λ (e : Entry). e.act) (sym c.entry.ensures) ∙ c.in-Table.is in
    let same = table_same q.place.number c.in-Table.number (sym q.place.act ∙ act) in
    let is = c.item.ensures ∙ ap (λ (x : Plan). item_of x c.in-Table.number) c.plan.ensures in
    subst (AreLinked r layout b) (sym is)
    (linked r layout b q.sound q.held.laid (subst (IsDomain r.plan) (sym q.sender.domain) q.held.domain) q.to (subst (IsPatch layout) (sym q.sender.patch) q.held.patch) (item_of r.plan c.in-Table.number)
    (item_there r.plan c.in-Table.number (subst (λ (n : ℕ). n < length (r.plan).items) same q.place.item)))

pub returns-in-Table : goal.returns-in-Table
returns-in-Table g c =
    let r = g.N.RunName.run in
    let layout = g.N.RunName.layout in
    let a = c.args in
    let b = a.between in
    let q = c.requires in
    let act = ap (λ (e : Entry). e.act) (sym c.entry.ensures) ∙ c.in-Table.is in
    let is = c.item.ensures ∙ ap (λ (x : Plan). item_of x c.in-Table.number) c.plan.ensures in
    let all = sym (carried_items r.plan layout b c.item.result.now (entry_at r a.place) c.in-Table.number act (q.place.domain ∙ sym q.sender.domain) (sym is))
    ∙ ap (λ (n : ℕ). carried r.plan (split_of layout) (entry_at r a.place) (entry_at r a.place).act n b.to) q.sender.patch in
    subst (λ (cs : List Cell). OnOk c.pack_item.result (Adds r layout a.memory.now cs a.values.now.items c.pack_item.new.values.items)) all c.pack_item.ensures
