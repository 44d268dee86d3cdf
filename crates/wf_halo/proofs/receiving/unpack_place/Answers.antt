use Rattle.std.proofs.Common.{ℕ, ◌≤◌, ◌<◌, List, length, sym, ap, subst, ◌∙◌, All}
use Rattle.wf_model.specs.declared.plan.Plan.{Plan}
use Rattle.wf_model.specs.declared.script.Entry.{Entry}
use Rattle.wf_model.specs.Agreement.{IsPatch}
use Rattle.wf_model.specs.Exchange.{carried}
use Rattle.wf_model.specs.Outcome.{entry_at}
use Rattle.wf_model.specs.Patches.{Cell, split_of}
use Rattle.wf_model.specs.Plans.{item_of}
use Rattle.wf_model.specs.Sound.{IsDomain}
use Rattle.wf_field.specs.Kept.{Keeps}
use Rattle.wf_halo.specs.Exchange.{AreLinked}
use Rattle.wf_halo.specs.Walks.{SetsBy}
use Rattle.wf_halo.proofs.Items.{carried_items, item_there, linked, table_same}
use Rattle.wf_halo.proofs.Messages.{kept_all}
use Rattle.wf_halo.proofs.receiving.unpack_place.Goals as goal

pub unpack_item-requires-clause-links : goal.unpack_item-requires-clause-links
unpack_item-requires-clause-links g c =
    let r = g.N.RunName.run in
    let layout = g.N.RunName.layout in
    let a = c.args in
    let b = a.between in
    let q = c.requires in
    let act = ap (λ (e : Entry). e.act) (sym c.entry.ensures) ∙ c.in-Table.is in
    let is = c.item.ensures ∙ ap (λ (x : Plan). item_of x c.in-Table.number) c.plan.ensures in
    let all = sym (carried_items r.plan layout b c.item.result.now (entry_at r a.place) c.in-Table.number act (q.place.domain ∙ sym q.receiver.domain) (sym is))
    ∙ ap (λ (n : ℕ). carried r.plan (split_of layout) (entry_at r a.place) (entry_at r a.place).act b.from n) q.receiver.patch in
    let same = table_same q.place.number c.in-Table.number (sym q.place.act ∙ act) in
    subst (AreLinked r layout b) (sym is)
    (linked r layout b q.sound q.held.laid (subst (IsDomain r.plan) (sym q.receiver.domain) q.held.domain) (subst (IsPatch layout) (sym q.receiver.patch) q.held.patch) q.from (item_of r.plan c.in-Table.number)
    (item_there r.plan c.in-Table.number (subst (λ (n : ℕ). n < length (r.plan).items) same q.place.item)))

pub unpack_item-requires-clause-kept : goal.unpack_item-requires-clause-kept
unpack_item-requires-clause-kept g c =
    let r = g.N.RunName.run in
    let layout = g.N.RunName.layout in
    let a = c.args in
    let b = a.between in
    let q = c.requires in
    let act = ap (λ (e : Entry). e.act) (sym c.entry.ensures) ∙ c.in-Table.is in
    let is = c.item.ensures ∙ ap (λ (x : Plan). item_of x c.in-Table.number) c.plan.ensures in
    let all = sym (carried_items r.plan layout b c.item.result.now (entry_at r a.place) c.in-Table.number act (q.place.domain ∙ sym q.receiver.domain) (sym is))
    ∙ ap (λ (n : ℕ). carried r.plan (split_of layout) (entry_at r a.place) (entry_at r a.place).act b.from n) q.receiver.patch in
    subst (λ (cs : List Cell). All (Keeps r.plan layout a.memory.now) cs) (sym all) (kept_all r layout a.place a.memory.now.domain b.from a.memory.now.patch q.place q.held q.from)

pub unpack_item-requires-clause-long : goal.unpack_item-requires-clause-long
unpack_item-requires-clause-long g c =
    let r = g.N.RunName.run in
    let layout = g.N.RunName.layout in
    let a = c.args in
    let b = a.between in
    let q = c.requires in
    let act = ap (λ (e : Entry). e.act) (sym c.entry.ensures) ∙ c.in-Table.is in
    let is = c.item.ensures ∙ ap (λ (x : Plan). item_of x c.in-Table.number) c.plan.ensures in
    let all = sym (carried_items r.plan layout b c.item.result.now (entry_at r a.place) c.in-Table.number act (q.place.domain ∙ sym q.receiver.domain) (sym is))
    ∙ ap (λ (n : ℕ). carried r.plan (split_of layout) (entry_at r a.place) (entry_at r a.place).act b.from n) q.receiver.patch in
    subst (λ (cs : List Cell). length cs ≤ length a.values.now) (sym all) q.long

pub returns-in-Table-clause-set : goal.returns-in-Table-clause-set
returns-in-Table-clause-set g c =
    let r = g.N.RunName.run in
    let layout = g.N.RunName.layout in
    let a = c.args in
    let b = a.between in
    let q = c.requires in
    let act = ap (λ (e : Entry). e.act) (sym c.entry.ensures) ∙ c.in-Table.is in
    let is = c.item.ensures ∙ ap (λ (x : Plan). item_of x c.in-Table.number) c.plan.ensures in
    let all = sym (carried_items r.plan layout b c.item.result.now (entry_at r a.place) c.in-Table.number act (q.place.domain ∙ sym q.receiver.domain) (sym is))
    ∙ ap (λ (n : ℕ). carried r.plan (split_of layout) (entry_at r a.place) (entry_at r a.place).act b.from n) q.receiver.patch in
    subst (λ (cs : List Cell). SetsBy r.plan layout a.values.now cs a.memory.now c.unpack_item.new.memory) all c.unpack_item.ensures.set
