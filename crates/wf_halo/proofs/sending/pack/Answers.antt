use Rattle.std.proofs.Common.{ℕ, List, ◌++◌, map, refl, sym, ap, ◌∙◌}
use Rattle.std.specs.Prelude.{ℤ}
use Rattle.wf_model.specs.Core.{memory_point}
use Rattle.wf_model.specs.Exchange.{carried}
use Rattle.wf_model.specs.Held.{message_numbers}
use Rattle.wf_model.specs.Kept.{IsSoundPatch}
use Rattle.wf_model.specs.Outcome.{entry_at}
use Rattle.wf_model.specs.Patches.{split_of}
use Rattle.wf_field.specs.Kept.{number_in}
use Rattle.wf_halo.proofs.Messages.{numbers_are}
use Rattle.wf_halo.proofs.sending.pack.Goals as goal

pub new-requires : goal.new-requires
new-requires g c =
    let r = g.N.RunName.run in
    let layout = g.N.RunName.layout in
    let a = c.args in
    let m = a.memory.now in
    let q = c.requires in
    let held = c.domain.ensures.sound in
    let receives : IsSoundPatch r.plan layout m.domain a.to = record { sound = held.sound; laid = held.laid; domain = held.domain; patch = q.to } in
    c.in_ok-pack_place.ensures
    ∙ ap (λ (xs : List ℤ). xs ++ map (memory_point r.plan m.domain (number_in r.plan layout m)) (carried r.plan (split_of layout) (entry_at r a.place) (entry_at r a.place).act m.patch a.to)) c.new-values.ensures.items
    ∙ numbers_are r layout a.place m.domain m.patch a.to q.place receives held.patch m refl refl q.numbers
    ∙ ap (λ (n : ℕ). message_numbers r layout a.place n a.to) (sym c.patch.ensures.value)
