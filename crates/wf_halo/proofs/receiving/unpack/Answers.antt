use Rattle.std.proofs.Common.{◌≡◌, List, length, map, sym, ap, ◌∙◌, arith}
use Rattle.std.specs.Prelude.{ℤ}
use Rattle.wf_model.specs.Exchange.{carried}
use Rattle.wf_model.specs.Outcome.{entry_at}
use Rattle.wf_model.specs.Patches.{Cell, split_of}
use Rattle.wf_field.proofs.Joining.{cells_kept}
use Rattle.wf_halo.proofs.Messages.{begins_same, fetched, message_map, run_number}
use Rattle.wf_halo.proofs.Taking.{length-map}
use Rattle.wf_halo.proofs.receiving.unpack.Goals as goal

pub unpack_place-requires-clause-long : goal.unpack_place-requires-clause-long
unpack_place-requires-clause-long g c =
    let r = g.N.RunName.run in
    let layout = g.N.RunName.layout in
    let split = split_of layout in
    let a = c.args in
    let m = a.memory.now in
    let x = a.message in
    let cells = carried r.plan split (entry_at r x.place) (entry_at r x.place).act x.from x.to in
    let there : carried r.plan split (entry_at r c.place.result) (entry_at r c.place.result).act c.from.result m.patch ≡ cells =
    λ n. carried r.plan split (entry_at r (c.place.ensures n)) (entry_at r (c.place.ensures n)).act (c.from.ensures n) (sym c.requires.to n) in
    let numbers = c.values.ensures.numbers ∙ message_map r layout x.place x.from x.to in
    let long = ap (λ (xs : List ℤ). length xs) numbers ∙ length-map (run_number r layout x.place) cells ∙ ap (λ (cs : List Cell). length cs) (sym there) in
    omega (arith, long)

pub returns-clause-set : goal.returns-clause-set
returns-clause-set g c =
    let r = g.N.RunName.run in
    let layout = g.N.RunName.layout in
    let split = split_of layout in
    let a = c.args in
    let m = a.memory.now in
    let x = a.message in
    let cells = carried r.plan split (entry_at r x.place) (entry_at r x.place).act x.from x.to in
    let there : carried r.plan split (entry_at r c.place.result) (entry_at r c.place.result).act c.from.result m.patch ≡ cells =
    λ n. carried r.plan split (entry_at r (c.place.ensures n)) (entry_at r (c.place.ensures n)).act (c.from.ensures n) (sym c.requires.to n) in
    let numbers = c.values.ensures.numbers ∙ message_map r layout x.place x.from x.to in
    let v = run_number r layout x.place in
    let begins = begins_same c.values.result.now (map v _) (numbers ∙ ap (map v) (sym there)) in
    fetched r.plan split m.domain m.patch v cells x.values m.levels _ (sym c.values.ensures.values ∙ numbers)
    (cells_kept r.plan split m.domain m.patch v _ cells m.levels _ there (c.unpack_place.ensures.set v begins))
