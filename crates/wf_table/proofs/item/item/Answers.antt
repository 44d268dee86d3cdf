use Rattle.std.proofs.Common.{sym, ◌∙◌}
use Rattle.wf_model.specs.Table.{item_reader}
use Rattle.wf_model.proofs.ReadingLemmas.{Gives-along}
use Rattle.wf_table.specs.Faults.{kind_of}
use Rattle.wf_table.specs.Items.{phase_at}
use Rattle.wf_table.specs.Place.{at_of}
use Rattle.wf_table.proofs.ItemParts.{phase_item}
use Rattle.wf_table.proofs.item.item.Goals as goal

pub returns-then-is_next-4 : goal.returns-then-is_next-4
returns-then-is_next-4 c =
    let names = c.args.names.now in
    let before = c.args.before.now in
    let at = at_of c.args.at in
    Gives-along (λ x. (x.0, at_of x.1)) kind_of c.phase.result (phase_at names before at) (item_reader names before at)
    (phase_item names before at (sym c.is_next.ensures.test ∙ c.if-is_next.false) (sym c.is_next-2.ensures.test ∙ c.if-is_next-2.false) (sym c.is_next-3.ensures.test ∙ c.if-is_next-3.false)
    (sym c.is_next-4.ensures.test ∙ c.if-is_next-4.true))
    c.phase.ensures
