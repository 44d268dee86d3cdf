use Rattle.std.proofs.Common.{refl, ◌+◌, sym, subst}
use Rattle.std.specs.List.{All}
use Rattle.wf_model.specs.declared.plan.Plan.{Plan}
use Rattle.wf_grid.specs.Reached.{OverflowsIn}
use Rattle.wf_grid.specs.Takeable.{CallsAreAccepted}
use Rattle.wf_grid.proofs.Reaching.{needs_lists, needs_table, needs_room, needs_item, item_taken, frame_taken, entry_is, none_of_table, if_some}
use Rattle.wf_grid.proofs.stepping.take_entry.Goals as goal

pub take_item-requires-clause-lists : goal.take_item-requires-clause-lists
take_item-requires-clause-lists g c κs l =
    let r = g.N.RunName.run in
    needs_lists r c.requires.steppable c.args.place c.args.levels.now c.requires.reached c.requires.more c.plan.result.now c.plan.ensures _ (entry_is r c.script.result.now c.args.place _ c.script.ensures c.requires.more)

pub take_item-requires-clause-table : goal.take_item-requires-clause-table
take_item-requires-clause-table g c κs l =
    let r = g.N.RunName.run in
    needs_table r c.requires.steppable c.args.place c.args.levels.now c.requires.reached c.requires.more c.plan.result.now c.plan.ensures _ (entry_is r c.script.result.now c.args.place _ c.script.ensures c.requires.more)

pub take_item-requires-clause-calls : goal.take_item-requires-clause-calls
take_item-requires-clause-calls g c κs l = subst (λ (x : Plan). All (CallsAreAccepted g.M.Meanings.accepts) x.items) (sym c.plan.ensures) c.requires.calls

pub take_item-requires-clause-item : goal.take_item-requires-clause-item
take_item-requires-clause-item g c κs l =
    let r = g.N.RunName.run in
    needs_item r c.requires.steppable c.args.place c.args.levels.now c.requires.reached c.requires.more c.plan.result.now c.plan.ensures _ (entry_is r c.script.result.now c.args.place _ c.script.ensures c.requires.more) c.in-Table.item c.in-Table.is

pub take_item-requires-clause-room : goal.take_item-requires-clause-room
take_item-requires-clause-room g c κs l =
    let r = g.N.RunName.run in
    needs_room r c.requires.steppable c.args.place c.args.levels.now c.requires.reached c.requires.more c.plan.result.now c.plan.ensures _ (entry_is r c.script.result.now c.args.place _ c.script.ensures c.requires.more) c.args.scratch.now c.requires.room

pub returns-in-Table-clause-on : goal.returns-in-Table-clause-on
returns-in-Table-clause-on g c =
    let r = g.N.RunName.run in
    (item_taken r c.requires.steppable c.args.place c.args.levels.now c.requires.reached c.requires.more c.plan.result.now c.plan.ensures _ (entry_is r c.script.result.now c.args.place _ c.script.ensures c.requires.more) g.M.Meanings.answer c.requires.answers c.in-Table.item c.take_item.result c.take_item.new.levels c.in-Table.is
    c.take_item.ensures.point c.take_item.ensures.lists).on

pub returns-in-Table-clause-over : goal.returns-in-Table-clause-over
returns-in-Table-clause-over g c =
    let r = g.N.RunName.run in
    if_some (OverflowsIn r c.args.place (c.args.place + 1)) c.take_item.result
    (item_taken r c.requires.steppable c.args.place c.args.levels.now c.requires.reached c.requires.more c.plan.result.now c.plan.ensures _ (entry_is r c.script.result.now c.args.place _ c.script.ensures c.requires.more) g.M.Meanings.answer c.requires.answers c.in-Table.item c.take_item.result c.take_item.new.levels c.in-Table.is
    c.take_item.ensures.point c.take_item.ensures.lists).over

pub returns-in-Start : goal.returns-in-Start
returns-in-Start g c =
    let r = g.N.RunName.run in
    record {
      on = (frame_taken r c.requires.steppable c.args.place c.args.levels.now c.requires.reached c.requires.more r.plan refl _ (entry_is r c.script.result.now c.args.place _ c.script.ensures c.requires.more) _ refl (none_of_table _ c.in-Start.is)).on;
      over = tt;
      scratch = refl;
    }
