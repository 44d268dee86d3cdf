use Rattle.std.proofs.Common.{take}
use Rattle.wf_halo.specs.Exchange.{Adds, period_list}
use Rattle.wf_halo.proofs.sending.pack_periods.Given as goal

abbrev pub invariant-loop-part : goal.invariant-loop-part
invariant-loop-part g l = Adds g.N.RunName.run g.N.RunName.layout l.memory (period_list g.N.RunName.run.plan g.N.RunName.layout l.between (take l.part-index l.parts)) l.fn.values.items l.values.items
