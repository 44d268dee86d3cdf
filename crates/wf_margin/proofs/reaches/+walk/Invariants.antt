use Rattle.std.proofs.Common.{◌+◌, ◌*◌}
use Rattle.wf_plan_reads.specs.Sizes.{size_of, size_of_list}
use Rattle.wf_margin.proofs.reaches.+walk.Given as goal

abbrev pub decreases-expr_reach : goal.decreases-expr_reach
decreases-expr_reach l = 2 * size_of l.expression.now

abbrev pub decreases-reach_of_two : goal.decreases-reach_of_two
decreases-reach_of_two l = 2 * (size_of l.a.now + size_of l.b.now) + 1

abbrev pub decreases-list_reach : goal.decreases-list_reach
decreases-list_reach l = 2 * size_of_list l.arguments.now
