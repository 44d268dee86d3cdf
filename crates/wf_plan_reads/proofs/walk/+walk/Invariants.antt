use Rattle.std.proofs.Common.{◌+◌, ◌*◌}
use Rattle.wf_plan_reads.specs.Sizes.{size_of, size_of_list}
use Rattle.wf_plan_reads.proofs.walk.+walk.Given as goal

abbrev pub decreases-first_outside : goal.decreases-first_outside
decreases-first_outside l = 2 * size_of l.expression.now

abbrev pub decreases-first_of_two : goal.decreases-first_of_two
decreases-first_of_two l = 2 * (size_of l.a.now + size_of l.b.now) + 1

abbrev pub decreases-first_in_list : goal.decreases-first_in_list
decreases-first_in_list l = 2 * size_of_list l.arguments.now
