use Rattle.std.proofs.Common.{◌≡◌, map, vec_len}
use Rattle.wf_model.specs.ExprText.{arguments_tree}
use Rattle.wf_table.specs.Expressions.{tree_of}
use Rattle.wf_table.proofs.Trees.{before}
use Rattle.wf_table.proofs.tree.arguments_list.Given as goal

abbrev pub invariant-loop-tree : goal.invariant-loop-tree
invariant-loop-tree l = before l.trees.items l.list ≡ arguments_tree (map tree_of l.fn.trees.items)

abbrev pub decreases-loop-tree : goal.decreases-loop-tree
decreases-loop-tree l = vec_len l.trees
