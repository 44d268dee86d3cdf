use Rattle.std.proofs.Common.{◌<◌, ◌≤◌, ◌+◌, ◌*◌, length, ◌-◌, map}
use Rattle.wf_model.specs.ExprText.{arguments}
use Rattle.wf_table.specs.Place.{at_of}
use Rattle.wf_table.specs.Expressions.{AllBelow, expr_at, factor_at, product_turns, sum_turns, term_at, tree_of}
use Rattle.wf_table.proofs.Chains.{IsRest}
use Rattle.wf_table.proofs.ArgumentLists as list
use Rattle.wf_table.proofs.expression.+expression.Given as goal

abbrev pub decreases-factor : goal.decreases-factor
decreases-factor l = 8 * l.room

abbrev pub decreases-term : goal.decreases-term
decreases-term l = 8 * l.room + 1

abbrev pub decreases-product : goal.decreases-product
decreases-product l = 8 * l.room

abbrev pub decreases-expression : goal.decreases-expression
decreases-expression l = 8 * l.room + 3

abbrev pub decreases-sum : goal.decreases-sum
decreases-sum l = 8 * l.room + 2

abbrev pub decreases-inside_and : goal.decreases-inside_and
decreases-inside_and l = 8 * l.room + 4

abbrev pub decreases-parenthesis : goal.decreases-parenthesis
decreases-parenthesis l = 8 * l.room + 5

abbrev pub decreases-negation : goal.decreases-negation
decreases-negation l = 8 * l.room + 1

abbrev pub decreases-pair : goal.decreases-pair
decreases-pair l = 8 * l.room + 5

abbrev pub decreases-condition : goal.decreases-condition
decreases-condition l = 8 * l.room + 5

abbrev pub decreases-branches : goal.decreases-branches
decreases-branches l = 8 * l.room + 5

abbrev pub decreases-if_then_else : goal.decreases-if_then_else
decreases-if_then_else l = 8 * l.room + 6

abbrev pub decreases-arguments : goal.decreases-arguments
decreases-arguments l = 8 * l.room + 4

abbrev pub decreases-all_arguments : goal.decreases-all_arguments
decreases-all_arguments l = 8 * l.room + 5

abbrev pub decreases-call : goal.decreases-call
decreases-call l = 8 * l.room + 6

abbrev pub invariant-term-loop-sign : goal.invariant-term-loop-sign
invariant-term-loop-sign l = record {
  chain : IsRest (product_turns (factor_at l.names (l.room - 1)) l.room) (tree_of l.left) (at_of l.rest) (term_at l.names l.room (at_of l.fn.at));
  depth : l.left.depth ≤ l.room;
  shorter : length l.rest.tokens.now < length l.fn.at.tokens.now;
}

abbrev pub decreases-term-loop-sign : goal.decreases-term-loop-sign
decreases-term-loop-sign l = length l.rest.tokens.now

abbrev pub invariant-expression-loop-sign : goal.invariant-expression-loop-sign
invariant-expression-loop-sign l = record {
  chain : IsRest (sum_turns (term_at l.names (l.room - 1)) l.room) (tree_of l.left) (at_of l.rest) (expr_at l.names l.room (at_of l.fn.at));
  depth : l.left.depth ≤ l.room;
  shorter : length l.rest.tokens.now < length l.fn.at.tokens.now;
}

abbrev pub decreases-expression-loop-sign : goal.decreases-expression-loop-sign
decreases-expression-loop-sign l = length l.rest.tokens.now

abbrev pub invariant-arguments-loop-trees : goal.invariant-arguments-loop-trees
invariant-arguments-loop-trees l = record {
  rest : list.IsRest (expr_at l.names l.room) (map tree_of l.trees.items) (at_of l.at) (arguments (expr_at l.names l.room) (length (at_of l.fn.at).tokens) (at_of l.fn.at));
  depth : AllBelow (l.room + 1) l.trees.items;
  shorter : length l.at.tokens.now ≤ length l.fn.at.tokens.now;
}

abbrev pub decreases-arguments-loop-trees : goal.decreases-arguments-loop-trees
decreases-arguments-loop-trees l = length l.at.tokens.now
