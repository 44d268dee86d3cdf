use Rattle.std.proofs.Common.{◌+◌, ◌-◌, ◌∙◌, length, map, sym, ap, arith, Ok, refl, subst, List, ◌∷◌, [], ◌++◌, ◌<◌}
use Rattle.std.proofs.lemmas.Result.{err_from_is_err_and}
use Rattle.std.specs.Option.{option_map}
use Rattle.wf_model.specs.Reading.{◌>>=◌}
use Rattle.wf_model.specs.ExprText.{arguments, Tree}
use Rattle.wf_model.proofs.ReadingLemmas.{Fails-chain}
use Rattle.wf_table.specs.Faults.{kind_of}
use Rattle.wf_table.specs.Place.{at_of}
use Rattle.wf_table.specs.Expressions.{chain, expr_at, factor_at, product_turn, product_turns, sum_turn, sum_turns, term_at, tree_of}
use Rattle.wf_table.proofs.Chains.{Found, begins, goes_on, stops, fails}
use Rattle.wf_table.proofs.ArgumentLists as list
use Rattle.wf_table.proofs.Factors.{leaf_factor}
use Rattle.wf_table.proofs.Places.{fewer_left, no_more_left, some_left}
use Rattle.wf_table.proofs.Trees.{below_push, call_within, seen_push}
use Rattle.wf_table.specs.declared.start.Start.TheVariants as start
use Rattle.wf_model.specs.declared.expr.Expr.{roll-Expr}
use Rattle.wf_model.specs.declared.expr.Args.TheOpen as e
use Rattle.wf_model.specs.declared.expr.Expr.TheVariants as expr
use Rattle.wf_model.specs.Tokens.{At, past}
use Rattle.wf_table.proofs.expression.+expression.Goals as goal

pub term-returns-in_err-left-clause-found : goal.term-returns-in_err-left-clause-found
unfolding term_at
term-returns-in_err-left-clause-found t c =
    let p = err_from_is_err_and c.from_residual.result c.from_residual.ensures.1 in
    rw (p.1, p.2) (Fails-chain (kind_of c.in_err-left.field-0.0) _ _ c.in_err-left.ensures.found)

pub term-loop-sign-init : goal.term-loop-sign-init
unfolding term_at
term-loop-sign-init t c =
    let names = c.args.names.now in
    let room = c.args.room in
    record {
      chain = begins (product_turns (factor_at names (room - 1)) room) _ _ _ (length (at_of c.args.at).tokens) (no_more_left c.in_ok-left.rest c.args.at c.in_ok-left.ensures.within.1)
          (sym (ap (λ (f : Found). f >>= λ first. chain (product_turns (factor_at names (room - 1)) room) (length (at_of c.args.at).tokens) first.0 first.1) c.in_ok-left.ensures.found));
      depth = c.in_ok-left.ensures.within.0;
      shorter = c.in_ok-left.ensures.within.1;
    }

pub term-returns-in_err-tree-clause-found : goal.term-returns-in_err-tree-clause-found
term-returns-in_err-tree-clause-found t c =
    let right = factor_at c.args.names.now (c.args.room - 1) in
    let left = tree_of c.loop-sign.left in
    let at = at_of c.loop-sign.rest in
    let p = err_from_is_err_and c.from_residual-in_err-tree.result c.from_residual-in_err-tree.ensures.1 in
    rw (p.1, p.2) (fails (product_turns right c.args.room) left at _ (kind_of c.in_err-tree.field-0.0) (product_turn right c.args.room c.in-Some.sign left at) c.loop-sign.invariant.chain
    (ap (option_map (λ op. product_turn right c.args.room op left at)) (sym c.in-Some.ensures.operator)) (some_left c.loop-sign.rest c.in-Some.ensures.token) c.in_err-tree.ensures.found)

pub term-loop-sign-preserved : goal.term-loop-sign-preserved
term-loop-sign-preserved t c =
    let right = factor_at c.args.names.now (c.args.room - 1) in
    let left = tree_of c.loop-sign.left in
    let at = at_of c.loop-sign.rest in
    record {
      chain = goes_on (product_turns right c.args.room) left at _ (product_turn right c.args.room c.in-Some.sign left at) (tree_of c.in_ok-tree.tree) (at_of c.in_ok-tree.end) c.loop-sign.invariant.chain
          (ap (option_map (λ op. product_turn right c.args.room op left at)) (sym c.in-Some.ensures.operator)) c.in_ok-tree.ensures.found (fewer_left c.in_ok-tree.end c.loop-sign.rest c.in_ok-tree.ensures.within.1);
      depth = c.in_ok-tree.ensures.within.0;
      shorter = omega (arith, c.in_ok-tree.ensures.within.1, c.loop-sign.invariant.shorter);
    }

pub term-returns-clause-found : goal.term-returns-clause-found
term-returns-clause-found t c =
    let right = factor_at c.args.names.now (c.args.room - 1) in
    let left = tree_of c.loop-sign.left in
    let at = at_of c.loop-sign.rest in
    stops (product_turns right c.args.room) left at _ c.loop-sign.invariant.chain (ap (option_map (λ op. product_turn right c.args.room op left at)) (sym c.in_default.ensures.operator))

pub expression-returns-in_err-left-clause-found : goal.expression-returns-in_err-left-clause-found
unfolding expr_at
expression-returns-in_err-left-clause-found t c =
    let p = err_from_is_err_and c.from_residual.result c.from_residual.ensures.1 in
    rw (p.1, p.2) (Fails-chain (kind_of c.in_err-left.field-0.0) _ _ c.in_err-left.ensures.found)

pub expression-loop-sign-init : goal.expression-loop-sign-init
unfolding expr_at
expression-loop-sign-init t c =
    let names = c.args.names.now in
    let room = c.args.room in
    record {
      chain = begins (sum_turns (term_at names (room - 1)) room) _ _ _ (length (at_of c.args.at).tokens) (no_more_left c.in_ok-left.rest c.args.at c.in_ok-left.ensures.within.1)
          (sym (ap (λ (f : Found). f >>= λ first. chain (sum_turns (term_at names (room - 1)) room) (length (at_of c.args.at).tokens) first.0 first.1) c.in_ok-left.ensures.found));
      depth = c.in_ok-left.ensures.within.0;
      shorter = c.in_ok-left.ensures.within.1;
    }

pub expression-returns-in_err-tree-clause-found : goal.expression-returns-in_err-tree-clause-found
expression-returns-in_err-tree-clause-found t c =
    let right = term_at c.args.names.now (c.args.room - 1) in
    let left = tree_of c.loop-sign.left in
    let at = at_of c.loop-sign.rest in
    let p = err_from_is_err_and c.from_residual-in_err-tree.result c.from_residual-in_err-tree.ensures.1 in
    rw (p.1, p.2) (fails (sum_turns right c.args.room) left at _ (kind_of c.in_err-tree.field-0.0) (sum_turn right c.args.room c.in-Some.sign left at) c.loop-sign.invariant.chain
    (ap (option_map (λ op. sum_turn right c.args.room op left at)) (sym c.in-Some.ensures.operator)) (some_left c.loop-sign.rest c.in-Some.ensures.token) c.in_err-tree.ensures.found)

pub expression-loop-sign-preserved : goal.expression-loop-sign-preserved
expression-loop-sign-preserved t c =
    let right = term_at c.args.names.now (c.args.room - 1) in
    let left = tree_of c.loop-sign.left in
    let at = at_of c.loop-sign.rest in
    record {
      chain = goes_on (sum_turns right c.args.room) left at _ (sum_turn right c.args.room c.in-Some.sign left at) (tree_of c.in_ok-tree.tree) (at_of c.in_ok-tree.end) c.loop-sign.invariant.chain
          (ap (option_map (λ op. sum_turn right c.args.room op left at)) (sym c.in-Some.ensures.operator)) c.in_ok-tree.ensures.found (fewer_left c.in_ok-tree.end c.loop-sign.rest c.in_ok-tree.ensures.within.1);
      depth = c.in_ok-tree.ensures.within.0;
      shorter = omega (arith, c.in_ok-tree.ensures.within.1, c.loop-sign.invariant.shorter);
    }

pub expression-returns-clause-found : goal.expression-returns-clause-found
expression-returns-clause-found t c =
    let right = term_at c.args.names.now (c.args.room - 1) in
    let left = tree_of c.loop-sign.left in
    let at = at_of c.loop-sign.rest in
    stops (sum_turns right c.args.room) left at _ c.loop-sign.invariant.chain (ap (option_map (λ op. sum_turn right c.args.room op left at)) (sym c.in_default.ensures.operator))

pub arguments-returns-in_err-tree-clause-found : goal.arguments-returns-in_err-tree-clause-found
arguments-returns-in_err-tree-clause-found t c =
    let p = err_from_is_err_and c.from_residual.result c.from_residual.ensures.1 in
    rw (p.1, p.2) (list.fails (expr_at c.args.names.now c.args.room) (map tree_of c.loop-trees.trees.items) (at_of c.loop-trees.at) _ (kind_of c.in_err-tree.field-0.0) c.loop-trees.invariant.rest c.in_err-tree.ensures.found)

pub arguments-returns-then-not-is_next-clause-found : goal.arguments-returns-then-not-is_next-clause-found
arguments-returns-then-not-is_next-clause-found t c =
    list.stops (expr_at c.args.names.now c.args.room) (map tree_of c.loop-trees.trees.items) (at_of c.loop-trees.at) _ (tree_of c.in_ok-tree.tree) (at_of c.in_ok-tree.end) c.loop-trees.invariant.rest c.in_ok-tree.ensures.found
    (sym c.is_next.ensures.test ∙ c.if-not-is_next.true)
    ∙ ap (λ ts. Ok (ts, at_of c.in_ok-tree.end)) (sym (seen_push c.loop-trees.trees.items c.push.new.self.items c.in_ok-tree.tree c.in_ok-push.ensures.items))

pub arguments-returns-then-not-is_next-clause-depth : goal.arguments-returns-then-not-is_next-clause-depth
arguments-returns-then-not-is_next-clause-depth t c =
    below_push (c.args.room + 1) c.loop-trees.trees.items c.push.new.self.items c.in_ok-tree.tree c.in_ok-push.ensures.items c.loop-trees.invariant.depth (omega (arith, c.in_ok-tree.ensures.within.0))

pub arguments-loop-trees-preserved : goal.arguments-loop-trees-preserved
arguments-loop-trees-preserved t c =
    let inside = expr_at c.args.names.now c.args.room in
    let total = arguments inside (length (at_of c.args.at).tokens) (at_of c.args.at) in
    let comma = sym c.is_next.ensures.test ∙ c.if-not-is_next.false in
    let some : 0 < length c.in_ok-tree.end.tokens.now = c.is_next.ensures.some c.if-not-is_next.false (omega arith) in
    let whole : list.IsRest inside (map tree_of c.loop-trees.trees.items ++ tree_of c.in_ok-tree.tree ∷ []) (past (at_of c.in_ok-tree.end)) total =
    list.goes_on inside (map tree_of c.loop-trees.trees.items) (at_of c.loop-trees.at) total (tree_of c.in_ok-tree.tree) (at_of c.in_ok-tree.end) c.loop-trees.invariant.rest c.in_ok-tree.ensures.found comma (fewer_left c.in_ok-tree.end c.loop-trees.at c.in_ok-tree.ensures.within.1) (some_left c.in_ok-tree.end some) in
    let trees : list.IsRest inside (map tree_of c.push.new.self.items) (past (at_of c.in_ok-tree.end)) total =
    subst (λ (ts : List Tree). list.IsRest inside ts (past (at_of c.in_ok-tree.end)) total) (sym (seen_push c.loop-trees.trees.items c.push.new.self.items c.in_ok-tree.tree c.in_ok-push.ensures.items)) whole in
    record {
      rest = subst (λ (at : At). list.IsRest inside (map tree_of c.push.new.self.items) at total) (sym c.past-at.ensures.place) trees;
      depth = below_push (c.args.room + 1) c.loop-trees.trees.items c.push.new.self.items c.in_ok-tree.tree c.in_ok-push.ensures.items c.loop-trees.invariant.depth (omega (arith, c.in_ok-tree.ensures.within.0));
      shorter = omega (arith, c.past-at.ensures.length, c.in_ok-tree.ensures.within.1, c.loop-trees.invariant.shorter);
    }

pub call-returns-clause-within : goal.call-returns-clause-within
call-returns-clause-within t c =
    call_within c.args.room (length c.args.at.tokens.now) (length c.in_ok-trees.at.tokens.now) c.in_ok-trees.trees.items c.call_of.result c.in_ok-trees.ensures.depth c.call_of.ensures.depth c.call_of.ensures.length
    (omega (arith, c.in_ok-trees.ensures.length, c.in_ok-hook.ensures.length))

pub factor-returns-in-I-clause-found : goal.factor-returns-in-I-clause-found
factor-returns-in-I-clause-found t c =
    leaf_factor c.args.names.now c.args.room (at_of c.args.at) start.I (roll-Expr e.I) expr.I c.leaf.result (omega arith) c.in-I.ensures.start refl expr.rolls-I c.leaf.ensures.found

pub factor-returns-in-J-clause-found : goal.factor-returns-in-J-clause-found
factor-returns-in-J-clause-found t c =
    leaf_factor c.args.names.now c.args.room (at_of c.args.at) start.J (roll-Expr e.J) expr.J c.leaf-in-J.result (omega arith) c.in-J.ensures.start refl expr.rolls-J c.leaf-in-J.ensures.found

pub factor-returns-in-K-clause-found : goal.factor-returns-in-K-clause-found
factor-returns-in-K-clause-found t c =
    leaf_factor c.args.names.now c.args.room (at_of c.args.at) start.K (roll-Expr e.K) expr.K c.leaf-in-K.result (omega arith) c.in-K.ensures.start refl expr.rolls-K c.leaf-in-K.ensures.found

pub factor-returns-in-Step-clause-found : goal.factor-returns-in-Step-clause-found
factor-returns-in-Step-clause-found t c =
    leaf_factor c.args.names.now c.args.room (at_of c.args.at) start.Step (roll-Expr e.Step) expr.Step c.leaf-in-Step.result (omega arith) c.in-Step.ensures.start refl expr.rolls-Step c.leaf-in-Step.ensures.found
