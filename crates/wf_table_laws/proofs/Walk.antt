-- A property of expressions that every rule of the grammar keeps holds of each expression that is read.
use Rattle.std.proofs.Common.{◌≡◌, ℕ, zero, suc, ◌+◌, ◌-◌, ◌^◌, ◌<◌, ◌≤◌, ◌==◌, Bool, true, false, nat_le, List, [], ◌∷◌, length, Option, Some, None, Ok, Err, IfSome, refl, sym, ◌∙◌, subst, codes, arith, if◌then◌else◌}
use Rattle.std.specs.Prelude.{not, ◌&&◌}
use Rattle.std.specs.Str.{bytes_eq}
use Rattle.wf_model.specs.declared.expr.Test.{Test}
use Rattle.wf_model.specs.declared.expr.Expr.{Expr, roll-Expr}
use Rattle.wf_model.specs.declared.expr.Args.TheOpen as e
use Rattle.wf_model.specs.declared.table.Names.{Names}
use Rattle.wf_model.specs.declared.table.HookName.{HookName}
use Rattle.wf_model.specs.declared.table.HookKind.{HookKind}
use Rattle.wf_model.specs.declared.table.HookKind.TheVariants as hook
use Rattle.wf_model.specs.declared.table.HookKind.TheVariants.{Call}
use Rattle.wf_model.specs.declared.table.TableKind.TheVariants.{TooDeep, UnknownHook, Arity}
use Rattle.wf_model.specs.Reading.{◌>>=◌}
use Rattle.wf_model.specs.Letters.{Text, is_digits, digits_value}
use Rattle.wf_model.specs.Tokens.{At, Reader, next, keyword, is_next, past, syntax, expect}
use Rattle.wf_model.specs.ExprFacts.{nodes_of, depth_of}
use Rattle.wf_model.specs.TableNames.{most_dk, called_hook, is_called}
use Rattle.wf_model.specs.Sound.{IsHook}
use Rattle.wf_model.specs.ExprText.{Tree, node, leaf, numeral, read, sum_of, term, expr, parenthesis, negation, pair, test_of, tested, choice, arguments, all_arguments, arguments_tree, call, factor_of, factor_with, factors_below, reader_if, whole_expr}
use Rattle.wf_table_laws.proofs.Finds.{find-Some, differ, equal_of}
use Rattle.wf_table_laws.proofs.Layers.{nodes_roll, depth_roll, nodes_more, depth_more}
use Rattle.wf_table_laws.proofs.Tokens.{Same, OneMore, expect-yields, node-yields, name-yields, signed-yields, level-yields}
use Rattle.wf_table_laws.proofs.Yields.{Yields, yields-ok, yields-err, yields-or, chain, choose, weaker}
use Rattle.wf_table_laws.proofs.Rules.{Rules, IsTree, TreeFrom, Reads, IsList, ListFrom, deepest-cons}
use Rattle.wf_table_laws.proofs.Operators.{Joins, Divides, either, product-goes, products-yields, sums-yields}

-- ---- calls

-- the end of a call's arguments, which are as many as the function takes
pub record Closes (arity : Bool) (at end : At) : Type 0 where
  pub same : Same at end
  pub fits : arity ≡ true

closes : (there as_many : Bool) (at : At) → Yields (Closes as_many at) (if there && not as_many then Err Arity else (if there then Ok (past at) else syntax at))
closes true true at = yields-ok (Closes true at) (past at) (record { same = refl; fits = refl })
closes true false at = yields-err (Closes false at) Arity
closes false as_many at = yields-err (Closes as_many at) _

-- the function that is called
called-is : (kind : HookKind) → is_called kind ≡ true → kind ≡ Call
called-is hook.Call e = refl
called-is hook.Interp e = absurd (differ (sym e))
called-is hook.Average e = absurd (differ (sym e))

of_both : (same call : Bool) → (same && call) ≡ true → call ≡ true
of_both true call e = e
of_both false call e = absurd (differ (sym e))

hook_of : (names : Names) (name : Text) (h : HookName) (n : ℕ) → called_hook names name ≡ Some h → (n == h.arity) ≡ true → IsHook names.hooks h.id Call n
hook_of names name h n found arity =
    let p : HookName → Bool = λ x. bytes_eq x.name name && is_called x.kind in
    let at = find-Some p names.hooks h found in
    (at.0, h, at.1, at.2, (refl, called-is h.kind (of_both (bytes_eq h.name name) (is_called h.kind) at.3), sym (equal_of n h.arity arity)))

-- ---- each make of the grammar

module _ (names : Names) (P : Expr → Type 0) (rules : Rules names P) where
  add-joins : Joins P (λ a b. roll-Expr (e.Add a b))
  add-joins = record { keeps = rules.add; depth = λ a b. depth_roll (e.Add a b); nodes = λ a b. nodes_roll (e.Add a b) }

  sub-joins : Joins P (λ a b. roll-Expr (e.Sub a b))
  sub-joins = record { keeps = rules.sub; depth = λ a b. depth_roll (e.Sub a b); nodes = λ a b. nodes_roll (e.Sub a b) }

  mul-joins : Joins P (λ a b. roll-Expr (e.Mul a b))
  mul-joins = record { keeps = rules.mul; depth = λ a b. depth_roll (e.Mul a b); nodes = λ a b. nodes_roll (e.Mul a b) }

  min-joins : Joins P (λ a b. roll-Expr (e.Min a b))
  min-joins = record { keeps = rules.min_; depth = λ a b. depth_roll (e.Min a b); nodes = λ a b. nodes_roll (e.Min a b) }

  max-joins : Joins P (λ a b. roll-Expr (e.Max a b))
  max-joins = record { keeps = rules.max_; depth = λ a b. depth_roll (e.Max a b); nodes = λ a b. nodes_roll (e.Max a b) }

  div-divides : Divides P (λ a n. roll-Expr (e.Div a n))
  div-divides = record { keeps = rules.div; depth = λ a n. depth_roll (e.Div a n); nodes = λ a n. nodes_roll (e.Div a n) }

  mod-divides : Divides P (λ a n. roll-Expr (e.Mod a n))
  mod-divides = record { keeps = rules.mod_; depth = λ a n. depth_roll (e.Mod a n); nodes = λ a n. nodes_roll (e.Mod a n) }

  sum-joins : (word : Text) → IfSome (sum_of word) (Joins P)
  sum-joins word = either (Joins P) (bytes_eq word (codes "+")) _ _ add-joins (either (Joins P) (bytes_eq word (codes "-")) _ _ sub-joins tt)

  -- ---- terms and expressions, from the factors by their room

  term-reads : (factors : ℕ → Reader Tree) (room : ℕ) → ((r : ℕ) → Reads P r (factors r)) → Reads P room (term factors room)
  term-reads factors room reads at =
      chain (reads room at) (λ first h.
      products-yields P (factors (room - 1)) room (λ word. product-goes P (factors (room - 1)) room word mul-joins div-divides mod-divides (reads (room - 1))) (length at.tokens) at.nodes first.0 first.1 h)

  expr-reads : (factors : ℕ → Reader Tree) (room : ℕ) → ((r : ℕ) → Reads P r (factors r)) → Reads P room (expr factors room)
  expr-reads factors room reads at =
      chain (term-reads factors room reads at) (λ first h.
      sums-yields P (term factors (room - 1)) room sum-joins (term-reads factors (room - 1) reads) (length at.tokens) at.nodes first.0 first.1 h)

  -- ---- factors of one token, and reads

  leaf-reads : (room : ℕ) (x : Expr) → P x → depth_of x ≡ 1 → nodes_of x ≡ 1 → Reads P (suc room) (leaf x)
  leaf-reads room x keeps depth nodes at =
      chain (node-yields at) (λ counted h. yields-ok (TreeFrom P (suc room) at.nodes) _ (record {
        keeps = keeps;
        depth = omega (arith, depth);
        within = omega arith;
        nodes = omega (arith, nodes, h.one);
        most = omega (arith, h.room, h.one);
      }))

  fits : (n : ℕ) → nat_le n (2 ^ 63 - 1) ≡ true → n < 2 ^ 63
  fits n e = grind arith

  numeral-reads : (room : ℕ) → Reads P (suc room) numeral
  numeral-reads room at =
      choose (nat_le (digits_value (next at)) (2 ^ 63 - 1))
      (λ small. leaf-reads room _ (rules.num (digits_value (next at)) (fits (digits_value (next at)) small)) (depth_roll (e.Num (digits_value (next at)))) (nodes_roll (e.Num (digits_value (next at)))) at)
      (λ e. yields-err (TreeFrom P (suc room) at.nodes) _)

  node-expect : (word : Text) (at : At) → Yields (OneMore at) (node at >>= expect word)
  node-expect word at = chain (node-yields at) (λ counted h. weaker (λ a same. record { room = h.room; one = same ∙ h.one }) (expect-yields word counted))

  read-reads : (room : ℕ) → Reads P (suc room) (read names)
  read-reads room at =
      chain (level-yields names at) (λ f hf.
      chain (node-expect (codes "[") f.1) (λ a0 h0.
      chain (signed-yields 6 a0) (λ di hi.
      chain (expect-yields (codes ",") di.1) (λ a1 h1.
      chain (signed-yields (most_dk names f.0) a1) (λ dk hk.
      chain (expect-yields (codes ",") dk.1) (λ a2 h2.
      chain (signed-yields 6 a2) (λ dj hj.
      chain (expect-yields (codes "]") dj.1) (λ a3 h3.
      let depth = depth_roll (e.Read f.0 di.0 dk.0 dj.0) in
      let nodes = nodes_roll (e.Read f.0 di.0 dk.0 dj.0) in
      let ends : a3.nodes ≡ at.nodes + 1 = omega (arith, hf.same, h0.one, hi.same, h1, hk.same, h2, hj.same, h3) in
      let starts : at.nodes < 1024 = omega (arith, hf.same, h0.room) in
      yields-ok (TreeFrom P (suc room) at.nodes) _ (record {
        keeps = rules.read f.0 di.0 dk.0 dj.0 hf.level hi.high hk.high hj.high;
        depth = omega (arith, depth);
        within = omega arith;
        nodes = omega (arith, nodes, ends);
        most = omega (arith, starts, ends);
      })))))))))

  -- ---- factors of several parts

  -- a word, and then an expression
  expect-then : (word : Text) (room : ℕ) (inside : Reader Tree) → Reads P room inside → (at : At) → Yields (TreeFrom P room at.nodes) (expect word at >>= inside)
  expect-then word room inside reads at = chain (expect-yields word at) (λ a same. subst (λ n. Yields (TreeFrom P room n) (inside a)) same (reads a))

  parenthesis-reads : (room : ℕ) (inside : Reader Tree) → Reads P room inside → Reads P (suc room) (parenthesis inside)
  parenthesis-reads room inside reads at =
      chain (reads (past at)) (λ r h.
      chain (expect-yields (codes ")") r.1) (λ end same.
      yields-ok (TreeFrom P (suc room) at.nodes) _ (record {
        keeps = h.keeps;
        depth = omega (arith, h.depth);
        within = omega (arith, h.within);
        nodes = omega (arith, h.nodes, same);
        most = omega (arith, h.most, same);
      })))

  negation-reads : (room : ℕ) (inside : Reader Tree) → Reads P room inside → Reads P (suc room) (negation inside)
  negation-reads room inside reads at =
      chain (node-yields at) (λ counted hc.
      chain (reads (past counted)) (λ r h.
      let depth = depth_roll (e.Neg (r.0).expr) in
      let nodes = nodes_roll (e.Neg (r.0).expr) in
      yields-ok (TreeFrom P (suc room) at.nodes) _ (record {
        keeps = rules.neg (r.0).expr h.keeps;
        depth = omega (arith, depth, h.depth);
        within = omega (arith, h.within);
        nodes = omega (arith, nodes, h.nodes, hc.one);
        most = h.most;
      })))

  pair-reads : (make : Expr → Expr → Expr) → Joins P make → (room : ℕ) (inside : Reader Tree) → Reads P room inside → Reads P (suc room) (pair make inside)
  pair-reads make joins room inside reads at =
      chain (node-yields at) (λ counted hc.
      chain (expect-then (codes "(") room inside reads (past counted)) (λ a ha.
      chain (expect-then (codes ",") room inside reads a.1) (λ b hb.
      chain (expect-yields (codes ")") b.1) (λ end same.
      let depth = joins.depth (a.0).expr (b.0).expr in
      let nodes = joins.nodes (a.0).expr (b.0).expr in
      yields-ok (TreeFrom P (suc room) at.nodes) _ (record {
        keeps = joins.keeps (a.0).expr (b.0).expr ha.keeps hb.keeps;
        depth = omega (arith, depth, ha.depth, hb.depth);
        within = omega (arith, ha.within, hb.within);
        nodes = omega (arith, nodes, ha.nodes, hb.nodes, hc.one, same);
        most = omega (arith, hb.most, same);
      })))))

  -- a test takes no node
  tested-yields : (o : Option Test) (at : At) → Yields (λ (t : Test × At). Same at t.1) (tested o at)
  tested-yields None at = yields-err (λ (t : Test × At). Same at t.1) _
  tested-yields (Some t) at = yields-ok (λ (t : Test × At). Same at t.1) (t, past at) refl

  choice-reads : (room : ℕ) (inside : Reader Tree) → Reads P room inside → Reads P (suc room) (choice inside)
  choice-reads room inside reads at =
      chain (node-yields at) (λ counted hn.
      chain (reads (past counted)) (λ a ha.
      chain (tested-yields (test_of (next a.1)) a.1) (λ t ht.
      chain (reads t.1) (λ b hb.
      chain (expect-then (codes "then") room inside reads b.1) (λ c hc.
      chain (expect-then (codes "else") room inside reads c.1) (λ d hd.
      let depth = depth_roll (e.If t.0 (a.0).expr (b.0).expr (c.0).expr (d.0).expr) in
      let nodes = nodes_roll (e.If t.0 (a.0).expr (b.0).expr (c.0).expr (d.0).expr) in
      yields-ok (TreeFrom P (suc room) at.nodes) _ (record {
        keeps = rules.choice t.0 (a.0).expr (b.0).expr (c.0).expr (d.0).expr ha.keeps hb.keeps hc.keeps hd.keeps;
        depth = omega (arith, depth, ha.depth, hb.depth, hc.depth, hd.depth);
        within = omega (arith, ha.within, hb.within, hc.within, hd.within);
        nodes = omega (arith, nodes, hn.one, ha.nodes, ht, hb.nodes, hc.nodes, hd.nodes);
        most = hd.most;
      })))))))

  -- ---- calls

  list-nil : (room n : ℕ) → n ≤ 1024 → IsList P room n [] n
  list-nil room n most = record { keeps = tt; depth = omega (arith, depth_more e.End); within = omega arith; nodes = omega (arith, nodes_more e.End); most = most }

  list-cons : (room n m l : ℕ) (t : Tree) (ts : List Tree) → IsTree P room n t m → IsList P room m ts l → IsList P room n (t ∷ ts) l
  list-cons room n m l t ts a b =
      let depth = depth_more (e.More t.expr (arguments_tree ts)) in
      let nodes = nodes_more (e.More t.expr (arguments_tree ts)) in
      let deeper = deepest-cons t ts in
      record {
        keeps = (a.keeps, b.keeps);
        depth = omega (arith, depth, deeper, a.depth, b.depth);
        within = omega (arith, deeper, a.within, b.within);
        nodes = omega (arith, nodes, a.nodes, b.nodes);
        most = b.most;
      }

  arguments-yields : (room : ℕ) (inside : Reader Tree) → Reads P room inside → (fuel : ℕ) (at : At) → at.nodes ≤ 1024 → Yields (ListFrom P room at.nodes) (arguments inside fuel at)
  unfolding arguments
  arguments-yields room inside reads zero at most = yields-ok (ListFrom P room at.nodes) ([], at) (list-nil room at.nodes most)
  arguments-yields room inside reads (suc fuel) at most =
      chain (reads at) (λ a h.
      choose (is_next (codes ",") a.1)
      (λ e. chain (arguments-yields room inside reads fuel (past a.1) h.most) (λ as_ hs. yields-ok (ListFrom P room at.nodes) _ (list-cons room at.nodes (a.1).nodes (as_.1).nodes a.0 as_.0 h hs)))
      (λ e. yields-ok (ListFrom P room at.nodes) _ (list-cons room at.nodes (a.1).nodes (a.1).nodes a.0 [] h (list-nil room (a.1).nodes h.most))))

  all_arguments-yields : (room : ℕ) (inside : Reader Tree) → Reads P room inside → (at : At) → at.nodes ≤ 1024 → Yields (ListFrom P room at.nodes) (all_arguments inside at)
  all_arguments-yields room inside reads at most =
      choose (is_next (codes ")") at) (λ e. yields-ok (ListFrom P room at.nodes) ([], at) (list-nil room at.nodes most)) (λ e. arguments-yields room inside reads (length at.tokens) at most)

  -- a word, and then arguments
  expect-arguments : (word : Text) (room : ℕ) (inside : Reader Tree) → Reads P room inside → (at : At) → at.nodes ≤ 1024 → Yields (ListFrom P room at.nodes) (expect word at >>= all_arguments inside)
  expect-arguments word room inside reads at most =
      chain (expect-yields word at)
      (λ a same. subst (λ n. Yields (ListFrom P room n) (all_arguments inside a)) same (all_arguments-yields room inside reads a (omega (arith, same, most))))

  call-reads : (room : ℕ) (inside : Reader Tree) → Reads P room inside → Reads P (suc room) (call names inside)
  call-reads room inside reads at =
      chain (node-yields at) (λ counted hn.
      chain (name-yields (past counted)) (λ name is_name.
      chain (yields-or (called_hook names name) UnknownHook) (λ h found.
      chain (expect-arguments (codes "(") room inside reads (past (past counted)) (omega (arith, hn.room, hn.one))) (λ as_ hs.
      chain (closes (is_next (codes ")") as_.1) (length as_.0 == h.arity) as_.1) (λ end hc.
      let depth = depth_roll (e.Call h.id (arguments_tree as_.0)) in
      let nodes = nodes_roll (e.Call h.id (arguments_tree as_.0)) in
      yields-ok (TreeFrom P (suc room) at.nodes) _ (record {
        keeps = rules.call h.id as_.0 (hook_of names name h (length as_.0) found hc.fits) hs.keeps;
        depth = omega (arith, depth, hs.depth);
        within = omega (arith, hs.within);
        nodes = omega (arith, nodes, hs.nodes, hn.one, hc.same);
        most = omega (arith, hs.most, hc.same);
      }))))))

  -- ---- a factor, by its first token

  factor_of-reads : (room : ℕ) (inside factor : Reader Tree) → Reads P room inside → Reads P room factor → Reads P (suc room) (factor_of names inside factor)
  factor_of-reads room inside factor inside-reads reads at =
      let word = keyword at in
      choose (bytes_eq word (codes "(")) (λ is. parenthesis-reads room inside inside-reads at)
      (λ not0. choose (bytes_eq word (codes "-")) (λ is. negation-reads room factor reads at)
      (λ not1. choose (is_digits word) (λ is. numeral-reads room at)
      (λ not2. choose (bytes_eq word (codes "i")) (λ is. leaf-reads room _ rules.i (depth_roll e.I) (nodes_roll e.I) at)
      (λ not3. choose (bytes_eq word (codes "j")) (λ is. leaf-reads room _ rules.j (depth_roll e.J) (nodes_roll e.J) at)
      (λ not4. choose (bytes_eq word (codes "k")) (λ is. leaf-reads room _ rules.k (depth_roll e.K) (nodes_roll e.K) at)
      (λ not5. choose (bytes_eq word (codes "step")) (λ is. leaf-reads room _ rules.step (depth_roll e.Step) (nodes_roll e.Step) at)
      (λ not6. choose (bytes_eq word (codes "min")) (λ is. pair-reads _ min-joins room inside inside-reads at)
      (λ not7. choose (bytes_eq word (codes "max")) (λ is. pair-reads _ max-joins room inside inside-reads at)
      (λ not8. choose (bytes_eq word (codes "if")) (λ is. choice-reads room inside inside-reads at)
      (λ not9. choose (bytes_eq word (codes "call")) (λ is. call-reads room inside inside-reads at)
      (λ last. read-reads room at)))))))))))

  -- ---- factors by their room

  factor_with-reads : (room : ℕ) (below : ℕ → Reader Tree) → ((r : ℕ) → Reads P r (below r)) → Reads P room (factor_with names room below)
  factor_with-reads zero below reads at = yields-err (TreeFrom P 0 at.nodes) TooDeep
  factor_with-reads (suc room) below reads at = factor_of-reads room (expr below room) (below room) (expr-reads below room reads) (reads room) at

  factors-read : (n room : ℕ) → Reads P room (factors_below names n room)
  unfolding factors_below
  factors-read zero room = λ at. yields-err (TreeFrom P room at.nodes) TooDeep
  factors-read (suc n) room = step (room == n) refl (factors-read n) (factors-read n room)
    where
      step : (b : Bool) → (room == n) ≡ b → ((r : ℕ) → Reads P r (factors_below names n r)) → Reads P room (factors_below names n room)
          → Reads P room (reader_if b (factor_with names n (factors_below names n)) (factors_below names n room))
      step true same below less = subst (λ r. Reads P r (factor_with names n (factors_below names n))) (sym (equal_of room n same)) (factor_with-reads n (factors_below names n) below)
      step false same below less = less

  -- an expression of the table
  pub whole-reads : Reads P 64 (whole_expr names)
  unfolding whole_expr
  whole-reads at = expr-reads (factors_below names 65) 64 (factors-read 65) at
