-- Operators, one behind the other.
use Rattle.std.proofs.Common.{◌≡◌, ℕ, zero, suc, ◌+◌, ◌-◌, ◌^◌, ◌<◌, ◌≤◌, ◌==◌, max, Bool, true, false, nat_lt, Option, Some, None, Result, IfSome, codes, arith, if◌then◌else◌}
use Rattle.std.specs.Prelude.{◌&&◌}
use Rattle.std.specs.Str.{bytes_eq}
use Rattle.wf_model.specs.declared.expr.Expr.{Expr, roll-Expr}
use Rattle.wf_model.specs.declared.expr.Args.TheOpen as e
use Rattle.wf_model.specs.declared.table.TableKind.{TableKind}
use Rattle.wf_model.specs.declared.table.TableKind.TheVariants.{ZeroDivisor}
use Rattle.wf_model.specs.Letters.{Text, is_digits, digits_value}
use Rattle.wf_model.specs.Tokens.{At, Reader, next, keyword}
use Rattle.wf_model.specs.ExprFacts.{nodes_of, depth_of}
use Rattle.wf_model.specs.ExprText.{Tree, over, operator, sum_of, divisor, divided, multiplied, product_of, more, products, sums}
use Rattle.wf_table_laws.proofs.Tokens.{Counts, node-yields, number-yields}
use Rattle.wf_table_laws.proofs.Yields.{Yields, yields-ok, yields-err, chain, choose, weaker}
use Rattle.wf_table_laws.proofs.Rules.{IsTree, TreeFrom, Reads}

-- ---- operators

-- two operands make one expression
pub record Joins (P : Expr → Type 0) (make : Expr → Expr → Expr) : Type 0 where
  pub keeps : (a b : Expr) → P a → P b → P (make a b)
  pub depth : (a b : Expr) → depth_of (make a b) ≡ 1 + max (depth_of a) (depth_of b)
  pub nodes : (a b : Expr) → nodes_of (make a b) ≡ 1 + nodes_of a + nodes_of b

-- an operand and a number make one
pub record Divides (P : Expr → Type 0) (make : Expr → ℕ → Expr) : Type 0 where
  pub keeps : (a : Expr) (n : ℕ) → 1 ≤ n → n < 2 ^ 63 → P a → P (make a n)
  pub depth : (a : Expr) (n : ℕ) → depth_of (make a n) ≡ 1 + depth_of a
  pub nodes : (a : Expr) (n : ℕ) → nodes_of (make a n) ≡ 1 + nodes_of a

-- a left operand whose operator was read
pub record IsLeft (P : Expr → Type 0) (room n : ℕ) (left : Tree) (at : At) : Type 0 where
  pub keeps : P left.expr
  pub depth : depth_of left.expr ≤ left.depth
  pub within : left.depth < room
  pub nodes : n + nodes_of left.expr + 1 ≤ at.nodes
  pub most : at.nodes ≤ 1024

less_of : (m n : ℕ) → nat_lt m n ≡ true → m < n
less_of m n e = grind arith

-- a step behind an operator
abbrev pub Step : Type 0
Step = Tree → At → Result (Tree × At) TableKind

abbrev pub Goes : (Expr → Type 0) → ℕ → Step → Type 0
Goes P room step = (n : ℕ) (left : Tree) (at : At) → IsLeft P room n left at → Yields (TreeFrom P room n) (step left at)

-- one of two that may be there
pub either : {X : Type 0} (Q : X → Type 0) (b : Bool) (x : X) (o : Option X) → Q x → IfSome o Q → IfSome (if b then Some x else o) Q
either Q true x o here there = here
either Q false x o here there = there

module _ (P : Expr → Type 0) where
  operator-yields : (room n : ℕ) (left : Tree) (at : At) → IsTree P room n left at.nodes → Yields (IsLeft P room n left) (operator room left at)
  operator-yields room n left at t =
      choose _
      (λ e. chain (node-yields at) (λ counted h. yields-ok (IsLeft P room n left) _
      (record { keeps = t.keeps; depth = t.depth; within = less_of left.depth room e; nodes = omega (arith, t.nodes, h.one); most = omega (arith, h.room, h.one) })))
      (λ e. yields-err (IsLeft P room n left) _)

  -- both operands were read
  joined : (make : Expr → Expr → Expr) (room n : ℕ) (left right : Tree) (at : At) (m : ℕ)
      → Joins P make → IsLeft P room n left at → IsTree P (room - 1) at.nodes right m → IsTree P room n (over make left right) m
  joined make room n left right at m joins a b =
      let depth = joins.depth left.expr right.expr in
      let nodes = joins.nodes left.expr right.expr in
      record {
        keeps = joins.keeps left.expr right.expr a.keeps b.keeps;
        depth = omega (arith, depth, a.depth, b.depth);
        within = omega (arith, a.within, b.within);
        nodes = omega (arith, nodes, a.nodes, b.nodes);
        most = b.most;
      }

  multiplied-goes : (right : Reader Tree) (room : ℕ) → Joins P (λ a b. roll-Expr (e.Mul a b)) → Reads P (room - 1) right → Goes P room (multiplied right)
  multiplied-goes right room joins reads n left at a =
      chain (reads at) (λ r h. yields-ok (TreeFrom P room n) _ (joined _ room n left r.0 at (r.1).nodes joins a h))

  -- a divisor is a number from 1 on
  divisor-yields : (at : At) → Yields (Counts 1 (2 ^ 63 - 1) at) (divisor at)
  divisor-yields at = choose (is_digits (next at) && (digits_value (next at) == 0)) (λ e. yields-err (Counts 1 (2 ^ 63 - 1) at) ZeroDivisor) (λ e. number-yields 1 (2 ^ 63 - 1) at)

  divided-goes : (make : Expr → ℕ → Expr) (room : ℕ) → Divides P make → Goes P room (divided make)
  divided-goes make room divides n left at a =
      chain (divisor-yields at) (λ r h.
      let depth = divides.depth left.expr r.0 in
      let nodes = divides.nodes left.expr r.0 in
      yields-ok (TreeFrom P room n) _ (record {
        keeps = divides.keeps left.expr r.0 h.low (omega (arith, h.high)) a.keeps;
        depth = omega (arith, depth, a.depth);
        within = omega (arith, a.within);
        nodes = omega (arith, nodes, a.nodes, h.same);
        most = omega (arith, a.most, h.same);
      }))

  -- what an operator of a term does
  pub product-goes : (right : Reader Tree) (room : ℕ) (word : Text) → Joins P (λ a b. roll-Expr (e.Mul a b)) → Divides P (λ a n. roll-Expr (e.Div a n)) → Divides P (λ a n. roll-Expr (e.Mod a n))
      → Reads P (room - 1) right → IfSome (product_of right word) (Goes P room)
  product-goes right room word times div mod_ reads =
      either (Goes P room) (bytes_eq word (codes "*")) _ _ (multiplied-goes right room times reads)
      (either (Goes P room) (bytes_eq word (codes "div")) _ _ (divided-goes _ room div)
      (either (Goes P room) (bytes_eq word (codes "mod")) _ _ (divided-goes _ room mod_) tt))

  -- an operator that may follow
  more-yields : {A : Type 0} (Q : A → Type 0) (room n : ℕ) (o : Option A) (go : A → At → Result (Tree × At) TableKind) (left : Tree) (at : At) → IfSome o Q
      → ((op : A) → Q op → Yields (TreeFrom P room n) (go op at)) → IsTree P room n left at.nodes → Yields (TreeFrom P room n) (more o go left at)
  more-yields Q room n None go left at is goes t = yields-ok (TreeFrom P room n) (left, at) t
  more-yields Q room n (Some op) go left at is goes t = goes op is

  -- the operators of a term that follow
  pub products-yields : (right : Reader Tree) (room : ℕ) → ((word : Text) → IfSome (product_of right word) (Goes P room)) → (fuel n : ℕ) (left : Tree) (at : At)
      → IsTree P room n left at.nodes → Yields (TreeFrom P room n) (products right room fuel left at)
  unfolding products
  products-yields right room goes zero n left at t = yields-ok (TreeFrom P room n) (left, at) t
  products-yields right room goes (suc fuel) n left at t =
      more-yields (Goes P room) room n (product_of right (keyword at)) _ left at (goes (keyword at))
      (λ op op_goes. chain (chain (operator-yields room n left at t) (λ a h. op_goes n left a h)) (λ r h. products-yields right room goes fuel n r.0 r.1 h)) t

  -- the operators of an expression that follow
  pub sums-yields : (right : Reader Tree) (room : ℕ) → ((word : Text) → IfSome (sum_of word) (Joins P)) → Reads P (room - 1) right → (fuel n : ℕ) (left : Tree) (at : At)
      → IsTree P room n left at.nodes → Yields (TreeFrom P room n) (sums right room fuel left at)
  unfolding sums
  sums-yields right room joins reads zero n left at t = yields-ok (TreeFrom P room n) (left, at) t
  sums-yields right room joins reads (suc fuel) n left at t =
      more-yields (Joins P) room n (sum_of (keyword at)) _ left at (joins (keyword at))
      (λ op op_joins. chain {Q = λ (r : Tree × At). IsTree P room n (over op left r.0) (r.1).nodes}
      (chain (operator-yields room n left at t) (λ a h. weaker (λ r b. joined op room n left r.0 a (r.1).nodes op_joins h b) (reads a)))
      (λ r h. sums-yields right room joins reads fuel n (over op left r.0) r.1 h)) t
