-- What the rules of the grammar keep, and what is then known of a tree and of arguments that are read.
use Rattle.std.proofs.Common.{◌≡◌, ℕ, ◌+◌, ◌^◌, ◌<◌, ◌≤◌, max, List, [], ◌∷◌, length, fold, ℤ, arith}
use Rattle.std.specs.Prelude.{unsigned_abs}
use Rattle.std.specs.List.{AllByRecursion}
use Rattle.wf_model.specs.declared.expr.Test.{Test}
use Rattle.wf_model.specs.declared.expr.Expr.{Expr, roll-Expr}
use Rattle.wf_model.specs.declared.expr.Args.TheOpen as e
use Rattle.wf_model.specs.declared.table.Names.{Names}
use Rattle.wf_model.specs.declared.table.HookKind.TheVariants.{Call}
use Rattle.wf_model.specs.Tokens.{At, Reader}
use Rattle.wf_model.specs.ExprFacts.{nodes_of, depth_of}
use Rattle.wf_model.specs.TableNames.{most_dk}
use Rattle.wf_model.specs.Sound.{IsHook}
use Rattle.wf_model.specs.ExprText.{Tree, Arguments, arguments_tree, deepest}
use Rattle.wf_table_laws.proofs.Layers.{nodes_in, depth_in}
use Rattle.wf_table_laws.proofs.Yields.{Yields}

-- what each rule of the grammar keeps
pub record Rules (names : Names) (P : Expr → Type 0) : Type 0 where
  pub num : (n : ℕ) → n < 2 ^ 63 → P (roll-Expr (e.Num n))
  pub i : P (roll-Expr e.I)
  pub j : P (roll-Expr e.J)
  pub k : P (roll-Expr e.K)
  pub step : P (roll-Expr e.Step)
  pub read : (f : ℕ) (di dk dj : ℤ) → f < length names.levels → unsigned_abs di ≤ 6 → unsigned_abs dk ≤ most_dk names f → unsigned_abs dj ≤ 6 → P (roll-Expr (e.Read f di dk dj))
  pub neg : (a : Expr) → P a → P (roll-Expr (e.Neg a))
  pub add : (a b : Expr) → P a → P b → P (roll-Expr (e.Add a b))
  pub sub : (a b : Expr) → P a → P b → P (roll-Expr (e.Sub a b))
  pub mul : (a b : Expr) → P a → P b → P (roll-Expr (e.Mul a b))
  pub div : (a : Expr) (n : ℕ) → 1 ≤ n → n < 2 ^ 63 → P a → P (roll-Expr (e.Div a n))
  pub mod_ : (a : Expr) (n : ℕ) → 1 ≤ n → n < 2 ^ 63 → P a → P (roll-Expr (e.Mod a n))
  pub min_ : (a b : Expr) → P a → P b → P (roll-Expr (e.Min a b))
  pub max_ : (a b : Expr) → P a → P b → P (roll-Expr (e.Max a b))
  pub choice : (t : Test) (a b c d : Expr) → P a → P b → P c → P d → P (roll-Expr (e.If t a b c d))
  pub call : (id : ℕ) (trees : List Tree) → IsHook names.hooks id Call (length trees) → AllByRecursion (λ t. P (Tree.expr t)) trees → P (roll-Expr (e.Call id (arguments_tree trees)))

-- a tree with this room, where the count of nodes went from n to m
pub record IsTree (P : Expr → Type 0) (room n : ℕ) (t : Tree) (m : ℕ) : Type 0 where
  pub keeps : P t.expr
  pub depth : depth_of t.expr ≤ t.depth
  pub within : t.depth ≤ room
  pub nodes : n + nodes_of t.expr ≤ m
  pub most : m ≤ 1024

abbrev pub TreeFrom : (Expr → Type 0) → ℕ → ℕ → Tree × At → Type 0
TreeFrom P room n r = IsTree P room n r.0 (r.1).nodes

-- a reader of such trees
abbrev pub Reads : (Expr → Type 0) → ℕ → Reader Tree → Type 0
Reads P room reader = (at : At) → Yields (TreeFrom P room at.nodes) (reader at)

-- arguments with this room, where the count of nodes went from n to m
pub record IsList (P : Expr → Type 0) (room n : ℕ) (ts : List Tree) (m : ℕ) : Type 0 where
  pub keeps : AllByRecursion (λ t. P (Tree.expr t)) ts
  pub depth : depth_in (arguments_tree ts) ≤ deepest ts
  pub within : deepest ts ≤ room
  pub nodes : n + nodes_in (arguments_tree ts) ≤ m
  pub most : m ≤ 1024

abbrev pub ListFrom : (Expr → Type 0) → ℕ → ℕ → Arguments → Type 0
ListFrom P room n r = IsList P room n r.0 (r.1).nodes

-- the deepest of one tree more
deepest_from : (d : ℕ) (ts : List Tree) → fold (λ d t. max d (Tree.depth t)) d ts ≡ max d (deepest ts)
deepest_from d [] = omega arith
deepest_from d (t ∷ ts) = omega (arith, deepest_from (max d t.depth) ts, deepest_from (max 0 t.depth) ts)

pub deepest-cons : (t : Tree) (ts : List Tree) → deepest (t ∷ ts) ≡ max t.depth (deepest ts)
deepest-cons t ts = omega (arith, deepest_from (max 0 t.depth) ts)
