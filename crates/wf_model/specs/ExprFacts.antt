-- What is counted of an expression, and what its parts keep.
use Rattle.std.specs.Prelude.{ℕ, ◌+◌, ◌^◌, ◌<◌, ◌≤◌, max, List, [], ◌∷◌, ◌++◌, unsigned_abs, All}
use Rattle.wf_model.specs.declared.expr.Expr.{Expr, Expr-F, fold-Expr}
use Rattle.wf_model.specs.declared.expr.Args.{Args-F}
use Rattle.wf_model.specs.declared.expr.Args.TheOpen as e
use Rattle.wf_model.specs.Reads.{Read, reads_of}

-- ---- nodes: one for each expression in the tree

abbrev pub list_nodes : Args-F ℕ ℕ → ℕ
list_nodes e.End = 0
list_nodes (e.More a rest) = a + rest

abbrev pub layer_nodes : Expr-F ℕ ℕ → ℕ
layer_nodes (e.Num n) = 1
layer_nodes e.I = 1
layer_nodes e.J = 1
layer_nodes e.K = 1
layer_nodes e.Step = 1
layer_nodes (e.Read field di dk dj) = 1
layer_nodes (e.Neg a) = 1 + a
layer_nodes (e.Add a b) = 1 + a + b
layer_nodes (e.Sub a b) = 1 + a + b
layer_nodes (e.Mul a b) = 1 + a + b
layer_nodes (e.Div a n) = 1 + a
layer_nodes (e.Mod a n) = 1 + a
layer_nodes (e.Min a b) = 1 + a + b
layer_nodes (e.Max a b) = 1 + a + b
layer_nodes (e.If test a b chosen other) = 1 + a + b + chosen + other
layer_nodes (e.Call id list) = 1 + list

unfoldable pub nodes_of : Expr → ℕ
nodes_of x = fold-Expr ℕ ℕ list_nodes layer_nodes x

-- ---- depth: an operand is one deeper than what holds it

abbrev pub list_depth : Args-F ℕ ℕ → ℕ
list_depth e.End = 0
list_depth (e.More a rest) = max a rest

abbrev pub layer_depth : Expr-F ℕ ℕ → ℕ
layer_depth (e.Num n) = 1
layer_depth e.I = 1
layer_depth e.J = 1
layer_depth e.K = 1
layer_depth e.Step = 1
layer_depth (e.Read field di dk dj) = 1
layer_depth (e.Neg a) = 1 + a
layer_depth (e.Add a b) = 1 + max a b
layer_depth (e.Sub a b) = 1 + max a b
layer_depth (e.Mul a b) = 1 + max a b
layer_depth (e.Div a n) = 1 + a
layer_depth (e.Mod a n) = 1 + a
layer_depth (e.Min a b) = 1 + max a b
layer_depth (e.Max a b) = 1 + max a b
layer_depth (e.If test a b chosen other) = 1 + max (max a b) (max chosen other)
layer_depth (e.Call id list) = 1 + list

unfoldable pub depth_of : Expr → ℕ
depth_of x = fold-Expr ℕ ℕ list_depth layer_depth x

-- ---- divisors, numbers and calls, from left to right

-- a call of a stored function: its id, and how many arguments it has
pub record CallOf : Type 0 where
  pub id : ℕ
  pub arguments : ℕ

pub record Parts : Type 0 where
  pub divisors : List ℕ
  pub numbers : List ℕ
  pub calls : List CallOf

abbrev pub no_parts : Parts
no_parts = record { divisors = []; numbers = []; calls = [] }

abbrev pub parts_of_both : Parts → Parts → Parts
parts_of_both a b = record {
  divisors = a.divisors ++ b.divisors;
  numbers = a.numbers ++ b.numbers;
  calls = a.calls ++ b.calls;
}

abbrev pub divided : Parts → ℕ → Parts
divided a n = record { divisors = a.divisors ++ n ∷ []; numbers = a.numbers; calls = a.calls }

-- of arguments: their parts, and how many they are
pub record ArgumentParts : Type 0 where
  pub parts : Parts
  pub count : ℕ

abbrev pub list_parts : Args-F ArgumentParts Parts → ArgumentParts
list_parts e.End = record { parts = no_parts; count = 0 }
list_parts (e.More a rest) = record { parts = parts_of_both a rest.parts; count = rest.count + 1 }

abbrev pub call_parts : ℕ → ArgumentParts → Parts
call_parts id list = record {
  divisors = list.parts.divisors;
  numbers = list.parts.numbers;
  calls = list.parts.calls ++ record { id = id; arguments = list.count } ∷ [];
}

abbrev pub layer_parts : Expr-F ArgumentParts Parts → Parts
layer_parts (e.Num n) = record { divisors = []; numbers = n ∷ []; calls = [] }
layer_parts e.I = no_parts
layer_parts e.J = no_parts
layer_parts e.K = no_parts
layer_parts e.Step = no_parts
layer_parts (e.Read field di dk dj) = no_parts
layer_parts (e.Neg a) = a
layer_parts (e.Add a b) = parts_of_both a b
layer_parts (e.Sub a b) = parts_of_both a b
layer_parts (e.Mul a b) = parts_of_both a b
layer_parts (e.Div a n) = divided a n
layer_parts (e.Mod a n) = divided a n
layer_parts (e.Min a b) = parts_of_both a b
layer_parts (e.Max a b) = parts_of_both a b
layer_parts (e.If test a b chosen other) =
    parts_of_both (parts_of_both a b) (parts_of_both chosen other)
layer_parts (e.Call id list) = call_parts id list

unfoldable pub parts_of : Expr → Parts
parts_of x = fold-Expr ArgumentParts Parts list_parts layer_parts x

-- ---- what a table's expressions keep

abbrev pub IsNearRead : Read → Type 0
IsNearRead r = (unsigned_abs r.di ≤ 6) × (unsigned_abs r.dk ≤ 127) × (unsigned_abs r.dj ≤ 6)

pub record IsRangedExpr (x : Expr) : Type 0 where
  pub nodes : nodes_of x ≤ 1024
  pub depth : depth_of x ≤ 64
  pub divisors : All (λ n. (1 ≤ n) × (n < 2 ^ 63)) (parts_of x).divisors
  pub numbers : All (λ n. n < 2 ^ 63) (parts_of x).numbers
  pub calls : All (λ (c : CallOf). c.arguments ≤ 8) (parts_of x).calls
  pub reads : All IsNearRead (reads_of x)
