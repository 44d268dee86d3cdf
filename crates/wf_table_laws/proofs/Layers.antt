-- Nodes, depth, parts and reads of an expression, from those of its operands.
use Rattle.std.proofs.Common.{◌≡◌, ℕ, List}
use Rattle.wf_model.specs.declared.expr.Expr.{Expr, Expr-F, roll-Expr, fold-roll-Expr, map-Expr}
use Rattle.wf_model.specs.declared.expr.Args.{Args, Args-F, roll-Args, fold-Args, fold-roll-Args, map-Args}
use Rattle.wf_model.specs.Reads.{Read, reads_of, list_reads, layer_reads}
use Rattle.wf_model.specs.ExprFacts.{Parts, ArgumentParts, parts_of, list_parts, layer_parts, nodes_of, list_nodes, layer_nodes, depth_of, list_depth, layer_depth}

-- ---- of arguments

abbrev pub nodes_in : Args → ℕ
nodes_in xs = fold-Args ℕ ℕ list_nodes layer_nodes xs

abbrev pub depth_in : Args → ℕ
depth_in xs = fold-Args ℕ ℕ list_depth layer_depth xs

abbrev pub parts_in : Args → ArgumentParts
parts_in xs = fold-Args ArgumentParts Parts list_parts layer_parts xs

abbrev pub reads_in : Args → List Read
reads_in xs = fold-Args (List Read) (List Read) list_reads layer_reads xs

-- ---- of one layer

pub nodes_roll : (x : Expr-F Args Expr) → nodes_of (roll-Expr x) ≡ layer_nodes (map-Expr Args Expr ℕ ℕ nodes_in nodes_of x)
unfolding nodes_of
nodes_roll x = fold-roll-Expr ℕ ℕ list_nodes layer_nodes x

pub depth_roll : (x : Expr-F Args Expr) → depth_of (roll-Expr x) ≡ layer_depth (map-Expr Args Expr ℕ ℕ depth_in depth_of x)
unfolding depth_of
depth_roll x = fold-roll-Expr ℕ ℕ list_depth layer_depth x

pub parts_roll : (x : Expr-F Args Expr) → parts_of (roll-Expr x) ≡ layer_parts (map-Expr Args Expr ArgumentParts Parts parts_in parts_of x)
unfolding parts_of
parts_roll x = fold-roll-Expr ArgumentParts Parts list_parts layer_parts x

pub reads_roll : (x : Expr-F Args Expr) → reads_of (roll-Expr x) ≡ layer_reads (map-Expr Args Expr (List Read) (List Read) reads_in reads_of x)
unfolding reads_of
reads_roll x = fold-roll-Expr (List Read) (List Read) list_reads layer_reads x

-- ---- of one argument more

pub nodes_more : (xs : Args-F Args Expr) → nodes_in (roll-Args xs) ≡ list_nodes (map-Args Args Expr ℕ ℕ nodes_in nodes_of xs)
unfolding nodes_of
nodes_more xs = fold-roll-Args ℕ ℕ list_nodes layer_nodes xs

pub depth_more : (xs : Args-F Args Expr) → depth_in (roll-Args xs) ≡ list_depth (map-Args Args Expr ℕ ℕ depth_in depth_of xs)
unfolding depth_of
depth_more xs = fold-roll-Args ℕ ℕ list_depth layer_depth xs

pub parts_more : (xs : Args-F Args Expr) → parts_in (roll-Args xs) ≡ list_parts (map-Args Args Expr ArgumentParts Parts parts_in parts_of xs)
unfolding parts_of
parts_more xs = fold-roll-Args ArgumentParts Parts list_parts layer_parts xs

pub reads_more : (xs : Args-F Args Expr) → reads_in (roll-Args xs) ≡ list_reads (map-Args Args Expr (List Read) (List Read) reads_in reads_of xs)
unfolding reads_of
reads_more xs = fold-roll-Args (List Read) (List Read) list_reads layer_reads xs
