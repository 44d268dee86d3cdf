-- How many parts an expression has: its nodes, and those of its lists of arguments.
use Rattle.std.specs.Prelude.{ℕ, ◌+◌, List}
use Rattle.wf_model.specs.declared.expr.Expr.{Expr, fold-Expr}
use Rattle.wf_model.specs.declared.expr.Args.{Args, Args-F, fold-Args}
use Rattle.wf_model.specs.declared.expr.Args.TheOpen as e
use Rattle.wf_model.specs.ExprFacts.{layer_nodes}
use Rattle.wf_model.specs.Reads.{Read, layer_reads, list_reads}

abbrev pub list_size : Args-F ℕ ℕ → ℕ
list_size e.End = 1
list_size (e.More a rest) = 1 + a + rest

-- the reads of arguments, from left to right
unfoldable pub reads_of_list : Args → List Read
reads_of_list x = fold-Args (List Read) (List Read) list_reads layer_reads x

unfoldable pub size_of : Expr → ℕ
size_of x = fold-Expr ℕ ℕ list_size layer_nodes x

unfoldable pub size_of_list : Args → ℕ
size_of_list x = fold-Args ℕ ℕ list_size layer_nodes x
