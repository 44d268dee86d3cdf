-- The reads and the size of an expression, from those of its operands.
use Rattle.std.proofs.Common.{◌≡◌, ◌∙◌, sym, ap, ℕ, ◌+◌, List, [], ◌∷◌, ◌++◌, append_assoc}
use Rattle.std.specs.Prelude.{ℤ}
use Rattle.wf_model.specs.declared.expr.Expr.{Expr, Expr-F, roll-Expr, fold-roll-Expr, map-Expr}
use Rattle.wf_model.specs.declared.expr.Expr.TheVariants as expr
use Rattle.wf_model.specs.declared.expr.Test.{Test}
use Rattle.wf_model.specs.declared.expr.Args.{Args, Args-F, roll-Args, fold-roll-Args, map-Args}
use Rattle.wf_model.specs.declared.expr.Args.TheVariants as args
use Rattle.wf_model.specs.declared.expr.Args.TheOpen as e
use Rattle.wf_model.specs.Reads.{Read, reads_of, list_reads, layer_reads}
use Rattle.wf_model.specs.ExprFacts.{layer_nodes}
use Rattle.wf_plan_reads.specs.Sizes.{list_size, reads_of_list, size_of, size_of_list}

-- ---- of one layer

reads_at : (x : Expr) (l : Expr-F Args Expr) → x ≡ roll-Expr l → reads_of x ≡ layer_reads (map-Expr Args Expr (List Read) (List Read) reads_of_list reads_of l)
unfolding reads_of reads_of_list
reads_at x l is = ap reads_of is ∙ fold-roll-Expr (List Read) (List Read) list_reads layer_reads l

list_reads_at : (x : Args) (l : Args-F Args Expr) → x ≡ roll-Args l → reads_of_list x ≡ list_reads (map-Args Args Expr (List Read) (List Read) reads_of_list reads_of l)
unfolding reads_of reads_of_list
list_reads_at x l is = ap reads_of_list is ∙ fold-roll-Args (List Read) (List Read) list_reads layer_reads l

size_at : (x : Expr) (l : Expr-F Args Expr) → x ≡ roll-Expr l → size_of x ≡ layer_nodes (map-Expr Args Expr ℕ ℕ size_of_list size_of l)
unfolding size_of size_of_list
size_at x l is = ap size_of is ∙ fold-roll-Expr ℕ ℕ list_size layer_nodes l

list_size_at : (x : Args) (l : Args-F Args Expr) → x ≡ roll-Args l → size_of_list x ≡ list_size (map-Args Args Expr ℕ ℕ size_of_list size_of l)
unfolding size_of size_of_list
list_size_at x l is = ap size_of_list is ∙ fold-roll-Args ℕ ℕ list_size layer_nodes l

-- ---- reads

pub reads-Num : (x : Expr) (n : ℕ) → x ≡ expr.Num n → reads_of x ≡ []
reads-Num x n is = reads_at x (e.Num n) (is ∙ sym (expr.rolls-Num n))

pub reads-I : (x : Expr) → x ≡ expr.I → reads_of x ≡ []
reads-I x is = reads_at x e.I (is ∙ sym expr.rolls-I)

pub reads-J : (x : Expr) → x ≡ expr.J → reads_of x ≡ []
reads-J x is = reads_at x e.J (is ∙ sym expr.rolls-J)

pub reads-K : (x : Expr) → x ≡ expr.K → reads_of x ≡ []
reads-K x is = reads_at x e.K (is ∙ sym expr.rolls-K)

pub reads-Step : (x : Expr) → x ≡ expr.Step → reads_of x ≡ []
reads-Step x is = reads_at x e.Step (is ∙ sym expr.rolls-Step)

pub reads-Read : (x : Expr) (f : ℕ) (di dk dj : ℤ) → x ≡ expr.Read f di dk dj → reads_of x ≡ record { field = f; di = di; dk = dk; dj = dj } ∷ []
reads-Read x f di dk dj is = reads_at x (e.Read f di dk dj) (is ∙ sym (expr.rolls-Read f di dk dj))

pub reads-Neg : (x a : Expr) → x ≡ expr.Neg a → reads_of x ≡ reads_of a
reads-Neg x a is = reads_at x (e.Neg a) (is ∙ sym (expr.rolls-Neg a))

pub reads-Div : (x a : Expr) (n : ℕ) → x ≡ expr.Div a n → reads_of x ≡ reads_of a
reads-Div x a n is = reads_at x (e.Div a n) (is ∙ sym (expr.rolls-Div a n))

pub reads-Mod : (x a : Expr) (n : ℕ) → x ≡ expr.Mod a n → reads_of x ≡ reads_of a
reads-Mod x a n is = reads_at x (e.Mod a n) (is ∙ sym (expr.rolls-Mod a n))

pub reads-Add : (x a b : Expr) → x ≡ expr.Add a b → reads_of x ≡ reads_of a ++ reads_of b
reads-Add x a b is = reads_at x (e.Add a b) (is ∙ sym (expr.rolls-Add a b))

pub reads-Sub : (x a b : Expr) → x ≡ expr.Sub a b → reads_of x ≡ reads_of a ++ reads_of b
reads-Sub x a b is = reads_at x (e.Sub a b) (is ∙ sym (expr.rolls-Sub a b))

pub reads-Mul : (x a b : Expr) → x ≡ expr.Mul a b → reads_of x ≡ reads_of a ++ reads_of b
reads-Mul x a b is = reads_at x (e.Mul a b) (is ∙ sym (expr.rolls-Mul a b))

pub reads-Min : (x a b : Expr) → x ≡ expr.Min a b → reads_of x ≡ reads_of a ++ reads_of b
reads-Min x a b is = reads_at x (e.Min a b) (is ∙ sym (expr.rolls-Min a b))

pub reads-Max : (x a b : Expr) → x ≡ expr.Max a b → reads_of x ≡ reads_of a ++ reads_of b
reads-Max x a b is = reads_at x (e.Max a b) (is ∙ sym (expr.rolls-Max a b))

pub reads-If : (x : Expr) (t : Test) (a b c o : Expr) → x ≡ expr.If t a b c o → reads_of x ≡ (reads_of a ++ reads_of b) ++ (reads_of c ++ reads_of o)
reads-If x t a b c o is = reads_at x (e.If t a b c o) (is ∙ sym (expr.rolls-If t a b c o)) ∙ append_assoc (reads_of a ++ reads_of b) (reads_of c) (reads_of o)

pub reads-Call : (x : Expr) (id : ℕ) (list : Args) → x ≡ expr.Call id list → reads_of x ≡ reads_of_list list
reads-Call x id list is = reads_at x (e.Call id list) (is ∙ sym (expr.rolls-Call id list))

pub reads-End : (x : Args) → x ≡ args.End → reads_of_list x ≡ []
reads-End x is = list_reads_at x e.End (is ∙ sym args.rolls-End)

pub reads-More : (x : Args) (a : Expr) (rest : Args) → x ≡ args.More a rest → reads_of_list x ≡ reads_of a ++ reads_of_list rest
reads-More x a rest is = list_reads_at x (e.More a rest) (is ∙ sym (args.rolls-More a rest))

-- ---- sizes

pub size-Neg : (x a : Expr) → x ≡ expr.Neg a → size_of x ≡ 1 + size_of a
size-Neg x a is = size_at x (e.Neg a) (is ∙ sym (expr.rolls-Neg a))

pub size-Div : (x a : Expr) (n : ℕ) → x ≡ expr.Div a n → size_of x ≡ 1 + size_of a
size-Div x a n is = size_at x (e.Div a n) (is ∙ sym (expr.rolls-Div a n))

pub size-Mod : (x a : Expr) (n : ℕ) → x ≡ expr.Mod a n → size_of x ≡ 1 + size_of a
size-Mod x a n is = size_at x (e.Mod a n) (is ∙ sym (expr.rolls-Mod a n))

pub size-Add : (x a b : Expr) → x ≡ expr.Add a b → size_of x ≡ 1 + size_of a + size_of b
size-Add x a b is = size_at x (e.Add a b) (is ∙ sym (expr.rolls-Add a b))

pub size-Sub : (x a b : Expr) → x ≡ expr.Sub a b → size_of x ≡ 1 + size_of a + size_of b
size-Sub x a b is = size_at x (e.Sub a b) (is ∙ sym (expr.rolls-Sub a b))

pub size-Mul : (x a b : Expr) → x ≡ expr.Mul a b → size_of x ≡ 1 + size_of a + size_of b
size-Mul x a b is = size_at x (e.Mul a b) (is ∙ sym (expr.rolls-Mul a b))

pub size-Min : (x a b : Expr) → x ≡ expr.Min a b → size_of x ≡ 1 + size_of a + size_of b
size-Min x a b is = size_at x (e.Min a b) (is ∙ sym (expr.rolls-Min a b))

pub size-Max : (x a b : Expr) → x ≡ expr.Max a b → size_of x ≡ 1 + size_of a + size_of b
size-Max x a b is = size_at x (e.Max a b) (is ∙ sym (expr.rolls-Max a b))

pub size-If : (x : Expr) (t : Test) (a b c o : Expr) → x ≡ expr.If t a b c o → size_of x ≡ 1 + size_of a + size_of b + size_of c + size_of o
size-If x t a b c o is = size_at x (e.If t a b c o) (is ∙ sym (expr.rolls-If t a b c o))

pub size-Call : (x : Expr) (id : ℕ) (list : Args) → x ≡ expr.Call id list → size_of x ≡ 1 + size_of_list list
size-Call x id list is = size_at x (e.Call id list) (is ∙ sym (expr.rolls-Call id list))

pub size-More : (x : Args) (a : Expr) (rest : Args) → x ≡ args.More a rest → size_of_list x ≡ 1 + size_of a + size_of_list rest
size-More x a rest is = list_size_at x (e.More a rest) (is ∙ sym (args.rolls-More a rest))
