-- The number of an expression, its reads and its parts, from those of its operands.
use Rattle.std.proofs.Common.{◌≡◌, ℕ, ◌+◌, List, [], ◌∷◌, ◌++◌, sym, ap, ◌∙◌, Option, Some}
use Rattle.std.specs.Prelude.{ℤ, pos, ◌+ℤ◌, ◌-ℤ◌, ◌*ℤ◌, neg_ℤ}
use Rattle.std.specs.Int.{int_div_euclid, int_rem_euclid, int_min, int_max}
use Rattle.wf_model.specs.declared.expr.Expr.{Expr, Expr-F, roll-Expr, fold-roll-Expr, map-Expr}
use Rattle.wf_model.specs.declared.expr.Expr.TheVariants as expr
use Rattle.wf_model.specs.declared.expr.Args.{Args, Args-F, roll-Args, fold-roll-Args, map-Args}
use Rattle.wf_model.specs.declared.expr.Args.TheVariants as args
use Rattle.wf_model.specs.declared.expr.Args.TheOpen as e
use Rattle.wf_model.specs.declared.expr.Test.{Test}
use Rattle.wf_model.specs.Numbers.{in_i64, and_then, of_both}
use Rattle.wf_model.specs.Value.{Sight, Answers, number_of, list_value, layer_value, branch}
use Rattle.wf_model.specs.Reads.{Read, reads_of, list_reads, layer_reads}
use Rattle.wf_model.specs.ExprFacts.{Parts, ArgumentParts, no_parts, parts_of, parts_of_both, divided, call_parts, list_parts, layer_parts, layer_nodes}
use Rattle.wf_eval.specs.Arguments.{numbers_in, parts_in, reads_in}
use Rattle.wf_eval.specs.Steps.{list_steps, steps_of, steps_in}

module _ (m : Answers) (s : Sight) where
  -- the number of one layer
  number_roll : (x : Expr-F Args Expr) →
      number_of m s (roll-Expr x) ≡ layer_value m s (map-Expr Args Expr (Option (List ℤ)) (Option ℤ) (numbers_in m s) (number_of m s) x)
  unfolding number_of numbers_in
  number_roll x = fold-roll-Expr (Option (List ℤ)) (Option ℤ) list_value (layer_value m s) x

  pub number-Num : (n : ℕ) → number_of m s (expr.Num n) ≡ in_i64 (pos n)
  number-Num n = ap (number_of m s) (sym (expr.rolls-Num n)) ∙ number_roll (e.Num n)

  pub number-I : number_of m s expr.I ≡ in_i64 (pos s.i)
  number-I = ap (number_of m s) (sym expr.rolls-I) ∙ number_roll e.I

  pub number-J : number_of m s expr.J ≡ in_i64 (pos s.j)
  number-J = ap (number_of m s) (sym expr.rolls-J) ∙ number_roll e.J

  pub number-K : number_of m s expr.K ≡ in_i64 (pos s.k)
  number-K = ap (number_of m s) (sym expr.rolls-K) ∙ number_roll e.K

  pub number-Step : number_of m s expr.Step ≡ in_i64 (pos s.step)
  number-Step = ap (number_of m s) (sym expr.rolls-Step) ∙ number_roll e.Step

  pub number-Read : (f : ℕ) (di dk dj : ℤ) → number_of m s (expr.Read f di dk dj) ≡ in_i64 (s.read f di dk dj)
  number-Read f di dk dj = ap (number_of m s) (sym (expr.rolls-Read f di dk dj)) ∙ number_roll (e.Read f di dk dj)

  pub number-Neg : (a : Expr) → number_of m s (expr.Neg a) ≡ and_then (number_of m s a) (λ x. in_i64 (neg_ℤ x))
  number-Neg a = ap (number_of m s) (sym (expr.rolls-Neg a)) ∙ number_roll (e.Neg a)

  pub number-Add : (a b : Expr) → number_of m s (expr.Add a b) ≡ of_both (λ x y. in_i64 (x +ℤ y)) (number_of m s a) (number_of m s b)
  number-Add a b = ap (number_of m s) (sym (expr.rolls-Add a b)) ∙ number_roll (e.Add a b)

  pub number-Sub : (a b : Expr) → number_of m s (expr.Sub a b) ≡ of_both (λ x y. in_i64 (x -ℤ y)) (number_of m s a) (number_of m s b)
  number-Sub a b = ap (number_of m s) (sym (expr.rolls-Sub a b)) ∙ number_roll (e.Sub a b)

  pub number-Mul : (a b : Expr) → number_of m s (expr.Mul a b) ≡ of_both (λ x y. in_i64 (x *ℤ y)) (number_of m s a) (number_of m s b)
  number-Mul a b = ap (number_of m s) (sym (expr.rolls-Mul a b)) ∙ number_roll (e.Mul a b)

  pub number-Div : (a : Expr) (n : ℕ) → number_of m s (expr.Div a n) ≡ and_then (number_of m s a) (λ x. in_i64 (int_div_euclid x (pos n)))
  number-Div a n = ap (number_of m s) (sym (expr.rolls-Div a n)) ∙ number_roll (e.Div a n)

  pub number-Mod : (a : Expr) (n : ℕ) → number_of m s (expr.Mod a n) ≡ and_then (number_of m s a) (λ x. in_i64 (int_rem_euclid x (pos n)))
  number-Mod a n = ap (number_of m s) (sym (expr.rolls-Mod a n)) ∙ number_roll (e.Mod a n)

  pub number-Min : (a b : Expr) → number_of m s (expr.Min a b) ≡ of_both (λ x y. Some (int_min x y)) (number_of m s a) (number_of m s b)
  number-Min a b = ap (number_of m s) (sym (expr.rolls-Min a b)) ∙ number_roll (e.Min a b)

  pub number-Max : (a b : Expr) → number_of m s (expr.Max a b) ≡ of_both (λ x y. Some (int_max x y)) (number_of m s a) (number_of m s b)
  number-Max a b = ap (number_of m s) (sym (expr.rolls-Max a b)) ∙ number_roll (e.Max a b)

  pub number-If : (t : Test) (a b c o : Expr) → number_of m s (expr.If t a b c o) ≡ branch t (number_of m s a) (number_of m s b) (number_of m s c) (number_of m s o)
  number-If t a b c o = ap (number_of m s) (sym (expr.rolls-If t a b c o)) ∙ number_roll (e.If t a b c o)

  pub number-Call : (id : ℕ) (list : Args) → number_of m s (expr.Call id list) ≡ and_then (numbers_in m s list) (λ xs. in_i64 (m id xs))
  number-Call id list = ap (number_of m s) (sym (expr.rolls-Call id list)) ∙ number_roll (e.Call id list)

  -- the numbers of one argument more
  numbers_roll : (x : Args-F Args Expr) → numbers_in m s (roll-Args x) ≡ list_value (map-Args Args Expr (Option (List ℤ)) (Option ℤ) (numbers_in m s) (number_of m s) x)
  unfolding number_of numbers_in
  numbers_roll x = fold-roll-Args (Option (List ℤ)) (Option ℤ) list_value (layer_value m s) x

  pub numbers-End : numbers_in m s args.End ≡ Some []
  numbers-End = ap (numbers_in m s) (sym args.rolls-End) ∙ numbers_roll e.End

  pub numbers-More : (a : Expr) (rest : Args) → numbers_in m s (args.More a rest) ≡ of_both (λ x xs. Some (x ∷ xs)) (number_of m s a) (numbers_in m s rest)
  numbers-More a rest = ap (numbers_in m s) (sym (args.rolls-More a rest)) ∙ numbers_roll (e.More a rest)

-- ---- reads

-- the reads of one layer
reads_roll : (x : Expr-F Args Expr) → reads_of (roll-Expr x) ≡ layer_reads (map-Expr Args Expr (List Read) (List Read) reads_in reads_of x)
unfolding reads_of reads_in
reads_roll x = fold-roll-Expr (List Read) (List Read) list_reads layer_reads x

pub reads-Read : (f : ℕ) (di dk dj : ℤ) → reads_of (expr.Read f di dk dj) ≡ record { field = f; di = di; dk = dk; dj = dj } ∷ []
reads-Read f di dk dj = ap reads_of (sym (expr.rolls-Read f di dk dj)) ∙ reads_roll (e.Read f di dk dj)

pub reads-Neg : (a : Expr) → reads_of (expr.Neg a) ≡ reads_of a
reads-Neg a = ap reads_of (sym (expr.rolls-Neg a)) ∙ reads_roll (e.Neg a)

pub reads-Add : (a b : Expr) → reads_of (expr.Add a b) ≡ reads_of a ++ reads_of b
reads-Add a b = ap reads_of (sym (expr.rolls-Add a b)) ∙ reads_roll (e.Add a b)

pub reads-Sub : (a b : Expr) → reads_of (expr.Sub a b) ≡ reads_of a ++ reads_of b
reads-Sub a b = ap reads_of (sym (expr.rolls-Sub a b)) ∙ reads_roll (e.Sub a b)

pub reads-Mul : (a b : Expr) → reads_of (expr.Mul a b) ≡ reads_of a ++ reads_of b
reads-Mul a b = ap reads_of (sym (expr.rolls-Mul a b)) ∙ reads_roll (e.Mul a b)

pub reads-Div : (a : Expr) (n : ℕ) → reads_of (expr.Div a n) ≡ reads_of a
reads-Div a n = ap reads_of (sym (expr.rolls-Div a n)) ∙ reads_roll (e.Div a n)

pub reads-Mod : (a : Expr) (n : ℕ) → reads_of (expr.Mod a n) ≡ reads_of a
reads-Mod a n = ap reads_of (sym (expr.rolls-Mod a n)) ∙ reads_roll (e.Mod a n)

pub reads-Min : (a b : Expr) → reads_of (expr.Min a b) ≡ reads_of a ++ reads_of b
reads-Min a b = ap reads_of (sym (expr.rolls-Min a b)) ∙ reads_roll (e.Min a b)

pub reads-Max : (a b : Expr) → reads_of (expr.Max a b) ≡ reads_of a ++ reads_of b
reads-Max a b = ap reads_of (sym (expr.rolls-Max a b)) ∙ reads_roll (e.Max a b)

pub reads-If : (t : Test) (a b c o : Expr) → reads_of (expr.If t a b c o) ≡ reads_of a ++ reads_of b ++ reads_of c ++ reads_of o
reads-If t a b c o = ap reads_of (sym (expr.rolls-If t a b c o)) ∙ reads_roll (e.If t a b c o)

pub reads-Call : (id : ℕ) (list : Args) → reads_of (expr.Call id list) ≡ reads_in list
reads-Call id list = ap reads_of (sym (expr.rolls-Call id list)) ∙ reads_roll (e.Call id list)

list_reads_roll : (x : Args-F Args Expr) → reads_in (roll-Args x) ≡ list_reads (map-Args Args Expr (List Read) (List Read) reads_in reads_of x)
unfolding reads_of reads_in
list_reads_roll x = fold-roll-Args (List Read) (List Read) list_reads layer_reads x

pub reads-More : (a : Expr) (rest : Args) → reads_in (args.More a rest) ≡ reads_of a ++ reads_in rest
reads-More a rest = ap reads_in (sym (args.rolls-More a rest)) ∙ list_reads_roll (e.More a rest)

-- ---- divisors and calls

-- the parts of one layer
parts_roll : (x : Expr-F Args Expr) → parts_of (roll-Expr x) ≡ layer_parts (map-Expr Args Expr ArgumentParts Parts parts_in parts_of x)
unfolding parts_of parts_in
parts_roll x = fold-roll-Expr ArgumentParts Parts list_parts layer_parts x

pub parts-Num : (n : ℕ) → parts_of (expr.Num n) ≡ record { divisors = []; numbers = n ∷ []; calls = [] }
parts-Num n = ap parts_of (sym (expr.rolls-Num n)) ∙ parts_roll (e.Num n)

pub parts-I : parts_of expr.I ≡ no_parts
parts-I = ap parts_of (sym expr.rolls-I) ∙ parts_roll e.I

pub parts-Read : (f : ℕ) (di dk dj : ℤ) → parts_of (expr.Read f di dk dj) ≡ no_parts
parts-Read f di dk dj = ap parts_of (sym (expr.rolls-Read f di dk dj)) ∙ parts_roll (e.Read f di dk dj)

pub parts-Neg : (a : Expr) → parts_of (expr.Neg a) ≡ parts_of a
parts-Neg a = ap parts_of (sym (expr.rolls-Neg a)) ∙ parts_roll (e.Neg a)

pub parts-Add : (a b : Expr) → parts_of (expr.Add a b) ≡ parts_of_both (parts_of a) (parts_of b)
parts-Add a b = ap parts_of (sym (expr.rolls-Add a b)) ∙ parts_roll (e.Add a b)

pub parts-Sub : (a b : Expr) → parts_of (expr.Sub a b) ≡ parts_of_both (parts_of a) (parts_of b)
parts-Sub a b = ap parts_of (sym (expr.rolls-Sub a b)) ∙ parts_roll (e.Sub a b)

pub parts-Mul : (a b : Expr) → parts_of (expr.Mul a b) ≡ parts_of_both (parts_of a) (parts_of b)
parts-Mul a b = ap parts_of (sym (expr.rolls-Mul a b)) ∙ parts_roll (e.Mul a b)

pub parts-Div : (a : Expr) (n : ℕ) → parts_of (expr.Div a n) ≡ divided (parts_of a) n
parts-Div a n = ap parts_of (sym (expr.rolls-Div a n)) ∙ parts_roll (e.Div a n)

pub parts-Mod : (a : Expr) (n : ℕ) → parts_of (expr.Mod a n) ≡ divided (parts_of a) n
parts-Mod a n = ap parts_of (sym (expr.rolls-Mod a n)) ∙ parts_roll (e.Mod a n)

pub parts-Min : (a b : Expr) → parts_of (expr.Min a b) ≡ parts_of_both (parts_of a) (parts_of b)
parts-Min a b = ap parts_of (sym (expr.rolls-Min a b)) ∙ parts_roll (e.Min a b)

pub parts-Max : (a b : Expr) → parts_of (expr.Max a b) ≡ parts_of_both (parts_of a) (parts_of b)
parts-Max a b = ap parts_of (sym (expr.rolls-Max a b)) ∙ parts_roll (e.Max a b)

pub parts-If : (t : Test) (a b c o : Expr) → parts_of (expr.If t a b c o) ≡ parts_of_both (parts_of_both (parts_of a) (parts_of b)) (parts_of_both (parts_of c) (parts_of o))
parts-If t a b c o = ap parts_of (sym (expr.rolls-If t a b c o)) ∙ parts_roll (e.If t a b c o)

pub parts-Call : (id : ℕ) (list : Args) → parts_of (expr.Call id list) ≡ call_parts id (parts_in list)
parts-Call id list = ap parts_of (sym (expr.rolls-Call id list)) ∙ parts_roll (e.Call id list)

list_parts_roll : (x : Args-F Args Expr) → parts_in (roll-Args x) ≡ list_parts (map-Args Args Expr ArgumentParts Parts parts_in parts_of x)
unfolding parts_of parts_in
list_parts_roll x = fold-roll-Args ArgumentParts Parts list_parts layer_parts x

pub parts-End : parts_in args.End ≡ record { parts = no_parts; count = 0 }
parts-End = ap parts_in (sym args.rolls-End) ∙ list_parts_roll e.End

pub parts-More : (a : Expr) (rest : Args) → parts_in (args.More a rest) ≡ record { parts = parts_of_both (parts_of a) (parts_in rest).parts; count = (parts_in rest).count + 1 }
parts-More a rest = ap parts_in (sym (args.rolls-More a rest)) ∙ list_parts_roll (e.More a rest)

-- ---- steps

-- the steps of one layer
steps_roll : (x : Expr-F Args Expr) → steps_of (roll-Expr x) ≡ layer_nodes (map-Expr Args Expr ℕ ℕ steps_in steps_of x)
unfolding steps_of steps_in
steps_roll x = fold-roll-Expr ℕ ℕ list_steps layer_nodes x

pub steps-Neg : (a : Expr) → steps_of (expr.Neg a) ≡ 1 + steps_of a
steps-Neg a = ap steps_of (sym (expr.rolls-Neg a)) ∙ steps_roll (e.Neg a)

pub steps-Add : (a b : Expr) → steps_of (expr.Add a b) ≡ 1 + steps_of a + steps_of b
steps-Add a b = ap steps_of (sym (expr.rolls-Add a b)) ∙ steps_roll (e.Add a b)

pub steps-Sub : (a b : Expr) → steps_of (expr.Sub a b) ≡ 1 + steps_of a + steps_of b
steps-Sub a b = ap steps_of (sym (expr.rolls-Sub a b)) ∙ steps_roll (e.Sub a b)

pub steps-Mul : (a b : Expr) → steps_of (expr.Mul a b) ≡ 1 + steps_of a + steps_of b
steps-Mul a b = ap steps_of (sym (expr.rolls-Mul a b)) ∙ steps_roll (e.Mul a b)

pub steps-Div : (a : Expr) (n : ℕ) → steps_of (expr.Div a n) ≡ 1 + steps_of a
steps-Div a n = ap steps_of (sym (expr.rolls-Div a n)) ∙ steps_roll (e.Div a n)

pub steps-Mod : (a : Expr) (n : ℕ) → steps_of (expr.Mod a n) ≡ 1 + steps_of a
steps-Mod a n = ap steps_of (sym (expr.rolls-Mod a n)) ∙ steps_roll (e.Mod a n)

pub steps-Min : (a b : Expr) → steps_of (expr.Min a b) ≡ 1 + steps_of a + steps_of b
steps-Min a b = ap steps_of (sym (expr.rolls-Min a b)) ∙ steps_roll (e.Min a b)

pub steps-Max : (a b : Expr) → steps_of (expr.Max a b) ≡ 1 + steps_of a + steps_of b
steps-Max a b = ap steps_of (sym (expr.rolls-Max a b)) ∙ steps_roll (e.Max a b)

pub steps-If : (t : Test) (a b c o : Expr) → steps_of (expr.If t a b c o) ≡ 1 + steps_of a + steps_of b + steps_of c + steps_of o
steps-If t a b c o = ap steps_of (sym (expr.rolls-If t a b c o)) ∙ steps_roll (e.If t a b c o)

pub steps-Call : (id : ℕ) (list : Args) → steps_of (expr.Call id list) ≡ 1 + steps_in list
steps-Call id list = ap steps_of (sym (expr.rolls-Call id list)) ∙ steps_roll (e.Call id list)

list_steps_roll : (x : Args-F Args Expr) → steps_in (roll-Args x) ≡ list_steps (map-Args Args Expr ℕ ℕ steps_in steps_of x)
unfolding steps_of steps_in
list_steps_roll x = fold-roll-Args ℕ ℕ list_steps layer_nodes x

pub steps-More : (a : Expr) (rest : Args) → steps_in (args.More a rest) ≡ 1 + steps_of a + steps_in rest
steps-More a rest = ap steps_in (sym (args.rolls-More a rest)) ∙ list_steps_roll (e.More a rest)
