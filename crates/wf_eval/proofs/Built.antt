-- An expression has what it needs where its operands have, and its divisor is above 0.
use Rattle.std.proofs.Common.{◌≡◌, ℕ, ◌≤◌, List, [], ◌∷◌, ◌++◌, sym, subst}
use Rattle.std.proofs.lemmas.List.Elements.{All-nil, All-cons, All-append}
use Rattle.std.specs.List.{All}
use Rattle.std.specs.Prelude.{ℤ}
use Rattle.wf_model.specs.declared.expr.Expr.{Expr}
use Rattle.wf_model.specs.declared.expr.Expr.TheVariants as expr
use Rattle.wf_model.specs.declared.expr.Args.{Args}
use Rattle.wf_model.specs.declared.expr.Args.TheVariants as args
use Rattle.wf_model.specs.declared.expr.Test.{Test}
use Rattle.wf_model.specs.ExprFacts.{Parts, ArgumentParts, CallOf, no_parts, call_parts, parts_of, parts_of_both, divided}
use Rattle.wf_eval.specs.Arguments.{parts_in, count_in}
use Rattle.wf_eval.specs.Evaluable.{IsAccepted, IsEvaluable, AreEvaluable, AnyRead}
use Rattle.wf_eval.proofs.Layers.{parts-End, parts-More, parts-Call, parts-Num, parts-I, parts-Read, parts-Neg, parts-Add, parts-Mul, parts-Div, parts-Mod, parts-If}

module _ (A : ℕ → List ℤ → Type 0) where
  -- an expression that may be read anywhere, by its parts
  of_parts : (x : Expr) (p : Parts) → parts_of x ≡ p → All (λ n. 1 ≤ n) p.divisors → All (IsAccepted A) p.calls → IsEvaluable A AnyRead x
  of_parts x p e divisors calls = record {
    divisors = subst (λ (q : Parts). All (λ n. 1 ≤ n) q.divisors) (sym e) divisors;
    reads = λ k d h. tt;
    calls = subst (λ (q : Parts). All (IsAccepted A) q.calls) (sym e) calls;
  }

  -- what holds of two lists, holds of both
  divisors : (xs ys : List ℕ) → All (λ n. 1 ≤ n) xs → All (λ n. 1 ≤ n) ys → All (λ n. 1 ≤ n) (xs ++ ys)
  divisors xs ys h k = All-append (λ n. 1 ≤ n) xs ys h k

  calls_of : (xs ys : List CallOf) → All (IsAccepted A) xs → All (IsAccepted A) ys → All (IsAccepted A) (xs ++ ys)
  calls_of xs ys h k = All-append (IsAccepted A) xs ys h k

  pub num_built : (n : ℕ) → IsEvaluable A AnyRead (expr.Num n)
  num_built n = of_parts (expr.Num n) (record { divisors = []; numbers = n ∷ []; calls = [] }) (parts-Num n) (All-nil (λ n. 1 ≤ n)) (All-nil (IsAccepted A))

  pub i_built : IsEvaluable A AnyRead expr.I
  i_built = of_parts expr.I no_parts parts-I (All-nil (λ n. 1 ≤ n)) (All-nil (IsAccepted A))

  pub read_built : (f : ℕ) (di dk dj : ℤ) → IsEvaluable A AnyRead (expr.Read f di dk dj)
  read_built f di dk dj = of_parts (expr.Read f di dk dj) no_parts (parts-Read f di dk dj) (All-nil (λ n. 1 ≤ n)) (All-nil (IsAccepted A))

  pub neg_built : (a : Expr) → IsEvaluable A AnyRead a → IsEvaluable A AnyRead (expr.Neg a)
  neg_built a h = of_parts (expr.Neg a) (parts_of a) (parts-Neg a) h.divisors h.calls

  two_built : (x a b : Expr) → parts_of x ≡ parts_of_both (parts_of a) (parts_of b) → IsEvaluable A AnyRead a → IsEvaluable A AnyRead b → IsEvaluable A AnyRead x
  two_built x a b e h k = of_parts x (parts_of_both (parts_of a) (parts_of b)) e (divisors _ _ h.divisors k.divisors) (calls_of _ _ h.calls k.calls)

  pub add_built : (a b : Expr) → IsEvaluable A AnyRead a → IsEvaluable A AnyRead b → IsEvaluable A AnyRead (expr.Add a b)
  add_built a b = two_built (expr.Add a b) a b (parts-Add a b)

  pub mul_built : (a b : Expr) → IsEvaluable A AnyRead a → IsEvaluable A AnyRead b → IsEvaluable A AnyRead (expr.Mul a b)
  mul_built a b = two_built (expr.Mul a b) a b (parts-Mul a b)

  divided_built : (x a : Expr) (n : ℕ) → parts_of x ≡ divided (parts_of a) n → 1 ≤ n → IsEvaluable A AnyRead a → IsEvaluable A AnyRead x
  divided_built x a n e h k = of_parts x (divided (parts_of a) n) e (divisors _ _ k.divisors (All-cons (λ n. 1 ≤ n) n [] h (All-nil (λ n. 1 ≤ n)))) k.calls

  pub div_built : (a : Expr) (n : ℕ) → 1 ≤ n → IsEvaluable A AnyRead a → IsEvaluable A AnyRead (expr.Div a n)
  div_built a n = divided_built (expr.Div a n) a n (parts-Div a n)

  pub mod_built : (a : Expr) (n : ℕ) → 1 ≤ n → IsEvaluable A AnyRead a → IsEvaluable A AnyRead (expr.Mod a n)
  mod_built a n = divided_built (expr.Mod a n) a n (parts-Mod a n)

  pub if_built : (t : Test) (a b c o : Expr) → IsEvaluable A AnyRead a → IsEvaluable A AnyRead b → IsEvaluable A AnyRead c → IsEvaluable A AnyRead o → IsEvaluable A AnyRead (expr.If t a b c o)
  if_built t a b c o p q r s =
      of_parts (expr.If t a b c o) (parts_of_both (parts_of_both (parts_of a) (parts_of b)) (parts_of_both (parts_of c) (parts_of o))) (parts-If t a b c o)
      (divisors _ _ (divisors _ _ p.divisors q.divisors) (divisors _ _ r.divisors s.divisors))
      (calls_of _ _ (calls_of _ _ p.calls q.calls) (calls_of _ _ r.calls s.calls))

  -- ---- calls

  pub none_built : AreEvaluable A AnyRead args.End
  none_built = record {
    divisors = subst (λ (q : ArgumentParts). All (λ n. 1 ≤ n) q.parts.divisors) (sym parts-End) (All-nil (λ n. 1 ≤ n));
    reads = λ k d h. tt;
    calls = subst (λ (q : ArgumentParts). All (IsAccepted A) q.parts.calls) (sym parts-End) (All-nil (IsAccepted A));
  }

  pub more_built : (a : Expr) (rest : Args) → IsEvaluable A AnyRead a → AreEvaluable A AnyRead rest → AreEvaluable A AnyRead (args.More a rest)
  more_built a rest h k = record {
    divisors = subst (λ (q : ArgumentParts). All (λ n. 1 ≤ n) q.parts.divisors) (sym (parts-More a rest)) (divisors _ _ h.divisors k.divisors);
    reads = λ k d h. tt;
    calls = subst (λ (q : ArgumentParts). All (IsAccepted A) q.parts.calls) (sym (parts-More a rest)) (calls_of _ _ h.calls k.calls);
  }

  pub call_built : (id : ℕ) (list : Args) → IsAccepted A (record { id = id; arguments = count_in list }) → AreEvaluable A AnyRead list → IsEvaluable A AnyRead (expr.Call id list)
  call_built id list h k =
      of_parts (expr.Call id list) (call_parts id (parts_in list)) (parts-Call id list) k.divisors
      (calls_of (parts_in list).parts.calls (record { id = id; arguments = count_in list } ∷ []) k.calls (All-cons (IsAccepted A) _ [] h (All-nil (IsAccepted A))))
