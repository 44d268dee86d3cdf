-- What an expression needs, its operands have.
use Rattle.std.proofs.Common.{◌≡◌, ℕ, ◌≤◌, List, [], ◌∷◌, ◌++◌, subst, ◌∙◌, append_assoc, suc, arith}
use Rattle.std.proofs.lemmas.List.Elements.{All-nil, All-cons, All-head, All-tail}
use Rattle.std.specs.List.{All}
use Rattle.std.specs.Prelude.{ℤ}
use Rattle.wf_model.specs.declared.expr.Expr.{Expr}
use Rattle.wf_model.specs.declared.expr.Expr.TheVariants as expr
use Rattle.wf_model.specs.declared.expr.Args.{Args}
use Rattle.wf_model.specs.declared.expr.Args.TheVariants as args
use Rattle.wf_model.specs.declared.expr.Test.{Test}
use Rattle.wf_model.specs.Reads.{Read, reads_of}
use Rattle.wf_model.specs.ExprFacts.{Parts, CallOf, parts_of, parts_of_both, divided}
use Rattle.wf_eval.specs.Arguments.{parts_in, reads_in, count_in}
use Rattle.wf_eval.specs.Evaluable.{IsAccepted, IsEvaluable, AreEvaluable}
use Rattle.wf_eval.proofs.Layers.{reads-Call, reads-More, parts-Call, parts-More, reads-Read, reads-Neg, reads-Add, reads-Sub, reads-Mul, reads-Div, reads-Mod, reads-Min, reads-Max, reads-If, parts-Neg, parts-Add, parts-Sub, parts-Mul, parts-Div, parts-Mod, parts-Min, parts-Max, parts-If}

-- what holds of two lists, holds of the first
All-left : {X : Type 0} (P : X → Type 0) (xs ys : List X) → All P (xs ++ ys) → All P xs
All-left P [] ys h = All-nil P
All-left P (x ∷ xs) ys h = All-cons P x xs (All-head P x (xs ++ ys) h) (All-left P xs ys (All-tail P x (xs ++ ys) h))

-- and of the second
All-right : {X : Type 0} (P : X → Type 0) (xs ys : List X) → All P (xs ++ ys) → All P ys
All-right P [] ys h = h
All-right P (x ∷ xs) ys h = All-right P xs ys (All-tail P x (xs ++ ys) h)

-- what parts and reads need
pub record Needs (A : ℕ → List ℤ → Type 0) (C : Read → Type 0) (p : Parts) (rs : List Read) : Type 0 where
  pub divisors : All (λ n. 1 ≤ n) p.divisors
  pub reads : All C rs
  pub calls : All (IsAccepted A) p.calls

module _ (A : ℕ → List ℤ → Type 0) (C : Read → Type 0) where
  -- an expression's need is that of its parts and reads
  pub needs_of : (x : Expr) (p : Parts) (rs : List Read) → parts_of x ≡ p → reads_of x ≡ rs → IsEvaluable A C x → Needs A C p rs
  needs_of x p rs ep er h = record {
    divisors = subst (λ (q : Parts). All (λ n. 1 ≤ n) q.divisors) ep h.divisors;
    reads = subst (λ (l : List Read). All C l) er h.reads;
    calls = subst (λ (q : Parts). All (IsAccepted A) q.calls) ep h.calls;
  }

  back : (x : Expr) → Needs A C (parts_of x) (reads_of x) → IsEvaluable A C x
  back x h = record { divisors = h.divisors; reads = h.reads; calls = h.calls }

  left_needs : (p q : Parts) (rs ss : List Read) → Needs A C (parts_of_both p q) (rs ++ ss) → Needs A C p rs
  left_needs p q rs ss h = record {
    divisors = All-left (λ n. 1 ≤ n) p.divisors q.divisors h.divisors;
    reads = All-left C rs ss h.reads;
    calls = All-left (IsAccepted A) p.calls q.calls h.calls;
  }

  right_needs : (p q : Parts) (rs ss : List Read) → Needs A C (parts_of_both p q) (rs ++ ss) → Needs A C q ss
  right_needs p q rs ss h = record {
    divisors = All-right (λ n. 1 ≤ n) p.divisors q.divisors h.divisors;
    reads = All-right C rs ss h.reads;
    calls = All-right (IsAccepted A) p.calls q.calls h.calls;
  }

  divided_needs : (p : Parts) (n : ℕ) (rs : List Read) → Needs A C (divided p n) rs → Needs A C p rs
  divided_needs p n rs h = record { divisors = All-left (λ n. 1 ≤ n) p.divisors (n ∷ []) h.divisors; reads = h.reads; calls = h.calls }

  -- a divisor is not 0
  divisor_needs : (p : Parts) (n : ℕ) (rs : List Read) → Needs A C (divided p n) rs → 1 ≤ n
  divisor_needs p n rs h = All-head (λ n. 1 ≤ n) n [] (All-right (λ n. 1 ≤ n) p.divisors (n ∷ []) h.divisors)

  -- the operands of an expression with two
  pub record BothNeed (a b : Expr) : Type 0 where
    pub left : IsEvaluable A C a
    pub right : IsEvaluable A C b

  of_two : (x a b : Expr) → parts_of x ≡ parts_of_both (parts_of a) (parts_of b) → reads_of x ≡ reads_of a ++ reads_of b → IsEvaluable A C x → BothNeed a b
  of_two x a b ep er h =
      let n = needs_of x (parts_of_both (parts_of a) (parts_of b)) (reads_of a ++ reads_of b) ep er h in
      record {
        left = back a (left_needs (parts_of a) (parts_of b) (reads_of a) (reads_of b) n);
        right = back b (right_needs (parts_of a) (parts_of b) (reads_of a) (reads_of b) n);
      }

  pub read_has : (f : ℕ) (di dk dj : ℤ) → IsEvaluable A C (expr.Read f di dk dj) → C (record { field = f; di = di; dk = dk; dj = dj })
  read_has f di dk dj h = All-head C (record { field = f; di = di; dk = dk; dj = dj }) [] (subst (λ (l : List Read). All C l) (reads-Read f di dk dj) h.reads)

  pub neg_needs : (a : Expr) → IsEvaluable A C (expr.Neg a) → IsEvaluable A C a
  neg_needs a h = back a (needs_of (expr.Neg a) (parts_of a) (reads_of a) (parts-Neg a) (reads-Neg a) h)

  pub add_needs : (a b : Expr) → IsEvaluable A C (expr.Add a b) → BothNeed a b
  add_needs a b = of_two (expr.Add a b) a b (parts-Add a b) (reads-Add a b)

  pub sub_needs : (a b : Expr) → IsEvaluable A C (expr.Sub a b) → BothNeed a b
  sub_needs a b = of_two (expr.Sub a b) a b (parts-Sub a b) (reads-Sub a b)

  pub mul_needs : (a b : Expr) → IsEvaluable A C (expr.Mul a b) → BothNeed a b
  mul_needs a b = of_two (expr.Mul a b) a b (parts-Mul a b) (reads-Mul a b)

  pub min_needs : (a b : Expr) → IsEvaluable A C (expr.Min a b) → BothNeed a b
  min_needs a b = of_two (expr.Min a b) a b (parts-Min a b) (reads-Min a b)

  pub max_needs : (a b : Expr) → IsEvaluable A C (expr.Max a b) → BothNeed a b
  max_needs a b = of_two (expr.Max a b) a b (parts-Max a b) (reads-Max a b)

  -- the operand of a quotient or a remainder, and its divisor
  pub record DividedNeeds (a : Expr) (n : ℕ) : Type 0 where
    pub operand : IsEvaluable A C a
    pub divisor : 1 ≤ n

  of_divided : (x a : Expr) (n : ℕ) → parts_of x ≡ divided (parts_of a) n → reads_of x ≡ reads_of a → IsEvaluable A C x → DividedNeeds a n
  of_divided x a n ep er h =
      let all = needs_of x (divided (parts_of a) n) (reads_of a) ep er h in
      record { operand = back a (divided_needs (parts_of a) n (reads_of a) all); divisor = divisor_needs (parts_of a) n (reads_of a) all }

  pub div_needs : (a : Expr) (n : ℕ) → IsEvaluable A C (expr.Div a n) → DividedNeeds a n
  div_needs a n = of_divided (expr.Div a n) a n (parts-Div a n) (reads-Div a n)

  pub mod_needs : (a : Expr) (n : ℕ) → IsEvaluable A C (expr.Mod a n) → DividedNeeds a n
  mod_needs a n = of_divided (expr.Mod a n) a n (parts-Mod a n) (reads-Mod a n)

  -- the four of a choice
  pub record ChoiceNeeds (a b c o : Expr) : Type 0 where
    pub left : IsEvaluable A C a
    pub right : IsEvaluable A C b
    pub chosen : IsEvaluable A C c
    pub other : IsEvaluable A C o

  pub if_needs : (t : Test) (a b c o : Expr) → IsEvaluable A C (expr.If t a b c o) → ChoiceNeeds a b c o
  if_needs t a b c o h =
      let test = parts_of_both (parts_of a) (parts_of b) in
      let branches = parts_of_both (parts_of c) (parts_of o) in
      let all = needs_of (expr.If t a b c o) (parts_of_both test branches) ((reads_of a ++ reads_of b) ++ (reads_of c ++ reads_of o)) (parts-If t a b c o)
      (reads-If t a b c o ∙ append_assoc (reads_of a ++ reads_of b) (reads_of c) (reads_of o)) h in
      let first = left_needs test branches (reads_of a ++ reads_of b) (reads_of c ++ reads_of o) all in
      let second = right_needs test branches (reads_of a ++ reads_of b) (reads_of c ++ reads_of o) all in
      record {
        left = back a (left_needs (parts_of a) (parts_of b) (reads_of a) (reads_of b) first);
        right = back b (right_needs (parts_of a) (parts_of b) (reads_of a) (reads_of b) first);
        chosen = back c (left_needs (parts_of c) (parts_of o) (reads_of c) (reads_of o) second);
        other = back o (right_needs (parts_of c) (parts_of o) (reads_of c) (reads_of o) second);
      }

  -- arguments' need is that of their parts and reads
  pub list_needs_of : (xs : Args) (p : Parts) (rs : List Read) → (parts_in xs).parts ≡ p → reads_in xs ≡ rs → AreEvaluable A C xs → Needs A C p rs
  list_needs_of xs p rs ep er h = record {
    divisors = subst (λ (q : Parts). All (λ n. 1 ≤ n) q.divisors) ep h.divisors;
    reads = subst (λ (l : List Read). All C l) er h.reads;
    calls = subst (λ (q : Parts). All (IsAccepted A) q.calls) ep h.calls;
  }

  -- a call: its arguments, and the lists that it may be called on
  pub record CallNeeds (id : ℕ) (list : Args) : Type 0 where
    pub operands : AreEvaluable A C list
    pub accepted : IsAccepted A (record { id = id; arguments = count_in list })

  pub call_needs : (id : ℕ) (list : Args) → IsEvaluable A C (expr.Call id list) → CallNeeds id list
  call_needs id list h =
      let own : List CallOf = record { id = id; arguments = count_in list } ∷ [] in
      let all : Needs A C (record { divisors = (parts_in list).parts.divisors; numbers = (parts_in list).parts.numbers; calls = (parts_in list).parts.calls ++ own }) (reads_in list) =
      needs_of (expr.Call id list) _ (reads_in list) (parts-Call id list) (reads-Call id list) h in
      record {
        operands = record { divisors = all.divisors; reads = all.reads; calls = All-left (IsAccepted A) (parts_in list).parts.calls own all.calls };
        accepted = All-head (IsAccepted A) (record { id = id; arguments = count_in list }) [] (All-right (IsAccepted A) (parts_in list).parts.calls own all.calls);
      }

  -- the first argument, and the others
  pub record ArgumentsNeed (a : Expr) (rest : Args) : Type 0 where
    pub first : IsEvaluable A C a
    pub others : AreEvaluable A C rest

  pub more_needs : (a : Expr) (rest : Args) → AreEvaluable A C (args.More a rest) → ArgumentsNeed a rest
  more_needs a rest h =
      let all = list_needs_of (args.More a rest) (parts_of_both (parts_of a) (parts_in rest).parts) (reads_of a ++ reads_in rest) (λ i. (parts-More a rest i).parts) (reads-More a rest) h in
      let mine = left_needs (parts_of a) (parts_in rest).parts (reads_of a) (reads_in rest) all in
      let theirs = right_needs (parts_of a) (parts_in rest).parts (reads_of a) (reads_in rest) all in
      record { first = back a mine; others = record { divisors = theirs.divisors; reads = theirs.reads; calls = theirs.calls } }

-- one argument more
pub count-More : (a : Expr) (rest : Args) → count_in (args.More a rest) ≡ suc (count_in rest)
count-More a rest = (λ i. (parts-More a rest i).count) ∙ omega arith
