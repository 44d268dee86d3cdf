-- A call of a stored function: its arguments are evaluated in order, and it answers its meaning.
use Rattle.std.proofs.Common.{◌≡◌, ℕ, ◌+◌, ◌<◌, ◌≤◌, suc, List, [], ◌∷◌, ◌++◌, length, refl, sym, ap, subst, ◌∙◌, Option, Some, None, arith, append_assoc, length-append}
use Rattle.std.specs.Prelude.{ℤ, FitsSigned}
use Rattle.std.specs.Option.{OnSome, option_map}
use mir.Syntax.{w64}
use Rattle.wf_model.specs.declared.expr.Expr.{Expr}
use Rattle.wf_model.specs.declared.expr.Expr.TheVariants as expr
use Rattle.wf_model.specs.declared.expr.Args.{Args}
use Rattle.wf_model.specs.declared.expr.Args.TheVariants as args
use Rattle.wf_hooks.specs.Numbers.{AreI64}
use Rattle.wf_model.specs.Numbers.{in_i64, and_then, of_both}
use Rattle.wf_model.specs.Reads.{Read}
use Rattle.wf_model.specs.Value.{Sight, Answers, number_of}
use Rattle.wf_eval.specs.Arguments.{numbers_in, count_in}
use Rattle.wf_eval.specs.Evaluable.{IsEvaluable, AreEvaluable}
use Rattle.wf_eval.proofs.Fitting.{in_i64_fits}
use Rattle.wf_eval.proofs.Layers.{number-Call, numbers-End, numbers-More, parts-End}
use Rattle.wf_eval.proofs.Operands.{call_needs, more_needs, count-More}

-- nothing after a list
nothing_more : (xs : List ℤ) → xs ++ [] ≡ xs
nothing_more [] = refl
nothing_more (x ∷ xs) = ap (λ ys. x ∷ ys) (nothing_more xs)

-- the numbers that were gathered, if each argument has one
abbrev pub mapped : Option (Unit {0}) → List ℤ → Option (List ℤ)
mapped r a = option_map (λ _. a) r

-- ---- the call

-- without numbers there is no answer
none_of : (o : Option (List ℤ)) (b : List ℤ) (f : List ℤ → Option ℤ) → and_then o (λ zs. Some (b ++ zs)) ≡ None → and_then o f ≡ None
none_of None b f e = λ i. None
none_of (Some zs) b f e = cc

-- the numbers that were added to none
all_of : (o : Option (List ℤ)) (b a : List ℤ) → b ≡ [] → and_then o (λ zs. Some (b ++ zs)) ≡ Some a → o ≡ Some a
all_of None b a eb e = cc
all_of (Some zs) b a eb e = (λ i. Some (sym eb i ++ zs)) ∙ e

module _ (A : ℕ → List ℤ → Type 0) (C : Read → Type 0) (x : Expr) (id : ℕ) (list p : Args) (b : List ℤ)
    (is : x ≡ expr.Call id list) (ep : p ≡ list) (eb : b ≡ []) (h : IsEvaluable A C x) where
  needs : IsEvaluable A C (expr.Call id list)
  needs = subst (IsEvaluable A C) is h

  pub call_room : length b + count_in p ≤ 8
  call_room =
      let few : count_in list ≤ 8 = (call_needs A C id list needs).accepted.few in
      let same : count_in p ≡ count_in list = ap count_in ep in
      let none : length b ≡ 0 = ap (λ (l : List ℤ). length l) eb in
      omega (arith, few, same, none)

  pub call_each : AreEvaluable A C p
  call_each = subst (AreEvaluable A C) (sym ep) (call_needs A C id list needs).operands

  -- what was gathered is accepted
  pub call_accepted : (a zs : List ℤ) (r : Option (Unit {0})) → r ≡ Some tt → OnSome r (length a ≡ length b + count_in p) → zs ≡ a → AreI64 zs → A id zs
  call_accepted a zs r some count same fit =
      let own : length a ≡ length b + count_in p = subst (λ (q : Option (Unit {0})). OnSome q (length a ≡ length b + count_in p)) some count in
      let long : length zs ≡ count_in list = ap (λ (l : List ℤ). length l) same ∙ own ∙ (λ i. length (eb i) + count_in (ep i)) ∙ omega arith in
      (call_needs A C id list needs).accepted.each zs long fit

module _ (m : Answers) (s : Sight) (x : Expr) (id : ℕ) (list p : Args) (b : List ℤ) (o : Option (List ℤ))
    (is : x ≡ expr.Call id list) (ep : p ≡ list) (eo : o ≡ and_then (numbers_in m s p) (λ zs. Some (b ++ zs))) where
  -- the number, from the numbers of the arguments
  answered : number_of m s x ≡ and_then (numbers_in m s p) (λ zs. in_i64 (m id zs))
  answered = ap (number_of m s) is ∙ number-Call m s id list ∙ ap (λ q. and_then (numbers_in m s q) (λ zs. in_i64 (m id zs))) (sym ep)

  pub call_none : o ≡ None → None ≡ number_of m s x
  call_none none = sym (answered ∙ none_of (numbers_in m s p) b (λ zs. in_i64 (m id zs)) (sym eo ∙ none))

  pub call_some : (a zs : List ℤ) (v : ℤ) → b ≡ [] → o ≡ Some a → zs ≡ a → v ≡ m id zs → FitsSigned w64 v → Some v ≡ number_of m s x
  call_some a zs v eb some same ev fits =
      sym (answered ∙ ap (λ q. and_then q (λ zs. in_i64 (m id zs))) (all_of (numbers_in m s p) b a eb (sym eo ∙ some))
      ∙ (λ i. in_i64 (m id (sym same i))) ∙ ap in_i64 (sym ev) ∙ in_i64_fits v fits)

-- ---- its arguments

module _ (m : Answers) (s : Sight) (x : Args) (b : List ℤ) where
  pub end_numbers : x ≡ args.End → Some b ≡ and_then (numbers_in m s x) (λ zs. Some (b ++ zs))
  end_numbers is = sym (ap (λ q. and_then q (λ zs. Some (b ++ zs))) (ap (numbers_in m s) is ∙ numbers-End m s) ∙ ap Some (nothing_more b))

  pub end_count : x ≡ args.End → length b ≡ length b + count_in x
  end_count is =
      let none : count_in x ≡ 0 = ap count_in is ∙ (λ i. (parts-End i).count) in
      omega (arith, none)

  -- the numbers of one more
  added : (v : ℤ) (o : Option (List ℤ)) → and_then o (λ zs. Some ((b ++ v ∷ []) ++ zs)) ≡ and_then (of_both (λ y ys. Some (y ∷ ys)) (Some v) o) (λ zs. Some (b ++ zs))
  added v None = λ i. None
  added v (Some zs) = ap Some (append_assoc b (v ∷ []) zs)

  module _ (a : Expr) (rest : Args) (is : x ≡ args.More a rest) (p : Expr) (ep : p ≡ a) (n : Option ℤ) (en : n ≡ number_of m s p) where
    first_is : number_of m s a ≡ n
    first_is = sym (en ∙ ap (number_of m s) ep)

    numbers_are : numbers_in m s x ≡ of_both (λ y ys. Some (y ∷ ys)) n (numbers_in m s rest)
    numbers_are = ap (numbers_in m s) is ∙ numbers-More m s a rest ∙ ap (λ q. of_both (λ y ys. Some (y ∷ ys)) q (numbers_in m s rest)) first_is

    pub more_none : n ≡ None → None ≡ and_then (numbers_in m s x) (λ zs. Some (b ++ zs))
    more_none none = sym (ap (λ q. and_then q (λ zs. Some (b ++ zs))) (numbers_are ∙ ap (λ q. of_both (λ y ys. Some (y ∷ ys)) q (numbers_in m s rest)) none))

    pub more_numbers : (v : ℤ) (w : List ℤ) (q : Args) (r : Option (List ℤ)) → n ≡ Some v → w ≡ b ++ v ∷ [] → q ≡ rest → r ≡ and_then (numbers_in m s q) (λ zs. Some (w ++ zs)) →
        r ≡ and_then (numbers_in m s x) (λ zs. Some (b ++ zs))
    more_numbers v w q r some ew eq er =
        er ∙ (λ i. and_then (numbers_in m s (eq i)) (λ zs. Some (ew i ++ zs))) ∙ added v (numbers_in m s rest)
        ∙ ap (λ o. and_then (of_both (λ y ys. Some (y ∷ ys)) o (numbers_in m s rest)) (λ zs. Some (b ++ zs))) (sym some)
        ∙ ap (λ o. and_then o (λ zs. Some (b ++ zs))) (sym numbers_are)

module _ (x : Args) (a : Expr) (rest : Args) (b : List ℤ) (is : x ≡ args.More a rest) where
  counted : count_in x ≡ suc (count_in rest)
  counted = ap count_in is ∙ count-More a rest

  pub more_room : length b + count_in x ≤ 8 → length b < 8
  more_room room = omega (arith, room, counted)

  longer : (v : ℤ) (w : List ℤ) → w ≡ b ++ v ∷ [] → length w ≡ length b + 1
  longer v w ew = ap (λ (l : List ℤ). length l) ew ∙ length-append b (v ∷ [])

  pub next_room : (v : ℤ) (w : List ℤ) (q : Args) → w ≡ b ++ v ∷ [] → q ≡ rest → length b + count_in x ≤ 8 → length w + count_in q ≤ 8
  next_room v w q ew eq room =
      let same : count_in q ≡ count_in rest = ap count_in eq in
      omega (arith, room, counted, longer v w ew, same)

  pub next_count : (v : ℤ) (w : List ℤ) (q : Args) (r : Option (Unit {0})) (l : List ℤ) → w ≡ b ++ v ∷ [] → q ≡ rest → OnSome r (length l ≡ length w + count_in q) → OnSome r (length l ≡ length b + count_in x)
  next_count v w q None l ew eq h = h
  next_count v w q (Some u) l ew eq h =
      let same : count_in q ≡ count_in rest = ap count_in eq in
      let own : length l ≡ length w + count_in q = h in
      omega (arith, own, counted, longer v w ew, same)

module _ (A : ℕ → List ℤ → Type 0) (C : Read → Type 0) (x : Args) (a : Expr) (rest : Args) (is : x ≡ args.More a rest) (h : AreEvaluable A C x) where
  pub first_needs : (p : Expr) → p ≡ a → IsEvaluable A C p
  first_needs p ep = subst (IsEvaluable A C) (sym ep) (more_needs A C a rest (subst (AreEvaluable A C) is h)).first

  pub others_need : (q : Args) → q ≡ rest → AreEvaluable A C q
  others_need q eq = subst (AreEvaluable A C) (sym eq) (more_needs A C a rest (subst (AreEvaluable A C) is h)).others
