-- Factors, terms and expressions by their room, and the parts that they are read in.
use Rattle.std.proofs.Common.{◌≡◌, ℕ, zero, suc, ◌-◌, ◌<◌, Bool, true, false, length, Result, Err, refl, sym, ap, ◌∙◌, arith, if◌then◌else◌, lit<, sub-one}
use Rattle.std.specs.Prelude.{codes}
use Rattle.std.specs.Str.{bytes_eq}
use Rattle.wf_model.specs.declared.expr.Expr.{Expr, roll-Expr}
use Rattle.wf_model.specs.declared.expr.Args.TheOpen as e
use Rattle.wf_model.specs.declared.table.Names.{Names}
use Rattle.wf_model.specs.declared.table.TableKind.TheVariants.{TooDeep}
use Rattle.wf_model.specs.Reading.{◌>>=◌, Gives}
use Rattle.wf_model.specs.Letters.{is_digits}
use Rattle.wf_model.specs.Tokens.{At, Reader, keyword}
use Rattle.wf_model.specs.ExprText.{Tree, call, choice, expr, factor_of, factors_below, leaf, negation, numeral, pair, parenthesis, products, read, sums, term, whole_expr}
use Rattle.wf_model.proofs.FactorRoom.{below-room}
use Rattle.wf_model.proofs.ReadingLemmas.{chain_assoc, Gives-along}
use Rattle.wf_table.specs.declared.start.Start.{Start}
use Rattle.wf_table.specs.declared.start.Start.TheVariants as start
use Rattle.wf_table.specs.declared.tree.Binary.{Binary}
use Rattle.wf_table.specs.declared.tree.Binary.TheVariants as binary
use Rattle.wf_table.specs.Start.{start_of, word_start}
use Rattle.wf_table.specs.Expressions.{branches_of, call_at, call_of, called_at, chain, choice_of, condition_of, expr_at, factor_at, inside_and, made, negation_of, offsets, pair_of, parenthesis_of, product_turns, read_of, seen, term_at}
use Rattle.wf_table.specs.Faults.{kind_of}
use Rattle.wf_table.specs.declared.error.LineError.{LineError}
use Rattle.wf_table.specs.declared.place.Place.{Place}
use Rattle.wf_table.specs.declared.tree.Tree.{Tree as Read}
use Rattle.wf_table.proofs.Chains.{Found, products-chain, sums-chain}

-- ---- parts

-- a read
read_is : (names : Names) (at : At) → read names at ≡ read_of names at
unfolding read_of offsets
read_is names at = simp chain_assoc

-- `min` and `max`
pair_is : (op : Binary) (inside : Reader Tree) (at : At) → pair (made op) inside at ≡ pair_of op inside at
unfolding pair_of inside_and
pair_is op inside at = simp chain_assoc

-- `if`
choice_is : (inside : Reader Tree) (at : At) → choice inside at ≡ choice_of inside at
unfolding choice_of condition_of branches_of inside_and
choice_is inside at = simp chain_assoc

-- `call`
call_is : (names : Names) (inside : Reader Tree) (at : At) → call names inside at ≡ call_at names inside at
unfolding call_at called_at call_of
call_is names inside at = simp chain_assoc

-- parentheses
parenthesis_is : (inside : Reader Tree) (at : At) → parenthesis inside at ≡ parenthesis_of inside at
unfolding parenthesis_of inside_and
parenthesis_is inside at = simp chain_assoc

-- `-`
negation_is : (factor : Reader Tree) (at : At) → negation factor at ≡ negation_of factor at
unfolding negation_of
negation_is factor at = refl

-- ---- a factor by its first token

abbrev pub started : Names → Reader Tree → Reader Tree → Start → Reader Tree
started names inside factor start.Parenthesis at = parenthesis_of inside at
started names inside factor start.Minus at = negation_of factor at
started names inside factor start.Digits at = numeral at
started names inside factor start.I at = leaf (roll-Expr e.I) at
started names inside factor start.J at = leaf (roll-Expr e.J) at
started names inside factor start.K at = leaf (roll-Expr e.K) at
started names inside factor start.Step at = leaf (roll-Expr e.Step) at
started names inside factor start.Min at = pair_of binary.Least inside at
started names inside factor start.Max at = pair_of binary.Greatest inside at
started names inside factor start.If at = choice_of inside at
started names inside factor start.Call at = call_at names inside at
started names inside factor start.Field at = read_of names at

by_test : (f : Start → Found) (test : Bool) (x y : Start) (one other : Found) → one ≡ f x → other ≡ f y → (if test then one else other) ≡ f (if test then x else y)
by_test f true x y one other here there = here
by_test f false x y one other here there = there

factor_of-started : (names : Names) (inside factor : Reader Tree) (at : At) → factor_of names inside factor at ≡ started names inside factor (start_of (keyword at)) at
unfolding start_of word_start
factor_of-started names inside factor at =
    let f : Start → Found = λ s. started names inside factor s at in
    let word = keyword at in
    by_test f (bytes_eq word (codes "(")) start.Parenthesis _ _ _ (parenthesis_is inside at)
    (by_test f (bytes_eq word (codes "-")) start.Minus _ _ _ (negation_is factor at)
    (by_test f (is_digits word) start.Digits _ _ _ refl
    (by_test f (bytes_eq word (codes "i")) start.I _ _ _ refl
    (by_test f (bytes_eq word (codes "j")) start.J _ _ _ refl
    (by_test f (bytes_eq word (codes "k")) start.K _ _ _ refl
    (by_test f (bytes_eq word (codes "step")) start.Step _ _ _ refl
    (by_test f (bytes_eq word (codes "min")) start.Min _ _ _ (pair_is binary.Least inside at)
    (by_test f (bytes_eq word (codes "max")) start.Max _ _ _ (pair_is binary.Greatest inside at)
    (by_test f (bytes_eq word (codes "if")) start.If _ _ _ (choice_is inside at)
    (by_test f (bytes_eq word (codes "call")) start.Call start.Field _ _ (call_is names inside at) (read_is names at)))))))))))

-- ---- terms and expressions by their room

term_is : (factors : ℕ → Reader Tree) (names : Names) (room : ℕ) → factors room ≡ factor_at names room → factors (room - 1) ≡ factor_at names (room - 1) → term factors room ≡ term_at names room
unfolding term_at
term_is factors names room here less = λ i at. step at i
  where
    step : (at : At) → term factors room at ≡ (factor_at names room at >>= λ first. chain (product_turns (factor_at names (room - 1)) room) (length at.tokens) first.0 first.1)
    step at =
        ap (λ (f : Reader Tree). f at >>= λ first. products (factors (room - 1)) room (length at.tokens) first.0 first.1) here
        ∙ ap (λ (f : Reader Tree). factor_at names room at >>= λ first. products f room (length at.tokens) first.0 first.1) less
        ∙ ap (λ (g : Tree × At → Found). factor_at names room at >>= g) (λ i first. products-chain (factor_at names (room - 1)) room (length at.tokens) first.0 first.1 i)

expr_is : (factors : ℕ → Reader Tree) (names : Names) (room : ℕ) → factors room ≡ factor_at names room → factors (room - 1) ≡ factor_at names (room - 1)
    → factors (room - 1 - 1) ≡ factor_at names (room - 1 - 1) → (at : At) → expr factors room at ≡ expr_at names room at
unfolding expr_at
expr_is factors names room here less least at =
    ap (λ (f : Reader Tree). f at >>= λ first. sums (term factors (room - 1)) room (length at.tokens) first.0 first.1) (term_is factors names room here less)
    ∙ ap (λ (f : Reader Tree). term_at names room at >>= λ first. sums f room (length at.tokens) first.0 first.1) (term_is factors names (room - 1) less least)
    ∙ ap (λ (g : Tree × At → Found). term_at names room at >>= g) (λ i first. sums-chain (term_at names (room - 1)) room (length at.tokens) first.0 first.1 i)

-- the factors below a room are those of their room
below_is : (names : Names) (n room : ℕ) → room < n → factors_below names n room ≡ factor_at names room
unfolding factor_at
below_is names n room small = below-room names n room small

-- an expression of the factors below a greater room
below_expr : (names : Names) (n room : ℕ) → room < n → (at : At) → expr (factors_below names n) room at ≡ expr_at names room at
below_expr names n room small at =
    expr_is (factors_below names n) names room (below_is names n room small) (below_is names n (room - 1) (omega arith)) (below_is names n (room - 1 - 1) (omega arith)) at

first_of : (names : Names) (less : ℕ) (at : At) → factor_at names (suc less) at ≡ factor_of names (expr (factors_below names (suc less)) less) (factors_below names (suc less) less) at
unfolding factor_at
first_of names less at = refl

-- a factor with room, by its first token
factor_is : (names : Names) (less : ℕ) (at : At) → factor_at names (suc less) at ≡ started names (expr_at names less) (factor_at names less) (start_of (keyword at)) at
factor_is names less at =
    let small : less < suc less = omega arith in
    first_of names less at
    ∙ ap (λ (inside : Reader Tree). factor_of names inside (factors_below names (suc less) less) at) (λ i a. below_expr names (suc less) less small a i)
    ∙ ap (λ (factor : Reader Tree). factor_of names (expr_at names less) factor at) (below_is names (suc less) less small)
    ∙ factor_of-started names (expr_at names less) (factor_at names less) at

-- the same, as a reader counts its room
pub factor_less : (names : Names) (room : ℕ) (at : At) → 0 < room → factor_at names room at ≡ started names (expr_at names (room - 1)) (factor_at names (room - 1)) (start_of (keyword at)) at
factor_less names zero at some = absurd (omega (arith, some))
factor_less names (suc less) at some = rw (sub-one) (factor_is names less at)

-- a factor of one token
pub leaf_factor : (names : Names) (room : ℕ) (at : At) (s : Start) (x y : Expr) (result : Result (Read × Place) LineError) → 0 < room → s ≡ start_of (keyword at)
    → started names (expr_at names (room - 1)) (factor_at names (room - 1)) s at ≡ leaf x at → x ≡ y
    → Gives seen kind_of result (leaf y at) → Gives seen kind_of result (factor_at names room at)
leaf_factor names room at s x y result some is same rolled gives =
    Gives-along seen kind_of result (leaf y at) (factor_at names room at)
    (ap (λ z. leaf z at) (sym rolled) ∙ sym same ∙ ap (λ (t : Start). started names (expr_at names (room - 1)) (factor_at names (room - 1)) t at) is ∙ sym (factor_less names room at some)) gives

-- without room
pub factor_none : (names : Names) (at : At) → factor_at names 0 at ≡ Err TooDeep
unfolding factor_at
factor_none names at = refl

-- an expression of the table
pub whole_is : (names : Names) (at : At) → whole_expr names at ≡ expr_at names 64 at
unfolding whole_expr
whole_is names at = below_expr names 65 64 (lit< tt) at
