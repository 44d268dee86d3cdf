-- Operators one after the other, as a loop reads them.
use Rattle.std.proofs.Common.{◌≡◌, ℕ, zero, suc, ◌<◌, ◌≤◌, Bool, true, false, length, Option, Some, None, Result, Ok, refl, sym, ap, ◌∙◌, arith, if◌then◌else◌}
use Rattle.std.specs.Option.{option_map}
use Rattle.std.specs.Str.{bytes_eq}
use Rattle.std.specs.Prelude.{codes}
use Rattle.wf_model.specs.declared.expr.Expr.{roll-Expr}
use Rattle.wf_model.specs.declared.expr.Args.TheOpen as e
use Rattle.wf_model.specs.declared.table.TableKind.{TableKind}
use Rattle.wf_model.specs.Reading.{◌>>=◌, Fails}
use Rattle.wf_model.specs.Tokens.{At, Reader, keyword}
use Rattle.wf_model.specs.ExprText.{Tree, operator, over, more, multiplied, divided, products, sums}
use Rattle.wf_model.proofs.ReadingLemmas.{chain_assoc, Fails-along, Fails-chain}
use Rattle.wf_table.specs.declared.tree.Binary.{Binary}
use Rattle.wf_table.specs.declared.tree.Binary.TheVariants as binary
use Rattle.wf_table.specs.declared.tree.Product.TheVariants as product
use Rattle.wf_table.specs.Expressions.{Turns, chain, go_on, made, product_by, product_turn, product_turns, sum_turn, sum_turns}

-- a tree and the place behind it, or why there is none
abbrev pub Found : Type 0
Found = Result (Tree × At) TableKind

-- ---- the operators of a term and of an expression are such chains

products_step : (right : Reader Tree) (room n : ℕ) (left : Tree) (at : At) → ((r : Tree × At) → products right room n r.0 r.1 ≡ chain (product_turns right room) n r.0 r.1) → (times div mod_ : Bool)
    → more (if times then Some (multiplied right) else (if div then Some (divided (λ a n. roll-Expr (e.Div a n))) else (if mod_ then Some (divided (λ a n. roll-Expr (e.Mod a n))) else None)))
    (λ op from. operator room left from >>= op left >>= λ r. products right room n r.0 r.1) left at
    ≡ go_on (option_map (λ op. product_turn right room op left at) (if times then Some product.Multiply else (if div then Some product.Divide else (if mod_ then Some product.Remainder else None))))
    (λ r. chain (product_turns right room) n r.0 r.1) left at
unfolding product_turn
products_step right room n left at same true d m = ap (λ (f : Tree × At → Found). operator room left at >>= product_by right product.Multiply left >>= f) (λ i r. same r i)
products_step right room n left at same false true m = ap (λ (f : Tree × At → Found). operator room left at >>= product_by right product.Divide left >>= f) (λ i r. same r i)
products_step right room n left at same false false true = ap (λ (f : Tree × At → Found). operator room left at >>= product_by right product.Remainder left >>= f) (λ i r. same r i)
products_step right room n left at same false false false = refl

pub products-chain : (right : Reader Tree) (room n : ℕ) (left : Tree) (at : At) → products right room n left at ≡ chain (product_turns right room) n left at
unfolding products chain
products-chain right room zero left at = refl
products-chain right room (suc n) left at =
    products_step right room n left at (λ r. products-chain right room n r.0 r.1) (bytes_eq (keyword at) (codes "*")) (bytes_eq (keyword at) (codes "div")) (bytes_eq (keyword at) (codes "mod"))

sum_step : (right : Reader Tree) (room n : ℕ) (left : Tree) (at : At) → ((r : Tree × At) → sums right room n r.0 r.1 ≡ chain (sum_turns right room) n r.0 r.1) → (op : Binary)
    → (operator room left at >>= right >>= λ r. sums right room n (over (made op) left r.0) r.1) ≡ (sum_turn right room op left at >>= λ r. chain (sum_turns right room) n r.0 r.1)
unfolding sum_turn
sum_step right room n left at same op =
    ap (λ (f : Tree × At → Found). operator room left at >>= right >>= f) (λ i r. same (over (made op) left r.0, r.1) i)
    ∙ sym (chain_assoc (operator room left at >>= right) (λ r. Ok (over (made op) left r.0, r.1)) (λ r. chain (sum_turns right room) n r.0 r.1))

sums_step : (right : Reader Tree) (room n : ℕ) (left : Tree) (at : At) → ((r : Tree × At) → sums right room n r.0 r.1 ≡ chain (sum_turns right room) n r.0 r.1) → (plus minus : Bool)
    → more (if plus then Some (λ a b. roll-Expr (e.Add a b)) else (if minus then Some (λ a b. roll-Expr (e.Sub a b)) else None))
    (λ op from. operator room left from >>= right >>= λ r. sums right room n (over op left r.0) r.1) left at
    ≡ go_on (option_map (λ op. sum_turn right room op left at) (if plus then Some binary.Add else (if minus then Some binary.Subtract else None)))
    (λ r. chain (sum_turns right room) n r.0 r.1) left at
sums_step right room n left at same true m = sum_step right room n left at same binary.Add
sums_step right room n left at same false true = sum_step right room n left at same binary.Subtract
sums_step right room n left at same false false = refl

pub sums-chain : (right : Reader Tree) (room n : ℕ) (left : Tree) (at : At) → sums right room n left at ≡ chain (sum_turns right room) n left at
unfolding sums chain
sums-chain right room zero left at = refl
sums-chain right room (suc n) left at =
    sums_step right room n left at (λ r. sums-chain right room n r.0 r.1) (bytes_eq (keyword at) (codes "+")) (bytes_eq (keyword at) (codes "-"))

-- ---- a loop over them

-- the chain from here on is the whole
pub record IsRest (turns : Turns) (left : Tree) (at : At) (total : Found) : Type 0 where
  pub count : ℕ
  pub room : length at.tokens ≤ count
  pub same : chain turns count left at ≡ total

module _ (turns : Turns) (left : Tree) (at : At) (total : Found) where
  -- the chain begins
  pub begins : (count : ℕ) → length at.tokens ≤ count → chain turns count left at ≡ total → IsRest turns left at total
  begins count room same = record { count = count; room = room; same = same }

  -- one turn more
  pub goes_on : (turn : Found) (tree : Tree) (next : At) → IsRest turns left at total → turns left at ≡ Some turn → turn ≡ Ok (tree, next)
      → length next.tokens < length at.tokens → IsRest turns tree next total
  unfolding chain
  goes_on turn tree next r is read less = go r.count r.room r.same
    where
      go : (n : ℕ) → length at.tokens ≤ n → chain turns n left at ≡ total → IsRest turns tree next total
      go zero room same = absurd (omega (arith, room, less))
      go (suc n) room same = record {
        count = n;
        room = omega (arith, room, less);
        same = sym (ap (λ (o : Option Found). go_on o (λ r. chain turns n r.0 r.1) left at) (is ∙ ap (λ (f : Found). Some f) read)) ∙ same;
      }

  -- no operator follows
  pub stops : IsRest turns left at total → turns left at ≡ None → total ≡ Ok (left, at)
  unfolding chain
  stops r is = go r.count r.same
    where
      go : (n : ℕ) → chain turns n left at ≡ total → total ≡ Ok (left, at)
      go zero same = sym same
      go (suc n) same = sym same ∙ ap (λ (o : Option Found). go_on o (λ r. chain turns n r.0 r.1) left at) is

  -- an operand is refused
  pub fails : (fault : Option TableKind) (turn : Found) → IsRest turns left at total → turns left at ≡ Some turn → 0 < length at.tokens
      → Fails fault turn → Fails fault total
  unfolding chain
  fails fault turn r is some bad = go r.count r.room r.same
    where
      go : (n : ℕ) → length at.tokens ≤ n → chain turns n left at ≡ total → Fails fault total
      go zero room same = absurd (omega (arith, room, some))
      go (suc n) room same =
          Fails-along fault (turn >>= λ r. chain turns n r.0 r.1) total
          (sym (ap (λ (o : Option Found). go_on o (λ r. chain turns n r.0 r.1) left at) is) ∙ same)
          (Fails-chain fault turn (λ r. chain turns n r.0 r.1) bad)
