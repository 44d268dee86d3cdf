-- The arguments of a call one after the other, as a loop reads them.
use Rattle.std.proofs.Common.{◌≡◌, ℕ, zero, suc, ◌<◌, ◌≤◌, Bool, true, false, List, [], ◌∷◌, ◌++◌, length, Option, Result, Ok, Err, refl, sym, ap, ◌∙◌, arith, if◌then◌else◌, append_assoc}
use Rattle.std.specs.Prelude.{codes}
use Rattle.wf_model.specs.declared.table.Token.{Token}
use Rattle.wf_model.specs.declared.table.TableKind.{TableKind}
use Rattle.wf_model.specs.Reading.{◌>>=◌, Fails}
use Rattle.wf_model.specs.Tokens.{At, Reader, is_next, past, other_tokens}
use Rattle.wf_model.specs.ExprText.{Tree, Arguments, arguments}
use Rattle.wf_model.proofs.ReadingLemmas.{Fails-along, Fails-chain}

-- a list of arguments and the place behind it, or why there is none
abbrev pub Found : Type 0
Found = Result Arguments TableKind

-- what was read before, and what is still read
abbrev pub behind : List Tree → Found → Found
behind front found = found >>= λ as_. Ok (front ++ as_.0, as_.1)

behind-nil : (found : Found) → behind [] found ≡ found
behind-nil (Ok as_) = refl
behind-nil (Err f) = refl

behind-cons : (front : List Tree) (a : Tree) (found : Found) → behind front (found >>= λ as_. Ok (a ∷ as_.0, as_.1)) ≡ behind (front ++ a ∷ []) found
behind-cons front a (Ok as_) = ap (λ (ts : List Tree). Ok (ts, as_.1)) (sym (append_assoc front (a ∷ []) as_.0))
behind-cons front a (Err f) = refl

-- the arguments from here on are the whole
pub record IsRest (inside : Reader Tree) (front : List Tree) (at : At) (total : Found) : Type 0 where
  pub count : ℕ
  pub room : length at.tokens ≤ count
  pub some : 0 < count
  pub same : behind front (arguments inside count at) ≡ total

-- no argument is read yet
pub begins : (inside : Reader Tree) (at : At) → 0 < length at.tokens → IsRest inside [] at (arguments inside (length at.tokens) at)
begins inside at some = record { count = length at.tokens; room = omega arith; some = some; same = behind-nil (arguments inside (length at.tokens) at) }

-- what follows an argument
after : Reader Tree → ℕ → Tree → At → Bool → Found
after inside n a next comma = if comma then (arguments inside n (past next) >>= λ as_. Ok (a ∷ as_.0, as_.1)) else Ok (a ∷ [], next)

one_more : (inside : Reader Tree) (n : ℕ) (at next : At) (a : Tree) (comma : Bool) → inside at ≡ Ok (a, next) → is_next (codes ",") next ≡ comma
    → arguments inside (suc n) at ≡ after inside n a next comma
unfolding arguments after
one_more inside n at next a comma read is =
    ap (λ (r : Result (Tree × At) TableKind). r >>= λ b. if is_next (codes ",") b.1 then (arguments inside n (past b.1) >>= λ as_. Ok (b.0 ∷ as_.0, as_.1)) else Ok (b.0 ∷ [], b.1)) read
    ∙ ap (λ b. if b then (arguments inside n (past next) >>= λ as_. Ok (a ∷ as_.0, as_.1)) else Ok (a ∷ [], next)) is

fewer : (ts : List Token) (n : ℕ) → length ts ≤ suc n → length (other_tokens ts) ≤ n
fewer [] n h = omega arith
fewer (t ∷ ts) n h = omega arith

module _ (inside : Reader Tree) (front : List Tree) (at : At) (total : Found) where
  -- an argument, and a comma behind it
  pub goes_on : (a : Tree) (next : At) → IsRest inside front at total → inside at ≡ Ok (a, next) → is_next (codes ",") next ≡ true
      → length next.tokens < length at.tokens → 0 < length next.tokens → IsRest inside (front ++ a ∷ []) (past next) total
  unfolding after
  goes_on a next r read comma less some = go r.count r.room r.same
    where
      go : (n : ℕ) → length at.tokens ≤ n → behind front (arguments inside n at) ≡ total → IsRest inside (front ++ a ∷ []) (past next) total
      go zero room same = absurd (omega (arith, room, less))
      go (suc n) room same = record {
        count = n;
        room = fewer next.tokens n (omega (arith, room, less));
        some = omega (arith, room, less, some);
        same = sym (behind-cons front a (arguments inside n (past next))) ∙ sym (ap (behind front) (one_more inside n at next a true read comma)) ∙ same;
      }

  -- the last argument
  pub stops : (a : Tree) (next : At) → IsRest inside front at total → inside at ≡ Ok (a, next) → is_next (codes ",") next ≡ false → total ≡ Ok (front ++ a ∷ [], next)
  unfolding after
  stops a next r read no_comma = go r.count r.some r.same
    where
      go : (n : ℕ) → 0 < n → behind front (arguments inside n at) ≡ total → total ≡ Ok (front ++ a ∷ [], next)
      go zero some same = absurd (omega (arith, some))
      go (suc n) some same = sym same ∙ ap (behind front) (one_more inside n at next a false read no_comma)

  -- an argument is refused
  pub fails : (fault : Option TableKind) → IsRest inside front at total → Fails fault (inside at) → Fails fault total
  unfolding arguments
  fails fault r bad = go r.count r.some r.same
    where
      go : (n : ℕ) → 0 < n → behind front (arguments inside n at) ≡ total → Fails fault total
      go zero some same = absurd (omega (arith, some))
      go (suc n) some same =
          Fails-along fault (behind front (arguments inside (suc n) at)) total same
          (Fails-chain fault (arguments inside (suc n) at) (λ as_. Ok (front ++ as_.0, as_.1)) (Fails-chain fault (inside at) _ bad))
