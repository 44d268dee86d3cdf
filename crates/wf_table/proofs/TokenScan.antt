-- The tokens of a text, one after the other, as a loop reads them.
use Rattle.std.proofs.Common.{◌≡◌, ℕ, zero, suc, ◌+◌, ◌<◌, ◌≤◌, List, [], ◌∷◌, ◌++◌, length, get_or, take, drop, refl, sym, ap, ap₂, ◌∙◌, add-one, add-zero, drop-cons, drop-drop, length-drop, append_assoc, arith}
use Rattle.std.proofs.lemmas.Bool.{ne_eqb}
use Rattle.std.proofs.Math.ListN.{drop_of_length-le}
use Rattle.wf_model.specs.declared.table.Token.{Token}
use Rattle.wf_model.specs.Tokens.{token, token_rest, tokens_from}

-- passing over the bytes of a token
passed : (column k : ℕ) (bs : List ℕ) → k ≤ length bs → tokens_from column k bs ≡ tokens_from (column + k) 0 (drop k bs)
unfolding tokens_from
passed column zero bs h = ap (λ c. tokens_from c 0 bs) (sym (add-zero column))
passed column (suc k) [] h = absurd (omega (arith, h))
passed column (suc k) (b ∷ bs) h =
    let e : column + 1 + k ≡ column + suc k = omega arith in
    passed (column + 1) k bs (omega (arith, h)) ∙ ap (λ c. tokens_from c 0 (drop k bs)) e

-- the byte at a place, and those after it
here : (at : ℕ) (l : List ℕ) → at < length l → drop at l ≡ get_or l at 0 ∷ drop (at + 1) l
here at l h = rw (add-one, drop-cons l at 0) refl

-- a blank is passed over
pub blank : (front total : List Token) (at : ℕ) (l : List ℕ) → at < length l → get_or l at 0 ≡ 32
    → front ++ tokens_from (at + 1) 0 (drop at l) ≡ total → front ++ tokens_from (at + 1 + 1) 0 (drop (at + 1) l) ≡ total
unfolding tokens_from
blank front total at l lt is so_far =
    let one : tokens_from (at + 1) 0 (drop at l) ≡ tokens_from (at + 1 + 1) 0 (drop (at + 1) l) = rw (here at l lt, is) refl in
    sym (ap (λ ts. front ++ ts) one) ∙ so_far

-- a token is read
pub token_read : (front total : List Token) (at n : ℕ) (l : List ℕ) (t : Token) → at < length l → (get_or l at 0 ≡ 32 → ⊥)
    → n ≡ token_rest (get_or l at 0) (drop (at + 1) l) → at + 1 + n ≤ length l → t ≡ token (take (n + 1) (drop at l)) (at + 1)
    → front ++ tokens_from (at + 1) 0 (drop at l) ≡ total → (front ++ t ∷ []) ++ tokens_from (at + (n + 1) + 1) 0 (drop (at + (n + 1)) l) ≡ total
unfolding tokens_from
token_read front total at n l t lt no_blank rest bound is so_far =
    let b = get_or l at 0 in
    let bs = drop (at + 1) l in
    let one : tokens_from (at + 1) 0 (drop at l) ≡ token (b ∷ take n bs) (at + 1) ∷ tokens_from (at + 1 + 1) n bs = rw (here at l lt, ne_eqb _ _ no_blank, rest) refl in
    let text : take (n + 1) (drop at l) ≡ b ∷ take n bs = rw (here at l lt, add-one) refl in
    let place : at + 1 + 1 + n ≡ at + (n + 1) + 1 = omega arith in
    let gone : at + 1 + n ≡ at + (n + 1) = omega arith in
    let room : n ≤ length bs = omega (arith, length-drop (at + 1) l) in
    let two : tokens_from (at + 1 + 1) n bs ≡ tokens_from (at + (n + 1) + 1) 0 (drop (at + (n + 1)) l) =
    passed (at + 1 + 1) n bs room ∙ ap₂ (λ c ds. tokens_from c 0 ds) place (drop-drop n (at + 1) l ∙ ap (λ k. drop k l) gone) in
    append_assoc front (t ∷ []) _ ∙ ap (λ ts. front ++ ts) (ap₂ ◌∷◌ (is ∙ ap (λ x. token x (at + 1)) text) (sym two) ∙ sym one) ∙ so_far

-- the text is at its end
pub ended : (front total : List Token) (at : ℕ) (l : List ℕ) (t : Token) → length l ≤ at → t ≡ token [] (at + 1)
    → front ++ tokens_from (at + 1) 0 (drop at l) ≡ total → front ++ t ∷ [] ≡ total
unfolding tokens_from
ended front total at l t le is so_far =
    ap (λ x. front ++ x ∷ []) is ∙ sym (ap (λ bs. front ++ tokens_from (at + 1) 0 bs) (drop_of_length-le l le)) ∙ so_far

-- ---- the words of a line
