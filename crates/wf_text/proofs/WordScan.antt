-- The words of a physical line, one after the other, as a loop reads them.
use Rattle.std.proofs.Common.{◌≡◌, ℕ, zero, suc, ◌+◌, ◌-◌, ◌<◌, ◌≤◌, true, false, List, [], ◌∷◌, ◌++◌, length, get_or, drop, Option, Result, Ok, refl, sym, ap, ap₂, ◌∙◌, add-one, add-zero, drop-cons, drop-drop, arith}
use Rattle.std.proofs.lemmas.Bool.{ne_eqb}
use Rattle.std.proofs.Math.ListN.{drop_of_length-le}
use Rattle.wf_model.specs.declared.text.TextFault.{TextFault}
use Rattle.wf_model.specs.declared.text.Word.{Word}
use Rattle.wf_model.specs.Reading.{◌>>=◌, Fails}
use Rattle.wf_model.specs.Lines.{is_blank, word_at, words_from}
use Rattle.wf_model.proofs.ReadingLemmas.{with_front, with_front-cons, with_front-end, Fails-along, Fails-chain, Fails-front}

-- the words of a line, or its fault
abbrev pub Read : Type 0
Read = Result (List Word) TextFault

-- passing over the bytes of a word
passed : (number column k : ℕ) (bs : List ℕ) → words_from number column k bs ≡ words_from number (column + k) 0 (drop k bs)
unfolding words_from
passed number column zero bs = ap (λ c. words_from number c 0 bs) (sym (add-zero column))
passed number column (suc k) [] = refl
passed number column (suc k) (b ∷ bs) = let e : column + 1 + k ≡ column + suc k = omega arith in passed number (column + 1) k bs ∙ ap (λ c. words_from number c 0 (drop k bs)) e

-- the byte at a place, and those after it
here : (at : ℕ) (l : List ℕ) → at < length l → drop at l ≡ get_or l at 0 ∷ drop (at + 1) l
here at l h = rw (add-one, drop-cons l at 0) refl

-- a blank is passed over
pub blank : (front : List Word) (number at : ℕ) (l : List ℕ) (total : Read) → at < length l → is_blank (get_or l at 0) ≡ true
    → with_front front (words_from number (at + 1) 0 (drop at l)) ≡ total → with_front front (words_from number (at + 1 + 1) 0 (drop (at + 1) l)) ≡ total
unfolding words_from
blank front number at l total lt is so_far =
    let one : words_from number (at + 1) 0 (drop at l) ≡ words_from number (at + 1 + 1) 0 (drop (at + 1) l) = rw (here at l lt, is) refl in
    sym (ap (with_front front) one) ∙ so_far

-- a comment ends the line
pub comment : (front : List Word) (number at : ℕ) (l : List ℕ) (total : Read) → at < length l → is_blank (get_or l at 0) ≡ false → get_or l at 0 ≡ 35
    → with_front front (words_from number (at + 1) 0 (drop at l)) ≡ total → total ≡ Ok front
unfolding words_from
comment front number at l total lt no_blank is so_far =
    let one : words_from number (at + 1) 0 (drop at l) ≡ Ok [] = rw (here at l lt, no_blank, is) refl in
    with_front-end front total (sym (ap (with_front front) one) ∙ so_far)

-- a word begins here, and the others follow
first_word : (number at : ℕ) (l : List ℕ) → at < length l → is_blank (get_or l at 0) ≡ false → (get_or l at 0 ≡ 35 → ⊥)
    → words_from number (at + 1) 0 (drop at l)
    ≡ (word_at number (at + 1) (get_or l at 0) (drop (at + 1) l) >>= λ w. words_from number (at + 1 + 1) (w.1 - 1) (drop (at + 1) l) >>= λ ws. Ok (w.0 ∷ ws))
unfolding words_from
first_word number at l lt no_blank no_comment = rw (here at l lt, no_blank, ne_eqb _ _ no_comment) refl

-- a word is read
pub word_read : (front : List Word) (number at : ℕ) (l : List ℕ) (total : Read) (w : Word) (count : ℕ) → at < length l → is_blank (get_or l at 0) ≡ false → (get_or l at 0 ≡ 35 → ⊥)
    → word_at number (at + 1) (get_or l at 0) (drop (at + 1) l) ≡ Ok (w, count) → 0 < count
    → with_front front (words_from number (at + 1) 0 (drop at l)) ≡ total → with_front (front ++ w ∷ []) (words_from number (at + count + 1) 0 (drop (at + count) l)) ≡ total
word_read front number at l total w count lt no_blank no_comment read some so_far =
    let one : words_from number (at + 1) 0 (drop at l) ≡ (words_from number (at + 1 + 1) (count - 1) (drop (at + 1) l) >>= λ ws. Ok (w ∷ ws)) = first_word number at l lt no_blank no_comment ∙ rw read refl in
    let place : at + 1 + 1 + (count - 1) ≡ at + count + 1 = omega arith in
    let gone : at + 1 + (count - 1) ≡ at + count = omega arith in
    let two : words_from number (at + 1 + 1) (count - 1) (drop (at + 1) l) ≡ words_from number (at + count + 1) 0 (drop (at + count) l) =
    passed number (at + 1 + 1) (count - 1) (drop (at + 1) l) ∙ ap₂ (λ c bs. words_from number c 0 bs) place (drop-drop (count - 1) (at + 1) l ∙ ap (λ k. drop k l) gone) in
    sym (ap (with_front front) (one ∙ ap (λ (r : Read). r >>= λ ws. Ok (w ∷ ws)) two) ∙ with_front-cons front w _) ∙ so_far

-- a word has a fault
pub word_fails : (fault : Option TextFault) (front : List Word) (number at : ℕ) (l : List ℕ) (total : Read) → at < length l → is_blank (get_or l at 0) ≡ false → (get_or l at 0 ≡ 35 → ⊥)
    → Fails fault (word_at number (at + 1) (get_or l at 0) (drop (at + 1) l))
    → with_front front (words_from number (at + 1) 0 (drop at l)) ≡ total → Fails fault total
word_fails fault front number at l total lt no_blank no_comment fails so_far =
    Fails-front fault front (words_from number (at + 1) 0 (drop at l)) total so_far
    (Fails-along fault _ _ (sym (first_word number at l lt no_blank no_comment)) (Fails-chain fault (word_at number (at + 1) (get_or l at 0) (drop (at + 1) l)) _ fails))

-- the line is at its end
pub ended : (front : List Word) (number at : ℕ) (l : List ℕ) (total : Read) → length l ≤ at
    → with_front front (words_from number (at + 1) 0 (drop at l)) ≡ total → total ≡ Ok front
unfolding words_from
ended front number at l total le so_far =
    let one : words_from number (at + 1) 0 (drop at l) ≡ Ok [] = ap (words_from number (at + 1) 0) (drop_of_length-le l le) in
    with_front-end front total (sym (ap (with_front front) one) ∙ so_far)
