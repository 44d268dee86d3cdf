-- A quoted text, as a loop reads it.
use Rattle.std.proofs.Common.{◌≡◌, ◌≢◌, ℕ, ◌+◌, ◌<◌, ◌≤◌, [], ◌∷◌, ◌++◌, length, get_or, drop, Option, Some, None, refl, sym, ap, ap₂, ◌∙◌, add-one, add-zero, drop-cons, append_assoc, eq-eqb, length-drop, get_or-drop, arith}
use Rattle.std.proofs.lemmas.Bool.{ne_eqb}
use Rattle.std.proofs.lemmas.List.{append-nil}
use Rattle.std.proofs.Math.ListN.{drop_of_length-le}
use Rattle.wf_model.specs.Letters.{Text}
use Rattle.wf_model.specs.NamelistTokens.{longer, quoted}

-- what was read of a text before, and what is still read
abbrev pub behind : Text → ℕ → Option (Text × ℕ) → Option (Text × ℕ)
behind front n None = None
behind front n (Some t) = Some (front ++ t.0, n + t.1)

-- one byte more is read
more : (front : Text) (n b size : ℕ) (read : Option (Text × ℕ)) → behind front n (longer b size read) ≡ behind (front ++ b ∷ []) (n + size) read
more front n b size None = refl
more front n b size (Some t) =
    let same : n + (size + t.1) ≡ n + size + t.1 = omega arith in
    ap₂ (λ (text : Text) (k : ℕ). let r : Option (Text × ℕ) = Some (text, k) in r) (sym (append_assoc front (b ∷ []) t.0)) same

-- the byte at a place, and those after it
here : (at : ℕ) (l : Text) → at < length l → drop at l ≡ get_or l at 0 ∷ drop (at + 1) l
here at l h = rw (add-one, drop-cons l at 0) refl

-- a byte that is no quote and no line feed
other_byte : (quote b : ℕ) (bs : Text) → b ≢ 10 → b ≢ quote → quoted quote (b ∷ bs) ≡ longer b 1 (quoted quote bs)
unfolding quoted
other_byte quote b [] no_end no_quote = rw (ne_eqb b quote no_quote) refl
other_byte quote b (c ∷ bs) no_end no_quote = rw (ne_eqb b 10 no_end, ne_eqb b quote no_quote) refl

-- a line feed leaves the text open
line_end : (quote : ℕ) (bs : Text) → quote ≢ 10 → quoted quote (10 ∷ bs) ≡ None
unfolding quoted
line_end quote [] no_end = let ne : 10 ≢ quote = λ e. no_end (sym e) in rw (ne_eqb 10 quote ne) refl
line_end quote (c ∷ bs) no_end = refl

-- a doubled quote is one
doubled : (quote : ℕ) (bs : Text) → quote ≢ 10 → quoted quote (quote ∷ quote ∷ bs) ≡ longer quote 2 (quoted quote bs)
unfolding quoted
doubled quote bs no_end = rw (ne_eqb quote 10 no_end, eq-eqb quote quote refl) refl

-- a quote that is not doubled ends the text
closing : (quote : ℕ) (bs : Text) → quote ≢ 10 → (0 < length bs → get_or bs 0 0 ≢ quote) → quoted quote (quote ∷ bs) ≡ Some ([], 1)
unfolding quoted
closing quote [] no_end single = rw (eq-eqb quote quote refl) refl
closing quote (c ∷ bs) no_end single = rw (ne_eqb quote 10 no_end, eq-eqb quote quote refl, ne_eqb c quote (single (omega arith))) refl

-- ---- as the loop stands at a place

pub next_other : (front : Text) (quote b at : ℕ) (l : Text) (total : Option (Text × ℕ)) → at < length l → b ≡ get_or l at 0 → b ≢ 10 → b ≢ quote
    → behind front at (quoted quote (drop at l)) ≡ total → behind (front ++ b ∷ []) (at + 1) (quoted quote (drop (at + 1) l)) ≡ total
next_other front quote b at l total lt is no_end no_quote so_far =
    sym (more front at b 1 (quoted quote (drop (at + 1) l))) ∙ ap (behind front at) (sym (ap (quoted quote) (here at l lt ∙ ap (λ (x : ℕ). x ∷ drop (at + 1) l) (sym is)) ∙ other_byte quote b (drop (at + 1) l) no_end no_quote)) ∙ so_far

pub next_line_end : (front : Text) (quote b at : ℕ) (l : Text) (total : Option (Text × ℕ)) → quote ≢ 10 → at < length l → b ≡ get_or l at 0 → b ≡ 10
    → behind front at (quoted quote (drop at l)) ≡ total → None ≡ total
next_line_end front quote b at l total no_end lt is ends so_far =
    ap (behind front at) (sym (ap (quoted quote) (here at l lt ∙ ap (λ (x : ℕ). x ∷ drop (at + 1) l) (sym is ∙ ends)) ∙ line_end quote (drop (at + 1) l) no_end)) ∙ so_far

pub next_doubled : (front : Text) (quote b at : ℕ) (l : Text) (total : Option (Text × ℕ)) → quote ≢ 10 → at + 1 < length l → b ≡ get_or l at 0 → b ≡ quote → get_or l (at + 1) 0 ≡ quote
    → behind front at (quoted quote (drop at l)) ≡ total → behind (front ++ b ∷ []) (at + 2) (quoted quote (drop (at + 2) l)) ≡ total
next_doubled front quote b at l total no_end lt is first second so_far =
    let at_two : at + 1 + 1 ≡ at + 2 = omega arith in
    let both : drop at l ≡ quote ∷ quote ∷ drop (at + 2) l =
    here at l (omega arith) ∙ ap₂ (λ (x : ℕ) (r : Text). x ∷ r) (sym is ∙ first) (here (at + 1) l lt ∙ ap₂ (λ (x : ℕ) (r : Text). x ∷ r) second (ap (λ k. drop k l) at_two)) in
    ap (λ (x : ℕ). behind (front ++ x ∷ []) (at + 2) (quoted quote (drop (at + 2) l))) first
    ∙ sym (more front at quote 2 (quoted quote (drop (at + 2) l))) ∙ ap (behind front at) (sym (ap (quoted quote) both ∙ doubled quote (drop (at + 2) l) no_end)) ∙ so_far

pub next_closing : (front : Text) (quote b at : ℕ) (l : Text) (total : Option (Text × ℕ)) → quote ≢ 10 → at < length l → b ≡ get_or l at 0 → b ≡ quote → (at + 1 < length l → get_or l (at + 1) 0 ≢ quote)
    → behind front at (quoted quote (drop at l)) ≡ total → Some (front, at + 1) ≡ total
next_closing front quote b at l total no_end lt is first single so_far =
    let one : drop at l ≡ quote ∷ drop (at + 1) l = here at l lt ∙ ap (λ (x : ℕ). x ∷ drop (at + 1) l) (sym is ∙ first) in
    let shown : 0 < length (drop (at + 1) l) → get_or (drop (at + 1) l) 0 0 ≢ quote = λ some e. single (omega (arith, length-drop (at + 1) l)) (ap (λ k. get_or l k 0) (sym (add-zero (at + 1))) ∙ sym (get_or-drop (at + 1) l 0 0) ∙ e) in
    ap (λ (text : Text). let r : Option (Text × ℕ) = Some (text, at + 1) in r) (sym (append-nil front)) ∙ ap (behind front at) (sym (ap (quoted quote) one ∙ closing quote (drop (at + 1) l) no_end shown)) ∙ so_far

pub at_end : (front : Text) (quote at : ℕ) (l : Text) (total : Option (Text × ℕ)) → length l ≤ at → behind front at (quoted quote (drop at l)) ≡ total → None ≡ total
unfolding quoted
at_end front quote at l total le so_far = ap (λ (bs : Text). behind front at (quoted quote bs)) (sym (drop_of_length-le l le)) ∙ so_far
