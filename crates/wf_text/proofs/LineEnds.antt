-- Where physical lines end.
use Rattle.std.proofs.Common.{◌≡◌, ◌≢◌, inl, inr, ℕ, zero, suc, ◌<◌, false, List, [], ◌∷◌, length, get_or, take, drop, refl, ap, ◌∙◌, arith}
use Rattle.std.proofs.lemmas.Bool.{ne_eqb}
use Rattle.std.proofs.lemmas.Bool.Decides.{eqb_tells}
use Rattle.wf_model.specs.Lines.{physical, before, begins_with}
use Rattle.wf_text.specs.Physical.{trimmed}

-- another last byte stays
pub trimmed-other : (n : ℕ) (l : List ℕ) → length l ≡ suc n → get_or l n 0 ≢ 13 → trimmed l ≡ l
trimmed-other n [] e h = refl
trimmed-other zero (x ∷ []) e h = rw (ne_eqb x 13 h) refl
trimmed-other (suc n) (x ∷ []) e h = absurd (omega arith)
trimmed-other zero (x ∷ y ∷ ys) e h = absurd (omega arith)
trimmed-other (suc n) (x ∷ y ∷ ys) e h = ap (λ (r : List ℕ). x ∷ r) (trimmed-other n (y ∷ ys) (omega arith) h)

-- a carriage return at the end goes
pub trimmed-return : (n : ℕ) (l : List ℕ) → length l ≡ suc n → get_or l n 0 ≡ 13 → trimmed l ≡ take n l
trimmed-return n [] e h = absurd (omega arith)
trimmed-return zero (x ∷ []) e h = rw h refl
trimmed-return (suc n) (x ∷ []) e h = absurd (omega arith)
trimmed-return zero (x ∷ y ∷ ys) e h = absurd (omega arith)
trimmed-return (suc n) (x ∷ y ∷ ys) e h = ap (λ (r : List ℕ). x ∷ r) (trimmed-return n (y ∷ ys) (omega arith) h)

-- a byte that is no line feed, and no carriage return before one
physical-step : (b : ℕ) (bs : List ℕ) → b ≢ 10 → begins_with 10 bs ≡ false → physical (b ∷ bs) ≡ before b (physical bs)
unfolding physical
physical-step b bs ne e =
    elim (eqb_tells b 13) [
      | inl is ↦ rw (ne_eqb b 10 ne, is.0, e) refl
      | inr no_return ↦ rw (ne_eqb b 10 ne, no_return.0) refl
    ]

-- a line feed ends the first line
pub physical-found : (k : ℕ) (bs : List ℕ) → k < length bs → get_or bs k 0 ≡ 10 → ((j : ℕ) → j < k → get_or bs j 0 ≢ 10) → physical bs ≡ trimmed (take k bs) ∷ physical (drop (suc k) bs)
unfolding physical
physical-found zero (b ∷ bs) lt here earlier = rw here refl
physical-found (suc zero) (b ∷ c ∷ bs) lt here earlier =
    elim (eqb_tells b 13) [
      | inl is ↦ rw (ne_eqb b 10 (earlier 0 (omega arith)), here, is.0) refl
      | inr no_return ↦ rw (ne_eqb b 10 (earlier 0 (omega arith)), here, no_return.0) refl
    ]
physical-found (suc (suc k)) (b ∷ c ∷ bs) lt here earlier =
    physical-step b (c ∷ bs) (earlier 0 (omega arith)) (ne_eqb c 10 (earlier 1 (omega arith)))
    ∙ ap (before b) (physical-found (suc k) (c ∷ bs) (omega arith) here (λ j l. earlier (suc j) (omega arith)))
physical-found k [] lt here earlier = absurd (omega arith)
physical-found (suc k) (b ∷ []) lt here earlier = absurd (omega arith)

-- a text without a line feed is one line
pub physical-last : (bs : List ℕ) → 0 < length bs → ((j : ℕ) → j < length bs → get_or bs j 0 ≢ 10) → physical bs ≡ bs ∷ []
unfolding physical
physical-last [] lt none = absurd (omega arith)
physical-last (b ∷ []) lt none = physical-step b [] (none 0 (omega arith)) refl
physical-last (b ∷ c ∷ bs) lt none =
    physical-step b (c ∷ bs) (none 0 (omega arith)) (ne_eqb c 10 (none 1 (omega arith)))
    ∙ ap (before b) (physical-last (c ∷ bs) (omega arith) (λ j l. none (suc j) (omega arith)))
