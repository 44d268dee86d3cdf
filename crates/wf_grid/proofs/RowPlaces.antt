-- The places of rows and levels in the list of a level.
use Rattle.std.proofs.Common.{◌≡◌, ℕ, ◌+◌, ◌-◌, ◌*◌, ◌≤◌, ap, ◌∙◌, arith}
use Rattle.std.proofs.Math.Nat.{add-mul, mul_assoc}
use Rattle.wf_grid.specs.Levels.{place_in}

-- x points behind the first of a row
pub in_row : (ys xs k j x : ℕ) → place_in ys xs k j 1 + x ≡ place_in ys xs k j (x + 1)
in_row ys xs k j x = behind (((k - 1) * ys + (j - 1)) * xs)
  where
    behind : (p : ℕ) → p + (1 - 1) + x ≡ p + ((x + 1) - 1)
    behind p = omega arith

-- a row behind the first of a row
pub next_row : (ys xs k j : ℕ) → 1 ≤ j → place_in ys xs k j 1 + xs ≡ place_in ys xs k (j + 1) 1
next_row ys xs k j h = whole (((k - 1) * ys + (j - 1)) * xs) _ (add-mul ((k - 1) * ys + (j - 1)) 1 xs) ∙ ap (λ (p : ℕ). p * xs + (1 - 1)) (one_more ((k - 1) * ys))
  where
    whole : (p q : ℕ) → q ≡ p + 1 * xs → p + (1 - 1) + xs ≡ q + (1 - 1)
    whole p q e = omega (arith, e)

    one_more : (p : ℕ) → p + (j - 1) + 1 ≡ p + ((j + 1) - 1)
    one_more p = omega (arith, h)

-- behind the last row of a level in z begins the next
pub next_plane : (ys xs k : ℕ) → 1 ≤ k → place_in ys xs k (ys + 1) 1 ≡ place_in ys xs (k + 1) 1 1
next_plane ys xs k h = ap (λ (p : ℕ). p * xs + (1 - 1)) (rows ((k - 1) * ys) _ (add-mul (k - 1) 1 ys) ∙ ap (λ (n : ℕ). n * ys + (1 - 1)) one_more)
  where
    rows : (p q : ℕ) → q ≡ p + 1 * ys → p + ((ys + 1) - 1) ≡ q + (1 - 1)
    rows p q e = omega (arith, e)

    one_more : k - 1 + 1 ≡ k + 1 - 1
    one_more = omega (arith, h)

-- behind the last level in z the list ends
pub all_planes : (zs ys xs : ℕ) → place_in ys xs (zs + 1) 1 1 ≡ zs * (ys * xs)
all_planes zs ys xs = ap (λ (p : ℕ). p * xs + (1 - 1)) (ap (λ (n : ℕ). n * ys + (1 - 1)) less ∙ none (zs * ys)) ∙ none (zs * ys * xs) ∙ mul_assoc zs ys xs
  where
    less : zs + 1 - 1 ≡ zs
    less = omega arith

    none : (p : ℕ) → p + (1 - 1) ≡ p
    none p = omega arith

-- the list begins with the first row
pub first_row : (ys xs : ℕ) → place_in ys xs 1 1 1 ≡ 0
first_row ys xs = omega arith
