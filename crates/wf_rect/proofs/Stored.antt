-- Signed numbers of 64 bits that are read from a box, and written into one.
use Rattle.std.proofs.Common.{◌≡◌, ℕ, ap, ap₂, ◌∙◌, w64}
use Rattle.std.specs.Prelude.{ℤ, pos, ◌+ℤ◌}
use mir.Val.{SFits, to_z, of_z}
use Rattle.std.proofs.lemmas.Int.{to_z-of_z}
use Rattle.wf_rect.specs.Boxes.{box}
use Rattle.wf_rect.specs.Tiles.{count_between}

-- a number as it is read
abbrev pub read : ℤ → ℤ
read z = to_z w64 (of_z w64 z)

-- a function's answer at numbers that were read, written
pub answer_of :
    (f : ℤ → ℤ → ℤ) (a b r : ℤ) → SFits w64 a → SFits w64 b → SFits w64 r
    → r ≡ f (read a) (read b) → read r ≡ f a b
answer_of f a b r in_a in_b in_r is =
    to_z-of_z w64 r in_r ∙ (is ∙ ap₂ f (to_z-of_z w64 a in_a) (to_z-of_z w64 b in_b))

-- a count between two numbers that were read
pub count_of :
    (low high : ℤ) (n : ℕ) → SFits w64 low → SFits w64 high
    → n ≡ count_between (read low) (read high) → n ≡ count_between low high
count_of low high n in_low in_high is =
    is ∙ ap₂ count_between (to_z-of_z w64 low in_low) (to_z-of_z w64 high in_high)

-- a number that was read and moved up, written
pub moved :
    (low x : ℤ) (n m : ℕ) → SFits w64 low → SFits w64 x → SFits w64 (read low +ℤ read x)
    → x ≡ pos n → n ≡ m → read (read low +ℤ read x) ≡ low +ℤ pos m
moved low x n m in_low in_x in_sum is at =
    let up = to_z-of_z w64 x in_x ∙ (is ∙ ap (λ k. pos k) at) in
    to_z-of_z w64 _ in_sum ∙ ap₂ ◌+ℤ◌ (to_z-of_z w64 low in_low) up

-- boxes with the same ends are the same
pub same_box :
    (a b c d a' b' c' d' : ℤ) → a ≡ a' → b ≡ b' → c ≡ c' → d ≡ d'
    → box a b c d ≡ box a' b' c' d'
same_box a b c d a' b' c' d' p q r s = cc
