-- Blocks of a length, counted from 0, which follow one another.
use Rattle.std.specs.Prelude.{◌≡◌, ℕ, ◌+◌, ◌*◌, ◌/◌, ◌<◌, ◌≤◌}

-- where block p of n over a length begins: block p ends where block p + 1 begins
abbrev pub block_start : ℕ → ℕ → ℕ → ℕ
block_start p n len = p * len / n

-- block p of n has a place, counted from 0
abbrev pub IsInBlock : ℕ → ℕ → ℕ → ℕ → Type 0
IsInBlock p n len i = (block_start p n len ≤ i) × (i < block_start (p + 1) n len)

-- block p of n has a point, counted from 1
abbrev pub HasPoint : ℕ → ℕ → ℕ → ℕ → Type 0
HasPoint p n len i = (block_start p n len < i) × (i ≤ block_start (p + 1) n len)

-- one number below n passes the test, and no other one does
pub record IsTheOne (n : ℕ) (test : ℕ → Type 0) (p : ℕ) : Type 0 where
  pub below : p < n
  pub passes : test p
  pub alone : (q : ℕ) → q < n → test q → q ≡ p

-- each place of a length lies in one of its n blocks and in no other
abbrev pub BlocksAreDisjointAndComplete : Type 0
BlocksAreDisjointAndComplete =
    (n len i : ℕ) → 0 < n → i < len → (p : ℕ) × IsTheOne n (λ q. IsInBlock q n len i) p
