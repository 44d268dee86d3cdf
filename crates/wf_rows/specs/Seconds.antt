-- What the functions that a case stores accept and answer.
use Rattle.std.specs.Prelude.{ℕ, List, ℤ, pos, slice_get, unwrap_or}
use Rattle.wf_hooks.specs.Numbers.{AreI64}

-- each accepts numbers of 64 bits, however many
abbrev pub AcceptsNumbers : ℕ → List ℤ → Type 0
AcceptsNumbers id zs = AreI64 zs

-- the second of these numbers, or 0 where there are fewer than two
abbrev pub second_of : List ℤ → ℤ
second_of zs = unwrap_or (slice_get zs 1) (pos 0)

-- each answers its second argument
abbrev pub second_meaning : ℕ → List ℤ → ℤ
second_meaning id zs = second_of zs
