-- Comparisons of whole numbers that are one more.
use Rattle.std.proofs.Common.{◌≡◌, ℤ, pos, ◌+ℤ◌, int_lt, arith}
use Rattle.std.proofs.lemmas.Int.{ints}

pub one_more : (a b c : ℤ) → int_lt (a +ℤ pos 1) ((b +ℤ pos 1) +ℤ c) ≡ int_lt a (b +ℤ c)
one_more a b c = grind (arith, ints)
