-- Stored functions: how many arguments those have that expressions call, and the lists of numbers
-- that items between a nest and its parent give to those that they name.
use Rattle.std.specs.Prelude.{◌≡◌, ℕ, ◌%◌, ◌<◌, ◌≤◌, All, List, [], ◌∷◌, length, ℤ, pos, IsTrue}
use Rattle.wf_model.specs.declared.table.HookName.{HookName}
use Rattle.wf_model.specs.declared.table.HookKind.TheVariants.{Call}
use Rattle.wf_model.specs.Numbers.{fits_i32}
use Rattle.wf_model.specs.Nests.{digest}

-- a function that expressions call has at most 8 arguments
abbrev pub HasFewArguments : HookName → Type 0
HasFewArguments h = h.kind ≡ Call → h.arity ≤ 8

-- a number of 32 bits
abbrev pub IsShort : ℤ → Type 0
IsShort z = IsTrue (fits_i32 z)

-- a list for a function between points: the numbers of the four points around, of 32 bits; how many
-- parts the point lies past the first of them, in x and in y; and how many parts there are, an odd
-- number of at most 15
pub record IsInterpList (zs : List ℤ) : Type 0 where
  pub p00 : ℤ
  pub p10 : ℤ
  pub p01 : ℤ
  pub p11 : ℤ
  pub a : ℕ
  pub b : ℕ
  pub ratio : ℕ
  pub is : zs ≡ p00 ∷ p10 ∷ p01 ∷ p11 ∷ pos a ∷ pos b ∷ pos ratio ∷ []
  pub short : All IsShort (p00 ∷ p10 ∷ p01 ∷ p11 ∷ [])
  pub past_x : a < ratio
  pub past_y : b < ratio
  pub odd : ratio % 2 ≡ 1
  pub most : ratio ≤ 15

-- a list for an average: count, sum, least, greatest and middle one of 1 to 225 numbers of 32 bits
pub record IsAverageList (zs : List ℤ) : Type 0 where
  pub values : List ℤ
  pub is : zs ≡ digest values
  pub some : 1 ≤ length values
  pub most : length values ≤ 225
  pub short : All IsShort values
