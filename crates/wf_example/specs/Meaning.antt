-- What the group's stored function accepts and answers.
use Rattle.std.specs.Prelude.{◌≡◌, ℕ, List, [], ◌∷◌, length, codes, ℤ, pos}
use Rattle.wf_hooks.specs.Numbers.{AreI64}
use Rattle.wf_model.specs.declared.table.HookName.{HookName}
use Rattle.wf_model.specs.declared.table.HookKind.TheVariants.{Call}

-- from x to y: the whole way at once
abbrev pub relax_of : ℤ → ℤ → ℤ → ℤ
relax_of x y n = y

-- what the function answers to a list of numbers
abbrev pub group_meaning : ℕ → List ℤ → ℤ
group_meaning id (x ∷ y ∷ n ∷ []) = relax_of x y n
group_meaning id other = pos 0

-- the lists that it accepts: three numbers of 64 bits
pub record AcceptsGroup (id : ℕ) (zs : List ℤ) : Type 0 where
  pub three : length zs ≡ 3
  pub fit : AreI64 zs

-- its name
abbrev pub group_hooks : List HookName
group_hooks = record { name = codes "relax"; id = 0; kind = Call; arity = 3 } ∷ []
