-- The stored functions that the programs ship.
use Rattle.std.specs.Prelude.{◌≡◌, ℕ, ◌<◌, ◌==◌, List, [], ◌∷◌, length, codes, ℤ, pos, ◌+ℤ◌, ◌-ℤ◌}
use Rattle.std.specs.Prelude.{int_lt, if◌then◌else◌}
use Rattle.std.specs.Int.{int_div_euclid, int_min, int_max}
use Rattle.wf_hooks.specs.Numbers.{AreI64}
use Rattle.wf_model.specs.declared.table.HookName.{HookName}
use Rattle.wf_model.specs.declared.table.HookKind.TheVariants.{Call}

-- ---- meanings

-- x, at least low, and then at most high
abbrev pub limit_of : ℤ → ℤ → ℤ → ℤ
limit_of x low high = int_min (int_max x low) high

-- from x to y, one of n parts of the way, rounded down; x where n is below 1
abbrev pub relax_of : ℤ → ℤ → ℤ → ℤ
relax_of x y n = if int_lt n (pos 1) then x else x +ℤ int_div_euclid (y -ℤ x) n

abbrev pub of_three : (ℤ → ℤ → ℤ → ℤ) → List ℤ → ℤ
of_three f (x ∷ y ∷ z ∷ []) = f x y z
of_three f other = pos 0

-- what the function of this id answers
abbrev pub shipped_meaning : ℕ → List ℤ → ℤ
shipped_meaning id zs = if id == 0 then of_three limit_of zs else of_three relax_of zs

-- the lists that it accepts
pub record AcceptsShipped (id : ℕ) (zs : List ℤ) : Type 0 where
  pub shipped : id < 2
  pub three : length zs ≡ 3
  pub fit : AreI64 zs

-- ---- names

abbrev pub shipped_hooks : List HookName
shipped_hooks =
    record { name = codes "limit"; id = 0; kind = Call; arity = 3 } ∷
    record { name = codes "relax"; id = 1; kind = Call; arity = 3 } ∷ []
