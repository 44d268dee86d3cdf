-- What an item of the table needs to be done on a domain.
use Rattle.std.specs.Prelude.{◌≡◌, All, ℕ, ◌*◌, ◌^◌, ◌<◌, ◌≤◌, ℤ, List, length}
use Rattle.wf_model.specs.declared.plan.Plan.{Plan}
use Rattle.wf_model.specs.declared.plan.Item.{Item}
use Rattle.wf_model.specs.declared.plan.Item.TheVariants as item
use Rattle.wf_model.specs.ExprFacts.{parts_of}
use Rattle.wf_model.specs.Plans.{item_of, nx, ny, nz}
use Rattle.wf_model.specs.Sound.{IsLevel}
use Rattle.wf_eval.specs.Evaluable.{IsAccepted}
use Rattle.wf_grid.specs.Reading.{IsRunnable}

-- two levels of one field, with the same extents
pub record IsPair (plan : Plan) (d one two : ℕ) : Type 0 where
  pub first : IsLevel plan one
  pub second : IsLevel plan two
  pub other : one ≡ two → ⊥
  pub levels : nz plan two ≡ nz plan one
  pub rows : ny plan d two ≡ ny plan d one
  pub columns : nx plan d two ≡ nx plan d one

abbrev pub IsTakeable : Plan → ℕ → Item → Type 0
IsTakeable plan d (item.Halo parts) = Unit {0}
IsTakeable plan d (item.Period parts) = Unit {0}
IsTakeable plan d (item.Swap one two) = IsPair plan d one two
IsTakeable plan d (item.Phase ph) = IsRunnable plan d ph

-- all items of a plan can be done on a domain
pub record IsTable (plan : Plan) (d : ℕ) : Type 0 where
  pub items : (n : ℕ) → n < length plan.items → IsTakeable plan d (item_of plan n)
  pub few : (f : ℕ) → IsLevel plan f → nz plan f < 2 ^ 31
  pub fields : length plan.fields ≤ 64

-- room for each level
abbrev pub HasRoom : Plan → ℕ → List ℤ → Type 0
HasRoom plan d scratch =
    (f : ℕ) → IsLevel plan f → nz plan f * (ny plan d f * nx plan d f) ≤ length scratch

-- each stored function that an item calls accepts each list of numbers that it may be called on
abbrev pub CallsAreAccepted : (ℕ → List ℤ → Type 0) → Item → Type 0
CallsAreAccepted accepts (item.Halo parts) = Unit {0}
CallsAreAccepted accepts (item.Period parts) = Unit {0}
CallsAreAccepted accepts (item.Swap one two) = Unit {0}
CallsAreAccepted accepts (item.Phase ph) = All (IsAccepted accepts) (parts_of ph.expr).calls
