-- Names of fields and of their levels.
use Rattle.std.specs.Prelude.{ℕ, Bool, List, filter, map}
use Rattle.std.specs.Global.{Vec}
use Rattle.wf_model.specs.Letters.{Text}

-- the symbols, and the names of levels
pub record WordLists : Type 0 where
  pub symbols : List Text
  pub levels : List Text

-- the names whose value passes the test
abbrev pub names_with : {X : Type 0} → (X → Bool) → List (Vec ℕ × X) → List Text
names_with test es = map (λ e. e.0.items) (filter (λ e. test e.1) es)
