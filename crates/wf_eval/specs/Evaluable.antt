-- What the evaluation of an expression needs, and what it answers.
use Rattle.std.specs.Prelude.{◌≡◌, ℕ, ◌≤◌, List, All, ℤ, length, Option, Some, None, Result, Ok}
use Rattle.std.specs.Prelude.{Err}
use Rattle.wf_model.specs.declared.expr.Args.{Args}
use Rattle.wf_model.specs.declared.expr.Expr.{Expr}
use Rattle.wf_model.specs.Reads.{Read, reads_of}
use Rattle.wf_hooks.specs.Numbers.{AreI64}
use Rattle.wf_model.specs.ExprFacts.{CallOf, parts_of}
use Rattle.wf_eval.specs.declared.overflow.Overflow.{Overflow}
use Rattle.wf_eval.specs.Arguments.{parts_in, reads_in}

-- a call of which the arguments have room, and of which each list of that length is accepted
pub record IsAccepted (accepts : ℕ → List ℤ → Type 0) (c : CallOf) : Type 0 where
  pub few : c.arguments ≤ 8
  pub each : (zs : List ℤ) → length zs ≡ c.arguments → AreI64 zs → accepts c.id zs

-- what an expression needs to be evaluated, where the stored functions accept these lists and these
-- reads have numbers
pub record IsEvaluable (accepts : ℕ → List ℤ → Type 0) (CanRead : Read →
    Type 0) (x : Expr) : Type 0 where
  -- no divisor is 0
  pub divisors : All (λ n. 1 ≤ n) (parts_of x).divisors
  -- each read has a number, also in a branch that is not chosen
  pub reads : All CanRead (reads_of x)
  -- each call of a stored function is accepted, also there
  pub calls : All (IsAccepted accepts) (parts_of x).calls

-- the same of arguments
pub record AreEvaluable (accepts : ℕ → List ℤ → Type 0) (CanRead : Read →
    Type 0) (xs : Args) : Type 0 where
  pub divisors : All (λ n. 1 ≤ n) (parts_in xs).parts.divisors
  pub reads : All CanRead (reads_in xs)
  pub calls : All (IsAccepted accepts) (parts_in xs).parts.calls

-- the value, or else the overflow
abbrev pub unless_none : Option ℤ → Result ℤ Overflow
unless_none None = Err (record {})
unless_none (Some z) = Ok z

-- two numbers
abbrev pub pair : ℤ → ℤ → Option (ℤ × ℤ)
pair x y = Some (x, y)

-- a read of any level, at any offset
abbrev pub AnyRead : Read → Type 0
AnyRead r = Unit {0}

-- a call of any function on any list
abbrev pub AnyList : ℕ → List ℤ → Type 0
AnyList id zs = Unit {0}
