-- What stored functions of these names accept.
use Rattle.std.specs.Prelude.{◌≡◌, ℕ, List, All, ℤ, length}
use Rattle.wf_model.specs.declared.table.HookName.{HookName}
use Rattle.wf_model.specs.declared.table.HookKind.TheVariants.{Call}
use Rattle.wf_model.specs.Hooks.{HasFewArguments}
use Rattle.wf_hooks.specs.Numbers.{AreI64}

-- a function that expressions call accepts each list of so many numbers of 64 bits with a sign
abbrev pub AcceptsCalls : (ℕ → List ℤ → Type 0) → HookName → Type 0
AcceptsCalls accepts h =
    h.kind ≡ Call → (zs : List ℤ) → length zs ≡ h.arity → AreI64 zs → accepts h.id zs

-- each of these that expressions call has at most 8 arguments, and accepts all such lists
pub record AcceptsHooks (accepts : ℕ → List ℤ → Type 0) (hooks : List HookName) : Type 0 where
  pub few : All HasFewArguments hooks
  pub calls : All (AcceptsCalls accepts) hooks
