-- A domain that does nothing stays as it is.
use Rattle.std.proofs.Common.{◌≡◌, ℕ, ◌≤◌, List, [], sym, subst, ◌∙◌, arith}
use Rattle.wf_model.specs.declared.plan.Plan.{Plan}
use Rattle.wf_model.specs.declared.initial.Begin.{Begin}
use Rattle.wf_model.specs.Cycle.{Turn, cycle_of}
use Rattle.wf_model.specs.Sound.{IsSoundPlan}
use Rattle.wf_laws.proofs.ScriptTurns.{AreDone, IsIdle}

module _ (plan : Plan) (sound : IsSoundPlan plan) (begins : List Begin) where
  -- a domain that is idle is so later
  pub later_idle : (t t' d : ℕ) (ts : ℕ → List Turn) → t ≤ t' → IsIdle plan sound begins t d ts → IsIdle plan sound begins t' d ts
  later_idle t t' d ts l i = record { rounds = i.rounds; early = λ r b. i.early r (omega arith) }

  -- a domain whose turns stay stays idle
  pub same_idle : (t d : ℕ) (ts us : ℕ → List Turn) → us d ≡ ts d → IsIdle plan sound begins t d ts → IsIdle plan sound begins t d us
  same_idle t d ts us e i = record { rounds = subst (λ (x : List Turn). AreDone (cycle_of plan d) [] x) (sym e) i.rounds; early = λ r b. e ∙ i.early r b }
