-- The worked cases of restart times, computed.
use Rattle.std.proofs.Common.{◌≡◌, ℕ, ◌≤◌, true, refl, sym, subst, arith}
use Rattle.wf_model.specs.declared.expr.Expr.{fold-roll-Expr}
use Rattle.wf_model.specs.Plans.{domain_of, field_of, item_of, begin_of, children}
use Rattle.wf_model.specs.Grids.{grid_from, listed}
use Rattle.wf_model.specs.Changes.{changed, spots, nothing, table_change, in_region}
use Rattle.wf_model.specs.Script.{step_of, script_of}
use Rattle.wf_model.specs.Outcome.{begin_grids, change_of, overflow_of, grids_after, outcome_of, outcome_from}
use Rattle.wf_model.specs.Reads.{reads_of}
use Rattle.wf_model.specs.Live.{deeds_of, live_through, is_live}
use Rattle.wf_model.specs.Sound.{IsDomain}
use Rattle.wf_model.specs.Uncovered.{first_lost}
use Rattle.wf_model.specs.Continued.{first_steps, steps_after}
use Rattle.wf_cases.specs.RestartCases.{restarts, RestartTimes}
use Rattle.wf_cases.proofs.RunCases.{raised_number}

-- there is one domain
one_domain : (d : ℕ) → IsDomain (restarts true).plan d → d ≡ 1
one_domain d is = omega (arith, is.0, is.1)

-- it has as many steps behind it as the run
few_steps : (m d : ℕ) → m ≤ 3 → steps_after (restarts true) m 1 ≡ m → IsDomain (restarts true).plan d → steps_after (restarts true) m d ≤ 1000000000
few_steps m d few number is =
    subst (λ (e : ℕ). steps_after (restarts true) m e ≤ 1000000000) (sym (one_domain d is)) (omega (arith, number))

pub restart_times : RestartTimes
unfolding reads_of first_lost is_live live_through deeds_of first_steps outcome_of outcome_from overflow_of begin_grids change_of changed table_change nothing grid_from grids_after spots in_region listed domain_of field_of item_of begin_of script_of step_of children
restart_times = record {
  held = simp fold-roll-Expr refl;
  lost = simp fold-roll-Expr refl;
  first = record { some = omega arith; within = omega arith; due = refl; reached = simp raised_number refl; counted = λ d is. few_steps 1 d (omega arith) refl is };
  second = record { some = omega arith; within = omega arith; due = refl; reached = simp raised_number refl; counted = λ d is. few_steps 2 d (omega arith) refl is };
  last = record { some = omega arith; within = omega arith; due = refl; reached = simp raised_number refl; counted = λ d is. few_steps 3 d (omega arith) refl is };
  first_place = refl;
  second_place = refl;
  last_place = refl;
}
