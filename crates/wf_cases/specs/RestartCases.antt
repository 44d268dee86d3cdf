-- Worked cases of restart times: a run of three steps with restart files after each.
use Rattle.std.specs.Prelude.{◌≡◌, Bool, true, false, [], ◌∷◌, Some, codes}
use Rattle.wf_model.specs.declared.plan.Item.TheVariants as item
use Rattle.wf_model.specs.Outcome.{RunData}
use Rattle.wf_model.specs.Uncovered.{first_lost}
use Rattle.wf_model.specs.Continued.{place_after, IsRestartTime, HoldsLiveLevels}
use Rattle.wf_model.specs.DemoCase.{case_field}
use Rattle.wf_cases.specs.RunCases.{run, raised}

-- two points, to which each step adds 1. Restart files hold a, or don't
abbrev pub restarts : Bool → RunData
restarts holds = record (run 2 1 0 raised) {
  plan = record ((run 2 1 0 raised).plan) {
    fields = record (case_field (codes "a") (codes "A")) { restart = holds } ∷ [];
    steps = 3;
    restart_steps = 1;
  };
}

-- each step has the phase, a history frame and a restart frame; the last of them ends the run
pub record RestartTimes : Type 0 where
  pub held : HoldsLiveLevels (restarts true).plan
  pub lost : first_lost (restarts false).plan ≡ Some 0
  pub first : IsRestartTime (restarts true) 1
  pub second : IsRestartTime (restarts true) 2
  pub last : IsRestartTime (restarts true) 3
  pub first_place : place_after (restarts true) 1 ≡ 4
  pub second_place : place_after (restarts true) 2 ≡ 7
  pub last_place : place_after (restarts true) 3 ≡ 10
