-- What a run keeps: a plan that was accepted, and begin data that fit it.
use Rattle.wf_model.specs.Outcome.{RunData}
use Rattle.wf_model.specs.Sound.{IsSoundPlan, IsRangedPlan, FilesFit, IsFittingInitial}

pub record IsSoundRun (r : RunData) : Type 0 where
  pub sound : IsSoundPlan r.plan
  pub ranged : IsRangedPlan r.plan
  pub files : FilesFit r.plan
  pub fitting : IsFittingInitial r.plan r.initial
