-- A run of one domain, and how far it came.
use Rattle.std.specs.Prelude.{◌≡◌, ℕ, ◌<◌, ◌≤◌, List, length, ℤ, Option, Some, None, Err}
use Rattle.std.specs.List.{slice_get}
use Rattle.wf_model.specs.declared.frame.Frame.{Frame}
use Rattle.wf_model.specs.declared.point.Point.{Point}
use Rattle.wf_model.specs.Agreement.{IsUpToOverflow}
use Rattle.wf_model.specs.Frames.{frames_of}
use Rattle.wf_model.specs.Outcome.{RunData, script, grids_at, outcome_of}
use Rattle.wf_model.specs.SoundRun.{IsSoundRun}
use Rattle.wf_grid.specs.Held.{first_lists}
use Rattle.wf_grid.specs.Levels.{AreLists, lists_of}
use Rattle.wf_grid.specs.Takeable.{IsTable}

-- a run of one domain, each item of which can be done
pub record IsSteppable (r : RunData) : Type 0 where
  pub sound : IsSoundRun r
  pub one_domain : length r.plan.domains ≡ 1
  pub lists : AreLists r.plan 1 (first_lists r.initial)
  pub table : IsTable r.plan 1

-- no item before the place overflows, and the lists are those of the grids before it
pub record IsReached (r : RunData) (p : ℕ) (lists : List (List ℤ)) : Type 0 where
  pub up : IsUpToOverflow r p
  pub same : lists ≡ lists_of r.plan 1 (grids_at r p)

-- the first overflow is this point, at an item from one place up to another, without the last
pub record OverflowsIn (r : RunData) (from to : ℕ) (point : Point) : Type 0 where
  pub place : ℕ
  pub low : from ≤ place
  pub high : place < to
  pub first : outcome_of r ≡ Err (record { place = place; point = point })

-- the place of a frame, or the end of the script where there is none
abbrev pub place_of : RunData → Option Frame → ℕ
place_of r None = length (script r)
place_of r (Some frame) = frame.place

-- the first n frames are there, and stand before a place
pub record StandBefore (r : RunData) (n p : ℕ) : Type 0 where
  pub few : n ≤ length (frames_of r)
  pub each : (k : ℕ) (f : Frame) → k < n → slice_get (frames_of r) k ≡ Some f → f.place < p
