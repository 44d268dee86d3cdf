-- Where a run stops first.
use Rattle.std.specs.Prelude.{◌≡◌, ℕ, suc, ◌<◌, ◌≤◌, ◌==◌, ◌&&◌, true, false, length, is_some, Some}
use Rattle.std.specs.Prelude.{Ok, Err}
use Rattle.wf_model.specs.declared.layout.Layout.{Layout}
use Rattle.wf_model.specs.Grids.{Grids}
use Rattle.wf_model.specs.Outcome.{RunData, Overflow, script, outcome_of}
use Rattle.wf_model.specs.Halves.{Due}
use Rattle.wf_model.specs.Core.{CoreState, due_of}
use Rattle.wf_model.specs.Front.{front}
use Rattle.wf_model.specs.Agreement.{IsAccepted, IsUpToOverflow}
use Rattle.wf_model.specs.LeastStop.{domain_at, stop_names, front_names}
use Rattle.wf_model.specs.Replay.{IsReachable}
use Rattle.wf_laws.specs.Stops.{named_at}
use Rattle.wf_core_laws.specs.Patches.{IsDomainPatch}

-- the place at which a patch of the front stops first
pub record IsFirstStop (r : RunData) (layout : Layout) (place : ℕ) : Type 0 where
  pub within : place < length (script r)
  pub live : (d p : ℕ) → IsDomainPatch r.plan layout d p →
      (front r layout place d p).is_stopped ≡ false
  pub d : ℕ
  pub p : ℕ
  pub at : IsDomainPatch r.plan layout d p
  pub stops : (front r layout (suc place) d p).is_stopped ≡ true

-- a patch of a state is stopped at this place
pub record IsStoppedAt (r : RunData) (layout : Layout) (s : CoreState)
    (place d p : ℕ) : Type 0 where
  pub stopped : (s.patches d p).is_stopped ≡ true
  pub due : Due
  pub is : due_of r layout s d p ≡ Some due
  pub place_is : due.place ≡ place

-- on a plan that the halo check accepts, the place at which the front stops a patch first is that
-- of the first overflow
abbrev pub FirstStopIsAtTheFirstOverflow : Type 0
FirstStopIsAtTheFirstOverflow = (r : RunData) (layout : Layout) (o : Overflow) →
    IsAccepted r layout → outcome_of r ≡ Err o → IsFirstStop r layout o.place

-- where nothing overflows it stops none, at no place of the script
abbrev pub FrontGoesOnWhereNothingOverflows : Type 0
FrontGoesOnWhereNothingOverflows =
    (r : RunData) (layout : Layout) (g : Grids) (n d p : ℕ) → IsAccepted r layout →
    outcome_of r ≡ Ok g → n ≤ length (script r) → IsDomainPatch r.plan layout d p →
    (front r layout n d p).is_stopped ≡ false

-- a patch stops at the place of the first overflow exactly where it names a point there, which is
-- one of the domain that computes or receives there
abbrev pub PatchesStopWhereTheyNameAPoint : Type 0
PatchesStopWhereTheyNameAPoint =
    (r : RunData) (layout : Layout) (n d p : ℕ) → IsAccepted r layout → IsUpToOverflow r n →
    n < length (script r) → IsDomainPatch r.plan layout d p →
    (front r layout (suc n) d p).is_stopped
    ≡ ((d == domain_at r n) && is_some (named_at r layout n p))

-- in each state that a list of enabled events leads to, a patch that is stopped names the point of
-- the front: so it names the same in each later state
abbrev pub StoppedPatchesNameTheFrontsPoints : Type 0
StoppedPatchesNameTheFrontsPoints =
    (r : RunData) (layout : Layout) (s : CoreState) (d p : ℕ) (due : Due) → IsReachable r layout s →
    IsDomainPatch r.plan layout d p → (s.patches d p).is_stopped ≡ true →
    due_of r layout s d p ≡ Some due →
    stop_names r layout s due.place d p ≡ front_names r layout
    (front r layout due.place) due.entry d p (front r layout due.place d p).memory due.half

-- and it is of the domain that computes or receives at its place
abbrev pub StoppedPatchesComputeOrReceive : Type 0
StoppedPatchesComputeOrReceive =
    (r : RunData) (layout : Layout) (s : CoreState) (d p : ℕ) (due : Due) → IsReachable r layout s →
    (s.patches d p).is_stopped ≡ true → due_of r layout s d p ≡ Some due →
    d ≡ domain_at r due.place
