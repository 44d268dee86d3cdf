-- The patches and messages of a run, and what is told of a state by how far each patch has come.
use Rattle.std.specs.Prelude.{◌≡◌, ℕ, suc, ◌≤◌, ◌&&◌, nat_lt, Bool, true, false, length, Some, None}
use Rattle.std.specs.Prelude.{slice_get, if◌then◌else◌, IsTrue}
use Rattle.wf_model.specs.declared.plan.Plan.{Plan}
use Rattle.wf_model.specs.declared.layout.Layout.{Layout}
use Rattle.wf_model.specs.declared.script.Entry.{Entry}
use Rattle.wf_model.specs.declared.event.Event.{Event}
use Rattle.wf_model.specs.declared.event.Event.TheVariants.{Step, Take, Stop, Gather, Write}
use Rattle.wf_model.specs.Outcome.{RunData, script}
use Rattle.wf_model.specs.Patches.{split_of}
use Rattle.wf_model.specs.Exchange.{sender_of, receiver_of, is_expected}
use Rattle.wf_model.specs.Halves.{Due}
use Rattle.wf_model.specs.Core.{CoreState, due_of, letter_of}
use Rattle.wf_model.specs.Front.{front, halves_before, letter_at}
use Rattle.wf_model.specs.Lockstep.{place_after}
use Rattle.wf_model.specs.Sound.{IsDomain}
use Rattle.wf_model.specs.Agreement.{IsPatch}

-- a patch of the layout, in a domain of the plan
pub record IsDomainPatch (plan : Plan) (layout : Layout) (d p : ℕ) : Type 0 where
  pub domain : IsDomain plan d
  pub patch : IsPatch layout p

-- a message of the entry at a place, from a patch q to a patch p: it has cells to carry
pub record IsMessage (r : RunData) (layout : Layout) (k : ℕ) (e : Entry) (q p : ℕ) : Type 0 where
  pub entry : slice_get (script r) k ≡ Some e
  pub cells : IsTrue (is_expected r.plan (split_of layout) e q p)
  pub from : IsPatch layout q
  pub to : IsPatch layout p

-- its sender has sent it, and its receiver has not taken it
abbrev pub is_on_its_way : RunData → CoreState → ℕ → Entry → ℕ → ℕ → Bool
is_on_its_way r s k e q p =
    nat_lt (halves_before r (sender_of r.plan e e.act) k)
    (s.patches (sender_of r.plan e e.act) q).done
    && nat_lt (s.patches (receiver_of r.plan e e.act) p).done
    (halves_before r (receiver_of r.plan e e.act) (suc k))

-- a patch that is stopped stands at a half of a place, and the front stops it at that place
pub record StopsWithTheFront (r : RunData) (layout : Layout) (s : CoreState)
    (d p : ℕ) : Type 0 where
  pub due : Due
  pub is : due_of r layout s d p ≡ Some due
  pub front : (front r layout (suc due.place) d p).is_stopped ≡ true

-- a state in canonical form: how many halves each patch has done and which are stopped tells all
-- memories and all mail
pub record IsCanonical (r : RunData) (layout : Layout) (s : CoreState) : Type 0 where
  -- no patch has done more halves than the script has for its domain
  pub done : (d p : ℕ) → (s.patches d p).done ≤ halves_before r d (length (script r))
  -- its memory is the front's before its next place, and there the front has not stopped it
  pub memory : (d p : ℕ) → (s.patches d p).memory
      ≡ (front r layout (place_after r layout d (s.patches d p).done) d p).memory
  pub going : (d p : ℕ) →
      (front r layout (place_after r layout d (s.patches d p).done) d p).is_stopped ≡ false
  pub stopped : (d p : ℕ) → (s.patches d p).is_stopped ≡ true → StopsWithTheFront r layout s d p
  -- a message lies in the mail exactly where it is on its way, with the numbers of the front; and
  -- no other letter does
  pub mail : (k : ℕ) (e : Entry) (q p : ℕ) → IsMessage r layout k e q p →
      letter_of s k q p ≡ (if is_on_its_way r s k e q p
      then Some (letter_at r layout (front r layout k) k e q p) else None)
  pub no_other_mail : (k q p : ℕ) → ((e : Entry) → IsMessage r layout k e q p → ⊥) →
      letter_of s k q p ≡ None

-- an event of another patch than this one, or of no patch
abbrev pub IsOfOthers : ℕ → ℕ → Event → Type 0
IsOfOthers d p (Step a b) = a ≡ d → b ≡ p → ⊥
IsOfOthers d p (Take a b) = a ≡ d → b ≡ p → ⊥
IsOfOthers d p (Stop a b) = a ≡ d → b ≡ p → ⊥
IsOfOthers d p (Gather group server frame f q) = Unit {0}
IsOfOthers d p (Write frame) = Unit {0}
