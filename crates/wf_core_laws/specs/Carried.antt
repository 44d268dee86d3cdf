-- What messages and pieces carry: the numbers of the lockstep run.
use Rattle.std.specs.Prelude.{◌≡◌, ℕ, ◌==◌, map, Some, None, slice_get, IsTrue}
use Rattle.std.specs.List.{list_any}
use Rattle.wf_model.specs.declared.layout.Layout.{Layout}
use Rattle.wf_model.specs.declared.frame.Frame.{Frame}
use Rattle.wf_model.specs.declared.script.Entry.{Entry}
use Rattle.wf_model.specs.Outcome.{RunData}
use Rattle.wf_model.specs.Frames.{frames_of, variables_of}
use Rattle.wf_model.specs.Patches.{split_of, own_box, cells_in}
use Rattle.wf_model.specs.Exchange.{Letter, sender_of, carried}
use Rattle.wf_model.specs.Halves.{Due}
use Rattle.wf_model.specs.Core.{CoreState, Posted, letter_of, memory_point}
use Rattle.wf_model.specs.Lockstep.{lockstep_at}
use Rattle.wf_model.specs.Held.{message_numbers, piece_numbers}
use Rattle.wf_model.specs.Agreement.{memory_at}
use Rattle.wf_core_laws.specs.Patches.{IsDomainPatch, IsMessage}

-- a message of the run, with the numbers that its sender has in the lockstep run before its place
pub record IsLockstepLetter (r : RunData) (layout : Layout) (l : Letter) : Type 0 where
  pub e : Entry
  pub message : IsMessage r layout l.place e l.from l.to
  pub numbers : l.values ≡ map (memory_point r.plan (sender_of r.plan e e.act)
      (memory_at r layout l.place (sender_of r.plan e e.act) l.from))
      (carried r.plan (split_of layout) e e.act l.from l.to)

-- a piece of a variable of a frame, with the own numbers that its patch has in the lockstep run
-- before the frame's place
pub record IsLockstepPiece (r : RunData) (layout : Layout) (x : Posted) : Type 0 where
  pub f : Frame
  pub frame : slice_get (frames_of r) x.frame ≡ Some f
  pub variable : IsTrue (list_any (λ v. v == x.field) (variables_of r f))
  pub patch : IsDomainPatch r.plan layout f.domain x.patch
  pub numbers : x.values
      ≡ map (λ c. memory_at r layout f.place f.domain x.patch c.field c.k c.j c.i)
      (cells_in r.plan x.field (own_box r.plan (split_of layout) f.domain x.patch x.field))

-- a letter has its message's numbers: the grids' before the place up to the first overflow, and
-- past it those of the lockstep run
abbrev pub HasMessageNumbers : RunData → Layout → Letter → Type 0
HasMessageNumbers r layout l = l.values ≡ message_numbers r layout l.place l.from l.to

-- and a piece those of its frame, its variable and its patch
abbrev pub HasFrameNumbers : RunData → Layout → Posted → Type 0
HasFrameNumbers r layout x = x.values ≡ piece_numbers r layout x.frame x.field x.patch

-- a message to a patch at a place is lost: it is not in the mail, and in the lockstep run its
-- sender is stopped before that place
pub record IsLostMessage (r : RunData) (layout : Layout) (s : CoreState) (due : Due)
    (p : ℕ) : Type 0 where
  pub from : ℕ
  pub message : IsMessage r layout due.place due.entry from p
  pub missing : letter_of s due.place from p ≡ None
  pub stopped : IsTrue ((lockstep_at r layout due.place).patches
      (sender_of r.plan due.entry (due.entry).act) from).is_stopped
