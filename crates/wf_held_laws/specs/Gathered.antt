-- What a state has gathered of a frame that is complete, or written.
use Rattle.std.specs.Prelude.{◌≡◌, ℕ, ◌==◌, ◌<◌, List, [], map, ℤ, Option, Some, None, IsTrue}
use Rattle.std.specs.Prelude.{find, count_by, slice_get}
use Rattle.std.specs.List.{list_any}
use Rattle.wf_model.specs.declared.layout.Layout.{Layout}
use Rattle.wf_model.specs.declared.event.Event.{Event}
use Rattle.wf_model.specs.declared.frame.Frame.{Frame}
use Rattle.wf_model.specs.Outcome.{RunData}
use Rattle.wf_model.specs.Frames.{frames_of, frames_written, variables_of, slab_of, Slab}
use Rattle.wf_model.specs.Patches.{split_of}
use Rattle.wf_model.specs.Core.{CoreState, Posted}
use Rattle.wf_model.specs.Replay.{is_piece, is_complete, IsReachable, IsFull}
use Rattle.wf_model.specs.Held.{piece_numbers, slab_numbers}
use Rattle.wf_model.specs.Agreement.{IsAccepted, IsPatch}
use Rattle.wf_held_laws.specs.Slabs.{slab_of_pieces}

-- the numbers of a piece, and none where there is none
abbrev pub numbers_of : Option Posted → List ℤ
numbers_of None = []
numbers_of (Some x) = x.values

-- the numbers of the gathered piece of a frame, a variable and a patch
abbrev pub gathered_piece : CoreState → ℕ → ℕ → ℕ → List ℤ
gathered_piece s n f p = numbers_of (find (is_piece n f p) s.gathered)

-- the slab that is made of the gathered pieces of a frame's variable
abbrev pub gathered_slab : RunData → Layout → CoreState → Frame → ℕ → List ℤ
gathered_slab r layout s frame f =
    slab_of_pieces r.plan (split_of layout) frame.domain f (gathered_piece s frame.number f)

-- the piece of a frame, a variable and a patch is gathered once, with its numbers, and none like it
-- is left
pub record IsGathered (r : RunData) (layout : Layout) (s : CoreState) (n f p : ℕ) : Type 0 where
  pub piece : Posted
  pub found : find (is_piece n f p) s.gathered ≡ Some piece
  pub numbers : piece.values ≡ piece_numbers r layout n f p
  pub once : count_by (is_piece n f p) s.gathered ≡ 1
  pub none_left : count_by (is_piece n f p) s.pieces ≡ 0

-- a level is a variable of the frame
abbrev pub IsVariable : RunData → Frame → ℕ → Type 0
IsVariable r frame f = IsTrue (list_any (λ g. g == f) (variables_of r frame))

-- of a complete frame all pieces are gathered
abbrev pub CompleteFramesHaveTheirPieces : Type 0
CompleteFramesHaveTheirPieces =
    (r : RunData) (layout : Layout) (s : CoreState) (n : ℕ) (frame : Frame) (f p : ℕ) →
    IsAccepted r layout → IsReachable r layout s → slice_get (frames_of r) n ≡ Some frame →
    IsTrue (is_complete r layout s frame) → IsVariable r frame f → IsPatch layout p →
    IsGathered r layout s n f p

-- so their slab is the frame's
abbrev pub CompleteFramesHaveTheirSlabs : Type 0
CompleteFramesHaveTheirSlabs =
    (r : RunData) (layout : Layout) (s : CoreState) (n : ℕ) (frame : Frame) (f : ℕ) →
    IsAccepted r layout → IsReachable r layout s → slice_get (frames_of r) n ≡ Some frame →
    IsTrue (is_complete r layout s frame) → IsVariable r frame f →
    gathered_slab r layout s frame f ≡ slab_numbers r layout n f

-- a frame that is written is complete
abbrev pub FramesWrittenAreComplete : Type 0
FramesWrittenAreComplete =
    (r : RunData) (layout : Layout) (s : CoreState) (n : ℕ) (frame : Frame) →
    IsReachable r layout s → slice_get (frames_of r) n ≡ Some frame → n < s.written →
    IsTrue (is_complete r layout s frame)

-- and its slab is that of the grids
abbrev pub FramesWrittenHaveTheRunsSlabs : Type 0
FramesWrittenHaveTheRunsSlabs =
    (r : RunData) (layout : Layout) (s : CoreState) (n : ℕ) (frame : Frame) (f : ℕ) →
    IsAccepted r layout → IsReachable r layout s → slice_get (frames_of r) n ≡ Some frame →
    n < s.written → IsVariable r frame f →
    gathered_slab r layout s frame f ≡ slab_of r frame f

-- a frame's variables with their numbers
abbrev pub slabs_with : RunData → Frame → (ℕ → List ℤ) → List Slab
slabs_with r frame numbers =
    map (λ f. record { frame = frame.number; field = f; values = numbers f }) (variables_of r frame)

-- so all variables of a frame that is written are the run's
abbrev pub FramesWrittenHaveAllSlabs : Type 0
FramesWrittenHaveAllSlabs =
    (r : RunData) (layout : Layout) (s : CoreState) (n : ℕ) (frame : Frame) →
    IsAccepted r layout → IsReachable r layout s → slice_get (frames_of r) n ≡ Some frame →
    n < s.written →
    slabs_with r frame (gathered_slab r layout s frame) ≡ slabs_with r frame (slab_of r frame)

-- at the end of a full list that is so of each frame that the run writes
abbrev pub FullListsGatherTheRunsSlabs : Type 0
FullListsGatherTheRunsSlabs =
    (r : RunData) (layout : Layout) (es : List Event) (n : ℕ) (frame : Frame) (f : ℕ) →
    IsAccepted r layout → (full : IsFull r layout es) →
    slice_get (frames_written r) n ≡ Some frame → IsVariable r frame f →
    gathered_slab r layout full.0 frame f ≡ slab_of r frame f
