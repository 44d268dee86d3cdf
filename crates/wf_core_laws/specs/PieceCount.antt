-- How many pieces of a frame's variable a patch has posted.
use Rattle.std.specs.Prelude.{◌≡◌, ℕ, ◌+◌, ◌==◌, Bool, nat_lt, count_by, slice_get, Some, IsTrue}
use Rattle.std.specs.Prelude.{if◌then◌else◌}
use Rattle.std.specs.List.{list_any}
use Rattle.wf_model.specs.declared.layout.Layout.{Layout}
use Rattle.wf_model.specs.declared.frame.Frame.{Frame}
use Rattle.wf_model.specs.Outcome.{RunData}
use Rattle.wf_model.specs.Frames.{frames_of, variables_of}
use Rattle.wf_model.specs.Core.{CoreState}
use Rattle.wf_model.specs.Replay.{is_piece, IsReachable}
use Rattle.wf_model.specs.Front.{halves_before}
use Rattle.wf_core_laws.specs.Patches.{IsDomainPatch}

-- a patch has done its half of a frame's emit
abbrev pub has_posted : RunData → CoreState → Frame → ℕ → Bool
has_posted r s f p = nat_lt (halves_before r f.domain f.place) (s.patches f.domain p).done

-- how many pieces of a frame, a variable and a patch there are, posted or gathered
abbrev pub pieces_out : CoreState → ℕ → ℕ → ℕ → ℕ
pieces_out s i v p = count_by (is_piece i v p) s.pieces + count_by (is_piece i v p) s.gathered

-- of each frame, variable and patch one piece is posted or gathered where the patch has come past
-- the emit, and none before
abbrev pub EachPieceIsThereOnce : Type 0
EachPieceIsThereOnce =
    (r : RunData) (layout : Layout) (s : CoreState) (i : ℕ) (f : Frame) (v p : ℕ) →
    IsReachable r layout s → slice_get (frames_of r) i ≡ Some f →
    IsTrue (list_any (λ x. x == v) (variables_of r f)) → IsDomainPatch r.plan layout f.domain p →
    pieces_out s i v p ≡ (if has_posted r s f p then 1 else 0)
