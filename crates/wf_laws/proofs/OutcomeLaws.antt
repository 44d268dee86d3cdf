-- The outcome item by item, and the frames that a run writes.
use Rattle.std.proofs.Common.{◌≡◌, sym, ap, subst}
use Rattle.std.specs.List.{Contains}
use Rattle.std.specs.Prelude.{List, filter, nat_lt}
use Rattle.wf_model.specs.declared.frame.Frame.{Frame}
use Rattle.wf_model.specs.Frames.{frames_of, frames_written, up_to_overflow}
use Rattle.wf_laws.specs.Outcomes.{OutcomeGoesItemByItem, OutcomeOfItemsAfterOthers, AllFramesAreWritten, FramesAreWrittenBeforeTheOverflow}
use Rattle.wf_laws.proofs.Bools.{less_of, less_test}
use Rattle.wf_laws.proofs.Members.{In-filter, In-filter_out, In-Contains, Contains-In}
use Rattle.wf_laws.proofs.Runs.{outcome_from-next, outcome_from-stop, outcome_from-append, frames_written-Ok}

-- the outcome item by item
pub item_by_item : OutcomeGoesItemByItem
item_by_item r n e es g = (λ h. outcome_from-next r n e es g h, λ p h. outcome_from-stop r n e es g p h)

-- the outcome of items after others
pub after_others : OutcomeOfItemsAfterOthers
after_others r n es fs g h p = outcome_from-append r n es fs g h p

-- all frames of a run without an overflow are written
pub all_written : AllFramesAreWritten
all_written r g p = frames_written-Ok r g p

-- else those before the first overflow
pub written_before : FramesAreWrittenBeforeTheOverflow
written_before r o f p =
    let written : frames_written r ≡ filter (λ (x : Frame). nat_lt x.place o.place) (frames_of r) = ap (λ (q : _). up_to_overflow q (frames_of r)) p in (
      (λ h. let t = In-filter_out (λ (x : Frame). nat_lt x.place o.place) f (frames_of r) (Contains-In f (filter (λ (x : Frame). nat_lt x.place o.place) (frames_of r)) (subst (λ (fs : List Frame). Contains fs f) written h)) in
          (In-Contains f (frames_of r) t.0, less_of f.place o.place t.1)),
      (λ h l. subst (λ (fs : List Frame). Contains fs f) (sym written)
          (In-Contains f (filter (λ (x : Frame). nat_lt x.place o.place) (frames_of r)) (In-filter (λ (x : Frame). nat_lt x.place o.place) f (frames_of r) (Contains-In f (frames_of r) h) (less_test f.place o.place l)))),
    )
