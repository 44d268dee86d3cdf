-- Own and fresh cells hold their numbers, in the lockstep run, in each state and in the front.
use Rattle.std.proofs.Common.{◌≡◌, ℕ, ◌≤◌, List, map, Option, Some, None, refl, ap, sym, ◌∙◌, subst, arith, length}
use Rattle.std.specs.Prelude.{slice_get}
use Rattle.std.proofs.lemmas.Option.{slice_get_within}
use Rattle.wf_model.specs.declared.layout.Layout.{Layout}
use Rattle.wf_model.specs.declared.frame.Frame.{Frame}
use Rattle.wf_model.specs.Plans.{domains_of}
use Rattle.wf_model.specs.Outcome.{RunData, script}
use Rattle.wf_model.specs.Frames.{frames_of}
use Rattle.wf_model.specs.Patches.{split_of, Cell, own_box, cells_in}
use Rattle.wf_model.specs.Exchange.{sender_of, carried}
use Rattle.wf_model.specs.Halves.{Due, due_after}
use Rattle.wf_model.specs.PatchEffect.{Memory}
use Rattle.wf_model.specs.Core.{memory_point}
use Rattle.wf_model.specs.Lockstep.{place_or_end, place_after, memory_after}
use Rattle.wf_model.specs.Sound.{IsDomain}
use Rattle.wf_model.specs.Agreement.{IsAccepted, cell_number}
use Rattle.wf_laws.proofs.PatchLaws.{own_hold, fresh_hold}
use Rattle.wf_core_laws.specs.Patches.{IsDomainPatch}
use Rattle.wf_core_laws.specs.Ends.{FollowsLockstep}
use Rattle.wf_core_laws.proofs.FrameLaws.{FrameAt, frame_here}
use Rattle.wf_core_laws.proofs.FrontLaws.{At, due-at}
use Rattle.wf_core_laws.proofs.HeldNumbers.{own_number, frame_numbers, sent_are}
use Rattle.wf_core_laws.proofs.Members.{Has}
use Rattle.wf_core_laws.proofs.PatchForms.{range-has, patch_has, there_of}
use Rattle.wf_core_laws.proofs.Progress.{There, Closed}
use Rattle.wf_core_laws.proofs.ScriptLaws.{closed}
use Rattle.wf_core_laws.proofs.LockstepLaws.{lockstep_front}
use Rattle.wf_core_laws.proofs.Interleavings.{patches_follow_the_lockstep_run}
use Rattle.wf_held_laws.specs.Numbers.{OwnCellsHoldTheNumbers, next_place, StatesHoldTheNumbers, StatesHoldTheGrids, StatesHoldTheFreshNumbers, FrontSendsTheMessages, FrontPostsThePieces}

-- the law on own cells of the lockstep run
pub own_cells_hold_the_numbers : OwnCellsHoldTheNumbers
own_cells_hold_the_numbers r layout n d p c ok within at own = own_number r layout ok n d p at within c own

module _ (r : RunData) (layout : Layout) where
  -- a place or the end lies within the script
  end_within : (d n : ℕ) (o : Option Due) → due_after r d n ≡ o → place_or_end r layout o ≤ length (script r)
  end_within d n None e = omega arith
  end_within d n (Some due) e =
      let a : At r layout d n due = due-at r layout d n due e in
      omega (arith, slice_get_within (script r) due.place due.entry a.entry)

  -- so does a patch's next place
  place_within : (d n : ℕ) → place_after r layout d n ≤ length (script r)
  place_within d n = end_within d n (due_after r d n) refl

  -- a frame is of a domain of the plan
  pub frame_domain : (n : ℕ) (f : Frame) → IsAccepted r layout → slice_get (frames_of r) n ≡ Some f → IsDomain r.plan f.domain
  frame_domain n f ok h =
      let fa : FrameAt (script r) 0 0 n f = frame_here r n f h in
      let c : Closed r = closed r (ok.sound).some in
      let has : Has (domains_of r.plan) (sender_of r.plan fa.e (fa.e).act) = c.sender fa.k fa.e fa.entry in
      let same : sender_of r.plan fa.e (fa.e).act ≡ f.domain = ap (sender_of r.plan fa.e) fa.act ∙ sym fa.domain in
      let in_plan : Has (domains_of r.plan) f.domain = subst (Has (domains_of r.plan)) same has in
      let range = range-has 1 (length (r.plan).domains) f.domain in_plan in
      (range.0, omega (arith, range.1))

-- the law on states
pub states_hold_the_numbers : StatesHoldTheNumbers
unfolding memory_after
states_hold_the_numbers r layout s d p c ok h at own =
    let f : FollowsLockstep r layout s d p = patches_follow_the_lockstep_run r layout s d p (ok.sound).some h at in
    ap (λ (m : Memory). cell_number m c) f.memory
    ∙ own_number r layout ok (next_place r layout s d p) d p at (place_within r layout d (s.patches d p).done) c own

-- the law on states and grids
pub states_hold_the_grids : StatesHoldTheGrids
unfolding memory_after
states_hold_the_grids r layout s d p c ok h up at own =
    let f : FollowsLockstep r layout s d p = patches_follow_the_lockstep_run r layout s d p (ok.sound).some h at in
    ap (λ (m : Memory). cell_number m c) f.memory
    ∙ own_hold r layout (next_place r layout s d p) d p c ok up at.domain at.patch own

-- the law on states and fresh cells
pub states_hold_the_fresh_numbers : StatesHoldTheFreshNumbers
unfolding memory_after
states_hold_the_fresh_numbers r layout s d p c ok h up at within fresh =
    let f : FollowsLockstep r layout s d p = patches_follow_the_lockstep_run r layout s d p (ok.sound).some h at in
    ap (λ (m : Memory). cell_number m c) f.memory
    ∙ fresh_hold r layout (next_place r layout s d p) d p c ok up at.domain at.patch within fresh

-- the law on the front's messages
pub front_sends_the_messages : FrontSendsTheMessages
front_sends_the_messages r layout k e q p ok entry hq =
    let d : ℕ = sender_of r.plan e e.act in
    let c : Closed r = closed r (ok.sound).some in
    let there : There r layout d q = record { domain = c.sender k e entry; patch = patch_has layout q hq } in
    ap (λ (m : Memory). map (memory_point r.plan d m) (carried r.plan (split_of layout) e e.act q p)) (sym (lockstep_front r layout k d q c there).0)
    ∙ sent_are r layout ok k e q p entry hq

-- the law on the front's pieces
pub front_posts_the_pieces : FrontPostsThePieces
front_posts_the_pieces r layout n frame f p ok is hp =
    let d : ℕ = frame.domain in
    let at : IsDomainPatch r.plan layout d p = record { domain = frame_domain r layout n frame ok is; patch = hp } in
    let cells : List Cell = cells_in r.plan f (own_box r.plan (split_of layout) d p f) in
    ap (λ (m : Memory). map (cell_number m) cells) (sym (lockstep_front r layout frame.place d p (closed r (ok.sound).some) (there_of r layout d p at)).0)
    ∙ frame_numbers r layout ok n frame p f is at
