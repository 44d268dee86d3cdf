-- What a patch sends, posts, receives and sets as it goes along the front.
use Rattle.std.proofs.Common.{◌≡◌, inl, inr, ℕ, ◌*◌, ◌==◌, true, map, Some, ap, sym, ◌∙◌, subst, arith}
use Rattle.std.specs.Prelude.{slice_get, zip}
use Rattle.wf_model.specs.declared.layout.Layout.{Layout}
use Rattle.wf_model.specs.declared.frame.Frame.{Frame}
use Rattle.wf_model.specs.declared.script.Entry.{Entry}
use Rattle.wf_model.specs.declared.script.Act.{Act}
use Rattle.wf_model.specs.Outcome.{RunData, script}
use Rattle.wf_model.specs.Frames.{frames_of}
use Rattle.wf_model.specs.Streams.{stream_levels}
use Rattle.wf_model.specs.Patches.{split_of, patches_of, own_box, cells_in}
use Rattle.wf_model.specs.Exchange.{sender_of, carried, senders_to, is_expected}
use Rattle.wf_model.specs.PatchEffect.{Memory, Mail, taking}
use Rattle.wf_model.specs.Halves.{takes, posts, Due, act_halves}
use Rattle.wf_model.specs.Core.{CoreState, due_of, has_mail, mail_at, frame_at, memory_point}
use Rattle.wf_model.specs.Replay.{may_step, may_take, may_stop, is_enabled}
use Rattle.wf_model.specs.Front.{front, half_sets, half_stops}
use Rattle.wf_model.specs.Agreement.{cell_number}
use Rattle.wf_laws.proofs.Bools.{and_left}
use Rattle.wf_core_laws.proofs.Places.{due_here}
use Rattle.wf_core_laws.proofs.HalvesAt.{SendsFirst, sends-first}
use Rattle.wf_core_laws.proofs.PostsAt.{posts-emit, posts-domain, posts-levels}
use Rattle.wf_core_laws.proofs.FrontLaws.{At, due-at}
use Rattle.wf_core_laws.proofs.FrameLaws.{emits, FrameOf, frame_there}
use Rattle.wf_core_laws.proofs.Members.{has-filter, flat_map-same}
use Rattle.wf_core_laws.proofs.PatchForms.{range-has, patch_has}
use Rattle.wf_core_laws.proofs.Sane.{Sane}
use Rattle.wf_core_laws.proofs.Takers.{mail_is}
use Rattle.wf_core_laws.proofs.Kept.{Goes, DueHere, due_here_of, step_goes, take_goes, stop_stops, memory_here, sane}
use Rattle.wf_held_laws.specs.Advances.{FrontReceivesTheMessages, PlacedPatchesSendTheMessages, IsFrameAt, PostsAreOfAFrame, PlacedPatchesPostThePieces, ReceivedMessagesSetAsInTheFront, MailOfStatesIsTheMessages, GoesAsInTheFront, EnabledHalvesGoAsInTheFront, EnabledStopsStopInTheFront}
use Rattle.wf_held_laws.proofs.OwnNumbers.{front_sends_the_messages, front_posts_the_pieces}
use Rattle.wf_held_laws.proofs.Placing.{stand_at}

-- the law on what comes in the front
pub front_receives : FrontReceivesTheMessages
front_receives r layout k e p ok entry =
    flat_map-same _ _ (senders_to r.plan (split_of layout) e p) (λ q is_q.
    let both = sym (has-filter (λ x. is_expected r.plan (split_of layout) e x p) (patches_of (split_of layout)) q) ∙ is_q in
    let range = range-has 0 (layout.nproc_x * layout.nproc_y) q (and_left _ _ both) in
    ap (zip (carried r.plan (split_of layout) e e.act q p)) (front_sends_the_messages r layout k e q p ok entry (omega (arith, range.1))))

-- the law on sending
pub placed_send : PlacedPatchesSendTheMessages
placed_send r layout d p n due m q ok hp is half at =
    let a : At r layout d n due = due-at r layout d n due is in
    let e : Entry = due.entry in
    let first : SendsFirst d (sender_of r.plan e e.act) a.i = sends-first r.plan d e e.act a.i (a.half ∙ ap Some half) in
    let stand = stand_at r layout d p n due m is at in
    ap (λ (y : Memory). map (memory_point r.plan d y) (carried r.plan (split_of layout) e e.act p q)) stand.0
    ∙ ap (λ (y : ℕ). map (memory_point r.plan y (front r layout due.place y p).memory) (carried r.plan (split_of layout) e e.act p q)) first.domain
    ∙ front_sends_the_messages r layout due.place e p q ok a.entry hp

-- the law on the frames of postings
pub posts_frame : PostsAreOfAFrame
posts_frame r layout d n due levels is half =
    let a : At r layout d n due = due-at r layout d n due is in
    let e : Entry = due.entry in
    let here : slice_get (act_halves r.plan d e e.act) a.i ≡ Some (posts levels) = a.half ∙ ap Some half in
    let w = posts-emit r.plan d e e.act a.i levels here in
    let f : FrameOf (frames_of r) (emits (script r) due.place) due.place e.domain w.0 = frame_there r due.place e w.0 a.entry w.1 in
    record {
      frame = f.f;
      is = ap (slice_get (frames_of r)) f.position ∙ f.is;
      place_is = f.place_is;
      domain_is = f.domain_is ∙ sym (posts-domain r.plan d e e.act a.i levels here);
      levels_are = posts-levels (d == e.domain) (stream_levels r.plan w.0) a.i levels (ap (λ (y : Act). slice_get (act_halves r.plan d e y) a.i) (sym w.1) ∙ here)
          ∙ ap (stream_levels r.plan) (sym f.stream_is);
    }

-- the law on posting
pub placed_post : PlacedPatchesPostThePieces
placed_post r layout d p n due m levels f ok hp is half at =
    let w : IsFrameAt r layout due.place d levels = posts_frame r layout d n due levels is half in
    let stand = stand_at r layout d p n due m is at in
    let frame : Frame = w.frame in
    ap (λ (y : Memory). map (cell_number y) (cells_in r.plan f (own_box r.plan (split_of layout) d p f))) stand.0
    ∙ sym (λ i. map (cell_number (front r layout (w.place_is i) (w.domain_is i) p).memory) (cells_in r.plan f (own_box r.plan (split_of layout) (w.domain_is i) p f)))
    ∙ front_posts_the_pieces r layout (frame_at r layout due.place) frame f p ok w.is hp

-- the law on what messages set
pub received_set : ReceivedMessagesSetAsInTheFront
received_set r layout k e p m ok entry = ap (λ (x : Mail). taking r (split_of layout) e e.act p x m) (sym (front_receives r layout k e p ok entry))

-- the law on the mail of states
pub mail_of_states : MailOfStatesIsTheMessages
mail_of_states r layout s d p due ok reach hp is half all =
    let a : At r layout d (s.patches d p).done due = due-at r layout d (s.patches d p).done due is in
    let same : due_here due.place due.entry takes ≡ due = λ n. due_here due.place due.entry (sym half n) in
    let here : due_of r layout s d p ≡ Some (due_here due.place due.entry takes) = is ∙ ap Some (sym same) in
    let there : has_mail r layout s (due_here due.place due.entry takes) p ≡ true = ap (λ (x : Due). has_mail r layout s x p) same ∙ all in
    ap (λ (x : Due). mail_at r layout s x p) (sym same)
    ∙ mail_is r layout s d p due.place due.entry (sane r layout reach.0 s reach.1) here (patch_has layout p hp) there
    ∙ front_receives r layout due.place due.entry p ok a.entry

module _ (r : RunData) (layout : Layout) (s : CoreState) (d p : ℕ) (due : Due) where
  -- by the state's own memory, which is the front's
  by_memory : (s.patches d p).memory ≡ (front r layout due.place d p).memory → Goes r layout s d p due → GoesAsInTheFront r layout s d p due
  by_memory mem t = record {
    goes = ap (λ (m : Memory). half_stops r layout (front r layout due.place) due.entry d p m due.half) mem ∙ t.goes;
    sets = t.set ∙ ap (λ (m : Memory). half_sets r layout (front r layout due.place) due.entry p m due.half) (sym mem);
  }

  -- what is due is the one half that is due
  same_due : (x : Due) → due_of r layout s d p ≡ Some due → due_of r layout s d p ≡ Some x → x ≡ due
  same_due x a b = let e : Some x ≡ Some due = sym b ∙ a in cc (e)

-- the law on halves that may come
pub halves_go : EnabledHalvesGoAsInTheFront
unfolding is_enabled
halves_go r layout s d p due reach is on =
    let ok : Sane r layout s = sane r layout reach.0 s reach.1 in
    let mem = memory_here r layout s d p due ok is in
    elim on [
      | inl step ↦
          let w : DueHere r layout s d p (may_step r layout) = due_here_of r layout (may_step r layout) s d p step in
          let e : w.due ≡ due = same_due r layout s d p due w.due is w.is in
          by_memory r layout s d p due mem (step_goes r layout s d p due.place due.entry due.half mem (subst (λ (x : Due). may_step r layout s d p x x.half ≡ true) e w.passes))
      | inr take ↦
          let w : DueHere r layout s d p (may_take r layout) = due_here_of r layout (may_take r layout) s d p take in
          let e : w.due ≡ due = same_due r layout s d p due w.due is w.is in
          by_memory r layout s d p due mem (take_goes r layout s d p due.place due.entry due.half ok is w.there mem (subst (λ (x : Due). may_take r layout s d p x x.half ≡ true) e w.passes))
    ]

-- the law on stops
pub stops_stop : EnabledStopsStopInTheFront
unfolding is_enabled
stops_stop r layout s d p due reach is on =
    let ok : Sane r layout s = sane r layout reach.0 s reach.1 in
    let mem = memory_here r layout s d p due ok is in
    let w : DueHere r layout s d p (may_stop r layout) = due_here_of r layout (may_stop r layout) s d p on in
    let e : w.due ≡ due = same_due r layout s d p due w.due is w.is in
    ap (λ (m : Memory). half_stops r layout (front r layout due.place) due.entry d p m due.half) mem
    ∙ stop_stops r layout s d p due.place due.entry due.half ok is w.there mem (subst (λ (x : Due). may_stop r layout s d p x x.half ≡ true) e w.passes)
