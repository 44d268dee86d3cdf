-- A patch that does its halves in order goes along the front.
use Rattle.std.proofs.Common.{◌≡◌, inl, ◌+◌, false, length, ap, sym, ◌∙◌, subst, arith}
use Rattle.wf_model.specs.Outcome.{script}
use Rattle.wf_model.specs.PatchEffect.{Memory, after_setting}
use Rattle.wf_model.specs.Core.{begin_state}
use Rattle.wf_model.specs.Front.{Stand, front, half_sets, half_stops}
use Rattle.wf_model.specs.Placed.{IsPlaced}
use Rattle.wf_core_laws.proofs.FrontLaws.{At, due-at}
use Rattle.wf_core_laws.proofs.Moves.{memory_at_due, placed_on}
use Rattle.wf_core_laws.proofs.Sane.{Sane, StopsAt}
use Rattle.wf_core_laws.proofs.Takers.{stopped_next}
use Rattle.wf_core_laws.proofs.Kept.{sane, sane_begin}
use Rattle.wf_held_laws.specs.Moves.{PatchesBeginAtTheFront, PatchesStandAtTheFront, PatchesMoveWithTheFront, PatchesStopWithTheFront, PatchesEndAtTheFront, PatchesOfStatesArePlaced}

-- the law on the begin
pub begin_at : PatchesBeginAtTheFront
unfolding begin_state
begin_at r layout d p = (sane_begin r layout).placed d p

-- the law on a patch before its half
pub stand_at : PatchesStandAtTheFront
stand_at r layout d p n due m is at =
    let same : m ≡ (front r layout due.place d p).memory = memory_at_due r layout d p n due m is at in
    let a : At r layout d n due = due-at r layout d n due is in
    (same, at.live due.place (omega (arith, a.is)))

-- the law on a half that goes through
pub move_with : PatchesMoveWithTheFront
move_with r layout d p n due m is at goes =
    let same : m ≡ (front r layout due.place d p).memory = memory_at_due r layout d p n due m is at in
    let on : half_stops r layout (front r layout due.place) due.entry d p (front r layout due.place d p).memory due.half ≡ false =
    ap (λ (x : Memory). half_stops r layout (front r layout due.place) due.entry d p x due.half) (sym same) ∙ goes in
    subst (λ (x : Memory). IsPlaced r layout d p (n + 1) (after_setting (half_sets r layout (front r layout due.place) due.entry p x due.half) m)) (sym same)
    (placed_on r layout d p n due m is at on)

-- the law on a half that stops
pub stop_with : PatchesStopWithTheFront
stop_with r layout d p n due m is at stops =
    let same : m ≡ (front r layout due.place d p).memory = memory_at_due r layout d p n due m is at in
    let stop : StopsAt r layout d p n = record {
      due = due;
      is = is;
      stops = ap (λ (x : Memory). half_stops r layout (front r layout due.place) due.entry d p x due.half) (sym same) ∙ stops;
    } in
    ap (λ (x : Stand). x.is_stopped) (stopped_next r layout d p n m at stop)

-- the law on the end
pub end_at : PatchesEndAtTheFront
end_at r layout d p n m all at = (at.memory (length (script r)) (omega (arith, all)) (inl all), at.live (length (script r)) (omega (arith, all)))

-- the law on states
pub states_placed : PatchesOfStatesArePlaced
states_placed r layout s d p h =
    let ok : Sane r layout s = sane r layout h.0 s h.1 in
    ok.placed d p
