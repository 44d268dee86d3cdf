-- A patch that is stopped names the point of the front, in each state that a run can reach.
use Rattle.std.proofs.Common.{◌≡◌, inl, inr, ℕ, ◌≤◌, ◌==◌, ◌&&◌, if◌then◌else◌, Bool, true, false, not, List, [], ◌∷◌, ◌++◌, Option, Some, None, refl, ap, sym, ◌∙◌, subst, arith, length, suc, zero, ◌+◌}
use Rattle.std.specs.Prelude.{slice_get, is_some}
use Rattle.std.proofs.lemmas.Bool.{eq-eqb, eqb-true}
use Rattle.std.proofs.lemmas.Option.{get_or_from_slice_get}
use Rattle.wf_model.specs.declared.layout.Layout.{Layout}
use Rattle.wf_model.specs.declared.plan.Plan.{Plan}
use Rattle.wf_model.specs.declared.script.Act.{Act}
use Rattle.wf_model.specs.declared.script.Act.TheVariants.{Start, Force, Feedback, Table, Emit}
use Rattle.wf_model.specs.declared.script.Entry.{Entry}
use Rattle.wf_model.specs.declared.event.Event.{Event}
use Rattle.wf_model.specs.declared.event.Event.TheVariants.{Step, Take, Stop, Gather, Write}
use Rattle.wf_model.specs.Plans.{domain_of, item_of}
use Rattle.wf_model.specs.Streams.{stream_levels}
use Rattle.wf_model.specs.Outcome.{RunData, script, no_entry, entry_at}
use Rattle.wf_model.specs.Patches.{split_of, patches_of}
use Rattle.wf_model.specs.Exchange.{sender_of, receiver_of, senders_to}
use Rattle.wf_model.specs.PatchEffect.{Memory, Setting, computing, least_failure, after_setting}
use Rattle.wf_model.specs.Halves.{Half, acts, sends, takes, posts, Due, act_halves, item_halves, due_after}
use Rattle.wf_model.specs.Core.{CoreState, PatchAt, due_of, has_mail, is_lost, letter_of, setting_at, after_stop, begin_state}
use Rattle.wf_model.specs.Replay.{goes, may_step, may_take, may_stop, patch_may, go, is_enabled, state_after_event, replay}
use Rattle.wf_model.specs.Front.{front, half_stops, lacks_mail, halves_before}
use Rattle.wf_model.specs.LeastStop.{domain_at, half_names, due_names, front_names}
use Rattle.wf_laws.proofs.Bools.{split_bool, and_left}
use Rattle.wf_core_laws.specs.Stops.{StoppedPatchesNameTheFrontsPoints, StoppedPatchesComputeOrReceive}
use Rattle.wf_core_laws.proofs.Options.{none_some}
use Rattle.wf_core_laws.proofs.Members.{Has, Found, or_parts, not_both, all-at, any-found}
use Rattle.wf_core_laws.proofs.Places.{lt_or_le, due_here}
use Rattle.wf_core_laws.proofs.HalvesAt.{TakesLast, takes-last}
use Rattle.wf_core_laws.proofs.FrontLaws.{At, due-at}
use Rattle.wf_core_laws.proofs.Sane.{StopsAt, Sane}
use Rattle.wf_core_laws.proofs.Takers.{expects, mail_is, lacks_some}
use Rattle.wf_core_laws.proofs.Replays.{reached}
use Rattle.wf_core_laws.proofs.Kept.{DueHere, due_here_of, kept, sane_begin, sane, takes_set, memory_here}
use Rattle.wf_core_laws.proofs.PatchForms.{there_of}
use Rattle.wf_core_laws.proofs.Turns.{one-patch, may_live}
use Rattle.wf_core_laws.specs.Patches.{IsOfOthers}
use Rattle.wf_core_laws.proofs.Persists.{Follows, follows, still_sent}
use Rattle.std.proofs.lemmas.Bool.Decides.{eqb_tells}

-- an acting half is of an item of the table, of its own domain
both_acts : (a b : Bool) (i : ℕ) → slice_get ((if a then (sends ∷ []) else []) ++ (if b then (takes ∷ []) else [])) i ≡ Some acts → ⊥
both_acts true true zero e = cc (e)
both_acts true true (suc zero) e = cc (e)
both_acts true true (suc (suc i)) e = cc (e)
both_acts true false zero e = cc (e)
both_acts true false (suc i) e = cc (e)
both_acts false true zero e = cc (e)
both_acts false true (suc i) e = cc (e)
both_acts false false i e = cc (e)

-- where a half stands its domain is the one that it is of
half_if : (b : Bool) (hs : List Half) (i : ℕ) (h : Half) → slice_get (if b then hs else []) i ≡ Some h → b ≡ true
half_if true hs i h e = refl
half_if false hs i h e = absurd (cc (e))

-- an acting half stands at the domain that computes
acts_domain : (plan : Plan) (d : ℕ) (e : Entry) (act : Act) (i : ℕ) → slice_get (act_halves plan d e act) i ≡ Some acts → d ≡ receiver_of plan e act
acts_domain plan d e Start i h = absurd (both_acts (d == (domain_of plan e.domain).parent) (d == e.domain) i h)
acts_domain plan d e Force i h = absurd (both_acts (d == (domain_of plan e.domain).parent) (d == e.domain) i h)
acts_domain plan d e Feedback i h = absurd (both_acts (d == e.domain) (d == (domain_of plan e.domain).parent) i h)
acts_domain plan d e (Table n) i h = eqb-true d e.domain (half_if (d == e.domain) (item_halves (item_of plan n)) i acts h)
acts_domain plan d e (Emit s) i h = eqb-true d e.domain (half_if (d == e.domain) (posts (stream_levels plan s) ∷ []) i acts h)

module _ (r : RunData) (layout : Layout) where
  -- a patch that stops is of the domain that computes or receives
  stop_domain : (d p k i : ℕ) (e : Entry) (m : Memory) (h : Half) → slice_get (act_halves r.plan d e e.act) i ≡ Some h → half_stops r layout (front r layout k) e d p m h ≡ true → d ≡ receiver_of r.plan e e.act
  stop_domain d p k i e m acts at stops = acts_domain r.plan d e e.act i at
  stop_domain d p k i e m sends at stops = absurd (cc (stops))
  stop_domain d p k i e m takes at stops = let t : TakesLast d (receiver_of r.plan e e.act) i (length (act_halves r.plan d e e.act)) = takes-last r.plan d e e.act i at in t.domain
  stop_domain d p k i e m (posts levels) at stops = absurd (cc (stops))

  -- a patch that stopped at a receiving half with no mail lacking in the front has all its mail
  pub record Complete (s : CoreState) : Type 0 where
    pub has : (d p k : ℕ) (e : Entry) → (s.patches d p).is_stopped ≡ true → due_of r layout s d p ≡ Some (due_here k e takes) → Has (patches_of (split_of layout)) p → lacks_mail r layout (front r layout k) e p ≡ false → has_mail r layout s (due_here k e takes) p ≡ true

  -- no event of a patch that is stopped is enabled
  no_own : (s : CoreState) (test : CoreState → ℕ → ℕ → Due → Half → Bool) (a b d p : ℕ) → patch_may r layout test s a b ≡ true → (s.patches d p).is_stopped ≡ true → a ≡ d → b ≡ p → ⊥
  no_own s test a b d p on st same_d same_p =
      not_both _ st (subst (λ (y : ℕ). (s.patches d y).is_stopped ≡ false) same_p (subst (λ (y : ℕ). (s.patches y b).is_stopped ≡ false) same_d (may_live r layout test s a b on)))

  -- so each event that is enabled is of no concern to it
  others : (s : CoreState) (x : Event) (d p : ℕ) → is_enabled r layout s x ≡ true → (s.patches d p).is_stopped ≡ true → IsOfOthers d p x
  unfolding is_enabled
  others s (Step a b) d p on st = no_own s (may_step r layout) a b d p on st
  others s (Take a b) d p on st = no_own s (may_take r layout) a b d p on st
  others s (Stop a b) d p on st = no_own s (may_stop r layout) a b d p on st
  others s (Gather group server frame f q) d p on st = tt
  others s (Write n) d p on st = tt

  -- who is stopped after a half was stopped before it
  live_go : (s : CoreState) (test : CoreState → ℕ → ℕ → Due → Half → Bool) (a b d p : ℕ) → patch_may r layout test s a b ≡ true → (s.patches d p).is_stopped ≡ false → ((go r layout s a b (due_of r layout s a b)).patches d p).is_stopped ≡ false
  live_go s test a b d p on live =
      let w : DueHere r layout s a b test = due_here_of r layout test s a b on in
      subst (λ (o : Option Due). ((go r layout s a b o).patches d p).is_stopped ≡ false) (sym w.is)
      (one-patch (λ (x : PatchAt). x.is_stopped ≡ false) s a b (record { done = (s.patches a b).done + 1; memory = after_setting (setting_at r layout s a b w.due) (s.patches a b).memory; is_stopped = false }) d p (λ u v. refl) live)

  -- a patch that stops for want of mail lacks it in the front
  stop_full : (s : CoreState) (d p k : ℕ) (e : Entry) → Sane r layout s → patch_may r layout (may_stop r layout) s d p ≡ true → due_of r layout s d p ≡ Some (due_here k e takes) → Has (patches_of (split_of layout)) p
      → lacks_mail r layout (front r layout k) e p ≡ false → has_mail r layout s (due_here k e takes) p ≡ true
  stop_full s d p k e ok on is there full =
      let w : DueHere r layout s d p (may_stop r layout) = due_here_of r layout (may_stop r layout) s d p on in
      let both : Some (w.due) ≡ Some (due_here k e takes) = sym w.is ∙ is in
      let same : w.due ≡ due_here k e takes = cc (both) in
      let passes : may_stop r layout s d p (due_here k e takes) takes ≡ true = subst (λ (y : Due). may_stop r layout s d p y y.half ≡ true) same w.passes in
      elim (or_parts (has_mail r layout s (due_here k e takes) p && not (goes r layout s d p (due_here k e takes))) (is_lost r layout s (due_here k e takes) p) passes) [
        | inl all ↦ and_left (has_mail r layout s (due_here k e takes) p) _ all
        | inr lost ↦ absurd (not_both _ (lacks_some r layout s d p k e ok is there lost) full)
      ]

  -- who was stopped keeps its mail
  complete_on : (s : CoreState) (x : Event) (d p k : ℕ) (e : Entry) → Sane r layout s → Complete s → is_enabled r layout s x ≡ true → (s.patches d p).is_stopped ≡ true
      → due_of r layout (state_after_event r layout s x) d p ≡ Some (due_here k e takes) → Has (patches_of (split_of layout)) p → lacks_mail r layout (front r layout k) e p ≡ false → has_mail r layout (state_after_event r layout s x) (due_here k e takes) p ≡ true
  complete_on s x d p k e ok old on st is there full =
      let t = state_after_event r layout s x in
      let f : Follows s t d p = follows r layout s x d p on (others s x d p on st) in
      let was : due_of r layout s d p ≡ Some (due_here k e takes) = ap (λ (y : PatchAt). due_after r d y.done) (sym f.same) ∙ is in
      still_sent r layout s t d p ok (kept r layout s x ok on) f k e was there (old.has d p k e st was there full)

  -- and who stops now has it
  complete_stop : (s : CoreState) (a b d p k : ℕ) (e : Entry) → Sane r layout s → patch_may r layout (may_stop r layout) s a b ≡ true → (s.patches d p).is_stopped ≡ false → ((after_stop s a b).patches d p).is_stopped ≡ true
      → due_of r layout (after_stop s a b) d p ≡ Some (due_here k e takes) → Has (patches_of (split_of layout)) p → lacks_mail r layout (front r layout k) e p ≡ false → has_mail r layout s (due_here k e takes) p ≡ true
  complete_stop s a b d p k e ok on live st is there full =
      let new : PatchAt = record { done = (s.patches a b).done; memory = (s.patches a b).memory; is_stopped = true } in
      elim (eqb_tells d a) [
        | inr w ↦ absurd (not_both _ st (one-patch (λ (x : PatchAt). x.is_stopped ≡ false) s a b new d p (λ u v. absurd (w.1 u)) live))
        | inl w ↦ elim (eqb_tells p b) [
          | inr v ↦ absurd (not_both _ st (one-patch (λ (x : PatchAt). x.is_stopped ≡ false) s a b new d p (λ u z. absurd (v.1 z)) live))
          | inl v ↦
              let done : ((after_stop s a b).patches d p).done ≡ (s.patches d p).done = one-patch (λ (x : PatchAt). x.done ≡ (s.patches d p).done) s a b new d p (λ u z. ap (λ (y : ℕ). (s.patches a y).done) (sym z) ∙ ap (λ (y : ℕ). (s.patches y p).done) (sym u)) refl in
              let may_it : patch_may r layout (may_stop r layout) s d p ≡ true = subst (λ (y : ℕ). patch_may r layout (may_stop r layout) s d y ≡ true) (sym v.1) (subst (λ (y : ℕ). patch_may r layout (may_stop r layout) s y b ≡ true) (sym w.1) on) in
              stop_full s d p k e ok may_it (ap (due_after r d) (sym done) ∙ is) there full
        ]
      ]

  -- each event keeps it
  complete_kept : (s : CoreState) (x : Event) → Sane r layout s → Complete s → is_enabled r layout s x ≡ true → Complete (state_after_event r layout s x)
  unfolding is_enabled state_after_event
  complete_kept s (Step a b) ok old on = record { has = λ d p k e st is there full. elim (split_bool (s.patches d p).is_stopped) [ inl was ↦ complete_on s (Step a b) d p k e ok old on was is there full | inr live ↦ absurd (not_both _ st (live_go s (may_step r layout) a b d p on live)) ] }
  complete_kept s (Take a b) ok old on = record { has = λ d p k e st is there full. elim (split_bool (s.patches d p).is_stopped) [ inl was ↦ complete_on s (Take a b) d p k e ok old on was is there full | inr live ↦ absurd (not_both _ st (live_go s (may_take r layout) a b d p on live)) ] }
  complete_kept s (Stop a b) ok old on = record { has = λ d p k e st is there full. elim (split_bool (s.patches d p).is_stopped) [ inl was ↦ complete_on s (Stop a b) d p k e ok old on was is there full | inr live ↦ complete_stop s a b d p k e ok on live st is there full ] }
  complete_kept s (Gather group server frame f q) ok old on = record { has = old.has }
  complete_kept s (Write n) ok old on = record { has = old.has }

  -- at the begin nobody is stopped
  complete_begin : Complete (begin_state r layout)
  unfolding begin_state
  complete_begin = record { has = λ d p k e st is there full. absurd (cc (st)) }

  -- it holds of each state that a run can reach
  pub complete : (es : List Event) (s : CoreState) → replay r layout es ≡ Some s → Complete s
  complete es s h = (reached r layout (λ (t : CoreState). Sane r layout t × Complete t) (λ t e both on. (kept r layout t e both.0 on, complete_kept t e both.0 both.1 on)) (sane_begin r layout, complete_begin) es s h).1

  -- where mail lacks in the front it is not all there
  lacking : (s : CoreState) (d p k : ℕ) (e : Entry) → Sane r layout s → due_of r layout s d p ≡ Some (due_here k e takes) → Has (patches_of (split_of layout)) p → lacks_mail r layout (front r layout k) e p ≡ true → has_mail r layout s (due_here k e takes) p ≡ false
  lacking s d p k e ok is there lacks =
      let sd = sender_of r.plan e e.act in
      let g : Found (λ q. (front r layout k sd q).is_stopped) (senders_to r.plan (split_of layout) e p) = any-found (λ q. (front r layout k sd q).is_stopped) (senders_to r.plan (split_of layout) e p) lacks in
      let late : (s.patches sd g.q).done ≤ halves_before r sd k = elim (lt_or_le (halves_before r sd k) (s.patches sd g.q).done) [
        | inr w ↦ w
        | inl w ↦ absurd (not_both _ g.passes ((ok.placed sd g.q).live k (omega (arith, w))))
      ] in
      let none : is_some (letter_of s k g.q p) ≡ false = none_some (letter_of s k g.q p) (ok.unsent k e g.q p (expects r layout s d p k e ok is there g.q g.is) late) in
      elim (split_bool (has_mail r layout s (due_here k e takes) p)) [
        | inr off ↦ off
        | inl all ↦ absurd (not_both _ (all-at (λ q. is_some (letter_of s k q p)) (senders_to r.plan (split_of layout) e p) g.q all g.is) none)
      ]

  -- so it names what the front says
  pub names_front : (s : CoreState) (d p k : ℕ) (e : Entry) (h : Half) → Sane r layout s → Complete s → Has (patches_of (split_of layout)) p → (s.patches d p).is_stopped ≡ true → due_of r layout s d p ≡ Some (due_here k e h) →
      half_names r layout s d p (due_here k e h) h ≡ front_names r layout (front r layout k) e d p (front r layout k d p).memory h
  names_front s d p k e acts ok held there st is = ap (λ (m : Memory). least_failure r.plan (split_of layout) d p (computing r (split_of layout) e e.act p m)) (memory_here r layout s d p (due_here k e acts) ok is)
  names_front s d p k e sends ok held there st is = refl
  names_front s d p k e takes ok held there st is =
      elim (split_bool (lacks_mail r layout (front r layout k) e p)) [
        | inl lacks ↦ rw (lacking s d p k e ok is there lacks, lacks) refl
        | inr full ↦
            let all = held.has d p k e st is there full in
            let set = takes_set r layout s d p k e (memory_here r layout s d p (due_here k e takes) ok is) (mail_is r layout s d p k e ok is there all) in
            rw (all, full) (ap (λ (c : Setting). least_failure r.plan (split_of layout) d p c) set)
      ]
  names_front s d p k e (posts levels) ok held there st is = refl

-- the law on the points that stops name
pub stopped_patches_name_the_fronts_points : StoppedPatchesNameTheFrontsPoints
stopped_patches_name_the_fronts_points r layout s d p due h at st is =
    ap (λ b. if b then due_names r layout s due.place d p (due_of r layout s d p) else None) st
    ∙ ap (due_names r layout s due.place d p) is
    ∙ ap (λ b. if b then half_names r layout s d p due due.half else None) (eq-eqb due.place due.place refl)
    ∙ names_front r layout s d p due.place due.entry due.half (sane r layout h.0 s h.1) (complete r layout h.0 s h.1) (there_of r layout d p at).patch st is

-- the law on the domain of a stop
pub stopped_patches_compute_or_receive : StoppedPatchesComputeOrReceive
unfolding entry_at
stopped_patches_compute_or_receive r layout s d p due h st is =
    let ok : Sane r layout s = sane r layout h.0 s h.1 in
    let stop : StopsAt r layout d p (s.patches d p).done = ok.stopped d p st in
    let a : At r layout d (s.patches d p).done stop.due = due-at r layout d (s.patches d p).done stop.due stop.is in
    let both : Some (stop.due) ≡ Some due = sym stop.is ∙ is in
    let same : stop.due ≡ due = cc (both) in
    let here : d ≡ receiver_of r.plan (stop.due).entry ((stop.due).entry).act = stop_domain r layout d p (stop.due).place a.i (stop.due).entry (front r layout (stop.due).place d p).memory (stop.due).half a.half stop.stops in
    here ∙ ap (λ (y : Entry). receiver_of r.plan y y.act) (sym (get_or_from_slice_get (script r) (stop.due).place (stop.due).entry no_entry a.entry))
    ∙ ap (λ (y : Due). domain_at r y.place) same
