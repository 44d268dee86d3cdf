-- A state that a run can reach is in canonical form.
use Rattle.std.proofs.Common.{◌≡◌, ℕ, ◌&&◌, true, false, List, All, Option, Some, None, length, refl, ap, subst, arith, ◌*◌, ◌==◌, sym, ◌∙◌}
use Rattle.std.proofs.lemmas.Bool.{eqb-true}
use Rattle.wf_model.specs.declared.layout.Layout.{Layout}
use Rattle.wf_model.specs.declared.script.Entry.{Entry}
use Rattle.wf_model.specs.declared.event.Event.{Event}
use Rattle.wf_model.specs.Outcome.{RunData, script}
use Rattle.wf_model.specs.Exchange.{Letter, sender_of}
use Rattle.wf_model.specs.Halves.{Half, takes, Due}
use Rattle.wf_model.specs.Core.{CoreState, due_of, is_letter, letter_of, is_lost}
use Rattle.wf_model.specs.Replay.{replay}
use Rattle.wf_model.specs.Lockstep.{place_or_end}
use Rattle.wf_laws.proofs.Bools.{and_left, and_right}
use Rattle.wf_core_laws.specs.Patches.{IsCanonical, IsMessage, StopsWithTheFront}
use Rattle.wf_model.specs.Front.{Stand, front}
use Rattle.wf_laws.proofs.Members.{find-Some, All-In}
use Rattle.wf_core_laws.specs.Carried.{IsLostMessage}
use Rattle.wf_core_laws.proofs.Places.{due_here}
use Rattle.wf_core_laws.proofs.PatchForms.{has-range, message_of}
use Rattle.wf_core_laws.proofs.FrontLaws.{At, due-at}
use Rattle.wf_core_laws.proofs.Sane.{Expected, StopsAt, Sane}
use Rattle.wf_core_laws.proofs.Takers.{stopped_next, expects, LostOne, lost_one}
use Rattle.wf_core_laws.proofs.Kept.{sane}
use Rattle.wf_core_laws.proofs.LockstepLaws.{all_done, memory_by, lockstep_front}
use Rattle.wf_core_laws.proofs.Numbers.{LetterAt, carries}
use Rattle.wf_core_laws.proofs.MailExact.{letter_exact}
use Rattle.wf_core_laws.proofs.Progress.{Closed, There}
use Rattle.wf_core_laws.proofs.ScriptLaws.{closed}

module _ (r : RunData) (layout : Layout) where
  -- the front has not stopped a patch before its next place
  going_by : (s : CoreState) (d p : ℕ) (o : Option Due) → Sane r layout s → due_of r layout s d p ≡ o → (front r layout (place_or_end r layout o) d p).is_stopped ≡ false
  going_by s d p None ok is = (ok.placed d p).live (length (script r)) (omega (arith, all_done r layout s d p ok is))
  going_by s d p (Some due) ok is =
      let a : At r layout d (s.patches d p).done due = due-at r layout d (s.patches d p).done due is in
      (ok.placed d p).live due.place (omega (arith, a.is))

  -- a patch that is stopped stops with the front
  stops_with : (s : CoreState) (d p : ℕ) → Sane r layout s → (s.patches d p).is_stopped ≡ true → StopsWithTheFront r layout s d p
  stops_with s d p ok st =
      let stop : StopsAt r layout d p (s.patches d p).done = ok.stopped d p st in
      record { due = stop.due; is = stop.is; front = ap (λ (x : Stand). x.is_stopped) (stopped_next r layout d p (s.patches d p).done (s.patches d p).memory (ok.placed d p) stop) }

  -- a message is expected by its receiver
  pub expected_of : (k : ℕ) (e : Entry) (q p : ℕ) → IsMessage r layout k e q p → Expected r layout k e q p
  expected_of k e q p m = record {
    entry = m.entry;
    cells = m.cells;
    from = has-range 0 (layout.nproc_x * layout.nproc_y) q (omega arith) (omega (arith, m.from));
    to = has-range 0 (layout.nproc_x * layout.nproc_y) p (omega arith) (omega (arith, m.to));
  }

  -- a letter that no message of the run is does not lie in the mail
  none_other : (s : CoreState) (k q p : ℕ) (o : Option Letter) → All (LetterAt r layout) s.mail → letter_of s k q p ≡ o → ((e : Entry) → IsMessage r layout k e q p → ⊥) → o ≡ None
  none_other s k q p None all is no_such = refl
  none_other s k q p (Some l) all is no_such =
      let w = find-Some (is_letter k q p) l s.mail is in
      let a : LetterAt r layout l = All-In (LetterAt r layout) l s.mail all w.0 in
      let rest = and_right (l.place == k) ((l.from == q) && (l.to == p)) w.1 in
      let place : l.place ≡ k = eqb-true l.place k (and_left (l.place == k) _ w.1) in
      let from : l.from ≡ q = eqb-true l.from q (and_left (l.from == q) _ rest) in
      let to : l.to ≡ p = eqb-true l.to p (and_right (l.from == q) _ rest) in
      let m : IsMessage r layout l.place a.e l.from l.to = message_of r layout l.place a.e l.from l.to a.entry a.cells (a.there).patch a.to in
      absurd (no_such a.e (subst (IsMessage r layout k a.e q) to (subst (λ (y : ℕ). IsMessage r layout k a.e y l.to) from (subst (λ (y : ℕ). IsMessage r layout y a.e l.from l.to) place m))))

  -- each state that a run can reach is in canonical form
  pub canonical : (es : List Event) (s : CoreState) → replay r layout es ≡ Some s → IsCanonical r layout s
  canonical es s h =
      let ok : Sane r layout s = sane r layout es s h in
      record {
        done = ok.limit;
        memory = λ d p. memory_by r layout s d p (due_of r layout s d p) ok refl;
        going = λ d p. going_by s d p (due_of r layout s d p) ok refl;
        stopped = λ d p. stops_with s d p ok;
        mail = λ k e q p m. letter_exact r layout es s k e q p h (expected_of k e q p m);
        no_other_mail = λ k q p no_such. none_other s k q p (letter_of s k q p) (carries r layout es s h).letters refl no_such;
      }

  -- a message that is lost: its sender is stopped in the lockstep run
  lost_at : (s : CoreState) (d p k : ℕ) (e : Entry) → Sane r layout s → Closed r → There r layout d p → due_of r layout s d p ≡ Some (due_here k e takes) → is_lost r layout s (due_here k e takes) p ≡ true → IsLostMessage r layout s (due_here k e takes) p
  lost_at s d p k e ok closed at is lost =
      let l : LostOne r layout s d p k e ok is at.patch = lost_one r layout s d p k e ok is at.patch lost in
      let x : Expected r layout k e l.q p = expects r layout s d p k e ok is at.patch l.q l.sender in
      let from : There r layout (sender_of r.plan e e.act) l.q = record { domain = closed.sender k e x.entry; patch = x.from } in
      record {
        from = l.q;
        message = message_of r layout k e l.q p x.entry x.cells x.from x.to;
        missing = l.missing;
        stopped = (lockstep_front r layout k (sender_of r.plan e e.act) l.q closed from).1 ∙ l.stopped;
      }

  -- the same, of a half that receives
  pub lost_message : (s : CoreState) (d p k : ℕ) (e : Entry) (h : Half) → Sane r layout s → Closed r → There r layout d p → due_of r layout s d p ≡ Some (due_here k e h) → h ≡ takes → is_lost r layout s (due_here k e h) p ≡ true → IsLostMessage r layout s (due_here k e h) p
  lost_message s d p k e h ok closed at is w lost =
      subst (λ (y : Half). IsLostMessage r layout s (due_here k e y) p) (sym w)
      (lost_at s d p k e ok closed at (is ∙ ap (λ (y : Half). Some (due_here k e y)) w) (subst (λ (y : Half). is_lost r layout s (due_here k e y) p ≡ true) w lost))
