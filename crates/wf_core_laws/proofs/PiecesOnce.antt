-- Each piece is there once: posted or gathered where its patch has come past the emit.
use Rattle.std.proofs.Common.{◌≡◌, inl, inr, ℕ, suc, ◌+◌, ◌==◌, ◌&&◌, nat_lt, Bool, true, false, List, length, Option, Some, refl, ap, sym, ◌∙◌, subst, arith}
use Rattle.std.specs.Prelude.{slice_get, filter, count_by}
use Rattle.std.proofs.lemmas.Bool.{lt-ltb, le-ltb, eq-eqb}
use Rattle.std.proofs.lemmas.Bool.Decides.{eqb_tells}
use Rattle.wf_model.specs.declared.layout.Layout.{Layout}
use Rattle.wf_model.specs.declared.frame.Frame.{Frame}
use Rattle.wf_model.specs.declared.script.Entry.{Entry}
use Rattle.wf_model.specs.declared.event.Event.{Event}
use Rattle.wf_model.specs.declared.event.Event.TheVariants.{Step, Take, Stop, Gather, Write}
use Rattle.wf_model.specs.Outcome.{RunData, script}
use Rattle.wf_model.specs.Frames.{frames_of, variables_of}
use Rattle.wf_model.specs.Streams.{stream_levels, is_in_stream}
use Rattle.wf_model.specs.PatchEffect.{after_setting}
use Rattle.wf_model.specs.Halves.{Half, acts, sends, takes, posts, Due}
use Rattle.wf_model.specs.Core.{CoreState, PatchAt, frame_at, due_of, setting_at, piece_of, new_pieces, after_half, after_stop, begin_state}
use Rattle.wf_model.specs.Replay.{is_piece, may_step, may_take, go, is_enabled, state_after_event, replay}
use Rattle.wf_model.specs.Front.{halves_before}
use Rattle.wf_core_laws.proofs.PostsAt.{posts-emit, posts-domain}
use Rattle.wf_core_laws.specs.PieceCount.{has_posted, pieces_out, EachPieceIsThereOnce}
use Rattle.wf_core_laws.proofs.Replays.{reached}
use Rattle.wf_core_laws.proofs.Places.{due_here, lt_or_le}
use Rattle.wf_core_laws.proofs.Members.{Has}
use Rattle.wf_core_laws.proofs.Counts.{one_if, count-append, count-parts, count-none, count-map, count-once}
use Rattle.wf_core_laws.proofs.FrontLaws.{At, due-at, halves_before-rises}
use Rattle.wf_core_laws.proofs.Sane.{each-patch, with-same}
use Rattle.wf_core_laws.proofs.Kept.{due_here_of}
use Rattle.wf_core_laws.proofs.Turns.{one-patch}
use Rattle.wf_core_laws.proofs.FrameLaws.{emits, FrameOf, frame_there}
use Rattle.wf_core_laws.proofs.Pieces.{emit_one, emit_half}
use Rattle.wf_model.specs.declared.script.Act.TheVariants.{Emit}

-- one, where the test holds
choose_one : (b : Bool) → b ≡ true → one_if b ≡ 1
choose_one true h = refl
choose_one false h = absurd (cc (h))

-- none, where it fails
choose_none : (b : Bool) → b ≡ false → one_if b ≡ 0
choose_none true h = absurd (cc (h))
choose_none false h = refl

module _ (r : RunData) (layout : Layout) where
  -- the piece count of each variable of each frame
  pub record Once (s : CoreState) : Type 0 where
    pub is : (i : ℕ) (f : Frame) (v p : ℕ) → slice_get (frames_of r) i ≡ Some f → Has (variables_of r f) v → pieces_out s i v p ≡ one_if (has_posted r s f p)

  -- a frame that an emit at a place is of stands at that place, in the domain of the emit
  record IsOf (i k : ℕ) (e : Entry) (f : Frame) : Type 0 where
    place : f.place ≡ k
    domain : f.domain ≡ e.domain

  -- the frame with that number is it
  is_of : (i k s : ℕ) (e : Entry) (f : Frame) → slice_get (script r) k ≡ Some e → (e.act ≡ Emit s) → slice_get (frames_of r) i ≡ Some f → frame_at r layout k ≡ i → IsOf i k e f
  is_of i k s e f entry act at same =
      let g : FrameOf (frames_of r) (emits (script r) k) k e.domain s = frame_there r k e s entry act in
      let both : Some (g.f) ≡ Some f = sym g.is ∙ ap (slice_get (frames_of r)) (sym g.position ∙ same) ∙ at in
      let w : g.f ≡ f = cc (both) in
      record { place = ap (λ (x : Frame). x.place) (sym w) ∙ g.place_is; domain = ap (λ (x : Frame). x.domain) (sym w) ∙ g.domain_is }

  module _ (s : CoreState) (d q : ℕ) (due : Due) (is : due_of r layout s d q ≡ Some due) (i : ℕ) (f : Frame) (v p : ℕ) (at : slice_get (frames_of r) i ≡ Some f) (is_v : Has (variables_of r f) v) where
    -- where the half stands
    here : At r layout d (s.patches d q).done due
    here = due-at r layout d (s.patches d q).done due is

    -- a half of another place, or of another patch, posts no piece of the frame's variable and the patch
    none_new : (k : ℕ) (e : Entry) (h : Half) → At r layout d (s.patches d q).done (due_here k e h) → (f.place ≡ k → f.domain ≡ d → p ≡ q → ⊥) → count_by (is_piece i v p) (new_pieces r layout s d q (due_here k e h) h) ≡ 0
    none_new k e acts a other = refl
    none_new k e sends a other = refl
    none_new k e takes a other = refl
    none_new k e (posts levels) a other =
        let w = posts-emit r.plan d e e.act a.i levels a.half in
        count-none (is_piece i v p) (piece_of r layout s d q (due_here k e (posts levels))) levels (λ x.
        elim (eqb_tells (frame_at r layout k) i) [
          | inr off ↦ ap (λ b. b && ((x == v) && (q == p))) off.0
          | inl on ↦ elim (eqb_tells q p) [
            | inr off ↦ ap (λ b. (frame_at r layout k == i) && ((x == v) && b)) off.0 ∙ no_third (frame_at r layout k == i) (x == v)
            | inl same ↦
                let o : IsOf i k e f = is_of i k w.0 e f a.entry w.1 at on.1 in
                absurd (other o.place (o.domain ∙ sym (posts-domain r.plan d e e.act a.i levels a.half)) (sym same.1))
          ]
        ])
      where
        no_third : (a b : Bool) → (a && (b && false)) ≡ false
        no_third true true = refl
        no_third true false = refl
        no_third false b = refl

    -- the half of the frame's emit posts one
    one_new : due ≡ due_here f.place (due.entry) (posts (variables_of r f)) → frame_at r layout f.place ≡ i → p ≡ q → count_by (is_piece i v p) (new_pieces r layout s d q due due.half) ≡ 1
    unfolding stream_levels
    one_new w number same =
        subst (λ (x : Due). count_by (is_piece i v p) (new_pieces r layout s d q x x.half) ≡ 1) (sym w)
        (count-map (is_piece i v p) (piece_of r layout s d q (due_here f.place due.entry (posts (variables_of r f)))) (λ x. x == v) (variables_of r f) (λ x.
        ap (λ b. b && ((x == v) && (q == p))) (eq-eqb (frame_at r layout f.place) i number) ∙ ap (λ b. (x == v) && b) (eq-eqb q p (sym same)) ∙ and_true (x == v))
        ∙ count-once (is_in_stream r.plan f.stream) v 0 (length (r.plan).fields) is_v)
      where
        and_true : (b : Bool) → (b && true) ≡ b
        and_true true = refl
        and_true false = refl

    -- the patch after the half
    abbrev new_patch : PatchAt
    new_patch = record { done = (s.patches d q).done + 1; memory = after_setting (setting_at r layout s d q due) (s.patches d q).memory; is_stopped = false }

    -- the state after it
    abbrev t : CoreState
    t = after_half r layout s d q due

    -- the pieces after the half, by those before it and the new ones
    out_after : pieces_out t i v p ≡ pieces_out s i v p + count_by (is_piece i v p) (new_pieces r layout s d q due due.half)
    out_after = let more = count-append (is_piece i v p) s.pieces (new_pieces r layout s d q due due.half) in omega (arith, more)

    -- where nothing new is posted and the patch is as far past the emit as before
    unchanged : pieces_out s i v p ≡ one_if (has_posted r s f p) → count_by (is_piece i v p) (new_pieces r layout s d q due due.half) ≡ 0 → has_posted r t f p ≡ has_posted r s f p
        → pieces_out t i v p ≡ one_if (has_posted r t f p)
    unchanged old none same = let step : pieces_out t i v p ≡ pieces_out s i v p = omega (arith, out_after, none) in step ∙ old ∙ ap one_if (sym same)

    -- a half keeps the count
    once_half : pieces_out s i v p ≡ one_if (has_posted r s f p) → pieces_out t i v p ≡ one_if (has_posted r t f p)
    once_half old =
        elim (eqb_tells f.domain d) [
          | inr far ↦ unchanged old (none_new due.place due.entry due.half here (λ a b c. far.1 b)) (ap (λ (x : PatchAt). nat_lt (halves_before r f.domain f.place) x.done) (one-patch (λ (x : PatchAt). x ≡ s.patches f.domain p) s d q new_patch f.domain p (λ b c. absurd (far.1 b)) refl))
          | inl dom ↦ elim (eqb_tells p q) [
            | inr far ↦ unchanged old (none_new due.place due.entry due.half here (λ a b c. far.1 c)) (ap (λ (x : PatchAt). nat_lt (halves_before r f.domain f.place) x.done) (one-patch (λ (x : PatchAt). x ≡ s.patches f.domain p) s d q new_patch f.domain p (λ b c. absurd (far.1 c)) refl))
            | inl pat ↦ same_patch old dom.1 pat.1
          ]
        ]
      where
        same_patch : pieces_out s i v p ≡ one_if (has_posted r s f p) → f.domain ≡ d → p ≡ q → pieces_out t i v p ≡ one_if (has_posted r t f p)
        same_patch old dom pat =
            let a : At r layout d (s.patches d q).done due = here in
            let before : (s.patches f.domain p).done ≡ (s.patches d q).done = ap (λ (y : ℕ). (s.patches y p).done) dom ∙ ap (λ (y : ℕ). (s.patches d y).done) pat in
            let after : (t.patches f.domain p).done ≡ (s.patches d q).done + 1 = ap (λ (x : PatchAt). x.done) (with-same s d q new_patch f.domain p dom pat) in
            let low : halves_before r f.domain f.place ≡ halves_before r d f.place = ap (λ (y : ℕ). halves_before r y f.place) dom in
            let one : halves_before r f.domain (suc f.place) ≡ halves_before r f.domain f.place + 1 = emit_one r layout i f at in
            let next : halves_before r f.domain (suc f.place) ≡ halves_before r d (suc f.place) = ap (λ (y : ℕ). halves_before r y (suc f.place)) dom in
            elim (lt_or_le due.place f.place) [
              | inl w ↦
                  let up = halves_before-rises r layout d (suc due.place) f.place w in
                  let b : has_posted r s f p ≡ false = le-ltb (halves_before r f.domain f.place) (s.patches f.domain p).done (omega (arith, before, low, up, a.is, a.next, a.within)) in
                  let c : has_posted r t f p ≡ false = le-ltb (halves_before r f.domain f.place) (t.patches f.domain p).done (omega (arith, after, low, up, a.is, a.next, a.within)) in
                  unchanged old (none_new due.place due.entry due.half a (λ e x y. absurd (omega (arith, e, w)))) (c ∙ sym b)
              | inr w ↦ elim (lt_or_le f.place due.place) [
                | inl u ↦
                    let up = halves_before-rises r layout d (suc f.place) due.place u in
                    let b : has_posted r s f p ≡ true = lt-ltb (halves_before r f.domain f.place) (s.patches f.domain p).done (omega (arith, before, low, one, next, up, a.is)) in
                    let c : has_posted r t f p ≡ true = lt-ltb (halves_before r f.domain f.place) (t.patches f.domain p).done (omega (arith, after, low, one, next, up, a.is)) in
                    unchanged old (none_new due.place due.entry due.half a (λ e x y. absurd (omega (arith, e, u)))) (c ∙ sym b)
                | inr u ↦
                    let k : due.place ≡ f.place = omega (arith, w, u) in
                    let is_low : (s.patches d q).done ≡ halves_before r d f.place = omega (arith, a.is, ap (halves_before r d) k, a.next, a.within, ap (λ (y : ℕ). halves_before r d (suc y)) k, one, next, low) in
                    let half = emit_half r layout i f d (s.patches d q).done due at dom is_low is in
                    let b : has_posted r s f p ≡ false = le-ltb (halves_before r f.domain f.place) (s.patches f.domain p).done (omega (arith, before, low, is_low)) in
                    let c : has_posted r t f p ≡ true = lt-ltb (halves_before r f.domain f.place) (t.patches f.domain p).done (omega (arith, after, low, is_low)) in
                    let new : count_by (is_piece i v p) (new_pieces r layout s d q due due.half) ≡ 1 = one_new half.due_is half.number pat in
                    let none : pieces_out s i v p ≡ 0 = old ∙ choose_none (has_posted r s f p) b in
                    omega (arith, out_after, new, none) ∙ sym (choose_one (has_posted r t f p) c)
              ]
            ]

  -- going on keeps it
  once_go : (s : CoreState) (d q : ℕ) (due : Due) → Once s → due_of r layout s d q ≡ Some due → Once (go r layout s d q (due_of r layout s d q))
  once_go s d q due old is = subst (λ (o : Option Due). Once (go r layout s d q o)) (sym is) (record { is = λ i f v p at is_v. once_half s d q due is i f v p at is_v (old.is i f v p at is_v) })

  -- each event keeps it
  once_kept : (s : CoreState) (e : Event) → Once s → is_enabled r layout s e ≡ true → Once (state_after_event r layout s e)
  unfolding is_enabled state_after_event
  once_kept s (Step d q) old on = let w = due_here_of r layout (may_step r layout) s d q on in once_go s d q w.due old w.is
  once_kept s (Take d q) old on = let w = due_here_of r layout (may_take r layout) s d q on in once_go s d q w.due old w.is
  once_kept s (Stop d q) old on =
      let done : (e p : ℕ) → ((after_stop s d q).patches e p).done ≡ (s.patches e p).done = each-patch (λ (e p : ℕ) (x : PatchAt). x.done ≡ (s.patches e p).done) s d q (record { done = (s.patches d q).done; memory = (s.patches d q).memory; is_stopped = true }) refl (λ e p. refl) in
      record { is = λ i f v p at is_v. old.is i f v p at is_v ∙ ap (λ (n : ℕ). one_if (nat_lt (halves_before r f.domain f.place) n)) (sym (done f.domain p)) }
  once_kept s (Gather group server frame g q) old on = record {
    is = λ i f v p at is_v.
        let parts = count-parts (is_piece i v p) (is_piece frame g q) s.pieces in
        let more = count-append (is_piece i v p) s.gathered (filter (is_piece frame g q) s.pieces) in
        omega (arith, parts, more) ∙ old.is i f v p at is_v;
  }
  once_kept s (Write n) old on = record { is = old.is }

  -- at the begin there are no pieces
  once_begin : Once (begin_state r layout)
  unfolding begin_state
  once_begin = record { is = λ i f v p at is_v. sym (choose_none (nat_lt (halves_before r f.domain f.place) 0) (le-ltb (halves_before r f.domain f.place) 0 (omega arith))) }

  -- in each state that a run can reach
  pub once : (es : List Event) (s : CoreState) → replay r layout es ≡ Some s → Once s
  once es s h = reached r layout Once once_kept once_begin es s h

-- the law on the count of pieces
pub each_piece_is_there_once : EachPieceIsThereOnce
each_piece_is_there_once r layout s i f v p h at is_v there = (once r layout h.0 s h.1).is i f v p at is_v
