-- What each patch is before a place of the script, by its own halves and what the others are there.
use Rattle.std.proofs.Common.{◌≡◌, inl, inr, ℕ, zero, suc, ◌+◌, ◌<◌, ◌≤◌, Bool, true, false, List, [], ◌∷◌, length, Some, None, refl, ap, sym, ◌∙◌, arith}
use Rattle.std.specs.Prelude.{slice_get}
use Rattle.wf_model.specs.declared.layout.Layout.{Layout}
use Rattle.wf_model.specs.declared.script.Entry.{Entry}
use Rattle.wf_model.specs.Outcome.{RunData, script}
use Rattle.wf_model.specs.PatchEffect.{sets_nothing, after_setting}
use Rattle.wf_model.specs.Halves.{Half, acts, sends, takes, posts, Due, act_halves, halves_of, due_after}
use Rattle.wf_model.specs.Front.{last_half, Stand, Stands, front, half_effect, halves_before, place_effect, stand_after, unless_stopped}
use Rattle.wf_core_laws.proofs.Places.{halves_in-more, halves_in-past, half-at, half-stands, HalfPlace, due_here, lt_or_le}
use Rattle.wf_core_laws.proofs.HalvesAt.{is_quiet}
use Rattle.std.proofs.lemmas.Option.{slice_get_within}

-- setting nothing leaves a patch where it stands
quiet_stand : (b : Bool) (st : Stand) → st.is_stopped ≡ b → unless_stopped b st (stand_after false sets_nothing st.memory) ≡ st
unfolding after_setting
quiet_stand true st e = refl
quiet_stand false st e = ap (λ (b : Bool). let x : Stand = record { memory = st.memory; is_stopped = b } in x) (sym e)

module _ (r : RunData) (layout : Layout) where
  -- a half that is due: where it stands
  pub record At (d n : ℕ) (due : Due) : Type 0 where
    pub i : ℕ
    pub entry : slice_get (script r) due.place ≡ Some due.entry
    pub half : slice_get (act_halves r.plan d due.entry (due.entry).act) i ≡ Some due.half
    pub is : n ≡ halves_before r d due.place + i
    pub next : halves_before r d (suc due.place) ≡ halves_before r d due.place + length (act_halves r.plan d due.entry (due.entry).act)
    pub within : i < length (act_halves r.plan d due.entry (due.entry).act)

  -- a half that is due stands at its place of the script
  pub due-at : (d n : ℕ) (due : Due) → due_after r d n ≡ Some due → At d n due
  unfolding halves_of
  due-at d n due h =
      let s : HalfPlace r.plan d 0 (script r) n due = half-stands r.plan d (script r) 0 n due h in
      let e : due.place ≡ s.k = omega (arith, s.place) in
      let entry : slice_get (script r) due.place ≡ Some due.entry = ap (slice_get (script r)) e ∙ s.entry in
      record {
        i = s.i;
        entry = entry;
        half = s.half;
        is = s.count ∙ ap (λ (k : ℕ). halves_before r d k + s.i) (sym e);
        next = halves_in-more r.plan d (script r) due.place due.entry entry;
        within = slice_get_within _ s.i due.half s.half;
      }

  -- a half at a place is due after those before it
  pub at-due : (d k i : ℕ) (e : Entry) (h : Half) → slice_get (script r) k ≡ Some e → slice_get (act_halves r.plan d e e.act) i ≡ Some h → due_after r d (halves_before r d k + i) ≡ Some (due_here k e h)
  unfolding halves_of
  at-due d k i e h p q = half-at r.plan d (script r) 0 k i e h p q ∙ ap (λ (m : ℕ). Some (due_here m e h)) (omega arith)

  -- counts rise along the script
  pub halves_before-next : (d k : ℕ) → halves_before r d k ≤ halves_before r d (suc k)
  halves_before-next d k =
      (elim (slice_get (script r) k) as (λ o. slice_get (script r) k ≡ o → halves_before r d k ≤ halves_before r d (suc k)) [
        | None ↦ λ e. omega (arith, halves_in-past r.plan d (script r) k e)
        | Some x ↦ λ e. omega (arith, halves_in-more r.plan d (script r) k x e)
      ]) refl

  -- counts rise from place to place
  pub halves_before-rises : (d k j : ℕ) → k ≤ j → halves_before r d k ≤ halves_before r d j
  halves_before-rises d k zero h = let e : k ≡ 0 = omega arith in rw e (omega arith)
  halves_before-rises d k (suc j) h =
      elim (lt_or_le j k) [
        | inl w ↦ let e : k ≡ suc j = omega arith in rw e (omega arith)
        | inr w ↦ omega (arith, halves_before-rises d k j w, halves_before-next d j)
      ]

  -- of places between which a number of halves lies there is one
  pub same-place : (d n k j : ℕ) → halves_before r d k ≤ n → n < halves_before r d (suc k) → halves_before r d j ≤ n → n < halves_before r d (suc j) → j ≡ k
  same-place d n k j a b c e =
      elim (lt_or_le k j) [
        | inl w ↦ absurd (omega (arith, halves_before-rises d (suc k) j w))
        | inr w ↦ elim (lt_or_le j k) [
          | inl v ↦ absurd (omega (arith, halves_before-rises d (suc j) k v))
          | inr v ↦ omega arith
        ]
      ]

  -- a half that changes no memory changes nothing
  pub quiet-effect : (f : Stands) (e : Entry) (d p : ℕ) (h : Half) → is_quiet h ≡ true → half_effect r layout f e d p h ≡ f d p
  unfolding half_effect after_setting
  quiet-effect f e d p acts q = absurd (cc (q))
  quiet-effect f e d p sends q = quiet_stand (f d p).is_stopped (f d p) refl
  quiet-effect f e d p takes q = absurd (cc (q))
  quiet-effect f e d p (posts levels) q = quiet_stand (f d p).is_stopped (f d p) refl

  -- with no halves at a place a patch stays
  still_at : (k d p : ℕ) (e : Entry) (hs : List Half) → length hs ≡ 0 → half_effect r layout (front r layout k) e d p (last_half hs) ≡ front r layout k d p
  still_at k d p e [] h = quiet-effect (front r layout k) e d p (posts []) refl
  still_at k d p e (x ∷ hs) h = absurd (omega arith)

  -- where a domain has no halves, its patches stay
  pub front-still : (d p k : ℕ) → halves_before r d (suc k) ≡ halves_before r d k → front r layout (suc k) d p ≡ front r layout k d p
  unfolding front
  front-still d p k h =
      (elim (slice_get (script r) k) as (λ o. slice_get (script r) k ≡ o → place_effect r layout o (front r layout k) d p ≡ front r layout k d p) [
        | None ↦ λ e. refl
        | Some x ↦ λ e. still_at k d p x (act_halves r.plan d x x.act) (omega (arith, halves_in-more r.plan d (script r) k x e))
      ]) refl

  -- where a domain has no halves between two places, its patches stand alike there
  pub front-same : (d p k j : ℕ) → k ≤ j → halves_before r d j ≡ halves_before r d k → front r layout j d p ≡ front r layout k d p
  front-same d p k zero h e = let w : k ≡ 0 = omega arith in rw w refl
  front-same d p k (suc j) h e =
      elim (lt_or_le j k) [
        | inl w ↦ let v : k ≡ suc j = omega arith in rw v refl
        | inr w ↦ front-still d p j (omega (arith, halves_before-rises d k j w, halves_before-next d j)) ∙ front-same d p k j w (omega (arith, halves_before-rises d k j w, halves_before-next d j))
      ]

  -- the place of an entry
  pub front-next : (k d p : ℕ) (e : Entry) → slice_get (script r) k ≡ Some e → front r layout (suc k) d p ≡ half_effect r layout (front r layout k) e d p (last_half (act_halves r.plan d e e.act))
  unfolding front
  front-next k d p e h = ap (λ o. place_effect r layout o (front r layout k) d p) h

  -- a stop stays
  pub stop-stays : (f : Stands) (e : Entry) (d p : ℕ) (h : Half) → (f d p).is_stopped ≡ true → half_effect r layout f e d p h ≡ f d p
  unfolding half_effect
  stop-stays f e d p h s = rw s refl
