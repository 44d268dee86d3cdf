-- The least stop of a full list is the first overflow of the run.
use Rattle.std.proofs.Common.{◌≡◌, inl, inr, ℕ, suc, ◌*◌, ◌<◌, ◌≤◌, if◌then◌else◌, true, false, List, length, Option, Some, None, Ok, Err, refl, ap, sym, ◌∙◌, subst, arith}
use Rattle.std.specs.Prelude.{slice_get, is_some, option_map, Result}
use Rattle.std.specs.List.{list_any}
use Rattle.std.proofs.lemmas.Bool.{eq-eqb, ne_eqb}
use Rattle.std.proofs.lemmas.Option.{slice_get-get_or}
use Rattle.wf_model.specs.declared.layout.Layout.{Layout}
use Rattle.wf_model.specs.declared.point.Point.{Point}
use Rattle.wf_model.specs.declared.script.Entry.{Entry}
use Rattle.wf_model.specs.declared.event.Event.{Event}
use Rattle.wf_model.specs.Grids.{Grids}
use Rattle.wf_model.specs.Changes.{Spot, spots, overflow_in}
use Rattle.wf_model.specs.Outcome.{RunData, Overflow, script, no_entry, entry_at, what_of, point_of, outcome_of}
use Rattle.wf_model.specs.Patches.{split_of, patches_of}
use Rattle.wf_model.specs.PatchEffect.{Memory}
use Rattle.wf_model.specs.Halves.{Half, acts, sends, takes, posts, Due, act_halves}
use Rattle.wf_model.specs.Core.{CoreState, due_of}
use Rattle.wf_model.specs.Replay.{IsFull}
use Rattle.wf_model.specs.Front.{Stand, front, last_half, halves_before, mail_to}
use Rattle.wf_model.specs.Agreement.{IsAccepted, IsPatch}
use Rattle.wf_laws.specs.Outcomes.{IsOverflowOfItsItem}
use Rattle.wf_model.specs.LeastStop.{domain_at, is_named, front_names, first_overflow, half_names, due_names, stop_names, least_stop_at, stop_at, least_stop}
use Rattle.wf_laws.specs.Stops.{change_at, named_at, least_named}
use Rattle.wf_laws.proofs.Bools.{split_bool}
use Rattle.wf_laws.proofs.Members.{find-None}
use Rattle.wf_laws.proofs.FirstOverflow.{first_is, earlier}
use Rattle.wf_laws.proofs.StopLaws.{outcome_least, least_overflow}
use Rattle.wf_core_laws.specs.Patches.{IsDomainPatch}
use Rattle.wf_core_laws.specs.Ends.{IsFinished}
use Rattle.wf_core_laws.specs.Stops.{IsFirstStop, IsStoppedAt}
use Rattle.wf_core_laws.specs.EveryList.{NoPatchStopsWhereNothingOverflows, FullListsStopAtTheOverflow, NoPatchStopsBeforeTheOverflow, LeastStopIsTheFirstOverflow}
use Rattle.wf_core_laws.proofs.Options.{mapped_some}
use Rattle.wf_core_laws.proofs.Members.{Has, not_both, any-none}
use Rattle.wf_core_laws.proofs.HalvesAt.{LastOrQuiet, last-or-quiet}
use Rattle.wf_core_laws.proofs.FrontLaws.{At, due-at}
use Rattle.wf_core_laws.proofs.Sane.{StopsAt, Sane}
use Rattle.wf_core_laws.proofs.Takers.{stopped_next, stops_last}
use Rattle.wf_core_laws.proofs.Kept.{sane}
use Rattle.wf_core_laws.proofs.Progress.{Closed}
use Rattle.wf_core_laws.proofs.PatchForms.{there_of, patch_of, patch_has, range-has}
use Rattle.wf_core_laws.proofs.End.{end_of_run}
use Rattle.wf_core_laws.proofs.LeastStop.{NoStop, stop_late, stopped_there, none_stopped}
use Rattle.wf_core_laws.proofs.NamedStops.{lacks_nothing, half_names as last_names, half_fails, going, entry_here, domain_here, stops_naming}
use Rattle.wf_core_laws.proofs.StopsKept.{Complete, complete, names_front}
use Rattle.wf_core_laws.proofs.StopForms.{none-first, one-first, find-same, any-same, change_domain}
use Rattle.wf_core_laws.proofs.FirstStop.{first_stop, no_stop_at_all}
use Rattle.wf_core_laws.proofs.ScriptLaws.{closed}
use Rattle.wf_core_laws.proofs.Interleavings.{quiet}

module _ (r : RunData) (layout : Layout) (ok : IsAccepted r layout) (s : CoreState) (sane_s : Sane r layout s) (held : Complete r layout s) (end : IsFinished r layout s) (o : Overflow) (out : outcome_of r ≡ Err o) where
  -- the overflow's place
  abbrev n : ℕ
  n = o.place

  -- it is that of the item there
  first : IsOverflowOfItsItem r o
  first = first_is r o out

  -- there the front stops a patch first
  stop : IsFirstStop r layout o.place
  stop = first_stop r layout ok o out

  -- a stop stands at the overflow's place or past it
  late : (d p : ℕ) (due : Due) → IsDomainPatch r.plan layout d p → (s.patches d p).is_stopped ≡ true → due_of r layout s d p ≡ Some due → o.place ≤ due.place
  late d p due at st is = stop_late r layout s o.place d p due sane_s (stop.live d p at) st is

  -- no mail lacks at the overflow's place, so what the front names there is where the half fails
  front_fails : (p : ℕ) (m : Memory) (h : Half) → front_names r layout (front r layout o.place) (entry_at r o.place) (domain_at r o.place) p m h
      ≡ half_fails r layout (entry_at r o.place) p (entry_at r o.place).act m (mail_to r layout (front r layout o.place) (entry_at r o.place) p) (domain_at r o.place) h
  front_fails p m acts = refl
  front_fails p m sends = refl
  front_fails p m takes =
      ap (λ b. if b then None else half_fails r layout (entry_at r o.place) p (entry_at r o.place).act m (mail_to r layout (front r layout o.place) (entry_at r o.place) p) (domain_at r o.place) takes)
      (lacks_nothing r layout ok o.place first.reached first.within p)
  front_fails p m (posts levels) = refl

  -- where a patch is stopped at the overflow's place it names what it names in the lockstep run
  stopped_names : (p : ℕ) → IsDomainPatch r.plan layout (domain_at r o.place) p → IsStoppedAt r layout s o.place (domain_at r o.place) p → stop_names r layout s o.place (domain_at r o.place) p ≡ named_at r layout o.place p
  stopped_names p at st =
      let d = domain_at r o.place in
      let due = st.due in
      let stops : StopsAt r layout d p (s.patches d p).done = sane_s.stopped d p st.stopped in
      let a : At r layout d (s.patches d p).done due = due-at r layout d (s.patches d p).done due st.is in
      let both : Some (stops.due) ≡ Some due = sym stops.is ∙ st.is in
      let same : stops.due ≡ due = cc (both) in
      let entry2 : Some due.entry ≡ Some (entry_at r o.place) = sym a.entry ∙ ap (slice_get (script r)) st.place_is ∙ entry_here r layout ok o.place first.reached first.within in
      let e : due.entry ≡ entry_at r o.place = cc (entry2) in
      let last : last_half (act_halves r.plan d due.entry (due.entry).act) ≡ due.half = last_of d p due stops same a in
      let here : stop_names r layout s o.place d p ≡ half_names r layout s d p due due.half =
      ap (λ b. if b then due_names r layout s o.place d p (due_of r layout s d p) else None) st.stopped
      ∙ ap (due_names r layout s o.place d p) st.is
      ∙ ap (λ b. if b then half_names r layout s d p due due.half else None) (eq-eqb due.place o.place st.place_is) in
      here ∙ names_front r layout s d p due.place due.entry due.half sane_s held (there_of r layout d p at).patch st.stopped st.is
      ∙ ap (front_names r layout (front r layout due.place) due.entry d p (front r layout due.place d p).memory) (sym last)
      ∙ ap (λ (y : Entry). front_names r layout (front r layout due.place) y d p (front r layout due.place d p).memory (last_half (act_halves r.plan d y y.act))) e
      ∙ ap (λ (k : ℕ). front_names r layout (front r layout k) (entry_at r o.place) d p (front r layout k d p).memory (last_half (act_halves r.plan d (entry_at r o.place) (entry_at r o.place).act))) st.place_is
      ∙ front_fails p (front r layout o.place d p).memory (last_half (act_halves r.plan d (entry_at r o.place) (entry_at r o.place).act))
      ∙ last_names r layout ok o.place first.reached first.within p at.patch
    where
      last_of : (d p : ℕ) (due : Due) (stops : StopsAt r layout d p (s.patches d p).done) → stops.due ≡ due → At r layout d (s.patches d p).done due → last_half (act_halves r.plan d due.entry (due.entry).act) ≡ due.half
      last_of d p due stops same a =
          let shape : LastOrQuiet (act_halves r.plan d due.entry (due.entry).act) a.i due.half = last-or-quiet r.plan d due.entry (due.entry).act a.i due.half a.half in
          let end_here : suc (s.patches d p).done ≡ halves_before r d (suc due.place) = stops_last r layout d p (s.patches d p).done stops ∙ ap (λ (y : Due). halves_before r d (suc y.place)) same in
          elim shape.is [ inl w ↦ w.1 | inr w ↦ absurd (omega (arith, w.0, a.is, a.next, end_here)) ]

  -- and each patch of the domain that computes or receives there
  names_there : (p : ℕ) → IsPatch layout p → stop_names r layout s o.place (domain_at r o.place) p ≡ named_at r layout o.place p
  names_there p hp =
      let d = domain_at r o.place in
      let at : IsDomainPatch r.plan layout d p = patch_of r layout d p (record { domain = domain_here r layout ok o.place first.reached first.within; patch = patch_has layout p hp }) in
      let next = stops_naming r layout ok o.place first.reached first.within p hp in
      elim (split_bool (front r layout (suc o.place) d p).is_stopped) [
        | inl st ↦ stopped_names p at (stopped_there r layout s o.place sane_s end (record { within = stop.within; live = stop.live; d = d; p = p; at = at; stops = st }))
        | inr live ↦ silent_both p d at live (named_at r layout o.place p) (sym next ∙ live)
      ]
    where
      nothing_named : (o : Option Spot) → is_some o ≡ false → None ≡ o
      nothing_named None h = refl
      nothing_named (Some x) h = absurd (cc (h))

      silent_by : (p d : ℕ) → (front r layout (suc o.place) d p).is_stopped ≡ false → (due : Option Due) → due_of r layout s d p ≡ due → (s.patches d p).is_stopped ≡ true → due_names r layout s o.place d p due ≡ None
      silent_by p d live None is st = refl
      silent_by p d live (Some due) is st =
          let stops : StopsAt r layout d p (s.patches d p).done = sane_s.stopped d p st in
          let both : Some (stops.due) ≡ Some due = sym stops.is ∙ is in
          let same : stops.due ≡ due = cc (both) in
          let halt : (front r layout (suc due.place) d p).is_stopped ≡ true = subst (λ (y : Due). (front r layout (suc y.place) d p).is_stopped ≡ true) same (ap (λ (x : Stand). x.is_stopped) (stopped_next r layout d p (s.patches d p).done (s.patches d p).memory (sane_s.placed d p) stops)) in
          ap (λ b. if b then half_names r layout s d p due due.half else None) (ne_eqb due.place o.place (λ w. not_both _ (subst (λ (y : ℕ). (front r layout (suc y) d p).is_stopped ≡ true) w halt) live))

      silent_both : (p d : ℕ) → IsDomainPatch r.plan layout d p → (front r layout (suc o.place) d p).is_stopped ≡ false → (name : Option Spot) → is_some name ≡ false → stop_names r layout s o.place d p ≡ name
      silent_both p d at live name none =
          elim (split_bool (s.patches d p).is_stopped) [
            | inl st ↦ ap (λ b. if b then due_names r layout s o.place d p (due_of r layout s d p) else None) st ∙ silent_by p d live (due_of r layout s d p) refl st ∙ nothing_named name none
            | inr off ↦ ap (λ b. if b then due_names r layout s o.place d p (due_of r layout s d p) else None) off ∙ nothing_named name none
          ]

  -- so the least point that is named by a stop there is the least that is named in the lockstep run
  least_there : least_stop_at r layout s o.place ≡ least_named r layout o.place
  least_there =
      find-same (λ x. list_any (λ p. is_named x (stop_names r layout s o.place (domain_at r o.place) p)) (patches_of (split_of layout))) (λ x. list_any (λ p. is_named x (named_at r layout o.place p)) (patches_of (split_of layout)))
      (spots r.plan (domain_at r o.place)) (λ x. any-same (λ p. is_named x (stop_names r layout s o.place (domain_at r o.place) p)) (λ p. is_named x (named_at r layout o.place p)) (patches_of (split_of layout))
      (λ p is. ap (is_named x) (names_there p (patch_below p is))))
    where
      patch_below : (p : ℕ) → Has (patches_of (split_of layout)) p → IsPatch layout p
      patch_below p is = let w = range-has 0 (layout.nproc_x * layout.nproc_y) p is in omega (arith, w.1)

  -- and before it no stop names a point
  none_before : (k : ℕ) → k < o.place → least_stop_at r layout s k ≡ None
  none_before k lt =
      find-None (λ x. list_any (λ p. is_named x (stop_names r layout s k (domain_at r k) p)) (patches_of (split_of layout))) (spots r.plan (domain_at r k))
      (λ x i. any-none (λ p. is_named x (stop_names r layout s k (domain_at r k) p)) (patches_of (split_of layout)) (λ p is. ap (is_named x) (silent_at p is)))
    where
      by_due : (p : ℕ) → IsDomainPatch r.plan layout (domain_at r k) p → (due : Option Due) → due_of r layout s (domain_at r k) p ≡ due → (s.patches (domain_at r k) p).is_stopped ≡ true → due_names r layout s k (domain_at r k) p due ≡ None
      by_due p at None is st = refl
      by_due p at (Some due) is st =
          let far : o.place ≤ due.place = late (domain_at r k) p due at st is in
          ap (λ b. if b then half_names r layout s (domain_at r k) p due due.half else None) (ne_eqb due.place k (λ w. omega (arith, w, far, lt)))

      silent_at : (p : ℕ) → Has (patches_of (split_of layout)) p → stop_names r layout s k (domain_at r k) p ≡ None
      silent_at p is =
          let d = domain_at r k in
          let within : k < length (script r) = omega (arith, lt, first.within) in
          let at : IsDomainPatch r.plan layout d p = patch_of r layout d p (record { domain = domain_here r layout ok k (earlier r k o.place (omega (arith, lt)) first.reached) within; patch = is }) in
          elim (split_bool (s.patches d p).is_stopped) [
            | inl st ↦ ap (λ b. if b then due_names r layout s k d p (due_of r layout s d p) else None) st ∙ by_due p at (due_of r layout s d p) refl st
            | inr off ↦ ap (λ b. if b then due_names r layout s k d p (due_of r layout s d p) else None) off
          ]

  -- the overflow, by the least point that is named
  overflow_is : (x : Spot) → least_named r layout o.place ≡ Some x → stop_at r layout o.place x ≡ o
  overflow_is x is =
      let over : overflow_in r.plan (change_at r o.place) ≡ Some x = sym (least_overflow r layout o.place ok first.reached first.within) ∙ is in
      let point : Some (point_of (change_at r o.place) (entry_at r o.place) x) ≡ Some o.point = ap (option_map (point_of (change_at r o.place) (entry_at r o.place))) (sym is) ∙ outcome_least r layout o ok out in
      let p : point_of (change_at r o.place) (entry_at r o.place) x ≡ o.point = cc (point) in
      ap (λ (d : ℕ). let y : Overflow = record { place = o.place; point = record { domain = d; step = (entry_at r o.place).step; what = what_of (entry_at r o.place).act; field = x.field; k = x.k; j = x.j; i = x.i } } in y) (sym (change_domain r o.place x over))
      ∙ ap (λ (q : Point). let y : Overflow = record { place = o.place; point = q } in y) p

  -- the least stop
  pub least_is : least_stop r layout s ≡ Some o
  unfolding least_stop
  least_is =
      let x = mapped_some (point_of (change_at r o.place) (entry_at r o.place)) (least_named r layout o.place) o.point (outcome_least r layout o ok out) in
      one-first (λ k. option_map (stop_at r layout k) (least_stop_at r layout s k)) 0 (length (script r)) o.place o (omega arith) (omega (arith, first.within))
      (ap (option_map (stop_at r layout o.place)) (least_there ∙ x.1) ∙ ap (λ (y : Overflow). Some y) (overflow_is x.0 x.1))
      (λ k low lt. ap (option_map (stop_at r layout k)) (none_before k lt))

-- an entry of the script is the one at its place
here : (r : RunData) (k : ℕ) → k < length (script r) → slice_get (script r) k ≡ Some (entry_at r k)
unfolding entry_at
here r k within = slice_get-get_or (script r) k no_entry within

module _ (r : RunData) (layout : Layout) where
  -- where nothing overflows no stop names a point
  none_at_all : (s : CoreState) → Sane r layout s → NoStop r layout → Closed r → least_stop r layout s ≡ None
  unfolding least_stop
  none_at_all s sane_s none closed_r =
      none-first (λ k. option_map (stop_at r layout k) (least_stop_at r layout s k)) 0 (length (script r)) (λ k low high.
      ap (option_map (stop_at r layout k)) (find-None (λ x. list_any (λ p. is_named x (stop_names r layout s k (domain_at r k) p)) (patches_of (split_of layout))) (spots r.plan (domain_at r k))
      (λ x i. any-none (λ p. is_named x (stop_names r layout s k (domain_at r k) p)) (patches_of (split_of layout)) (λ p is. ap (is_named x) (off p k (omega (arith, high)) is)))))
    where
      off : (p k : ℕ) → k < length (script r) → Has (patches_of (split_of layout)) p → stop_names r layout s k (domain_at r k) p ≡ None
      off p k within is =
          let d = domain_at r k in
          let at : IsDomainPatch r.plan layout d p = patch_of r layout d p (record { domain = closed_r.receiver k (entry_at r k) (here r k within); patch = is }) in
          ap (λ b. if b then due_names r layout s k d p (due_of r layout s d p) else None) (none_stopped r layout s d p sane_s none at)

  -- the least stop, by the outcome
  least_by : (ok : IsAccepted r layout) (es : List Event) (f : IsFull r layout es) (o : Result Grids Overflow) → outcome_of r ≡ o → least_stop r layout f.0 ≡ first_overflow o
  least_by ok es f (Ok g) out = none_at_all f.0 (sane r layout es f.0 f.1) (no_stop_at_all r layout ok g out) (closed r (ok.sound).some)
  least_by ok es f (Err o) out = least_is r layout ok f.0 (sane r layout es f.0 f.1) (complete r layout es f.0 f.1) (end_of_run r layout es f.0 (closed r (ok.sound).some) f.1 (quiet r layout f.0 f.2)) o out

-- the law on the least stop
pub least_stop_is_the_first_overflow : LeastStopIsTheFirstOverflow
least_stop_is_the_first_overflow r layout es ok f = least_by r layout ok es f (outcome_of r) refl

-- the law on stops before the overflow
pub no_patch_stops_before_the_overflow : NoPatchStopsBeforeTheOverflow
no_patch_stops_before_the_overflow r layout s n d p due ok h up at st is = stop_late r layout s n d p due (sane r layout h.0 s h.1) (going r layout ok n d p up at) st is

-- the law on runs without an overflow
pub no_patch_stops_where_nothing_overflows : NoPatchStopsWhereNothingOverflows
no_patch_stops_where_nothing_overflows r layout s g d p ok h out at = none_stopped r layout s d p (sane r layout h.0 s h.1) (no_stop_at_all r layout ok g out) at

-- the law on the stop of a full list
pub full_lists_stop_at_the_overflow : FullListsStopAtTheOverflow
full_lists_stop_at_the_overflow r layout es o ok f out =
    let first : IsFirstStop r layout o.place = first_stop r layout ok o out in
    let end : IsFinished r layout f.0 = end_of_run r layout es f.0 (closed r (ok.sound).some) f.1 (quiet r layout f.0 f.2) in
    (first.d, first.p, first.at, stopped_there r layout f.0 o.place (sane r layout es f.0 f.1) end first)
