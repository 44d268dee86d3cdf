-- The front stops a patch first where the run first overflows.
use Rattle.std.proofs.Common.{◌≡◌, inl, inr, ℕ, suc, true, length, Option, Some, None, Ok, Err, refl, ap, sym, ◌∙◌}
use Rattle.std.specs.Prelude.{◌&&◌, is_some}
use Rattle.std.specs.List.{list_any}
use Rattle.std.proofs.lemmas.Bool.Decides.{eqb_tells}
use Rattle.wf_model.specs.declared.layout.Layout.{Layout}
use Rattle.wf_model.specs.Grids.{Grids}
use Rattle.wf_model.specs.Changes.{Spot, spots}
use Rattle.wf_model.specs.Outcome.{RunData, Overflow, script, entry_at, point_of, outcome_of}
use Rattle.wf_model.specs.Patches.{split_of, patches_of}
use Rattle.wf_model.specs.Front.{front}
use Rattle.wf_model.specs.Agreement.{IsAccepted}
use Rattle.wf_laws.specs.Outcomes.{IsOverflowOfItsItem}
use Rattle.wf_model.specs.LeastStop.{domain_at, is_named}
use Rattle.wf_laws.specs.Stops.{change_at, named_at, least_named}
use Rattle.wf_laws.proofs.Members.{find-Some}
use Rattle.wf_laws.proofs.FirstOverflow.{first_is, ends_with, earlier}
use Rattle.wf_laws.proofs.StopLaws.{outcome_least}
use Rattle.wf_core_laws.specs.Patches.{IsDomainPatch}
use Rattle.wf_core_laws.specs.Stops.{IsFirstStop, FirstStopIsAtTheFirstOverflow, FrontGoesOnWhereNothingOverflows, PatchesStopWhereTheyNameAPoint}
use Rattle.wf_core_laws.proofs.Options.{mapped_some}
use Rattle.wf_core_laws.proofs.Members.{any-found}
use Rattle.wf_core_laws.proofs.PatchForms.{patch_of}
use Rattle.wf_core_laws.proofs.NamedStops.{going, domain_here, stops_naming, others_go}
use Rattle.wf_core_laws.proofs.LeastStop.{NoStop}

-- who names a point names something
named_some : (x : Spot) (o : Option Spot) → is_named x o ≡ true → is_some o ≡ true
named_some x None h = absurd (cc (h))
named_some x (Some y) h = refl

module _ (r : RunData) (layout : Layout) (ok : IsAccepted r layout) where
  -- the place of the first overflow is that of the first stop
  pub first_stop : (o : Overflow) → outcome_of r ≡ Err o → IsFirstStop r layout o.place
  first_stop o out =
      let n = o.place in
      let first : IsOverflowOfItsItem r o = first_is r o out in
      let x = mapped_some (point_of (change_at r n) (entry_at r n)) (least_named r layout n) o.point (outcome_least r layout o ok out) in
      let found = find-Some (λ x. list_any (λ p. is_named x (named_at r layout n p)) (patches_of (split_of layout))) x.0 (spots r.plan (domain_at r n)) x.1 in
      let g = any-found (λ p. is_named x.0 (named_at r layout n p)) (patches_of (split_of layout)) found.1 in
      let at : IsDomainPatch r.plan layout (domain_at r n) g.q = patch_of r layout (domain_at r n) g.q (record { domain = domain_here r layout ok n first.reached first.within; patch = g.is }) in
      record {
        within = first.within;
        live = λ d p is. going r layout ok n d p first.reached is;
        d = domain_at r n;
        p = g.q;
        at = at;
        stops = stops_naming r layout ok n first.reached first.within g.q at.patch ∙ named_some x.0 (named_at r layout n g.q) g.passes;
      }

  -- where nothing overflows nobody stops
  pub no_stop_at_all : (g : Grids) → outcome_of r ≡ Ok g → NoStop r layout
  no_stop_at_all g out = record { live = λ d p is. going r layout ok (length (script r)) d p (ends_with r g out).1 is }

-- the law on the first stop
pub first_stop_is_at_the_first_overflow : FirstStopIsAtTheFirstOverflow
first_stop_is_at_the_first_overflow r layout o ok out = first_stop r layout ok o out

-- the law on a run without an overflow
pub front_goes_on_where_nothing_overflows : FrontGoesOnWhereNothingOverflows
front_goes_on_where_nothing_overflows r layout g n d p ok out within is = going r layout ok n d p (earlier r n (length (script r)) within (ends_with r g out).1) is

-- the law on stops and named points
pub patches_stop_where_they_name_a_point : PatchesStopWhereTheyNameAPoint
patches_stop_where_they_name_a_point r layout n d p ok up within is =
    elim (eqb_tells d (domain_at r n)) [
      | inl w ↦ ap (λ (c : ℕ). (front r layout (suc n) c p).is_stopped) w.1 ∙ stops_naming r layout ok n up within p is.patch ∙ ap (λ b. b && is_some (named_at r layout n p)) (sym w.0)
      | inr w ↦ others_go r layout ok n up within d p is w.0 ∙ ap (λ b. b && is_some (named_at r layout n p)) (sym w.0)
    ]
