-- The points of a row that a phase sets: those between the margins, where it sets points of the row at all.
use Rattle.std.proofs.Common.{◌≡◌, ℕ, ◌∙◌, Bool, true, false, sym, ap}
use Rattle.std.specs.Prelude.{◌&&◌}
use Rattle.wf_model.specs.declared.plan.Plan.{Plan}
use Rattle.wf_model.specs.declared.plan.Phase.{Phase}
use Rattle.wf_model.specs.Plans.{domain_of, nx, is_inside}
use Rattle.wf_model.specs.Changes.{in_region}
use Rattle.wf_grid.specs.declared.phase.Span.{Span}
use Rattle.wf_grid.specs.Spanned.{is_spanned, is_phase_row, IsSpan}

module _ (plan : Plan) (d : ℕ) (ph : Phase) (k j : ℕ) (r : Bool) (is : r ≡ is_phase_row plan d ph k j) (s : Span) where
  -- of a row with points that are set
  pub set_row : (p : Bool) (n : ℕ) → p ≡ (domain_of plan d).periodic_x → n ≡ nx plan d ph.writes → r ≡ true → ((x : ℕ) → is_spanned s x ≡ is_inside p ph.mx n x) → IsSpan plan d ph k j s
  unfolding in_region
  set_row p n ep en set h i =
      h i ∙ (λ t. is_inside (ep t) ph.mx (en t) i) ∙ ap (λ (b : Bool). b && is_inside (domain_of plan d).periodic_x ph.mx (nx plan d ph.writes) i) (sym set ∙ is)

  -- of one without
  pub other_row : r ≡ false → ((x : ℕ) → is_spanned s x ≡ false) → IsSpan plan d ph k j s
  unfolding in_region
  other_row unset h i = h i ∙ ap (λ (b : Bool). b && is_inside (domain_of plan d).periodic_x ph.mx (nx plan d ph.writes) i) (sym unset ∙ is)
