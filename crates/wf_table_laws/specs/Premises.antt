-- What names keep, so that items made of them are in range and use levels that there are.
use Rattle.std.specs.Prelude.{◌≡◌, ℕ, ◌<◌, ◌≤◌, true, List, length, All}
use Rattle.wf_model.specs.declared.plan.HaloPart.{HaloPart}
use Rattle.wf_model.specs.declared.plan.PeriodPart.{PeriodPart}
use Rattle.wf_model.specs.declared.table.Names.{Names}
use Rattle.wf_model.specs.Hooks.{HasFewArguments}
use Rattle.wf_model.specs.Letters.{Text}
use Rattle.wf_model.specs.Ranges.{Within}

-- a cross has radius 1
pub record IsRangedHaloPart (part : HaloPart) : Type 0 where
  pub radius : Within 1 6 part.radius
  pub cross : part.cross ≡ true → part.radius ≡ 1

abbrev pub IsRangedPeriodPart : PeriodPart → Type 0
IsRangedPeriodPart part = Within 1 6 part.width

-- radii and widths are 1 to 6, and calls have at most 8 arguments
pub record HasRangedParts (names : Names) : Type 0 where
  pub halos : All (λ (halo : Text × List HaloPart). All IsRangedHaloPart halo.1) names.halos
  pub periods : All
      (λ (period : Text × List PeriodPart). All IsRangedPeriodPart period.1) names.periods
  pub hooks : All HasFewArguments names.hooks

-- the numbers of levels are below their count
pub record HasKnownLevels (names : Names) : Type 0 where
  pub fields : All (λ (field : Text × ℕ × ℕ). (field.1 < length names.levels)
      × (field.2 < length names.levels)) names.fields
  pub halos : All (λ (halo : Text × List HaloPart).
      All (λ (p : HaloPart). p.field < length names.levels) halo.1) names.halos
  pub periods : All (λ (period : Text × List PeriodPart).
      All (λ (p : PeriodPart). p.field < length names.levels) period.1) names.periods
