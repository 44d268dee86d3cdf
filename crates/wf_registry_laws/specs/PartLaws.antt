-- The parts of halos and periods that a table may name are in their ranges, and their levels
-- are there.
use Rattle.std.specs.Prelude.{◌≡◌, ℕ, ◌<◌, true, List, length, All}
use Rattle.wf_model.specs.declared.config.Config.{Config}
use Rattle.wf_model.specs.declared.plan.HaloPart.{HaloPart}
use Rattle.wf_model.specs.declared.plan.PeriodPart.{PeriodPart}
use Rattle.wf_model.specs.declared.table.HookName.{HookName}
use Rattle.wf_model.specs.declared.table.Names.{Names}
use Rattle.wf_model.specs.Letters.{Text}
use Rattle.wf_model.specs.Ranges.{Within}
use Rattle.wf_model.specs.NamesOf.{names_of}
use Rattle.wf_registry_laws.specs.ConfigLaws.{IsSoundConfig}

-- a part of a halo, where there are so many levels
pub record IsNamedHaloPart (count : ℕ) (part : HaloPart) : Type 0 where
  pub level : part.field < count
  pub radius : Within 1 6 part.radius
  pub cross : part.cross ≡ true → part.radius ≡ 1

pub record IsNamedPeriodPart (count : ℕ) (part : PeriodPart) : Type 0 where
  pub level : part.field < count
  pub width : Within 1 6 part.width

pub record HasSoundParts (names : Names) : Type 0 where
  pub halos : All (λ (h : Text × List HaloPart).
      All (IsNamedHaloPart (length names.levels)) h.1) names.halos
  pub periods : All (λ (p : Text × List PeriodPart).
      All (IsNamedPeriodPart (length names.levels)) p.1) names.periods

-- the names of a sound config have sound parts
abbrev pub NamedPartsAreSound : Type 0
NamedPartsAreSound = (config : Config) (hooks : List HookName) → IsSoundConfig config →
    HasSoundParts (names_of config hooks)
