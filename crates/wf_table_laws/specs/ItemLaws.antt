-- What holds of the items of a table that was read.
use Rattle.std.specs.Prelude.{◌≡◌, ℕ, ◌<◌, ◌≤◌, true, List, [], length, All, Any, AllPairs, Ok}
use Rattle.std.specs.Prelude.{IsFalse, unsigned_abs}
use Rattle.wf_model.specs.declared.plan.HaloPart.{HaloPart}
use Rattle.wf_model.specs.declared.plan.PeriodPart.{PeriodPart}
use Rattle.wf_model.specs.declared.plan.Item.{Item}
use Rattle.wf_model.specs.declared.plan.Item.TheVariants as item
use Rattle.wf_model.specs.declared.plan.Plan.{Plan}
use Rattle.wf_model.specs.declared.table.Names.{Names}
use Rattle.wf_model.specs.Letters.{Text, is_among}
use Rattle.wf_model.specs.Reads.{Read, reads_of, margin_of}
use Rattle.wf_model.specs.ExprFacts.{parts_of}
use Rattle.wf_model.specs.Ranges.{IsRangedItem}
use Rattle.wf_model.specs.Sound.{CallsHooks, IsLevel, IsSoundHaloPart}
use Rattle.wf_model.specs.TableNames.{most_dk}
use Rattle.wf_model.specs.Table.{table_of, phase_names, taken_phases}
use Rattle.wf_table_laws.specs.Premises.{HasRangedParts, HasKnownLevels}

-- the items of a table that was read keep this, for names that keep that
abbrev pub ItemsKeep : (Names → Type 0) → (Names → List Item → Type 0) → Type 0
ItemsKeep Premise Keeps = (text : List ℕ) (names : Names) (items : List Item) → Premise names →
    table_of text names ≡ Ok items → Keeps names items

-- every names
abbrev pub Anything : Names → Type 0
Anything names = Unit {0}

-- ---- ranges

-- numbers of items are in their ranges
abbrev pub ItemsAreRanged : Type 0
ItemsAreRanged = ItemsKeep HasRangedParts (λ names items. All IsRangedItem items)

-- a cross has radius 1
abbrev pub HasNarrowCrosses : Item → Type 0
HasNarrowCrosses (item.Halo parts) = All (λ (p : HaloPart). p.cross ≡ true → p.radius ≡ 1) parts
HasNarrowCrosses other = Unit {0}

abbrev pub CrossesAreNarrow : Type 0
CrossesAreNarrow = ItemsKeep HasRangedParts (λ names items. All HasNarrowCrosses items)

-- there are at most 256
abbrev pub ItemsAreFew : Type 0
ItemsAreFew = ItemsKeep Anything (λ names items. length items ≤ 256)

-- no two phases have one name, and none has a word of the script
abbrev pub HasNamedPhases : List Item → Type 0
HasNamedPhases items = AllPairs (λ (a b : Text). a ≡ b → ⊥) (phase_names items)
    × All (λ (name : Text). IsFalse (is_among name taken_phases)) (phase_names items)

abbrev pub PhaseNamesDiffer : Type 0
PhaseNamesDiffer = ItemsKeep Anything (λ names items. HasNamedPhases items)

-- items in their ranges ask for at most 12 cells beyond a patch's own
abbrev pub MarginsAreSmall : Type 0
MarginsAreSmall = (plan : Plan) → All IsRangedItem plan.items → margin_of plan ≤ 12

-- ---- names

-- a read is of a level that there is, and goes no further in k than reads of it may: not at all
-- without a z letter
pub record IsKnownRead (names : Names) (r : Read) : Type 0 where
  pub level : r.field < length names.levels
  pub near : unsigned_abs r.dk ≤ most_dk names r.field

-- a halo's and a period's parts are those of a name, a swap exchanges the two levels of a field,
-- and a phase writes and reads levels that there are
abbrev pub IsOfNames : Names → Item → Type 0
IsOfNames names (item.Halo parts) =
    Any (λ (halo : Text × List HaloPart). halo.1 ≡ parts) names.halos
IsOfNames names (item.Period parts) =
    Any (λ (period : Text × List PeriodPart). period.1 ≡ parts) names.periods
IsOfNames names (item.Swap one two) =
    Any (λ (field : Text × ℕ × ℕ). (field.1 ≡ one) × (field.2 ≡ two)) names.fields × (one ≡ two → ⊥)
IsOfNames names (item.Phase ph) =
    (ph.writes < length names.levels) × All (IsKnownRead names) (reads_of ph.expr)

abbrev pub ItemsAreOfNames : Type 0
ItemsAreOfNames = ItemsKeep Anything (λ names items. All (IsOfNames names) items)

-- each level that an item names is below a count
abbrev pub UsesLevels : ℕ → Item → Type 0
UsesLevels count (item.Halo parts) = All (λ (p : HaloPart). p.field < count) parts
UsesLevels count (item.Period parts) = All (λ (p : PeriodPart). p.field < count) parts
UsesLevels count (item.Swap one two) = (one < count) × (two < count)
UsesLevels count (item.Phase ph) =
    (ph.writes < count) × All (λ (r : Read). r.field < count) (reads_of ph.expr)

abbrev pub ItemsUseLevels : Type 0
ItemsUseLevels =
    ItemsKeep HasKnownLevels (λ names items. All (UsesLevels (length names.levels)) items)

-- ---- halos and periods of a plan

-- a halo's and a period's parts are as a plan asks
abbrev pub IsSoundExchange : Plan → Item → Type 0
IsSoundExchange plan (item.Halo parts) = All (IsSoundHaloPart plan) parts
IsSoundExchange plan (item.Period parts) = All (λ (p : PeriodPart). IsLevel plan p.field) parts
IsSoundExchange plan (item.Swap one two) = Unit {0}
IsSoundExchange plan (item.Phase ph) = Unit {0}

abbrev pub ExchangesAreSound : Type 0
ExchangesAreSound =
    (plan : Plan) (items : List Item) → All (UsesLevels (length plan.fields)) items
    → All IsRangedItem items → All HasNarrowCrosses items
    → All (IsSoundExchange plan) items

-- ---- calls

-- a call is of a stored function for calls, with as many arguments as it takes
abbrev pub CallsAreHooks : Type 0
CallsAreHooks = ItemsKeep Anything (λ names items. All (CallsHooks names.hooks) items)

-- no phase calls a stored function
abbrev pub CallsNothing : Item → Type 0
CallsNothing (item.Halo parts) = Unit {0}
CallsNothing (item.Period parts) = Unit {0}
CallsNothing (item.Swap one two) = Unit {0}
CallsNothing (item.Phase ph) = (parts_of ph.expr).calls ≡ []

-- without stored functions there are no calls
abbrev pub NothingIsCalled : Type 0
NothingIsCalled = ItemsKeep (λ names. names.hooks ≡ []) (λ names items. All CallsNothing items)
