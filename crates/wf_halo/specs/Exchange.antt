-- The messages of halos and periods: between which patches, and of which numbers.
use Rattle.std.specs.Prelude.{◌≡◌, ℕ, ◌<◌, ◌==◌, Bool, true, false, All, List, ◌++◌, length, map}
use Rattle.std.specs.Prelude.{filter, flat_map, ℤ}
use Rattle.wf_model.specs.declared.layout.Layout.{Layout}
use Rattle.wf_model.specs.declared.plan.Plan.{Plan}
use Rattle.wf_model.specs.declared.plan.HaloPart.{HaloPart}
use Rattle.wf_model.specs.declared.plan.PeriodPart.{PeriodPart}
use Rattle.wf_model.specs.declared.plan.Item.{Item}
use Rattle.wf_model.specs.declared.plan.Item.TheVariants as item
use Rattle.wf_model.specs.declared.script.Act.TheVariants.{Table}
use Rattle.wf_model.specs.Agreement.{IsOwnCell, cell_number}
use Rattle.wf_model.specs.Core.{memory_point}
use Rattle.wf_model.specs.Exchange.{Letter}
use Rattle.wf_model.specs.Held.{numbers_at}
use Rattle.wf_model.specs.Outcome.{RunData, script, entry_at}
use Rattle.wf_model.specs.Patches.{Cell, split_of}
use Rattle.wf_model.specs.Shapes.{cell_owner, fetched_cells, grid_cell}
use Rattle.wf_model.specs.Sound.{IsLevel}
use Rattle.wf_field.specs.Kept.{KeptMemory, number_in}
use Rattle.wf_halo.specs.declared.parts.Between.{Between}
use Rattle.wf_halo.specs.Parts.{IsLink, around, part_cells}

-- a memory's own cells hold the run's numbers before a place: the grids', and past the first
-- overflow those of the lockstep run
abbrev pub HoldsOwnNumbers : RunData → Layout → ℕ → KeptMemory → Type 0
HoldsOwnNumbers r layout place m =
    (c : Cell) → IsLevel r.plan c.field → IsOwnCell r.plan (split_of layout) m.domain m.patch c
    → cell_number (number_in r.plan layout m) c
    ≡ grid_cell r.plan m.domain (numbers_at r layout place) c

-- a place of the script has an item of the table, of a domain. Of these halos and periods send
pub record IsExchange (r : RunData) (place d : ℕ) : Type 0 where
  pub within : place < length (script r)
  pub domain : (entry_at r place).domain ≡ d
  pub number : ℕ
  pub act : (entry_at r place).act ≡ Table number
  pub item : number < length (r.plan).items

-- a message of a place, from a patch to another. Its type keeps that its numbers are the run's
pub record IsMessage (place from to : ℕ) (m : Letter) : Type 0 where
  pub place_is : m.place ≡ place
  pub from_is : m.from ≡ from
  pub to_is : m.to ≡ to

-- the parts of an item, between two patches
abbrev pub AreLinked : RunData → Layout → Between → Item → Type 0
AreLinked r layout b (item.Halo parts) = All (IsLink r layout b) parts
AreLinked r layout b (item.Period parts) =
    All (λ (x : PeriodPart). IsLink r layout b (around x)) parts
AreLinked r layout b (item.Swap one two) = Unit {0}
AreLinked r layout b (item.Phase ph) = Unit {0}

-- the memory is the sender's
pub record IsSender (m : KeptMemory) (b : Between) : Type 0 where
  pub domain : b.domain ≡ m.domain
  pub patch : b.from ≡ m.patch

-- or the receiver's
pub record IsReceiver (m : KeptMemory) (b : Between) : Type 0 where
  pub domain : b.domain ≡ m.domain
  pub patch : b.to ≡ m.patch

-- the cells that an item brings
abbrev pub item_cells : Plan → Layout → Between → Item → List Cell
item_cells plan layout b it =
    filter (λ c. cell_owner plan (split_of layout) b.domain c == b.from)
    (fetched_cells plan (split_of layout) b.domain it b.to)

-- those of a part, of the parts of a halo, and of the parts of a period
abbrev pub brought : Plan → Layout → Between → Bool → HaloPart → List Cell
brought plan layout b = part_cells plan (split_of layout) b.domain b.to b.from

abbrev pub halo_list : Plan → Layout → Between → List HaloPart → List Cell
halo_list plan layout b parts = flat_map (brought plan layout b false) parts

abbrev pub period_list : Plan → Layout → Between → List PeriodPart → List Cell
period_list plan layout b parts =
    flat_map (λ (x : PeriodPart). brought plan layout b true (around x)) parts

-- numbers and behind them those of some cells' points, in a memory
abbrev pub Adds : RunData → Layout → KeptMemory → List Cell → List ℤ → List ℤ → Type 0
Adds r layout m cells old new =
    new ≡ old ++ map (memory_point r.plan m.domain (number_in r.plan layout m)) cells
