-- Entries that use only names that are declared.
use Rattle.std.specs.Prelude.{◌≡◌, ℕ, ◌<◌, true, false, List, [], length, slice_index_or}
use Rattle.wf_model.specs.declared.registry.Entry.{Entry}
use Rattle.wf_model.specs.declared.registry.Entry.TheVariants.{Halo}
use Rattle.wf_model.specs.Registry.{names_known}

-- each entry before this place does, where these are all entries
abbrev pub AreKnownBelow : List Entry → List Entry → ℕ → Type 0
AreKnownBelow all es n = (k : ℕ) → k < n → names_known all (slice_index_or es k (Halo [] [])) ≡ true

-- the first that doesn't stands at this place
pub record IsFirstUnknown (all es : List Entry) (at : ℕ) : Type 0 where
  pub within : at < length es
  pub before : AreKnownBelow all es at
  pub unknown : names_known all (slice_index_or es at (Halo [] [])) ≡ false
