-- Names that are indexed for entries.
use Rattle.std.specs.Prelude.{◌≡◌, ◌&&◌, not, List, [], ◌∷◌, flat_map, if◌then◌else◌}
use Rattle.wf_model.specs.declared.registry.Entry.{Entry}
use Rattle.wf_model.specs.declared.registry.Entry.TheVariants.{Rconfig}
use Rattle.wf_model.specs.Letters.{Text, is_among}
use Rattle.wf_registry.specs.declared.indexing.Index.{Index}
use Rattle.wf_model.specs.Entries.{Kind, dimspecs, rconfigs, packages, halos, periods, same_kind}
use Rattle.wf_model.specs.Entries.{entry_name, entry_datasets, entry_levels, entry_symbol}
use Rattle.wf_model.specs.Entries.{entry_variables, is_integer, is_integer_rconfig}

-- the names of entries of a kind
abbrev pub names_of : Kind → Entry → List Text
names_of kind e = if same_kind kind (entry_name e).0 then (entry_name e).1 ∷ [] else []

-- the symbol of an integer rconfig, unless another rconfig has it
abbrev pub integer_names : List Text → Entry → List Text
integer_names rconfig_names (Rconfig kind symbol how entries default) =
    if is_integer kind && not (is_among symbol rconfig_names) then symbol ∷ [] else []
integer_names rconfig_names e = []

-- the same words are among both
abbrev pub SameNames : List Text → List Text → Type 0
SameNames names others = (w : Text) → is_among w names ≡ is_among w others

-- the index has the names that the entries declare
pub record IsIndexed (es : List Entry) (index : Index) : Type 0 where
  pub dimspecs : SameNames index.kinds.dimspecs (flat_map (names_of dimspecs) es)
  pub rconfigs : SameNames index.kinds.rconfigs (flat_map (names_of rconfigs) es)
  pub integers : (w : Text) → is_among w index.kinds.integers ≡ is_integer_rconfig es w
  pub packages : SameNames index.kinds.packages (flat_map (names_of packages) es)
  pub halos : SameNames index.kinds.halos (flat_map (names_of halos) es)
  pub periods : SameNames index.kinds.periods (flat_map (names_of periods) es)
  pub symbols : SameNames index.fields.words.symbols (flat_map entry_symbol es)
  pub levels : SameNames index.fields.words.levels (flat_map entry_levels es)
  pub variables : SameNames index.fields.variables (flat_map entry_variables es)
  pub datasets : SameNames index.fields.datasets (flat_map entry_datasets es)
