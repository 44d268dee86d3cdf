-- Names that groups may list.
use Rattle.std.specs.Prelude.{List, flat_map}
use Rattle.wf_model.specs.declared.registry.Entry.{Entry}
use Rattle.wf_model.specs.Letters.{Text}
use Rattle.wf_model.specs.Entries.{entry_levels, entry_symbol}
use Rattle.wf_registry.specs.declared.unknown.Listed.{Listed}
use Rattle.wf_registry.specs.declared.unknown.Listed.TheVariants as listed

-- the names of a sort that entries declare
abbrev pub declared_of : Listed → List Entry → List Text
declared_of listed.Symbols all = flat_map entry_symbol all
declared_of listed.Levels all = flat_map entry_levels all
