-- Parts of the names that a table may use.
use Rattle.std.specs.Prelude.{ℕ, ◌+◌, ◌-◌, Bool, List, length, map, filter_map}
use Rattle.wf_model.specs.declared.registry.Entry.{Entry}
use Rattle.wf_model.specs.Letters.{Text, lower}
use Rattle.wf_model.specs.Entries.{entry_levels, entry_symbol}
use Rattle.wf_model.specs.Groups.{names_in}
use Rattle.wf_model.specs.NamesOf.{level_number}

-- an entry's symbol, and the numbers of its first and last level
abbrev pub field_of : ℕ → Entry → List (Text × ℕ × ℕ)
field_of first e =
    map (λ symbol. (symbol, first, first + length (entry_levels e) - 1)) (entry_symbol e)

-- the numbers of the levels that a group names
abbrev pub level_numbers : List (Text × Bool) → Text → List ℕ
level_numbers levels group = filter_map (λ name. level_number levels (lower name)) (names_in group)
