-- The grammar of the table in the parts that its reader takes.
use Rattle.std.specs.Prelude.{ℕ, List, [], length, nat_le, Option, Some, None, Result, Err}
use Rattle.std.specs.Prelude.{if◌then◌else◌}
use Rattle.wf_model.specs.declared.text.Line.{Line}
use Rattle.wf_model.specs.declared.plan.Item.{Item}
use Rattle.wf_model.specs.declared.table.Names.{Names}
use Rattle.wf_model.specs.declared.table.TableKind.{TableKind}
use Rattle.wf_model.specs.declared.table.TableKind.TheVariants.{TooLong}
use Rattle.wf_model.specs.declared.table.TableFault.{TableFault}
use Rattle.wf_model.specs.Reading.{◌>>=◌, told_as}
use Rattle.wf_model.specs.Lines.{lines_read}
use Rattle.wf_model.specs.Tokens.{joined_text}
use Rattle.wf_model.specs.Table.{fault_in, item_of_text, items_from, most_items, unless_bad}

-- what is told of a line
abbrev pub line_fault : ℕ → Option TableKind → Option TableFault
line_fault line None = None
line_fault line (Some k) = Some (record { line = line; kind = k })

-- the item of a line, behind these
unfoldable pub item_of_line : Names → List Item → Line → Result Item TableFault
item_of_line names before l =
    if nat_le most_items (length before) then Err (fault_in l TooLong)
    else told_as (fault_in l) (item_of_text names before (joined_text l))

-- the items of a text
unfoldable pub items_of_text : List ℕ → Names → Result (List Item) TableFault
items_of_text text names =
    items_from names [] (lines_read text).lines >>= unless_bad (lines_read text).fault
