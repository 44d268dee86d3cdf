-- Which refusal an error tells; want of memory tells none.
use Rattle.std.specs.Prelude.{Option, Some, None}
use Rattle.wf_model.specs.declared.table.TableFault.{TableFault}
use Rattle.wf_model.specs.declared.table.TableKind.{TableKind}
use Rattle.wf_table.specs.declared.error.LineError.{LineError}
use Rattle.wf_table.specs.declared.error.LineError.TheVariants as line
use Rattle.wf_table.specs.declared.error.TableError.{TableError}
use Rattle.wf_table.specs.declared.error.TableError.TheVariants as table

-- why a text is no table
abbrev pub fault_of : TableError → Option TableFault
fault_of table.Memory = None
fault_of (table.Fault f) = Some f

-- why a line holds no item
abbrev pub kind_of : LineError → Option TableKind
kind_of line.Memory = None
kind_of (line.Kind k) = Some k
