-- A line's entry, or the first rule that it breaks.
use Rattle.std.specs.Prelude.{nat_lt, List, length, Result, Err, if◌then◌else◌}
use Rattle.wf_model.specs.declared.registry.Entry.{Entry}
use Rattle.wf_model.specs.declared.registry.Entry.TheVariants.{Dimspec, State, Rconfig, Package}
use Rattle.wf_model.specs.declared.registry.Entry.TheVariants.{Halo, Period}
use Rattle.wf_model.specs.declared.registry.RegistryKind.{RegistryKind}
use Rattle.wf_model.specs.declared.registry.RegistryKind.TheVariants.{UnknownEntry, Unsupported}
use Rattle.wf_model.specs.declared.registry.RegistryKind.TheVariants.{Columns}
use Rattle.wf_model.specs.Reading.{first_fault, unless_fault}
use Rattle.wf_model.specs.Letters.{Text, lower}
use Rattle.wf_model.specs.ValueForms.{whole_value}
use Rattle.wf_model.specs.KeptLines.{kind_word, columns}
use Rattle.wf_model.specs.Entries.{Kind, dimspecs, states, rconfigs, packages, halos, periods}
use Rattle.wf_model.specs.Entries.{left_out, no_kind, named, kind_names, least_columns, column}
use Rattle.wf_model.specs.Entries.{only_byte, package_symbol, package_value, joined_groups}
use Rattle.wf_model.specs.Groups.{points_head, width_head}
use Rattle.wf_model.specs.Judging.{dimspec_faults, state_faults, rconfig_faults, package_faults}
use Rattle.wf_model.specs.Judging.{exchange_faults}

-- by its kind
abbrev pub dimspec_entry : List Entry → List Text → Result Entry RegistryKind
dimspec_entry before cols =
    unless_fault (first_fault (dimspec_faults before cols)) (Dimspec (only_byte (column cols 0))
    (column cols 2) (only_byte (column cols 3)) (column cols 4))

abbrev pub state_entry : List Entry → List Entry → List Text → Result Entry RegistryKind
state_entry all before cols =
    unless_fault (first_fault (state_faults all before cols))
    (State (column cols 0) (lower (column cols 1)) (column cols 2) (column cols 4)
    (column cols 5) (column cols 6) (column cols 7) (column cols 8) (column cols 9))

abbrev pub rconfig_entry : List Entry → List Text → Result Entry RegistryKind
rconfig_entry before cols =
    unless_fault (first_fault (rconfig_faults before cols)) (Rconfig (column cols 0)
    (lower (column cols 1)) (column cols 2) (column cols 3) (column cols 4))

abbrev pub package_entry : List Entry → List Text → Result Entry RegistryKind
package_entry before cols =
    unless_fault (first_fault (package_faults before cols))
    (Package (lower (column cols 0)) (lower (package_symbol (column cols 1)))
    (whole_value (package_value (column cols 1))) (column cols 3))

abbrev pub halo_entry : List Entry → List Text → Result Entry RegistryKind
halo_entry before cols = unless_fault (first_fault (exchange_faults halos points_head before cols))
    (Halo (lower (column cols 0)) (joined_groups cols))

abbrev pub period_entry : List Entry → List Text → Result Entry RegistryKind
period_entry before cols =
    unless_fault (first_fault (exchange_faults periods width_head before cols))
    (Period (lower (column cols 0)) (joined_groups cols))

unfoldable pub column_entry : Kind → List Entry → List Entry → List Text → Result Entry RegistryKind
column_entry dimspecs all before cols = dimspec_entry before cols
column_entry states all before cols = state_entry all before cols
column_entry rconfigs all before cols = rconfig_entry before cols
column_entry packages all before cols = package_entry before cols
column_entry halos all before cols = halo_entry before cols
column_entry periods all before cols = period_entry before cols
column_entry left_out all before cols = Err Unsupported
column_entry no_kind all before cols = Err UnknownEntry

-- the kind of a line of these words
abbrev pub word_kind : List Text → Kind
word_kind words = named kind_names (kind_word words) no_kind

-- too few columns come before what is in them
unfoldable pub line_entry : List Entry → List Entry → List Text → Result Entry RegistryKind
line_entry all before words =
    if nat_lt (length (columns words)) (least_columns (word_kind words)) then Err Columns
    else column_entry (word_kind words) all before (columns words)
