-- The fault of a text that an error tells of.
use Rattle.std.specs.Prelude.{Option, Some, None}
use Rattle.wf_model.specs.declared.namelist.NamelistFault.{NamelistFault}
use Rattle.wf_namelist.specs.declared.error.NamelistError.{NamelistError}
use Rattle.wf_namelist.specs.declared.error.NamelistError.TheVariants.{Fault, Memory}

-- want of memory is no fault of the text
abbrev pub fault_of : NamelistError → Option NamelistFault
fault_of (Fault fault) = Some fault
fault_of Memory = None
