-- The fault of a text that an error tells of.
use Rattle.std.specs.Prelude.{Option, Some, None}
use Rattle.wf_model.specs.declared.text.TextFault.{TextFault}
use Rattle.wf_model.specs.declared.text.TextFault.TheVariants as faults
use Rattle.wf_text.specs.declared.error.TextError.{TextError}
use Rattle.wf_text.specs.declared.error.TextError.TheVariants as errors

-- want of memory is no fault of the text
abbrev pub fault_of : TextError → Option TextFault
fault_of (errors.UnclosedQuote line column) = Some (faults.UnclosedQuote line column)
fault_of (errors.DanglingBackslash line) = Some (faults.DanglingBackslash line)
fault_of errors.Memory = None
