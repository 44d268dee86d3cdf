-- Which fault an error tells; want of memory tells none.
use Rattle.std.specs.Prelude.{Option, Some, None}
use Rattle.wf_model.specs.declared.cdf_error.CdfError.{CdfError}
use Rattle.wf_model.specs.declared.cdf_error.SlabError.{SlabError}
use Rattle.wf_cdfread.specs.declared.error.HeaderError.{HeaderError}
use Rattle.wf_cdfread.specs.declared.error.HeaderError.TheVariants as header
use Rattle.wf_cdfread.specs.declared.error.ValuesError.{ValuesError}
use Rattle.wf_cdfread.specs.declared.error.ValuesError.TheVariants as values

-- why bytes are no header
abbrev pub fault_of : HeaderError → Option CdfError
fault_of header.Memory = None
fault_of (header.Fault f) = Some f

-- why a file has no such values
abbrev pub slab_fault_of : ValuesError → Option SlabError
slab_fault_of values.Memory = None
slab_fault_of (values.Fault f) = Some f
