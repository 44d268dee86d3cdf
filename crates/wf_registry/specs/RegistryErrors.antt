-- Which refusal an error tells; want of memory tells none.
use Rattle.std.specs.Prelude.{Option, Some, None}
use Rattle.wf_model.specs.declared.registry.RegistryFault.{RegistryFault}
use Rattle.wf_model.specs.declared.registry.RegistryKind.{RegistryKind}
use Rattle.wf_registry.specs.declared.error.RegistryError.{RegistryError}
use Rattle.wf_registry.specs.declared.error.RegistryError.TheVariants as registry
use Rattle.wf_registry.specs.declared.error.LineError.{LineError}
use Rattle.wf_registry.specs.declared.error.LineError.TheVariants as line

-- why a Registry is refused
abbrev pub fault_of : RegistryError → Option RegistryFault
fault_of registry.Memory = None
fault_of (registry.Fault f) = Some f

-- the rule that a line breaks
abbrev pub rule_of : LineError → Option RegistryKind
rule_of line.Memory = None
rule_of (line.Rule k) = Some k
