-- The fault that an error tells of.
use Rattle.std.specs.Prelude.{Option, Some, None}
use Rattle.wf_model.specs.declared.config.ConfigFault.{ConfigFault}
use Rattle.wf_config.specs.declared.error.ConfigError.{ConfigError}
use Rattle.wf_config.specs.declared.error.ConfigError.TheVariants as config

-- want of memory is no fault of Registry and namelist
abbrev pub fault_of : ConfigError → Option ConfigFault
fault_of config.Memory = None
fault_of (config.Fault f) = Some f
