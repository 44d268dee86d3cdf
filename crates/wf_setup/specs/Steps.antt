-- One more file of a Registry.
use Rattle.std.specs.Prelude.{List, Option, Some, None, Result, Ok, Err}
use Rattle.wf_model.specs.declared.registry.SourceFile.{SourceFile}
use Rattle.wf_model.specs.declared.registry.Registry.{Registry}
use Rattle.wf_model.specs.declared.registry.RegistryFault.{RegistryFault}
use Rattle.wf_model.specs.KeptLines.{Defines}
use Rattle.wf_model.specs.Registry.{registry_of}
use Rattle.wf_model.specs.Files.{Files}
use Rattle.wf_model.specs.Refusals.{Refusal, registry_refusal}
use Rattle.wf_setup.specs.declared.registry_files.Step.{Step}
use Rattle.wf_setup.specs.declared.registry_files.Step.TheVariants.{Read, Wants}
use Rattle.wf_setup.specs.Asked.{wanted_source}

abbrev pub step_with : RegistryFault → Option SourceFile → Result Step Refusal
step_with f None = Err (registry_refusal f)
step_with f (Some file) = Ok (Wants file)

abbrev pub step_after : Files → Result Registry RegistryFault → Result Step Refusal
step_after files (Ok r) = Ok (Read r)
step_after files (Err f) = step_with f (wanted_source files f)

-- the Registry of these files, or the file that it wants, or its refusal
unfoldable pub step_of : Files → Defines → List SourceFile → Result Step Refusal
step_of files defines have = step_after files (registry_of have defines)
