-- What is written of an error.
use Rattle.std.specs.Prelude.{ℕ, List, codes}
use Rattle.wf_io.specs.declared.store.IoError.{IoError}
use Rattle.wf_io.specs.declared.store.IoError.TheVariants.{Fault, Memory}

-- the text of an error
abbrev pub error_text : IoError → List ℕ
error_text Fault = codes "fault of reading or writing"
error_text Memory = codes "out of memory"
