use Rattle.std.proofs.Common.{◌∙◌, List, ℕ, subst}
use Rattle.wf_model.specs.InputOf.{from_file, input_read}
use Rattle.wf_model.specs.Reading.{Gives}
use Rattle.wf_stream.specs.Inputs.{fault_of}
use Rattle.wf_stream.specs.Starts.{begin_in}
use Rattle.wf_stream.proofs.input.start_of_input.Goals as goal

pub returns-in-Ok-clause-begin : goal.returns-in-Ok-clause-begin
returns-in-Ok-clause-begin g c = λ m told.
    subst (λ (name : List ℕ). Gives begin_in fault_of c.start_of_file.result (from_file (input_read c.args.plan.now c.args.number) name (m name)))
    (c.as_str.ensures.value ∙ c.in-Ok.ensures.name) (c.start_of_file.ensures.begin m told)
