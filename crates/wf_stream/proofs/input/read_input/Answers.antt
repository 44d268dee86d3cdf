use Rattle.std.proofs.Common.{map}
use Rattle.wf_stream.specs.Inputs.{fault_of}
use Rattle.wf_stream.specs.Starts.{begin_in}
use Rattle.wf_stream.proofs.StartLemmas.{fitting_initial, input_fails, input_read}
use Rattle.wf_stream.proofs.input.read_input.Goals as goal

pub returns-in-Err-clause-initial : goal.returns-in-Err-clause-initial
returns-in-Err-clause-initial g c = λ m told. input_fails m c.args.plan.now (fault_of c.in-Err.error) c.requires.no_restart (c.in-Err.ensures.begins m told)

pub returns-in-Ok-initial_of-clause-initial : goal.returns-in-Ok-initial_of-clause-initial
returns-in-Ok-initial_of-clause-initial g c = λ m told.
    input_read m c.args.plan.now (map begin_in c.in-Ok.starts.items) c.in-Ok-initial_of.initial c.requires.no_restart (c.in-Ok.ensures.begins m told) c.in-Ok-initial_of.ensures

pub returns-in-Ok-initial_of-clause-fits : goal.returns-in-Ok-initial_of-clause-fits
returns-in-Ok-initial_of-clause-fits g c =
    fitting_initial c.args.plan.now c.in-Ok.starts.items c.in-Ok-initial_of.initial c.in-Ok.ensures.count c.in-Ok.ensures.fits c.requires.ranged c.requires.no_restart c.in-Ok-initial_of.ensures
