use Rattle.wf_setup.specs.Asked.{case_names}
use Rattle.wf_setup.specs.Errors.{refusal_of}
use Rattle.wf_setup.proofs.Stores.{told_still}
use Rattle.wf_setup.proofs.Faults.{among_from}
use Rattle.wf_stream.specs.Inputs.{input_names}
use Rattle.wf_top.specs.Plain.{plain_names, storing}
use Rattle.wf_top.proofs.RunLaws.{run_given, texts_fail, inputs_fail, text_among, input_among}
use Rattle.wf_top.proofs.plain.read_run.Goals as goal

pub returns-in-Err-clause-run : goal.returns-in-Err-clause-run
returns-in-Err-clause-run g c = λ m told. texts_fail (storing c.args.hooks.now g.M.Meanings.answer) m c.args.defines.now (refusal_of c.in-Err.error) (c.in-Err.ensures.case m told)

pub returns-in-Err-clause-asked : goal.returns-in-Err-clause-asked
returns-in-Err-clause-asked g c = λ m told.
    among_from c.in-Err.error (case_names m c.args.defines.now) (plain_names (storing c.args.hooks.now g.M.Meanings.answer) m c.args.defines.now) (text_among (storing c.args.hooks.now g.M.Meanings.answer) m c.args.defines.now) (c.in-Err.ensures.asked m told)

pub returns-in-Err-read_begin_data-clause-run : goal.returns-in-Err-read_begin_data-clause-run
returns-in-Err-read_begin_data-clause-run g c = λ m told.
    let still = told_still (g.S.Store.files c.args.store.now) (g.S.Store.files c.case_of_store.new.store) (g.S.Store.faults c.args.store.now) (g.S.Store.faults c.case_of_store.new.store) c.in-Ok.ensures.only m told in
    inputs_fail (storing c.args.hooks.now g.M.Meanings.answer) m c.args.defines.now (refusal_of c.in-Err-read_begin_data.error) c.in-Ok.case (c.in-Ok.ensures.case m told) (c.in-Err-read_begin_data.ensures.initial m still)

pub returns-in-Err-read_begin_data-clause-asked : goal.returns-in-Err-read_begin_data-clause-asked
returns-in-Err-read_begin_data-clause-asked g c = λ m told.
    among_from c.in-Err-read_begin_data.error (input_names c.in-Ok.case.plan) (plain_names (storing c.args.hooks.now g.M.Meanings.answer) m c.args.defines.now)
    (λ q. input_among (storing c.args.hooks.now g.M.Meanings.answer) m c.args.defines.now c.in-Ok.case q (c.in-Ok.ensures.case m told)) c.in-Err-read_begin_data.ensures.asked

pub returns-in-Ok-read_begin_data-clause-run : goal.returns-in-Ok-read_begin_data-clause-run
returns-in-Ok-read_begin_data-clause-run g c = λ m told.
    let still = told_still (g.S.Store.files c.args.store.now) (g.S.Store.files c.case_of_store.new.store) (g.S.Store.faults c.args.store.now) (g.S.Store.faults c.case_of_store.new.store) c.in-Ok.ensures.only m told in
    run_given (storing c.args.hooks.now g.M.Meanings.answer) m c.args.defines.now c.in-Ok.case c.in-Ok-read_begin_data.initial (c.in-Ok.ensures.case m told) (c.in-Ok-read_begin_data.ensures.initial m still)
