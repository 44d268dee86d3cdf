use Rattle.std.proofs.Common.{refl, codes}
use Rattle.wf_setup.specs.Errors.{refusal_of}
use Rattle.wf_setup.specs.Asked.{config_names, case_names}
use Rattle.wf_setup.proofs.CaseChain.{case_config_fails, case_plan_fails, case_given, config_among, table_among}
use Rattle.wf_setup.proofs.SetUps.{is_set_up, calls_hooks}
use Rattle.wf_setup.proofs.Stores.{told_still}
use Rattle.wf_setup.proofs.Faults.{among_from, among_on}
use Rattle.wf_setup.proofs.cases.read_case.Goals as goal

pub returns-in-Err-clause-case : goal.returns-in-Err-clause-case
returns-in-Err-clause-case g c = λ m told. case_config_fails c.args.hooks.now m c.args.defines.now (refusal_of c.in-Err.error) (c.in-Err.ensures.config m told)

pub returns-in-Err-clause-asked : goal.returns-in-Err-clause-asked
returns-in-Err-clause-asked g c = λ m told.
    among_from c.in-Err.error (config_names m c.args.defines.now) (case_names m c.args.defines.now) (config_among m c.args.defines.now) (c.in-Err.ensures.asked m told)

pub returns-in-Err-plan_of_store-clause-case : goal.returns-in-Err-plan_of_store-clause-case
returns-in-Err-plan_of_store-clause-case g c = λ m told.
    let still = told_still (g.S.Store.files c.args.store.now) (g.S.Store.files c.read_config.new.store) (g.S.Store.faults c.args.store.now) (g.S.Store.faults c.read_config.new.store) c.in-Ok.ensures.only m told in
    case_plan_fails c.args.hooks.now m c.args.defines.now (refusal_of c.in-Err-plan_of_store.error) c.in-Ok.config (c.in-Ok.ensures.config m told) (c.in-Err-plan_of_store.ensures.plan m still)

pub returns-in-Err-plan_of_store-clause-asked : goal.returns-in-Err-plan_of_store-clause-asked
returns-in-Err-plan_of_store-clause-asked g c = λ m told.
    among_on c.in-Err-plan_of_store.error (codes "stencil.table") (case_names m c.args.defines.now)
    (table_among m c.args.defines.now c.in-Ok.config (codes "stencil.table") (c.in-Ok.ensures.config m told) refl) c.in-Err-plan_of_store.ensures.on

pub returns-in-Ok-plan_of_store-clause-case : goal.returns-in-Ok-plan_of_store-clause-case
returns-in-Ok-plan_of_store-clause-case g c = λ m told.
    let still = told_still (g.S.Store.files c.args.store.now) (g.S.Store.files c.read_config.new.store) (g.S.Store.faults c.args.store.now) (g.S.Store.faults c.read_config.new.store) c.in-Ok.ensures.only m told in
    case_given c.args.hooks.now m c.args.defines.now c.in-Ok.config c.in-Ok-plan_of_store.plan (c.in-Ok.ensures.config m told) (c.in-Ok-plan_of_store.ensures.plan m still)

pub returns-in-Ok-plan_of_store-clause-sound : goal.returns-in-Ok-plan_of_store-clause-sound
returns-in-Ok-plan_of_store-clause-sound g c =
    is_set_up c.args.hooks.now c.args.defines.now c.in-Ok.config c.in-Ok-plan_of_store.plan c.requires c.in-Ok.ensures.bound c.in-Ok-plan_of_store.ensures.planned

pub returns-in-Ok-plan_of_store-clause-calls : goal.returns-in-Ok-plan_of_store-clause-calls
returns-in-Ok-plan_of_store-clause-calls g c =
    calls_hooks c.args.hooks.now c.args.defines.now c.in-Ok.config c.in-Ok-plan_of_store.plan c.requires c.in-Ok.ensures.bound c.in-Ok-plan_of_store.ensures.planned
