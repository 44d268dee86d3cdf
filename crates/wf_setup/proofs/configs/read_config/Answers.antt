use Rattle.std.proofs.Common.{refl, codes}
use Rattle.wf_setup.specs.Errors.{refusal_of}
use Rattle.wf_setup.specs.Asked.{registry_names, config_names}
use Rattle.wf_setup.proofs.ConfigChain.{config_registry_fails, config_namelist_fails, config_given, registry_among, namelist_among}
use Rattle.wf_setup.proofs.Stores.{told_still}
use Rattle.wf_setup.proofs.Faults.{among_from, among_on}
use Rattle.wf_setup.proofs.configs.read_config.Goals as goal

pub returns-in-Err-clause-config : goal.returns-in-Err-clause-config
returns-in-Err-clause-config g c = λ m told. config_registry_fails m c.args.defines.now (refusal_of c.in-Err.error) (c.in-Err.ensures.registry m told)

pub returns-in-Err-clause-asked : goal.returns-in-Err-clause-asked
returns-in-Err-clause-asked g c = λ m told.
    among_from c.in-Err.error (registry_names m c.args.defines.now) (config_names m c.args.defines.now) (registry_among m c.args.defines.now) (c.in-Err.ensures.asked m told)

pub returns-in-Err-namelist_of_store-clause-config : goal.returns-in-Err-namelist_of_store-clause-config
returns-in-Err-namelist_of_store-clause-config g c = λ m told.
    let still = told_still (g.S.Store.files c.args.store.now) (g.S.Store.files c.registry_of_store.new.store) (g.S.Store.faults c.args.store.now) (g.S.Store.faults c.registry_of_store.new.store) c.in-Ok.ensures.only m told in
    config_namelist_fails m c.args.defines.now (refusal_of c.in-Err-namelist_of_store.error) c.in-Ok.registry (c.in-Ok.ensures.registry m told) (c.in-Err-namelist_of_store.ensures.namelist m still)

pub returns-in-Err-namelist_of_store-clause-asked : goal.returns-in-Err-namelist_of_store-clause-asked
returns-in-Err-namelist_of_store-clause-asked g c = λ m told.
    among_on c.in-Err-namelist_of_store.error (codes "namelist.input") (config_names m c.args.defines.now)
    (namelist_among m c.args.defines.now c.in-Ok.registry (codes "namelist.input") (c.in-Ok.ensures.registry m told) refl) c.in-Err-namelist_of_store.ensures.on

pub returns-clause-config : goal.returns-clause-config
returns-clause-config g c = λ m told.
    let still = told_still (g.S.Store.files c.args.store.now) (g.S.Store.files c.registry_of_store.new.store) (g.S.Store.faults c.args.store.now) (g.S.Store.faults c.registry_of_store.new.store) c.in-Ok.ensures.only m told in
    config_given m c.args.defines.now c.bound.result c.in-Ok.registry c.in-Ok-namelist_of_store.namelist (c.in-Ok.ensures.registry m told) (c.in-Ok-namelist_of_store.ensures.namelist m still) c.bound.ensures.config
