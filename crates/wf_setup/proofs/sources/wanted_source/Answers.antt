use Rattle.wf_setup.proofs.WantedFiles.{none_wanted, none_taken, found_named}
use Rattle.wf_setup.proofs.Faults.{found_on}
use Rattle.wf_setup.proofs.sources.wanted_source.Goals as goal

pub returns-in_default-clause-found : goal.returns-in_default-clause-found
returns-in_default-clause-found g c = λ m told. none_wanted m c.args.fault.now c.in_default.ensures

pub returns-in-Some-store_name-clause-found : goal.returns-in-Some-store_name-clause-found
returns-in-Some-store_name-clause-found g c =
    found_named (g.S.Store.files c.args.store.now) c.args.fault.now c.in-Some.name.now c.in-Some-store_name.name.now c.read_source.result
    c.in-Some.ensures c.in-Some-store_name.ensures.0 c.in-Some-store_name.ensures.1 c.read_source.ensures.found

pub returns-in-None-clause-found : goal.returns-in-None-clause-found
returns-in-None-clause-found g c = λ m told. none_taken m c.args.fault.now c.in-Some.name.now c.in-Some.ensures c.in-None.ensures

pub returns-in-Some-store_name-clause-on : goal.returns-in-Some-store_name-clause-on
returns-in-Some-store_name-clause-on g c =
    found_on c.args.fault.now c.in-Some.name.now c.in-Some-store_name.name.now c.read_source.result
    c.in-Some.ensures c.in-Some-store_name.ensures.0 c.in-Some-store_name.ensures.1 c.read_source.ensures.on
