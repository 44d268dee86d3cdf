use Rattle.std.proofs.Common.{◌∙◌, sym, ap}
use Rattle.wf_model.specs.declared.plan.Domain.{Domain}
use Rattle.wf_stream.proofs.StartLemmas.{among_inputs}
use Rattle.wf_stream.proofs.input.start_of_domain.Goals as goal

pub returns-then-domain_of-clause-asked : goal.returns-then-domain_of-clause-asked
returns-then-domain_of-clause-asked g c =
    among_inputs c.args.plan.now c.args.number c.start_of_input.result c.requires.domain (ap (λ (d : Domain). d.from_file) (sym c.domain_of.ensures) ∙ c.if-domain_of.true) c.start_of_input.ensures.on
