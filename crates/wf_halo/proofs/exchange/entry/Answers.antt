use Rattle.std.proofs.Common.{List, length, get_or, ap, ◌∙◌, arith}
use Rattle.std.proofs.lemmas.List.{get_or_default}
use Rattle.wf_model.specs.declared.script.Entry.{Entry}
use Rattle.wf_model.specs.Outcome.{entry_at, no_entry}
use Rattle.wf_halo.proofs.exchange.entry.Goals as goal

pub returns : goal.returns
unfolding entry_at
returns g c =
    get_or_default c.script.result.now c.args.place _ no_entry (omega (arith, ap length c.script.ensures, c.requires))
    ∙ ap (λ (l : List Entry). get_or l c.args.place no_entry) c.script.ensures
