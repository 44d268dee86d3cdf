use Rattle.std.proofs.Common.{◌∙◌, sym, ℕ}
use Rattle.std.specs.Prelude.{◌==◌}
use Rattle.wf_registry_columns.proofs.GroupLemmas.{cut_at, cut_none}
use Rattle.wf_registry_columns.proofs.groups.cut.Goals as goal

pub returns-in-Some-clause-parts : goal.returns-in-Some-clause-parts
returns-in-Some-clause-parts c =
    cut_at (λ (b : ℕ). b == c.args.separator) c.args.bytes.now c.split_at.result.0.now c.split_at-in-Some.result.1.now c.in-Some.at (sym c.place_of.ensures.place ∙ c.in-Some.is) c.split_at.ensures.front c.split_at-in-Some.ensures.back

pub returns-in-None-clause-parts : goal.returns-in-None-clause-parts
returns-in-None-clause-parts c = cut_none (λ (b : ℕ). b == c.args.separator) c.args.bytes.now (sym c.place_of.ensures.place ∙ c.in-None.is)
