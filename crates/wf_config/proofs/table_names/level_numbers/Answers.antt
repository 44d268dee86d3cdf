use Rattle.std.proofs.Common.{List, ℕ, Bor, map, ap, ◌∙◌}
use Rattle.wf_model.specs.Letters.{lower}
use Rattle.wf_model.specs.Groups.{names_in}
use Rattle.wf_model.specs.NamesOf.{level_number}
use Rattle.wf_config.proofs.Loops.{kept_all, kept_at}
use Rattle.wf_config.proofs.table_names.level_numbers.Goals as goal

pub loop-name-preserved : goal.loop-name-preserved
loop-name-preserved c =
    c.in_ok-push_some.ensures
    ∙ kept_at (λ (w : Bor (List ℕ)). level_number c.args.levels.now (lower w.now)) c.loop-name.numbers.items c.in_ok-level_number.field-0 c.as_slice-name-items.result.now c.loop-name.name-index _ c.loop-name-test.true c.in_ok-level_number.ensures c.loop-name.invariant

pub returns : goal.returns
returns c =
    kept_all (λ name. level_number c.args.levels.now (lower name)) (λ (w : Bor (List ℕ)). w.now) c.loop-name.numbers.items c.as_slice-name-items.result.now (names_in c.args.group.now) c.loop-name.name-index c.loop-name-test.false
    (ap (map (λ (w : Bor (List ℕ)). w.now)) c.as_slice-name-items.ensures.value ∙ c.in_ok-names.ensures) c.loop-name.invariant
