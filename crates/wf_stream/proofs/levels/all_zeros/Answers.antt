use Rattle.std.proofs.Common.{◌≡◌, ◌∙◌, sym, subst, ap, ℕ, List, map, length, arith}
use Rattle.std.specs.Prelude.{ℤ}
use Rattle.std.specs.List.{range_with_len}
use Rattle.wf_model.specs.declared.plan.Field.{Field}
use Rattle.wf_model.specs.InputOf.{zeros}
use Rattle.wf_stream.specs.Levels.{HasLevels}
use Rattle.wf_stream.proofs.LevelLemmas.{levels_zero, one_list_more}
use Rattle.wf_stream.proofs.levels.all_zeros.Goals as goal

pub loop-level-preserved : goal.loop-level-preserved
loop-level-preserved c =
    one_list_more (zeros c.args.plan.now c.args.number) c.loop-level.grids.items c.push.new.self.items c.in_ok-zeros.field-0 c.loop-level.level
    c.loop-level.invariant c.in_ok-zeros.ensures c.in_ok-push.ensures.items

pub returns-clause-levels : goal.returns-clause-levels
returns-clause-levels c =
    let end : c.loop-level.level ≡ length c.args.plan.now.fields = omega (arith, ap (λ (fields : List Field). length fields) c.as_slice-level-end.ensures) in
    subst (λ (grids : List (List ℤ)). HasLevels c.args.plan.now c.args.number grids)
    (sym (c.from_vec.ensures ∙ c.loop-level.invariant ∙ ap (λ (n : ℕ). map (zeros c.args.plan.now c.args.number) (range_with_len 0 n)) end))
    (levels_zero c.args.plan.now c.args.number)
