use Rattle.std.proofs.Common.{◌≡◌, ◌∙◌, ◌<◌, sym, subst, ap, ℕ, List, map, length, arith}
use Rattle.std.specs.Prelude.{ℤ}
use Rattle.std.specs.List.{range_with_len}
use Rattle.wf_cdf.proofs.LevelLoops.{ranged}
use Rattle.wf_model.specs.declared.plan.Field.{Field}
use Rattle.wf_stream.specs.Levels.{HasLevels, level_begin}
use Rattle.wf_stream.proofs.SlabLemmas.{found_level}
use Rattle.wf_stream.proofs.LevelLemmas.{levels_read, one_list_more}
use Rattle.wf_stream.proofs.levels.grids_read.Goals as goal

pub level_begin-requires-clause-field : goal.level_begin-requires-clause-field
level_begin-requires-clause-field c =
    let is : c.loop-level.level < length c.args.plan.now.fields = omega (arith, ap (λ (fields : List Field). length fields) c.as_slice-level-end.ensures) in
    ranged c.args.plan.now c.loop-level.level is c.requires.fields

pub level_begin-requires-clause-found : goal.level_begin-requires-clause-found
level_begin-requires-clause-found c =
    let is : c.loop-level.level < length c.args.plan.now.fields = omega (arith, ap (λ (fields : List Field). length fields) c.as_slice-level-end.ensures) in
    found_level c.args.plan.now c.args.number c.args.bytes.now c.args.header.now c.loop-level.level c.requires.found is

pub loop-level-preserved : goal.loop-level-preserved
loop-level-preserved c =
    one_list_more (level_begin c.args.plan.now c.args.number c.args.bytes.now c.args.header.now) c.loop-level.grids.items c.push.new.self.items c.in_ok-level_begin.field-0 c.loop-level.level
    c.loop-level.invariant c.in_ok-level_begin.ensures c.in_ok-push.ensures.items

pub returns-clause-levels : goal.returns-clause-levels
returns-clause-levels c =
    let end : c.loop-level.level ≡ length c.args.plan.now.fields = omega (arith, ap (λ (fields : List Field). length fields) c.as_slice-level-end.ensures) in
    subst (λ (grids : List (List ℤ)). HasLevels c.args.plan.now c.args.number grids)
    (sym (c.from_vec.ensures ∙ c.loop-level.invariant ∙ ap (λ (n : ℕ). map (level_begin c.args.plan.now c.args.number c.args.bytes.now c.args.header.now) (range_with_len 0 n)) end))
    (levels_read c.args.plan.now c.args.number c.args.bytes.now c.args.header.now)
