use Rattle.std.proofs.Common.{List, sym, ap, ◌∙◌, arith, ◌≤◌, length}
use Rattle.std.specs.List.{flat_map}
use Rattle.std.proofs.lemmas.List.{take_all}
use Rattle.std.proofs.lemmas.List.Folds.{flat_map-map}
use Rattle.wf_model.specs.BuiltIns.{built_ins, NameRule}
use Rattle.wf_config.specs.Rules.{has_names, row_of}
use Rattle.wf_config.proofs.Loops.{passes}
use Rattle.wf_config.proofs.built_ins.built_ins.Goals as goal

pub add_row-requires : goal.add_row-requires
add_row-requires c = passes has_names c.rows-rows.result c.loop-row.row-index _ (omega arith) c.rows-rows.ensures.names

pub returns : goal.returns
unfolding built_ins
returns c =
    let all : length c.rows-rows.result ≤ c.loop-row.row-index = omega arith in
    c.loop-row.invariant ∙ ap (flat_map row_of) (take_all c.loop-row.row-index c.rows-rows.result all)
    ∙ sym (flat_map-map (λ (rs : List NameRule). rs) row_of c.rows-rows.result) ∙ ap (flat_map (λ (rs : List NameRule). rs)) c.rows-rows.ensures.rows
