use Rattle.std.proofs.Common.{◌++◌, ◌∷◌, [], ◌+◌, map, ℕ, ap, ◌∙◌, arith}
use Rattle.std.proofs.lemmas.List.FromFn.{map-range_with_len_more}
use Rattle.std.specs.List.{range_with_len}
use Rattle.wf_model.specs.declared.script.Act.TheVariants.{Table}
use Rattle.wf_model.specs.declared.script.Entry.{Entry}
use Rattle.wf_model.specs.Script.{entry}
use Rattle.wf_model.proofs.RangeParts.{added}
use Rattle.wf_model.proofs.script_list.ScriptSource.push_table.Goals as goal

pub loop-place-preserved : goal.loop-place-preserved
loop-place-preserved c =
    let n = c.loop-place.place in
    let item = λ (n : ℕ). entry c.args.number c.args.step c.args.time (Table n) in
    added _ (map item (range_with_len 0 n)) (item n ∷ []) (map item (range_with_len 0 (n + 1))) _ _ c.loop-place.invariant (c.in_ok-push.ensures.items ∙ ap (λ (e : Entry). c.loop-place.entries.items ++ e ∷ []) c.entry_of.ensures) (map-range_with_len_more item 0 n n (omega arith))
