use Rattle.std.proofs.Common.{List, ℕ, Bor, map, ap, ◌∙◌}
use Rattle.wf_model.specs.BuiltIns.{words}
use Rattle.wf_model.specs.Letters.{is_name}
use Rattle.wf_config.specs.Rules.{row_rule, rule_of}
use Rattle.wf_config.proofs.Loops.{made_all, passes_at}
use Rattle.wf_config.proofs.built_ins.add_row.Goals as goal

pub row_rule-requires : goal.row_rule-requires
row_rule-requires c =
    passes_at is_name (λ (w : Bor (List ℕ)). w.now) (words c.args.row.now.names.now) c.as_slice-name-items.result.now c.loop-name.name-index _ c.loop-name-test.true
    (ap (map (λ (w : Bor (List ℕ)). w.now)) c.as_slice-name-items.ensures.value ∙ c.in_ok-names.ensures ∙ ap words c.as_bytes.ensures.value) c.requires

pub returns : goal.returns
returns c =
    made_all rule_of (row_rule c.args.row.now) (λ (w : Bor (List ℕ)). w.now) (map rule_of c.args.rules.now.items) c.loop-name.rules.items c.as_slice-name-items.result.now (words c.args.row.now.names.now) c.loop-name.name-index c.loop-name-test.false
    (ap (map (λ (w : Bor (List ℕ)). w.now)) c.as_slice-name-items.ensures.value ∙ c.in_ok-names.ensures ∙ ap words c.as_bytes.ensures.value) c.loop-name.invariant
