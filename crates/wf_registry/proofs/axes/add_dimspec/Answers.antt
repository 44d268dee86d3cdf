use Rattle.std.proofs.Common.{◌∙◌, ap, arith}
use Rattle.wf_model.specs.Entries.{only_byte}
use Rattle.wf_registry_columns.specs.Words.{word_texts}
use Rattle.wf_registry.proofs.AxisGathering.{dimspec_added, enough_columns, few_columns, short_added}
use Rattle.wf_registry.proofs.axes.add_dimspec.Goals as goal

pub returns-then-columns-least_columns : goal.returns-then-columns-least_columns
returns-then-columns-least_columns c =
    short_added c.args.axes.now (word_texts c.args.words.now) (word_texts c.columns_of-columns.result.now) c.requires c.columns_of-columns.ensures
    (few_columns c.columns_of-columns.result.now (omega (arith, c.least_columns.ensures)))

pub returns : goal.returns
returns c =
    dimspec_added c.add.new.self c.args.axes.now (word_texts c.args.words.now) (word_texts c.columns_of-columns.result.now) c.only_byte.result c.only_byte-2.result
    c.requires c.columns_of-columns.ensures
    (enough_columns c.columns_of-columns.result.now (omega (arith, c.least_columns.ensures)))
    (c.only_byte.ensures ∙ ap only_byte c.column.ensures) (c.only_byte-2.ensures ∙ ap only_byte c.column-2.ensures) c.in_ok-add.ensures
