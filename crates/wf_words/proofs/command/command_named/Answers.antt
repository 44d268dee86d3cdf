use Rattle.std.proofs.Common.{ap₂, ◌∙◌}
use Rattle.clap.specs.Words.{with_rule}
use Rattle.wf_words.specs.Commands.{command_app}
use Rattle.wf_words.proofs.command.command_named.Goals as goal

pub returns : goal.returns
unfolding command_app
returns c = c.in_ok-whole.ensures ∙ ap₂ with_rule c.new-empty.ensures.app c.option.ensures.rule
