use Rattle.std.proofs.Common.{◌∙◌, ap}
use Rattle.std.proofs.lemmas.List.Elements.{All-push, All-same}
use Rattle.wf_registry_lines.specs.Kinds.{is_dimspec}
use Rattle.wf_model.specs.KeptLines.{kind_word, texts}
use Rattle.wf_registry_lines.specs.FileLines.{held}
use Rattle.wf_registry_lines.specs.Kept.{IsPlaced, text_at}
use Rattle.wf_registry_lines.proofs.Held.{dimspec_told}
use Rattle.wf_registry_lines.proofs.reader.Reader.kept.Goals as goal

pub returns-clause-placed : goal.returns-clause-placed
returns-clause-placed c =
    let files = c.args.self.now.files.now in
    All-same (IsPlaced files) c.push.new.self.items _ c.in_ok-push.ensures.items
    (All-push (IsPlaced files) c.args.progress.kept.items _ c.requires.placed (record {
      there = record { file = c.requires.place; within = c.requires.held.within; line = c.requires.held.there };
      dimspec = c.is_dimspec.ensures ∙ ap is_dimspec c.requires.held.kind ∙ dimspec_told (kind_word (texts (held (text_at files c.args.place) c.args.line.now)));
    }))
