use Rattle.std.proofs.Common.{◌≡◌, ◌∙◌, sym, ap, subst, ◌++◌, ◌+◌, get_or, take}
use Rattle.std.specs.Option.{option_to_list}
use Rattle.std.proofs.lemmas.List.Elements.{All-get_or}
use Rattle.wf_registry_columns.specs.Axes.{HasAxesOf}
use Rattle.wf_registry_columns.specs.Words.{word_texts}
use Rattle.wf_registry_lines.specs.Kept.{TellsDimspec, kept_in}
use Rattle.wf_registry.specs.LineEntries.{words_entry, lines_entries}
use Rattle.wf_registry.specs.Lines.{word_kind}
use Rattle.wf_registry.proofs.AxisGathering.{axes_more, other_added}
use Rattle.wf_registry.proofs.DimspecKinds.{told_dimspec, told_other}
use Rattle.wf_registry.proofs.LineReads.{line_there, no_line, words_read}
use Rattle.wf_registry.proofs.axes.axes_of.Goals as goal
use Rattle.wf_registry.proofs.axes.axes_of.Goals.{then-line+in_ok-words+in_ok-add_dimspec, else-line}

pub words_at-requires : goal.words_at-requires
words_at-requires c = line_there c.args.files.now c.args.lines.now c.loop-line.line-index c.loop-line-test.true c.requires.there

pub add_dimspec-requires : goal.add_dimspec-requires
add_dimspec-requires c =
    let files = c.args.files.now in
    let line = get_or c.args.lines.now c.loop-line.line-index no_line in
    let told : TellsDimspec files line = All-get_or (TellsDimspec files) c.args.lines.now c.loop-line.line-index no_line c.loop-line-test.true c.requires.dimspecs in
    ap word_kind (words_read files line c.as_slice.result.now c.in_ok-words.words c.as_slice.ensures c.in_ok-words.ensures) ∙ told_dimspec files line told c.if-line.true

pub loop-line-preserved : goal.loop-line-preserved
loop-line-preserved c =
    let files = c.args.files.now in
    let lines = c.args.lines.now in
    let i = c.loop-line.line-index in
    let line = get_or lines i no_line in
    let old = c.loop-line.axes in
    let told : TellsDimspec files line = All-get_or (TellsDimspec files) lines i no_line c.loop-line-test.true c.requires.dimspecs in
    elim c.if-line.branch [
      | then-line+in_ok-words+in_ok-add_dimspec w ↦
          let read : word_texts w.as_slice.result.now ≡ (kept_in files line).words = words_read files line w.as_slice.result.now w.in_ok-words.words w.as_slice.ensures w.in_ok-words.ensures in
          subst (λ es. HasAxesOf es (lines_entries files (take (i + 1) lines))) (sym w.axes-is)
          (axes_more files old w.add_dimspec.new.axes lines i no_line c.loop-line-test.true c.loop-line.invariant
          (subst (λ ws. HasAxesOf w.add_dimspec.new.axes (old ++ option_to_list (words_entry ws))) read w.in_ok-add_dimspec.ensures))
      | else-line w ↦
          subst (λ es. HasAxesOf es (lines_entries files (take (i + 1) lines))) (sym w.axes-is)
          (axes_more files old old lines i no_line c.loop-line-test.true c.loop-line.invariant (other_added old (kept_in files line).words (told_other files line told w.if-line.false)))
    ]
