use Rattle.std.proofs.Common.{◌≡◌, subst, Ok, get_or}
use Rattle.wf_model.specs.Reading.{Fails}
use Rattle.wf_registry_columns.specs.Words.{word_texts}
use Rattle.wf_registry_lines.specs.Kept.{kept_in}
use Rattle.wf_registry.specs.Judged.{words_judged}
use Rattle.wf_registry.specs.RegistryErrors.{fault_of, rule_of}
use Rattle.wf_registry.proofs.JudgedLoop.{all_judged, judged_fails, judged_more}
use Rattle.wf_registry.proofs.LineReads.{line_there, line_within, no_line, words_read}
use Rattle.wf_registry.proofs.judging.lines_judged.Goals as goal

pub words_at-requires : goal.words_at-requires
words_at-requires c = line_there c.args.files.now c.args.lines.now c.loop-line.line-index c.loop-line-test.true c.requires

pub located-requires : goal.located-requires
located-requires c = line_within c.args.files.now c.args.lines.now c.loop-line.line-index c.loop-line-test.true c.requires

pub returns-in-Err : goal.returns-in-Err
returns-in-Err c =
    let files = c.args.files.now in
    let line = get_or c.args.lines.now c.loop-line.line-index no_line in
    let read : word_texts c.as_slice.result.now ≡ (kept_in files line).words = words_read files line c.as_slice.result.now c.in_ok-words.words c.as_slice.ensures c.in_ok-words.ensures in
    judged_fails c.args.all.now c.loop-line.declared files c.args.lines.now c.loop-line.line-index no_line _ (rule_of c.in-Err.error) (fault_of c.located.result) c.loop-line-test.true
    (subst (λ ws. Fails (rule_of c.in-Err.error) (words_judged c.args.all.now c.loop-line.declared ws)) read c.in-Err.ensures)
    c.located.ensures c.loop-line.invariant

pub loop-line-preserved : goal.loop-line-preserved
loop-line-preserved c =
    let files = c.args.files.now in
    let line = get_or c.args.lines.now c.loop-line.line-index no_line in
    let read : word_texts c.as_slice.result.now ≡ (kept_in files line).words = words_read files line c.as_slice.result.now c.in_ok-words.words c.as_slice.ensures c.in_ok-words.ensures in
    judged_more c.args.all.now c.loop-line.declared c.in-Ok.after files c.args.lines.now c.loop-line.line-index no_line _ c.loop-line-test.true
    (subst (λ ws. words_judged c.args.all.now c.loop-line.declared ws ≡ Ok c.in-Ok.after) read c.in-Ok.ensures) c.loop-line.invariant

pub returns : goal.returns
returns c = all_judged c.args.all.now c.loop-line.declared c.args.files.now c.args.lines.now c.loop-line.line-index _ c.loop-line-test.false c.loop-line.invariant
