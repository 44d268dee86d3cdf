use Rattle.std.proofs.Common.{◌≡◌, ◌∙◌, ap, refl, sym}
use Rattle.wf_model.specs.Lines.{LinesRead, goes_on, last_of, lines_read, physical}
use Rattle.wf_text.specs.Pending.{unfinished, words_so_far}
use Rattle.wf_text.specs.TextError.{fault_of}
use Rattle.wf_text.proofs.LogicalLines.{ended, goes, stopped_fault, stopped_lines, stops}
use Rattle.wf_text.proofs.logical.read_until_fault.Goals as goal

pub loop-rest-init : goal.loop-rest-init
unfolding lines_read
loop-rest-init c = record { same = rw (c.new-done.ensures.items, c.as_bytes-rest.ensures.value) refl }

pub returns-in-Err-clause-lines : goal.returns-in-Err-clause-lines
returns-in-Err-clause-lines c =
    stopped_lines c.stopped.result (fault_of c.in-Err.error) c.loop-rest.done.items c.loop-rest.pending c.loop-rest.number c.first_line.result.0.now (physical c.first_line.result.1.now) (lines_read c.args.text.now)
    c.stopped.ensures.lines c.stopped.ensures.fault c.stopped.ensures.found (rw (sym c.in_ok-number.ensures) c.in-Err.ensures) (rw (sym c.first_line.ensures.line) c.loop-rest.invariant.same)

pub returns-in-Err-clause-fault : goal.returns-in-Err-clause-fault
returns-in-Err-clause-fault c =
    stopped_fault c.stopped.result (fault_of c.in-Err.error) c.loop-rest.done.items c.loop-rest.pending c.loop-rest.number c.first_line.result.0.now (physical c.first_line.result.1.now) (lines_read c.args.text.now)
    c.stopped.ensures.fault c.stopped.ensures.found (rw (sym c.in_ok-number.ensures) c.in-Err.ensures) (rw (sym c.first_line.ensures.line) c.loop-rest.invariant.same)

pub loop-rest-preserved-in_ok-extended : goal.loop-rest-preserved-in_ok-extended
loop-rest-preserved-in_ok-extended c =
    let n = c.in_ok-number.ensures in
    record {
      same = rw n (goes c.loop-rest.done.items c.loop-rest.pending c.loop-rest.number c.first_line.result.0.now (physical c.first_line.result.1.now) c.in-Ok.words.items c.in_ok-extended.field-0 _
          (rw (sym n) c.in-Ok.ensures)
          (ap (λ ws. goes_on (last_of ws)) (sym c.deref.ensures.value) ∙ sym c.goes_on.ensures ∙ c.if-goes_on.true)
          (rw (sym n) c.in_ok-extended.ensures.number)
          (c.in_ok-extended.ensures.words ∙ ap (words_so_far c.loop-rest.pending) c.in_ok-words.ensures)
          (rw (sym c.first_line.ensures.line) c.loop-rest.invariant.same));
    }

pub loop-rest-preserved : goal.loop-rest-preserved
loop-rest-preserved c =
    let n = c.in_ok-number.ensures in
    record {
      same = rw n (stops c.loop-rest.done.items c.push_line.new.done.items c.loop-rest.pending c.loop-rest.number c.first_line.result.0.now (physical c.first_line.result.1.now) c.in-Ok.words.items c.in_ok-whole.whole _
          (rw (sym n) c.in-Ok.ensures)
          (ap (λ ws. goes_on (last_of ws)) (sym c.deref.ensures.value) ∙ sym c.goes_on.ensures ∙ c.if-goes_on.false)
          (rw (sym n) c.in_ok-whole.ensures.number)
          c.in_ok-whole.ensures.words
          c.in_ok-push_line.ensures
          (rw (sym c.first_line.ensures.line) c.loop-rest.invariant.same));
    }

-- what was read when the text is at its end
at_end : (c : goal.After-finished) → lines_read c.args.text.now ≡ record { lines = c.loop-rest.done.items; fault = unfinished c.loop-rest.pending c.loop-rest.number }
at_end c = ended c.loop-rest.done.items c.loop-rest.pending c.loop-rest.number c.loop-rest.rest.now _ (sym c.is_empty.ensures ∙ c.loop-rest-test.false) c.loop-rest.invariant.same

pub returns-clause-lines : goal.returns-clause-lines
returns-clause-lines c = c.finished.ensures.lines ∙ sym (ap (λ (r : LinesRead). r.lines) (at_end c))

pub returns-clause-fault : goal.returns-clause-fault
returns-clause-fault c = c.finished.ensures.fault ∙ sym (ap (λ (r : LinesRead). r.fault) (at_end c))
