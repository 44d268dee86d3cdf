use Rattle.std.proofs.Common.{◌≡◌, ◌∙◌, ◌+◌, [], length, ap, sym, arith, vec_len}
use Rattle.std.specs.Prelude.{◌==◌, not}
use Rattle.std.proofs.lemmas.Result.{err_from_is_err_and}
use Rattle.wf_model.specs.Lines.{goes_on, last_of, line, physical}
use Rattle.wf_text.specs.Pending.{unfinished, words_so_far}
use Rattle.wf_text.specs.Rest.{led, no_lines, rest_read}
use Rattle.wf_text.specs.TextError.{fault_of}
use Rattle.wf_text.proofs.LogicalLines.{ended, goes}
use Rattle.wf_text.proofs.NextLines.{end_found, fails_first, fault_found, found, further, passed}
use Rattle.wf_text.proofs.logical.next_line.Goals as goal

pub returns-in_err-words-clause-fault : goal.returns-in_err-words-clause-fault
returns-in_err-words-clause-fault c =
    let p = err_from_is_err_and c.from_residual-in_err-words.result c.from_residual-in_err-words.ensures.1 in
    rw (p.1, p.2) (fails_first (fault_of c.in_err-words.field-0.0) c.loop-rest.pending c.loop-rest.number c.first_line.result.0.now (physical c.first_line.result.1.now) _
    (rw (sym c.in_ok-number.ensures) c.in_err-words.ensures) (rw (sym c.first_line.ensures.line) c.loop-rest.invariant.same))

pub loop-rest-preserved-then-goes_on : goal.loop-rest-preserved-then-goes_on
loop-rest-preserved-then-goes_on c =
    let n = c.in_ok-number.ensures in
    record {
      same = rw n (goes [] c.loop-rest.pending c.loop-rest.number c.first_line.result.0.now (physical c.first_line.result.1.now) c.in_ok-words.words.items c.in_ok-extended.field-0 _
          (rw (sym n) c.in_ok-words.ensures)
          (ap (λ ws. goes_on (last_of ws)) (sym c.deref.ensures.value) ∙ sym c.goes_on.ensures ∙ c.if-goes_on.true)
          (rw (sym n) c.in_ok-extended.ensures.number)
          (c.in_ok-extended.ensures.words ∙ ap (words_so_far c.loop-rest.pending) c.in_ok-words-2.ensures)
          (rw (sym c.first_line.ensures.line) c.loop-rest.invariant.same));
      behind = further _ _ _ c.loop-rest.invariant.behind c.first_line.ensures.after c.first_line.ensures.shorter c.loop-rest.invariant.within;
      within = omega (arith, c.first_line.ensures.shorter, c.loop-rest.invariant.within);
    }

pub returns-then-not-is_empty-clause-line : goal.returns-then-not-is_empty-clause-line
returns-then-not-is_empty-clause-line c =
    let n = c.in_ok-number.ensures in
    let len : vec_len c.in_ok-joined.joined.words ≡ length c.in_ok-joined.joined.words.items = omega (arith, c.in_ok-joined.joined.words.ok.0) in
    let at_rest = further _ _ _ c.loop-rest.invariant.behind c.first_line.ensures.after c.first_line.ensures.shorter c.loop-rest.invariant.within in
    rw (n, c.from_vec-words.ensures) (found c.loop-rest.pending c.loop-rest.number c.first_line.result.0.now (physical c.first_line.result.1.now) c.in_ok-words.words.items c.in_ok-joined.joined _
    (rw (sym n) c.in_ok-words.ensures)
    (ap (λ ws. goes_on (last_of ws)) (sym c.deref.ensures.value) ∙ sym c.goes_on.ensures ∙ c.if-goes_on.false)
    (rw (sym n) c.in_ok-joined.ensures.number)
    c.in_ok-joined.ensures.words
    (rw (sym c.first_line.ensures.line) c.loop-rest.invariant.same)
    (ap (λ k. not (k == 0)) (sym len) ∙ ap not (sym c.is_empty-else-goes_on.ensures ∙ c.if-not-is_empty.true))
    ∙ ap (λ rest. led (line c.in_ok-joined.joined.number c.in_ok-joined.joined.words.items) (rest_read (c.loop-rest.number + 1) rest)) at_rest)

pub loop-rest-preserved : goal.loop-rest-preserved
loop-rest-preserved c =
    let n = c.in_ok-number.ensures in
    let len : vec_len c.in_ok-joined.joined.words ≡ length c.in_ok-joined.joined.words.items = omega (arith, c.in_ok-joined.joined.words.ok.0) in
    record {
      same = rw n (passed c.loop-rest.pending c.loop-rest.number c.first_line.result.0.now (physical c.first_line.result.1.now) c.in_ok-words.words.items c.in_ok-joined.joined _
          (rw (sym n) c.in_ok-words.ensures)
          (ap (λ ws. goes_on (last_of ws)) (sym c.deref.ensures.value) ∙ sym c.goes_on.ensures ∙ c.if-goes_on.false)
          (rw (sym n) c.in_ok-joined.ensures.number)
          c.in_ok-joined.ensures.words
          (rw (sym c.first_line.ensures.line) c.loop-rest.invariant.same)
          (ap (λ k. not (k == 0)) (sym len) ∙ ap not (sym c.is_empty-else-goes_on.ensures ∙ c.if-not-is_empty.false)));
      behind = further _ _ _ c.loop-rest.invariant.behind c.first_line.ensures.after c.first_line.ensures.shorter c.loop-rest.invariant.within;
      within = omega (arith, c.first_line.ensures.shorter, c.loop-rest.invariant.within);
    }

-- what is read when the text is at its end
at_end : (c : goal.After-no_more) → rest_read c.args.before c.args.text.now ≡ no_lines (unfinished c.loop-rest.pending c.loop-rest.number)
at_end c = ended [] c.loop-rest.pending c.loop-rest.number c.loop-rest.rest.now _ (sym c.is_empty.ensures ∙ c.loop-rest-test.false) c.loop-rest.invariant.same

pub returns-clause-end : goal.returns-clause-end
returns-clause-end c = end_found c.no_more.result _ _ (at_end c) c.no_more.ensures.end

pub returns-clause-fault : goal.returns-clause-fault
returns-clause-fault c = fault_found c.no_more.result _ _ (at_end c) c.no_more.ensures.fault
