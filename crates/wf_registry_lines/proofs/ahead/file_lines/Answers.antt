use Rattle.std.proofs.Common.{◌≡◌, ◌∙◌, ◌<◌, ◌≤◌, ℕ, List, [], IfSome, None, ap, refl, sym, subst, map, length, drop, arith}
use Rattle.std.proofs.lemmas.List.Elements.{All-nil, All-push, All-same}
use Rattle.wf_model.specs.Lines.{LinesRead, lines_read}
use Rattle.wf_text.specs.Rest.{led, rest_read}
use Rattle.wf_text.specs.declared.logical.NextLine.{NextLine}
use Rattle.wf_registry_lines.specs.FileLines.{IsHeld, held, line_at}
use Rattle.wf_registry_lines.specs.declared.ahead.FileLine.{FileLine}
use Rattle.wf_registry_lines.proofs.LinesHeld.{at_end, behind, is_there, line_here, more_held, no_more}
use Rattle.wf_registry_lines.proofs.ahead.file_lines.Goals as goal

pub loop-at-init : goal.loop-at-init
unfolding lines_read
loop-at-init c = record {
  within = omega arith;
  same = ap (λ (ls : List FileLine). behind (map (held c.args.text.now) ls) (rest_read 0 c.args.text.now)) c.new-lines.ensures.items;
  held = All-same (IsHeld c.args.text.now) c.new-lines.result.items [] c.new-lines.ensures.items (All-nil (IsHeld c.args.text.now));
}

pub loop-at-preserved : goal.loop-at-preserved
loop-at-preserved c =
    let text = c.args.text.now in
    let at = c.loop-at.at in
    let before = c.loop-at.before in
    let done = map (held text) c.loop-at.lines.items in
    let next = c.in-Ok-Some.next in
    let read : rest_read before (drop at text) ≡ led next.line (rest_read next.number (drop next.taken (drop at text))) =
    subst (λ (bs : List ℕ). rest_read before bs ≡ led next.line (rest_read next.number (drop next.taken bs))) c.split_at.ensures.back
    (subst (λ o. IfSome o (λ (n : NextLine). rest_read before c.split_at.result.1.now ≡ led n.line (rest_read n.number (drop n.taken c.split_at.result.1.now)))) c.in-Ok-Some.field-0-is c.in-Ok-Some.ensures.line) in
    let bound = subst (λ o. IfSome o (λ (n : NextLine). (0 < n.taken) × (n.taken ≤ length c.split_at.result.1.now))) c.in-Ok-Some.field-0-is c.in-Ok-Some.ensures.bound in
    let from = c.in_ok-from-in-Ok-Some.ensures in
    let here : line_at text c.in_ok-from-in-Ok-Some.from before ≡ next.line =
    ap (λ n. line_at text n before) from ∙ line_here text done at before (lines_read text) c.loop-at.invariant.same next.line next.number next.taken read in
    let there = subst (λ n. 0 < length (rest_read before (drop n text)).lines) (sym from) (is_there text done at before (lines_read text) c.loop-at.invariant.same next.line next.number next.taken read) in
    record {
      within = omega (arith, bound, c.split_at.ensures.back_len);
      same = more_held text done at before (lines_read text) c.loop-at.invariant.same next.line next.number next.taken read c.loop-at.lines.items c.push.new.self.items c.file_line.result refl c.in_ok-push-in-Ok-Some.ensures.items
          (c.file_line.ensures.place.0 ∙ from) c.file_line.ensures.place.1;
      held = All-same (IsHeld text) c.push.new.self.items _ c.in_ok-push-in-Ok-Some.ensures.items
          (All-push (IsHeld text) c.loop-at.lines.items c.file_line.result c.loop-at.invariant.held (c.file_line.ensures.held text here (omega (arith, from, c.loop-at.invariant.within)) there));
    }

-- no line is left
read_whole : (text : List ℕ) (at before : ℕ) (lines : List FileLine) → length text ≤ at
    → behind (map (held text) lines) (rest_read before (drop at text)) ≡ lines_read text → lines_read text ≡ record { lines = map (held text) lines; fault = None }
read_whole text at before lines past so_far = no_more text (map (held text) lines) at before (lines_read text) so_far None (at_end text at before past)

pub returns-clause-lines : goal.returns-clause-lines
returns-clause-lines c =
    sym (ap (λ (r : LinesRead). r.lines) (read_whole c.args.text.now c.loop-at.at c.loop-at.before c.loop-at.lines.items (omega (arith, c.loop-at-test.false)) c.loop-at.invariant.same))

pub returns-clause-fault : goal.returns-clause-fault
returns-clause-fault c =
    sym (ap (λ (r : LinesRead). r.fault) (read_whole c.args.text.now c.loop-at.at c.loop-at.before c.loop-at.lines.items (omega (arith, c.loop-at-test.false)) c.loop-at.invariant.same))
