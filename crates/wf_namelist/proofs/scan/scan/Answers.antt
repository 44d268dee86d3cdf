use Rattle.std.proofs.Common.{get_or, ap, arith, refl, ◌∙◌, sym}
use Rattle.wf_namelist.specs.Scanning.{turn_at, turn_of, token_of, where_of}
use Rattle.wf_namelist.proofs.ScanTurns.{line_ended, passed_over, begun, scanned_all}
use Rattle.wf_namelist.proofs.scan.scan.Goals as goal

pub loop-at-preserved-in-LineEnds : goal.loop-at-preserved-in-LineEnds
loop-at-preserved-in-LineEnds c =
    let l = c.args.bytes.now in
    record {
      within = omega arith;
      same = rw c.in_ok-line-in-LineEnds.ensures
          (line_ended c.loop-at.tokens.items (where_of c.loop-at.place) (where_of c.in-LineEnds.next) c.loop-at.line c.loop-at.apart (get_or l c.loop-at.at 0) c.loop-at.at l _ c.loop-at-test.true refl
          (ap (turn_at (where_of c.loop-at.place) (get_or l c.loop-at.at 0)) (sym c.split_at.ensures.back) ∙ sym c.in_ok-next.ensures.step ∙ ap turn_of c.in-LineEnds.is) c.loop-at.invariant.same);
    }

pub loop-at-preserved-in-Passes : goal.loop-at-preserved-in-Passes
loop-at-preserved-in-Passes c =
    let l = c.args.bytes.now in
    record {
      within = omega arith;
      same = passed_over c.loop-at.tokens.items (where_of c.loop-at.place) (where_of c.in-Passes.next) c.loop-at.line c.loop-at.apart (get_or l c.loop-at.at 0) c.loop-at.at l _ c.loop-at-test.true refl
          (ap (turn_at (where_of c.loop-at.place) (get_or l c.loop-at.at 0)) (sym c.split_at.ensures.back) ∙ sym c.in_ok-next.ensures.step ∙ ap turn_of c.in-Passes.is) c.loop-at.invariant.same;
    }

pub loop-at-preserved : goal.loop-at-preserved
loop-at-preserved c =
    let l = c.args.bytes.now in
    let room = rw c.in-Begins.is at c.in_ok-next.ensures.bound in
    record {
      within = omega (arith, room, c.split_at.ensures.back_len);
      same = rw (c.in_ok-push-in-Begins.ensures.items, c.is_apart-apart_here.ensures)
          (begun c.loop-at.tokens.items (where_of c.loop-at.place) c.loop-at.line c.loop-at.apart (get_or l c.loop-at.at 0) c.loop-at.at l (token_of c.in-Begins.token) _ c.loop-at-test.true refl
          (ap (turn_at (where_of c.loop-at.place) (get_or l c.loop-at.at 0)) (sym c.split_at.ensures.back) ∙ sym c.in_ok-next.ensures.step ∙ ap turn_of c.in-Begins.is) c.loop-at.invariant.same);
    }

pub returns : goal.returns
returns c = scanned_all c.loop-at.tokens.items (where_of c.loop-at.place) c.loop-at.line c.loop-at.apart c.loop-at.at c.args.bytes.now _ c.loop-at-test.false c.loop-at.invariant.same
