use Rattle.std.proofs.Common.{◌≡◌, ◌-◌}
use Rattle.wf_model.specs.CdfRead.{items, att}
use Rattle.wf_cdfread.proofs.Turns.{with_front}
use Rattle.wf_cdfread.proofs.part.atts_of.Given as goal

abbrev pub invariant-loop : goal.invariant-loop
invariant-loop l = with_front l.atts.items (items att (l.count - l.counter) l.bytes l.next) ≡ items att l.count l.bytes l.fn.at
