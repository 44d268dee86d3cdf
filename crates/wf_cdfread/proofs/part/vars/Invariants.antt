use Rattle.std.proofs.Common.{◌≡◌, ◌-◌}
use Rattle.wf_model.specs.CdfRead.{items, var}
use Rattle.wf_cdfread.proofs.Turns.{with_front}
use Rattle.wf_cdfread.proofs.part.vars.Given as goal

abbrev pub invariant-loop : goal.invariant-loop
invariant-loop l =
    with_front l.vars.items (items (var l.version l.dims) (l.count - l.counter) l.bytes l.next) ≡ items (var l.version l.dims) l.count l.bytes l.fn.at
