use Rattle.std.proofs.Common.{◌≡◌, ◌-◌, false}
use Rattle.wf_model.specs.CdfRead.{dims}
use Rattle.wf_cdfread.proofs.Turns.{with_front}
use Rattle.wf_cdfread.proofs.part.dims.Given as goal

abbrev pub invariant-loop : goal.invariant-loop
invariant-loop l = with_front l.dims.items (dims (l.count - l.counter) l.has_record l.bytes l.next) ≡ dims l.count false l.bytes l.fn.at
