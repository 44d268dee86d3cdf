use Rattle.std.proofs.Common.{arith}
use Rattle.wf_io.proofs.Lookup.{none_at_all}
use Rattle.wf_io.proofs.named_files.NamedFiles.place_of.Goals as goal

pub returns : goal.returns
returns c = none_at_all c.args.self.now.files.items c.args.name.now (λ k d lt. c.loop-i.invariant k d (omega arith))
