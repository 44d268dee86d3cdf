use Rattle.wf_io.specs.StoreState.{NoneBefore}
use Rattle.wf_io.proofs.named_files.NamedFiles.place_of.Given as goal

abbrev pub invariant-loop-i : goal.invariant-loop-i
invariant-loop-i l = NoneBefore l.self.files.items l.name l.i
