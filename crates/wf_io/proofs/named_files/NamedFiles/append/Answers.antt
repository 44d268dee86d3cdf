use Rattle.std.proofs.Common.{◌++◌}
use Rattle.std.proofs.lemmas.Result.{on_ok_weaker}
use Rattle.wf_io.proofs.Lookup.{changed}
use Rattle.wf_io.proofs.named_files.NamedFiles.append.Goals as goal

pub returns-clause-ok : goal.returns-clause-ok
returns-clause-ok c =
    on_ok_weaker c.append.result
    (λ made. changed c.in-Some.ensures c.index_mut.result.now c.index_mut.ensures.value (λ old. old ++ c.args.bytes.now) c.append.new.self made)
    c.append.ensures.ok
