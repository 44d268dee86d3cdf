use Rattle.std.proofs.Common.{ap, ◌∙◌}
use Rattle.wf_io.specs.Files.{with_file}
use Rattle.wf_io.specs.StoreState.{files_of}
use Rattle.wf_io.proofs.Lookup.{changed, pushed}
use Rattle.wf_io.proofs.named_files.NamedFiles.set.Goals as goal

pub returns-in-Some-clause-ok : goal.returns-in-Some-clause-ok
returns-in-Some-clause-ok c =
    changed c.in-Some.ensures c.index_mut.result.now c.index_mut.ensures.value (λ _. c.in_ok-copy.copy.items) c.set_bytes.new.self c.set_bytes.ensures
    ∙ ap (with_file (files_of c.args.self.now.files.items) c.args.name.now) c.in_ok-copy.ensures.items

pub returns-in_ok-push-in-None-clause-ok : goal.returns-in_ok-push-in-None-clause-ok
returns-in_ok-push-in-None-clause-ok c =
    rw (c.in_ok-push-in-None.ensures.items, c.in_ok-new-in-None.ensures, c.in_ok-copy.ensures.items)
    (pushed c.args.self.now.files.items c.args.name.now c.args.bytes.now c.in-None.ensures)
