use Rattle.std.proofs.Common.{List, ℕ, Some, ap, sym, ◌∙◌}
use Rattle.wf_io.specs.StoreState.{FileState}
use Rattle.wf_io.proofs.Lookup.{held}
use Rattle.wf_io.proofs.named_files.NamedFiles.get.Goals as goal

pub returns-in-Some : goal.returns-in-Some
returns-in-Some c =
    ap (λ (bytes : List ℕ). Some bytes) (c.bytes.ensures ∙ ap (λ (f : FileState). f.bytes) c.index.ensures)
    ∙ sym (held c.in-Some.ensures c.index.result.now)
