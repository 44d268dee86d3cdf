use Rattle.std.proofs.Common.{arith, length, ap}
use Rattle.wf_io.specs.Files.{patched}
use Rattle.wf_io.proofs.Lookup.{changed, bytes_at_place}
use Rattle.wf_io.proofs.named_files.NamedFiles.write_at.Goals as goal

pub write_at-requires : goal.write_at-requires
write_at-requires c =
    omega (arith, c.requires.within, ap length (bytes_at_place c.in-Some.ensures c.index_mut.result.now c.index_mut.ensures.value))

pub returns : goal.returns
returns c =
    changed c.in-Some.ensures c.index_mut.result.now c.index_mut.ensures.value (λ old. patched old c.args.at c.args.bytes.now) c.write_at.new.self c.write_at.ensures
