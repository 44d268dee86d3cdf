use Rattle.std.proofs.Common.{◌≡◌, length, take}
use Rattle.wf_field.specs.Kept.{IsSamePatch}
use Rattle.wf_halo.specs.Exchange.{halo_list}
use Rattle.wf_halo.specs.Walks.{SetsBy}
use Rattle.wf_halo.proofs.receiving.unpack_halos.Given as goal

abbrev pub invariant-loop-part : goal.invariant-loop-part
invariant-loop-part g l = record {
  used : l.used ≡ length (halo_list g.N.RunName.run.plan g.N.RunName.layout l.between (take l.part-index l.parts));
  same : IsSamePatch l.fn.memory l.memory;
  set : SetsBy g.N.RunName.run.plan g.N.RunName.layout l.values (halo_list g.N.RunName.run.plan g.N.RunName.layout l.between (take l.part-index l.parts)) l.fn.memory l.memory;
}
