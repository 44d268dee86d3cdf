use Rattle.std.proofs.Common.{ℕ, ◌+◌}
use Rattle.wf_model.specs.Demo.{demo_value}
use Rattle.wf_top.specs.Domains.{IsDomain, SameSize, HoldGrid}
use Rattle.wf_top.proofs.DomainLaws.{UpTo}
use Rattle.wf_top.proofs.patches.Patches.step_each.Given as goal

abbrev pub invariant-loop-p : goal.invariant-loop-p
invariant-loop-p l = record {
  domain : IsDomain l.self;
  size : SameSize l.fn.self l.self;
  hold : (n : ℕ) → HoldGrid n n l.fn.self
      → UpTo l.p (demo_value l.fn.self.nx l.fn.self.ny (n + 1)) (demo_value l.fn.self.nx l.fn.self.ny n) (demo_value l.fn.self.nx l.fn.self.ny n) l.fn.self l.self;
}
