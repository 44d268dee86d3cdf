use Rattle.std.proofs.Common.{ℕ}
use Rattle.wf_top.specs.Domains.{IsDomain, SameSize, AllHold}
use Rattle.wf_top.proofs.DomainLaws.{UpTo}
use Rattle.wf_top.proofs.patches.Patches.exchange_west.Given as goal

abbrev pub invariant-loop-p : goal.invariant-loop-p
invariant-loop-p l = record {
  domain : IsDomain l.self;
  size : SameSize l.fn.self l.self;
  hold : (own west east : ℕ → ℕ → ℕ) → AllHold own west east l.fn.self → UpTo l.p own own east l.fn.self l.self;
}
