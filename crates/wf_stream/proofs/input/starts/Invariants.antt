use Rattle.std.proofs.Common.{◌≡◌, Some, length, map}
use Rattle.wf_model.specs.Files.{Files}
use Rattle.wf_model.specs.InputOf.{started}
use Rattle.wf_model.specs.Plans.{domains_of}
use Rattle.wf_model.specs.Reading.{each}
use Rattle.wf_model.proofs.ReadingLemmas.{with_front}
use Rattle.wf_stream.specs.Starts.{FitDomains, OnlyRead, begin_in}
use Rattle.wf_stream.proofs.StartLemmas.{left}
use Rattle.wf_stream.proofs.input.starts.Given as goal

abbrev pub invariant-loop-i : goal.invariant-loop-i
invariant-loop-i g l = record {
  read : (m : Files) → g.S.Store.files l.initial.store ≡ Some m
      → with_front (map begin_in l.starts.items) (left (started m l.plan) (length l.plan.domains) l.i) ≡ each (started m l.plan) (domains_of l.plan);
  count : length l.starts.items ≡ l.i;
  fits : FitDomains l.plan l.starts.items;
  only : OnlyRead (g.S.Store.files l.initial.store) (g.S.Store.files l.store) (g.S.Store.faults l.initial.store) (g.S.Store.faults l.store);
}
