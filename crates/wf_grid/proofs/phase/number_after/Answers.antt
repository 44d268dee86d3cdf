use Rattle.std.proofs.Common.{sym, ◌∙◌}
use Rattle.wf_grid.proofs.phase.number_after.Goals as goal

pub eval-requires-after_bounds : goal.eval-requires-after_bounds
eval-requires-after_bounds g c κs l =
    let at = c.args.at.now in
    record {
      divisors = c.requires.runnable.divisors;
      reads = c.requires.runnable.reads at.here.k at.here.j at.here.i (sym c.is_in_region.ensures ∙ c.if-is_in_region.true);
      calls = c.requires.calls;
    }
