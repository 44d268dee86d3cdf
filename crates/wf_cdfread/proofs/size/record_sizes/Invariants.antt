use Rattle.std.proofs.Common.{◌≡◌, ◌≤◌, take, length}
use Rattle.std.specs.List.{filter, sum_by}
use Rattle.wf_model.specs.Sizes.{padded_size, slab_size, is_record_var}
use Rattle.wf_cdf.specs.Capped.{capped}
use Rattle.wf_cdfread.proofs.size.record_sizes.Given as goal

abbrev pub invariant-loop-var : goal.invariant-loop-var
invariant-loop-var l = record {
  count : l.record_vars ≡ length (filter (is_record_var l.dims) (take l.var-index l.vars));
  few : l.record_vars ≤ l.var-index;
  padded : l.padded ≡ capped (sum_by (padded_size l.dims) (filter (is_record_var l.dims) (take l.var-index l.vars)));
  unpadded : l.unpadded ≡ capped (sum_by (slab_size l.dims) (filter (is_record_var l.dims) (take l.var-index l.vars)));
}
