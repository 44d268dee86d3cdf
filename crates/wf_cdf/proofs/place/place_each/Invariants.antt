use Rattle.std.proofs.Common.{◌≡◌, ◌+◌, ◌++◌, not, take, drop}
use Rattle.std.specs.List.{filter, sum_by}
use Rattle.wf_model.specs.Sizes.{padded_size, is_record_var}
use Rattle.wf_model.specs.Headers.{placed_from}
use Rattle.wf_cdf.proofs.place.place_each.Given as goal

abbrev pub invariant-loop-var : goal.invariant-loop-var
invariant-loop-var l = record {
  front : l.vars ≡ placed_from l.dims l.fn.fixed l.fn.moving (take l.var-index l.fn.vars) ++ drop l.var-index l.fn.vars;
  fixed : l.fixed ≡ l.fn.fixed + sum_by (padded_size l.dims) (filter (λ v. not (is_record_var l.dims v)) (take l.var-index l.fn.vars));
  moving : l.moving ≡ l.fn.moving + sum_by (padded_size l.dims) (filter (is_record_var l.dims) (take l.var-index l.fn.vars));
}
