-- How far reads go.
use Rattle.std.specs.Prelude.{ℕ, List, map}
use Rattle.wf_model.specs.Reads.{Read, greatest, reach}

-- the farthest of them, in x or in y
abbrev pub reach_in : List Read → ℕ
reach_in rs = greatest (map reach rs)
