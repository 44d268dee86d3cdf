-- The numbers that a demo may have.
use Rattle.std.specs.Prelude.{◌<◌, ◌≤◌}
use Rattle.wf_model.specs.declared.demo.Demo.{Demo}

pub record InLimits (d : Demo) : Type 0 where
  pub some_columns : 0 < d.nx
  pub columns : d.nx ≤ 200
  pub some_rows : 0 < d.ny
  pub rows : d.ny ≤ 200
  pub steps : d.steps ≤ 100
  pub some_patches : 0 < d.px
  pub patches : d.px ≤ 256
