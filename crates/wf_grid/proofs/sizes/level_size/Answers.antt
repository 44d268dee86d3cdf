use Rattle.std.proofs.Common.{◌+◌, ◌-◌, ap, ◌∙◌}
use Rattle.wf_model.specs.declared.plan.Field.{Field}
use Rattle.wf_model.specs.Plans.{extra}
use Rattle.wf_grid.proofs.sizes.level_size.Goals as goal

pub returns : goal.returns
returns c =
    let level = c.level-level.ensures in
    let domain = c.domain.ensures in
    record {
      extents = record {
        columns = c.extents.ensures.columns ∙ (λ n. (domain n).ide - 1 + extra (level n).stag_x (domain n).periodic_x);
        rows = c.extents.ensures.rows ∙ (λ n. (domain n).jde - 1 + extra (level n).stag_y (domain n).periodic_y);
        levels = c.extents.ensures.levels ∙ ap (λ (x : Field). x.nz) level;
      };
      z = ap (λ (x : Field). x.z) level;
    }
