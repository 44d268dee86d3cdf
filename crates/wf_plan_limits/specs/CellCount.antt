-- The cells of whole domains, by their data.
use Rattle.std.specs.Prelude.{ℕ, ◌+◌, ◌-◌, ◌*◌, List, sum_by}
use Rattle.wf_model.specs.declared.plan.Domain.{Domain}
use Rattle.wf_model.specs.declared.plan.Field.{Field}
use Rattle.wf_model.specs.Plans.{extra}

-- the points of a level in a domain
abbrev pub level_cells : Domain → Field → ℕ
level_cells domain field =
    field.nz * ((domain.jde - 1 + extra field.stag_y domain.periodic_y)
    * (domain.ide - 1 + extra field.stag_x domain.periodic_x))

-- of all levels
abbrev pub domain_cells : List Field → Domain → ℕ
domain_cells fields domain = sum_by (level_cells domain) fields
