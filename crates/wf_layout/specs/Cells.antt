-- The cells of patch memories, by the data of domains and levels.
use Rattle.std.specs.Prelude.{ℕ, ◌+◌, ◌-◌, ◌*◌, ◌/◌, ◌%◌, Bool, List, sum_by}
use Rattle.std.specs.List.{range_with_len}
use Rattle.wf_model.specs.declared.plan.Domain.{Domain}
use Rattle.wf_model.specs.declared.plan.Field.{Field}
use Rattle.wf_model.specs.Plans.{extra}
use Rattle.wf_model.specs.Patches.{Span, block, grown, cut_unless, size_of}
use Rattle.wf_layout.specs.declared.cells.Cut.{Cut}

-- the cells of block p of n of a patch's memory in a direction with this end, e_we or e_sn
abbrev pub side_span : Bool → Bool → ℕ → ℕ → ℕ → ℕ → Span
side_span periodic staggered margin p n end =
    cut_unless periodic 1 (end - 1 + extra staggered periodic)
    (grown margin (block p n (end - 1) (extra staggered periodic)))

abbrev pub side : Bool → Bool → ℕ → ℕ → ℕ → ℕ → ℕ
side periodic staggered margin p n end = size_of (side_span periodic staggered margin p n end)

-- of a level in the memory of a patch of a domain
abbrev pub level_cells : Domain → Cut → ℕ → Field → ℕ
level_cells domain cut patch field =
    field.nz * (side domain.periodic_y field.stag_y cut.margin
    (patch / cut.nproc_x) cut.nproc_y domain.jde
    * side domain.periodic_x field.stag_x cut.margin (patch % cut.nproc_x) cut.nproc_x domain.ide)

-- of all levels
abbrev pub patch_cells : List Field → Domain → Cut → ℕ → ℕ
patch_cells fields domain cut patch = sum_by (level_cells domain cut patch) fields

-- of all patches
abbrev pub domain_cells : List Field → Cut → Domain → ℕ
domain_cells fields cut domain =
    sum_by (patch_cells fields domain cut) (range_with_len 0 (cut.nproc_x * cut.nproc_y))
