-- The worked cases of the halo check's few patches, computed.
use Rattle.std.specs.Prelude.{refl}
use Rattle.wf_model.specs.Plans.{domain_of, field_of, children}
use Rattle.wf_model.specs.Changes.{in_region}
use Rattle.wf_model.specs.Patches.{own_box, is_own, is_place, is_in_domain, region_holds, computes}
use Rattle.wf_model.specs.Shapes.{halo_holds, in_halo_box}
use Rattle.wf_model.specs.Cycle.{cycle_of}
use Rattle.wf_model.specs.Covered.{walk}
use Rattle.wf_model.specs.Uncovered.{is_read_covered}
use Rattle.wf_check_laws.specs.Repeats.{repeats_x, repeats_y, repeats_z, next_x, is_patch_covered_at_few, is_covered_at_few}
use Rattle.wf_cases.specs.FewCases.{FewColumns, OneColumnFails}

pub few_columns : FewColumns
unfolding repeats_x repeats_y repeats_z next_x is_patch_covered_at_few is_covered_at_few is_read_covered own_box is_own is_place is_in_domain region_holds computes halo_holds in_halo_box in_region domain_of field_of children cycle_of walk
few_columns = record {
  left = refl;
  stays = refl;
  leaps = refl;
  east_at_few = refl;
  east_at_all = refl;
  west_at_few = refl;
  west_at_all = refl;
  without_halo_at_few = refl;
  without_halo_at_all = refl;
}

pub one_column_fails : OneColumnFails
unfolding repeats_x repeats_y repeats_z is_patch_covered_at_few is_covered_at_few is_read_covered own_box is_own is_place is_in_domain region_holds computes halo_holds in_halo_box in_region domain_of field_of children cycle_of walk
one_column_fails = record { before = refl; fails = refl; at_few = refl; at_all = refl }
