-- The worked cases of the halo rule, computed.
use Rattle.std.specs.Prelude.{refl}
use Rattle.wf_model.specs.Plans.{domain_of, field_of, children}
use Rattle.wf_model.specs.Changes.{in_region}
use Rattle.wf_model.specs.Patches.{own_box, is_own, is_place, is_in_domain, region_holds, computes}
use Rattle.wf_model.specs.Shapes.{halo_holds, period_holds, in_halo_box}
use Rattle.wf_model.specs.Cycle.{cycle_of}
use Rattle.wf_model.specs.Covered.{walk}
use Rattle.wf_model.specs.Uncovered.{is_read_covered}
use Rattle.wf_cases.specs.HaloCases.{CornerAfterCross, ExtendAtTheEdge, PeriodicRow, TwoPatchesAway, FeedbackWrites}

pub corner_after_cross : CornerAfterCross
unfolding is_read_covered own_box is_own is_place is_in_domain region_holds computes halo_holds in_halo_box in_region domain_of field_of children cycle_of walk
corner_after_cross = record { after_cross = refl; after_square = refl }

pub extend_at_the_edge : ExtendAtTheEdge
unfolding is_read_covered own_box is_own is_place is_in_domain region_holds computes halo_holds in_halo_box in_region domain_of field_of children cycle_of walk
extend_at_the_edge = record { refused = refl; accepted = refl }

pub periodic_row : PeriodicRow
unfolding is_read_covered own_box is_own is_place is_in_domain region_holds computes halo_holds period_holds in_halo_box in_region domain_of field_of children cycle_of walk
periodic_row = record { without_period = refl; with_period = refl }

pub two_patches_away : TwoPatchesAway
unfolding is_read_covered own_box is_own is_place is_in_domain region_holds computes halo_holds in_halo_box in_region domain_of field_of children cycle_of walk
two_patches_away = record { three_rows = refl; two_rows = refl }

pub feedback_writes : FeedbackWrites
unfolding is_read_covered own_box is_own is_place is_in_domain region_holds computes halo_holds in_halo_box in_region domain_of field_of children cycle_of walk
feedback_writes = record { with_feedback = refl; without_feedback = refl }
