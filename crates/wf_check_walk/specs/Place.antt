-- A patch of one point as the definitions name it.
use Rattle.std.specs.Prelude.{ℕ, ◌+◌, ◌*◌, Bool}
use Rattle.wf_model.specs.declared.plan.Phase.{Phase}
use Rattle.wf_model.specs.declared.plan.HaloPart.{HaloPart}
use Rattle.wf_model.specs.declared.plan.PeriodPart.{PeriodPart}
use Rattle.wf_model.specs.Patches.{Box, Split, computes, fine, in_box, is_in_domain, is_own}
use Rattle.wf_model.specs.Patches.{own_box, reached_box, region_holds}
use Rattle.wf_model.specs.Shapes.{halo_holds, in_halo_box, period_holds}
use Rattle.wf_check_walk.specs.declared.cell.Cell.{Cell}
use Rattle.wf_check_walk.specs.declared.patch.Patch.{Patch}

-- the finest layout of its domain
abbrev pub split_of : Patch → Split
split_of p = fine p.plan.now p.number

-- its number there
abbrev pub number_of : Patch → ℕ
number_of p = p.y * (fine p.plan.now p.number).in_x + p.x

-- ---- the definitions, of a patch and a cell

abbrev pub own_box_of : Patch → ℕ → Box
own_box_of p f = own_box p.plan.now (split_of p) p.number (number_of p) f

abbrev pub owns : Patch → ℕ → Cell → Bool
owns p f c = is_own p.plan.now (split_of p) p.number (number_of p) f c.j c.i

abbrev pub in_domain_of : Patch → ℕ → Cell → Bool
in_domain_of p f c = is_in_domain p.plan.now p.number f c.j c.i

abbrev pub in_region_of : Patch → Phase → Cell → Bool
in_region_of p ph c = region_holds p.plan.now p.number ph c.k c.j c.i

abbrev pub computed_by : Patch → Phase → Cell → Bool
computed_by p ph c = computes p.plan.now (split_of p) p.number (number_of p) ph c.k c.j c.i

abbrev pub in_halo_of : Patch → HaloPart → Cell → Bool
in_halo_of p part c = in_halo_box p.plan.now (split_of p) p.number (number_of p) part c.j c.i

abbrev pub halo_sets : Patch → HaloPart → Cell → Bool
halo_sets p part c = halo_holds p.plan.now (split_of p) p.number (number_of p) part c.j c.i

abbrev pub in_reach_of : Patch → PeriodPart → Cell → Bool
in_reach_of p part c = in_box (reached_box p.plan.now (split_of p) p.number
    (number_of p) part.field part.width part.width) c.j c.i

abbrev pub period_sets : Patch → PeriodPart → Cell → Bool
period_sets p part c = period_holds p.plan.now (split_of p) p.number (number_of p) part c.j c.i
