-- Items in their ranges ask for at most 12 cells beyond a patch's own.
use Rattle.std.proofs.Common.{ℕ, ◌≤◌, max, List, [], ◌∷◌, map, fold, arith}
use Rattle.std.specs.Prelude.{All}
use Rattle.std.proofs.lemmas.List.Elements.{All-weaker, All-head, All-tail, All-map}
use Rattle.wf_model.specs.declared.plan.HaloPart.{HaloPart}
use Rattle.wf_model.specs.declared.plan.PeriodPart.{PeriodPart}
use Rattle.wf_model.specs.declared.plan.Item.{Item}
use Rattle.wf_model.specs.declared.plan.Item.TheVariants as item
use Rattle.wf_model.specs.Reads.{Read, reads_of, greatest, reach, item_margin, margin_of}
use Rattle.wf_model.specs.ExprFacts.{IsNearRead}
use Rattle.wf_model.specs.Ranges.{Within, IsRangedItem}
use Rattle.wf_table_laws.specs.ItemLaws.{MarginsAreSmall}

from_within : (most d : ℕ) (ns : List ℕ) → d ≤ most → All (λ n. n ≤ most) ns → fold max d ns ≤ most
from_within most d [] small all = small
from_within most d (n ∷ ns) small all =
    from_within most (max d n) ns (omega (arith, small, All-head (λ n. n ≤ most) n ns all)) (All-tail (λ n. n ≤ most) n ns all)

-- the greatest of numbers that are at most so great
greatest_within : (most : ℕ) (ns : List ℕ) → All (λ n. n ≤ most) ns → greatest ns ≤ most
greatest_within most ns all = from_within most 0 ns (omega arith) all

reach_within : (rs : List Read) → All IsNearRead rs → greatest (map reach rs) ≤ 6
reach_within rs all =
    greatest_within 6 (map reach rs) (All-map (λ n. n ≤ 6) reach rs (All-weaker IsNearRead (λ r. reach r ≤ 6) (λ r h. omega (arith, h.0, h.2)) rs all))

item_within : (i : Item) → IsRangedItem i → item_margin i ≤ 12
item_within (item.Halo parts) ranged =
    greatest_within 12 (map (λ (p : HaloPart). p.radius) parts)
    (All-map (λ n. n ≤ 12) (λ (p : HaloPart). p.radius) parts (All-weaker (λ (p : HaloPart). Within 1 6 p.radius) (λ (p : HaloPart). p.radius ≤ 12) (λ p h. omega (arith, h.1)) parts ranged))
item_within (item.Period parts) ranged =
    greatest_within 12 (map (λ (p : PeriodPart). p.width) parts)
    (All-map (λ n. n ≤ 12) (λ (p : PeriodPart). p.width) parts (All-weaker (λ (p : PeriodPart). Within 1 6 p.width) (λ (p : PeriodPart). p.width ≤ 12) (λ p h. omega (arith, h.1)) parts ranged))
item_within (item.Swap one two) ranged = omega arith
item_within (item.Phase ph) ranged = omega (arith, ranged.extend, reach_within (reads_of ph.expr) ranged.expr.reads)

pub margins_small : MarginsAreSmall
unfolding margin_of
margins_small plan all =
    greatest_within 12 (map item_margin plan.items) (All-map (λ n. n ≤ 12) item_margin plan.items (All-weaker IsRangedItem (λ i. item_margin i ≤ 12) item_within plan.items all))
