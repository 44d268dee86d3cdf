use Rattle.std.proofs.Common.{arith, sym, ap, ◌∙◌, ◌≡◌, inl, inr, ℕ, ◌+◌, ◌<◌, ◌≤◌, below_more, pos, ℤ, List}
use Rattle.std.proofs.lemmas.Bool.{cases_lt}
use Rattle.wf_top.specs.Cells.{cell, mean_at, next_at}
use Rattle.wf_top.proofs.CellLaws.{next_inside, next_border}
use Rattle.wf_top.proofs.cells.next_cells.Goals as goal

-- the row that was made
row_made : (values before after : List ℤ) (w h r c : ℕ) → 0 < r → r + 1 < h → c < w
    → ((c : ℕ) → 0 < c → c + 1 < w → cell after w r c ≡ pos (mean_at values w r c))
    → ((c : ℕ) → c < w → w ≤ c + 1 → cell after w r c ≡ cell before w r c)
    → cell after w r 0 ≡ cell before w r 0
    → ((c : ℕ) → c < w → cell before w r c ≡ cell values w r c)
    → cell after w r c ≡ next_at values w h r c
row_made values before after w h r c p q k inside ends first same =
    elim (cases_lt 0 c) [
      | inl low ↦ elim (cases_lt (c + 1) w) [
        | inl high ↦ inside c low high ∙ sym (next_inside values w h r c low high p q)
        | inr high ↦ ends c k high ∙ same c k ∙ sym (next_border values w h r c (λ _ x _ _. omega arith))
      ]
      | inr low ↦
          let e : 0 ≡ c = omega arith in
          ap (λ i. cell after w r i) (sym e) ∙ first ∙ ap (λ i. cell before w r i) e ∙ same c k ∙ sym (next_border values w h r c (λ x _ _ _. omega arith))
    ]

pub loop-r-preserved : goal.loop-r-preserved
loop-r-preserved c =
    let w = c.args.width in
    let h = c.args.rows in
    let r = c.loop-r.r in
    let values = c.args.values.now in
    let after = c.next_row.new.next in
    record {
      size = c.next_row.auto.next ∙ c.loop-r.invariant.size;
      done = λ s q hs hq. below_more (λ s. cell after w s q ≡ next_at values w h s q) r
          (λ s hs. c.next_row.ensures.others s q hq (λ e. omega arith) ∙ c.loop-r.invariant.done s q hs hq)
          (row_made values c.loop-r.next after w h r q (omega (arith, c.loop-r.auto.r)) (omega arith) hq c.next_row.ensures.inside c.next_row.ensures.ends c.next_row.ensures.first (λ i hi. c.loop-r.invariant.rest r i (omega arith) (omega arith) hi)) s hs;
      rest = λ s q hs hl hq. c.next_row.ensures.others s q hq (λ e. omega arith) ∙ c.loop-r.invariant.rest s q (omega arith) hl hq;
    }

pub returns : goal.returns
returns c = λ s q hs hq. elim (cases_lt s c.loop-r.r) [
  | inl below ↦ c.loop-r.invariant.done s q below hq
  | inr past ↦ c.loop-r.invariant.rest s q past hs hq ∙ sym (next_border c.args.values.now c.args.width c.args.rows s q (λ _ _ _ t. omega (arith, c.loop-r-test.false)))
]
