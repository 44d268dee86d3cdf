use Rattle.std.proofs.Common.{arith, ap, ◌∙◌, ◌≡◌, ◌+◌, ◌-◌, ◌++◌, List, length, take, drop, ℤ, pos}
use Rattle.std.proofs.Math.Seq.{take-append_seam}
use Rattle.wf_top.specs.Cells.{cell}
use Rattle.wf_top.proofs.ValueLaws.{value_first}
use Rattle.wf_top.proofs.patch.Patch.new.Goals as goal

pub returns-clause-holds : goal.returns-clause-holds
returns-clause-holds c = λ r i hr _ hi.
    let from = c.saturating_sub-from.result in
    let width = c.min.result - from in
    let made = c.first_cells.new.values in
    let rest = drop (length made) c.in_ok-values.values.items in
    let size : c.in_ok-values.values.len ≡ length made = grind arith in
    let whole : take c.in_ok-values.values.len (made ++ rest) ≡ made = ap (λ n. take n (made ++ rest)) size ∙ take-append_seam made rest in
    ap (λ (v : List ℤ). cell v width r i) whole ∙ c.first_cells.ensures r i hr hi ∙ ap pos (value_first c.args.nx c.args.ny r (from + i))
