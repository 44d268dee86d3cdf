use Rattle.std.proofs.Common.{◌≡◌, ◌∙◌, ◌-◌, sym, length, suc, arith}
use Rattle.std.proofs.lemmas.Bool.{eqb-false}
use Rattle.wf_text.proofs.LineEnds.{trimmed-other, trimmed-return}
use Rattle.wf_text.proofs.physical.without_return.Goals as goal

pub returns-then-line-last-ne13-clause-line : goal.returns-then-line-last-ne13-clause-line
returns-then-line-last-ne13-clause-line c =
    let l = c.args.line.now in
    let some = eqb-false _ _ (sym c.is_empty.ensures ∙ c.if-is_empty.false) in
    let e : length l ≡ suc (length l - 1) = omega (arith, some) in
    sym (trimmed-other (length l - 1) l e c.if-line-last-ne13.true)

pub returns-clause-line : goal.returns-clause-line
returns-clause-line c =
    let l = c.args.line.now in
    let some = eqb-false _ _ (sym c.is_empty.ensures ∙ c.if-is_empty.false) in
    let e : length l ≡ suc (length l - 1) = omega (arith, some) in
    c.split_at.ensures.front ∙ sym (trimmed-return (length l - 1) l e c.if-line-last-ne13.false)
