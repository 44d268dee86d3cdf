use Rattle.std.proofs.Common.{◌≡◌, ◌∙◌, ◌-◌, sym, length, suc, arith}
use Rattle.std.proofs.lemmas.Bool.{eqb-false}
use Rattle.wf_text.proofs.LastByte.{last_at}
use Rattle.wf_text.proofs.logical.ends_with.Goals as goal

pub returns : goal.returns
returns c =
    let l = c.args.bytes.now in
    let some = eqb-false _ _ (sym c.is_empty.ensures ∙ c.if-is_empty.false) in
    let e : length l ≡ suc (length l - 1) = omega (arith, some) in
    last_at c.args.b (length l - 1) l e
