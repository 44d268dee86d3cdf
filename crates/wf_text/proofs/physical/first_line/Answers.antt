use Rattle.std.proofs.Common.{◌≡◌, ◌∙◌, ◌+◌, ◌∷◌, [], sym, take, drop, suc, arith, ap, ap₂, add-one, drop-drop}
use Rattle.std.proofs.Math.ListN.{drop_of_length-le}
use Rattle.std.proofs.Math.Seq.{take-length}
use Rattle.wf_model.specs.Lines.{physical}
use Rattle.wf_text.specs.Physical.{trimmed}
use Rattle.wf_text.proofs.LineEnds.{physical-found, physical-last}
use Rattle.wf_text.proofs.Suffixes.{suffix}
use Rattle.wf_text.proofs.physical.first_line.Goals as goal

pub returns-in-None-clause-line : goal.returns-in-None-clause-line
unfolding physical
returns-in-None-clause-line c =
    let t = c.args.text.now in
    let front : c.split_at.result.0.now ≡ t = c.split_at.ensures.front ∙ take-length t in
    let back : c.split_at.result.1.now ≡ [] = c.split_at.ensures.back ∙ drop_of_length-le t (omega arith) in
    physical-last t c.requires c.in-None.ensures ∙ ap₂ (λ l r. l ∷ physical r) (sym front) (sym back)

pub returns-in-Some-clause-line : goal.returns-in-Some-clause-line
returns-in-Some-clause-line c =
    let t = c.args.text.now in
    let p = c.in-Some.place in
    let back : c.split_at-in-Some-2.result.1.now ≡ drop (suc p) t = c.split_at-in-Some-2.ensures.back ∙ ap (drop 1) c.split_at-in-Some.ensures.back ∙ drop-drop 1 p t ∙ ap (λ k. drop k t) (add-one p) in
    let front : c.without_return.result.now ≡ trimmed (take p t) = c.without_return.ensures.line ∙ ap trimmed c.split_at-in-Some.ensures.front in
    physical-found p t c.in-Some.ensures.0 c.in-Some.ensures.1 c.in-Some.ensures.2 ∙ ap₂ (λ l r. l ∷ physical r) (sym front) (sym back)

pub returns-in-None-clause-after : goal.returns-in-None-clause-after
returns-in-None-clause-after c = suffix _ _ c.args.text.now c.split_at.ensures.back c.split_at.ensures.back_len

pub returns-in-Some-clause-after : goal.returns-in-Some-clause-after
returns-in-Some-clause-after c =
    let t = c.args.text.now in
    let p = c.in-Some.place in
    suffix (p + 1) _ t (c.split_at-in-Some-2.ensures.back ∙ ap (drop 1) c.split_at-in-Some.ensures.back ∙ drop-drop 1 p t)
    (omega (arith, c.split_at-in-Some-2.ensures.back_len, c.split_at-in-Some.ensures.back_len))
