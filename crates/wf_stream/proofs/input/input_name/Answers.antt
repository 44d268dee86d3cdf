use Rattle.std.proofs.Common.{◌≡◌, ◌∙◌, ap, ap₂, ℕ, List, ◌++◌, ◌+◌, ◌<◌, arith}
use Rattle.std.specs.Prelude.{codes}
use Rattle.wf_stream.proofs.NameLemmas.{digits}
use Rattle.wf_stream.proofs.input.input_name.Goals as goal

pub returns-clause-name : goal.returns-clause-name
returns-clause-name c =
    let digit : c.from.result ≡ 48 + c.args.number = c.from.ensures in
    let below : c.from.result < 128 = omega (arith, digit, c.requires) in
    c.in_ok-push.ensures.bytes
    ∙ ap₂ (λ (front rest : List ℕ). front ++ rest) c.in_ok-name.ensures.ok (c.push.ensures.ascii below)
    ∙ ap (λ (rest : List ℕ). codes "wrfinput_d" ++ rest) (digits c.args.number c.from.result c.requires digit)
