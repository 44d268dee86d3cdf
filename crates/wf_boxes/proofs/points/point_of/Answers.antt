use Rattle.std.proofs.Common.{◌≡◌, true, arith}
use Rattle.std.proofs.lemmas.Int.{ints}
use Rattle.std.specs.Prelude.{FitsSigned}
use mir.Syntax.{w64}
use Rattle.wf_boxes.proofs.Wrapping.{wrap_is}
use Rattle.wf_boxes.proofs.points.point_of.Goals as goal
use Rattle.wf_boxes.proofs.points.point_of.Goals.{then-not-periodic, else-not-periodic+then-at-ge1, else-not-periodic+else-at-ge1}

-- the place wraps in periodic directions alone
is_periodic : (c : goal.After-rem_euclid) → c.args.periodic ≡ true
is_periodic c = elim c.if-not-periodic.branch [
  | then-not-periodic w ↦ cc
  | else-not-periodic+then-at-ge1 w ↦ cc
  | else-not-periodic+else-at-ge1 w ↦ cc
]

pub returns-else-at-count-clause-value : goal.returns-else-at-count-clause-value
returns-else-at-count-clause-value c =
    let fits : FitsSigned w64 c.rem_euclid.result = record { sfits = c.rem_euclid.type_inv } in
    wrap_is c.args.periodic c.args.count c.args.at c.rem_euclid.result _ _ c.rem_euclid.ensures.value fits (is_periodic c) (omega (arith, ints)) (omega (arith, ints))
