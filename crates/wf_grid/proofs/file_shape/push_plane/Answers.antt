use Rattle.std.proofs.Common.{◌≡◌, ℕ, ◌+◌, ◌-◌, ◌++◌, flat_map, ap, ◌∙◌, arith}
use Rattle.std.specs.Prelude.{pos}
use Rattle.std.specs.List.{range_with_len}
use Rattle.wf_model.specs.declared.plan.Domain.{Domain}
use Rattle.wf_model.specs.Plans.{domain_of, ny, point_y}
use Rattle.wf_model.specs.Streams.{one_if, file_y}
use Rattle.wf_grid.specs.FileShape.{file_row, file_plane}
use Rattle.wf_grid.proofs.Rows.{grow_flat, point_at}
use Rattle.wf_grid.proofs.file_shape.push_plane.Goals as goal

pub loop-y-preserved : goal.loop-y-preserved
loop-y-preserved c =
    let at = c.args.at.now in
    let here : c.wrapped_place.result ≡ point_y at.plan.now at.number at.field (pos (c.loop-y.y + 1))
    = point_at c.domain-domain.result.now.periodic_y (domain_of at.plan.now at.number).periodic_y at.extents.rows (ny at.plan.now at.number at.field) (c.loop-y.y + 1) c.wrapped_place.result
    c.wrapped_place.ensures.value (ap (λ (d : Domain). d.periodic_y) c.domain-domain.ensures) at.sized.rows in
    grow_flat (λ j. file_row at.plan.now at.number at.field at.levels.now c.args.k (point_y at.plan.now at.number at.field (pos j))) c.args.values.now.items c.loop-y.values.items c.push_row.new.values.items c.loop-y.y
    (file_row at.plan.now at.number at.field at.levels.now c.args.k c.wrapped_place.result)
    c.loop-y.invariant c.in_ok-push_row.ensures (ap (file_row at.plan.now at.number at.field at.levels.now c.args.k) here)

pub returns : goal.returns
unfolding file_plane
returns c =
    let at = c.args.at.now in
    let last : c.loop-y.y ≡ c.file_points-y-end.result = omega arith in
    let all : c.loop-y.y ≡ file_y at.plan.now at.number at.field = last ∙ c.file_points-y-end.ensures ∙ (λ n. (c.domain-domain.ensures n).jde - 1 + one_if (c.level-level.ensures n).stag_y) in
    c.loop-y.invariant ∙ ap (λ (n : ℕ). c.args.values.now.items ++ flat_map (λ j. file_row at.plan.now at.number at.field at.levels.now c.args.k (point_y at.plan.now at.number at.field (pos j))) (range_with_len 1 n)) all
