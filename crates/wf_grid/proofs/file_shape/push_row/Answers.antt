use Rattle.std.proofs.Common.{◌≡◌, ℕ, ◌+◌, ◌-◌, ◌++◌, [], ◌∷◌, map, ap, ◌∙◌, arith, rules}
use Rattle.std.proofs.lemmas.Int.{to_z-of_z}
use mir.Syntax.{w32}
use Rattle.std.specs.Prelude.{ℤ, pos, FitsSigned}
use Rattle.std.specs.List.{range_with_len}
use Rattle.wf_model.specs.declared.plan.Domain.{Domain}
use Rattle.wf_model.specs.Plans.{domain_of, nx, point_x}
use Rattle.wf_model.specs.Streams.{one_if, file_x}
use Rattle.wf_grid.specs.FileShape.{file_row}
use Rattle.wf_grid.specs.Levels.{grids_of}
use Rattle.wf_grid.proofs.Rows.{grow_map, point_at}
use Rattle.wf_grid.proofs.file_shape.push_row.Goals as goal

pub loop-x-preserved : goal.loop-x-preserved
loop-x-preserved c =
    let at = c.args.at.now in
    let x : ℕ = c.loop-x.x in
    let here : c.wrapped_place-i.result ≡ point_x at.plan.now at.number at.field (pos (c.loop-x.x + 1))
    = point_at c.domain-domain.result.now.periodic_x (domain_of at.plan.now at.number).periodic_x at.extents.columns (nx at.plan.now at.number at.field) (c.loop-x.x + 1) c.wrapped_place-i.result
    c.wrapped_place-i.ensures.value (ap (λ (d : Domain). d.periodic_x) c.domain-domain.ensures) at.sized.columns in
    let fits : FitsSigned w32 c.number_of.result = search rules in
    grow_map (λ i. grids_of at.plan.now at.number at.levels.now at.number at.field c.args.k c.args.j (point_x at.plan.now at.number at.field (pos i))) c.args.values.now.items c.loop-x.values.items c.push.new.self.items c.loop-x.x c.number_of.result
    c.loop-x.invariant (c.in_ok-push.ensures.items ∙ ap (λ (z : ℤ). c.loop-x.values.items ++ z ∷ []) (to_z-of_z w32 c.number_of.result fits)) (c.number_of.ensures ∙ ap (grids_of at.plan.now at.number at.levels.now at.number at.field c.args.k c.args.j) here)

pub returns : goal.returns
unfolding file_row
returns c =
    let at = c.args.at.now in
    let last : c.loop-x.x ≡ c.file_points-x-end.result = omega arith in
    let all : c.loop-x.x ≡ file_x at.plan.now at.number at.field = last ∙ c.file_points-x-end.ensures ∙ (λ n. (c.domain-domain.ensures n).ide - 1 + one_if (c.level-level.ensures n).stag_x) in
    c.loop-x.invariant ∙ ap (λ (n : ℕ). c.args.values.now.items ++ map (λ i. grids_of at.plan.now at.number at.levels.now at.number at.field c.args.k c.args.j (point_x at.plan.now at.number at.field (pos i))) (range_with_len 1 n)) all
