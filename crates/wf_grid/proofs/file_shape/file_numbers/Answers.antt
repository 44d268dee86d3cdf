use Rattle.std.proofs.Common.{◌≡◌, ℕ, ◌+◌, [], refl, flat_map, ap, ◌∙◌, arith}
use Rattle.std.specs.List.{range_with_len}
use Rattle.wf_model.specs.declared.plan.Field.{Field}
use Rattle.wf_model.specs.Grids.{listed}
use Rattle.wf_model.specs.Streams.{file_list}
use Rattle.wf_grid.specs.FileShape.{file_row, file_plane}
use Rattle.wf_grid.proofs.Rows.{grow_flat}
use Rattle.wf_grid.proofs.file_shape.file_numbers.Goals as goal

pub loop-k-preserved : goal.loop-k-preserved
loop-k-preserved c =
    let at = c.args.at.now in
    grow_flat (file_plane at.plan.now at.number at.field at.levels.now) [] c.loop-k.values.items c.push_plane.new.values.items c.loop-k.k (file_plane at.plan.now at.number at.field at.levels.now (c.loop-k.k + 1)) c.loop-k.invariant c.in_ok-push_plane.ensures refl

pub returns : goal.returns
unfolding file_plane file_row file_list listed
returns c =
    let at = c.args.at.now in
    let last : c.loop-k.k ≡ c.level.result.now.nz = omega arith in
    c.loop-k.invariant ∙ ap (λ (n : ℕ). flat_map (file_plane at.plan.now at.number at.field at.levels.now) (range_with_len 1 n)) (last ∙ ap (λ (f : Field). f.nz) c.level.ensures)
