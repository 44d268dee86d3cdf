use Rattle.std.proofs.Common.{◌≡◌, ℕ, ◌+◌, ◌*◌, ◌≤◌, ◌<◌, length, get_or, sym, ap, subst, ◌∙◌, All, w64, rules, arith}
use Rattle.std.proofs.lemmas.Int.{to_z-of_z}
use Rattle.std.specs.Prelude.{ℤ, pos, ◌+ℤ◌}
use Rattle.wf_model.specs.Patches.{split_of}
use Rattle.wf_rect.specs.Tiles.{rows_of}
use Rattle.wf_rect.proofs.Stored.{count_of}
use Rattle.wf_model.specs.Kept.{IsKeptCell}
use Rattle.wf_field.specs.Rows.{SetsKept}
use Rattle.wf_field.specs.Regions.{columns_of, plane_cells, region_cells, region_number}
use Rattle.wf_field.proofs.Joining.{kept_patch}
use Rattle.wf_field.proofs.Regions.{row_inside, row_all, row_step}
use Rattle.wf_field.proofs.memory.Memory.commit_plane.Goals as goal

pub overflow_mul-from-in-loop-y : goal.overflow_mul-from-in-loop-y
overflow_mul-from-in-loop-y g c =
    let a = c.args in
    let r = a.region in
    let rows : c.count-rows.result ≡ rows_of r.rect = count_of r.rect.j0 r.rect.j1 _ (search rules) (search rules) c.count-rows.ensures in
    let cols : c.count-columns.result ≡ columns_of r.rect = count_of r.rect.i0 r.rect.i1 _ (search rules) (search rules) c.count-columns.ensures in
    let below : c.loop-y.y < rows_of r.rect = subst (λ (m : ℕ). c.loop-y.y < m) rows c.loop-y-test.true in
    let h : (a.a * c.count-rows.result + c.loop-y.y) * c.count-columns.result + c.count-columns.result ≤ length a.scratch.now =
    subst (λ (m : ℕ). (a.a * m + c.loop-y.y) * c.count-columns.result + c.count-columns.result ≤ length a.scratch.now) (sym rows)
    (subst (λ (m : ℕ). (a.a * rows_of r.rect + c.loop-y.y) * m + m ≤ length a.scratch.now) (sym cols)
    (row_inside a.field r (length a.scratch.now) a.a c.loop-y.y c.requires.scratch c.requires.plane below)) in
    omega (arith, h)

pub part-row-requires : goal.part-row-requires
part-row-requires g c =
    let a = c.args in
    let r = a.region in
    let rows : c.count-rows.result ≡ rows_of r.rect = count_of r.rect.j0 r.rect.j1 _ (search rules) (search rules) c.count-rows.ensures in
    let cols : c.count-columns.result ≡ columns_of r.rect = count_of r.rect.i0 r.rect.i1 _ (search rules) (search rules) c.count-columns.ensures in
    let below : c.loop-y.y < rows_of r.rect = subst (λ (m : ℕ). c.loop-y.y < m) rows c.loop-y-test.true in
    subst (λ (m : ℕ). (a.a * m + c.loop-y.y) * c.count-columns.result + c.count-columns.result ≤ length a.scratch.now) (sym rows)
    (subst (λ (m : ℕ). (a.a * rows_of r.rect + c.loop-y.y) * m + m ≤ length a.scratch.now) (sym cols)
    (row_inside a.field r (length a.scratch.now) a.a c.loop-y.y c.requires.scratch c.requires.plane below))

pub set_row-requires-clause-row : goal.set_row-requires-clause-row
set_row-requires-clause-row g c =
    let a = c.args in
    let r = a.region in
    let plan = g.N.RunName.run.plan in
    let split = split_of g.N.RunName.layout in
    let rows : c.count-rows.result ≡ rows_of r.rect = count_of r.rect.j0 r.rect.j1 _ (search rules) (search rules) c.count-rows.ensures in
    let cols : c.count-columns.result ≡ columns_of r.rect = count_of r.rect.i0 r.rect.i1 _ (search rules) (search rules) c.count-columns.ensures in
    let below : c.loop-y.y < rows_of r.rect = subst (λ (m : ℕ). c.loop-y.y < m) rows c.loop-y-test.true in
    let same = c.loop-y.invariant.same in
    let all = subst (λ (n : ℕ). All (IsKeptCell plan split n c.loop-y.self.patch) (region_cells a.field r)) (sym same.domain)
    (subst (λ (n : ℕ). All (IsKeptCell plan split a.self.now.domain n) (region_cells a.field r)) (sym same.patch) c.requires.cells) in
    row_all a.field r (IsKeptCell plan split c.loop-y.self.domain c.loop-y.self.patch) a.a c.loop-y.y (length c.part-row.result.now) _ _ all c.requires.plane below (c.part-row.ensures.long ∙ cols)
    (to_z-of_z w64 c.moved.result (search rules) ∙ c.moved.ensures ∙ ap (λ (z : ℤ). z +ℤ pos c.loop-y.y) (to_z-of_z w64 r.rect.j0 (search rules)))
    (to_z-of_z w64 r.rect.i0 (search rules))

pub loop-y-preserved : goal.loop-y-preserved
loop-y-preserved g c =
    let a = c.args in
    let r = a.region in
    let plan = g.N.RunName.run.plan in
    let split = split_of g.N.RunName.layout in
    let rows : c.count-rows.result ≡ rows_of r.rect = count_of r.rect.j0 r.rect.j1 _ (search rules) (search rules) c.count-rows.ensures in
    let cols : c.count-columns.result ≡ columns_of r.rect = count_of r.rect.i0 r.rect.i1 _ (search rules) (search rules) c.count-columns.ensures in
    let same = c.loop-y.invariant.same in
    let now = kept_patch same.domain same.patch c.set_row.ensures.set in
    record {
      same = record { domain = c.set_row.ensures.same.domain ∙ same.domain; patch = c.set_row.ensures.same.patch ∙ same.patch };
      set = row_step a.field r plan split a.self.now.domain a.self.now.patch a.scratch.now a.a c.loop-y.y _ _ c.part-row.result.now a.self.now.levels c.loop-y.self.levels c.set_row.new.self.levels
          (to_z-of_z w64 c.moved.result (search rules) ∙ c.moved.ensures ∙ ap (λ (z : ℤ). z +ℤ pos c.loop-y.y) (to_z-of_z w64 r.rect.j0 (search rules)))
          (to_z-of_z w64 r.rect.i0 (search rules))
          (c.part-row.ensures.long ∙ cols)
          (λ m h. c.part-row.ensures.numbers m (subst (λ (n : ℕ). m < n) (sym cols) h) ∙ (λ n. get_or a.scratch.now ((a.a * rows n + c.loop-y.y) * cols n + m) (pos 0)))
          c.loop-y.invariant.set now;
    }

pub returns-clause-set : goal.returns-clause-set
returns-clause-set g c =
    let a = c.args in
    let r = a.region in
    let rows : c.count-rows.result ≡ rows_of r.rect = count_of r.rect.j0 r.rect.j1 _ (search rules) (search rules) c.count-rows.ensures in
    let all : c.loop-y.y ≡ rows_of r.rect = omega (arith, rows) in
    subst (λ (n : ℕ). SetsKept g.N.RunName.run.plan (split_of g.N.RunName.layout) a.self.now.domain a.self.now.patch (region_number r a.scratch.now) (plane_cells a.field (r.k0 + a.a) r.rect n) a.self.now.levels c.loop-y.self.levels) all c.loop-y.invariant.set
