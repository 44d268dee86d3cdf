use Rattle.std.proofs.Common.{◌≡◌, ℕ, sym, ap, subst, ◌∙◌, w64, rules, arith}
use Rattle.std.proofs.lemmas.Int.{to_z-of_z}
use Rattle.std.specs.Prelude.{ℤ, pos, ◌+ℤ◌}
use Rattle.wf_model.specs.Patches.{split_of}
use Rattle.wf_field.specs.Settings.{point_number}
use Rattle.wf_field.specs.Rows.{SetsKept, box_rows}
use Rattle.wf_field.proofs.Filling.{rows_kept, rows_step, box_patch, points_patch}
use Rattle.wf_field.proofs.memory.Memory.fill_plane.Goals as goal

pub fill_row-requires-clause-row : goal.fill_row-requires-clause-row
fill_row-requires-clause-row g c =
    let a = c.args in
    rows_kept g.N.RunName.run.plan (split_of g.N.RunName.layout) c.loop-y.self.domain c.loop-y.self.patch a.field a.bounds.now c.requires.level (box_patch (sym c.loop-y.invariant.same.domain) (sym c.loop-y.invariant.same.patch) c.requires.bounds) a.k c.loop-y.y _ (c.requires.plane).0 (c.requires.plane).1 c.loop-y-test.true
    (to_z-of_z w64 c.moved.result (search rules) ∙ c.moved.ensures ∙ ap (λ (z : ℤ). z +ℤ pos c.loop-y.y) (to_z-of_z w64 a.bounds.now.south (search rules)))

pub loop-y-preserved : goal.loop-y-preserved
loop-y-preserved g c =
    let a = c.args in
    let same = c.loop-y.invariant.same in
    let now = points_patch a.field a.values.now same.domain same.patch c.fill_row.ensures.set in
    record {
      same = record { domain = c.fill_row.ensures.same.domain ∙ same.domain; patch = c.fill_row.ensures.same.patch ∙ same.patch };
      set = rows_step g.N.RunName.run.plan (split_of g.N.RunName.layout) a.self.now.domain a.self.now.patch a.field a.bounds.now c.requires.level c.requires.bounds (point_number g.N.RunName.run.plan a.self.now.domain a.field a.values.now) a.k c.loop-y.y _
          a.self.now.levels c.loop-y.self.levels c.fill_row.new.self.levels
          (to_z-of_z w64 c.moved.result (search rules) ∙ c.moved.ensures ∙ ap (λ (z : ℤ). z +ℤ pos c.loop-y.y) (to_z-of_z w64 a.bounds.now.south (search rules)))
          c.loop-y.invariant.set now;
    }

pub returns-clause-set : goal.returns-clause-set
returns-clause-set g c =
    let a = c.args in
    let all : c.loop-y.y ≡ a.bounds.now.rows = let more = c.loop-y-test.false in let most = c.loop-y.auto.y-end in omega arith in
    subst (λ (n : ℕ). SetsKept g.N.RunName.run.plan (split_of g.N.RunName.layout) a.self.now.domain a.self.now.patch (point_number g.N.RunName.run.plan a.self.now.domain a.field a.values.now) (box_rows a.field a.bounds.now a.k n) a.self.now.levels c.loop-y.self.levels) all c.loop-y.invariant.set
