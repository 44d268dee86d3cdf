use Rattle.std.proofs.Common.{◌≡◌, ℕ, ◌+◌, ◌-◌, ◌*◌, length, refl, sym, ap, subst, ◌∙◌, All, w64, to_z, of_z, rules, arith}
use Rattle.std.proofs.lemmas.Int.{to_z-of_z}
use Rattle.std.specs.Prelude.{ℤ, pos, ◌+ℤ◌}
use Rattle.wf_model.specs.Plans.{wrapped}
use Rattle.wf_model.specs.Patches.{split_of}
use Rattle.wf_model.specs.Kept.{IsKeptCell}
use Rattle.wf_field.specs.Settings.{cell_at, point_number}
use Rattle.wf_field.specs.Rows.{SetsKept, row_cells}
use Rattle.wf_field.proofs.Joining.{kept_patch}
use Rattle.wf_field.proofs.Points.{inside_x, inside_y, level_in, row_one, row_part, run_number, run_step}
use Rattle.wf_field.proofs.memory.Memory.fill_row.Goals as goal

pub row-start-requires-clause-level : goal.row-start-requires-clause-level
row-start-requires-clause-level g c =
    let a = c.args in
    let plan = g.N.RunName.run.plan in
    let layout = g.N.RunName.layout in
    let kept = row_one (IsKeptCell plan (split_of layout) a.self.now.domain a.self.now.patch) a.field a.k a.bounds.now.columns c.loop-x.x a.j a.bounds.now.west c.requires.row c.loop-x-test.true in
    level_in plan layout a.self.now.domain a.self.now.patch c.requires.sound a.field a.bounds.now c.requires.bounds a.values.now a.k a.j (a.bounds.now.west +ℤ pos c.loop-x.x) kept

pub row-start-requires-clause-inside : goal.row-start-requires-clause-inside
row-start-requires-clause-inside g c =
    let a = c.args in
    let plan = g.N.RunName.run.plan in
    let layout = g.N.RunName.layout in
    let kept = row_one (IsKeptCell plan (split_of layout) a.self.now.domain a.self.now.patch) a.field a.k a.bounds.now.columns c.loop-x.x a.j a.bounds.now.west c.requires.row c.loop-x-test.true in
    inside_y plan layout a.self.now.domain a.self.now.patch c.requires.sound a.field a.bounds.now c.requires.bounds a.values.now a.k a.j (a.bounds.now.west +ℤ pos c.loop-x.x) _ (to_z-of_z w64 a.j c.ranges.j) kept

pub column-first-requires-clause-inside : goal.column-first-requires-clause-inside
column-first-requires-clause-inside g c =
    let a = c.args in
    let plan = g.N.RunName.run.plan in
    let layout = g.N.RunName.layout in
    let kept = row_one (IsKeptCell plan (split_of layout) a.self.now.domain a.self.now.patch) a.field a.k a.bounds.now.columns c.loop-x.x a.j a.bounds.now.west c.requires.row c.loop-x-test.true in
    inside_x plan layout a.self.now.domain a.self.now.patch c.requires.sound a.field a.bounds.now c.requires.bounds a.values.now a.k a.j (a.bounds.now.west +ℤ pos c.loop-x.x) _
    (to_z-of_z w64 c.moved-i.result (search rules) ∙ c.moved-i.ensures ∙ ap (λ (z : ℤ). z +ℤ pos c.loop-x.x) (to_z-of_z w64 a.bounds.now.west (search rules))) kept

pub set_row-requires-clause-row : goal.set_row-requires-clause-row
set_row-requires-clause-row g c =
    let a = c.args in
    let plan = g.N.RunName.run.plan in
    let split = split_of g.N.RunName.layout in
    let same = c.loop-x.invariant.same in
    let all = subst (λ (n : ℕ). All (IsKeptCell plan split n c.loop-x.self.patch) (row_cells a.field a.k a.j a.bounds.now.west a.bounds.now.columns)) (sym same.domain)
    (subst (λ (n : ℕ). All (IsKeptCell plan split a.self.now.domain n) (row_cells a.field a.k a.j a.bounds.now.west a.bounds.now.columns)) (sym same.patch) c.requires.row) in
    let long = c.part-run.ensures.long in
    let count = c.min-count.ensures in
    let less = c.loop-x-test.true in
    row_part (IsKeptCell plan split c.loop-x.self.domain c.loop-x.self.patch) a.field a.k a.bounds.now.columns c.loop-x.x (length c.part-run.result.now) a.j _ a.bounds.now.west _ all
    (to_z-of_z w64 a.j c.ranges.j)
    (to_z-of_z w64 c.moved-i.result (search rules) ∙ c.moved-i.ensures ∙ ap (λ (z : ℤ). z +ℤ pos c.loop-x.x) (to_z-of_z w64 a.bounds.now.west (search rules)))
    (omega (arith, long, count, less))

pub loop-x-preserved : goal.loop-x-preserved
loop-x-preserved g c =
    let a = c.args in
    let plan = g.N.RunName.run.plan in
    let layout = g.N.RunName.layout in
    let split = split_of g.N.RunName.layout in
    let same = c.loop-x.invariant.same in
    let long = c.part-run.ensures.long in
    let count = c.min-count.ensures in
    let less = c.loop-x-test.true in
    let first = c.column-first.ensures.bound in
    let kept = row_one (IsKeptCell plan split a.self.now.domain a.self.now.patch) a.field a.k a.bounds.now.columns c.loop-x.x a.j a.bounds.now.west c.requires.row c.loop-x-test.true in
    let at : _ ≡ a.bounds.now.west +ℤ pos c.loop-x.x = to_z-of_z w64 c.moved-i.result (search rules) ∙ c.moved-i.ensures ∙ ap (λ (z : ℤ). z +ℤ pos c.loop-x.x) (to_z-of_z w64 a.bounds.now.west (search rules)) in
    let now = kept_patch same.domain same.patch c.set_row.ensures.set in
    record {
      inside = omega (arith, count, less);
      same = record { domain = c.set_row.ensures.same.domain ∙ same.domain; patch = c.set_row.ensures.same.patch ∙ same.patch };
      set = run_step plan split a.self.now.domain a.self.now.patch (point_number plan a.self.now.domain a.field a.values.now) a.field a.k c.loop-x.x c.min-count.result _ _ a.bounds.now.west _ c.part-run.result.now
          a.self.now.levels c.loop-x.self.levels c.set_row.new.self.levels refl at long
          (λ m h. c.part-run.ensures.numbers m h
          ∙ run_number plan layout a.self.now.domain a.self.now.patch c.requires.sound a.field a.bounds.now c.requires.bounds a.values.now a.k c.row-start.result c.column-first.result m a.j (a.bounds.now.west +ℤ pos c.loop-x.x) kept
          (c.row-start.ensures.value ∙ ap (λ (z : ℤ). ((a.k - 1) * a.bounds.now.height + (wrapped a.bounds.now.periodic_y a.bounds.now.height z - 1)) * a.bounds.now.width) (to_z-of_z w64 a.j c.ranges.j))
          (c.column-first.ensures.value ∙ ap (wrapped a.bounds.now.periodic_x a.bounds.now.width) at) (omega (arith, count, h, first))
          ∙ ap (λ (z : ℤ). point_number plan a.self.now.domain a.field a.values.now (cell_at a.field a.k z ((a.bounds.now.west +ℤ pos c.loop-x.x) +ℤ pos m))) (sym (to_z-of_z w64 a.j c.ranges.j)))
          c.loop-x.invariant.set now;
    }

pub returns-clause-set : goal.returns-clause-set
returns-clause-set g c =
    let a = c.args in
    let all : c.loop-x.x ≡ a.bounds.now.columns = let more = c.loop-x-test.false in let most = c.loop-x.invariant.inside in omega arith in
    subst (λ (z : ℤ). SetsKept g.N.RunName.run.plan (split_of g.N.RunName.layout) a.self.now.domain a.self.now.patch (point_number g.N.RunName.run.plan a.self.now.domain a.field a.values.now) (row_cells a.field a.k z a.bounds.now.west a.bounds.now.columns) a.self.now.levels c.loop-x.self.levels) (to_z-of_z w64 a.j c.ranges.j)
    (subst (λ (n : ℕ). SetsKept g.N.RunName.run.plan (split_of g.N.RunName.layout) a.self.now.domain a.self.now.patch (point_number g.N.RunName.run.plan a.self.now.domain a.field a.values.now) (row_cells a.field a.k (to_z w64 (of_z w64 a.j)) a.bounds.now.west n) a.self.now.levels c.loop-x.self.levels) all c.loop-x.invariant.set)
