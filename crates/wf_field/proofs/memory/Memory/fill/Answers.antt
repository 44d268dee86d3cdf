use Rattle.std.proofs.Common.{◌≡◌, ℕ, List, sym, subst, ◌∙◌, arith}
use Rattle.wf_model.specs.Patches.{split_of}
use Rattle.wf_boxes.specs.declared.places.LevelBox.{LevelBox}
use Rattle.wf_boxes.specs.Places.{IsLevelBox}
use Rattle.wf_field.specs.Kept.{KeptMemory, box_at}
use Rattle.wf_field.specs.Settings.{point_number}
use Rattle.wf_field.specs.Rows.{SetsKept, box_planes}
use Rattle.wf_field.proofs.Filling.{planes_step, filled, points_patch}
use Rattle.wf_field.proofs.memory.Memory.fill.Goals as goal

pub loop-k-preserved : goal.loop-k-preserved
loop-k-preserved g c =
    let a = c.args in
    let plan = g.N.RunName.run.plan in
    let split = split_of g.N.RunName.layout in
    let same = c.loop-k.invariant.same in
    let list = a.values.now in
    let at = box_at c.as_slice.result.now a.field in
    let is = subst (λ (bs : List LevelBox). IsLevelBox plan split a.self.now.domain a.self.now.patch a.field (box_at bs a.field)) (sym c.as_slice.ensures)
    (subst (λ (v : KeptMemory). IsLevelBox plan split v.domain v.patch a.field (box_at c.self.inside.boxes a.field)) c.self.view_is (c.self.invariant.bounds.each a.field c.requires.level)) in
    record {
      same = record { domain = c.fill_plane.ensures.same.domain ∙ same.domain; patch = c.fill_plane.ensures.same.patch ∙ same.patch };
      set = planes_step plan split a.self.now.domain a.self.now.patch a.field at c.requires.level is (point_number plan a.self.now.domain a.field list) c.loop-k.k a.self.now.levels c.loop-k.self.levels c.fill_plane.new.self.levels
          c.loop-k.invariant.set (points_patch a.field list same.domain same.patch c.fill_plane.ensures.set);
    }

pub returns-clause-set : goal.returns-clause-set
returns-clause-set g c =
    let a = c.args in
    let plan = g.N.RunName.run.plan in
    let split = split_of g.N.RunName.layout in
    let list = a.values.now in
    let at = box_at c.as_slice.result.now a.field in
    let is = subst (λ (bs : List LevelBox). IsLevelBox plan split a.self.now.domain a.self.now.patch a.field (box_at bs a.field)) (sym c.as_slice.ensures)
    (subst (λ (v : KeptMemory). IsLevelBox plan split v.domain v.patch a.field (box_at c.self.inside.boxes a.field)) c.self.view_is (c.self.invariant.bounds.each a.field c.requires.level)) in
    let all : c.loop-k.k ≡ at.levels = let more = c.loop-k-test.false in let most = c.loop-k.auto.k-end in omega arith in
    (filled plan split a.self.now.domain a.self.now.patch a.field at c.requires.level is list a.self.now.levels c.loop-k.self.levels
    (subst (λ (n : ℕ). SetsKept plan split a.self.now.domain a.self.now.patch (point_number plan a.self.now.domain a.field list) (box_planes a.field at n) a.self.now.levels c.loop-k.self.levels) all c.loop-k.invariant.set))
