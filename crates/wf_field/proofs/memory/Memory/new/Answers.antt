use Rattle.std.proofs.Common.{List, length, sym, subst}
use Rattle.wf_model.specs.declared.layout.Layout.{Layout}
use Rattle.wf_model.specs.declared.plan.Plan.{Plan}
use Rattle.wf_model.specs.Patches.{split_of}
use Rattle.wf_boxes.specs.declared.places.LevelBox.{LevelBox}
use Rattle.wf_boxes.specs.Boxes.{IsLaid}
use Rattle.wf_boxes.proofs.Laid.{laid_of}
use Rattle.wf_model.specs.Kept.{IsSoundPatch}
use Rattle.wf_field.specs.Kept.{AreLevelBoxes, AreZeros}
use Rattle.wf_field.proofs.Starting.{memory_made, zeros_shown}
use Rattle.wf_field.proofs.memory.Memory.new.Goals as goal

pub invariant_of-place : goal.invariant_of-place
invariant_of-place g c =
    let q = c.requires in
    record {
      laid = subst (λ (x : Plan). IsLaid x c.args.layout.now c.args.domain c.args.patch) (sym q.plan)
          (subst (λ (x : Layout). IsLaid g.N.RunName.run.plan x c.args.domain c.args.patch) (sym q.layout)
          (laid_of g.N.RunName.run.plan g.N.RunName.layout c.args.domain c.args.patch (q.sound).ranged q.laid q.domain q.patch));
    }

pub invariant_of-result : goal.invariant_of-result
invariant_of-result g c =
    let q = c.requires in
    let sound : IsSoundPatch g.N.RunName.run.plan g.N.RunName.layout c.args.domain c.args.patch = record { sound = (q.sound).sound; laid = q.laid; domain = q.domain; patch = q.patch } in
    let are = subst (λ (x : Plan). AreLevelBoxes x (split_of g.N.RunName.layout) c.args.domain c.args.patch c.in_ok-boxes.boxes.items) q.plan
    (subst (λ (x : Layout). AreLevelBoxes c.args.plan.now (split_of x) c.args.domain c.args.patch c.in_ok-boxes.boxes.items) q.layout c.in_ok-boxes.ensures) in
    let zeros = subst (λ (x : List LevelBox). AreZeros x (length x) c.in_ok-levels.levels.items) c.as_slice.ensures.value c.in_ok-levels.ensures in
    memory_made g.N.RunName.run.plan g.N.RunName.layout c.args.domain c.args.patch c.in_ok-boxes.boxes.items c.from_vec.result c.in_ok-levels.levels.items c.from_vec-2.result sound ((q.sound).ranged).limits.levels are zeros c.from_vec.ensures c.from_vec-2.ensures

pub returns-clause-zeros : goal.returns-clause-zeros
returns-clause-zeros g c =
    let q = c.requires in
    let sound : IsSoundPatch g.N.RunName.run.plan g.N.RunName.layout c.args.domain c.args.patch = record { sound = (q.sound).sound; laid = q.laid; domain = q.domain; patch = q.patch } in
    let are = subst (λ (x : Plan). AreLevelBoxes x (split_of g.N.RunName.layout) c.args.domain c.args.patch c.in_ok-boxes.boxes.items) q.plan
    (subst (λ (x : Layout). AreLevelBoxes c.args.plan.now (split_of x) c.args.domain c.args.patch c.in_ok-boxes.boxes.items) q.layout c.in_ok-boxes.ensures) in
    let zeros = subst (λ (x : List LevelBox). AreZeros x (length x) c.in_ok-levels.levels.items) c.as_slice.ensures.value c.in_ok-levels.ensures in
    zeros_shown g.N.RunName.run.plan g.N.RunName.layout c.args.domain c.args.patch c.in_ok-boxes.boxes.items c.from_vec.result c.in_ok-levels.levels.items c.from_vec-2.result sound ((q.sound).ranged).limits.levels are zeros c.from_vec.ensures c.from_vec-2.ensures
