use Rattle.std.proofs.Common.{sym, subst}
use Rattle.wf_model.specs.declared.layout.Layout.{Layout}
use Rattle.wf_model.specs.declared.plan.Plan.{Plan}
use Rattle.wf_model.specs.Patches.{split_of}
use Rattle.wf_boxes.specs.Boxes.{IsLaid}
use Rattle.wf_boxes.proofs.Laid.{laid_of}
use Rattle.wf_halo.specs.Parts.{IsPart}
use Rattle.wf_halo.proofs.parts.part_of.Goals as goal

pub invariant_of-receiver : goal.invariant_of-receiver
invariant_of-receiver g c =
    let q = c.requires in
    record {
      laid = subst (λ (x : Plan). IsLaid x c.args.run.now.layout.now c.args.between.domain c.args.between.to) (sym c.args.run.now.plan_is)
          (subst (λ (x : Layout). IsLaid g.N.RunName.run.plan x c.args.between.domain c.args.between.to) (sym c.args.run.now.layout_is)
          (laid_of g.N.RunName.run.plan g.N.RunName.layout c.args.between.domain c.args.between.to (q.sound).ranged q.laid q.domain q.receiver));
    }

pub invariant_of-sender : goal.invariant_of-sender
invariant_of-sender g c =
    let q = c.requires in
    record {
      laid = subst (λ (x : Plan). IsLaid x c.args.run.now.layout.now c.args.between.domain c.args.between.from) (sym c.args.run.now.plan_is)
          (subst (λ (x : Layout). IsLaid g.N.RunName.run.plan x c.args.between.domain c.args.between.from) (sym c.args.run.now.layout_is)
          (laid_of g.N.RunName.run.plan g.N.RunName.layout c.args.between.domain c.args.between.from (q.sound).ranged q.laid q.domain q.sender));
    }

pub returns : goal.returns
returns g c =
    let a = c.args in
    subst (λ (x : Plan). IsPart x (split_of g.N.RunName.layout) a.between.domain a.between.to a.between.from a.around a.outside c.part_between.result) a.run.now.plan_is
    (subst (λ (x : Layout). IsPart a.run.now.plan.now (split_of x) a.between.domain a.between.to a.between.from a.around a.outside c.part_between.result) a.run.now.layout_is c.part_between.ensures)
