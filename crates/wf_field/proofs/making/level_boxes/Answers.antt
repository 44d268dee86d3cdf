use Rattle.std.proofs.Common.{rules, sym, subst, List}
use Rattle.wf_model.specs.Patches.{split_of}
use Rattle.wf_boxes.specs.declared.places.LevelBox.{LevelBox}
use Rattle.wf_boxes.specs.Places.{IsLevelBox}
use Rattle.wf_field.specs.Kept.{box_at}
use Rattle.wf_field.proofs.Starting.{box_more}
use Rattle.wf_field.proofs.making.level_boxes.Goals as goal

pub loop-field-preserved : goal.loop-field-preserved
loop-field-preserved c =
    let p = c.args.patch.now in
    let more = c.in_ok-push.ensures.items in
    record {
      count = search rules;
      each = λ f h. subst (λ (bs : List LevelBox). IsLevelBox p.plan.now (split_of p.layout.now) p.domain p.number f (box_at bs f)) (sym more)
          (box_more (IsLevelBox p.plan.now (split_of p.layout.now) p.domain p.number) c.loop-field.boxes.items c.level_box.result c.loop-field.field c.loop-field.invariant.count c.loop-field.invariant.each c.level_box.ensures f h);
    }
