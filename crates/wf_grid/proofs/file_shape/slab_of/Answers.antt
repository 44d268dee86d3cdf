use Rattle.std.proofs.Common.{◌<◌, length, sym, ap, subst, ◌∙◌}
use Rattle.wf_model.specs.declared.plan.Plan.{Plan}
use Rattle.wf_model.specs.Streams.{file_list}
use Rattle.wf_grid.specs.Levels.{grids_of}
use Rattle.wf_grid.proofs.Reaching.{lists_reached}
use Rattle.wf_grid.proofs.Shaped.{slab_is}
use Rattle.wf_grid.proofs.file_shape.slab_of.Goals as goal

pub level_size-requires-clause-domain : goal.level_size-requires-clause-domain
level_size-requires-clause-domain g c = (lists_reached g.N.RunName.run c.requires.steppable c.args.frame.now.place c.args.levels.now c.requires.reached c.plan-plan.result.now c.plan-plan.ensures).domain

pub level_size-requires-clause-level : goal.level_size-requires-clause-level
level_size-requires-clause-level g c = subst (λ (x : Plan). c.args.field < length x.fields) (sym c.plan-plan.ensures) c.requires.level

pub invariant_of-at : goal.invariant_of-at
invariant_of-at g c = record {
  lists = lists_reached g.N.RunName.run c.requires.steppable c.args.frame.now.place c.args.levels.now c.requires.reached c.plan-plan.result.now c.plan-plan.ensures;
  is = subst (λ (x : Plan). c.args.field < length x.fields) (sym c.plan-plan.ensures) c.requires.level;
  sized = c.level_size.ensures.extents;
}

pub new-requires : goal.new-requires
new-requires g c =
    c.in_ok-values.ensures ∙ ap (λ (x : Plan). file_list x 1 c.args.field (grids_of x 1 c.args.levels.now)) c.plan-plan.ensures
    ∙ slab_is g.N.RunName.run g.N.RunName.layout c.args.frame.now c.args.field c.args.levels.now c.requires.steppable c.requires.frame c.requires.reached c.requires.level
