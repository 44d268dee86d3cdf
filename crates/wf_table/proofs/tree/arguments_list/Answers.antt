use Rattle.std.proofs.Common.{ap, ap₂, sym, ◌∙◌}
use Rattle.wf_model.specs.declared.expr.Args.{roll-Args}
use Rattle.wf_model.specs.declared.expr.Args.TheOpen as e
use Rattle.wf_model.specs.declared.expr.Args.TheVariants.{rolls-End, rolls-More}
use Rattle.wf_table.proofs.Trees.{before, before_end, before_popped}
use Rattle.wf_table.proofs.tree.arguments_list.Goals as goal

pub loop-tree-init : goal.loop-tree-init
loop-tree-init c = ap (before c.args.trees.items) (sym rolls-End) ∙ before_end c.args.trees.items

pub loop-tree-preserved : goal.loop-tree-preserved
loop-tree-preserved c =
    ap (before c.pop.new.self.items) (sym (rolls-More c.in_ok-new.field-0 c.in_ok-new-2.field-0) ∙ ap₂ (λ x xs. roll-Args (e.More x xs)) c.in_ok-new.ensures c.in_ok-new-2.ensures)
    ∙ before_popped c.loop-tree.trees.items c.pop.new.self.items c.in-Some.tree c.loop-tree.list _ c.in-Some.ensures.items c.loop-tree.invariant
