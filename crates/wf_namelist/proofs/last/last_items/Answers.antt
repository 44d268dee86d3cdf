use Rattle.std.proofs.Common.{◌∙◌, ap, sym}
use Rattle.std.specs.HashSet.{contains}
use Rattle.std.specs.List.{list_any}
use Rattle.wf_namelist.proofs.KeptItems.{key_eq, none_yet, kept_new, kept_old}
use Rattle.wf_namelist.proofs.last.last_items.Goals as goal

pub loop-item-init : goal.loop-item-init
loop-item-init c =
    rw c.new-kept.ensures.items (none_yet c.args.items.items (contains key_eq c.new-seen.result) (λ k. ap (list_any (key_eq k)) c.new-seen.ensures.empty))

pub loop-item-preserved-in-Continue-branch-3 : goal.loop-item-preserved-in-Continue-branch-3
loop-item-preserved-in-Continue-branch-3 c =
    kept_new c.args.items.items c.loop-item.items.items c.pop.new.self.items c.loop-item.kept.items c.push.new.self.items (contains key_eq c.loop-item.seen) (contains key_eq c.insert.new.self) c.in_ok-key.key c.in-Some.item
    c.in-Some.ensures.items c.in_ok-push.ensures.items c.in_ok-key.ensures.group c.in_ok-key.ensures.name (sym c.if-is_new.true ∙ c.in_ok-is_new.ensures.added) c.in_ok-is_new.ensures.updates.0 c.loop-item.invariant

pub loop-item-preserved : goal.loop-item-preserved
loop-item-preserved c =
    kept_old c.args.items.items c.loop-item.items.items c.pop.new.self.items c.loop-item.kept.items (contains key_eq c.loop-item.seen) (contains key_eq c.insert.new.self) c.in_ok-key.key c.in-Some.item
    c.in-Some.ensures.items c.in_ok-key.ensures.group c.in_ok-key.ensures.name (sym c.if-is_new.false ∙ c.in_ok-is_new.ensures.added) c.in_ok-is_new.ensures.updates.0 c.loop-item.invariant
