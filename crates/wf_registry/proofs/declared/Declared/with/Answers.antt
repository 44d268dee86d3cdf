use Rattle.std.proofs.Common.{subst, sym}
use Rattle.wf_registry.specs.Indexing.{IsIndexed}
use Rattle.wf_registry.proofs.declared.Declared.with.Goals as goal

pub invariant_of-result : goal.invariant_of-result
invariant_of-result c =
    let es = c.self.inside.entries.items in
    rw c.in_ok-push.ensures.items (c.in_ok-add.ensures es (subst (IsIndexed es) (sym c.deref_mut.ensures.value) c.self.invariant))
