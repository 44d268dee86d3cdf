use Rattle.std.proofs.Common.{◌<◌, ◌∙◌, ℕ, [], subst}
use Rattle.std.proofs.lemmas.List.{get_or_read}
use Rattle.wf_model.specs.Patches.{split_of}
use Rattle.wf_field.proofs.Beginning.{level_more, exact_patch}
use Rattle.wf_field.proofs.memory.Memory.fill_levels.Goals as goal

pub fill-requires-clause-level : goal.fill-requires-clause-level
fill-requires-clause-level g c = subst (λ (n : ℕ). c.loop-field.field < n) c.requires.levels c.loop-field-test.true

pub loop-field-preserved : goal.loop-field-preserved
loop-field-preserved g c =
    let a = c.args in
    let plan = g.N.RunName.run.plan in
    let split = split_of g.N.RunName.layout in
    let same = c.loop-field.invariant.same in
    let n = c.loop-field.field in
    let read = get_or_read a.lists.now n c.index-lists-field.result c.loop-field-test.true c.index-lists-field.is [] in
    record {
      same = record { domain = c.fill.ensures.same.domain ∙ same.domain; patch = c.fill.ensures.same.patch ∙ same.patch };
      set = level_more plan split a.self.now.domain a.self.now.patch n a.lists.now a.self.now.levels c.loop-field.self.levels c.fill.new.self.levels c.as_slice.result.now (c.as_slice.ensures ∙ read)
          c.loop-field.invariant.set (exact_patch n c.as_slice.result.now same.domain same.patch c.fill.ensures.set);
    }
