use Rattle.std.proofs.Common.{◌∙◌, ◌-◌, ◌==◌, ◌||◌, List, length, sym, ap, subst, slice_index_or}
use Rattle.std.specs.Prelude.{ℤ, pos}
use Rattle.wf_model.specs.Core.{begin_patch}
use Rattle.wf_model.specs.declared.initial.Initial.{Initial}
use Rattle.wf_model.specs.Outcome.{no_lists}
use Rattle.wf_model.specs.PatchEffect.{Memory}
use Rattle.wf_model.specs.Plans.{begin_of}
use Rattle.wf_field.specs.Kept.{KeptMemory, Shows}
use Rattle.wf_field.proofs.Beginning.{begins_empty, begins_filled, exact_levels, shown_patch}
use Rattle.wf_field.proofs.memory.Memory.begin.Goals as goal
use Rattle.wf_field.proofs.memory.Memory.begin.Goals.{then-has_numbers, else-has_numbers}

pub returns-clause-begins : goal.returns-clause-begins
returns-clause-begins g c =
    let a = c.args in
    let r = g.N.RunName.run in
    let layout = g.N.RunName.layout in
    let made = c.in_ok-memory.ensures in
    let old = c.in_ok-memory.memory.levels in
    let begin : Memory = (begin_patch r layout a.domain a.patch).memory in
    let zeros = shown_patch (λ f k j i. pos 0) made.domain made.patch made.zeros in
    let test = sym (ap (λ (i : Initial). (a.domain == 1) || (begin_of i.begins a.domain).resumed) c.requires.initial) ∙ sym c.has_numbers.ensures in
    elim c.if-has_numbers.branch [
      | then-has_numbers w ↦
          let lists = w.lists_of.result.now in
          let is = w.lists_of.ensures ∙ ap (λ (i : Initial). slice_index_or i.grids (a.domain - 1) no_lists) c.requires.initial in
          let long = ap (λ (ls : List (List ℤ)). length ls) is ∙ (c.requires.sound).fitting.shape.levels a.domain c.requires.domain in
          let same = w.fill_levels.ensures.same in
          subst (λ (k : KeptMemory). Shows r.plan layout k begin) (sym w.memory-is)
          (shown_patch begin (sym (same.domain ∙ made.domain)) (sym (same.patch ∙ made.patch))
          (begins_filled r layout a.domain a.patch old zeros lists w.fill_levels.new.self.levels (test ∙ w.if-has_numbers.true) is long
          (exact_levels lists made.domain made.patch w.fill_levels.ensures.set)))
      | else-has_numbers w ↦
          subst (λ (k : KeptMemory). Shows r.plan layout k begin) (sym w.memory-is)
          (shown_patch begin (sym made.domain) (sym made.patch) (begins_empty r layout a.domain a.patch old zeros (test ∙ w.if-has_numbers.false)))
    ]
