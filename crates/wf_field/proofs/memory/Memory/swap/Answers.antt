use Rattle.std.proofs.Common.{◌≡◌, List, length, take, drop, ◌++◌, ap, subst, ◌∙◌}
use Rattle.std.specs.Prelude.{ℤ}
use Rattle.std.specs.List.{SwappedAt}
use Rattle.wf_model.specs.Patches.{split_of, kept_at}
use Rattle.wf_model.specs.PatchEffect.{swap_setting}
use Rattle.wf_model.specs.Kept.{SetsExactly}
use Rattle.wf_field.specs.Kept.{KeptMemory, IsMemory}
use Rattle.wf_field.proofs.Changing.{lent_kept}
use Rattle.wf_field.proofs.Exchanging.{swap_exact, swap_memory}
use Rattle.wf_field.proofs.memory.Memory.swap.Goals as goal

pub invariant_of-self : goal.invariant_of-self
invariant_of-self g c =
    let w = c.self.inside in
    let plan = g.N.RunName.run.plan in
    let layout = g.N.RunName.layout in
    let long : length c.swap.new.self ≡ length w.levels = c.swap.ensures.len ∙ ap (λ (xs : List (List ℤ)). length xs) c.as_mut_slice.ensures.value in
    let swapped = subst (λ (xs : List (List ℤ)). SwappedAt xs c.swap.new.self c.args.one c.args.two) c.as_mut_slice.ensures.value c.swap.ensures.by_index in
    lent_kept (λ (ls : List (List ℤ)). IsMemory plan layout w.domain w.patch w.boxes ls) w.levels c.swap.new.self long
    (swap_memory plan layout w.domain w.patch w.boxes w.levels c.swap.new.self c.args.one c.args.two c.self.invariant c.requires.level c.requires.pair long swapped)

pub returns-clause-set : goal.returns-clause-set
returns-clause-set g c =
    let w = c.self.inside in
    let plan = g.N.RunName.run.plan in
    let layout = g.N.RunName.layout in
    let long : length c.swap.new.self ≡ length w.levels = c.swap.ensures.len ∙ ap (λ (xs : List (List ℤ)). length xs) c.as_mut_slice.ensures.value in
    let swapped = subst (λ (xs : List (List ℤ)). SwappedAt xs c.swap.new.self c.args.one c.args.two) c.as_mut_slice.ensures.value c.swap.ensures.by_index in
    subst (λ (v : KeptMemory). SetsExactly plan (split_of layout) v.domain v.patch (swap_setting c.args.one c.args.two (kept_at plan (split_of layout) v.domain v.patch v.levels)) v.levels (take (length w.levels) (c.swap.new.self ++ drop (length c.swap.new.self) w.levels))) c.self.view_is
    (lent_kept (λ (ls : List (List ℤ)). SetsExactly plan (split_of layout) w.domain w.patch (swap_setting c.args.one c.args.two (kept_at plan (split_of layout) w.domain w.patch w.levels)) w.levels ls) w.levels c.swap.new.self long
    (swap_exact plan layout w.domain w.patch w.boxes w.levels c.swap.new.self c.args.one c.args.two c.self.invariant c.requires.level c.requires.pair long swapped))
