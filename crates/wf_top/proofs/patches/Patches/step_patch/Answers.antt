use Rattle.std.proofs.Common.{sym, subst, ◌∙◌, ◌≡◌, ◌+◌, length, length-set, get_or}
use Rattle.std.specs.Vec.{with_item}
use Rattle.std.proofs.lemmas.List.{get_or_default, get_or-set_same}
use Rattle.wf_model.specs.Demo.{demo_value}
use Rattle.wf_top.specs.declared.patch.Patch.{Patch}
use Rattle.wf_top.specs.Memories.{Hold, Holds, IsPatch, block_start}
use Rattle.wf_top.proofs.PatchLaws.{each_set, patch_kept, hold_all}
use Rattle.wf_top.proofs.ValueLaws.{small_held, stepped}
use Rattle.wf_top.proofs.DomainLaws.{domain_with}
use Rattle.wf_top.proofs.patches.Patches.step_patch.Goals as goal

pub step-requires-clause-small : goal.step-requires-clause-small
step-requires-clause-small c =
    let all = c.args.self.now in
    let before = all.patches.items in
    let patch = c.index_mut.result.now in
    let n = c.requires.grid.0 in
    let same : patch ≡ get_or before c.args.p patch = c.index_mut.ensures.value in
    let is = c.requires.domain.each c.args.p c.requires.place patch in
    let held = hold_all all.nx all.ny (block_start all.nx (length before) c.args.p) (block_start all.nx (length before) (c.args.p + 1)) (demo_value all.nx all.ny n) (get_or before c.args.p patch) (c.requires.grid.1 patch) in
    small_held all.nx all.ny n patch (subst (λ (x : Patch). Hold (demo_value all.nx all.ny n) all.ny x 0 x.width) (sym same) held)

pub returns-clause-domain : goal.returns-clause-domain
returns-clause-domain c =
    let all = c.args.self.now in
    let before = all.patches.items in
    let patch = c.index_mut.result.now in
    let made = c.step.new.self in
    let same : patch ≡ get_or before c.args.p patch = c.index_mut.ensures.value in
    let is : IsPatch all.nx all.ny (length before) c.args.p patch = subst (IsPatch all.nx all.ny (length before) c.args.p) (sym same) (c.requires.domain.each c.args.p c.requires.place patch) in
    domain_with all (with_item all.patches c.args.p made) all.column c.requires.domain (length-set before c.args.p made) c.requires.domain.column
    (each_set (IsPatch all.nx all.ny (length before)) before c.args.p made (λ q h ne other. c.requires.domain.each q h other) (patch_kept all.nx all.ny (length before) c.args.p patch made is c.step.ensures.shape))

pub returns-clause-stepped : goal.returns-clause-stepped
returns-clause-stepped c = λ n other held.
    let all = c.args.self.now in
    let p = c.args.p in
    let before = all.patches.items in
    let patch = c.index_mut.result.now in
    let made = c.step.new.self in
    let first = block_start all.nx (length before) p in
    let end = block_start all.nx (length before) (p + 1) in
    let same : patch ≡ get_or before p other = c.index_mut.ensures.value ∙ get_or_default before p patch other c.requires.place in
    let is : IsPatch all.nx all.ny (length before) p patch = subst (IsPatch all.nx all.ny (length before) p) (sym same) (c.requires.domain.each p c.requires.place other) in
    let whole = subst (λ (x : Patch). Hold (demo_value all.nx all.ny n) all.ny x 0 x.width) (sym same) (hold_all all.nx all.ny first end (demo_value all.nx all.ny n) (get_or before p other) held) in
    subst (Holds all.ny (demo_value all.nx all.ny (n + 1)) (demo_value all.nx all.ny n) (demo_value all.nx all.ny n)) (sym (get_or-set_same before p made other c.requires.place))
    (stepped all.nx all.ny n first end patch made is.block whole c.step.ensures.shape c.step.ensures.cells)
