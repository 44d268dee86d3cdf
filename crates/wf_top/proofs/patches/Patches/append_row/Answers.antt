use Rattle.std.proofs.Common.{arith, sym, ap, subst, ◌∙◌, ◌≡◌, ◌+◌, ◌++◌, List, ◌*◌, ◌-◌, ◌<◌, length, get_or, take, drop, ℤ, pos, map}
use Rattle.std.specs.List.{range_with_len}
use Rattle.wf_top.specs.declared.patch.Patch.{Patch}
use Rattle.wf_top.specs.Memories.{Inside, IsPatch, block_start}
use Rattle.wf_top.proofs.PatchLaws.{block_last}
use Rattle.wf_top.proofs.RecordLaws.{row_more}
use Rattle.wf_top.proofs.patches.Patches.append_row.Goals as goal

pub loop-patch-preserved : goal.loop-patch-preserved
loop-patch-preserved c = λ own west east h.
    let all = c.args.self.now in
    let p = c.loop-patch.patch-index in
    let px = length all.patches.items in
    let patch = c.patch-item.result in
    let start = c.args.r * patch.width + patch.west in
    let same : patch ≡ get_or all.patches.items p patch = c.patch-item.is ∙ ap (λ (xs : List Patch). get_or xs p patch) c.deref-patch-items.ensures.value in
    let within : p < px = omega (arith, c.loop-patch-test.true, ap length c.deref-patch-items.ensures.value) in
    let is : IsPatch all.nx all.ny px p patch = subst (IsPatch all.nx all.ny px p) (sym same) (c.requires.domain.each p within patch) in
    let inside : Inside own all.ny patch = subst (Inside own all.ny) (sym same) (h p within patch).inside in
    row_more all.nx all.ny px p c.args.r own patch c.loop-patch.values.items c.args.values.now.items c.extend_from_slice.new.self.items is inside c.requires.row
    (c.loop-patch.invariant own west east h)
    (c.in_ok-extend_from_slice.ensures.items ∙ ap (λ (xs : List ℤ). c.loop-patch.values.items ++ take (start + patch.own - start) (drop start xs)) c.deref.ensures.value)

pub returns : goal.returns
returns c = λ own west east h.
    let all = c.args.self.now in
    let px = length all.patches.items in
    let last : c.loop-patch.patch-index ≡ px = omega (arith, c.loop-patch-test.false, c.loop-patch.auto.patch-index-end, ap length c.deref-patch-items.ensures.value) in
    let end : block_start all.nx px c.loop-patch.patch-index ≡ all.nx = ap (block_start all.nx px) last ∙ block_last all.nx px c.requires.domain.some in
    c.loop-patch.invariant own west east h ∙ ap (λ n. c.args.values.now.items ++ map (λ i. pos (own (c.args.r + 1) i)) (range_with_len 1 n)) end
