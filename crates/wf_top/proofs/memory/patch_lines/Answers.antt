use Rattle.std.proofs.Common.{arith, sym, ap, ◌∙◌, ◌≡◌, ℕ, [], ◌++◌, List, map, flat_map, string_bytes}
use Rattle.std.specs.List.{range_with_len}
use Rattle.std.proofs.lemmas.List.{flat_map_more}
use Rattle.std.proofs.lemmas.List.FromFn.{map-range_with_len_more}
use Rattle.wf_model.specs.Answer.{patch_line}
use Rattle.wf_model.specs.Demo.{demo_memory}
use Rattle.wf_top.proofs.memory.patch_lines.Goals as goal

pub loop-p-preserved : goal.loop-p-preserved
loop-p-preserved c = λ d e.
    let n = c.loop-p.p in
    let ms = map (demo_memory d) (range_with_len 0 n) in
    let line : string_bytes c.in_ok-patch_line.field-0 ≡ patch_line (demo_memory d n) = c.in_ok-patch_line.ensures ∙ ap patch_line (sym (c.memory.ensures.memory d e)) in
    c.in_ok-push_str.ensures.bytes
    ∙ ap (λ (t : List ℕ). t ++ c.deref.result.now) (c.loop-p.invariant d e)
    ∙ ap (λ (t : List ℕ). flat_map patch_line ms ++ t) (c.deref.ensures ∙ line)
    ∙ flat_map_more patch_line [] ms (demo_memory d n)
    ∙ ap (flat_map patch_line) (sym (map-range_with_len_more (demo_memory d) 0 n n (omega arith)))
