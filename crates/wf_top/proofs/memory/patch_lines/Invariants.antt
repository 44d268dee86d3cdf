use Rattle.std.proofs.Common.{◌≡◌, map, flat_map, string_bytes}
use Rattle.std.specs.List.{range_with_len}
use Rattle.wf_model.specs.declared.demo.Demo.{Demo}
use Rattle.wf_model.specs.Answer.{patch_line}
use Rattle.wf_model.specs.Demo.{demo_memory}
use Rattle.wf_top.specs.Domains.{IsEnd}
use Rattle.wf_top.proofs.memory.patch_lines.Given as goal

abbrev pub invariant-loop-p : goal.invariant-loop-p
invariant-loop-p l = (d : Demo) → IsEnd d l.patches → string_bytes l.text ≡ flat_map patch_line (map (demo_memory d) (range_with_len 0 l.p))
