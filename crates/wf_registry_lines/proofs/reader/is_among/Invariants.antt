use Rattle.std.proofs.Common.{◌≡◌, drop, map}
use Rattle.wf_model.specs.Letters.{is_among}
use Rattle.wf_registry_lines.specs.Kept.{name_at}
use Rattle.wf_registry_lines.proofs.reader.is_among.Given as goal

abbrev pub invariant-loop-place : goal.invariant-loop-place
invariant-loop-place l = is_among l.name (map (name_at l.files) (drop l.place-index l.reading)) ≡ is_among l.name (map (name_at l.files) l.reading)
