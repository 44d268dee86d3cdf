use Rattle.std.proofs.Common.{◌≡◌, drop}
use Rattle.std.specs.Str.{bytes_eq}
use Rattle.wf_model.specs.Letters.{lower}
use Rattle.wf_table.proofs.place.is_word.Given as goal

abbrev pub invariant-loop-i : goal.invariant-loop-i
invariant-loop-i l = bytes_eq (lower (drop l.i l.text)) (drop l.i l.word) ≡ bytes_eq (lower l.text) l.word
