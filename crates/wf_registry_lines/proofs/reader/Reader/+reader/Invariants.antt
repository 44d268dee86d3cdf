use Rattle.std.proofs.Common.{◌≡◌, ◌+◌, ◌*◌, ◌≤◌, length, map, reverse, vec_len}
use Rattle.std.specs.List.{All}
use Rattle.wf_registry_lines.specs.Ahead.{ahead_met, seen}
use Rattle.wf_registry_lines.specs.FileLines.{IsHeld}
use Rattle.wf_registry_lines.specs.Kept.{name_at, text_at}
use Rattle.wf_registry_lines.specs.Met.{ArePlaced, includes_at, met_in, within_in}
use Rattle.wf_registry_lines.specs.declared.ahead.AheadLine.{AheadLine}
use Rattle.wf_registry_lines.proofs.reader.Reader.+reader.Given as goal

abbrev pub decreases-file : goal.decreases-file
decreases-file l = 5 * l.depth + 4

abbrev pub decreases-lines : goal.decreases-lines
decreases-lines l = 5 * l.depth + 3

abbrev pub decreases-line : goal.decreases-line
decreases-line l = 5 * l.depth + 2

abbrev pub decreases-include : goal.decreases-include
decreases-include l = 5 * l.depth + 1

abbrev pub decreases-named : goal.decreases-named
decreases-named l = 5 * l.depth

abbrev pub invariant-lines-loop-next : goal.invariant-lines-loop-next
invariant-lines-loop-next l = record {
  same : ahead_met l.self.defines.now (includes_at l.depth l.self.files.now l.self.defines.now l.reading) (name_at l.self.files.now l.place) (met_in l.self.files.now l.progress) (within_in l.within) (map (seen (text_at l.self.files.now l.place)) (reverse l.ahead.items))
      ≡ ahead_met l.self.defines.now (includes_at l.depth l.self.files.now l.self.defines.now l.reading) (name_at l.self.files.now l.place) (met_in l.self.files.now l.fn.progress) (record { keeping = 0; dropping = 0 }) (map (seen (text_at l.self.files.now l.place)) (reverse l.fn.ahead.items));
  held : All (λ (a : AheadLine). IsHeld (text_at l.self.files.now l.place) a.line) l.ahead.items;
  placed : ArePlaced l.self.files.now l.progress;
  room : l.within.keeping + l.within.dropping + length l.ahead.items ≤ length l.fn.ahead.items;
}

abbrev pub decreases-lines-loop-next : goal.decreases-lines-loop-next
decreases-lines-loop-next l = vec_len l.ahead
