-- What is read of a text behind some of its physical lines.
use Rattle.std.specs.Prelude.{◌≡◌, ℕ, ◌+◌, List, [], ◌∷◌, filter, Option, Some, None}
use Rattle.wf_model.specs.declared.text.TextFault.{TextFault}
use Rattle.wf_model.specs.declared.text.Line.{Line}
use Rattle.wf_model.specs.Lines.{LinesRead, has_words, lines_from, physical}

-- the logical lines with words that stand in this text before its first fault, and that fault,
-- where so many physical lines stand before it
abbrev pub rest_read : ℕ → List ℕ → LinesRead
rest_read before text = record {
  lines = filter has_words (lines_from (before + 1) (physical text)).lines;
  fault = (lines_from (before + 1) (physical text)).fault;
}

-- a line in front of those that follow it
abbrev pub led : Line → LinesRead → LinesRead
led line rest = record { lines = line ∷ rest.lines; fault = rest.fault }

-- no line, and this fault, if any
abbrev pub no_lines : Option TextFault → LinesRead
no_lines fault = record { lines = []; fault = fault }

-- no line is read before this fault; want of memory is no fault
abbrev pub StopsAt : LinesRead → Option TextFault → Type 0
StopsAt read None = Unit {0}
StopsAt read (Some f) = read ≡ no_lines (Some f)
