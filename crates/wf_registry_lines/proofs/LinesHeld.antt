-- The lines of a text, held one after the other.
use Rattle.std.proofs.Common.{◌≡◌, ℕ, ◌+◌, ◌<◌, ◌≤◌, List, [], ◌∷◌, ◌++◌, length, drop, map, Option, None, sym, ap, ap₂, ◌∙◌, arith, append_assoc, drop-drop}
use Rattle.std.proofs.Math.ListN.{drop_of_length-le}
use Rattle.std.proofs.lemmas.List.{append-nil, map-append}
use Rattle.wf_model.specs.declared.text.Line.{Line}
use Rattle.wf_model.specs.declared.text.TextFault.{TextFault}
use Rattle.wf_model.specs.Lines.{LinesRead, lines_from, physical}
use Rattle.wf_text.specs.Rest.{led, no_lines, rest_read}
use Rattle.wf_registry_lines.specs.FileLines.{first_of, held, line_at}
use Rattle.wf_registry_lines.specs.declared.ahead.FileLine.{FileLine}

-- behind lines that were read
abbrev pub behind : List Line → LinesRead → LinesRead
behind done rest = record { lines = done ++ rest.lines; fault = rest.fault }

module _ (text : List ℕ) (done : List Line) (at before : ℕ) (total : LinesRead) (so_far : behind done (rest_read before (drop at text)) ≡ total) where
  -- the next line is read
  module _ (l : Line) (number taken : ℕ) (e : rest_read before (drop at text) ≡ led l (rest_read number (drop taken (drop at text)))) where
    pub one_more : behind (done ++ l ∷ []) (rest_read number (drop (at + taken) text)) ≡ total
    one_more =
        let rest : LinesRead = rest_read number (drop taken (drop at text)) in
        ap (λ (bs : List ℕ). behind (done ++ l ∷ []) (rest_read number bs)) (sym (drop-drop taken at text))
        ∙ ap (λ (ls : List Line). let r : LinesRead = record { lines = ls; fault = rest.fault } in r) (append_assoc done (l ∷ []) rest.lines)
        ∙ sym (ap (behind done) e) ∙ so_far

    pub line_here : line_at text at before ≡ l
    line_here = ap (λ (r : LinesRead). first_of r.lines) e

    -- and held behind the others
    pub more_held : (lines more : List FileLine) (f : FileLine) → done ≡ map (held text) lines → more ≡ lines ++ f ∷ [] → f.from ≡ at → f.before ≡ before
        → behind (map (held text) more) (rest_read number (drop (at + taken) text)) ≡ total
    more_held lines more f ed em ef eb =
        ap (λ (ls : List Line). behind ls (rest_read number (drop (at + taken) text)))
        (ap (map (held text)) em ∙ map-append (held text) lines (f ∷ []) ∙ ap₂ (λ (ls : List Line) (x : Line). ls ++ x ∷ []) (sym ed) (ap₂ (line_at text) ef eb ∙ line_here))
        ∙ one_more

    pub is_there : 0 < length (rest_read before (drop at text)).lines
    is_there = omega (arith, ap (λ (r : LinesRead). length r.lines) e)

  -- no further line is read
  pub no_more : (fault : Option TextFault) → rest_read before (drop at text) ≡ no_lines fault → total ≡ record { lines = done; fault = fault }
  no_more fault e = sym so_far ∙ ap (behind done) e ∙ ap (λ (ls : List Line). let r : LinesRead = record { lines = ls; fault = fault } in r) (append-nil done)

-- no line stands behind the end
pub at_end : (text : List ℕ) (at before : ℕ) → length text ≤ at → rest_read before (drop at text) ≡ no_lines None
unfolding physical lines_from
at_end text at before past = ap (rest_read before) (drop_of_length-le text past)
