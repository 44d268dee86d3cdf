-- The first line of what is left of a text, as a loop joins it.
use Rattle.std.proofs.Common.{◌≡◌, ℕ, ◌+◌, ◌-◌, ◌<◌, ◌≤◌, true, false, List, [], ◌∷◌, length, drop, drop-drop, Option, Some, None, Result, Ok, Err, sym, ap, ◌∙◌, cond, arith}
use Rattle.std.specs.Prelude.{filter, IfOk, IfErr, IfNone}
use Rattle.wf_model.specs.declared.text.TextFault.{TextFault}
use Rattle.wf_model.specs.declared.text.Line.{Line}
use Rattle.wf_model.specs.declared.text.Word.{Word}
use Rattle.wf_model.specs.Lines.{LinesRead, words_from, last_of, goes_on, line, lines_from, has_words}
use Rattle.wf_model.specs.Reading.{Fails}
use Rattle.wf_text.specs.declared.error.TextError.{TextError}
use Rattle.wf_text.specs.declared.logical.Pending.{Pending}
use Rattle.wf_text.specs.Pending.{first_of, words_so_far}
use Rattle.wf_text.specs.Rest.{StopsAt, led, no_lines}
use Rattle.wf_text.specs.TextError.{fault_of}
use Rattle.wf_text.proofs.LogicalLines.{fails, stops, whole}

-- what follows the first lines of a text that is left is left of the whole text too
pub further : (text rest after : List ℕ) → rest ≡ drop (length text - length rest) text → after ≡ drop (length rest - length after) rest
    → length after < length rest → length rest ≤ length text → after ≡ drop (length text - length after) text
further text rest after e f shorter within =
    let m : (length text - length rest) + (length rest - length after) ≡ length text - length after = omega (arith, shorter, within) in
    f ∙ ap (drop (length rest - length after)) e ∙ drop-drop (length rest - length after) (length text - length rest) text ∙ ap (λ k. drop k text) m

-- a line by itself, where it has words
one_kept : (x : Line) → has_words x ≡ true → x ∷ [] ≡ filter has_words (x ∷ [])
one_kept x has = sym (ap (λ b. cond b (x ∷ []) []) has)

-- a line by itself, where it has none
none_kept : (x : Line) → has_words x ≡ false → [] ≡ filter has_words (x ∷ [])
none_kept x has = sym (ap (λ b. cond b (x ∷ []) []) has)

module _ (p : Option Pending) (n : ℕ) (l : List ℕ) (ls : List (List ℕ)) (words : List Word) (q : Pending) (total : LinesRead)
    (read : words_from (n + 1) 1 0 l ≡ Ok words) (off : goes_on (last_of words) ≡ false) (en : q.number ≡ first_of p (n + 1)) (ew : q.words.items ≡ words_so_far p words)
    (so_far : whole [] p n (lines_from (n + 1) (l ∷ ls)) ≡ total) where
  -- the line that ends here is the first one
  pub found : has_words (line q.number q.words.items) ≡ true
      → total ≡ led (line q.number q.words.items) (record { lines = filter has_words (lines_from (n + 1 + 1) ls).lines; fault = (lines_from (n + 1 + 1) ls).fault })
  found has = sym (stops [] (line q.number q.words.items ∷ []) p n l ls words q total read off en ew (one_kept (line q.number q.words.items) has) so_far)

  -- the line that ends here has no words
  pub passed : has_words (line q.number q.words.items) ≡ false → whole [] None (n + 1) (lines_from (n + 1 + 1) ls) ≡ total
  passed has = stops [] [] p n l ls words q total read off en ew (none_kept (line q.number q.words.items) has) so_far

-- a physical line has a fault, and no whole line stands before it
pub fails_first : (fault : Option TextFault) (p : Option Pending) (n : ℕ) (l : List ℕ) (ls : List (List ℕ)) (total : LinesRead)
    → Fails fault (words_from (n + 1) 1 0 l) → whole [] p n (lines_from (n + 1) (l ∷ ls)) ≡ total → StopsAt total fault
fails_first None p n l ls total bad so_far = tt
fails_first (Some f) p n l ls total bad so_far = fails f [] p n l ls total bad so_far

stops_at : (fault : Option TextFault) (total : LinesRead) → total ≡ no_lines fault → StopsAt total fault
stops_at None total is = tt
stops_at (Some f) total is = is

-- no line is left, and this fault, if any
pub end_found : {X E : Type 0} (result : Result (Option X) E) (fault : Option TextFault) (total : LinesRead) → total ≡ no_lines fault
    → IfOk result (λ next. (next ≡ None) × (fault ≡ None)) → IfOk result (λ next. IfNone next (total ≡ no_lines None))
end_found (Err e) fault total is none = tt
end_found (Ok None) fault total is none = is ∙ ap no_lines none.1
end_found (Ok (Some x)) fault total is none = tt

pub fault_found : {X : Type 0} (result : Result X TextError) (fault : Option TextFault) (total : LinesRead) → total ≡ no_lines fault
    → IfErr result (λ e. fault_of e ≡ fault) → IfErr result (λ e. StopsAt total (fault_of e))
fault_found (Ok x) fault total is same = tt
fault_found (Err e) fault total is same = rw same (stops_at fault total is)
