-- A file is its lines, and then the fault of its text.
use Rattle.std.proofs.Common.{◌≡◌, ℕ, ◌<◌, Bool, true, false, cond, List, length, get_or, map, reverse, Option, Some, None, Result, Ok, refl, subst, sym, ap, ap₂, ◌∙◌}
use Rattle.std.specs.List.{All}
use Rattle.std.specs.Prelude.{is_some, slice_get}
use Rattle.std.specs.Str.{IsUtf8, is_utf8}
use Rattle.std.proofs.lemmas.Str.{IsUtf8-from_is_utf8, is_utf8-from_IsUtf8}
use Rattle.wf_model.specs.declared.registry.SourceFile.{SourceFile}
use Rattle.wf_model.specs.declared.registry.RegistryKind.TheVariants.{BadText, NotText}
use Rattle.wf_model.specs.declared.text.TextFault.{TextFault}
use Rattle.wf_model.specs.Letters.{Text}
use Rattle.wf_model.specs.Lines.{lines_read}
use Rattle.wf_model.specs.Reading.{◌>>=◌, Fails}
use Rattle.wf_model.specs.KeptLines.{fault_line, Defines, Includes, Met, Stop, Within, lines_met, stop, text_met}
use Rattle.wf_registry_lines.specs.Ahead.{Marked, ahead_met, file_at_met, marks, seen}
use Rattle.wf_registry_lines.specs.FileLines.{IsHeld, held}
use Rattle.wf_registry_lines.specs.Kept.{name_at, name_of, text_at, text_of}
use Rattle.wf_registry_lines.specs.declared.ahead.AheadLine.{AheadLine}
use Rattle.wf_registry_lines.specs.declared.ahead.FileLine.{FileLine}
use Rattle.wf_model.proofs.ReadingLemmas.{Fails-along, Fails-chain}
use Rattle.wf_registry_lines.proofs.LinesAhead.{ahead_met-marks}
use Rattle.wf_registry_lines.proofs.Places.{file_here}

-- the lines of a text that are still to be read, and its fault
pub record IsAhead (text : List ℕ) (fault : Option TextFault) (ahead : List Marked) : Type 0 where
  lines : ahead ≡ marks (is_some fault) (lines_read text).lines
  fault_is : fault ≡ (lines_read text).fault

-- lines that are held of a text are those still to be read
pub held_ahead : (text bytes : List ℕ) (lines : List FileLine) (fault : Option TextFault) (faulty : Bool) (ahead : List AheadLine) → bytes ≡ text
    → map (held bytes) lines ≡ (lines_read bytes).lines → fault ≡ (lines_read bytes).fault → All (IsHeld bytes) lines → faulty ≡ is_some fault
    → ((t : List ℕ) → All (IsHeld t) lines → map (seen t) (reverse ahead) ≡ marks faulty (map (held t) lines)) → IsAhead text fault (map (seen text) (reverse ahead))
held_ahead text bytes lines fault faulty ahead is el ef all eb marked = subst (λ (t : List ℕ). IsAhead t fault (map (seen t) (reverse ahead))) is (record {
  lines = marked bytes all ∙ ap₂ marks eb el;
  fault_is = ef;
})

abbrev pub outside : Within
outside = record { keeping = 0; dropping = 0 }

module _ (defines : Defines) (include : Includes) (met : Met) (files : List SourceFile) (place : ℕ) (f : SourceFile) (here : slice_get files place ≡ Some f) where
  -- the lines and the fault of this file's text
  file_is : (fault : Option TextFault) (ahead : List Marked) → is_utf8 f.text ≡ true → IsAhead f.text fault ahead
      → file_at_met defines include met (slice_get files place) ≡ (ahead_met defines include (name_at files place) met outside ahead >>= text_met fault (name_at files place))
  file_is fault ahead utf8 a =
      ap (file_at_met defines include met) here
      ∙ ap (λ b. cond b (lines_met defines include f.name (is_some (lines_read f.text).fault) met outside (lines_read f.text).lines >>= text_met (lines_read f.text).fault f.name) (stop met f.name 0 NotText)) utf8
      ∙ ap (λ (t : Option TextFault). lines_met defines include f.name (is_some t) met outside (lines_read f.text).lines >>= text_met t f.name) (sym a.fault_is)
      ∙ ap (λ (r : Result Met Stop). r >>= text_met fault f.name) (sym (ahead_met-marks defines include f.name (is_some fault) met outside (lines_read f.text).lines))
      ∙ ap (λ (ls : List Marked). ahead_met defines include f.name met outside ls >>= text_met fault f.name) (sym a.lines)
      ∙ ap (λ (name : Text). ahead_met defines include name met outside ahead >>= text_met fault name) (sym (ap name_of here))

  -- a text that isn't UTF-8
  no_text : is_utf8 f.text ≡ false → file_at_met defines include met (slice_get files place) ≡ stop met (name_at files place) 0 NotText
  no_text bytes =
      ap (file_at_met defines include met) here
      ∙ ap (λ b. cond b (lines_met defines include f.name (is_some (lines_read f.text).fault) met outside (lines_read f.text).lines >>= text_met (lines_read f.text).fault f.name) (stop met f.name 0 NotText)) bytes
      ∙ ap (λ (name : Text). let r : Result Met Stop = stop met name 0 NotText in r) (sym (ap name_of here))

-- a test that can't be true is false
never_true : (b : Bool) → (b ≡ true → ⊥) → b ≡ false
never_true true never = absurd (never refl)
never_true false never = refl

module _ (defines : Defines) (include : Includes) (met : Met) (files : List SourceFile) (place : ℕ) (f : SourceFile) (within : place < length files) (is : f ≡ get_or files place f) where
  here : slice_get files place ≡ Some f
  here = file_here files place f within is

  text_is : text_at files place ≡ f.text
  text_is = ap text_of here

  -- the file at a place, where its text isn't UTF-8
  pub file_not_text : (IsUtf8 (text_at files place) → ⊥) → file_at_met defines include met (slice_get files place) ≡ stop met (name_at files place) 0 NotText
  file_not_text wrong =
      no_text defines include met files place f here (ap is_utf8 (sym text_is) ∙ never_true (is_utf8 (text_at files place)) (λ e. wrong (IsUtf8-from_is_utf8 (text_at files place) e)))

  module _ (fault : Option TextFault) (ahead : List Marked) (utf8 : IsUtf8 (text_at files place)) (a : IsAhead (text_at files place) fault ahead) where
    -- the file at a place, where its text is read
    file_read : file_at_met defines include met (slice_get files place) ≡ (ahead_met defines include (name_at files place) met outside ahead >>= text_met fault (name_at files place))
    file_read =
        file_is defines include met files place f here fault ahead
        (ap is_utf8 (sym text_is) ∙ is_utf8-from_IsUtf8 (text_at files place) utf8)
        (subst (λ (t : List ℕ). IsAhead t fault ahead) text_is a)

    -- reading stops among its lines
    pub file_stops : (stopped : Option Stop) → Fails stopped (ahead_met defines include (name_at files place) met outside ahead) → Fails stopped (file_at_met defines include met (slice_get files place))
    file_stops stopped fails =
        Fails-along stopped (ahead_met defines include (name_at files place) met outside ahead >>= text_met fault (name_at files place)) (file_at_met defines include met (slice_get files place)) (sym file_read)
        (Fails-chain stopped (ahead_met defines include (name_at files place) met outside ahead) (text_met fault (name_at files place)) fails)

    module _ (m : Met) (ok : ahead_met defines include (name_at files place) met outside ahead ≡ Ok m) where
      lines_ok : file_at_met defines include met (slice_get files place) ≡ text_met fault (name_at files place) m
      lines_ok = file_read ∙ ap (λ (r : Result Met Stop). r >>= text_met fault (name_at files place)) ok

      -- its text has no fault
      pub file_whole : fault ≡ None → file_at_met defines include met (slice_get files place) ≡ Ok m
      file_whole none = lines_ok ∙ ap (λ (t : Option TextFault). text_met t (name_at files place) m) none

      -- its text has a fault, which is met after its lines
      pub file_faulty : (t : TextFault) (n : ℕ) → fault ≡ Some t → n ≡ fault_line t → file_at_met defines include met (slice_get files place) ≡ stop m (name_at files place) n BadText
      file_faulty t n some number =
          lines_ok ∙ ap (λ (t : Option TextFault). text_met t (name_at files place) m) some ∙ ap (λ n. let r : Result Met Stop = stop m (name_at files place) n BadText in r) (sym number)
