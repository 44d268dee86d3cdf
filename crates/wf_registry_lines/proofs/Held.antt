-- What is held of a line.
use Rattle.std.proofs.Common.{◌≡◌, ◌∙◌, sym, ap, ◌<◌, ℕ, Bool, true, false, cond, List, refl}
use Rattle.std.specs.Prelude.{codes}
use Rattle.std.specs.Str.{bytes_eq}
use Rattle.std.proofs.lemmas.Slice.Eq.{bytes_eq-Decides}
use Rattle.wf_model.specs.declared.text.Line.{Line}
use Rattle.wf_model.specs.Letters.{Text}
use Rattle.wf_model.specs.KeptLines.{Defines, Includes, Met, most_lines, one_line}
use Rattle.wf_registry_lines.specs.Ahead.{entered_met, next_met, seen}
use Rattle.wf_registry_lines.specs.Conditions.{deeper_kind}
use Rattle.wf_registry_lines.specs.FileLines.{IsHeld, keeps_words}
use Rattle.wf_registry_lines.specs.Kinds.{is_dimspec, kind_of}
use Rattle.wf_registry_lines.specs.Met.{within_in}
use Rattle.wf_registry_lines.specs.declared.ahead.AheadLine.{AheadLine}
use Rattle.wf_registry_lines.specs.declared.condition.Conditions.{Conditions}
use Rattle.wf_registry_lines.specs.declared.kind.Kind.TheVariants as kinds
use Rattle.wf_registry_lines.proofs.Conditions.{ifdef_read}

-- an ifdef is the next line, whose words are held
pub held_ifdef : (defines : Defines) (include : Includes) (file : Text) (met : Met) (c : Conditions) (text : List ℕ) (a : AheadLine) → IsHeld text a.line
    → met.lines < most_lines → a.line.kind ≡ kinds.Ifdef
    → next_met defines include file met (within_in c) (seen text a) ≡ entered_met (one_line met) file a.line.line.number (deeper_kind defines a.line.line a.closed c)
held_ifdef defines include file met c text a h lt is =
    ifdef_read defines include file met c (seen text a) lt (sym h.kind ∙ is)
    ∙ ap (λ (l : Line). entered_met (one_line met) file l.number (deeper_kind defines l a.closed c)) (sym (h.words (ap keeps_words is)))

-- ---- dimspecs

other_word : (word other : Text) → bytes_eq other (codes "dimspec") ≡ false → bytes_eq word other ≡ true → bytes_eq word (codes "dimspec") ≡ false
other_word word other apart same = ap (λ (w : Text). bytes_eq w (codes "dimspec")) ((bytes_eq-Decides word other).0 same) ∙ apart

dimspec_by : (ifdef endif including dimspec : Bool) → (ifdef ≡ true → dimspec ≡ false) → (endif ≡ true → dimspec ≡ false) → (including ≡ true → dimspec ≡ false)
    → is_dimspec (cond ifdef kinds.Ifdef (cond endif kinds.Endif (cond including kinds.Include (cond dimspec kinds.Dimspec kinds.Other)))) ≡ dimspec
dimspec_by true endif including dimspec a b d = sym (a refl)
dimspec_by false true including dimspec a b d = sym (b refl)
dimspec_by false false true dimspec a b d = sym (d refl)
dimspec_by false false false true a b d = refl
dimspec_by false false false false a b d = refl

-- whether a line is a dimspec, by its first word
pub dimspec_told : (word : Text) → is_dimspec (kind_of word) ≡ bytes_eq word (codes "dimspec")
dimspec_told word =
    dimspec_by (bytes_eq word (codes "ifdef")) (bytes_eq word (codes "endif")) (bytes_eq word (codes "include")) (bytes_eq word (codes "dimspec"))
    (other_word word (codes "ifdef") refl) (other_word word (codes "endif") refl) (other_word word (codes "include") refl)
