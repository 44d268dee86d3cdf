-- Lines of which kind are dimspecs: those whose first word is `dimspec`, in any case, and no others.
use Rattle.std.proofs.Common.{◌≡◌, ◌∙◌, sym, ap, subst, Bool, true, false, List, [], ◌∷◌, drop}
use Rattle.std.specs.Prelude.{codes, if◌then◌else◌}
use Rattle.std.specs.List.{AllByRecursion}
use Rattle.std.specs.Str.{bytes_eq}
use Rattle.std.proofs.lemmas.Bool.{false_from_ne_true}
use Rattle.std.proofs.lemmas.Slice.Eq.{bytes_eq-Decides}
use Rattle.wf_model.specs.declared.registry.SourceFile.{SourceFile}
use Rattle.wf_model.specs.Letters.{Text}
use Rattle.wf_model.specs.KeptLines.{kind_word}
use Rattle.wf_model.specs.Entries.{Kind, dimspecs, no_kind, named, kind_names}
use Rattle.wf_registry_lines.specs.Kept.{TellsDimspec, kept_in}
use Rattle.wf_registry_lines.specs.declared.KeptLine.{KeptLine}
use Rattle.wf_registry.specs.Lines.{word_kind}

-- no dimspec
abbrev pub IsOtherKind : Kind → Type 0
IsOtherKind dimspecs = ⊥
IsOtherKind kind = Unit {0}

-- ---- equal texts, told in either order

told_in_turn : (a b : Text) → bytes_eq a b ≡ true → bytes_eq b a ≡ true
told_in_turn a b is = (bytes_eq-Decides b a).1 (sym ((bytes_eq-Decides a b).0 is))

denied_in_turn : (a b : Text) → bytes_eq a b ≡ false → bytes_eq b a ≡ false
denied_in_turn a b is = false_from_ne_true (bytes_eq b a) (λ told. let e : bytes_eq a b ≡ true = told_in_turn b a told in cc)

-- ---- a name among others

either : (t : Bool) (a b : Kind) → IsOtherKind a → IsOtherKind b → IsOtherKind (if t then a else b)
either true a b first second = first
either false a b first second = second

-- where no name stands for a dimspec, no word does
other_named : (ps : List (Text × Kind)) (word : Text) → AllByRecursion (λ (p : Text × Kind). IsOtherKind p.1) ps → IsOtherKind (named ps word no_kind)
other_named [] word all = tt
other_named (p ∷ ps) word all = either (bytes_eq p.0 word) p.1 (named ps word no_kind) all.0 (other_named ps word all.1)

-- the names of the other kinds
abbrev pub other_names : List (Text × Kind)
other_names = drop 1 kind_names

-- ---- a line of words

dimspec_kind : (words : List Text) → bytes_eq (kind_word words) (codes "dimspec") ≡ true → word_kind words ≡ dimspecs
dimspec_kind words is = ap (λ (t : Bool). if t then dimspecs else named other_names (kind_word words) no_kind) (told_in_turn (kind_word words) (codes "dimspec") is)

other_kind : (words : List Text) → bytes_eq (kind_word words) (codes "dimspec") ≡ false → IsOtherKind (word_kind words)
other_kind words is =
    subst (λ (t : Bool). IsOtherKind (if t then dimspecs else named other_names (kind_word words) no_kind)) (sym (denied_in_turn (kind_word words) (codes "dimspec") is))
    (other_named other_names (kind_word words) (tt, (tt, (tt, (tt, (tt, (tt, (tt, (tt, (tt, (tt, tt)))))))))))

-- ---- a line that tells whether it is one

pub told_dimspec : (files : List SourceFile) (l : KeptLine) → TellsDimspec files l → l.dimspec ≡ true → word_kind (kept_in files l).words ≡ dimspecs
told_dimspec files l told is = dimspec_kind (kept_in files l).words (sym told ∙ is)

pub told_other : (files : List SourceFile) (l : KeptLine) → TellsDimspec files l → l.dimspec ≡ false → IsOtherKind (word_kind (kept_in files l).words)
told_other files l told is = other_kind (kept_in files l).words (sym told ∙ is)
