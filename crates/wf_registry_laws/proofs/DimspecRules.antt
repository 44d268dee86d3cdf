-- A dimspec whose columns have no fault is sound.
use Rattle.std.proofs.Common.{◌≡◌, ◌⊎◌, inl, inr, ⊎_elim, Bool, true, false, List, [], ◌∷◌, Some, None, refl, ap}
use Rattle.std.specs.Prelude.{not, ◌||◌, if◌then◌else◌, codes}
use Rattle.std.specs.Str.{bytes_eq}
use Rattle.std.proofs.lemmas.Bool.{or_cases, false≢true}
use Rattle.wf_model.specs.declared.registry.Entry.{Entry}
use Rattle.wf_model.specs.declared.registry.RegistryKind.TheVariants.{Unsupported, Columns, BadNumber}
use Rattle.wf_model.specs.Reading.{fault_unless, first_fault}
use Rattle.wf_model.specs.Letters.{Text, is_name, is_number_within, begins, behind}
use Rattle.wf_model.specs.ValueForms.{has}
use Rattle.wf_model.specs.Io.{is_colon}
use Rattle.wf_model.specs.Entries.{column, only_byte}
use Rattle.wf_model.specs.Judging.{is_standard, constant, by_namelist, how_fault, is_axis, dimspec_faults}
use Rattle.wf_registry_laws.specs.EntryRules.{IsHow, IsAxis, IsSoundDimspec}
use Rattle.wf_registry_laws.proofs.Tests.{no_faults, unless_passes, same_text, among}

how_by : (standard listed numbered colon name number : Bool) →
    (if standard then None else (if not (listed || numbered) then Some Columns else (if colon then Some Unsupported else (if listed then fault_unless name Columns else fault_unless number BadNumber)))) ≡ None →
    (standard ≡ true) ⊎ ((numbered ≡ true) × (number ≡ true)) ⊎ ((listed ≡ true) × (name ≡ true))
how_by true listed numbered colon name number e = inl refl
how_by false false false colon name number e = cc
how_by false true numbered true name number e = cc
how_by false false true true name number e = cc
how_by false true numbered false name number e = inr (inr (refl, unless_passes name Columns e))
how_by false false true false name number e = inr (inl (refl, unless_passes number BadNumber e))

how_is : (how : Text) → how_fault how ≡ None → IsHow how
how_is how e = how_by (is_standard how) (begins how by_namelist) (begins how constant) (has is_colon how) (is_name (behind how by_namelist)) (is_number_within 1 128 (behind how constant)) e

axis_is : (word : Text) → is_axis word ≡ true → IsAxis (only_byte word)
axis_is word e =
    ⊎_elim (λ h. inl (ap only_byte h))
    (λ r. ⊎_elim (λ h. inr (inl (ap only_byte h))) (λ s. ⊎_elim (λ h. inr (inr (ap only_byte h))) (λ t. absurd (false≢true t)) (among word (codes "z") [] s)) (among word (codes "y") (codes "z" ∷ []) r))
    (among word (codes "x") (codes "y" ∷ codes "z" ∷ []) e)

pub dimspec_is_sound : (before : List Entry) (cols : List Text) → first_fault (dimspec_faults before cols) ≡ None
    → IsSoundDimspec (only_byte (column cols 0)) (column cols 2) (only_byte (column cols 3)) (column cols 4)
dimspec_is_sound before cols e =
    let h = no_faults (dimspec_faults before cols) e in
    record {
      alphabetic = unless_passes _ Columns h.0;
      extent = how_is (column cols 2) h.1.1.0;
      along = axis_is (column cols 3) (unless_passes _ Columns h.1.1.1.0);
      standard = λ other. ⊎_elim (λ z. absurd (other (ap only_byte (same_text (column cols 3) (codes "z") z)))) (λ s. s)
          (or_cases (bytes_eq (column cols 3) (codes "z")) (is_standard (column cols 2)) (unless_passes _ Unsupported h.1.1.1.1.0));
      named = unless_passes _ Columns h.1.1.1.1.1.0;
    }
