-- The name of an entry without a fault is new among those of its kind.
use Rattle.std.proofs.Common.{◌≡◌, Bool, true, false, List, [], ◌∷◌, ◌++◌, Option, None, refl, sym, ap, ap₂, ◌∙◌}
use Rattle.std.specs.Prelude.{◌&&◌, ◌||◌, if◌then◌else◌, flat_map}
use Rattle.std.specs.Char.{is_ascii_alphabetic}
use Rattle.std.specs.Str.{bytes_eq}
use Rattle.std.proofs.lemmas.Bool.{false≢true, or_parts}
use Rattle.std.proofs.lemmas.List.Concat.{flat_map-cons}
use Rattle.std.proofs.lemmas.List.Folds.{list_any-append}
use Rattle.wf_model.specs.declared.registry.Entry.{Entry}
use Rattle.wf_model.specs.declared.registry.Entry.TheVariants.{Dimspec, State, Rconfig, Package, Halo, Period}
use Rattle.wf_model.specs.declared.registry.RegistryKind.{RegistryKind}
use Rattle.wf_model.specs.declared.registry.RegistryKind.TheVariants.{Columns, BadNumber, Duplicate}
use Rattle.wf_model.specs.Reading.{fault_if, fault_unless, first_fault}
use Rattle.wf_model.specs.Letters.{Text, is_among, is_name, is_dash, lower}
use Rattle.wf_model.specs.ValueForms.{is_whole_in}
use Rattle.wf_model.specs.Groups.{groups_of, group_faults, state_head}
use Rattle.wf_model.specs.Entries.{Kind, dimspecs, states, rconfigs, packages, column, only_byte, package_value, joined_groups, same_kind, entry_name, declares, entry_symbol, entry_levels}
use Rattle.wf_model.specs.Judging.{dimspec_faults, rconfig_faults, package_faults, exchange_faults, is_package_condition, symbol_of, taken_names}
use Rattle.wf_registry_laws.specs.RegistryLaws.{names_of_kind}
use Rattle.wf_registry_laws.proofs.Tests.{no_faults, or_none, unless_passes, if_fails}

-- ---- names of a kind

or_false : (b : Bool) → (b || false) ≡ b
or_false true = refl
or_false false = refl

-- whether a name is among those of one entry, and of more
among_one : (same : Bool) (name other : Text) → is_among name (if same then other ∷ [] else []) ≡ (same && bytes_eq name other)
among_one true name other = or_false (bytes_eq name other)
among_one false name other = refl

pub among_is : (kind : Kind) (name : Text) (es : List Entry) → is_among name (flat_map (names_of_kind kind) es) ≡ declares kind name es
among_is kind name [] = refl
among_is kind name (e ∷ es) =
    ap (is_among name) (flat_map-cons (names_of_kind kind) e es)
    ∙ list_any-append (bytes_eq name) (names_of_kind kind e) (flat_map (names_of_kind kind) es)
    ∙ ap₂ (λ a b. a || b) (among_one (same_kind kind (entry_name e).0) name (entry_name e).1) (among_is kind name es)

-- symbols are the names of states
symbols_are : (es : List Entry) → flat_map (names_of_kind states) es ≡ flat_map entry_symbol es
symbols_are [] = refl
symbols_are (e ∷ es) = flat_map-cons (names_of_kind states) e es ∙ ap₂ (λ a b. a ++ b) (one e) (symbols_are es) ∙ sym (flat_map-cons entry_symbol e es)
  where
    one : (x : Entry) → names_of_kind states x ≡ entry_symbol x
    one (State kind symbol dims levels stagger io dname description units) = refl
    one (Dimspec letter how axis dataset) = refl
    one (Rconfig kind symbol how entries default) = refl
    one (Package name symbol value list) = refl
    one (Halo name groups) = refl
    one (Period name groups) = refl

pub no_symbol : (symbol : Text) (es : List Entry) → is_among symbol (taken_names es) ≡ false → declares states symbol es ≡ false
no_symbol symbol es e =
    sym (among_is states symbol es) ∙ ap (is_among symbol) (symbols_are es)
    ∙ (or_parts (is_among symbol (flat_map entry_symbol es)) (is_among symbol (flat_map entry_levels es)) (sym (list_any-append (bytes_eq symbol) (flat_map entry_symbol es) (flat_map entry_levels es)) ∙ e)).0

-- a word with a letter as its one byte is that byte
one_letter : (word : Text) → is_ascii_alphabetic (only_byte word) ≡ true → word ≡ only_byte word ∷ []
one_letter [] e = absurd (false≢true e)
one_letter (b ∷ []) e = refl
one_letter (b ∷ c ∷ bs) e = absurd (false≢true e)

pub letter_is_new : (before : List Entry) (cols : List Text) → first_fault (dimspec_faults before cols) ≡ None → declares dimspecs (only_byte (column cols 0) ∷ []) before ≡ false
letter_is_new before cols e =
    let h = no_faults (dimspec_faults before cols) e in
    ap (λ w. declares dimspecs w before) (sym (one_letter (column cols 0) (unless_passes _ Columns h.0))) ∙ if_fails (declares dimspecs (column cols 0) before) Duplicate h.1.0

pub rconfig_is_new : (before : List Entry) (cols : List Text) → first_fault (rconfig_faults before cols) ≡ None → declares rconfigs (symbol_of cols) before ≡ false
rconfig_is_new before cols e = if_fails (declares rconfigs (symbol_of cols) before) Duplicate (no_faults (rconfig_faults before cols) e).1.1.0

-- behind the test of the name
second_passes : {F : Type 0} (f : Option F) (test : Bool) (k : F) (fs : List (Option F)) → first_fault (f ∷ fault_if test k ∷ fs) ≡ None → test ≡ false
second_passes f test k fs e = if_fails test k (or_none (fault_if test k) fs (or_none f (fault_if test k ∷ fs) e).1).0

pub package_is_new : (before : List Entry) (cols : List Text) → first_fault (package_faults before cols) ≡ None → declares packages (lower (column cols 0)) before ≡ false
package_is_new before cols e =
    second_passes (fault_unless (is_name (column cols 0)) Columns) (declares packages (lower (column cols 0)) before) Duplicate
    (fault_unless (is_package_condition (column cols 1)) Columns
    ∷ fault_unless (is_whole_in 32 (package_value (column cols 1))) BadNumber
    ∷ (if is_dash (column cols 3) then [] else flat_map (group_faults state_head) (groups_of (column cols 3)))) e

pub exchange_is_new : (kind : Kind) (head : Text → Option RegistryKind) (before : List Entry) (cols : List Text) → first_fault (exchange_faults kind head before cols) ≡ None → declares kind (lower (column cols 0)) before ≡ false
exchange_is_new kind head before cols e =
    second_passes (fault_unless (is_name (column cols 0)) Columns) (declares kind (lower (column cols 0)) before) Duplicate (flat_map (group_faults head) (groups_of (joined_groups cols))) e
