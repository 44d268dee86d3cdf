-- A line without a fault has a sound entry, whose names are new.
use Rattle.std.proofs.Common.{◌≡◌, ℕ, Bool, true, false, List, [], ◌∷◌, ◌++◌, length, Option, Some, None, refl, ap}
use Rattle.std.specs.Prelude.{not, ◌||◌, nat_lt, nat_le, if◌then◌else◌, flat_map, codes, IsTrue}
use Rattle.std.proofs.lemmas.Bool.{false≢true, or_from}
use Rattle.wf_model.specs.declared.registry.Entry.{Entry}
use Rattle.wf_model.specs.declared.registry.Entry.TheVariants.{Dimspec, State, Rconfig, Package, Halo, Period}
use Rattle.wf_model.specs.declared.registry.RegistryKind.TheVariants.{Columns, Duplicate}
use Rattle.wf_model.specs.Reading.{fault_if, first_fault}
use Rattle.wf_model.specs.Letters.{lower, Text, is_among, share}
use Rattle.wf_model.specs.KeptLines.{Kept, columns}
use Rattle.wf_model.specs.Groups.{points_head, width_head}
use Rattle.wf_model.specs.Entries.{is_two, suffixed, declares, entry_name, Kind, dimspecs, states, rconfigs, packages, halos, periods, left_out, no_kind, kind_of, least_columns, column, entry_of, entry_of_kind, entry_levels, entry_variables, entry_datasets, level_names, variables_of, is_integer}
use Rattle.wf_model.specs.Judging.{column_faults, line_fault, dimspec_faults, state_faults, integer_faults, level_fault, taken_names, taken_datasets, symbol_of, all_known}
use Rattle.wf_model.specs.Registry.{names_known}
use Rattle.wf_registry_laws.specs.EntryRules.{IsSoundEntry}
use Rattle.wf_registry_laws.specs.RegistryLaws.{taken_by}
use Rattle.wf_registry_laws.proofs.Tests.{no_faults, or_none, if_fails}
use Rattle.wf_registry_laws.proofs.KindNames.{no_symbol, letter_is_new, rconfig_is_new, package_is_new, exchange_is_new}
use Rattle.wf_registry_laws.proofs.DimspecRules.{dimspec_is_sound}
use Rattle.wf_registry_laws.proofs.StateRules.{state_is_sound, integer_faults_none}
use Rattle.wf_registry_laws.proofs.GroupRules.{rconfig_is_sound, package_is_sound, exchange_is_sound}

-- what an entry declares is declared by none before it
pub record IsFresh (before : List Entry) (e : Entry) : Type 0 where
  pub name : declares (entry_name e).0 (entry_name e).1 before ≡ false
  pub taken : share (taken_by e) (taken_names before) ≡ false
  pub levels : share (entry_levels e) (taken_names before) ≡ false
  pub variables : share (entry_variables e) (codes "Times" ∷ flat_map entry_variables before) ≡ false
  pub datasets : share (entry_datasets e) (taken_datasets ++ flat_map entry_datasets before) ≡ false

-- the entry keeps its rules where its names are declared, and its own are new
pub record IsJudged (all before : List Entry) (e : Entry) : Type 0 where
  pub sound : IsTrue (names_known all e) → IsSoundEntry all e
  pub fresh : IsFresh before e

-- ---- a state's names

by_type : (b : Bool) (all before : List Entry) (cols : List Text) → first_fault (if b then integer_faults all before cols else level_fault before cols ∷ []) ≡ None →
    (share (level_names (symbol_of cols) (column cols 4)) (taken_names before) ≡ false)
    × (share (if b then variables_of (symbol_of cols) (column cols 4) (column cols 7) else []) (codes "Times" ∷ flat_map entry_variables before) ≡ false)
by_type true all before cols e =
    let h = no_faults (integer_faults all before cols) e in
    (if_fails _ Duplicate h.1.1.1.0, if_fails _ Duplicate h.1.1.1.1.1.1.1.0)
by_type false all before cols e = (if_fails _ Duplicate (or_none (level_fault before cols) [] e).0, refl)

own_taken : (two : Bool) (symbol : Text) (others : List Text) → is_among symbol others ≡ false → share (if two then suffixed symbol else symbol ∷ []) others ≡ false
    → share (symbol ∷ (if two then suffixed symbol else [])) others ≡ false
own_taken true symbol others new levels = or_from (is_among symbol others) (share (suffixed symbol) others) new levels
own_taken false symbol others new levels = levels

symbol_is_new : (all before : List Entry) (cols : List Text) → first_fault (state_faults all before cols) ≡ None → is_among (symbol_of cols) (taken_names before) ≡ false
symbol_is_new all before cols e = if_fails (is_among (symbol_of cols) (taken_names before)) Duplicate (no_faults (state_faults all before cols) e).1.1.0

known_where_integer : (b : Bool) (known : Bool) → (not b || known) ≡ true → b ≡ true → known ≡ true
known_where_integer true known e h = e
known_where_integer false known e h = absurd (false≢true h)

state_is_judged : (all before : List Entry) (cols : List Text) → first_fault (state_faults all before cols) ≡ None
    → IsJudged all before (State (column cols 0) (symbol_of cols) (column cols 2) (column cols 4) (column cols 5) (column cols 6) (column cols 7) (column cols 8) (column cols 9))
state_is_judged all before cols e =
    let names = by_type (is_integer (column cols 0)) all before cols (integer_faults_none all before cols e) in
    record {
      sound = λ known. state_is_sound all before cols (known_where_integer (is_integer (column cols 0)) (all_known all (column cols 2)) known) e;
      fresh = record {
        name = no_symbol (symbol_of cols) before (symbol_is_new all before cols e);
        taken = own_taken (is_two (column cols 4)) (symbol_of cols) (taken_names before) (symbol_is_new all before cols e) names.0;
        levels = names.0;
        variables = names.1;
        datasets = refl;
      };
    }

dimspec_is_judged : (all before : List Entry) (cols : List Text) (letter axis : ℕ) → IsSoundEntry all (Dimspec letter (column cols 2) axis (column cols 4)) → declares dimspecs (letter ∷ []) before ≡ false
    → first_fault (dimspec_faults before cols) ≡ None
    → IsJudged all before (Dimspec letter (column cols 2) axis (column cols 4))
dimspec_is_judged all before cols letter axis sound name e = record {
  sound = λ known. sound;
  fresh = record {
    name = name;
    taken = refl;
    levels = refl;
    variables = refl;
    datasets = if_fails _ Duplicate (no_faults (dimspec_faults before cols) e).1.1.1.1.1.1.0;
  };
}

no_names : (before : List Entry) (e : Entry) → declares (entry_name e).0 (entry_name e).1 before ≡ false → taken_by e ≡ [] → entry_levels e ≡ [] → entry_variables e ≡ [] → entry_datasets e ≡ [] → IsFresh before e
no_names before e a t b c d = record {
  name = a;
  taken = ap (λ ns. share ns (taken_names before)) t;
  levels = ap (λ ns. share ns (taken_names before)) b;
  variables = ap (λ ns. share ns (codes "Times" ∷ flat_map entry_variables before)) c;
  datasets = ap (λ ns. share ns (taken_datasets ++ flat_map entry_datasets before)) d;
}

-- ---- a line

-- where there is an entry, it is judged
abbrev pub EachJudged : List Entry → List Entry → Option Entry → Type 0
EachJudged all before None = Unit {0}
EachJudged all before (Some e) = IsJudged all before e

columns_are_judged : (kind : Kind) (all before : List Entry) (cols : List Text) → first_fault (column_faults kind all before cols) ≡ None → EachJudged all before (entry_of_kind kind cols)
columns_are_judged dimspecs all before cols e = dimspec_is_judged all before cols _ _ (dimspec_is_sound before cols e) (letter_is_new before cols e) e
columns_are_judged states all before cols e = state_is_judged all before cols e
columns_are_judged rconfigs all before cols e = record { sound = λ known. rconfig_is_sound before cols e; fresh = no_names before (Rconfig (column cols 0) (symbol_of cols) (column cols 2) (column cols 3) (column cols 4)) (rconfig_is_new before cols e) refl refl refl refl }
columns_are_judged packages all before cols e = record { sound = λ known. package_is_sound before cols e; fresh = no_names before (Package (lower (column cols 0)) _ _ _) (package_is_new before cols e) refl refl refl refl }
columns_are_judged halos all before cols e = record { sound = λ known. exchange_is_sound halos points_head before cols e; fresh = no_names before (Halo (lower (column cols 0)) _) (exchange_is_new halos points_head before cols e) refl refl refl refl }
columns_are_judged periods all before cols e = record { sound = λ known. exchange_is_sound periods width_head before cols e; fresh = no_names before (Period (lower (column cols 0)) _) (exchange_is_new periods width_head before cols e) refl refl refl refl }
columns_are_judged left_out all before cols e = tt
columns_are_judged no_kind all before cols e = tt

where_enough : (all before : List Entry) (enough : Bool) (found : Option Entry) → EachJudged all before found → EachJudged all before (if enough then found else None)
where_enough all before true found h = h
where_enough all before false found h = tt

pub line_is_judged : (all before : List Entry) (l : Kept) → line_fault all before l ≡ None → EachJudged all before (entry_of l)
unfolding line_fault
line_is_judged all before l e =
    let cols = columns l.words in
    where_enough all before (nat_le (least_columns (kind_of l)) (length cols)) (entry_of_kind (kind_of l) cols)
    (columns_are_judged (kind_of l) all before cols (or_none (fault_if (nat_lt (length cols) (least_columns (kind_of l))) Columns) (column_faults (kind_of l) all before cols) e).1)
