-- The groups of a Registry that was read keep the rules of their heads, and so do those of a config that is bound to it.
use Rattle.std.proofs.Common.{◌≡◌, Bool, true, false, nat_le, List, [], ◌∷◌, ◌++◌, length, Option, Some, None, Result, Ok, Err, IfSome, option_map, refl, sym, ◌∙◌, subst, if◌then◌else◌}
use Rattle.std.specs.Prelude.{All, flat_map}
use Rattle.std.specs.Option.{option_or, option_to_list}
use Rattle.std.proofs.lemmas.List.Elements.{All-nil, All-cons, All-filter}
use Rattle.wf_model.specs.declared.registry.SourceFile.{SourceFile}
use Rattle.wf_model.specs.declared.registry.Registry.{Registry}
use Rattle.wf_model.specs.declared.registry.RegistryKind.{RegistryKind}
use Rattle.wf_model.specs.declared.registry.Entry.{Entry}
use Rattle.wf_model.specs.declared.namelist.Namelist.{Namelist}
use Rattle.wf_model.specs.declared.config.Config.{Config}
use Rattle.wf_model.specs.Reading.{first_fault, unless_fault}
use Rattle.wf_model.specs.Letters.{Text}
use Rattle.wf_model.specs.KeptLines.{Kept, Defines, columns, registry_lines}
use Rattle.wf_model.specs.Groups.{groups_of, head_of, group_faults, points_head, width_head}
use Rattle.wf_model.specs.Entries.{Kind, dimspecs, states, rconfigs, packages, halos, periods, left_out, no_kind, kind_of, least_columns, entry_of_kind, entry_of, entries_of, joined_groups}
use Rattle.wf_model.specs.Judging.{line_fault, column_faults}
use Rattle.wf_model.specs.Registry.{broken_line, fault_at, refusal, met_of, stop_of, registry_of}
use Rattle.wf_model.specs.Config.{config_of, is_halo, is_period}
use Rattle.wf_model.specs.NamesOf.{names_of}
use Rattle.wf_model.proofs.ReadingLemmas.{ok_is, first_fault-append}
use Rattle.wf_table_laws.specs.NamesLaws.{HasGoodHeads, BoundNamesAreRanged, BoundTablesAreSound}
use Rattle.wf_table_laws.proofs.Follows.{items_ranged, crosses_narrow, items_few, items_of_names, items_levels, calls_hooks, calls_nothing, names_differ}
use Rattle.wf_table_laws.proofs.NamesOfConfig.{names_ranged, names_levels, All-filter_map}

-- ---- no fault

some : {F : Type 0} (f : F) → (let o : Option F = Some f in o) ≡ None → ⊥
some f e = cc

-- the first of two faults is none where neither is one
neither : {F : Type 0} (a b : Option F) → option_or a b ≡ None → (a ≡ None) × (b ≡ None)
neither None b e = (refl, e)
neither (Some f) b e = absurd (some f e)

unmapped : {F G : Type 0} (g : F → G) (a : Option F) → option_map g a ≡ None → a ≡ None
unmapped g None e = refl
unmapped g (Some f) e = absurd (some (g f) e)

-- a value that is given without a fault
given : {A F : Type 0} (fault : Option F) (a b : A) → unless_fault fault a ≡ Ok b → (fault ≡ None) × (a ≡ b)
given None a b e = (refl, ok_is a b e)
given (Some f) a b e = absurd (refused f b e)
  where
    refused : {A F : Type 0} (f : F) (x : A) → (let r : Result A F = Err f in r) ≡ Ok x → ⊥
    refused f x e = cc

-- ---- a line

heads_of : (rule : Text → Option RegistryKind) (groups : List Text) → first_fault (flat_map (group_faults rule) groups) ≡ None → All (λ group. rule (head_of group) ≡ None) groups
heads_of rule [] e = All-nil (λ group. rule (head_of group) ≡ None)
heads_of rule (g ∷ gs) e =
    let both = neither (first_fault (group_faults rule g)) (first_fault (flat_map (group_faults rule) gs)) (sym (first_fault-append (group_faults rule g) (flat_map (group_faults rule) gs)) ∙ e) in
    let head = neither (rule (head_of g)) _ (neither _ _ both.0).1 in
    All-cons (λ group. rule (head_of group) ≡ None) g gs head.0 (heads_of rule gs both.1)

-- the entry of a line without faults
kind_heads : (kind : Kind) (all before : List Entry) (cols : List Text) → first_fault (column_faults kind all before cols) ≡ None → IfSome (entry_of_kind kind cols) HasGoodHeads
kind_heads dimspecs all before cols e = tt
kind_heads states all before cols e = tt
kind_heads rconfigs all before cols e = tt
kind_heads packages all before cols e = tt
kind_heads halos all before cols e = heads_of points_head (groups_of (joined_groups cols)) (neither _ _ (neither _ _ e).1).1
kind_heads periods all before cols e = heads_of width_head (groups_of (joined_groups cols)) (neither _ _ (neither _ _ e).1).1
kind_heads left_out all before cols e = tt
kind_heads no_kind all before cols e = tt

line_heads : (all before : List Entry) (l : Kept) → line_fault all before l ≡ None → IfSome (entry_of l) HasGoodHeads
unfolding line_fault
line_heads all before l e = enough (nat_le (least_columns (kind_of l)) (length (columns l.words))) (kind_heads (kind_of l) all before (columns l.words) (neither _ _ e).1)
  where
    enough : (b : Bool) → IfSome (entry_of_kind (kind_of l) (columns l.words)) HasGoodHeads → IfSome (if b then entry_of_kind (kind_of l) (columns l.words) else None) HasGoodHeads
    enough true good = good
    enough false good = tt

-- the lines of a Registry without broken lines
lines_heads : (all before : List Entry) (ls : List Kept) → broken_line all before ls ≡ None → All (λ l. IfSome (entry_of l) HasGoodHeads) ls
lines_heads all before [] e = All-nil (λ l. IfSome (entry_of l) HasGoodHeads)
lines_heads all before (l ∷ ls) e =
    let both = neither (option_map (fault_at l) (line_fault all before l)) _ e in
    All-cons (λ l. IfSome (entry_of l) HasGoodHeads) l ls (line_heads all before l (unmapped (fault_at l) _ both.0)) (lines_heads all (before ++ option_to_list (entry_of l)) ls both.1)

-- ---- Registry and config

registry_heads : (files : List SourceFile) (defines : Defines) (registry : Registry) → registry_of files defines ≡ Ok registry → All HasGoodHeads registry.entries
unfolding registry_of entries_of
registry_heads files defines registry read =
    let ls : List Kept = (met_of (registry_lines files defines)).kept in
    let is = given (refusal ls (stop_of (registry_lines files defines))) (record { entries = entries_of ls }) registry read in
    let sound = neither (broken_line (entries_of ls) [] ls) _ is.0 in
    subst (λ (r : Registry). All HasGoodHeads r.entries) is.1 (All-filter_map HasGoodHeads entry_of ls (lines_heads (entries_of ls) [] ls sound.0))

config_heads : (registry : Registry) (namelist : Namelist) (config : Config) → config_of registry namelist ≡ Ok config → All HasGoodHeads registry.entries
    → All HasGoodHeads config.halos × All HasGoodHeads config.periods
unfolding config_of
config_heads registry namelist config bound good =
    let is = given _ _ config bound in
    (subst (λ (c : Config). All HasGoodHeads c.halos) is.1 (All-filter is_halo HasGoodHeads registry.entries good), subst (λ (c : Config). All HasGoodHeads c.periods) is.1 (All-filter is_period HasGoodHeads registry.entries good))

pub bound_names : BoundNamesAreRanged
bound_names files defines registry namelist config hooks read bound arities =
    let good = config_heads registry namelist config bound (registry_heads files defines registry read) in
    names_ranged config hooks good.0 good.1 arities

pub bound_tables : BoundTablesAreSound
unfolding names_of
bound_tables files defines registry namelist config hooks text items read bound arities table =
    let ranged = bound_names files defines registry namelist config hooks read bound arities in
    let known = names_levels config hooks in
    record {
      few = items_few text (names_of config hooks) items tt table;
      ranged = items_ranged text (names_of config hooks) items ranged table;
      crosses = crosses_narrow text (names_of config hooks) items ranged table;
      names = items_of_names text (names_of config hooks) items tt table;
      levels = items_levels text (names_of config hooks) items known table;
      calls = calls_hooks text (names_of config hooks) items tt table;
      no_calls = λ none. calls_nothing text (names_of config hooks) items none table;
      phases = names_differ text (names_of config hooks) items tt table;
    }
