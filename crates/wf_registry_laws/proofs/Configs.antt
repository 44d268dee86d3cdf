-- A config of a sound Registry is sound.
use Rattle.std.proofs.Common.{◌≡◌, Bool, true, List, [], ◌∷◌, ◌++◌, map, get_or, Option, None, sym, ◌∙◌, subst}
use Rattle.std.specs.Prelude.{not, filter, All, codes}
use Rattle.std.specs.List.{AllByRecursion}
use Rattle.std.proofs.lemmas.Bool.{false≢true, not-false}
use Rattle.std.proofs.lemmas.List.Elements.{All-from_recursion, All-filter, filter_passes}
use Rattle.wf_model.proofs.ReadingLemmas.{first_fault-append}
use Rattle.wf_model.specs.declared.registry.Registry.{Registry}
use Rattle.wf_model.specs.declared.registry.Entry.{Entry}
use Rattle.wf_model.specs.declared.registry.Entry.TheVariants.{Dimspec, State, Rconfig, Package, Halo, Period}
use Rattle.wf_model.specs.declared.config.Config.{Config}
use Rattle.wf_model.specs.declared.config.ConfigFault.TheVariants.{FloatState}
use Rattle.wf_model.specs.Reading.{first_fault}
use Rattle.wf_model.specs.Letters.{Text}
use Rattle.wf_model.specs.Namelist.{Item}
use Rattle.wf_model.specs.BuiltIns.{NameRule}
use Rattle.wf_model.specs.Entries.{dimspecs, states, halos, periods, is_integer, entry_levels, entry_variables, entry_datasets}
use Rattle.wf_model.specs.Judging.{taken_datasets}
use Rattle.wf_model.specs.Config.{Values, is_dimspec, is_halo, is_period, is_active, float_fault, wrong_rule, item_fault, default_fault, registry_rules, rules_of, known_items, max_dom, domain_count, filled, config_from, config_fault, config_of}
use Rattle.wf_registry_laws.specs.EntryRules.{IsSoundEntry, IsSoundInteger}
use Rattle.wf_registry_laws.specs.RegistryLaws.{names_of_kind, taken_by, IsSoundRegistry}
use Rattle.wf_registry_laws.specs.ConfigLaws.{IsSoundDimension, IsSoundField, IsSoundHalo, IsSoundPeriod, IsSoundConfig, ConfigsAreSound}
use Rattle.wf_registry_laws.proofs.Tests.{or_none, if_fails}
use Rattle.wf_registry_laws.proofs.Registries.{none_of_two, ok_none}
use Rattle.wf_registry_laws.proofs.Distinct.{distinct_kept}
use Rattle.wf_registry_laws.proofs.Dims.{all_known_is, in_order_is}

-- ---- each kind

is_dim : (all : List Entry) (e : Entry) → IsSoundEntry all e → is_dimspec e ≡ true → IsSoundDimension e
is_dim all (Dimspec letter how axis dataset) s h = s
is_dim all (State kind symbol dims levels stagger io dname description units) s h = absurd (false≢true h)
is_dim all (Rconfig kind symbol how entries default) s h = absurd (false≢true h)
is_dim all (Package name symbol value list) s h = absurd (false≢true h)
is_dim all (Halo name groups) s h = absurd (false≢true h)
is_dim all (Period name groups) s h = absurd (false≢true h)

is_sound_halo : (all : List Entry) (e : Entry) → IsSoundEntry all e → is_halo e ≡ true → IsSoundHalo e
is_sound_halo all (Halo name groups) s h = s
is_sound_halo all (Dimspec letter how axis dataset) s h = absurd (false≢true h)
is_sound_halo all (State kind symbol dims levels stagger io dname description units) s h = absurd (false≢true h)
is_sound_halo all (Rconfig kind symbol how entries default) s h = absurd (false≢true h)
is_sound_halo all (Package name symbol value list) s h = absurd (false≢true h)
is_sound_halo all (Period name groups) s h = absurd (false≢true h)

is_sound_period : (all : List Entry) (e : Entry) → IsSoundEntry all e → is_period e ≡ true → IsSoundPeriod e
is_sound_period all (Period name groups) s h = s
is_sound_period all (Dimspec letter how axis dataset) s h = absurd (false≢true h)
is_sound_period all (State kind symbol dims levels stagger io dname description units) s h = absurd (false≢true h)
is_sound_period all (Rconfig kind symbol how entries default) s h = absurd (false≢true h)
is_sound_period all (Package name symbol value list) s h = absurd (false≢true h)
is_sound_period all (Halo name groups) s h = absurd (false≢true h)

-- the letters of all entries are those of the dimspecs
integer_of_dims : (all : List Entry) (symbol dims levels stagger io dname description units : Text) → IsSoundInteger all symbol dims levels stagger io dname description units
    → IsSoundInteger (filter is_dimspec all) symbol dims levels stagger io dname description units
integer_of_dims all symbol dims levels stagger io dname description units s = record {
  count = s.count;
  known = all_known_is all dims ∙ s.known;
  ordered = in_order_is all dims ∙ s.ordered;
  one_or_two = s.one_or_two;
  short = s.short;
  staggered = s.staggered;
  high = s.high;
  io_is_read = s.io_is_read;
  variable = s.variable;
  described = s.described;
  unit = s.unit;
}

is_sound_field : (registry : Registry) (values : Values) (e : Entry) → IsSoundEntry registry.entries e → is_active registry values e ≡ true → float_fault e ≡ None
    → IsSoundField (filter is_dimspec registry.entries) e
is_sound_field registry values (State kind symbol dims levels stagger io dname description units) s active whole =
    let integer : is_integer kind ≡ true = not-false (is_integer kind) (if_fails (not (is_integer kind)) (FloatState symbol) whole) in
    record { integer = integer; named = s.named; columns = integer_of_dims registry.entries symbol dims levels stagger io dname description units (s.integer integer) }
is_sound_field registry values (Dimspec letter how axis dataset) s active whole = absurd (false≢true active)
is_sound_field registry values (Rconfig kind symbol how entries default) s active whole = absurd (false≢true active)
is_sound_field registry values (Package name symbol value list) s active whole = absurd (false≢true active)
is_sound_field registry values (Halo name groups) s active whole = absurd (false≢true active)
is_sound_field registry values (Period name groups) s active whole = absurd (false≢true active)

-- ---- entries that are kept

kept_sound : (p : Entry → Bool) (P Q : Entry → Type 0) → ((e : Entry) → P e → p e ≡ true → Q e) → (es : List Entry) → All P es → All Q (filter p es)
kept_sound p P Q h es all = λ k d within. h (get_or (filter p es) k d) (All-filter p P es all k d within) (filter_passes p es k d within)

-- ---- the last tests find no fault

each_none : {A F : Type 0} (f : A → Option F) (xs : List A) → first_fault (map f xs) ≡ None → AllByRecursion (λ x. f x ≡ None) xs
each_none f [] e = tt
each_none f (x ∷ xs) e = let h = or_none (f x) (map f xs) e in (h.0, each_none f xs h.1)

last_none : {F : Type 0} (xs ys : List (Option F)) → first_fault (xs ++ ys) ≡ None → first_fault ys ≡ None
last_none xs ys e = (none_of_two (first_fault xs) (first_fault ys) (sym (first_fault-append xs ys) ∙ e)).1

fields_are_whole : (registry : Registry) (rules : List NameRule) (items : List Item) (config : Config) → config_fault registry rules items config ≡ None → All (λ e. float_fault e ≡ None) config.fields
fields_are_whole registry rules items config e =
    let first = map wrong_rule (registry_rules registry) in
    let second = map (item_fault rules (max_dom rules items)) items in
    let third = map (default_fault (domain_count rules items) items) rules in
    let last = map float_fault config.fields in
    let none : first_fault last ≡ None = last_none (first ++ second ++ third) last e in
    All-from_recursion (λ e. float_fault e ≡ None) config.fields (each_none float_fault config.fields none)

-- ---- the config

config_is_sound : (registry : Registry) (values : Values) → IsSoundRegistry registry.entries → All (λ e. float_fault e ≡ None) (filter (is_active registry values) registry.entries) → IsSoundConfig (config_from registry values)
config_is_sound registry values s whole =
    let es = registry.entries in
    record {
      dims = kept_sound is_dimspec (IsSoundEntry es) IsSoundDimension (is_dim es) es s.rules;
      fields = λ k d within. is_sound_field registry values (get_or (filter (is_active registry values) es) k d)
          (All-filter (is_active registry values) (IsSoundEntry es) es s.rules k d within) (filter_passes (is_active registry values) es k d within) (whole k d within);
      halos = kept_sound is_halo (IsSoundEntry es) IsSoundHalo (is_sound_halo es) es s.rules;
      periods = kept_sound is_period (IsSoundEntry es) IsSoundPeriod (is_sound_period es) es s.rules;
      letters = distinct_kept (names_of_kind dimspecs) is_dimspec [] es (s.names dimspecs);
      symbols = distinct_kept (names_of_kind states) (is_active registry values) [] es (s.names states);
      halo_names = distinct_kept (names_of_kind halos) is_halo [] es (s.names halos);
      period_names = distinct_kept (names_of_kind periods) is_period [] es (s.names periods);
      taken = distinct_kept taken_by (is_active registry values) [] es s.taken;
      levels = distinct_kept entry_levels (is_active registry values) [] es s.levels;
      variables = distinct_kept entry_variables (is_active registry values) (codes "Times" ∷ []) es s.variables;
      datasets = distinct_kept entry_datasets is_dimspec taken_datasets es s.datasets;
    }

pub configs_are_sound : ConfigsAreSound
unfolding config_of
configs_are_sound registry namelist config s e =
    let rules = rules_of registry in
    let items = known_items rules namelist in
    let values = map (filled (domain_count rules items) items) rules in
    let made = config_from registry values in
    let h = ok_none (config_fault registry rules items made) made config e in
    subst (λ (c : Config). IsSoundConfig c) h.1 (config_is_sound registry values s (fields_are_whole registry rules items made h.0))
