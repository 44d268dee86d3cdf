-- The values of a built-in name of whole numbers in a bound config: each one that counts is allowed.
use Rattle.std.proofs.Common.{◌≡◌, ⊎_elim, ℕ, ◌+◌, ◌-◌, ◌<◌, nat_lt, Bool, true, false, cond, not, ◌&&◌, ◌||◌, List, [], ◌∷◌, ◌++◌, map, length, Option, Some, None, Ok, find, filter, option_map, ℤ, pos, negsuc, if◌then◌else◌, refl, sym, ap, subst, ◌∙◌, arith}
use Rattle.std.specs.Prelude.{slice_get, int_le, unsigned_abs, unwrap_or}
use Rattle.std.specs.List.{list_all, list_any}
use Rattle.std.specs.Str.{bytes_eq}
use Rattle.std.proofs.lemmas.Slice.Eq.{bytes_eq-Decides}
use Rattle.std.proofs.lemmas.Option.{slice_get_cases}
use Rattle.wf_model.specs.declared.namelist.Value.{Value}
use Rattle.wf_model.specs.declared.namelist.Value.TheVariants as value
use Rattle.wf_model.specs.declared.namelist.Namelist.{Namelist}
use Rattle.wf_model.specs.declared.registry.Registry.{Registry}
use Rattle.wf_model.specs.declared.registry.Entry.{Entry}
use Rattle.wf_model.specs.declared.registry.Entry.TheVariants as entry
use Rattle.wf_model.specs.declared.config.Config.{Config}
use Rattle.wf_model.specs.declared.config.ConfigFault.TheVariants.{WrongType, UnknownItem, TooMany, OutOfRange}
use Rattle.wf_model.specs.Reading.{fault_if, first_fault}
use Rattle.wf_model.specs.Letters.{Text, is_dash}
use Rattle.wf_model.specs.ValueForms.{fits_bits, is_whole, whole_value}
use Rattle.wf_model.specs.Namelist.{Item}
use Rattle.wf_model.specs.BuiltIns.{ValueType, an_integer, a_real, a_logical, a_character, NameRule, built_in, built_ins, is_built_in}
use Rattle.wf_model.specs.Config.{config_of, config_from, config_fault, rules_of, registry_rules, rconfig_rule, rule_named, has_rule_name, with_default, known_items, given, is_of, out_of_range, is_judged, range_fault, rule_fault, item_fault, default_fault, wrong_rule, float_fault, same_type, type_of, default_of, filled, missing_value, missing_values, is_start_name, values_of, max_dom, domain_count, Values}
use Rattle.wf_config_laws.proofs.Passed.{given_up, none, same, neither, both_passed, passed_if, passed_at, passed_found, passed_judged, find_passes, any_not, all_at, both_hold, found_made, find_map, find_front, made_at, at_front, behind_front}

-- ---- no test of the config failed

pub record Passed (registry : Registry) (items : List Item) : Type 0 where
  pub declared : first_fault (map wrong_rule (registry_rules registry)) ≡ None
  pub items_pass : first_fault (map (item_fault (rules_of registry) (max_dom (rules_of registry) items)) items) ≡ None
  pub defaults_pass : first_fault (map (default_fault (domain_count (rules_of registry) items) items) (rules_of registry)) ≡ None

abbrev pub bound_values : Registry → List Item → Values
bound_values registry items = map (filled (domain_count (rules_of registry) items) items) (rules_of registry)

pub passed : (registry : Registry) (namelist : Namelist) (config : Config) → config_of registry namelist ≡ Ok config
    → Passed registry (known_items (rules_of registry) namelist) × (config ≡ config_from registry (bound_values registry (known_items (rules_of registry) namelist)))
unfolding config_of
passed registry namelist config e =
    let rules = rules_of registry in
    let items = known_items rules namelist in
    let made = config_from registry (bound_values registry items) in
    let ends = given_up (config_fault registry rules items made) made config e in
    let wrongs = map wrong_rule (registry_rules registry) in
    let judged = map (item_fault rules (max_dom rules items)) items in
    let defaults = map (default_fault (domain_count rules items) items) rules in
    let all = both_passed ((wrongs ++ judged) ++ defaults) (map float_fault made.fields) ends.0 in
    let front = both_passed (wrongs ++ judged) defaults all.0 in
    let first = both_passed wrongs judged front.0 in
    (record { declared = first.0; items_pass = first.1; defaults_pass = front.1 }, sym ends.1)

-- ---- rules

-- a built-in name of whole numbers
pub record Row (name : Text) (each : Bool) (allowed : ℤ → Bool) : Type 0 where
  pub rule : NameRule
  pub found : built_in name ≡ Some rule
  pub integers : rule.type ≡ an_integer
  pub for_each : rule.each ≡ each
  pub allows : rule.allowed ≡ allowed
  pub whole : (d : ℕ) → is_of an_integer (rule.default d) ≡ true

-- what the Registry can't change
pub record Keeps (b r : NameRule) : Type 0 where
  pub name : r.name ≡ b.name
  pub group : r.group ≡ b.group
  pub type : r.type ≡ b.type
  pub each : r.each ≡ b.each
  pub allowed : r.allowed ≡ b.allowed

pub kept : (o : Option NameRule) (b : NameRule) → Keeps b (with_default o b)
kept None b = record { name = refl; group = refl; type = refl; each = refl; allowed = refl }
kept (Some q) b = record { name = refl; group = refl; type = refl; each = refl; allowed = refl }

-- a default of the Registry is of the type that is declared
integer_either : (b : Bool) (m n : ℤ) → is_of an_integer (cond b (value.Int m) (value.Int n)) ≡ true
integer_either true m n = refl
integer_either false m n = refl

real_either : (a b : Bool) (m n : ℤ) (word : Text) → is_of a_real (cond a (value.Int m) (cond b (value.Int n) (value.Decimal word))) ≡ true
real_either true b m n word = refl
real_either false true m n word = refl
real_either false false m n word = refl

text_either : (b : Bool) (s t : Text) → is_of a_character (cond b (value.Text s) (value.Text t)) ≡ true
text_either true s t = refl
text_either false s t = refl

default_is : (type : ValueType) (word : Text) → is_of type (default_of type word) ≡ true
default_is an_integer word = integer_either (is_dash word) (pos 0) (whole_value word)
default_is a_real word = real_either (is_dash word) (is_whole word) (pos 0) (whole_value word) word
default_is a_logical word = refl
default_is a_character word = text_either (is_dash word) [] word

of_type : (x : Entry) (q : NameRule) (d : ℕ) → rconfig_rule x ≡ Some q → is_of q.type (q.default d) ≡ true
of_type (entry.Rconfig kind symbol how entries default) q d e = subst (λ (r : NameRule). is_of r.type (r.default d) ≡ true) (same _ q e) (default_is (type_of kind) default)
of_type (entry.Dimspec letter how axis dataset) q d e = absurd (none q e)
of_type (entry.State kind symbol dims levels stagger io dname description units) q d e = absurd (none q e)
of_type (entry.Package name symbol value list) q d e = absurd (none q e)
of_type (entry.Halo name groups) q d e = absurd (none q e)
of_type (entry.Period name groups) q d e = absurd (none q e)

-- ---- values

-- a value that its rule allows
pub record IsGood (r : NameRule) (v : Value) : Type 0 where
  pub type : is_of r.type v ≡ true
  pub range : out_of_range r v ≡ None

-- where a number counts as one of a domain
counted : (domains : ℤ) (k : ℕ) → k < (if int_le (pos 0) domains then unsigned_abs domains else 0) → int_le (pos (1 + k)) domains ≡ true
counted (pos m) k h = grind (arith, h)
counted (negsuc m) k h = absurd (omega (arith, h))

judged_of : (each b : Bool) → (each ≡ true → b ≡ true) → (not each || b) ≡ true
judged_of true b h = h refl
judged_of false b h = refl

not_both : (a b c : Bool) → a ≡ true → (a && not (b && c)) ≡ false → c ≡ true
not_both true true true is e = refl
not_both true true false is e = cc
not_both true false c is e = cc
not_both false b c is e = cc

module _ (registry : Registry) (items : List Item) (passed : Passed registry items) {name : Text} {each : Bool} {allowed : ℤ → Bool} (row : Row name each allowed) where
  abbrev pub rules : List NameRule
  rules = rules_of registry

  abbrev pub domains : ℕ
  domains = domain_count rules items

  abbrev pub declared : Option NameRule
  declared = rule_named (registry_rules registry) row.rule.name

  -- the rule of the name
  abbrev pub r : NameRule
  r = with_default declared row.rule

  abbrev made : NameRule → NameRule
  made b = with_default (rule_named (registry_rules registry) b.name) b

  pub named : row.rule.name ≡ name
  named = (bytes_eq-Decides row.rule.name name).0 (find_passes (has_rule_name name) built_ins row.rule row.found)

  pub is_rule : rule_named rules name ≡ Some r
  is_rule =
      find_front (has_rule_name name) (map made built_ins) (filter (λ (r : NameRule). not (is_built_in r.name)) (registry_rules registry)) r
      (find_map (has_rule_name name) made built_ins
      ∙ ap (λ p. option_map made (find p built_ins)) (λ i b. bytes_eq ((kept (rule_named (registry_rules registry) b.name) b).name i) name)
      ∙ ap (option_map made) row.found)

  pub r_named : r.name ≡ name
  r_named = (kept declared row.rule).name ∙ named

  pub r_type : r.type ≡ an_integer
  r_type = (kept declared row.rule).type ∙ row.integers

  pub r_each : r.each ≡ each
  r_each = (kept declared row.rule).each ∙ row.for_each

  pub r_allows : r.allowed ≡ allowed
  r_allows = (kept declared row.rule).allowed ∙ row.allows

  -- the Registry's default is a whole number, as it declares the name so
  whole_default : (o : Option NameRule) (d : ℕ) → declared ≡ o → is_of an_integer ((with_default o row.rule).default d) ≡ true
  whole_default None d is = row.whole d
  whole_default (Some q) d is =
      let b = row.rule in
      let wrong = passed_found wrong_rule (has_rule_name b.name) (registry_rules registry) q passed.declared is in
      let other : list_any (λ (c : NameRule). bytes_eq c.name q.name && not (bytes_eq c.group q.group && same_type c.type q.type)) built_ins ≡ false = passed_if _ _ wrong in
      let this = any_not (λ (c : NameRule). bytes_eq c.name q.name && not (bytes_eq c.group q.group && same_type c.type q.type)) (has_rule_name name) built_ins b other row.found in
      let name_is : q.name ≡ b.name = (bytes_eq-Decides q.name b.name).0 (find_passes (has_rule_name b.name) (registry_rules registry) q is) in
      let types : same_type b.type q.type ≡ true = not_both (bytes_eq b.name q.name) (bytes_eq b.group q.group) (same_type b.type q.type) ((bytes_eq-Decides b.name q.name).1 (sym name_is)) this in
      let entry = found_made rconfig_rule (has_rule_name b.name) registry.entries q is in
      subst (λ t. is_of t (q.default d) ≡ true) (same_integer q.type (ap (λ t. same_type t q.type) (sym row.integers) ∙ types)) (of_type entry.0 q d entry.1)
    where
      same_integer : (t : ValueType) → same_type an_integer t ≡ true → t ≡ an_integer
      same_integer an_integer e = refl
      same_integer a_real e = cc
      same_integer a_logical e = cc
      same_integer a_character e = cc

  pub default_whole : (d : ℕ) → is_of r.type (r.default d) ≡ true
  default_whole d = ap (λ t. is_of t (r.default d)) r_type ∙ whole_default declared d refl

  -- what the namelist gives
  abbrev pub vs : List Value
  vs = given items r.group r.name

  item_named : (i : Item) → (bytes_eq i.0 r.group && bytes_eq i.1 r.name) ≡ true → i.1 ≡ name
  item_named i e = (bytes_eq-Decides i.1 r.name).0 (both_hold (bytes_eq i.0 r.group) (bytes_eq i.1 r.name) e).1 ∙ r_named

  -- the tests of an item of this name
  item_tests : (i : Item) → i.1 ≡ name → item_fault rules (max_dom rules items) i ≡ None → (list_all (is_of r.type) i.2 ≡ true) × (range_fault (max_dom rules items) r i.2 ≡ None)
  item_tests i is e =
      let tests = sym (ap (rule_fault (max_dom rules items) i) (ap (rule_named rules) is ∙ is_rule)) ∙ e in
      let behind_group = (neither (fault_if (not (bytes_eq r.group i.0)) (UnknownItem i.1)) _ tests).1 in
      let types = neither (fault_if (not (list_all (is_of r.type) i.2)) (WrongType i.1)) _ behind_group in
      let behind_count = (neither (fault_if (nat_lt r.most (length i.2)) (TooMany i.1)) _ types.1).1 in
      (holds (list_all (is_of r.type) i.2) (passed_if _ _ types.0), (neither (range_fault (max_dom rules items) r i.2) None behind_count).0)
    where
      holds : (b : Bool) → not b ≡ false → b ≡ true
      holds true e = refl
      holds false e = cc

  -- a given value of a domain that there is
  pub given_good : (k : ℕ) (v : Value) → slice_get vs k ≡ Some v → (r.each ≡ true → k < domains) → IsGood r v
  given_good k v at within = of_item (find (λ (i : Item). bytes_eq i.0 r.group && bytes_eq i.1 r.name) items) refl at
    where
      of_item : (o : Option Item) → find (λ (i : Item). bytes_eq i.0 r.group && bytes_eq i.1 r.name) items ≡ o → slice_get (unwrap_or (option_map (λ (i : Item). i.2) o) []) k ≡ Some v → IsGood r v
      of_item None is at = absurd (none v at)
      of_item (Some i) is at =
          let passes = find_passes (λ (i : Item). bytes_eq i.0 r.group && bytes_eq i.1 r.name) items i is in
          let test = passed_found (item_fault rules (max_dom rules items)) (λ (i : Item). bytes_eq i.0 r.group && bytes_eq i.1 r.name) items i passed.items_pass is in
          let tests = item_tests i (item_named i passes) test in
          let judged = judged_of r.each (int_le (pos (1 + k)) (max_dom rules items)) (λ e. counted (max_dom rules items) k (within e)) in
          record {
            type = all_at (is_of r.type) i.2 k v tests.0 at;
            range = passed_judged (λ (p : ℕ × Value). out_of_range r p.1) (is_judged (max_dom rules items) r) 1 k (1 + k) i.2 v tests.1 at refl judged;
          }

  -- how many values the name has at least
  abbrev pub wanted : ℕ
  wanted = if r.each then domains else 1

  wanted_one : (b : Bool) → b ≡ false → 0 < (if b then domains else 1)
  wanted_one true e = cc
  wanted_one false e = omega arith

  wanted_each : (b : Bool) (k : ℕ) → b ≡ true → k < domains → k < (if b then domains else 1)
  wanted_each true k e h = h
  wanted_each false k e h = cc

  -- one, or one for each domain
  pub one : each ≡ false → 0 < wanted
  one e = wanted_one r.each (r_each ∙ e)

  pub of_domain : (k : ℕ) → each ≡ true → k < domains → k < wanted
  of_domain k e h = wanted_each r.each k (r_each ∙ e) h

  some_wanted : (b : Bool) (k : ℕ) → k < (if b then domains else 1) → b ≡ true → 0 < domains
  some_wanted true k h e = omega (arith, h)
  some_wanted false k h e = cc

  missing_type : (us : List Value) (d : ℕ) → ((v : Value) → slice_get us 0 ≡ Some v → is_of r.type v ≡ true) → is_of r.type (missing_value r us d) ≡ true
  missing_type [] d first = default_whole d
  missing_type (u ∷ us) d first = either (is_start_name r.name && r.each)
    where
      either : (b : Bool) → is_of r.type (if b then u else r.default d) ≡ true
      either true = first u refl
      either false = default_whole d

  -- a value that isn't given
  missing_good : (j : ℕ) → j < wanted - length vs → IsGood r (missing_value r vs (length vs + 1 + j))
  missing_good j h = record {
    type = missing_type vs (length vs + 1 + j) (λ v at. (given_good 0 v at (some_wanted r.each 0 (omega (arith, h)))).type);
    range = passed_at (out_of_range r) (missing_values domains r vs) j (missing_value r vs (length vs + 1 + j))
        (passed_found (default_fault domains items) (has_rule_name name) rules r passed.defaults_pass is_rule)
        (made_at (missing_value r vs) (length vs + 1) (wanted - length vs) j h);
  }

  pub record GoodAt (k : ℕ) : Type 0 where
    pub v : Value
    pub at : slice_get (vs ++ missing_values domains r vs) k ≡ Some v
    pub good : IsGood r v

  counted_given : (b : Bool) (k : ℕ) → k < (if b then domains else 1) → b ≡ true → k < domains
  counted_given true k h e = h
  counted_given false k h e = cc

  -- each value that counts
  pub good_at : (k : ℕ) → k < wanted → GoodAt k
  good_at k h =
      ⊎_elim
      (λ here. record { v = here.0; at = at_front vs (missing_values domains r vs) k here.0 here.2; good = given_good k here.0 here.2 (counted_given r.each k h) })
      (λ past. record {
        v = missing_value r vs (length vs + 1 + (k - length vs));
        at = behind_front vs (missing_values domains r vs) k past.0 ∙ made_at (missing_value r vs) (length vs + 1) (wanted - length vs) (k - length vs) (omega (arith, h, past.0));
        good = missing_good (k - length vs) (omega (arith, h, past.0));
      })
      (slice_get_cases vs k).1

  -- they are the config's
  pub values_are : values_of (bound_values registry items) name ≡ vs ++ missing_values domains r vs
  values_are =
      ap (λ (o : Option (Text × List Value)). unwrap_or (option_map (λ (p : Text × List Value). p.1) o) [])
      (find_map (λ (p : Text × List Value). bytes_eq p.0 name) (filled domains items) rules ∙ ap (option_map (filled domains items)) is_rule)

  pub record NumberAt (k : ℕ) : Type 0 where
    pub m : ℤ
    pub at : slice_get (values_of (bound_values registry items) name) k ≡ Some (value.Int m)
    pub fits : fits_bits 32 m ≡ true
    pub is_allowed : allowed m ≡ true

  number_of : (type : ValueType) (allows : ℤ → Bool) (text : Text) (v : Value) → type ≡ an_integer → is_of type v ≡ true
      → ((m : ℤ) → v ≡ value.Int m → fault_if (same_type type an_integer && not (fits_bits 32 m && allows m)) (OutOfRange text m) ≡ None)
      → (m : ℤ) × (v ≡ value.Int m) × (fits_bits 32 m ≡ true) × (allows m ≡ true)
  number_of type allows text v is e test = by_value v (ap (λ t. is_of t v) (sym is) ∙ e) test
    where
      both : (a b c : Bool) → a ≡ true → (a && not (b && c)) ≡ false → (b ≡ true) × (c ≡ true)
      both true true true is e = (refl, refl)
      both true true false is e = cc
      both true false c is e = cc
      both false b c is e = cc

      by_value : (v : Value) → is_of an_integer v ≡ true
          → ((m : ℤ) → v ≡ value.Int m → fault_if (same_type type an_integer && not (fits_bits 32 m && allows m)) (OutOfRange text m) ≡ None)
          → (m : ℤ) × (v ≡ value.Int m) × (fits_bits 32 m ≡ true) × (allows m ≡ true)
      by_value (value.Int m) e test =
          let two = both (same_type type an_integer) (fits_bits 32 m) (allows m) (ap (λ t. same_type t an_integer) is) (passed_if _ _ (test m refl)) in
          (m, refl, two.0, two.1)
      by_value (value.Decimal w) e test = cc
      by_value (value.Logical b) e test = cc
      by_value (value.Text t) e test = cc

  -- so each of them is a number that the name allows
  pub number_at : (k : ℕ) → k < wanted → NumberAt k
  number_at k h =
      let here = good_at k h in
      let n = number_of r.type r.allowed r.name here.v r_type here.good.type (λ m is. ap (out_of_range r) (sym is) ∙ here.good.range) in
      record { m = n.0; at = ap (λ (us : List Value). slice_get us k) values_are ∙ here.at ∙ ap (λ v. Some v) n.1; fits = n.2; is_allowed = ap (λ (f : ℤ → Bool). f n.0) (sym r_allows) ∙ n.3 }
