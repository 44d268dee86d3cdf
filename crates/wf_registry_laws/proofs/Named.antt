-- The names of a table are the levels, in order, and its fields are pairs of levels.
use Rattle.std.proofs.Common.{◌≡◌, ℕ, ◌+◌, ◌-◌, ◌<◌, List, [], ◌∷◌, ◌++◌, map, length, refl, sym, ap, ap₂, ◌∙◌, subst, length-append, arith}
use Rattle.std.specs.Prelude.{flat_map, ℤ, unsigned_abs}
use Rattle.std.specs.List.{AllByRecursion}
use Rattle.std.proofs.lemmas.List.{get_or_append_left, get_or-append-add, map-append}
use Rattle.std.proofs.lemmas.List.Concat.{flat_map-cons}
use Rattle.std.proofs.lemmas.List.Elements.{All-from_recursion}
use Rattle.wf_model.specs.declared.registry.Entry.{Entry}
use Rattle.wf_model.specs.declared.registry.Entry.TheVariants.{Dimspec, State, Rconfig, Package, Halo, Period}
use Rattle.wf_model.specs.declared.config.Config.{Config}
use Rattle.wf_model.specs.declared.plan.Field.{Field}
use Rattle.wf_model.specs.declared.table.HookName.{HookName}
use Rattle.wf_model.specs.Letters.{Text}
use Rattle.wf_model.specs.Plans.{no_field}
use Rattle.wf_model.specs.Entries.{entry_levels, entry_symbol}
use Rattle.wf_model.specs.PlanFields.{fields_from, entry_extents, z_extent}
use Rattle.wf_model.specs.NamesOf.{levels_in, names_of, fields_from as named_from}
use Rattle.wf_registry_laws.specs.RegistryLaws.{AreDistinct}
use Rattle.wf_registry_laws.specs.FieldLaws.{level, name_and_z, IsNamedPair, LevelsHaveTheExtents, NamesAreTheLevels, LevelNamesAreDistinct, NamedFieldsArePairs}
use Rattle.wf_registry_laws.proofs.Distinct.{each-append}
use Rattle.wf_registry_laws.proofs.Shapes.{all_made, common, own_levels, own_is_made, by_levels, by_entry}
use Rattle.wf_registry_laws.proofs.Pairs.{own_length}

-- ---- what is seen of all levels is what is seen of each entry's

seen : {A : Type 0} (view : Field → A) (of : Entry → List A) (config : Config) (hooks : List HookName) → ((e : Entry) (first : ℕ) → map view (own_levels config hooks e first) ≡ of e)
    → (first : ℕ) (es : List Entry) → map view (fields_from config hooks first es) ≡ flat_map of es
unfolding fields_from
seen view of config hooks own first [] = refl
seen view of config hooks own first (e ∷ es) =
    map-append view (own_levels config hooks e first) (fields_from config hooks (first + length (entry_levels e)) es)
    ∙ ap₂ (λ a b. a ++ b) (own e first) (seen view of config hooks own (first + length (entry_levels e)) es)
    ∙ sym (flat_map-cons of e es)

-- ---- names

names_seen : (config : Config) (hooks : List HookName) (e : Entry) (first : ℕ) → map (λ (f : Field). f.name) (own_levels config hooks e first) ≡ entry_levels e
names_seen config hooks e first =
    ap (map (λ (f : Field). f.name)) (own_is_made config hooks e first)
    ∙ by_entry (λ names. map (λ (f : Field). f.name) (all_made (common config hooks e) names first) ≡ names) e (λ a b. refl) (λ a. refl) refl

pub level_names_are_distinct : LevelNamesAreDistinct
level_names_are_distinct config hooks sound =
    subst (λ names. AreDistinct names) (sym (seen (λ (f : Field). f.name) entry_levels config hooks (names_seen config hooks) 0 config.fields)) sound.levels

levels_seen : (config : Config) (hooks : List HookName) (e : Entry) (first : ℕ) → map name_and_z (own_levels config hooks e first) ≡ levels_in e
levels_seen config hooks (State kind symbol dims levels stagger io dname description units) first =
    let e = State kind symbol dims levels stagger io dname description units in
    by_levels (λ names. map name_and_z (all_made (common config hooks e) names first) ≡ map (λ name. (name, (common config hooks e).z)) names) symbol levels (λ a b. refl) (λ a. refl)
levels_seen config hooks (Dimspec letter how axis dataset) first = refl
levels_seen config hooks (Rconfig kind symbol how entries default) first = refl
levels_seen config hooks (Package name symbol value list) first = refl
levels_seen config hooks (Halo name groups) first = refl
levels_seen config hooks (Period name groups) first = refl

pub names_are_the_levels : NamesAreTheLevels
unfolding names_of
names_are_the_levels config hooks = sym (seen name_and_z levels_in config hooks (levels_seen config hooks) 0 config.fields)

-- ---- extents

extents_seen : (config : Config) (hooks : List HookName) (e : Entry) (first : ℕ) → map (λ (f : Field). f.nz) (own_levels config hooks e first) ≡ map unsigned_abs (entry_extents config e)
extents_seen config hooks (State kind symbol dims levels stagger io dname description units) first =
    let e = State kind symbol dims levels stagger io dname description units in
    by_levels (λ names. map (λ (f : Field). f.nz) (all_made (common config hooks e) names first) ≡ map unsigned_abs (map (λ name. z_extent config dims stagger) names)) symbol levels (λ a b. refl) (λ a. refl)
extents_seen config hooks (Dimspec letter how axis dataset) first = refl
extents_seen config hooks (Rconfig kind symbol how entries default) first = refl
extents_seen config hooks (Package name symbol value list) first = refl
extents_seen config hooks (Halo name groups) first = refl
extents_seen config hooks (Period name groups) first = refl

mapped : (g : Entry → List ℤ) (es : List Entry) → flat_map (λ e. map unsigned_abs (g e)) es ≡ map unsigned_abs (flat_map g es)
mapped g [] = refl
mapped g (e ∷ es) =
    flat_map-cons (λ x. map unsigned_abs (g x)) e es ∙ ap (λ ns. map unsigned_abs (g e) ++ ns) (mapped g es)
    ∙ sym (map-append unsigned_abs (g e) (flat_map g es)) ∙ ap (map unsigned_abs) (sym (flat_map-cons g e es))

pub levels_have_the_extents : LevelsHaveTheExtents
levels_have_the_extents config hooks =
    seen (λ (f : Field). f.nz) (λ e. map unsigned_abs (entry_extents config e)) config hooks (extents_seen config hooks) 0 config.fields ∙ mapped (entry_extents config) config.fields

-- ---- fields as pairs of numbers

-- of levels that are numbered from `first` on, two are one another's pair
pub record IsNamedAt (fs : List Field) (first : ℕ) (n : Text × ℕ × ℕ) : Type 0 where
  pub one : ℕ
  pub two : ℕ
  pub one_is : n.1 ≡ first + one
  pub two_is : n.2 ≡ first + two
  pub one_within : one < length fs
  pub two_within : two < length fs
  pub pair : (level fs one).pair ≡ n.2
  pub back : (level fs two).pair ≡ n.1

named_two : (f : Field) (first : ℕ) (symbol a b : Text) → IsNamedAt (all_made f (a ∷ b ∷ []) first) first (symbol, first, first + 2 - 1)
named_two f first symbol a b =
    let last : first + 2 - 1 ≡ first + 1 = omega arith in
    let none : first + 0 ≡ first = omega arith in
    record { one = 0; two = 1; one_is = sym none; two_is = last; one_within = omega arith; two_within = omega arith; pair = sym last; back = none }

named_one : (f : Field) (first : ℕ) (symbol a : Text) → IsNamedAt (all_made f (a ∷ []) first) first (symbol, first, first + 1 - 1)
named_one f first symbol a =
    let last : first + 1 - 1 ≡ first + 0 = omega arith in
    let none : first + 0 ≡ first = omega arith in
    record { one = 0; two = 0; one_is = sym none; two_is = last; one_within = omega arith; two_within = omega arith; pair = sym last; back = none }

own_named : (config : Config) (hooks : List HookName) (e : Entry) (first : ℕ)
    → AllByRecursion (IsNamedAt (own_levels config hooks e first) first) (map (λ symbol. (symbol, first, first + length (entry_levels e) - 1)) (entry_symbol e))
own_named config hooks (State kind symbol dims levels stagger io dname description units) first =
    let e = State kind symbol dims levels stagger io dname description units in (
      by_levels (λ names. IsNamedAt (all_made (common config hooks e) names first) first (symbol, first, first + length names - 1)) symbol levels
          (λ a b. named_two (common config hooks e) first symbol a b) (λ a. named_one (common config hooks e) first symbol a),
      tt,
    )
own_named config hooks (Dimspec letter how axis dataset) first = tt
own_named config hooks (Rconfig kind symbol how entries default) first = tt
own_named config hooks (Package name symbol value list) first = tt
own_named config hooks (Halo name groups) first = tt
own_named config hooks (Period name groups) first = tt

named_left : (fs gs : List Field) (first : ℕ) (n : Text × ℕ × ℕ) → IsNamedAt fs first n → IsNamedAt (fs ++ gs) first n
named_left fs gs first n h = record {
  one = h.one;
  two = h.two;
  one_is = h.one_is;
  two_is = h.two_is;
  one_within = let w : h.one < length fs = h.one_within in omega (arith, length-append fs gs);
  two_within = let w : h.two < length fs = h.two_within in omega (arith, length-append fs gs);
  pair = ap (λ (f : Field). f.pair) (get_or_append_left fs gs no_field h.one h.one_within) ∙ h.pair;
  back = ap (λ (f : Field). f.pair) (get_or_append_left fs gs no_field h.two h.two_within) ∙ h.back;
}

named_right : (fs gs : List Field) (first : ℕ) (n : Text × ℕ × ℕ) → IsNamedAt gs (first + length fs) n → IsNamedAt (fs ++ gs) first n
named_right fs gs first n h =
    let one : first + length fs + h.one ≡ first + (length fs + h.one) = omega arith in
    let two : first + length fs + h.two ≡ first + (length fs + h.two) = omega arith in
    record {
      one = length fs + h.one;
      two = length fs + h.two;
      one_is = h.one_is ∙ one;
      two_is = h.two_is ∙ two;
      one_within = let w : h.one < length gs = h.one_within in omega (arith, length-append fs gs);
      two_within = let w : h.two < length gs = h.two_within in omega (arith, length-append fs gs);
      pair = ap (λ (f : Field). f.pair) (get_or-append-add fs gs h.one no_field) ∙ h.pair;
      back = ap (λ (f : Field). f.pair) (get_or-append-add fs gs h.two no_field) ∙ h.back;
    }

each_weaker : {X : Type 0} (P Q : X → Type 0) → ((x : X) → P x → Q x) → (xs : List X) → AllByRecursion P xs → AllByRecursion Q xs
each_weaker P Q weaker [] h = tt
each_weaker P Q weaker (x ∷ xs) h = (weaker x h.0, each_weaker P Q weaker xs h.1)

all_named : (config : Config) (hooks : List HookName) (first : ℕ) (es : List Entry) → AllByRecursion (IsNamedAt (fields_from config hooks first es) first) (named_from first es)
unfolding fields_from
all_named config hooks first [] = tt
all_named config hooks first (e ∷ es) =
    let fs = own_levels config hooks e first in
    let next = first + length (entry_levels e) in
    let gs = fields_from config hooks next es in
    let mine = map (λ symbol. (symbol, first, first + length (entry_levels e) - 1)) (entry_symbol e) in
    let behind : AllByRecursion (IsNamedAt gs (first + length fs)) (named_from next es) =
    subst (λ n. AllByRecursion (IsNamedAt gs (first + n)) (named_from next es)) (sym (own_length config hooks e first)) (all_named config hooks next es) in
    each-append (IsNamedAt (fs ++ gs) first) mine (named_from next es)
    (each_weaker (IsNamedAt fs first) (IsNamedAt (fs ++ gs) first) (named_left fs gs first) mine (own_named config hooks e first))
    (each_weaker (IsNamedAt gs (first + length fs)) (IsNamedAt (fs ++ gs) first) (named_right fs gs first) (named_from next es) behind)

is_pair : (fs : List Field) (n : Text × ℕ × ℕ) → IsNamedAt fs 0 n → IsNamedPair fs n
is_pair fs n h =
    let one : n.1 ≡ h.one = h.one_is ∙ (let same : 0 + h.one ≡ h.one = omega arith in same) in
    let two : n.2 ≡ h.two = h.two_is ∙ (let same : 0 + h.two ≡ h.two = omega arith in same) in
    record {
      first = subst (λ k. k < length fs) (sym one) h.one_within;
      last = subst (λ k. k < length fs) (sym two) h.two_within;
      pair = ap (λ k. (level fs k).pair) one ∙ h.pair;
      back = ap (λ k. (level fs k).pair) two ∙ h.back;
    }

pub named_fields_are_pairs : NamedFieldsArePairs
unfolding names_of
named_fields_are_pairs config hooks =
    let fs = fields_from config hooks 0 config.fields in
    All-from_recursion (IsNamedPair fs) (named_from 0 config.fields) (each_weaker (IsNamedAt fs 0) (IsNamedPair fs) (is_pair fs) (named_from 0 config.fields) (all_named config hooks 0 config.fields))
