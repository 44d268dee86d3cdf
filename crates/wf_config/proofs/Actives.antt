-- A field is active by what packages list, one by one.
use Rattle.std.proofs.Common.{◌≡◌, ◌==◌, Bool, true, false, cond, not, ◌&&◌, ◌||◌, List, [], ◌∷◌, map, length, refl, sym, ap, ap₂, ◌∙◌, arith}
use Rattle.std.specs.List.{filter, flat_map, list_any}
use Rattle.std.specs.Str.{bytes_eq}
use Rattle.std.proofs.lemmas.List.Folds.{list_any-append}
use Rattle.wf_model.specs.declared.registry.Entry.{Entry}
use Rattle.wf_model.specs.declared.registry.Entry.TheVariants as entry
use Rattle.wf_model.specs.declared.registry.Registry.{Registry}
use Rattle.wf_model.specs.Letters.{Text, lower}
use Rattle.wf_model.specs.Groups.{groups_of, names_in}
use Rattle.wf_model.specs.declared.config.Config.{Config}
use Rattle.wf_model.specs.Config.{Values, config_from, is_dimspec, is_halo, is_period, is_active, is_active_symbol, package_holds, package_lists}
use Rattle.wf_config.specs.Active.{Listed, active_in, group_listings, holds, is_active_in, is_listing, listings}

-- ---- some item passes

empty_or : {A : Type 0} (b : Bool) (x : A) (ys : List A) (r : Bool) → (length ys == 0) ≡ not r → (length (cond b (x ∷ ys) ys) == 0) ≡ not (b || r)
empty_or true x ys r e = grind arith
empty_or false x ys r e = e

pub none_kept : {A : Type 0} (p : A → Bool) (xs : List A) → (length (filter p xs) == 0) ≡ not (list_any p xs)
none_kept p [] = refl
none_kept p (x ∷ xs) = empty_or (p x) x (filter p xs) (list_any p xs) (none_kept p xs)

any_or : {A : Type 0} (q : A → Bool) (b : Bool) (x : A) (ys : List A) (r : Bool) → list_any q ys ≡ r → list_any q (cond b (x ∷ ys) ys) ≡ ((b && q x) || r)
any_or q true x ys r e = ap (λ s. q x || s) e
any_or q false x ys r e = e

pub any_filter : {A : Type 0} (q p : A → Bool) (xs : List A) → list_any q (filter p xs) ≡ list_any (λ x. p x && q x) xs
any_filter q p [] = refl
any_filter q p (x ∷ xs) = any_or q (p x) x (filter p xs) _ (any_filter q p xs)

pub any_flat_map : {A B : Type 0} (q : B → Bool) (g : A → List B) (xs : List A) → list_any q (flat_map g xs) ≡ list_any (λ x. list_any q (g x)) xs
any_flat_map q g [] = refl
any_flat_map q g (x ∷ xs) = list_any-append q (g x) (flat_map g xs) ∙ ap (λ r. list_any q (g x) || r) (any_flat_map q g xs)

pub any_map : {A B : Type 0} (q : B → Bool) (f : A → B) (xs : List A) → list_any q (map f xs) ≡ list_any (λ x. q (f x)) xs
any_map q f [] = refl
any_map q f (x ∷ xs) = ap (λ r. q (f x) || r) (any_map q f xs)

pub any_same : {A : Type 0} (p q : A → Bool) (xs : List A) → ((x : A) → p x ≡ q x) → list_any p xs ≡ list_any q xs
any_same p q [] same = refl
any_same p q (x ∷ xs) same = ap₂ (λ b r. b || r) (same x) (any_same p q xs same)

both_or : (a h r : Bool) → ((a && h) || (r && h)) ≡ ((a || r) && h)
both_or true true r = refl
both_or true false true = refl
both_or true false false = refl
both_or false h r = refl

pub any_and : {A : Type 0} (p : A → Bool) (h : Bool) (xs : List A) → list_any (λ x. p x && h) xs ≡ (list_any p xs && h)
any_and p h [] = refl
any_and p h (x ∷ xs) = ap (λ r. (p x && h) || r) (any_and p h xs) ∙ both_or (p x) h (list_any p xs)

-- ---- one entry

abbrev package_lists_in : Text → Text → Bool
package_lists_in symbol list = list_any (λ group. list_any (λ name. bytes_eq (lower name) symbol) (names_in group)) (groups_of list)

lists_names : (h : Bool) (symbol list : Text) → package_lists_in symbol list ≡ list_any (is_listing symbol) (flat_map (group_listings h) (groups_of list))
lists_names h symbol list =
    any_same (λ group. list_any (λ name. bytes_eq (lower name) symbol) (names_in group)) (λ group. list_any (is_listing symbol) (group_listings h group)) (groups_of list)
    (λ group. sym (any_map (is_listing symbol) (λ name. (lower name, h)) (names_in group)))
    ∙ sym (any_flat_map (is_listing symbol) (group_listings h) (groups_of list))

held_names : (h : Bool) (symbol list : Text) → (package_lists_in symbol list && h) ≡ list_any (λ l. is_listing symbol l && l.1) (flat_map (group_listings h) (groups_of list))
held_names h symbol list =
    sym (any_and (λ group. list_any (λ name. bytes_eq (lower name) symbol) (names_in group)) h (groups_of list))
    ∙ any_same (λ group. list_any (λ name. bytes_eq (lower name) symbol) (names_in group) && h) (λ group. list_any (λ l. is_listing symbol l && l.1) (group_listings h group)) (groups_of list)
    (λ group. sym (any_and (λ name. bytes_eq (lower name) symbol) h (names_in group)) ∙ sym (any_map (λ (l : Listed). is_listing symbol l && l.1) (λ name. (lower name, h)) (names_in group)))
    ∙ sym (any_flat_map (λ (l : Listed). is_listing symbol l && l.1) (group_listings h) (groups_of list))

lists_of : (values : Values) (symbol : Text) (e : Entry) → package_lists symbol e ≡ list_any (is_listing symbol) (listings values e)
lists_of values symbol (entry.Package name by value list) = lists_names (holds values by value) symbol list
lists_of values symbol (entry.Dimspec letter how axis dataset) = refl
lists_of values symbol (entry.State kind s dims levels stagger io dname description units) = refl
lists_of values symbol (entry.Rconfig kind s how entries default) = refl
lists_of values symbol (entry.Halo name groups) = refl
lists_of values symbol (entry.Period name groups) = refl

held_of : (values : Values) (symbol : Text) (e : Entry) → (package_lists symbol e && package_holds values e) ≡ list_any (λ l. is_listing symbol l && l.1) (listings values e)
held_of values symbol (entry.Package name by value list) = held_names (holds values by value) symbol list
held_of values symbol (entry.Dimspec letter how axis dataset) = refl
held_of values symbol (entry.State kind s dims levels stagger io dname description units) = refl
held_of values symbol (entry.Rconfig kind s how entries default) = refl
held_of values symbol (entry.Halo name groups) = refl
held_of values symbol (entry.Period name groups) = refl

-- ---- all entries

pub active_symbol : (registry : Registry) (values : Values) (symbol : Text) → is_active_symbol registry values symbol ≡ active_in (flat_map (listings values) registry.entries) symbol
active_symbol registry values symbol =
    ap₂ (λ a b. a || b)
    (none_kept (package_lists symbol) registry.entries
    ∙ ap not (any_same (package_lists symbol) (λ e. list_any (is_listing symbol) (listings values e)) registry.entries (lists_of values symbol) ∙ sym (any_flat_map (is_listing symbol) (listings values) registry.entries)))
    (any_filter (package_holds values) (package_lists symbol) registry.entries
    ∙ any_same (λ e. package_lists symbol e && package_holds values e) (λ e. list_any (λ l. is_listing symbol l && l.1) (listings values e)) registry.entries (held_of values symbol)
    ∙ sym (any_flat_map (λ (l : Listed). is_listing symbol l && l.1) (listings values) registry.entries))

active : (registry : Registry) (values : Values) (e : Entry) → is_active registry values e ≡ is_active_in (flat_map (listings values) registry.entries) e
active registry values (entry.State kind symbol dims levels stagger io dname description units) = active_symbol registry values symbol
active registry values (entry.Package name by value list) = refl
active registry values (entry.Dimspec letter how axis dataset) = refl
active registry values (entry.Rconfig kind s how entries default) = refl
active registry values (entry.Halo name groups) = refl
active registry values (entry.Period name groups) = refl

filter_same : {A : Type 0} (p q : A → Bool) (xs : List A) → ((x : A) → p x ≡ q x) → filter p xs ≡ filter q xs
filter_same p q [] same = refl
filter_same p q (x ∷ xs) same = ap₂ (λ b r. cond b (x ∷ r) r) (same x) (filter_same p q xs same)

pub active_fields : (registry : Registry) (values : Values) → filter (is_active registry values) registry.entries ≡ filter (is_active_in (flat_map (listings values) registry.entries)) registry.entries
active_fields registry values = filter_same (is_active registry values) (is_active_in (flat_map (listings values) registry.entries)) registry.entries (active registry values)

-- the config of parts that are these
pub config_is : (registry : Registry) (values : Values) (ls : List Listed) (v : Values) (d f h p : List Entry)
    → v ≡ values → d ≡ filter is_dimspec registry.entries → ls ≡ flat_map (listings values) registry.entries
    → f ≡ filter (is_active_in ls) registry.entries → h ≡ filter is_halo registry.entries → p ≡ filter is_period registry.entries
    → (let config : Config = record { values = v; dims = d; fields = f; halos = h; periods = p } in config) ≡ config_from registry values
config_is registry values ls v d f h p ev ed el ef eh ep =
    let active : f ≡ filter (is_active registry values) registry.entries = ef ∙ ap (λ l. filter (is_active_in l) registry.entries) el ∙ sym (active_fields registry values) in
    λ i. record { values = ev i; dims = ed i; fields = active i; halos = eh i; periods = ep i }
