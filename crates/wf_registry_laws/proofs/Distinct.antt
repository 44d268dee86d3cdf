-- Texts of which no two are equal.
use Rattle.std.proofs.Common.{◌≡◌, ℕ, ◌<◌, Bool, true, false, cond, List, [], ◌∷◌, ◌++◌, length, refl, sym, ap, ◌∙◌, subst, length-append, get_or, append_assoc, arith}
use Rattle.std.specs.Prelude.{if◌then◌else◌, flat_map, filter, codes}
use Rattle.std.specs.List.{IsDistinct, AllByRecursion}
use Rattle.std.specs.Str.{bytes_eq}
use Rattle.std.proofs.lemmas.Bool.{or_parts, or_from}
use Rattle.std.proofs.lemmas.List.{append_cancel_left}
use Rattle.std.proofs.lemmas.List.Folds.{list_any-append}
use Rattle.std.proofs.lemmas.List.Concat.{flat_map-cons}
use Rattle.wf_model.specs.declared.registry.Entry.{Entry}
use Rattle.wf_model.specs.declared.registry.Entry.TheVariants.{Dimspec, State, Rconfig, Package, Halo, Period}
use Rattle.wf_model.specs.Letters.{Text, is_among, share}
use Rattle.wf_model.specs.Entries.{Kind, same_kind, entry_name, suffixed, variable_of, variables_of, is_two, is_integer, staggered, entry_levels, entry_variables, entry_datasets}
use Rattle.wf_registry_laws.specs.RegistryLaws.{AreDistinct, names_of_kind, taken_by}
use Rattle.wf_registry_laws.proofs.Tests.{other_text, flipped}

-- ---- two lists

pub each-append : {X : Type 0} (P : X → Type 0) (xs ys : List X) → AllByRecursion P xs → AllByRecursion P ys → AllByRecursion P (xs ++ ys)
each-append P [] ys a b = b
each-append P (x ∷ xs) ys a b = (a.0, each-append P xs ys a.1 b)

pub each-left : {X : Type 0} (P : X → Type 0) (xs ys : List X) → AllByRecursion P (xs ++ ys) → AllByRecursion P xs
each-left P [] ys a = tt
each-left P (x ∷ xs) ys a = (a.0, each-left P xs ys a.1)

pub each-right : {X : Type 0} (P : X → Type 0) (xs ys : List X) → AllByRecursion P (xs ++ ys) → AllByRecursion P ys
each-right P [] ys a = a
each-right P (x ∷ xs) ys a = each-right P xs ys a.1

-- none of the one stands in the other
share_first : (x : Text) (xs ys : List Text) → share ys (x ∷ xs) ≡ false → AllByRecursion (λ y. bytes_eq x y ≡ false) ys
share_first x xs [] e = tt
share_first x xs (y ∷ ys) e =
    let h = or_parts (is_among y (x ∷ xs)) (share ys (x ∷ xs)) e in
    (flipped y x (or_parts (bytes_eq y x) (is_among y xs) h.0).0, share_first x xs ys h.1)

share_rest : (x : Text) (xs ys : List Text) → share ys (x ∷ xs) ≡ false → share ys xs ≡ false
share_rest x xs [] e = refl
share_rest x xs (y ∷ ys) e =
    let h = or_parts (is_among y (x ∷ xs)) (share ys (x ∷ xs)) e in
    or_from (is_among y xs) (share ys xs) (or_parts (bytes_eq y x) (is_among y xs) h.0).1 (share_rest x xs ys h.1)

share_more : (x : Text) (xs ys : List Text) → AllByRecursion (λ y. bytes_eq x y ≡ false) ys → share ys xs ≡ false → share ys (x ∷ xs) ≡ false
share_more x xs [] a e = refl
share_more x xs (y ∷ ys) a e =
    let h = or_parts (is_among y xs) (share ys xs) e in
    or_from (is_among y (x ∷ xs)) (share ys (x ∷ xs)) (or_from (bytes_eq y x) (is_among y xs) (flipped x y a.0) h.0) (share_more x xs ys a.1 h.1)

share_none : (ys : List Text) → share ys [] ≡ false
share_none [] = refl
share_none (y ∷ ys) = share_none ys

pub share_left : (ws xs ys : List Text) → share ws (xs ++ ys) ≡ false → share ws xs ≡ false
share_left [] xs ys e = refl
share_left (w ∷ ws) xs ys e =
    let h = or_parts (is_among w (xs ++ ys)) (share ws (xs ++ ys)) e in
    or_from (is_among w xs) (share ws xs) (or_parts (is_among w xs) (is_among w ys) (sym (list_any-append (bytes_eq w) xs ys) ∙ h.0)).0 (share_left ws xs ys h.1)

pub share_right : (ws xs ys : List Text) → share ws (xs ++ ys) ≡ false → share ws ys ≡ false
share_right [] xs ys e = refl
share_right (w ∷ ws) xs ys e =
    let h = or_parts (is_among w (xs ++ ys)) (share ws (xs ++ ys)) e in
    or_from (is_among w ys) (share ws ys) (or_parts (is_among w xs) (is_among w ys) (sym (list_any-append (bytes_eq w) xs ys) ∙ h.0)).1 (share_right ws xs ys h.1)

pub distinct_append : (xs ys : List Text) → AreDistinct xs → AreDistinct ys → share ys xs ≡ false → AreDistinct (xs ++ ys)
unfolding IsDistinct
distinct_append [] ys a b e = b
distinct_append (x ∷ xs) ys a b e =
    (each-append (λ y. bytes_eq x y ≡ false) xs ys a.0 (share_first x xs ys e), distinct_append xs ys a.1 b (share_rest x xs ys e))

pub distinct_left : (xs ys : List Text) → AreDistinct (xs ++ ys) → AreDistinct xs
unfolding IsDistinct
distinct_left [] ys a = tt
distinct_left (x ∷ xs) ys a = (each-left (λ y. bytes_eq x y ≡ false) xs ys a.0, distinct_left xs ys a.1)

pub distinct_right : (xs ys : List Text) → AreDistinct (xs ++ ys) → AreDistinct ys
unfolding IsDistinct
distinct_right [] ys a = a
distinct_right (x ∷ xs) ys a = distinct_right xs ys a.1

pub distinct_apart : (xs ys : List Text) → AreDistinct (xs ++ ys) → share ys xs ≡ false
unfolding IsDistinct
distinct_apart [] ys a = share_none ys
distinct_apart (x ∷ xs) ys a = share_more x xs ys (each-right (λ y. bytes_eq x y ≡ false) xs ys a.0) (distinct_apart xs ys a.1)

-- ---- the names of one entry

pub none_distinct : AreDistinct []
unfolding IsDistinct
none_distinct = tt

pub one_distinct : (w : Text) → AreDistinct (w ∷ [])
unfolding IsDistinct
one_distinct w = (tt, tt)

pub two_distinct : (v w : Text) → bytes_eq v w ≡ false → AreDistinct (v ∷ w ∷ [])
unfolding IsDistinct
two_distinct v w e = ((e, tt), (tt, tt))

three_distinct : (u v w : Text) → bytes_eq u v ≡ false → bytes_eq u w ≡ false → bytes_eq v w ≡ false → AreDistinct (u ∷ v ∷ w ∷ [])
unfolding IsDistinct
three_distinct u v w e f g = ((e, (f, tt)), two_distinct v w g)

-- a name with more behind it is another
longer : (w more : Text) → 0 < length more → bytes_eq w (w ++ more) ≡ false
longer w more some = other_text w (w ++ more) (λ e. let same : length w ≡ length (w ++ more) = ap length e in omega (arith, length-append w more))

digits_differ : codes "_1" ≡ codes "_2" → ⊥
digits_differ e = let other : get_or (codes "_1") 1 0 ≡ get_or (codes "_2") 1 0 = ap (λ (ws : List ℕ). get_or ws 1 0) e in omega arith

suffixes_differ : (w : Text) → bytes_eq (w ++ codes "_1") (w ++ codes "_2") ≡ false
suffixes_differ w = other_text (w ++ codes "_1") (w ++ codes "_2") (λ e. let same : codes "_1" ≡ codes "_2" = append_cancel_left w (codes "_1") (codes "_2") e in digits_differ same)

levels_distinct : (two : Bool) (symbol : Text) → AreDistinct (if two then suffixed symbol else symbol ∷ [])
levels_distinct true symbol = two_distinct (symbol ++ codes "_1") (symbol ++ codes "_2") (suffixes_differ symbol)
levels_distinct false symbol = one_distinct symbol

variables_distinct : (two : Bool) (name : Text) → AreDistinct (name ∷ (if two then suffixed name else []))
variables_distinct true name = three_distinct name (name ++ codes "_1") (name ++ codes "_2") (longer name (codes "_1") (omega arith)) (longer name (codes "_2") (omega arith)) (suffixes_differ name)
variables_distinct false name = one_distinct name

pub own_taken : (e : Entry) → AreDistinct (taken_by e)
own_taken (State kind symbol dims levels stagger io dname description units) = variables_distinct (is_two levels) symbol
own_taken (Dimspec letter how axis dataset) = none_distinct
own_taken (Rconfig kind symbol how entries default) = none_distinct
own_taken (Package name symbol value list) = none_distinct
own_taken (Halo name groups) = none_distinct
own_taken (Period name groups) = none_distinct

integer_variables : (integer : Bool) (symbol levels dname : Text) → AreDistinct (if integer then variables_of symbol levels dname else [])
integer_variables true symbol levels dname = variables_distinct (is_two levels) (variable_of symbol dname)
integer_variables false symbol levels dname = none_distinct

kind_distinct : (same : Bool) (name : Text) → AreDistinct (if same then name ∷ [] else [])
kind_distinct true name = one_distinct name
kind_distinct false name = none_distinct

pub own_name : (kind : Kind) (e : Entry) → AreDistinct (names_of_kind kind e)
own_name kind e = kind_distinct (same_kind kind (entry_name e).0) (entry_name e).1

pub own_levels : (e : Entry) → AreDistinct (entry_levels e)
own_levels (State kind symbol dims levels stagger io dname description units) = levels_distinct (is_two levels) symbol
own_levels (Dimspec letter how axis dataset) = none_distinct
own_levels (Rconfig kind symbol how entries default) = none_distinct
own_levels (Package name symbol value list) = none_distinct
own_levels (Halo name groups) = none_distinct
own_levels (Period name groups) = none_distinct

pub own_variables : (e : Entry) → AreDistinct (entry_variables e)
own_variables (State kind symbol dims levels stagger io dname description units) = integer_variables (is_integer kind) symbol levels dname
own_variables (Dimspec letter how axis dataset) = none_distinct
own_variables (Rconfig kind symbol how entries default) = none_distinct
own_variables (Package name symbol value list) = none_distinct
own_variables (Halo name groups) = none_distinct
own_variables (Period name groups) = none_distinct

pub own_datasets : (e : Entry) → AreDistinct (entry_datasets e)
own_datasets (Dimspec letter how axis dataset) = two_distinct dataset (staggered dataset) (longer dataset (codes "_stag") (omega arith))
own_datasets (State kind symbol dims levels stagger io dname description units) = none_distinct
own_datasets (Rconfig kind symbol how entries default) = none_distinct
own_datasets (Package name symbol value list) = none_distinct
own_datasets (Halo name groups) = none_distinct
own_datasets (Period name groups) = none_distinct

-- ---- fewer names

share_behind : (xs ys zs : List Text) → share (xs ++ ys) zs ≡ false → share ys zs ≡ false
share_behind [] ys zs e = e
share_behind (x ∷ xs) ys zs e = share_behind xs ys zs (or_parts (is_among x zs) (share (xs ++ ys) zs) e).1

-- without those in the middle
pub distinct_without : (xs ys zs : List Text) → AreDistinct (xs ++ (ys ++ zs)) → AreDistinct (xs ++ zs)
distinct_without xs ys zs a =
    distinct_append xs zs (distinct_left xs (ys ++ zs) a) (distinct_right ys zs (distinct_right xs (ys ++ zs) a)) (share_behind ys zs xs (distinct_apart xs (ys ++ zs) a))

-- of the entries that are kept
pub distinct_kept : {X : Type 0} (names : X → List Text) (p : X → Bool) (ahead : List Text) (xs : List X) → AreDistinct (ahead ++ flat_map names xs) → AreDistinct (ahead ++ flat_map names (filter p xs))
distinct_kept names p ahead [] a = a
distinct_kept names p ahead (x ∷ xs) a =
    let parted : AreDistinct (ahead ++ (names x ++ flat_map names xs)) = subst (λ ns. AreDistinct (ahead ++ ns)) (flat_map-cons names x xs) a in
    let more : AreDistinct ((ahead ++ names x) ++ flat_map names xs) = subst (λ ns. AreDistinct ns) (sym (append_assoc ahead (names x) (flat_map names xs))) parted in
    by (p x) (distinct_kept names p (ahead ++ names x) xs more) (distinct_kept names p ahead xs (distinct_without ahead (names x) (flat_map names xs) parted))
  where
    by : (b : Bool) → AreDistinct ((ahead ++ names x) ++ flat_map names (filter p xs)) → AreDistinct (ahead ++ flat_map names (filter p xs)) → AreDistinct (ahead ++ flat_map names (cond b (x ∷ filter p xs) (filter p xs)))
    by true kept left = subst (λ ns. AreDistinct ns) (append_assoc ahead (names x) (flat_map names (filter p xs)) ∙ ap (λ ns. ahead ++ ns) (sym (flat_map-cons names x (filter p xs)))) kept
    by false kept left = left
