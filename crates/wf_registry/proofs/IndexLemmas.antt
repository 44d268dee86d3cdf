-- What an index has of its entries.
use Rattle.std.proofs.Common.{◌≡◌, ◌∙◌, sym, ap, ap₂, refl, ℕ, Bool, true, false, List, [], ◌∷◌, ◌++◌}
use Rattle.std.specs.Prelude.{◌||◌, ◌&&◌, flat_map, if◌then◌else◌}
use Rattle.std.specs.Global.{Vec}
use Rattle.std.specs.List.{list_any}
use Rattle.std.specs.Str.{bytes_eq}
use Rattle.std.proofs.lemmas.List.Folds.{list_any-append}
use Rattle.std.proofs.lemmas.List.{append-nil, map-append}
use Rattle.std.proofs.lemmas.Grind.{flat_map-append}
use Rattle.std.proofs.lemmas.Slice.Eq.{bytes_eq-Decides}
use Rattle.wf_model.specs.declared.registry.Entry.{Entry}
use Rattle.wf_model.specs.Letters.{Text, is_among}
use Rattle.wf_model.specs.Entries.{Kind, same_kind, entry_name, is_entry, declares}
use Rattle.wf_registry_columns.specs.Texts.{texts}
use Rattle.wf_registry.specs.Adding.{Adds}
use Rattle.wf_registry.specs.Indexing.{SameNames, names_of}

-- ---- a set of names

pub among-texts : (w : Text) (ks : List (Vec ℕ)) → list_any (λ (k : Vec ℕ). bytes_eq w k.items) ks ≡ is_among w (texts ks)
among-texts w [] = refl
among-texts w (k ∷ ks) = ap (λ b. bytes_eq w k.items || b) (among-texts w ks)

pub or-false : (b : Bool) → b ≡ (b || false)
or-false true = refl
or-false false = refl

covered : (a b : Bool) → (b ≡ true → a ≡ true) → a ≡ (a || (b || false))
covered true b h = refl
covered false true h = h refl
covered false false h = refl

texts-push : (xs : List (Vec ℕ)) (x : Vec ℕ) → texts (xs ++ x ∷ []) ≡ texts xs ++ x.items ∷ []
texts-push xs x = map-append (λ (v : Vec ℕ). v.items) xs (x ∷ [])

-- a name is put behind the others, where it isn't there
pub inserted : (ks : List (Vec ℕ)) (k : Vec ℕ) → Adds (texts ks) (texts (if list_any (λ (x : Vec ℕ). bytes_eq k.items x.items) ks then ks else ks ++ k ∷ [])) (k.items ∷ [])
inserted ks k w = by (list_any (λ (x : Vec ℕ). bytes_eq k.items x.items) ks) refl
  where
    same : bytes_eq w k.items ≡ true → list_any (λ (x : Vec ℕ). bytes_eq k.items x.items) ks ≡ true → is_among w (texts ks) ≡ true
    same e there = ap (λ v. is_among v (texts ks)) ((bytes_eq-Decides w k.items).0 e) ∙ sym (among-texts k.items ks) ∙ there

    by : (t : Bool) → list_any (λ (x : Vec ℕ). bytes_eq k.items x.items) ks ≡ t
        → is_among w (texts (if t then ks else ks ++ k ∷ [])) ≡ (is_among w (texts ks) || is_among w (k.items ∷ []))
    by true there = covered (is_among w (texts ks)) (bytes_eq w k.items) (λ e. same e there)
    by false absent = ap (is_among w) (texts-push ks k) ∙ list_any-append (bytes_eq w) (texts ks) (k.items ∷ [])

-- ---- names of a kind

named : (kind : Kind) (w : Text) (e : Entry) → is_entry kind w e ≡ is_among w (names_of kind e)
named kind w e = by (same_kind kind (entry_name e).0)
  where
    by : (t : Bool) → (t && bytes_eq w (entry_name e).1) ≡ is_among w (if t then (entry_name e).1 ∷ [] else [])
    by true = or-false (bytes_eq w (entry_name e).1)
    by false = refl

pub declares_is : (kind : Kind) (w : Text) (es : List Entry) → declares kind w es ≡ is_among w (flat_map (names_of kind) es)
declares_is kind w [] = refl
declares_is kind w (e ∷ es) =
    ap₂ (λ a b. a || b) (named kind w e) (declares_is kind w es) ∙ sym (list_any-append (bytes_eq w) (names_of kind e) (flat_map (names_of kind) es))

-- ---- adding

pub adds_none : (old : List Text) → Adds old old []
adds_none old w = or-false (is_among w old)

-- the names that were there before are the same words
pub same_adds : (old between new added : List Text) → SameNames old between → Adds between new added → Adds old new added
same_adds old between new added same adds w = adds w ∙ ap (λ t. t || is_among w added) (sym (same w))

-- the names that there are afterwards are the same words
pub adds_same : (old between new added : List Text) → Adds old between added → SameNames between new → Adds old new added
adds_same old between new added adds same w = sym (same w) ∙ adds w

or-assoc : (a b c : Bool) → ((a || (b || false)) || (c || false)) ≡ (a || (b || (c || false)))
or-assoc true b c = refl
or-assoc false true c = refl
or-assoc false false c = refl

-- one word and then another
pub adds_two : (old between new : List Text) (a b : Text) → Adds old between (a ∷ []) → Adds between new (b ∷ []) → Adds old new (a ∷ b ∷ [])
adds_two old between new a b first second w =
    second w ∙ ap (λ t. t || (bytes_eq w b || false)) (first w) ∙ or-assoc (is_among w old) (bytes_eq w a) (bytes_eq w b)

-- an index of one entry more
pub indexes_more : (f : Entry → List Text) (old new : List Text) (es : List Entry) (e : Entry) → SameNames old (flat_map f es) → Adds old new (f e) → SameNames new (flat_map f (es ++ e ∷ []))
indexes_more f old new es e same added w =
    added w ∙ ap (λ t. t || is_among w (f e)) (same w)
    ∙ sym (list_any-append (bytes_eq w) (flat_map f es) (f e))
    ∙ ap (is_among w) (ap (λ t. flat_map f es ++ t) (sym (append-nil (f e))) ∙ sym (flat_map-append f es (e ∷ [])))
