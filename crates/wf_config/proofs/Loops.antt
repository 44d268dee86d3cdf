-- A loop that makes a list from another, item by item.
use Rattle.std.proofs.Common.{◌≡◌, ℕ, ◌+◌, ◌<◌, ◌≤◌, Bool, true, false, List, [], ◌∷◌, ◌++◌, Option, Some, None, map, length, take, get_or, refl, sym, ap, ap₂, ◌∙◌, append_assoc}
use Rattle.std.specs.List.{cons_option, filter_map, flat_map, list_all, range_with_len}
use Rattle.std.specs.Option.{option_map, option_to_list}
use Rattle.std.proofs.lemmas.Bool.{false≢true}
use Rattle.std.proofs.lemmas.List.{take_all, take_more, map-append}
use Rattle.std.proofs.lemmas.List.FromFn.{map-range_with_len_more}
use Rattle.std.proofs.lemmas.List.Folds.{flat_map-map, list_all_at, list_all-map}
use Rattle.std.proofs.lemmas.List.Elements.{filter_map-append}

pub map_map : {A B C : Type 0} (f : A → B) (g : B → C) (xs : List A) → map g (map f xs) ≡ map (λ x. g (f x)) xs
map_map f g [] = refl
map_map f g (x ∷ xs) = ap (λ r. g (f x) ∷ r) (map_map f g xs)

abbrev option_list : {A : Type 0} → Option A → List A
option_list None = []
option_list (Some x) = x ∷ []

one_more : {B C : Type 0} (h : B → Option C) (x : B) (o : Option C) → h x ≡ o → filter_map h (x ∷ []) ≡ option_list o
one_more h x None e = simp e
one_more h x (Some y) e = simp e

-- an item gives one more, or none
pub filter_map_more : {B C : Type 0} (h : B → Option C) (xs : List B) (i : ℕ) (x : B) (o : Option C)
    → i < length xs → x ≡ get_or xs i x → h x ≡ o → filter_map h (take (i + 1) xs) ≡ filter_map h (take i xs) ++ option_list o
filter_map_more h xs i x o within is gives =
    ap (filter_map h) (take_more xs i x within)
    ∙ filter_map-append h (take i xs) (get_or xs i x ∷ [])
    ∙ ap (λ r. filter_map h (take i xs) ++ r) (one_more h (get_or xs i x) o (ap h (sym is) ∙ gives))

-- ---- a loop's end, where the list that it goes over is seen as another

pub made_all : {A B C V : Type 0} (f : A → C) (g : B → C) (view : V → B) (front : List C) (made : List A) (xs : List V) (ys : List B) (i : ℕ)
    → length xs ≤ i → map view xs ≡ ys → map f made ≡ front ++ map (λ w. g (view w)) (take i xs) → map f made ≡ front ++ map g ys
made_all f g view front made xs ys i end seen so_far =
    so_far ∙ ap (λ zs. front ++ map (λ w. g (view w)) zs) (take_all i xs end) ∙ ap (λ r. front ++ r) (sym (map_map view g xs) ∙ ap (map g) seen)

or_one : {C : Type 0} (o : Option C) (r s : List C) → r ≡ s → cons_option o r ≡ cons_option o s
or_one o r s e = ap (cons_option o) e

pub filter_map_map : {B C V : Type 0} (h : B → Option C) (view : V → B) (xs : List V) → filter_map h (map view xs) ≡ filter_map (λ w. h (view w)) xs
filter_map_map h view [] = refl
filter_map_map h view (x ∷ xs) = or_one (h (view x)) _ _ (filter_map_map h view xs)

pub kept_all : {B C V : Type 0} (h : B → Option C) (view : V → B) (made : List C) (xs : List V) (ys : List B) (i : ℕ)
    → length xs ≤ i → map view xs ≡ ys → made ≡ filter_map (λ w. h (view w)) (take i xs) → made ≡ filter_map h ys
kept_all h view made xs ys i end seen so_far =
    so_far ∙ ap (filter_map (λ w. h (view w))) (take_all i xs end) ∙ sym (filter_map_map h view xs) ∙ ap (filter_map h) seen

pub joined_all : {B C V : Type 0} (g : B → List C) (view : V → B) (front made : List C) (xs : List V) (ys : List B) (i : ℕ)
    → length xs ≤ i → map view xs ≡ ys → made ≡ front ++ flat_map (λ w. g (view w)) (take i xs) → made ≡ front ++ flat_map g ys
joined_all g view front made xs ys i end seen so_far =
    so_far ∙ ap (λ zs. front ++ flat_map (λ w. g (view w)) zs) (take_all i xs end) ∙ ap (λ r. front ++ r) (sym (flat_map-map g view xs) ∙ ap (flat_map g) seen)

-- ---- an item that may be none

as_list : {A C : Type 0} (f : A → C) (o : Option A) → map f (option_to_list o) ≡ option_list (option_map f o)
as_list f None = refl
as_list f (Some a) = refl

pub kept_option : {A B C : Type 0} (f : A → C) (h : B → Option C) (made : List A) (o : Option A) (xs : List B) (i : ℕ) (x : B)
    → i < length xs → x ≡ get_or xs i x → option_map f o ≡ h x → map f made ≡ filter_map h (take i xs)
    → map f (made ++ option_to_list o) ≡ filter_map h (take (i + 1) xs)
kept_option f h made o xs i x within is gives so_far =
    map-append f made (option_to_list o) ∙ ap₂ (λ r s. r ++ s) so_far (as_list f o) ∙ sym (filter_map_more h xs i x (option_map f o) within is (sym gives))

same_list : {C : Type 0} (o : Option C) → option_to_list o ≡ option_list o
same_list None = refl
same_list (Some x) = refl

pub kept_as_it_is : {B C : Type 0} (h : B → Option C) (made : List C) (o : Option C) (xs : List B) (i : ℕ) (x : B)
    → i < length xs → x ≡ get_or xs i x → o ≡ h x → made ≡ filter_map h (take i xs)
    → made ++ option_to_list o ≡ filter_map h (take (i + 1) xs)
kept_as_it_is h made o xs i x within is gives so_far =
    ap₂ (λ r s. r ++ s) so_far (same_list o) ∙ sym (filter_map_more h xs i x o within is (sym gives))

pub kept_at : {B C : Type 0} (h : B → Option C) (made : List C) (o : Option C) (xs : List B) (i : ℕ) (d : B)
    → i < length xs → o ≡ h (get_or xs i d) → made ≡ filter_map h (take i xs)
    → made ++ option_to_list o ≡ filter_map h (take (i + 1) xs)
kept_at h made o xs i d within gives so_far =
    ap₂ (λ r s. r ++ s) so_far (same_list o ∙ sym (one_more h (get_or xs i d) o (sym gives)))
    ∙ sym (filter_map-append h (take i xs) (get_or xs i d ∷ []))
    ∙ ap (filter_map h) (sym (take_more xs i d within))

-- ---- a test that all items pass

true_or_not : (b : Bool) → (b ≡ false → ⊥) → b ≡ true
true_or_not true not_so = refl
true_or_not false not_so = absurd (not_so refl)

pub passes : {B : Type 0} (p : B → Bool) (xs : List B) (i : ℕ) (d : B) → i < length xs → list_all p xs ≡ true → p (get_or xs i d) ≡ true
passes p xs i d within all = true_or_not (p (get_or xs i d)) (λ not_so. false≢true (sym (list_all_at p xs i d within not_so) ∙ all))

pub passes_at : {B V : Type 0} (p : B → Bool) (view : V → B) (ys : List B) (xs : List V) (i : ℕ) (d : V)
    → i < length xs → map view xs ≡ ys → list_all p ys ≡ true → p (view (get_or xs i d)) ≡ true
passes_at p view ys xs i d within seen all =
    passes (λ w. p (view w)) xs i d within (sym (list_all-map p view xs) ∙ ap (list_all p) seen ∙ all)

-- ---- values by number

pub numbered_more : {A : Type 0} (f : ℕ → A) (front made : List A) (v : A) (a n j : ℕ)
    → a + n ≡ j → v ≡ f j → made ≡ front ++ map f (range_with_len a n) → made ++ v ∷ [] ≡ front ++ map f (range_with_len a (n + 1))
numbered_more f front made v a n j next is so_far =
    ap₂ (λ r y. r ++ y ∷ []) so_far is
    ∙ append_assoc front (map f (range_with_len a n)) (f j ∷ [])
    ∙ ap (λ r. front ++ r) (sym (map-range_with_len_more f a n j next))
