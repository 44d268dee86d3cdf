-- What is found in a list that another one is seen as.
use Rattle.std.proofs.Common.{◌≡◌, Bool, true, false, cond, List, [], ◌∷◌, map, Option, Some, refl, ap}
use Rattle.std.specs.List.{find, filter}
use Rattle.std.specs.Option.{option_map}

found_or : {A B : Type 0} (f : A → B) (b : Bool) (x : A) (r : Option B) (s : Option A) → r ≡ option_map f s → cond b (Some (f x)) r ≡ option_map f (cond b (Some x) s)
found_or f true x r s e = refl
found_or f false x r s e = e

pub find_map : {A B : Type 0} (p : B → Bool) (f : A → B) (xs : List A) → find p (map f xs) ≡ option_map f (find (λ x. p (f x)) xs)
find_map p f [] = refl
find_map p f (x ∷ xs) = found_or f (p (f x)) x (find p (map f xs)) (find (λ y. p (f y)) xs) (find_map p f xs)

kept_or : {A B : Type 0} (f : A → B) (b : Bool) (x : A) (ys : List A) (zs : List B) → map f ys ≡ zs → map f (cond b (x ∷ ys) ys) ≡ cond b (f x ∷ zs) zs
kept_or f true x ys zs e = ap (λ r. f x ∷ r) e
kept_or f false x ys zs e = e

pub filter_map_view : {A B : Type 0} (p : B → Bool) (f : A → B) (xs : List A) → map f (filter (λ x. p (f x)) xs) ≡ filter p (map f xs)
filter_map_view p f [] = refl
filter_map_view p f (x ∷ xs) = kept_or f (p (f x)) x (filter (λ y. p (f y)) xs) (filter p (map f xs)) (filter_map_view p f xs)
