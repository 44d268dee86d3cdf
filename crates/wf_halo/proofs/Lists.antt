-- Lists that are filtered, joined and mapped.
use Rattle.std.proofs.Common.{◌≡◌, ℕ, zero, suc, ◌+◌, Bool, true, false, List, [], ◌∷◌, ◌++◌, inl, inr, map, flat_map, refl, ap, ap₂, ◌∙◌, arith}
use Rattle.std.specs.Prelude.{filter, ◌&&◌, if◌then◌else◌}
use Rattle.std.specs.List.{range_with_len}
use Rattle.wf_laws.proofs.Members.{In}

-- a list, and nothing behind it
pub alone : {X : Type 0} (xs : List X) → xs ++ [] ≡ xs
alone [] = refl
alone (x ∷ xs) = ap (λ ys. x ∷ ys) (alone xs)

pub filter-append : {X : Type 0} (p : X → Bool) (xs ys : List X) → filter p (xs ++ ys) ≡ filter p xs ++ filter p ys
filter-append p [] ys = refl
filter-append p (x ∷ xs) ys = by (p x) (filter-append p xs ys)
  where
    by : (b : Bool) → filter p (xs ++ ys) ≡ filter p xs ++ filter p ys → (if b then x ∷ filter p (xs ++ ys) else filter p (xs ++ ys)) ≡ (if b then x ∷ filter p xs else filter p xs) ++ filter p ys
    by true e = ap (λ zs. x ∷ zs) e
    by false e = e

pub filter-flat_map : {X Y : Type 0} (p : Y → Bool) (f : X → List Y) (xs : List X) → filter p (flat_map f xs) ≡ flat_map (λ x. filter p (f x)) xs
filter-flat_map p f [] = refl
filter-flat_map p f (x ∷ xs) = filter-append p (f x) (flat_map f xs) ∙ ap (λ ys. filter p (f x) ++ ys) (filter-flat_map p f xs)

pub flat_map-map : {X Y Z : Type 0} (f : Y → List Z) (g : X → Y) (xs : List X) → flat_map f (map g xs) ≡ flat_map (λ x. f (g x)) xs
flat_map-map f g [] = refl
flat_map-map f g (x ∷ xs) = ap (λ ys. f (g x) ++ ys) (flat_map-map f g xs)

pub map-map : {X Y Z : Type 0} (f : Y → Z) (g : X → Y) (xs : List X) → map f (map g xs) ≡ map (λ x. f (g x)) xs
map-map f g [] = refl
map-map f g (x ∷ xs) = ap (λ ys. f (g x) ∷ ys) (map-map f g xs)

-- a range begun one further on
pub flat_up : {X : Type 0} (f : ℕ → List X) (b n : ℕ) → flat_map f (range_with_len (1 + b) n) ≡ flat_map (λ a. f (1 + a)) (range_with_len b n)
flat_up f b zero = refl
flat_up f b (suc n) =
    let e : 1 + b + 1 ≡ 1 + (b + 1) = omega arith in
    ap (λ m. f (1 + b) ++ flat_map f (range_with_len m n)) e ∙ ap (λ ys. f (1 + b) ++ ys) (flat_up f (b + 1) n)

pub filter-same : {X : Type 0} (p q : X → Bool) (xs : List X) → ((x : X) → In x xs → p x ≡ q x) → filter p xs ≡ filter q xs
filter-same p q [] h = refl
filter-same p q (x ∷ xs) h =
    (λ n. if h x (inl refl) n then x ∷ filter p xs else filter p xs)
    ∙ ap (λ ys. if q x then x ∷ ys else ys) (filter-same p q xs (λ y at. h y (inr at)))

pub filter-filter : {X : Type 0} (p q : X → Bool) (xs : List X) → filter p (filter q xs) ≡ filter (λ x. q x && p x) xs
filter-filter p q [] = refl
filter-filter p q (x ∷ xs) = by (q x) (p x) refl (filter-filter p q xs)
  where
    by : (b c : Bool) → p x ≡ c → filter p (filter q xs) ≡ filter (λ x. q x && p x) xs → filter p (if b then x ∷ filter q xs else filter q xs) ≡ (if b && c then x ∷ filter (λ x. q x && p x) xs else filter (λ x. q x && p x) xs)
    by true c e h = ap (λ (t : Bool). if t then x ∷ filter p (filter q xs) else filter p (filter q xs)) e ∙ ap (λ ys. if c then x ∷ ys else ys) h
    by false c e h = h

-- the numbers of a range, and as many more
pub map_join : {X : Type 0} (f : ℕ → X) (a m n : ℕ) → map f (range_with_len a (m + n)) ≡ map f (range_with_len a m) ++ map f (range_with_len (a + m) n)
map_join f a zero n =
    let e : zero + n ≡ n = omega arith in
    let z : a ≡ a + zero = omega arith in
    ap (λ x. map f (range_with_len a x)) e ∙ ap (λ x. map f (range_with_len x n)) z
map_join f a (suc m) n =
    let e : suc m + n ≡ suc (m + n) = omega arith in
    let z : a + 1 + m ≡ a + suc m = omega arith in
    ap (λ x. map f (range_with_len a x)) e
    ∙ ap (λ xs. f a ∷ xs) (map_join f (a + 1) m n)
    ∙ ap (λ x. f a ∷ (map f (range_with_len (a + 1) m) ++ map f (range_with_len x n))) z

-- a range begun further on
pub map_moved : {X : Type 0} (f : ℕ → X) (a b n : ℕ) → map f (range_with_len (a + b) n) ≡ map (λ x. f (a + x)) (range_with_len b n)
map_moved f a b zero = refl
map_moved f a b (suc n) = let e : a + b + 1 ≡ a + (b + 1) = omega arith in ap (λ x. f (a + b) ∷ map f (range_with_len x n)) e ∙ ap (λ xs. f (a + b) ∷ xs) (map_moved f a (b + 1) n)

pub flat_map-none : {X Y : Type 0} (f : X → List Y) (xs : List X) → ((x : X) → In x xs → f x ≡ []) → flat_map f xs ≡ []
flat_map-none f [] h = refl
flat_map-none f (x ∷ xs) h = ap₂ (λ ys zs. ys ++ zs) (h x (inl refl)) (flat_map-none f xs (λ y t. h y (inr t)))

-- a filter, item by item
pub filter-each : {X : Type 0} (p : X → Bool) (xs : List X) → filter p xs ≡ flat_map (λ x. if p x then x ∷ [] else []) xs
filter-each p [] = refl
filter-each p (x ∷ xs) = by (p x) (filter-each p xs)
  where
    by : (b : Bool) → filter p xs ≡ flat_map (λ y. if p y then y ∷ [] else []) xs → (if b then x ∷ filter p xs else filter p xs) ≡ (if b then x ∷ [] else []) ++ flat_map (λ y. if p y then y ∷ [] else []) xs
    by true e = ap (λ zs. x ∷ zs) e
    by false e = e
