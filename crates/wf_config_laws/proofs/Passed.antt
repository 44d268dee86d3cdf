-- What is known where no test of a list fails.
use Rattle.std.proofs.Common.{◌≡◌, ℕ, zero, suc, ◌+◌, ◌-◌, ◌<◌, ◌≤◌, Bool, true, false, cond, ◌&&◌, ◌||◌, List, [], ◌∷◌, ◌++◌, map, length, Option, Some, None, Ok, find, filter, filter_map, option_map, refl, sym, ap, ◌∙◌, arith}
use Rattle.std.specs.Prelude.{slice_get}
use Rattle.std.specs.List.{cons_option, enumerate_from, list_all, list_any, range_with_len}
use Rattle.std.specs.Option.{option_or}
use Rattle.wf_model.specs.Reading.{fault_if, first_fault, unless_fault}
use Rattle.wf_model.proofs.ReadingLemmas.{first_fault-append}

pub none : {X : Type 0} (x : X) → (let o : Option X = None in o) ≡ Some x → ⊥
none x e = cc

pub same : {X : Type 0} (x y : X) → (let o : Option X = Some x in o) ≡ Some y → x ≡ y
same x y e = cc

-- ---- tests

pub neither : {F : Type 0} (f g : Option F) → option_or f g ≡ None → (f ≡ None) × (g ≡ None)
neither None g e = (refl, e)
neither (Some f) g e = absurd (none f (sym e))

pub both_passed : {F : Type 0} (xs ys : List (Option F)) → first_fault (xs ++ ys) ≡ None → (first_fault xs ≡ None) × (first_fault ys ≡ None)
both_passed xs ys e = neither (first_fault xs) (first_fault ys) (sym (first_fault-append xs ys) ∙ e)

pub passed_if : {F : Type 0} (b : Bool) (f : F) → fault_if b f ≡ None → b ≡ false
passed_if true f e = absurd (none f (sym e))
passed_if false f e = refl

-- what no fault stops is given
pub given_up : {A F : Type 0} (o : Option F) (a b : A) → unless_fault o a ≡ Ok b → (o ≡ None) × (a ≡ b)
given_up None a b e = (refl, cc)
given_up (Some f) a b e = cc

-- the test of an item
pub passed_at : {A F : Type 0} (f : A → Option F) (xs : List A) (k : ℕ) (x : A) → first_fault (map f xs) ≡ None → slice_get xs k ≡ Some x → f x ≡ None
passed_at f [] k x e at = absurd (none x at)
passed_at f (y ∷ xs) zero x e at = ap f (sym (same y x at)) ∙ (neither (f y) (first_fault (map f xs)) e).0
passed_at f (y ∷ xs) (suc k) x e at = passed_at f xs k x (neither (f y) (first_fault (map f xs)) e).1 at

-- what passes a test, by the first item or by what follows it
pub first_or_later : {A : Type 0} {P : Type 0} (b : Bool) (x y : A) (later : Option A) → cond b (Some y) later ≡ Some x → (b ≡ true → y ≡ x → P) → (later ≡ Some x → P) → P
first_or_later true x y later at here there = here refl (same y x at)
first_or_later false x y later at here there = there at

-- of what is found
pub passed_found : {A F : Type 0} (f : A → Option F) (p : A → Bool) (xs : List A) (x : A) → first_fault (map f xs) ≡ None → find p xs ≡ Some x → f x ≡ None
passed_found f p [] x e at = absurd (none x at)
passed_found f p (y ∷ xs) x e at =
    let parts = neither (f y) (first_fault (map f xs)) e in
    first_or_later (p y) x y (find p xs) at (λ passes is. ap f (sym is) ∙ parts.0) (passed_found f p xs x parts.1)

-- of a number of a range
pub passed_range : {F : Type 0} (f : ℕ → Option F) (a n k : ℕ) → first_fault (map f (range_with_len a n)) ≡ None → k < n → f (a + k) ≡ None
passed_range f a zero k e h = absurd (omega (arith, h))
passed_range f a (suc n) zero e h = ap f (omega arith) ∙ (neither (f a) (first_fault (map f (range_with_len (a + 1) n))) e).0
passed_range f a (suc n) (suc k) e h =
    ap f (omega arith) ∙ passed_range f (a + 1) n k (neither (f a) (first_fault (map f (range_with_len (a + 1) n))) e).1 (omega (arith, h))

-- of an item that is kept
kept_first : {A F : Type 0} (f : A → Option F) (b : Bool) (x : A) (xs : List A) → b ≡ true → first_fault (map f (cond b (x ∷ xs) xs)) ≡ None → f x ≡ None
kept_first f true x xs is e = (neither (f x) (first_fault (map f xs)) e).0
kept_first f false x xs is e = cc

kept_later : {A F : Type 0} (f : A → Option F) (b : Bool) (x : A) (xs : List A) → first_fault (map f (cond b (x ∷ xs) xs)) ≡ None → first_fault (map f xs) ≡ None
kept_later f true x xs e = (neither (f x) (first_fault (map f xs)) e).1
kept_later f false x xs e = e

abbrev numbered : {A : Type 0} → ℕ → A → ℕ × A
numbered n x = (n, x)

-- of an item that is judged, with its number
pub passed_judged : {A F : Type 0} (f : ℕ × A → Option F) (p : ℕ × A → Bool) (n k m : ℕ) (xs : List A) (x : A)
    → first_fault (map f (filter p (enumerate_from n xs))) ≡ None → slice_get xs k ≡ Some x → n + k ≡ m → p (m, x) ≡ true → f (m, x) ≡ None
passed_judged f p n k m [] x e at is judged = absurd (none x at)
passed_judged f p n zero m (y ∷ xs) x e at is judged =
    let pair : numbered n y ≡ numbered m x = ap (λ m. numbered m y) (omega (arith, is)) ∙ ap (numbered m) (same y x at) in
    ap f (sym pair) ∙ kept_first f (p (n, y)) (n, y) (filter p (enumerate_from (n + 1) xs)) (ap p pair ∙ judged) e
passed_judged f p n (suc k) m (y ∷ xs) x e at is judged =
    passed_judged f p (n + 1) k m xs x (kept_later f (p (n, y)) (n, y) (filter p (enumerate_from (n + 1) xs)) e) at (omega (arith, is)) judged

-- ---- what is found

pub find_passes : {A : Type 0} (p : A → Bool) (xs : List A) (x : A) → find p xs ≡ Some x → p x ≡ true
find_passes p [] x at = absurd (none x at)
find_passes p (y ∷ xs) x at = first_or_later (p y) x y (find p xs) at (λ passes is. ap p (sym is) ∙ passes) (find_passes p xs x)

neither_passes : (a b : Bool) → (a || b) ≡ false → (a ≡ false) × (b ≡ false)
neither_passes true b e = cc
neither_passes false b e = (refl, e)

pub both_hold : (a b : Bool) → (a && b) ≡ true → (a ≡ true) × (b ≡ true)
both_hold true b e = (refl, e)
both_hold false b e = cc

-- none of a list passes
pub any_not : {A : Type 0} (q p : A → Bool) (xs : List A) (x : A) → list_any q xs ≡ false → find p xs ≡ Some x → q x ≡ false
any_not q p [] x e at = absurd (none x at)
any_not q p (y ∷ xs) x e at =
    let parts = neither_passes (q y) (list_any q xs) e in
    first_or_later (p y) x y (find p xs) at (λ passes is. ap q (sym is) ∙ parts.0) (any_not q p xs x parts.1)

-- all of a list do
pub all_at : {A : Type 0} (p : A → Bool) (xs : List A) (k : ℕ) (x : A) → list_all p xs ≡ true → slice_get xs k ≡ Some x → p x ≡ true
all_at p [] k x e at = absurd (none x at)
all_at p (y ∷ xs) zero x e at = ap p (sym (same y x at)) ∙ (both_hold (p y) (list_all p xs) e).0
all_at p (y ∷ xs) (suc k) x e at = all_at p xs k x (both_hold (p y) (list_all p xs) e).1 at

-- among what is made of items
pub found_made : {A B : Type 0} (h : A → Option B) (p : B → Bool) (xs : List A) (y : B) → find p (filter_map h xs) ≡ Some y → (x : A) × (h x ≡ Some y)
found_made h p [] y at = absurd (none y at)
found_made h p (x ∷ xs) y at = made (h x) refl at (found_made h p xs y)
  where
    made : (o : Option _) → h x ≡ o → find p (cons_option o (filter_map h xs)) ≡ Some y → (find p (filter_map h xs) ≡ Some y → (x : _) × (h x ≡ Some y)) → (x : _) × (h x ≡ Some y)
    made None is at later = later at
    made (Some z) is at later = first_or_later (p z) y z (find p (filter_map h xs)) at (λ passes e. (x, is ∙ ap (λ z. Some z) e)) later

found_or : {A B : Type 0} (f : A → B) (b : Bool) (x : A) (r : Option B) (s : Option A) → r ≡ option_map f s → cond b (Some (f x)) r ≡ option_map f (cond b (Some x) s)
found_or f true x r s e = refl
found_or f false x r s e = e

-- in a list that another one is seen as
pub find_map : {A B : Type 0} (p : B → Bool) (f : A → B) (xs : List A) → find p (map f xs) ≡ option_map f (find (λ x. p (f x)) xs)
find_map p f [] = refl
find_map p f (x ∷ xs) = found_or f (p (f x)) x (find p (map f xs)) (find (λ y. p (f y)) xs) (find_map p f xs)

front : {A : Type 0} (b : Bool) (x y : A) (found more : Option A) → cond b (Some y) found ≡ Some x → (found ≡ Some x → more ≡ Some x) → cond b (Some y) more ≡ Some x
front true x y found more at later = at
front false x y found more at later = later at

-- what is found in the front is found
pub find_front : {A : Type 0} (p : A → Bool) (xs ys : List A) (x : A) → find p xs ≡ Some x → find p (xs ++ ys) ≡ Some x
find_front p [] ys x at = absurd (none x at)
find_front p (y ∷ xs) ys x at = front (p y) x y (find p xs) (find p (xs ++ ys)) at (find_front p xs ys x)

-- ---- places

-- the k-th that is made of the numbers of a range
pub made_at : {A : Type 0} (g : ℕ → A) (a n k : ℕ) → k < n → slice_get (map g (range_with_len a n)) k ≡ Some (g (a + k))
made_at g a zero k h = absurd (omega (arith, h))
made_at g a (suc n) zero h = ap (λ m. Some (g m)) (omega arith)
made_at g a (suc n) (suc k) h = made_at g (a + 1) n k (omega (arith, h)) ∙ ap (λ m. Some (g m)) (omega arith)

pub at_front : {A : Type 0} (xs ys : List A) (k : ℕ) (x : A) → slice_get xs k ≡ Some x → slice_get (xs ++ ys) k ≡ Some x
at_front [] ys k x at = absurd (none x at)
at_front (y ∷ xs) ys zero x at = at
at_front (y ∷ xs) ys (suc k) x at = at_front xs ys k x at

pub behind_front : {A : Type 0} (xs ys : List A) (k : ℕ) → length xs ≤ k → slice_get (xs ++ ys) k ≡ slice_get ys (k - length xs)
behind_front [] ys k h = ap (slice_get ys) (omega arith)
behind_front (y ∷ xs) ys zero h = absurd (omega (arith, h))
behind_front (y ∷ xs) ys (suc k) h = behind_front xs ys k (omega (arith, h)) ∙ ap (slice_get ys) (omega arith)

-- ---- tests of numbers

pub at_range : (a n k : ℕ) → k < n → slice_get (range_with_len a n) k ≡ Some (a + k)
at_range a zero k h = absurd (omega (arith, h))
at_range a (suc n) zero h = ap (λ m. Some m) (omega arith)
at_range a (suc n) (suc k) h = at_range (a + 1) n k (omega (arith, h)) ∙ ap (λ m. Some m) (omega arith)

-- the test of an item that is kept
pub passed_kept : {A F : Type 0} (f : A → Option F) (p : A → Bool) (xs : List A) (k : ℕ) (x : A)
    → first_fault (map f (filter p xs)) ≡ None → slice_get xs k ≡ Some x → p x ≡ true → f x ≡ None
passed_kept f p [] k x e at keep = absurd (none x at)
passed_kept f p (y ∷ xs) zero x e at keep = ap f (sym (same y x at)) ∙ kept_first f (p y) y (filter p xs) (ap p (same y x at) ∙ keep) e
passed_kept f p (y ∷ xs) (suc k) x e at keep = passed_kept f p xs k x (kept_later f (p y) y (filter p xs) e) at keep
