-- Lists made of the numbers of a range, one more number at a time.
use Rattle.std.proofs.Common.{◌≡◌, ℕ, zero, suc, ◌+◌, ◌-◌, ◌≤◌, Bool, true, false, List, [], ◌∷◌, ◌++◌, map, refl, sym, ap, ◌∙◌, append_assoc, arith}
use Rattle.std.proofs.lemmas.List.{append-nil}
use Rattle.std.specs.Prelude.{flat_map, filter, if◌then◌else◌, ◌&&◌}
use Rattle.std.specs.List.{range_with_len}

grown : {A : Type 0} (f : ℕ → List A) (a n j : ℕ) → a + n ≡ j → flat_map f (range_with_len a (suc n)) ≡ flat_map f (range_with_len a n) ++ f j
grown f a zero j at =
    let same : a ≡ j = omega (arith, at) in
    append-nil (f a) ∙ ap f same
grown f a (suc n) j at =
    let next : a + 1 + n ≡ j = omega (arith, at) in
    ap (λ ys. f a ++ ys) (grown f (a + 1) n j next) ∙ sym (append_assoc (f a) (flat_map f (range_with_len (a + 1) n)) (f j))

-- one number more
pub parts_more : {A : Type 0} (f : ℕ → List A) (a n j : ℕ) → a + n ≡ j → flat_map f (range_with_len a (n + 1)) ≡ flat_map f (range_with_len a n) ++ f j
parts_more f a n j at =
    let next : n + 1 ≡ suc n = omega arith in
    ap (λ k. flat_map f (range_with_len a k)) next ∙ grown f a n j at

-- the numbers from 1 up to below one, and that one
pub parts_from_one : {A : Type 0} (f : ℕ → List A) (j : ℕ) → 1 ≤ j → flat_map f (range_with_len 1 (j + 1 - 1)) ≡ flat_map f (range_with_len 1 (j - 1)) ++ f j
parts_from_one f j some =
    let next : j + 1 - 1 ≡ suc (j - 1) = omega arith in
    ap (λ k. flat_map f (range_with_len 1 k)) next ∙ grown f 1 (j - 1) j (omega arith)

one_kept : {X Y : Type 0} (b : Bool) (f : X → Y) (x : X) (rest : List X) (parts : List Y) → map f rest ≡ parts
    → map f (if b then x ∷ rest else rest) ≡ (if b then f x ∷ [] else []) ++ parts
one_kept true f x rest parts same = ap (λ ys. f x ∷ ys) same
one_kept false f x rest parts same = same

-- what a test picks is what each number has by itself
pub picked_is : {X Y : Type 0} (p : X → Bool) (f : X → Y) (xs : List X) → map f (filter p xs) ≡ flat_map (λ x. if p x then f x ∷ [] else []) xs
picked_is p f [] = refl
picked_is p f (x ∷ xs) = one_kept (p x) f x (filter p xs) (flat_map (λ x. if p x then f x ∷ [] else []) xs) (picked_is p f xs)

-- of those that a test picks, one number more
pub picked_more : {Y : Type 0} (p : ℕ → Bool) (f : ℕ → Y) (n : ℕ) → map f (filter p (range_with_len 0 (n + 1))) ≡ map f (filter p (range_with_len 0 n)) ++ (if p n then f n ∷ [] else [])
picked_more p f n =
    picked_is p f (range_with_len 0 (n + 1)) ∙ parts_more (λ x. if p x then f x ∷ [] else []) 0 n n (omega arith)
    ∙ ap (λ ys. ys ++ (if p n then f n ∷ [] else [])) (sym (picked_is p f (range_with_len 0 n)))

-- the same of the numbers from 1 on
pub picked_from_one : {Y : Type 0} (p : ℕ → Bool) (f : ℕ → Y) (j : ℕ) → 1 ≤ j → map f (filter p (range_with_len 1 (j + 1 - 1))) ≡ map f (filter p (range_with_len 1 (j - 1))) ++ (if p j then f j ∷ [] else [])
picked_from_one p f j some =
    picked_is p f (range_with_len 1 (j + 1 - 1)) ∙ parts_from_one (λ x. if p x then f x ∷ [] else []) j some
    ∙ ap (λ ys. ys ++ (if p j then f j ∷ [] else [])) (sym (picked_is p f (range_with_len 1 (j - 1))))

-- all numbers from 1 on
pub all_from_one : {A : Type 0} (g : List ℕ → List A) (end n : ℕ) → end ≡ n + 1 → g (range_with_len 1 (end - 1)) ≡ g (range_with_len 1 n)
all_from_one g end n is =
    let count : end - 1 ≡ n = omega (arith, is) in
    ap (λ k. g (range_with_len 1 k)) count

two_tests : {X A : Type 0} (q p : Bool) (f : X → List A) (inner : X → Bool) (x : X) (rest : List X) (parts : List A) → inner x ≡ p → flat_map f (filter inner rest) ≡ parts
    → flat_map f (filter inner (if q then x ∷ rest else rest)) ≡ (if q && p then f x else []) ++ parts
two_tests false p f inner x rest parts is same = same
two_tests true true f inner x rest parts is same = (λ i. flat_map f (if is i then x ∷ filter inner rest else filter inner rest)) ∙ ap (λ ys. f x ++ ys) same
two_tests true false f inner x rest parts is same = (λ i. flat_map f (if is i then x ∷ filter inner rest else filter inner rest)) ∙ same

-- lists of those that two tests pick
pub twice_picked : {X A : Type 0} (f : X → List A) (p q : X → Bool) (xs : List X) → flat_map f (filter p (filter q xs)) ≡ flat_map (λ x. if q x && p x then f x else []) xs
twice_picked f p q [] = refl
twice_picked f p q (x ∷ xs) = two_tests (q x) (p x) f p x (filter q xs) (flat_map (λ x. if q x && p x then f x else []) xs) refl (twice_picked f p q xs)

-- ---- what a loop has added

-- a part more behind what was added
pub added : {A : Type 0} (start done part whole items new : List A) → items ≡ start ++ done → new ≡ items ++ part → whole ≡ done ++ part → new ≡ start ++ whole
added start done part whole items new before now is =
    now ∙ ap (λ ys. ys ++ part) before ∙ append_assoc start done part ∙ ap (λ ys. start ++ ys) (sym is)

-- one number more, if it is picked
pub added_if : {Y : Type 0} (p : ℕ → Bool) (f : ℕ → Y) (n : ℕ) (wanted : Bool) (y : Y) (start items new : List Y) → wanted ≡ p n → y ≡ f n
    → items ≡ start ++ map f (filter p (range_with_len 0 n)) → new ≡ items ++ (if wanted then y ∷ [] else []) → new ≡ start ++ map f (filter p (range_with_len 0 (n + 1)))
added_if p f n wanted y start items new test is before now =
    added start (map f (filter p (range_with_len 0 n))) (if p n then f n ∷ [] else []) (map f (filter p (range_with_len 0 (n + 1)))) items new before
    (now ∙ (λ i. items ++ (if test i then is i ∷ [] else []))) (picked_more p f n)

-- the same of the numbers from 1 on
pub added_if_from_one : {Y : Type 0} (p : ℕ → Bool) (f : ℕ → Y) (n : ℕ) (wanted : Bool) (y : Y) (start items new : List Y) → 1 ≤ n → wanted ≡ p n → y ≡ f n
    → items ≡ start ++ map f (filter p (range_with_len 1 (n - 1))) → new ≡ items ++ (if wanted then y ∷ [] else []) → new ≡ start ++ map f (filter p (range_with_len 1 (n + 1 - 1)))
added_if_from_one p f n wanted y start items new some test is before now =
    added start (map f (filter p (range_with_len 1 (n - 1)))) (if p n then f n ∷ [] else []) (map f (filter p (range_with_len 1 (n + 1 - 1)))) items new before
    (now ∙ (λ i. items ++ (if test i then is i ∷ [] else []))) (picked_from_one p f n some)

-- nothing is added where one of two tests fails
pub none_if : {A : Type 0} (w : Bool) (items part : List A) → w ≡ false → items ≡ items ++ (if w then part else [])
none_if w items part fails = sym (append-nil items) ∙ ap (λ (b : Bool). items ++ (if b then part else [])) (sym fails)

either : {A : Type 0} (w : Bool) → ◌≡◌ {A = List A} (if w then [] else []) []
either true = refl
either false = refl

pub none_if_inner : {A : Type 0} (w v : Bool) (items part : List A) → v ≡ false → items ≡ items ++ (if w then (if v then part else []) else [])
none_if_inner w v items part fails =
    sym (append-nil items) ∙ ap (λ ys. items ++ ys) (sym (either w)) ∙ ap (λ (b : Bool). items ++ (if w then (if b then part else []) else [])) (sym fails)
