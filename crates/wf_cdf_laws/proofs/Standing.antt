-- A text that stands at a place is read to its value, and the place behind it.
use Rattle.std.proofs.Common.{◌≡◌, ℕ, suc, ◌+◌, ◌≤◌, List, [], ◌∷◌, ◌++◌, length, drop, Ok, refl, sym, ap, subst, ◌∙◌, append_assoc, length-append, length-drop, arith}
use Rattle.std.specs.List.{flat_map, AllByRecursion}
use Rattle.std.proofs.lemmas.List.{drop-drop, drop_at}
use Rattle.std.proofs.lemmas.List.Concat.{flat_map-cons}
use Rattle.wf_model.specs.CdfRead.{Reading, then_read, items}

-- a text stands at a place, and a rest behind it
pub record Stands (bytes : List ℕ) (at : ℕ) (text rest : List ℕ) : Type 0 where
  pub within : at ≤ length bytes
  pub parts : drop at bytes ≡ text ++ rest

-- what is read of a text, wherever it stands
abbrev pub ReadsAgain : {A : Type 0} → Reading A → List ℕ → A → Type 0
ReadsAgain read text x = (bytes : List ℕ) (at : ℕ) (rest : List ℕ) → Stands bytes at text rest → read bytes at ≡ Ok (x, at + length text)

-- the whole text is there
pub stands-length : (bytes : List ℕ) (at : ℕ) (text rest : List ℕ) → Stands bytes at text rest → at + length text ≤ length bytes
stands-length bytes at text rest s =
    let whole : length (drop at bytes) ≡ length (text ++ rest) = ap length s.parts in
    let within : at ≤ length bytes = s.within in
    omega (arith, length-drop at bytes, length-append text rest)

-- the front of a text, and what is behind it
pub stands-first : (bytes : List ℕ) (at : ℕ) (a b rest : List ℕ) → Stands bytes at (a ++ b) rest → Stands bytes at a (b ++ rest)
stands-first bytes at a b rest s = record { within = s.within; parts = s.parts ∙ append_assoc a b rest }

pub stands-then : (bytes : List ℕ) (at : ℕ) (a b rest : List ℕ) → Stands bytes at (a ++ b) rest → Stands bytes (at + length a) b rest
stands-then bytes at a b rest s =
    let front : Stands bytes at a (b ++ rest) = stands-first bytes at a b rest s in
    record {
      within = stands-length bytes at a (b ++ rest) front;
      parts = sym (drop-drop (length a) at bytes) ∙ ap (drop (length a)) front.parts ∙ drop_at a (b ++ rest) (length a) refl;
    }

-- one text after another
pub then_again : {A B : Type 0} (read : Reading A) (next : A → Reading B) (a b : List ℕ) (x : A) (y : B) → ReadsAgain read a x → ReadsAgain (next x) b y →
    ReadsAgain (λ bytes at. then_read (read bytes at) (λ z n. next z bytes n)) (a ++ b) y
then_again read next a b x y first second bytes at rest s =
    let there : at + length a + length b ≡ at + length (a ++ b) = omega (arith, length-append a b) in
    ap (λ r. then_read r (λ z n. next z bytes n)) (first bytes at (b ++ rest) (stands-first bytes at a b rest s))
    ∙ second bytes (at + length a) rest (stands-then bytes at a b rest s) ∙ ap (λ n. Ok (y, n)) there

-- a value made of what is read
pub made_again : {A B : Type 0} (read : Reading A) (f : A → B) (text : List ℕ) (x : A) → ReadsAgain read text x →
    ReadsAgain (λ bytes at. then_read (read bytes at) (λ z n. Ok (f z, n))) text (f x)
made_again read f text x again bytes at rest s = ap (λ r. then_read r (λ z n. Ok (f z, n))) (again bytes at rest s)

-- the same text in other words
pub other_text : {A : Type 0} (read : Reading A) (text other : List ℕ) (x : A) → text ≡ other → ReadsAgain read text x → ReadsAgain read other x
other_text read text other x same again bytes at rest s =
    again bytes at rest (subst (λ t. Stands bytes at t rest) (sym same) s) ∙ ap (λ t. Ok (x, at + length t)) same

-- nothing is read of nothing
pub nothing_again : {A : Type 0} (x : A) → ReadsAgain (λ bytes at. Ok (x, at)) [] x
nothing_again x bytes at rest s = let same : at ≡ at + 0 = omega arith in ap (λ n. Ok (x, n)) same

-- items alike, one after another
pub items_again : {A : Type 0} (each : Reading A) (text : A → List ℕ) (xs : List A) → AllByRecursion (λ x. ReadsAgain each (text x) x) xs →
    ReadsAgain (items each (length xs)) (flat_map text xs) xs
items_again each text [] all = nothing_again []
items_again each text (x ∷ xs) all =
    other_text (items each (suc (length xs))) (text x ++ flat_map text xs) (flat_map text (x ∷ xs)) (x ∷ xs) (sym (flat_map-cons text x xs))
    (then_again each (λ y bytes at. then_read (items each (length xs) bytes at) λ ys last. Ok (y ∷ ys, last)) (text x) (flat_map text xs) x (x ∷ xs) all.0
    (made_again (items each (length xs)) (λ ys. x ∷ ys) (flat_map text xs) xs (items_again each text xs all.1)))
