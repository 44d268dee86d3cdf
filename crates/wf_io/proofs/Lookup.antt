-- How a change of one file changes what the names hold.
use Rattle.std.proofs.Common.{◌≡◌, ℕ, suc, zero, ◌<◌, Bool, true, false, cond, List, [], ◌∷◌, ◌++◌, length, get_or, Option, Some, None, refl, sym, ap, ◌∙◌, arith}
use Rattle.std.proofs.Math.ListN.{set}
use Rattle.std.specs.Str.{bytes_eq}
use Rattle.std.proofs.lemmas.Slice.Eq.{bytes_eq-Decides}
use Rattle.wf_io.specs.Files.{with_file, bytes_at}
use Rattle.wf_io.specs.StoreState.{FileState, files_of, NoneBefore, IsPlace}

-- a name that no file has holds nothing
pub none_at_all : (fs : List FileState) (name : List ℕ) → NoneBefore fs name (length fs) → files_of fs name ≡ None
none_at_all [] name none = refl
none_at_all (f ∷ fs) name none =
    let here : bytes_eq name f.name ≡ false = none 0 f (omega arith) in
    rw here (none_at_all fs name (λ k d lt. none (suc k) d (omega arith)))

-- a name holds the bytes of its first file
held_at : (fs : List FileState) (name : List ℕ) (p : ℕ) (d : FileState) → p < length fs → bytes_eq name (get_or fs p d).name ≡ true → NoneBefore fs name p → files_of fs name ≡ Some (get_or fs p d).bytes
held_at [] name p d lt same none = absurd (omega arith)
held_at (f ∷ fs) name zero d lt same none = rw same refl
held_at (f ∷ fs) name (suc p) d lt same none =
    let here : bytes_eq name f.name ≡ false = none 0 f (omega arith) in
    rw here (held_at fs name p d (omega arith) same (λ k d2 l. none (suc k) d2 (omega arith)))

pub held : {fs : List FileState} {name : List ℕ} {p : ℕ} → IsPlace fs name p → (d : FileState) → files_of fs name ≡ Some (get_or fs p d).bytes
held place d = held_at _ _ _ d place.within (place.here d) place.first

-- the bytes of a name are those of the file that was read at its place
pub bytes_at_place : {fs : List FileState} {name : List ℕ} {p : ℕ} → IsPlace fs name p → (f : FileState) → f ≡ get_or fs p f → bytes_at (files_of fs) name ≡ f.bytes
bytes_at_place place f is = rw (held place f) (ap (λ (g : FileState). g.bytes) (sym is))

-- texts that compare equal are one
same_text : (a b : List ℕ) → bytes_eq a b ≡ true → a ≡ b
same_text a b e = (bytes_eq-Decides a b).0 e

-- a name is not that of two names that differ
not_both : (q name other : List ℕ) → bytes_eq name other ≡ false → bytes_eq q other ≡ true → bytes_eq q name ≡ true → ⊥
not_both q name other differ a b =
    let e : name ≡ other = sym (same_text q name b) ∙ same_text q other a in
    let t : bytes_eq name other ≡ true = (bytes_eq-Decides name other).1 e in
    cc

-- two tests that don't hold together go in any order
swapped : {X : Type 0} (a b : Bool) (x y z : X) → (a ≡ true → b ≡ true → ⊥) → cond a x (cond b y z) ≡ cond b y (cond a x z)
swapped true true x y z apart = absurd (apart refl refl)
swapped true false x y z apart = refl
swapped false true x y z apart = refl
swapped false false x y z apart = refl

-- the first file of a name is replaced
set_at : (fs : List FileState) (name : List ℕ) (p : ℕ) (d g : FileState) → p < length fs → bytes_eq name (get_or fs p d).name ≡ true → NoneBefore fs name p → g.name ≡ name
    → (q : List ℕ) → files_of (set fs p g) q ≡ with_file (files_of fs) name g.bytes q
set_at [] name p d g lt here none same q = absurd (omega arith)
set_at (f ∷ fs) name zero d g lt here none same q =
    let other : f.name ≡ name = sym (same_text name f.name here) in
    rw (same, other) (elim (bytes_eq q name) as (λ b. cond b (Some g.bytes) (files_of fs q) ≡ cond b (Some g.bytes) (cond b (Some f.bytes) (files_of fs q))) [ true ↦ refl | false ↦ refl ])
set_at (f ∷ fs) name (suc p) d g lt here none same q =
    let differ : bytes_eq name f.name ≡ false = none 0 f (omega arith) in
    let rest : files_of (set fs p g) q ≡ with_file (files_of fs) name g.bytes q = set_at fs name p d g (omega arith) here (λ k d2 l. none (suc k) d2 (omega arith)) same q in
    ap (cond (bytes_eq q f.name) (Some f.bytes)) rest ∙ swapped (bytes_eq q f.name) (bytes_eq q name) _ _ _ (not_both q name f.name differ)

-- the bytes of the file at a name's place change
pub changed : {fs : List FileState} {name : List ℕ} {p : ℕ} → IsPlace fs name p → (f : FileState) → f ≡ get_or fs p f
    → (change : List ℕ → List ℕ) (g : FileState) → g ≡ record f { bytes = change f.bytes }
    → files_of (set fs p g) ≡ with_file (files_of fs) name (change (bytes_at (files_of fs) name))
changed {fs} {name} {p} place f is change g made =
    let same : g.name ≡ name = ap (λ (h : FileState). h.name) made ∙ ap (λ (h : FileState). h.name) is ∙ sym (same_text name _ (place.here f)) in
    let bytes : g.bytes ≡ change (bytes_at (files_of fs) name) = ap (λ (h : FileState). h.bytes) made ∙ ap change (sym (bytes_at_place place f is)) in
    let set_is : files_of (set fs p g) ≡ with_file (files_of fs) name g.bytes = λ i q. set_at fs name p f g place.within (place.here f) place.first same q i in
    set_is ∙ ap (with_file (files_of fs) name) bytes

-- a test that gives nothing was false
apart : {X : Type 0} (b : Bool) (x : X) (o : Option X) → cond b (Some x) o ≡ None → (b ≡ false) × (o ≡ None)
apart true x o e = cc
apart false x o e = (refl, e)

-- a file of a new name is added behind
push_at : (fs : List FileState) (name : List ℕ) (g : FileState) → g.name ≡ name → files_of fs name ≡ None
    → (q : List ℕ) → files_of (fs ++ g ∷ []) q ≡ with_file (files_of fs) name g.bytes q
push_at [] name g same none q = rw same refl
push_at (f ∷ fs) name g same none q =
    let parts : (bytes_eq name f.name ≡ false) × (files_of fs name ≡ None) = apart (bytes_eq name f.name) _ _ none in
    ap (cond (bytes_eq q f.name) (Some f.bytes)) (push_at fs name g same parts.1 q) ∙ swapped (bytes_eq q f.name) (bytes_eq q name) _ _ _ (not_both q name f.name parts.0)

pub pushed : (fs : List FileState) (name bytes : List ℕ) → files_of fs name ≡ None
    → files_of (fs ++ record { name = name; bytes = bytes } ∷ []) ≡ with_file (files_of fs) name bytes
pushed fs name bytes none = λ i q. push_at fs name (record { name = name; bytes = bytes }) refl none q i
