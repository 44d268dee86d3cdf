-- Letters and axes, as a list of dimspecs has them.
use Rattle.std.proofs.Common.{◌≡◌, ◌∙◌, sym, ap, ap₂, refl, ℕ, Bool, true, false, cond, List, [], ◌∷◌, ◌++◌, map, Option, Some, None, true≢false}
use Rattle.std.specs.Prelude.{◌==◌, ◌||◌, ◌&&◌, find, is_some}
use Rattle.std.specs.List.{list_any}
use Rattle.std.specs.Option.{option_or}
use Rattle.std.proofs.lemmas.List.Folds.{find-append, list_any-append}
use Rattle.std.proofs.lemmas.Bool.{eqb-true}
use Rattle.wf_model.specs.declared.registry.Entry.{Entry}
use Rattle.wf_model.specs.Entries.{axis, axis_of, is_entry, dimspecs, find_entry}
use Rattle.wf_model.specs.Judging.{is_known}
use Rattle.wf_registry_columns.specs.declared.axes.Letter.{Letter}
use Rattle.wf_registry_columns.specs.Axes.{HasAxesOf, bare_dimspec}
use Rattle.wf_registry_columns.specs.FoundAxis.{found_axis}

abbrev pub bare : Letter → Entry
bare l = bare_dimspec l.letter l.axis

and-true : (b : Bool) → b && true ≡ b
and-true true = refl
and-true false = refl

is_letter : (c letter ax : ℕ) → is_entry dimspecs (c ∷ []) (bare_dimspec letter ax) ≡ (c == letter)
is_letter c letter ax = and-true (c == letter)

pub known_in : (ls : List Letter) (c : ℕ) → is_known (map (λ (l : Letter). bare_dimspec l.letter l.axis) ls) c ≡ list_any (λ (l : Letter). c == l.letter) ls
known_in [] c = refl
known_in (l ∷ ls) c = ap₂ (λ a b. a || b) (is_letter c l.letter l.axis) (known_in ls c)

axis-if : (t u : Bool) (l : Letter) (e : Option Entry) (f : Option Letter) → t ≡ u → axis e ≡ found_axis f → axis (cond t (Some (bare l)) e) ≡ found_axis (cond u (Some l) f)
axis-if true u l e f same rest = ap (λ b. found_axis (cond b (Some l) f)) same
axis-if false u l e f same rest = rest ∙ ap (λ b. found_axis (cond b (Some l) f)) same

pub axis_in : (ls : List Letter) (c : ℕ) → axis_of (map (λ (l : Letter). bare_dimspec l.letter l.axis) ls) c ≡ found_axis (find (λ (l : Letter). c == l.letter) ls)
axis_in [] c = refl
axis_in (l ∷ ls) c = axis-if (is_entry dimspecs (c ∷ []) (bare l)) (c == l.letter) l (find_entry dimspecs (c ∷ []) (map (λ (l : Letter). bare_dimspec l.letter l.axis) ls)) (find (λ (l : Letter). c == l.letter) ls) (is_letter c l.letter l.axis) (axis_in ls c)

-- ---- one dimspec more, whose letter is known

some-if : {X : Type 0} (t : Bool) (x : X) (o : Option X) (b : Bool) → is_some o ≡ b → is_some (cond t (Some x) o) ≡ (t || b)
some-if true x o b e = refl
some-if false x o b e = e

pub is_some-find : {X : Type 0} (p : X → Bool) (xs : List X) → is_some (find p xs) ≡ list_any p xs
is_some-find p [] = refl
is_some-find p (x ∷ xs) = some-if (p x) x (find p xs) (list_any p xs) (is_some-find p xs)

pub option_or-some : {X : Type 0} (o p : Option X) → is_some o ≡ true → option_or o p ≡ o
option_or-some (Some x) p e = refl
option_or-some None p e = absurd (true≢false (sym e))

pub option_or-none : {X : Type 0} (o : Option X) → option_or o None ≡ o
option_or-none (Some x) = refl
option_or-none None = refl

or-more : (a b : Bool) → (b ≡ true → a ≡ true) → a ≡ (a || (b || false))
or-more true b h = refl
or-more false true h = h refl
or-more false false h = refl

find-more : (p : Entry → Bool) (es : List Entry) (e : Entry) → (p e ≡ true → list_any p es ≡ true) → find p es ≡ find p (es ++ e ∷ [])
find-more p es e h = by (p e) refl ∙ sym (find-append p es (e ∷ []))
  where
    by : (t : Bool) → p e ≡ t → find p es ≡ option_or (find p es) (find p (e ∷ []))
    by true is = sym (option_or-some (find p es) (find p (e ∷ [])) (is_some-find p es ∙ h is))
    by false is = sym (ap (λ (t : Bool). option_or (find p es) (cond t (Some e) None)) is ∙ option_or-none (find p es))

pub known_again : (es : List Entry) (letter ax : ℕ) → is_known es letter ≡ true → HasAxesOf es (es ++ bare_dimspec letter ax ∷ [])
known_again es letter ax there = record { known = known; axes = axes }
  where
    same : (c : ℕ) → is_entry dimspecs (c ∷ []) (bare_dimspec letter ax) ≡ true → is_known es c ≡ true
    same c is = ap (is_known es) (eqb-true c letter (sym (is_letter c letter ax) ∙ is)) ∙ there

    known : (c : ℕ) → is_known es c ≡ is_known (es ++ bare_dimspec letter ax ∷ []) c
    known c = or-more (is_known es c) (is_entry dimspecs (c ∷ []) (bare_dimspec letter ax)) (same c) ∙ sym (list_any-append (is_entry dimspecs (c ∷ [])) es (bare_dimspec letter ax ∷ []))

    axes : (c : ℕ) → axis_of es c ≡ axis_of (es ++ bare_dimspec letter ax ∷ []) c
    axes c = ap axis (find-more (is_entry dimspecs (c ∷ [])) es (bare_dimspec letter ax) (same c))

pub same_axes : (es others : List Entry) → es ≡ others → HasAxesOf es others
same_axes es others same = record { known = λ c. ap (λ xs. is_known xs c) same; axes = λ c. ap (λ xs. axis_of xs c) same }
