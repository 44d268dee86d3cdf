-- The first place in a list where a test passes.
use Rattle.std.proofs.Common.{◌≡◌, ℕ, ◌+◌, ◌-◌, ◌<◌, ◌≤◌, Bool, true, false, List, [], length, get_or, take, drop, map, Some, None, refl, sym, ap, ◌∙◌, arith, add-one, drop-cons, length-drop}
use Rattle.std.proofs.Math.ListN.{drop_of_length-le}
use Rattle.std.proofs.lemmas.List.{take_all}
use Rattle.std.proofs.lemmas.List.Folds.{find_at}
use Rattle.std.proofs.lemmas.Option.{slice_get_past, slice_get_read}
use Rattle.std.specs.Prelude.{◌||◌, find, position, slice_get}
use Rattle.std.specs.List.{position_or_len, before_first, after_first}
use Rattle.std.specs.Str.{bytes_eq}
use Rattle.wf_model.proofs.FirstPlaces.{found, not_found}
use Rattle.wf_model.specs.declared.registry.SourceFile.{SourceFile}
use Rattle.wf_model.specs.Letters.{Text, is_among}
use Rattle.wf_registry_lines.specs.Kept.{name_at, name_of, text_at, text_of}

none_before_end : {X : Type 0} (p : X → Bool) (xs : List X) → position p xs ≡ None → length xs ≤ position_or_len p xs
none_before_end p xs e = let is = not_found p xs e in omega (arith, is)

pub place_is : {X : Type 0} (p : X → Bool) (xs : List X) (k : ℕ) → position p xs ≡ Some k → position_or_len p xs ≡ k
place_is p xs k e = (found p xs k e).0

-- ---- what stands before and after it

pub before_place : {X : Type 0} (p : X → Bool) (xs : List X) (k : ℕ) → position p xs ≡ Some k → take k xs ≡ before_first p xs
before_place p xs k e = ap (λ n. take n xs) (sym ((found p xs k e).0))

pub after_place : {X : Type 0} (p : X → Bool) (xs : List X) (k : ℕ) → position p xs ≡ Some k → drop (k + 1) xs ≡ after_first p xs
after_place p xs k e = ap (λ n. drop (n + 1) xs) (sym ((found p xs k e).0))

pub all_before : {X : Type 0} (p : X → Bool) (xs : List X) → position p xs ≡ None → xs ≡ before_first p xs
all_before p xs e = sym (take_all (position_or_len p xs) xs (none_before_end p xs e))

pub none_after : {X : Type 0} (p : X → Bool) (xs : List X) → position p xs ≡ None → [] ≡ after_first p xs
none_after p xs e =
    let le : length xs ≤ position_or_len p xs = none_before_end p xs e in
    let more : length xs ≤ position_or_len p xs + 1 = omega arith in
    sym (drop_of_length-le xs more)

-- ---- what stands there

pub find_place : {X : Type 0} (p : X → Bool) (xs : List X) (k : ℕ) → position p xs ≡ Some k → find p xs ≡ slice_get xs k
find_place p xs k e = find_at p xs ∙ ap (slice_get xs) ((found p xs k e).0)

pub find_none : {X : Type 0} (p : X → Bool) (xs : List X) → position p xs ≡ None → find p xs ≡ None
find_none p xs e = find_at p xs ∙ slice_get_past xs (position_or_len p xs) (none_before_end p xs e)

-- ---- a name among those of some places, one after the other

among_next : (name : Text) (named : ℕ → Text) (places : List ℕ) (i : ℕ) → i < length places
    → is_among name (map named (drop i places)) ≡ (bytes_eq name (named (get_or places i 0)) || is_among name (map named (drop (i + 1) places)))
among_next name named places i lt = rw (drop-cons places i 0, add-one) refl

-- the name is that of the next place
pub among_here : (name : Text) (named : ℕ → Text) (places : List ℕ) (i : ℕ) (total : Bool) → i < length places
    → bytes_eq name (named (get_or places i 0)) ≡ true → is_among name (map named (drop i places)) ≡ total → true ≡ total
among_here name named places i total lt here so_far =
    sym (ap (λ b. b || is_among name (map named (drop (i + 1) places))) here) ∙ sym (among_next name named places i lt) ∙ so_far

-- the name isn't that of the next place
pub among_later : (name : Text) (named : ℕ → Text) (places : List ℕ) (i : ℕ) (total : Bool) → i < length places
    → bytes_eq name (named (get_or places i 0)) ≡ false → is_among name (map named (drop i places)) ≡ total → is_among name (map named (drop (i + 1) places)) ≡ total
among_later name named places i total lt here so_far =
    sym (ap (λ b. b || is_among name (map named (drop (i + 1) places))) here) ∙ sym (among_next name named places i lt) ∙ so_far

-- what is behind a place, as a range of a list
pub range_from : {X : Type 0} (n : ℕ) (xs : List X) → take (length xs - n) (drop n xs) ≡ drop n xs
range_from n xs = take_all (length xs - n) (drop n xs) (omega (arith, length-drop n xs))

-- nothing is behind the whole list, and nothing behind a place that isn't there
pub none_after_range : {X : Type 0} (p : X → Bool) (xs : List X) → position p xs ≡ None → take (length xs - length xs) (drop (length xs) xs) ≡ after_first p xs
none_after_range p xs e = range_from (length xs) xs ∙ drop_of_length-le xs (omega arith) ∙ none_after p xs e

-- ---- files

pub file_here : (files : List SourceFile) (k : ℕ) (f : SourceFile) → k < length files → f ≡ get_or files k f → slice_get files k ≡ Some f
file_here files k f lt is = slice_get_read files (length files) k f refl lt is

pub name_here : (files : List SourceFile) (k : ℕ) (f : SourceFile) (name : Text) → k < length files → f ≡ get_or files k f → name ≡ (get_or files k f).name
    → name_at files k ≡ name
name_here files k f name lt is e = ap name_of (file_here files k f lt is) ∙ ap (λ (g : SourceFile). g.name) is ∙ sym e

pub text_here : (files : List SourceFile) (k : ℕ) (f : SourceFile) (text : Text) → k < length files → f ≡ get_or files k f → text ≡ (get_or files k f).text
    → text_at files k ≡ text
text_here files k f text lt is e = ap text_of (file_here files k f lt is) ∙ ap (λ (g : SourceFile). g.text) is ∙ sym e
