-- Names whose values pass a test, where one name gets a value.
use Rattle.std.proofs.Common.{◌≡◌, ◌∙◌, sym, ap, subst, refl, ℕ, Bool, true, false, cond, filter, map, List, [], ◌∷◌, Option, Some}
use Rattle.std.specs.Prelude.{◌||◌}
use Rattle.std.specs.Global.{Vec}
use Rattle.std.specs.List.{AllByRecursion, IsDistinct}
use Rattle.std.specs.Map.{KeepsOthers, keys_of, lookup}
use Rattle.std.specs.Option.{option_map_or}
use Rattle.std.specs.Str.{bytes_eq}
use Rattle.std.proofs.lemmas.Map.Keys.{IsDistinct-head, IsDistinct-tail}
use Rattle.std.proofs.lemmas.Slice.Eq.{bytes_eq-Decides}
use Rattle.indexmap.specs.IndexMap.{IndexMap, IsUnique, UpdatesBy}
use Rattle.wf_model.specs.Letters.{Text, is_among}
use Rattle.wf_registry.specs.Adding.{Adds}
use Rattle.wf_registry.specs.Indexing.{SameNames}
use Rattle.wf_registry.specs.FieldWords.{names_with}

-- the key is this word
abbrev pub is_word : Text → Vec ℕ → Bool
is_word w k = bytes_eq w k.items

-- two keys are the same word
abbrev pub same_word : Vec ℕ → Vec ℕ → Bool
same_word k l = bytes_eq k.items l.items

equal : (a b : Text) → bytes_eq a b ≡ true → a ≡ b
equal a b = (bytes_eq-Decides a b).0

-- ---- names that are looked up

module _ {X : Type 0} (test : X → Bool) (w : Text) where
  -- one more entry, of another word
  skipped : (e : Vec ℕ × X) (es : List (Vec ℕ × X)) → is_word w e.0 ≡ false → is_among w (names_with test (e ∷ es)) ≡ is_among w (names_with test es)
  skipped e es other = by (test e.1)
    where
      by : (t : Bool) → is_among w (map (λ (x : Vec ℕ × X). x.0.items) (cond t (e ∷ filter (λ (x : Vec ℕ × X). test x.1) es) (filter (λ (x : Vec ℕ × X). test x.1) es))) ≡ is_among w (names_with test es)
      by true = ap (λ b. b || is_among w (names_with test es)) other
      by false = refl

  -- one more entry, of this word, which is not among the others
  found : (e : Vec ℕ × X) (es : List (Vec ℕ × X)) → is_word w e.0 ≡ true → is_among w (names_with test es) ≡ false → is_among w (names_with test (e ∷ es)) ≡ test e.1
  found e es same none = by (test e.1)
    where
      by : (t : Bool) → is_among w (map (λ (x : Vec ℕ × X). x.0.items) (cond t (e ∷ filter (λ (x : Vec ℕ × X). test x.1) es) (filter (λ (x : Vec ℕ × X). test x.1) es))) ≡ t
      by true = ap (λ b. b || is_among w (names_with test es)) same
      by false = none

  -- a word that is no key is not among the names
  absent : (es : List (Vec ℕ × X)) → AllByRecursion (λ k. is_word w k ≡ false) (keys_of es) → is_among w (names_with test es) ≡ false
  absent [] apart = refl
  absent (e ∷ es) apart = skipped e es apart.0 ∙ absent es apart.1

  -- a word is among the names exactly where it has a value that passes
  pub among_is : (es : List (Vec ℕ × X)) → IsDistinct same_word (keys_of es) → is_among w (names_with test es) ≡ option_map_or test (lookup (is_word w) es) false
  among_is [] distinct = refl
  among_is (e ∷ es) distinct = by (is_word w e.0) refl (among_is es (IsDistinct-tail same_word e.0 (keys_of es) distinct))
    where
      value : Bool → Bool
      value b = option_map_or test (cond b (Some e.1) (lookup (is_word w) es)) false

      by : (t : Bool) → is_word w e.0 ≡ t → is_among w (names_with test es) ≡ option_map_or test (lookup (is_word w) es) false → is_among w (names_with test (e ∷ es)) ≡ value (is_word w e.0)
      by true same others =
          found e es same (absent es (subst (λ v. AllByRecursion (λ k. is_word v k ≡ false) (keys_of es)) (sym (equal w e.0.items same)) (IsDistinct-head same_word e.0 (keys_of es) distinct)))
          ∙ ap value (sym same)
      by false other others = skipped e es other ∙ others ∙ ap value (sym other)

-- ---- a name that gets a value

module _ {X S : Type 0} (old new : IndexMap (Vec ℕ) X S) (name : Text) (v : X) where
  -- the value of each word afterwards
  lookup-put : UpdatesBy same_word (is_word name) old new (Some v) → (w : Text) → lookup (is_word w) new.entries ≡ cond (bytes_eq w name) (Some v) (lookup (is_word w) old.entries)
  unfolding KeepsOthers
  lookup-put put w = by (bytes_eq w name) refl
    where
      after : Bool → Option X
      after b = cond b (Some v) (lookup (is_word w) old.entries)

      by : (t : Bool) → bytes_eq w name ≡ t → lookup (is_word w) new.entries ≡ after (bytes_eq w name)
      by true same = ap (λ u. lookup (is_word u) new.entries) (equal w name same) ∙ put.1 ∙ ap after (sym same)
      by false other =
          put.3 (is_word w) (λ x y e. ap (λ u. bytes_eq u y.items) (equal w x.items e))
          (λ k e. ap (bytes_eq w) (sym (equal name k.items e)) ∙ other)
          ∙ ap after (sym other)

  module _ (test : X → Bool) (was : IsUnique same_word old) (is : IsUnique same_word new) (put : UpdatesBy same_word (is_word name) old new (Some v)) where
    -- which words are among the names afterwards
    among_put : (w : Text) → is_among w (names_with test new.entries) ≡ cond (bytes_eq w name) (test v) (is_among w (names_with test old.entries))
    among_put w =
        among_is test w new.entries is
        ∙ ap (λ o. option_map_or test o false) (lookup-put put w)
        ∙ by (bytes_eq w name)
        ∙ ap (cond (bytes_eq w name) (test v)) (sym (among_is test w old.entries was))
      where
        by : (t : Bool) → option_map_or test (cond t (Some v) (lookup (is_word w) old.entries)) false ≡ cond t (test v) (option_map_or test (lookup (is_word w) old.entries) false)
        by true = refl
        by false = refl

    -- a value that passes adds the name
    pub adds_name : test v ≡ true → Adds (names_with test old.entries) (names_with test new.entries) (name ∷ [])
    adds_name passes w = among_put w ∙ ap (λ t. cond (bytes_eq w name) t (is_among w (names_with test old.entries))) passes ∙ by (bytes_eq w name) (is_among w (names_with test old.entries))
      where
        by : (b a : Bool) → cond b true a ≡ (a || (b || false))
        by true true = refl
        by true false = refl
        by false true = refl
        by false false = refl

    -- a value that passes exactly where the value before did leaves the names as they were
    pub keeps_names : test v ≡ option_map_or test (lookup (is_word name) old.entries) false → SameNames (names_with test old.entries) (names_with test new.entries)
    keeps_names as_before w = sym (among_put w ∙ by (bytes_eq w name) refl)
      where
        names : List Text
        names = names_with test old.entries

        by : (t : Bool) → bytes_eq w name ≡ t → cond (bytes_eq w name) (test v) (is_among w names) ≡ is_among w names
        by true same =
            ap (λ b. cond b (test v) (is_among w names)) same ∙ as_before
            ∙ sym (among_is test name old.entries was) ∙ ap (λ u. is_among u names) (sym (equal w name same))
        by false other = ap (λ b. cond b (test v) (is_among w names)) other
