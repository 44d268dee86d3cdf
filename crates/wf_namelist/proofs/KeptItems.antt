-- Of items that are repeated the last are kept, as a loop keeps them from the end on.
use Rattle.std.proofs.Common.{◌≡◌, ℕ, Bool, true, false, cond, eqb, inl, inr, List, [], ◌∷◌, ◌++◌, reverse, refl, sym, ap, ap₂, ◌∙◌, append_assoc, eq-eqb}
use Rattle.std.specs.Prelude.{◌&&◌, ◌||◌, not, nat_eq}
use Rattle.std.specs.Global.{Vec}
use Rattle.std.specs.List.{list_any}
use Rattle.std.specs.Str.{bytes_eq}
use Rattle.std.proofs.lemmas.Bool.{ne_eqb}
use Rattle.std.proofs.lemmas.Bool.Decides.{eqb_tells}
use Rattle.std.proofs.lemmas.List.{append-nil, reverse-append}
use Rattle.wf_model.specs.Letters.{Text}
use Rattle.wf_model.specs.Namelist.{Item, last_items, same_item}

abbrev pub Key : Type 0
Key = Vec ℕ × Vec ℕ

-- the keys of the set compare as texts do
abbrev pub key_eq : Key → Key → Bool
key_eq a b = bytes_eq a.0.items b.0.items && bytes_eq a.1.items b.1.items

-- an item has this key
abbrev pub has_key : Key → Item → Bool
has_key k i = bytes_eq i.0 k.0.items && bytes_eq i.1 k.1.items

-- what was looked at, from the end on: the last of its items are kept, and all its keys are seen
pub record KeptFrom (whole front kept : List Item) (seen : Key → Bool) : Type 0 where
  pub looked_at : List Item
  pub is_whole : front ++ looked_at ≡ whole
  pub last_kept : reverse kept ≡ last_items looked_at
  pub all_seen : (k : Key) → seen k ≡ list_any (has_key k) looked_at

-- ---- the same bytes, from either side

same_byte : (a b : ℕ) → nat_eq a b ≡ nat_eq b a
same_byte a b = elim (eqb_tells a b) [
  | inl is ↦ is.0 ∙ sym (ap (eqb b) is.1 ∙ (let e : eqb b b ≡ true = eq-eqb b b refl in e))
  | inr other ↦ other.0 ∙ sym (ne_eqb b a (λ e. other.1 (sym e)))
]

same_bytes : (a b : Text) → bytes_eq a b ≡ bytes_eq b a
same_bytes [] [] = refl
same_bytes [] (y ∷ ys) = refl
same_bytes (x ∷ xs) [] = refl
same_bytes (x ∷ xs) (y ∷ ys) = ap₂ (λ (a b : Bool). a && b) (same_byte x y) (same_bytes xs ys)

-- the items of this one's group and name have its key
keyed : (k : Key) (i : Item) (is : List Item) → k.0.items ≡ i.0 → k.1.items ≡ i.1 → list_any (has_key k) is ≡ list_any (same_item i) is
keyed k i [] group name = refl
keyed k i (j ∷ js) group name =
    ap₂ (λ (a b : Bool). a || b)
    (ap₂ (λ (a b : Bool). a && b) (ap (bytes_eq j.0) group ∙ same_bytes j.0 i.0) (ap (bytes_eq j.1) name ∙ same_bytes j.1 i.1))
    (keyed k i js group name)

-- ---- the loop

pub none_yet : (whole : List Item) (seen : Key → Bool) → ((k : Key) → seen k ≡ false) → KeptFrom whole whole [] seen
unfolding last_items
none_yet whole seen nothing = record { looked_at = []; is_whole = append-nil whole; last_kept = refl; all_seen = nothing }

-- one item more is looked at
grown : (whole front rest looked_at : List Item) (i : Item) → front ≡ rest ++ i ∷ [] → front ++ looked_at ≡ whole → rest ++ i ∷ looked_at ≡ whole
grown whole front rest looked_at i popped is_whole = sym (ap (λ (is : List Item). is ++ looked_at) popped ∙ append_assoc rest (i ∷ []) looked_at) ∙ is_whole

either : (a b : Bool) → cond a true b ≡ (a || b)
either true b = refl
either false b = refl

noted : (seen now : Key → Bool) (key : Key) (i : Item) (looked_at : List Item) → key.0.items ≡ i.0 → key.1.items ≡ i.1 → ((k : Key) → seen k ≡ list_any (has_key k) looked_at)
    → ((k : Key) → now k ≡ cond (key_eq key k) true (seen k)) → (k : Key) → now k ≡ list_any (has_key k) (i ∷ looked_at)
noted seen now key i looked_at group name all_seen updates k =
    updates k ∙ either (key_eq key k) (seen k) ∙ ap₂ (λ (a b : Bool). a || b)
    (ap₂ (λ (a b : Bool). a && b) (ap (λ t. bytes_eq t k.0.items) group) (ap (λ t. bytes_eq t k.1.items) name)) (all_seen k)

-- an item of a new key is kept
pub kept_new : (whole front rest kept more : List Item) (seen now : Key → Bool) (key : Key) (i : Item) → front ≡ rest ++ i ∷ [] → more ≡ kept ++ i ∷ [] → key.0.items ≡ i.0 → key.1.items ≡ i.1
    → true ≡ not (seen key) → ((k : Key) → now k ≡ cond (key_eq key k) true (seen k)) → KeptFrom whole front kept seen → KeptFrom whole rest more now
unfolding last_items
kept_new whole front rest kept more seen now key i popped pushed group name is_new updates h =
    let unseen : list_any (same_item i) h.looked_at ≡ false = sym (keyed key i h.looked_at group name) ∙ sym (h.all_seen key) ∙ flip (seen key) is_new in
    record {
      looked_at = i ∷ h.looked_at;
      is_whole = grown whole front rest h.looked_at i popped h.is_whole;
      last_kept = ap reverse pushed ∙ reverse-append kept (i ∷ []) ∙ ap (λ (is : List Item). i ∷ is) h.last_kept ∙ sym (ap (λ b. cond b (last_items h.looked_at) (i ∷ last_items h.looked_at)) unseen);
      all_seen = noted seen now key i h.looked_at group name h.all_seen updates;
    }
  where
    flip : (b : Bool) → true ≡ not b → b ≡ false
    flip true e = cc
    flip false e = refl

-- an item of a key that was seen is not
pub kept_old : (whole front rest kept : List Item) (seen now : Key → Bool) (key : Key) (i : Item) → front ≡ rest ++ i ∷ [] → key.0.items ≡ i.0 → key.1.items ≡ i.1
    → false ≡ not (seen key) → ((k : Key) → now k ≡ cond (key_eq key k) true (seen k)) → KeptFrom whole front kept seen → KeptFrom whole rest kept now
unfolding last_items
kept_old whole front rest kept seen now key i popped group name is_old updates h =
    let was_seen : list_any (same_item i) h.looked_at ≡ true = sym (keyed key i h.looked_at group name) ∙ sym (h.all_seen key) ∙ flip (seen key) is_old in
    record {
      looked_at = i ∷ h.looked_at;
      is_whole = grown whole front rest h.looked_at i popped h.is_whole;
      last_kept = h.last_kept ∙ sym (ap (λ b. cond b (last_items h.looked_at) (i ∷ last_items h.looked_at)) was_seen);
      all_seen = noted seen now key i h.looked_at group name h.all_seen updates;
    }
  where
    flip : (b : Bool) → false ≡ not b → b ≡ true
    flip true e = refl
    flip false e = cc

-- all were looked at
pub all_kept : (whole front kept : List Item) (seen : Key → Bool) → front ≡ [] → KeptFrom whole front kept seen → reverse kept ≡ last_items whole
all_kept whole front kept seen none h = h.last_kept ∙ ap last_items (sym (ap (λ (is : List Item). is ++ h.looked_at) none) ∙ h.is_whole)
