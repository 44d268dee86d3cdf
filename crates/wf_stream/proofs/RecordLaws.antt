-- Parts of a record, one more at a time.
use Rattle.std.proofs.Common.{◌≡◌, ℕ, ◌+◌, ◌<◌, List, [], ◌∷◌, ◌++◌, length, map, take, drop, get_or, Option, Result, Ok, Err, refl, sym, ap, ◌∙◌, subst}
use Rattle.std.proofs.lemmas.List.{map_more, map-append, take-append-drop}
use Rattle.wf_model.specs.Files.{Files, StoreCall, append}
use Rattle.wf_stream.specs.StoreWrites.{Wrote, appends, with_bytes, with_parts}
use Rattle.wf_stream.specs.declared.writer.StreamError.{StreamError}
use Rattle.wf_stream.specs.declared.writer.Totals.{Totals}
use Rattle.wf_stream.proofs.StoreWriteLaws.{wrote_all, wrote_then, wrote_left}

-- totals of parts after parts
with_parts-append : (t : Totals) (ps qs : List (List ℕ)) → with_parts t (ps ++ qs) ≡ with_parts (with_parts t ps) qs
with_parts-append t [] qs = refl
with_parts-append t (p ∷ ps) qs = with_parts-append (with_bytes t p) ps qs

module _ {X : Type 0} (part : X → List ℕ) (xs : List X) (i : ℕ) (x : X) (within : i < length xs) (read : x ≡ get_or xs i x) where
  -- one part more
  more : map part (take (i + 1) xs) ≡ map part (take i xs) ++ part x ∷ []
  more = map_more part xs i x within ∙ ap (λ y. map part (take i xs) ++ part y ∷ []) (sym read)

  calls_more : (name : List ℕ) → appends name (map part (take i xs)) ++ append name (part x) ∷ [] ≡ appends name (map part (take (i + 1) xs))
  calls_more name = sym (ap (appends name) more ∙ map-append (append name) (map part (take i xs)) (part x ∷ []))

  pub totals_more : (t s u : Totals) → s ≡ with_parts t (map part (take i xs)) → u ≡ with_bytes s (part x) → u ≡ with_parts t (map part (take (i + 1) xs))
  totals_more t s u before next =
      next ∙ ap (λ v. with_bytes v (part x)) before ∙ sym (ap (with_parts t) more ∙ with_parts-append t (map part (take i xs)) (part x ∷ []))

  module _ (name : List ℕ) (a b c : Option Files) (l m n : ℕ) (f g : List ℕ) where
    -- the calls of one part more
    wrote_step : {Y : Type 0} (r : Result Y StreamError) → Wrote {X = Unit {0}} (appends name (map part (take i xs))) name a b l m f (Ok tt) → Wrote (append name (part x) ∷ []) name b c m n g r
        → Wrote (appends name (map part (take (i + 1) xs))) name a c l n g r
    wrote_step r p q =
        subst (λ (cs : List StoreCall). Wrote cs name a c l n g r) (calls_more name)
        (wrote_then (appends name (map part (take i xs))) (append name (part x) ∷ []) name a b c l m n f g tt r p q)

    pub wrote_more : {Y : Type 0} (y : Y) → Wrote {X = Unit {0}} (appends name (map part (take i xs))) name a b l m f (Ok tt) → Wrote (append name (part x) ∷ []) name b c m n g (Ok y)
        → Wrote {X = Unit {0}} (appends name (map part (take (i + 1) xs))) name a c l n g (Ok tt)
    wrote_more y p q = let w = wrote_step (Ok y) p q in wrote_all (appends name (map part (take (i + 1) xs))) name a c l n g tt w.ok w.later

    -- an error among the parts
    pub wrote_among : {Y Z : Type 0} (e : StreamError) → Wrote {X = Unit {0}} (appends name (map part (take i xs))) name a b l m f (Ok tt) → Wrote {X = Y} (append name (part x) ∷ []) name b c m n g (Err e)
        → Wrote {X = Z} (appends name (map part xs)) name a c l n g (Err e)
    wrote_among {Y} {Z} e p q =
        let all : appends name (map part (take (i + 1) xs)) ++ appends name (map part (drop (i + 1) xs)) ≡ appends name (map part xs)
        = sym (map-append (append name) (map part (take (i + 1) xs)) (map part (drop (i + 1) xs)))
        ∙ ap (appends name) (sym (map-append part (take (i + 1) xs) (drop (i + 1) xs)) ∙ ap (map part) (take-append-drop (i + 1) xs)) in
        subst (λ (cs : List StoreCall). Wrote {X = Z} cs name a c l n g (Err e)) all
        (wrote_left {X = Y} {Y = Z} (appends name (map part (take (i + 1) xs))) (appends name (map part (drop (i + 1) xs))) name a c l n g e (wrote_step (Err e) p q))
