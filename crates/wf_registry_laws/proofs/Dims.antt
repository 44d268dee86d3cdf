-- Letters among all entries are letters among the dimspecs.
use Rattle.std.proofs.Common.{◌≡◌, ℕ, Bool, true, false, cond, List, [], ◌∷◌, map, Some, refl, sym, ap, ap₂, ◌∙◌}
use Rattle.std.specs.Prelude.{◌&&◌, ◌||◌, filter, find}
use Rattle.std.specs.List.{list_any}
use Rattle.std.specs.Str.{bytes_eq}
use Rattle.std.proofs.lemmas.Bool.{false≢true}
use Rattle.wf_model.specs.declared.registry.Entry.{Entry}
use Rattle.wf_model.specs.declared.registry.Entry.TheVariants.{Dimspec, State, Rconfig, Package, Halo, Period}
use Rattle.wf_model.specs.Letters.{Text}
use Rattle.wf_model.specs.Entries.{dimspecs, is_entry, axis, axis_of}
use Rattle.wf_model.specs.Judging.{is_known, all_known, is_in_order}
use Rattle.wf_model.specs.Config.{is_dimspec}

-- ---- a test that only some pass

pub any_kept : {X : Type 0} (q p : X → Bool) → ((x : X) → q x ≡ false → p x ≡ false) → (xs : List X) → list_any p (filter q xs) ≡ list_any p xs
any_kept q p h [] = refl
any_kept q p h (x ∷ xs) = by (q x) refl (any_kept q p h xs)
  where
    by : (b : Bool) → q x ≡ b → list_any p (filter q xs) ≡ list_any p xs → list_any p (cond b (x ∷ filter q xs) (filter q xs)) ≡ (p x || list_any p xs)
    by true is rest = ap (λ r. p x || r) rest
    by false is rest = rest ∙ sym (ap (λ b. b || list_any p xs) (h x is))

pub found_kept : {X : Type 0} (q p : X → Bool) → ((x : X) → q x ≡ false → p x ≡ false) → (xs : List X) → find p (filter q xs) ≡ find p xs
found_kept q p h [] = refl
found_kept q p h (x ∷ xs) = by (q x) refl (found_kept q p h xs)
  where
    by : (b : Bool) → q x ≡ b → find p (filter q xs) ≡ find p xs → find p (cond b (x ∷ filter q xs) (filter q xs)) ≡ cond (p x) (Some x) (find p xs)
    by true is rest = ap (λ r. cond (p x) (Some x) r) rest
    by false is rest = rest ∙ sym (ap (λ b. cond b (Some x) (find p xs)) (h x is))

-- ---- letters

no_letter : (name : Text) (e : Entry) → is_dimspec e ≡ false → is_entry dimspecs name e ≡ false
no_letter name (Dimspec letter how axis dataset) h = absurd (false≢true (sym h))
no_letter name (State kind symbol dims levels stagger io dname description units) h = refl
no_letter name (Rconfig kind symbol how entries default) h = refl
no_letter name (Package n symbol value list) h = refl
no_letter name (Halo n groups) h = refl
no_letter name (Period n groups) h = refl

known_is : (es : List Entry) (c : ℕ) → is_known (filter is_dimspec es) c ≡ is_known es c
known_is es c = any_kept is_dimspec (is_entry dimspecs (c ∷ [])) (no_letter (c ∷ [])) es

axis_is : (es : List Entry) (c : ℕ) → axis_of (filter is_dimspec es) c ≡ axis_of es c
axis_is es c = ap axis (found_kept is_dimspec (is_entry dimspecs (c ∷ [])) (no_letter (c ∷ [])) es)

pub all_known_is : (es : List Entry) (cs : Text) → all_known (filter is_dimspec es) cs ≡ all_known es cs
all_known_is es [] = refl
all_known_is es (c ∷ cs) = ap₂ (λ a b. a && b) (known_is es c) (all_known_is es cs)

axes_are : (es : List Entry) (cs : Text) → map (axis_of (filter is_dimspec es)) cs ≡ map (axis_of es) cs
axes_are es [] = refl
axes_are es (c ∷ cs) = ap₂ (λ a b. a ∷ b) (axis_is es c) (axes_are es cs)

pub in_order_is : (es : List Entry) (cs : Text) → is_in_order (filter is_dimspec es) cs ≡ is_in_order es cs
in_order_is es cs = ap (λ ws. bytes_eq ws (120 ∷ 121 ∷ []) || bytes_eq ws (120 ∷ 122 ∷ 121 ∷ [])) (axes_are es cs)
