-- The stored function that the last part of a letter names.
use Rattle.std.proofs.Common.{◌≡◌, ◌∙◌, sym, ap, refl, ℕ, List, [], ◌∷◌, ◌++◌, Bool, true, false, cond, map, reverse, Option, Some, None}
use Rattle.std.specs.Prelude.{find}
use Rattle.std.specs.Option.{option_or, option_map}
use Rattle.std.proofs.lemmas.List.{map-append, reverse-append}
use Rattle.std.proofs.lemmas.List.Folds.{find-append}
use Rattle.wf_model.specs.declared.table.HookName.{HookName}
use Rattle.wf_model.specs.declared.table.HookKind.{HookKind}
use Rattle.wf_model.specs.Letters.{Text}
use Rattle.wf_model.specs.Io.{IoPart, input, output, restarted, smoothed, fed, fed_by, last_fed}
use Rattle.wf_model.specs.PlanFields.{function_name, hook_id, hook_named}
use Rattle.wf_plan_fields.specs.IoParts.{is_fed, named_in}

-- the name that a part that was found has, or else the usual one
abbrev name_found : Text → Option IoPart → Option Text
name_found usual found = option_map (named_in usual) found

one : (letter : ℕ) (usual : Text) (p : IoPart) (t : Bool) → is_fed letter p ≡ t → function_name usual (fed_by letter p) ≡ name_found usual (cond t (Some p) None)
one letter usual (fed l None) true is = ap (λ (b : Bool). function_name usual (cond b (Some None) None)) is
one letter usual (fed l (Some name)) true is = ap (λ (b : Bool). function_name usual (cond b (Some (Some name)) None)) is
one letter usual (fed l name) false is = ap (λ (b : Bool). function_name usual (cond b (Some name) None)) is
one letter usual (input ss) false is = refl
one letter usual (input ss) true is = cc
one letter usual (output ss) false is = refl
one letter usual (output ss) true is = cc
one letter usual restarted false is = refl
one letter usual restarted true is = cc
one letter usual smoothed false is = refl
one letter usual smoothed true is = cc

or_names : (usual : Text) (a b : Option (Option Text)) (c d : Option IoPart) → function_name usual a ≡ name_found usual c → function_name usual b ≡ name_found usual d
    → function_name usual (option_or a b) ≡ name_found usual (option_or c d)
or_names usual None b None d ea eb = eb
or_names usual (Some None) b (Some p) d ea eb = ea
or_names usual (Some (Some name)) b (Some p) d ea eb = ea
or_names usual None b (Some p) d ea eb = cc
or_names usual (Some None) b None d ea eb = cc
or_names usual (Some (Some name)) b None d ea eb = cc

-- the last part of a letter is the first from the end
pub last_is : (letter : ℕ) (usual : Text) (ps : List IoPart) → function_name usual (last_fed letter ps) ≡ name_found usual (find (is_fed letter) (reverse ps))
last_is letter usual [] = refl
last_is letter usual (p ∷ ps) =
    or_names usual (last_fed letter ps) (fed_by letter p) (find (is_fed letter) (reverse ps)) (find (is_fed letter) (p ∷ [])) (last_is letter usual ps) (one letter usual p (is_fed letter p) refl)
    ∙ ap (name_found usual) (sym (find-append (is_fed letter) (reverse ps) (p ∷ [])) ∙ ap (find (is_fed letter)) (sym (reverse-append (p ∷ []) ps)))

chosen : {A : Type 0} (view : A → IoPart) (b : Bool) (x : A) (o : Option A) (q : Option IoPart) → option_map view o ≡ q → option_map view (cond b (Some x) o) ≡ cond b (Some (view x)) q
chosen view true x o q e = refl
chosen view false x o q e = e

find_seen : {A : Type 0} (view : A → IoPart) (test : IoPart → Bool) (xs : List A) → option_map view (find (λ x. test (view x)) xs) ≡ find test (map view xs)
find_seen view test [] = refl
find_seen view test (x ∷ xs) = chosen view (test (view x)) x _ _ (find_seen view test xs)

reverse_seen : {A : Type 0} (view : A → IoPart) (xs : List A) → map view (reverse xs) ≡ reverse (map view xs)
reverse_seen view [] = refl
reverse_seen view (x ∷ xs) =
    ap (map view) (reverse-append (x ∷ []) xs) ∙ map-append view (reverse xs) (x ∷ []) ∙ ap (λ r. r ++ view x ∷ []) (reverse_seen view xs)
    ∙ sym (reverse-append (view x ∷ []) (map view xs))

module _ {A : Type 0} (view : A → IoPart) (letter : ℕ) (usual : Text) (hooks : List HookName) (kind : HookKind → Bool) (ps : List A) where
  function_is : function_name usual (last_fed letter (map view ps)) ≡ name_found usual (option_map view (find (λ p. is_fed letter (view p)) (reverse ps)))
  function_is =
      last_is letter usual (map view ps)
      ∙ ap (name_found usual) (sym (find_seen view (is_fed letter) (reverse ps) ∙ ap (find (is_fed letter)) (reverse_seen view ps)))

  -- of parts that are seen so, none is of the letter
  pub function_none : find (λ p. is_fed letter (view p)) (reverse ps) ≡ None → None ≡ hook_id hooks kind (function_name usual (last_fed letter (map view ps)))
  function_none none = sym (ap (hook_id hooks kind) (function_is ∙ ap (λ o. name_found usual (option_map view o)) none))

  -- this one is the last
  pub function_some : (p : A) (name : Text) (hook : Option HookName) (id : Option ℕ)
      → find (λ p. is_fed letter (view p)) (reverse ps) ≡ Some p → name ≡ named_in usual (view p) → hook ≡ hook_named hooks kind name → id ≡ option_map (λ (h : HookName). h.id) hook
      → id ≡ hook_id hooks kind (function_name usual (last_fed letter (map view ps)))
  function_some p name hook id some names found is =
      is ∙ ap (option_map (λ (h : HookName). h.id)) (found ∙ ap (hook_named hooks kind) names)
      ∙ sym (ap (hook_id hooks kind) (function_is ∙ ap (λ o. name_found usual (option_map view o)) some))
