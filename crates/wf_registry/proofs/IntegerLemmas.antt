-- Rconfigs of type integer, one entry more.
use Rattle.std.proofs.Common.{◌≡◌, ◌∙◌, sym, ap, refl, Bool, true, false, cond, List, [], ◌∷◌, ◌++◌, Option, Some, None}
use Rattle.std.specs.Prelude.{◌||◌, ◌&&◌, not, find, flat_map, is_some, if◌then◌else◌}
use Rattle.std.specs.Option.{option_or}
use Rattle.std.specs.Str.{bytes_eq}
use Rattle.std.proofs.lemmas.List.Folds.{find-append}
use Rattle.std.proofs.lemmas.Slice.Eq.{bytes_eq-Decides}
use Rattle.wf_model.specs.declared.registry.Entry.{Entry}
use Rattle.wf_model.specs.declared.registry.Entry.TheVariants.{Dimspec, State, Rconfig, Package, Halo, Period}
use Rattle.wf_model.specs.Letters.{Text, is_among}
use Rattle.wf_model.specs.Entries.{rconfigs, find_entry, is_entry, is_integer, is_integer_rconfig, type_word}
use Rattle.wf_registry_columns.proofs.AxisLemmas.{is_some-find, option_or-none}
use Rattle.wf_registry.specs.Adding.{Adds}
use Rattle.wf_registry.specs.Indexing.{SameNames, integer_names, names_of}
use Rattle.wf_registry.proofs.IndexLemmas.{declares_is}

-- the word is another one
not-among : (u : Bool) (w symbol : Text) → bytes_eq w symbol ≡ false → is_among w (if u then symbol ∷ [] else []) ≡ false
not-among true w symbol other = ap (λ b. b || false) other
not-among false w symbol other = refl

or-none : (b c : Bool) → c ≡ false → (b || c) ≡ b
or-none true c e = refl
or-none false c e = e

same-name : (found : Option Entry) (k d : Bool) (w symbol : Text) (e : Entry) → bytes_eq w symbol ≡ true → d ≡ is_some found → is_integer (type_word (Some e)) ≡ k
    → (is_integer (type_word found) || is_among w (if k && not d then symbol ∷ [] else [])) ≡ is_integer (type_word (option_or found (Some e)))
same-name (Some x) k d w symbol e same there type =
    or-none (is_integer (type_word (Some x))) (is_among w (if k && not d then symbol ∷ [] else []))
    (ap (λ b. is_among w (if k && not b then symbol ∷ [] else [])) there ∙ absent k)
  where
    absent : (b : Bool) → is_among w (if b && false then symbol ∷ [] else []) ≡ false
    absent true = refl
    absent false = refl
same-name None k d w symbol e same there type =
    ap (λ b. is_among w (if k && not b then symbol ∷ [] else [])) there ∙ present k ∙ sym type
  where
    present : (b : Bool) → is_among w (if b && true then symbol ∷ [] else []) ≡ b
    present true = ap (λ b. b || false) same
    present false = refl

-- an entry that is no rconfig of that name
no-rconfig : (es : List Entry) (e : Entry) (w : Text) (added : List Text) → is_among w added ≡ false → find (is_entry rconfigs w) (e ∷ []) ≡ None
    → (is_integer_rconfig es w || is_among w added) ≡ is_integer_rconfig (es ++ e ∷ []) w
no-rconfig es e w added absent other =
    or-none (is_integer_rconfig es w) (is_among w added) absent
    ∙ ap (λ (o : Option Entry). is_integer (type_word o)) (sym (option_or-none (find_entry rconfigs w es)) ∙ ap (option_or (find_entry rconfigs w es)) (sym other) ∙ sym (find-append (is_entry rconfigs w) es (e ∷ [])))

integer-step : (es : List Entry) (e : Entry) (w : Text) (rcs : List Text) → ((v : Text) → is_among v rcs ≡ is_some (find_entry rconfigs v es))
    → (is_integer_rconfig es w || is_among w (integer_names rcs e)) ≡ is_integer_rconfig (es ++ e ∷ []) w
integer-step es (Dimspec letter how axis dataset) w rcs known = no-rconfig es (Dimspec letter how axis dataset) w [] refl refl
integer-step es (State kind symbol dims levels stagger io dname description units) w rcs known = no-rconfig es (State kind symbol dims levels stagger io dname description units) w [] refl refl
integer-step es (Package name symbol value list) w rcs known = no-rconfig es (Package name symbol value list) w [] refl refl
integer-step es (Halo name groups) w rcs known = no-rconfig es (Halo name groups) w [] refl refl
integer-step es (Period name groups) w rcs known = no-rconfig es (Period name groups) w [] refl refl
integer-step es (Rconfig kind symbol how entries default) w rcs known = by (bytes_eq w symbol) refl
  where
    by : (t : Bool) → bytes_eq w symbol ≡ t
        → (is_integer_rconfig es w || is_among w (integer_names rcs (Rconfig kind symbol how entries default))) ≡ is_integer_rconfig (es ++ Rconfig kind symbol how entries default ∷ []) w
    by false other = no-rconfig es (Rconfig kind symbol how entries default) w (integer_names rcs (Rconfig kind symbol how entries default))
        (not-among (is_integer kind && not (is_among symbol rcs)) w symbol other)
        (ap (λ (b : Bool). cond b (Some (Rconfig kind symbol how entries default)) None) other)
    by true same =
        same-name (find_entry rconfigs w es) (is_integer kind) (is_among symbol rcs) w symbol (Rconfig kind symbol how entries default) same
        (ap (λ v. is_among v rcs) (sym ((bytes_eq-Decides w symbol).0 same)) ∙ known w) refl
        ∙ ap (λ (o : Option Entry). is_integer (type_word o))
        (ap (λ (b : Bool). option_or (find_entry rconfigs w es) (cond b (Some (Rconfig kind symbol how entries default)) None)) (sym same)
        ∙ sym (find-append (is_entry rconfigs w) es (Rconfig kind symbol how entries default ∷ [])))

pub integers_more : (old new rcs : List Text) (es : List Entry) (e : Entry) → ((w : Text) → is_among w old ≡ is_integer_rconfig es w) → SameNames rcs (flat_map (names_of rconfigs) es)
    → Adds old new (integer_names rcs e) → (w : Text) → is_among w new ≡ is_integer_rconfig (es ++ e ∷ []) w
integers_more old new rcs es e same named added w =
    added w ∙ ap (λ b. b || is_among w (integer_names rcs e)) (same w)
    ∙ integer-step es e w rcs (λ v. named v ∙ sym (declares_is rconfigs v es) ∙ sym (is_some-find (is_entry rconfigs v) es))
