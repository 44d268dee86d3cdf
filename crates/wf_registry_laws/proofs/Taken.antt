-- What is none of the symbols and levels is none of the names that fields take.
use Rattle.std.proofs.Common.{◌≡◌, Bool, true, false, List, [], ◌∷◌, refl, sym, ap, ◌∙◌}
use Rattle.std.specs.Prelude.{◌||◌, if◌then◌else◌, flat_map}
use Rattle.std.specs.Str.{bytes_eq}
use Rattle.std.proofs.lemmas.Bool.{or_parts, or_from}
use Rattle.std.proofs.lemmas.List.Concat.{flat_map-cons}
use Rattle.std.proofs.lemmas.List.Folds.{list_any-append}
use Rattle.wf_model.specs.declared.registry.Entry.{Entry}
use Rattle.wf_model.specs.declared.registry.Entry.TheVariants.{Dimspec, State, Rconfig, Package, Halo, Period}
use Rattle.wf_model.specs.Letters.{Text, is_among, share}
use Rattle.wf_model.specs.Entries.{entry_symbol, entry_levels, suffixed, is_two}
use Rattle.wf_model.specs.Judging.{taken_names}
use Rattle.wf_registry_laws.specs.RegistryLaws.{taken_by}

among_is : (w : Text) (names : Entry → List Text) (e : Entry) (es : List Entry) → is_among w (flat_map names (e ∷ es)) ≡ (is_among w (names e) || is_among w (flat_map names es))
among_is w names e es = ap (is_among w) (flat_map-cons names e es) ∙ list_any-append (bytes_eq w) (names e) (flat_map names es)

-- of one entry
by_levels : (two : Bool) (w symbol : Text) → is_among w (symbol ∷ []) ≡ false → is_among w (if two then suffixed symbol else symbol ∷ []) ≡ false → is_among w (symbol ∷ (if two then suffixed symbol else [])) ≡ false
by_levels true w symbol a b = or_from (bytes_eq w symbol) (is_among w (suffixed symbol)) (or_parts (bytes_eq w symbol) false a).0 b
by_levels false w symbol a b = a

by_entry : (w : Text) (e : Entry) → is_among w (entry_symbol e) ≡ false → is_among w (entry_levels e) ≡ false → is_among w (taken_by e) ≡ false
by_entry w (State kind symbol dims levels stagger io dname description units) a b = by_levels (is_two levels) w symbol a b
by_entry w (Dimspec letter how axis dataset) a b = refl
by_entry w (Rconfig kind symbol how entries default) a b = refl
by_entry w (Package name symbol value list) a b = refl
by_entry w (Halo name groups) a b = refl
by_entry w (Period name groups) a b = refl

-- of all entries
not_taken : (w : Text) (es : List Entry) → is_among w (flat_map entry_symbol es) ≡ false → is_among w (flat_map entry_levels es) ≡ false → is_among w (flat_map taken_by es) ≡ false
not_taken w [] a b = refl
not_taken w (e ∷ es) a b =
    let s = or_parts (is_among w (entry_symbol e)) (is_among w (flat_map entry_symbol es)) (sym (among_is w entry_symbol e es) ∙ a) in
    let l = or_parts (is_among w (entry_levels e)) (is_among w (flat_map entry_levels es)) (sym (among_is w entry_levels e es) ∙ b) in
    among_is w taken_by e es ∙ or_from (is_among w (taken_by e)) (is_among w (flat_map taken_by es)) (by_entry w e s.0 l.0) (not_taken w es s.1 l.1)

pub none_taken : (ws : List Text) (es : List Entry) → share ws (taken_names es) ≡ false → share ws (flat_map taken_by es) ≡ false
none_taken [] es e = refl
none_taken (w ∷ ws) es e =
    let h = or_parts (is_among w (taken_names es)) (share ws (taken_names es)) e in
    let both = or_parts (is_among w (flat_map entry_symbol es)) (is_among w (flat_map entry_levels es)) (sym (list_any-append (bytes_eq w) (flat_map entry_symbol es) (flat_map entry_levels es)) ∙ h.0) in
    or_from (is_among w (flat_map taken_by es)) (share ws (flat_map taken_by es)) (not_taken w es both.0 both.1) (none_taken ws es h.1)
