-- A name that is there is a level's too from now on; one that is not is inserted as a level's alone.
use Rattle.std.proofs.Common.{rules, ◌∙◌, ap, subst, refl, [], ◌∷◌, Some, true, false}
use Rattle.std.specs.Map.{lookup}
use Rattle.std.specs.Option.{option_map_or}
use Rattle.wf_registry.specs.Adding.{Adds}
use Rattle.wf_registry.specs.Indexing.{SameNames}
use Rattle.wf_registry.specs.FieldWords.{WordLists, names_with}
use Rattle.wf_registry.specs.declared.field_words.Named.{Named}
use Rattle.indexmap.specs.IndexMap.{UpdatesBy}
use Rattle.wf_registry.proofs.WordLemmas.{adds_name, is_word, keeps_names, same_word}
use Rattle.wf_registry.proofs.field_words.FieldWords.add_level.Goals as goal

pub returns-in-Some-clause-levels : goal.returns-in-Some-clause-levels
returns-in-Some-clause-levels c =
    let put : Named = record { symbol = c.in-Some.named.now.symbol; level = true } in
    let new = c.get_mut.follows.lender put in
    let written = c.get_mut.follows.holds put in
    subst (λ (was : WordLists). Adds was.levels (names_with (λ (n : Named). n.level) new.entries) (c.args.name.items ∷ [])) c.self.view_is
    (subst (λ name. Adds (names_with (λ (n : Named). n.level) c.self.inside.names.entries) (names_with (λ (n : Named). n.level) new.entries) (name ∷ [])) c.as_slice.ensures.value
    (adds_name c.self.inside.names new c.as_slice.result.now put (λ n. n.level) c.self.invariant written.4 (written.3 (search rules)) refl))

pub returns-in-Some-clause-symbols : goal.returns-in-Some-clause-symbols
returns-in-Some-clause-symbols c =
    let put : Named = record { symbol = c.in-Some.named.now.symbol; level = true } in
    let new = c.get_mut.follows.lender put in
    let written = c.get_mut.follows.holds put in
    subst (λ (was : WordLists). SameNames was.symbols (names_with (λ (n : Named). n.symbol) new.entries)) c.self.view_is
    (keeps_names c.self.inside.names new c.as_slice.result.now put (λ n. n.symbol) c.self.invariant written.4 (written.3 (search rules)) (ap (λ o. option_map_or (λ n. n.symbol) o false) c.in-Some.ensures.value))

pub returns-in_ok-insert-in-None-clause-levels : goal.returns-in_ok-insert-in-None-clause-levels
returns-in_ok-insert-in-None-clause-levels c =
    let put : Named = record { symbol = false; level = true } in
    let new = c.insert.new.self in
    let updates = subst (λ m. UpdatesBy same_word (is_word c.args.name.items) m new (Some put)) c.get_mut.follows.holds-at-none c.in_ok-insert-in-None.ensures.updates in
    subst (λ (was : WordLists). Adds was.levels (names_with (λ (n : Named). n.level) new.entries) (c.args.name.items ∷ [])) c.self.view_is
    (adds_name c.self.inside.names new c.args.name.items put (λ n. n.level) c.self.invariant c.in_ok-insert-in-None.ensures.unique updates refl)

pub returns-in_ok-insert-in-None-clause-symbols : goal.returns-in_ok-insert-in-None-clause-symbols
returns-in_ok-insert-in-None-clause-symbols c =
    let put : Named = record { symbol = false; level = true } in
    let new = c.insert.new.self in
    let updates = subst (λ m. UpdatesBy same_word (is_word c.args.name.items) m new (Some put)) c.get_mut.follows.holds-at-none c.in_ok-insert-in-None.ensures.updates in
    subst (λ (was : WordLists). SameNames was.symbols (names_with (λ (n : Named). n.symbol) new.entries)) c.self.view_is
    (keeps_names c.self.inside.names new c.args.name.items put (λ n. n.symbol) c.self.invariant c.in_ok-insert-in-None.ensures.unique updates (
    ap (λ o. option_map_or (λ (n : Named). n.symbol) o false) c.in-None.ensures.value
    ∙ ap (λ w. option_map_or (λ (n : Named). n.symbol) (lookup (is_word w) c.self.inside.names.entries) false) c.as_slice.ensures.value
    ))
