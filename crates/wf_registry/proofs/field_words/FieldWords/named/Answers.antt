-- What the map has for a word says whether the word is among each of the two lists.
use Rattle.std.proofs.Common.{◌∙◌, ap, sym, false}
use Rattle.std.specs.Option.{option_map_or}
use Rattle.wf_model.specs.Letters.{is_among}
use Rattle.wf_registry.specs.FieldWords.{WordLists}
use Rattle.wf_registry.specs.declared.field_words.Named.{Named}
use Rattle.wf_registry.proofs.WordLemmas.{among_is}
use Rattle.wf_registry.proofs.field_words.FieldWords.named.Goals as goal

pub returns-in-Some-clause-symbol : goal.returns-in-Some-clause-symbol
returns-in-Some-clause-symbol c =
    ap (λ o. option_map_or (λ (n : Named). n.symbol) o false) c.in-Some.ensures.value
    ∙ sym (among_is (λ (n : Named). n.symbol) c.args.word.now c.self.inside.names.entries c.self.invariant)
    ∙ ap (λ (v : WordLists). is_among c.args.word.now v.symbols) c.self.view_is

pub returns-in-Some-clause-level : goal.returns-in-Some-clause-level
returns-in-Some-clause-level c =
    ap (λ o. option_map_or (λ (n : Named). n.level) o false) c.in-Some.ensures.value
    ∙ sym (among_is (λ (n : Named). n.level) c.args.word.now c.self.inside.names.entries c.self.invariant)
    ∙ ap (λ (v : WordLists). is_among c.args.word.now v.levels) c.self.view_is

pub returns-in-None-clause-symbol : goal.returns-in-None-clause-symbol
returns-in-None-clause-symbol c =
    ap (λ o. option_map_or (λ (n : Named). n.symbol) o false) c.in-None.ensures.value
    ∙ sym (among_is (λ (n : Named). n.symbol) c.args.word.now c.self.inside.names.entries c.self.invariant)
    ∙ ap (λ (v : WordLists). is_among c.args.word.now v.symbols) c.self.view_is

pub returns-in-None-clause-level : goal.returns-in-None-clause-level
returns-in-None-clause-level c =
    ap (λ o. option_map_or (λ (n : Named). n.level) o false) c.in-None.ensures.value
    ∙ sym (among_is (λ (n : Named). n.level) c.args.word.now c.self.inside.names.entries c.self.invariant)
    ∙ ap (λ (v : WordLists). is_among c.args.word.now v.levels) c.self.view_is
