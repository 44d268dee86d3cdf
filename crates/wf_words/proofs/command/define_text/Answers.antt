use Rattle.std.proofs.Common.{ap, subst, refl, sym, codes, true, List, [], map, ◌≡◌, ◌∙◌, inl, inr}
use Rattle.std.specs.String.{string_bytes}
use Rattle.clap.specs.Words.{app_of, fault_of, found_of, is_simple, is_simple_and_free, matches_of, first_of, rows_of, kind_of, HasKind, IsAmong, Kinds, Text}
use Rattle.clap.specs.declared.error.Error.{Error}
use Rattle.clap.specs.declared.error.ErrorKind.TheVariants as kind
use Rattle.clap.proofs.WalkLemmas.{first_value-rows}
use Rattle.wf_words.specs.Commands.{command_app, refusals, define_text}
use Rattle.wf_words.proofs.command.define_text.Goals as goal

free : (name : Text) → is_simple_and_free (command_app name) ≡ true
unfolding command_app
free name = refl

simple : (name : Text) → is_simple (command_app name) ≡ true
unfolding command_app
simple name = refl

memory_alone : (kinds : Kinds) (e : Error) → HasKind kinds e → kinds ≡ [] → kind_of e ≡ kind.OutOfMemory
memory_alone kinds e (inl memory) none = memory
memory_alone kinds e (inr among) none = absurd (subst (IsAmong (kind_of e)) none among)

pub returns-in-Ok-try_get_matches_from-clause-grammar : goal.returns-in-Ok-try_get_matches_from-clause-grammar
unfolding refusals
returns-in-Ok-try_get_matches_from-clause-grammar c =
    let made = c.in-Ok.ensures in
    ap (λ a. fault_of a (map string_bytes c.args.words.now)) (sym made) ∙ c.in-Ok-try_get_matches_from.ensures.kinds (ap is_simple_and_free made ∙ free c.args.name.now)

pub returns-in-Ok-try_get_matches_from-clause-text : goal.returns-in-Ok-try_get_matches_from-clause-text
unfolding define_text
returns-in-Ok-try_get_matches_from-clause-text c =
    let made = c.in-Ok.ensures in
    let words : List Text = map string_bytes c.args.words.now in
    let rows : rows_of (found_of c.in-Ok-try_get_matches_from.matches) ≡ matches_of (command_app c.args.name.now) words =
    (c.in-Ok-try_get_matches_from.ensures.matches (ap is_simple made ∙ simple c.args.name.now)).0 ∙ ap (λ a. matches_of a words) made in
    c.get_str.ensures ∙ first_value-rows (found_of c.in-Ok-try_get_matches_from.matches) (codes "define") ∙ ap (first_of (codes "define")) rows

pub returns-clause-usage : goal.returns-clause-usage
unfolding refusals
returns-clause-usage c = λ _ none.
    let made = c.in-Ok.ensures in
    let words : List Text = map string_bytes c.args.words.now in
    let same : fault_of (app_of c.in-Ok.command) words ≡ [] = ap (λ a. fault_of a words) made ∙ none in
    let memory = memory_alone _ c.in-Err-try_get_matches_from.error (c.in-Err-try_get_matches_from.ensures.kinds (ap is_simple_and_free made ∙ free c.args.name.now)) same in
    let is_memory : c.kind.result ≡ kind.OutOfMemory = c.kind.ensures ∙ memory in
    let bad = rw is_memory at c.eq.ensures in cc
