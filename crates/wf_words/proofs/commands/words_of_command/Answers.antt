use Rattle.std.proofs.Common.{◌≡◌, List, map, None, Some, Ok, sym, ap, ◌∙◌}
use Rattle.std.specs.Option.{option_map}
use Rattle.std.specs.String.{string_bytes}
use Rattle.clap.specs.Words.{Text}
use Rattle.wf_model.proofs.ReadingLemmas.{Gives-along}
use Rattle.wf_words.specs.Commands.{words_of_command, defines_of, define_text, fault_of}
use Rattle.wf_words.proofs.Words.{accepted, refused}
use Rattle.wf_words.proofs.commands.words_of_command.Goals as goal

pub returns-in-Ok-None : goal.returns-in-Ok-None
returns-in-Ok-None c =
    let name : Text = c.args.name.now in
    let words : List Text = map string_bytes c.args.words.now in
    let list : None ≡ define_text name words = ap (option_map (λ s. s.now)) (sym c.in-Ok-None.field-0-is) ∙ c.in-Ok-None.ensures.text in
    sym (accepted name words None c.in-Ok-None.ensures.grammar list) ∙ ap (λ xs. Ok xs) (sym c.new.ensures.items)

pub returns-in-Ok-Some : goal.returns-in-Ok-Some
returns-in-Ok-Some c =
    let name : Text = c.args.name.now in
    let words : List Text = map string_bytes c.args.words.now in
    let list : Some c.in-Ok-Some.list.now ≡ define_text name words = ap (option_map (λ s. s.now)) (sym c.in-Ok-Some.field-0-is) ∙ c.in-Ok-Some.ensures.text in
    Gives-along (λ v. v.items) fault_of c.defines.result (defines_of c.as_bytes.result.now) (words_of_command name words)
    (ap defines_of c.as_bytes.ensures.value ∙ accepted name words (Some c.in-Ok-Some.list.now) c.in-Ok-Some.ensures.grammar list) c.defines.ensures

pub returns-in-Err : goal.returns-in-Err
returns-in-Err c = refused c.args.name.now (map string_bytes c.args.words.now) c.in-Err.error c.in-Err.ensures.usage
