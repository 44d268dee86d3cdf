-- How any command of `wrftool` ends.
use Rattle.std.specs.Prelude.{ℕ, Bool, true, false, List, Option, Result, Ok, Err, codes}
use Rattle.std.specs.Str.{bytes_eq}
use Rattle.wf_model.specs.Letters.{Text}
use Rattle.wf_model.specs.KeptLines.{Defines}
use Rattle.wf_model.specs.Files.{Files}
use Rattle.wf_model.specs.Answer.{Outside}
use Rattle.wf_model.specs.Demo.{word_at, usage, tool_answer}
use Rattle.wf_words.specs.Commands.{check_words, plain_words}
use Rattle.wf_top.specs.Ends.{Ended}
use Rattle.wf_top.specs.Checks.{CheckEnded}
use Rattle.wf_top.specs.Plain.{PlainEnded}

-- of the store: its files and its count of faults, before and after, and the name of its last call
-- where that call failed; and what was said
abbrev pub Ending : Type 1
Ending = Option Files → Option Files → ℕ → ℕ → List ℕ → (ℕ → List ℕ → Type 0) → Type 0

-- by the words after a command: with the names that they define, or as words that are none of
-- the command
abbrev pub WordsEnded : (Defines → Ending) → Result Defines (Unit {0}) → Ending
WordsEnded EndedWith (Ok defines) = EndedWith defines
WordsEnded EndedWith (Err none) = Ended usage

-- the first word is this one
abbrev pub is_command : Text → List Text → Bool
is_command name words = bytes_eq (word_at words 0) name

-- whether it is `check`, and whether it is `plain`
abbrev pub EndedAs : Outside → (is_check is_plain : Bool) → List Text → Ending
EndedAs outside true plain words = WordsEnded (CheckEnded outside.hooks) (check_words words)
EndedAs outside false true words = WordsEnded (PlainEnded outside) (plain_words words)
EndedAs outside false false words = Ended (tool_answer words)

-- how a command ends, by its words and by the stored functions
abbrev pub ToolEnded : Outside → List Text → Ending
ToolEnded outside words =
    EndedAs outside (is_command (codes "check") words) (is_command (codes "plain") words) words
