-- The words of a command that takes `--define LIST` alone, as a simple command of `clap`
-- reads them.
use Rattle.std.specs.Prelude.{ℕ, ◌+◌, ◌==◌, Bool, List, [], ◌∷◌, Option, Some, None, Result, Ok}
use Rattle.std.specs.Prelude.{Err, length, if◌then◌else◌, codes}
use Rattle.std.specs.Borrow.{Bor}
use Rattle.std.specs.List.{after_first, before_first, slice_split}
use Rattle.clap.specs.Words.{App, Kinds, Rule, Text, first_of, matches_of, new_app, new_rule}
use Rattle.clap.specs.Words.{with_rule, fault_of as clap_fault_of}
use Rattle.wf_model.specs.KeptLines.{Defines, is_condition, is_equals}
use Rattle.wf_model.specs.Reading.{each}
use Rattle.wf_words.specs.declared.error.WordsError.{WordsError}
use Rattle.wf_words.specs.declared.error.WordsError.TheVariants.{Usage, Memory}

-- an option with one value
abbrev pub option_rule : Text → Rule
option_rule name = record (new_rule name) { long = Some name }

-- the command of this name with its option
unfoldable pub command_app : Text → App
command_app name = with_rule (new_app name) (option_rule (codes "define"))

-- why the words, the command's name first, are refused: nothing where they are in the grammar
unfoldable pub refusals : Text → List Text → Kinds
refusals name words = clap_fault_of (command_app name) words

-- what stands behind `--define`
unfoldable pub define_text : Text → List Text → Option Text
define_text name words = first_of (codes "define") (matches_of (command_app name) words)

-- ---- names and values

-- `,` is 44
abbrev pub is_comma : ℕ → Bool
is_comma b = b == 44

-- NAME=VALUE, both of them names
abbrev pub pair_of : Text → Result (Text × Text) (Unit {0})
pair_of word = if is_condition word
    then Ok (before_first is_equals word, after_first is_equals word) else Err tt

-- pairs joined by commas
unfoldable pub defines_of : Text → Result Defines (Unit {0})
defines_of list = each pair_of (slice_split is_comma list)

abbrev pub asked_defines : Option Text → Result Defines (Unit {0})
asked_defines None = Ok []
asked_defines (Some list) = defines_of list

abbrev pub unless_refused : Kinds → Result Defines (Unit {0}) → Result Defines (Unit {0})
unless_refused [] defines = defines
unless_refused (k ∷ ks) defines = Err tt

-- the names that are defined, or the fault that the words are none of the command of this name
unfoldable pub words_of_command : Text → List Text → Result Defines (Unit {0})
words_of_command name words =
    unless_refused (refusals name words) (asked_defines (define_text name words))

abbrev pub check_words : List Text → Result Defines (Unit {0})
check_words = words_of_command (codes "check")

abbrev pub plain_words : List Text → Result Defines (Unit {0})
plain_words = words_of_command (codes "plain")

-- ---- as the code tells it

-- want of memory is no fault of the words
abbrev pub fault_of : WordsError → Option (Unit {0})
fault_of Usage = Some tt
fault_of Memory = None

-- the parts that are left
abbrev pub parts : Option (Bor Text) → List Text
parts None = []
parts (Some b) = slice_split is_comma b.now

abbrev pub left_of : Option (Bor Text) → ℕ
left_of None = 0
left_of (Some b) = length b.now + 1
