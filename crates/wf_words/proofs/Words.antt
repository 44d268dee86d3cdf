-- Words that are in the grammar, and others.
use Rattle.std.proofs.Common.{◌≡◌, ◌≢◌, List, [], ◌∷◌, Option, Err, refl, sym, ap, ◌∙◌}
use Rattle.clap.specs.Words.{Kinds, Text}
use Rattle.wf_model.specs.Reading.{Fails}
use Rattle.wf_words.specs.declared.error.WordsError.{WordsError}
use Rattle.wf_words.specs.declared.error.WordsError.TheVariants.{Usage, Memory}
use Rattle.wf_words.specs.Commands.{refusals, define_text, asked_defines, unless_refused, words_of_command, fault_of}

-- words in the grammar ask for what stands behind `--define`
pub accepted : (name : Text) (words : List Text) (list : Option Text) → refusals name words ≡ [] → list ≡ define_text name words → asked_defines list ≡ words_of_command name words
unfolding words_of_command
accepted name words list none is = ap asked_defines is ∙ sym (ap (λ kinds. unless_refused kinds (asked_defines (define_text name words))) none)

some_kind : (name : Text) (words : List Text) (kinds : Kinds) → kinds ≢ [] → unless_refused kinds (asked_defines (define_text name words)) ≡ Err tt
some_kind name words [] some = absurd (some refl)
some_kind name words (k ∷ ks) some = refl

-- others are refused, unless memory runs out
pub refused : (name : Text) (words : List Text) (e : WordsError) → (e ≡ Usage → refusals name words ≢ []) → Fails (fault_of e) (words_of_command name words)
unfolding words_of_command
refused name words Usage some = some_kind name words (refusals name words) (some refl)
refused name words Memory some = tt
