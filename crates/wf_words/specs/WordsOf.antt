-- What some words after the name of a command define.
use Rattle.std.specs.Prelude.{◌≡◌, [], ◌∷◌, Ok, Err, codes}
use Rattle.clap.specs.Words.{Text}
use Rattle.wf_words.specs.Commands.{words_of_command}

pub record WordsOf (name : Text) : Type 0 where
  pub none : words_of_command name (name ∷ []) ≡ Ok []
  pub one : words_of_command name (name ∷ codes "--define" ∷ codes "NMM=1" ∷ [])
      ≡ Ok ((codes "NMM", codes "1") ∷ [])
  pub attached : words_of_command name (name ∷ codes "--define=A=1,b_2=x" ∷ [])
      ≡ Ok ((codes "A", codes "1") ∷ (codes "b_2", codes "x") ∷ [])
  -- a name may have two values
  pub two_values : words_of_command name (name ∷ codes "--define" ∷ codes "A=1,A=2" ∷ [])
      ≡ Ok ((codes "A", codes "1") ∷ (codes "A", codes "2") ∷ [])
  pub lone_end : words_of_command name (name ∷ codes "--" ∷ []) ≡ Ok []
  pub empty_list : words_of_command name (name ∷ codes "--define=" ∷ []) ≡ Err tt
  pub no_value : words_of_command name (name ∷ codes "--define" ∷ codes "A=" ∷ []) ≡ Err tt
  pub two_equals : words_of_command name (name ∷ codes "--define" ∷ codes "A=1=2" ∷ []) ≡ Err tt
  pub last_comma : words_of_command name (name ∷ codes "--define" ∷ codes "A=1," ∷ []) ≡ Err tt
  pub repeated : words_of_command name
      (name ∷ codes "--define" ∷ codes "A=1" ∷ codes "--define=B=1" ∷ []) ≡ Err tt
  pub no_list : words_of_command name (name ∷ codes "--define" ∷ []) ≡ Err tt
  pub short : words_of_command name (name ∷ codes "--def" ∷ codes "A=1" ∷ []) ≡ Err tt
  pub other_option : words_of_command name (name ∷ codes "--memory" ∷ []) ≡ Err tt
  pub word : words_of_command name (name ∷ codes "more" ∷ []) ≡ Err tt
  pub help : words_of_command name (name ∷ codes "--help" ∷ []) ≡ Err tt

abbrev pub WordsOfCheck : Type 0
WordsOfCheck = WordsOf (codes "check")

abbrev pub WordsOfPlain : Type 0
WordsOfPlain = WordsOf (codes "plain")
