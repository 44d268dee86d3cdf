use Rattle.std.proofs.Common.{refl}
use Rattle.clap.proofs.OnLiterals.{clap_on_literals}
use Rattle.wf_words.specs.Commands.{command_app, refusals, define_text, defines_of, words_of_command}
use Rattle.wf_words.specs.WordsOf.{WordsOfCheck, WordsOfPlain}

pub words_of_check : WordsOfCheck
unfolding clap_on_literals command_app refusals define_text defines_of words_of_command
words_of_check = record {
  none = refl;
  one = refl;
  attached = refl;
  two_values = refl;
  lone_end = refl;
  empty_list = refl;
  no_value = refl;
  two_equals = refl;
  last_comma = refl;
  repeated = refl;
  no_list = refl;
  short = refl;
  other_option = refl;
  word = refl;
  help = refl;
}

pub words_of_plain : WordsOfPlain
unfolding clap_on_literals command_app refusals define_text defines_of words_of_command
words_of_plain = record {
  none = refl;
  one = refl;
  attached = refl;
  two_values = refl;
  lone_end = refl;
  empty_list = refl;
  no_value = refl;
  two_equals = refl;
  last_comma = refl;
  repeated = refl;
  no_list = refl;
  short = refl;
  other_option = refl;
  word = refl;
  help = refl;
}
