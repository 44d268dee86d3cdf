-- What a factor begins with.
use Rattle.std.specs.Prelude.{ℕ, ◌<◌, if◌then◌else◌, codes}
use Rattle.std.specs.Str.{bytes_eq}
use Rattle.wf_model.specs.Letters.{Text, is_digits}
use Rattle.wf_table.specs.declared.start.Start.{Start}
use Rattle.wf_table.specs.declared.start.Start.TheVariants as start

-- by the text of its first token in lower case, where it is a word
unfoldable pub word_start : Text → Start
word_start word =
    if bytes_eq word (codes "i") then start.I
    else (if bytes_eq word (codes "j") then start.J
    else (if bytes_eq word (codes "k") then start.K
    else (if bytes_eq word (codes "step") then start.Step
    else (if bytes_eq word (codes "min") then start.Min
    else (if bytes_eq word (codes "max") then start.Max
    else (if bytes_eq word (codes "if") then start.If
    else (if bytes_eq word (codes "call") then start.Call
    else start.Field)))))))

-- by any text
unfoldable pub start_of : Text → Start
start_of word =
    if bytes_eq word (codes "(") then start.Parenthesis
    else (if bytes_eq word (codes "-") then start.Minus
    else (if is_digits word then start.Digits
    else word_start word))

-- where a factor begins with a word of the language, there is a token
abbrev pub HasToken : Start → ℕ → Type 0
HasToken start.Field n = Unit {0}
HasToken other n = 0 < n
