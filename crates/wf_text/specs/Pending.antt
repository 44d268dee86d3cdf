-- A logical line that goes on.
use Rattle.std.specs.Prelude.{ℕ, List, ◌++◌, Option, Some, None}
use Rattle.wf_model.specs.declared.text.TextFault.{TextFault}
use Rattle.wf_model.specs.declared.text.TextFault.TheVariants.{DanglingBackslash}
use Rattle.wf_model.specs.declared.text.Word.{Word}
use Rattle.wf_text.specs.declared.logical.Pending.{Pending}

-- the number of the logical line that the physical line with this number belongs to
abbrev pub first_of : Option Pending → ℕ → ℕ
first_of None number = number
first_of (Some p) number = p.number

-- the words of that logical line up to these
abbrev pub words_so_far : Option Pending → List Word → List Word
words_so_far None words = words
words_so_far (Some p) words = p.words.items ++ words

-- the fault of a text that ends at the physical line with this number
abbrev pub unfinished : Option Pending → ℕ → Option TextFault
unfinished None number = None
unfinished (Some p) number = Some (DanglingBackslash number)
