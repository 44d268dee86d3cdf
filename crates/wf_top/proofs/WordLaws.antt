-- How a command ends by the words after its name.
use Rattle.std.proofs.Common.{◌≡◌, sym, refl, subst, ℕ, List, [], Option, Result, Ok, Err}
use Rattle.wf_model.specs.KeptLines.{Defines}
use Rattle.wf_model.specs.Files.{Files}
use Rattle.wf_model.specs.Demo.{usage}
use Rattle.wf_model.proofs.StoreRunLaws.{ran_none, stopped_none}
use Rattle.wf_top.specs.Ends.{memory_text}
use Rattle.wf_top.specs.Tool.{Ending, WordsEnded}
use Rattle.wf_top.proofs.EndLaws.{ended_whole, ended_lacking}

module _ (EndedWith : Defines → Ending) (fs : Option Files) (before : ℕ) (failed : List ℕ) (Says : ℕ → List ℕ → Type 0) where
  -- the words are none of the command
  pub words_refused : (read : Result Defines (Unit {0})) → read ≡ Err tt → Says 1 usage.text → WordsEnded EndedWith read fs fs before before failed Says
  words_refused read is said =
      subst (λ (r : Result Defines (Unit {0})). WordsEnded EndedWith r fs fs before before failed Says) (sym is)
      (ended_whole fs fs before before failed Says usage usage usage.text refl (ran_none fs) refl said)

  -- memory was wanting for the words
  pub words_lacked : (read : Result Defines (Unit {0})) → ((defines : Defines) → EndedWith defines fs fs before before failed Says) → Says 10 memory_text
      → WordsEnded EndedWith read fs fs before before failed Says
  words_lacked (Ok defines) lacked said = lacked defines
  words_lacked (Err none) lacked said = ended_lacking fs fs before before failed Says usage usage refl (stopped_none [] fs) said

-- the words define these names
pub words_read : (EndedWith : Defines → Ending) (read : Result Defines (Unit {0})) (defines : Defines) (fs gs : Option Files) (before after : ℕ) (failed : List ℕ) (Says : ℕ → List ℕ → Type 0)
    → read ≡ Ok defines → EndedWith defines fs gs before after failed Says → WordsEnded EndedWith read fs gs before after failed Says
words_read EndedWith read defines fs gs before after failed Says is ended =
    subst (λ (r : Result Defines (Unit {0})). WordsEnded EndedWith r fs gs before after failed Says) (sym is) ended
