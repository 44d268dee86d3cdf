-- What is known of a store over a folder.
use Rattle.std.specs.Prelude.{ℕ, List}

-- the folder, how many faults there were, and the name of the last call where it answered `Fault`,
-- and else no text
pub record FolderState : Type 0 where
  pub folder : List ℕ
  pub faults : ℕ
  pub failed : List ℕ
