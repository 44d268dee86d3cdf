-- What an ifdef makes of the place of the next line.
use Rattle.std.proofs.Common.{◌≡◌, ℕ, ◌+◌, ◌<◌, Bool, true, false, cond, Option, Some, None, Result, Ok, Err, refl, arith}
use Rattle.std.specs.Prelude.{◌==◌, not, nat_le, codes}
use Rattle.std.proofs.lemmas.Bool.Decides.{nat_tests}
use Rattle.wf_model.specs.declared.registry.RegistryKind.TheVariants.{Columns, UnclosedIf}
use Rattle.wf_model.specs.Letters.{Text}
use Rattle.wf_model.specs.Reading.{◌>>=◌}
use Rattle.wf_model.specs.KeptLines.{Defines, Includes, Met, Stop, Within, after_condition, columns, condition, first_column, holds, is_condition, is_kind, kind_word, most_lines, one_line, stop, texts}
use Rattle.wf_registry_lines.specs.Ahead.{Marked, entered_met, next_met}
use Rattle.wf_registry_lines.specs.Conditions.{condition_kind, deeper_kind, judged}
use Rattle.wf_registry_lines.specs.Kinds.{kind_of}
use Rattle.wf_registry_lines.specs.Met.{within_in}
use Rattle.wf_registry_lines.specs.declared.condition.Conditions.{Conditions}
use Rattle.wf_registry_lines.specs.declared.kind.Kind.TheVariants as kinds

-- the next line stands there, and nothing more is met
abbrev entering : Met → Result Within Stop → Result (Met × Within) Stop
entering met read = read >>= λ v. Ok (met, v)

module _ (defines : Defines) (met : Met) (file : Text) (n : ℕ) (c : Conditions) where
  -- whether the column is a condition, and whether it holds
  judged_read : (is holds : Bool)
      → entering met (cond is (Ok (after_condition (within_in c) holds)) (stop met file n Columns)) ≡ entered_met met file n (judged c (cond is (Some holds) None))
  judged_read true true = refl
  judged_read true false = refl
  judged_read false holds = refl

  -- the column of an ifdef in lines that are kept
  column_read : (column : Option Text) → entering met (condition defines met file n (within_in c) column) ≡ entered_met met file n (condition_kind defines c column)
  column_read None = refl
  column_read (Some word) = judged_read (is_condition word) (holds defines word)

  -- whether the ifdef stands in lines that are dropped, and whether its endif follows
  nested_read : (column : Option Text) (dropped closed : Bool)
      → entering met (cond dropped (Ok (record { keeping = c.keeping; dropping = c.dropping + 1 })) (cond closed (condition defines met file n (within_in c) column) (stop met file n UnclosedIf)))
      ≡ entered_met met file n (cond dropped (Ok (record { keeping = c.keeping; dropping = c.dropping + 1 })) (cond closed (condition_kind defines c column) (Err UnclosedIf)))
  nested_read column true closed = refl
  nested_read column false true = column_read column
  nested_read column false false = refl

-- the first word is `ifdef`
is_ifdef : (a b d e : Bool) → cond a kinds.Ifdef (cond b kinds.Endif (cond d kinds.Include (cond e kinds.Dimspec kinds.Other))) ≡ kinds.Ifdef → a ≡ true
is_ifdef true b d e h = refl
is_ifdef false true d e h = absurd cc
is_ifdef false false true e h = absurd cc
is_ifdef false false false true h = absurd cc
is_ifdef false false false false h = absurd cc

few : (most n : ℕ) → n < most → nat_le most n ≡ false
few most n lt = grind (arith, nat_tests)

-- an ifdef is the next line
pub ifdef_read : (defines : Defines) (include : Includes) (file : Text) (met : Met) (c : Conditions) (a : Marked)
    → met.lines < most_lines → kind_of (kind_word (texts a.line)) ≡ kinds.Ifdef
    → next_met defines include file met (within_in c) a ≡ entered_met (one_line met) file a.line.number (deeper_kind defines a.line a.closed c)
ifdef_read defines include file met c a lt is =
    let few_lines : nat_le most_lines met.lines ≡ false = few most_lines met.lines lt in
    let ifdef : is_kind (codes "ifdef") a.line ≡ true = is_ifdef (is_kind (codes "ifdef") a.line) (is_kind (codes "endif") a.line) (is_kind (codes "include") a.line) (is_kind (codes "dimspec") a.line) is in
    rw (few_lines, ifdef) (nested_read defines (one_line met) file a.line.number c (first_column (columns (texts a.line))) (not (c.dropping == 0)) a.closed)
