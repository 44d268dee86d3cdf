-- How `check` ends.
use Rattle.std.proofs.Common.{◌≡◌, sym, refl, subst, ℕ, List, Option, Some, None, Result, Contains, inl, inr}
use Rattle.wf_io.specs.Files.{Told}
use Rattle.wf_model.specs.declared.table.HookName.{HookName}
use Rattle.wf_model.specs.KeptLines.{Defines}
use Rattle.wf_model.specs.Files.{Files}
use Rattle.wf_model.specs.Letters.{Text}
use Rattle.wf_model.specs.Refusals.{Refusal}
use Rattle.wf_setup.specs.declared.cases.Case.{Case}
use Rattle.wf_setup.specs.Cases.{case_read}
use Rattle.wf_setup.specs.Asked.{OnlyRead}
use Rattle.wf_setup.specs.Errors.{IsFault}
use Rattle.wf_top.specs.Ends.{ReadFailed, store_text, memory_text}
use Rattle.wf_top.specs.Checks.{read_answer, CheckEnded}

-- nothing was done
pub told_same : (a : Option Files) → Told a a (λ m n. n ≡ m)
told_same None = tt
told_same (Some m) = refl

-- a call of the store failed while files were read
pub read_failed : (asked : Files → List Text) (fs gs : Option Files) (before after : ℕ) (failed : List ℕ) (Says : ℕ → List ℕ → Type 0) (name text : List ℕ)
    → IsFault before after failed name → ((m : Files) → fs ≡ Some m → Contains (asked m) name) → OnlyRead fs gs before after
    → text ≡ store_text name → Says 9 text → ReadFailed asked fs gs before after failed Says
read_failed asked fs gs before after failed Says name text fault among only same said = record {
  counted = fault.rose;
  name = λ m e. subst (λ (q : List ℕ). Contains (asked m) q) (sym fault.last) (among m e);
  files = only.same;
  said = subst (λ (q : List ℕ). Says 9 (store_text q)) (sym fault.last) (subst (Says 9) same said);
}

module _ (hooks : List HookName) (defines : Defines) (fs gs : Option Files) (before after : ℕ) (failed : List ℕ) (Says : ℕ → List ℕ → Type 0) where
  -- what was read was answered
  pub check_answered : (read : Result Case Refusal) (text : List ℕ) → ((m : Files) → fs ≡ Some m → case_read hooks m defines ≡ read) → OnlyRead fs gs before after
      → text ≡ (read_answer read).text → Says (read_answer read).status text → CheckEnded hooks defines fs gs before after failed Says
  check_answered read text is only same said =
      inl (record { read = read; is = λ m e. sym (is m e); files = only.same; said = subst (Says (read_answer read).status) same said })

  -- memory was wanting
  pub check_lacked : OnlyRead fs gs before after → Says 10 memory_text → CheckEnded hooks defines fs gs before after failed Says
  check_lacked only said = inr (inr (record { files = only.same; said = said }))
