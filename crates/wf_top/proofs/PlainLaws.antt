-- How `plain` ends.
use Rattle.std.proofs.Common.{◌≡◌, ◌∙◌, sym, ap, refl, subst, ℕ, List, [], ◌∷◌, drop, Option, Some, None, Result, Ok, Err, inl, inr, arith}
use Rattle.wf_io.specs.Files.{Told, Rose}
use Rattle.wf_model.specs.KeptLines.{Defines}
use Rattle.wf_model.specs.Files.{Files, StoreCall}
use Rattle.wf_model.specs.StoreRuns.{Ran, Stopped, IsPrefix, FirstMayLeave}
use Rattle.wf_model.specs.Failed.{Failed, IsFailed, FirstFails}
use Rattle.wf_model.specs.Refusals.{Refusal}
use Rattle.wf_model.specs.Outcome.{RunData}
use Rattle.wf_model.specs.Answer.{Answer, Outside, refused}
use Rattle.wf_model.proofs.StoreRunLaws.{told_then, told_weaker, prefix_none}
use Rattle.wf_setup.specs.Asked.{OnlyRead}
use Rattle.wf_setup.proofs.Stores.{rose_later}
use Rattle.wf_top.specs.Ends.{CallsEnded, store_text, memory_text}
use Rattle.wf_top.specs.Plain.{plain_answer, run_read, whole_answer, answer_to, PlainEnded}
use Rattle.wf_top.proofs.RunLaws.{answer_is}

-- ---- the calls of an answer

first_stops : (name : List ℕ) (calls : List StoreCall) (m n : Files) → FirstFails name calls m n → FirstMayLeave calls m n
first_stops name [] m n none = none
first_stops name (c ∷ cs) m n fails = fails.1

failed_prefix : (calls : List StoreCall) (name : List ℕ) (m n : Files) → IsFailed calls name m n → IsPrefix calls m n
failed_prefix calls name m n f = record { done = f.done; within = omega (arith, f.within); left = inr (first_stops name (drop f.done calls) _ n f.left) }

-- where a call failed, a first part was made
pub stopped_failed : (calls : List StoreCall) (name : List ℕ) (a b : Option Files) → Failed calls name a b → Stopped calls a b
stopped_failed calls name a b f = told_weaker a b (IsFailed calls name) (IsPrefix calls) f (failed_prefix calls name)

module _ (answer : Answer) (fs gs : Option Files) (before after : ℕ) (failed : List ℕ) (Says : ℕ → List ℕ → Type 0) where
  -- an answer was given whole
  pub calls_made : (a : Answer) (text : List ℕ) → a ≡ answer → Ran a.calls fs gs → text ≡ a.text → Says a.status text → CallsEnded answer fs gs before after failed Says
  calls_made a text is r t s = subst (λ (x : Answer). CallsEnded x fs gs before after failed Says) is (inl (record { files = r; said = subst (Says a.status) t s }))

  -- a call failed
  pub call_failed : (calls : List StoreCall) (name text : List ℕ) → calls ≡ answer.calls → Rose before after → failed ≡ name → Failed calls name fs gs → text ≡ store_text name → Says 9 text
      → CallsEnded answer fs gs before after failed Says
  call_failed calls name text is rose last f t s =
      inr (inl (record {
        counted = rose;
        files = subst (λ (cs : List StoreCall). Failed cs failed fs gs) is (subst (λ (n : List ℕ). Failed calls n fs gs) (sym last) f);
        said = subst (λ (n : List ℕ). Says 9 (store_text n)) (sym last) (subst (Says 9) t s);
      }))

  -- memory was wanting
  pub calls_lacked : (calls : List StoreCall) → calls ≡ answer.calls → Stopped calls fs gs → Says 10 memory_text → CallsEnded answer fs gs before after failed Says
  calls_lacked calls is stopped said = inr (inr (record { files = subst (λ (cs : List StoreCall). Stopped cs fs gs) is stopped; said = said }))

-- ---- files were read before

told_read : (a b c : Option Files) (P : Files → Files → Type 0) → Told a b (λ m n. n ≡ m) → Told b c P → Told a c P
told_read a b c P same told = told_then a b c (λ m n. n ≡ m) P P same told (λ m n k e p. subst (λ (x : Files). P x k) e p)

calls_later : (answer : Answer) (fs hs gs : Option Files) (before between after : ℕ) (failed : List ℕ) (Says : ℕ → List ℕ → Type 0) → OnlyRead fs hs before between
    → CallsEnded answer hs gs between after failed Says → CallsEnded answer fs gs before after failed Says
calls_later answer fs hs gs before between after failed Says only (inl whole) =
    inl (record { files = told_read fs hs gs _ only.same whole.files; said = whole.said })
calls_later answer fs hs gs before between after failed Says only (inr (inl fault)) =
    inr (inl (record { counted = rose_later before between after only.later fault.counted; files = told_read fs hs gs _ only.same fault.files; said = fault.said }))
calls_later answer fs hs gs before between after failed Says only (inr (inr lack)) =
    inr (inr (record { files = told_read fs hs gs _ only.same lack.files; said = lack.said }))

-- ---- the command

-- what is read of a store that tells its files
reading : Outside → Defines → Option Files → Result RunData Refusal
reading outside defines None = Err (record { status = 0; line = [] })
reading outside defines (Some m) = run_read outside m defines

reading_is : (outside : Outside) (defines : Defines) (fs : Option Files) (m : Files) → fs ≡ Some m → answer_to (reading outside defines fs) ≡ plain_answer outside m defines
unfolding reading
reading_is outside defines fs m e = ap (λ (o : Option Files). answer_to (reading outside defines o)) e ∙ answer_is outside m defines

module _ (outside : Outside) (defines : Defines) (fs gs : Option Files) (before after : ℕ) (failed : List ℕ) (Says : ℕ → List ℕ → Type 0) where
  -- all was read
  pub plain_ran : (hs : Option Files) (between : ℕ) (r : RunData) → ((m : Files) → fs ≡ Some m → run_read outside m defines ≡ Ok r) → OnlyRead fs hs before between
      → CallsEnded (whole_answer r) hs gs between after failed Says → PlainEnded outside defines fs gs before after failed Says
  plain_ran hs between r is only ended =
      inl (record {
        answer = whole_answer r;
        is = record { read = Ok r; of_read = refl; told = λ m e. ap answer_to (sym (is m e)) ∙ answer_is outside m defines };
        ended = calls_later (whole_answer r) fs hs gs before between after failed Says only ended;
      })

  -- a file is refused
  pub plain_refused : (x : Refusal) (text : List ℕ) → ((m : Files) → fs ≡ Some m → run_read outside m defines ≡ Err x) → OnlyRead fs gs before after
      → text ≡ x.line → Says x.status text → PlainEnded outside defines fs gs before after failed Says
  plain_refused x text is only same said =
      inl (record {
        answer = refused x;
        is = record { read = Err x; of_read = refl; told = λ m e. ap answer_to (sym (is m e)) ∙ answer_is outside m defines };
        ended = inl (record { files = only.same; said = subst (Says x.status) same said });
      })

  -- memory was wanting
  pub plain_lacked : OnlyRead fs gs before after → Says 10 memory_text → PlainEnded outside defines fs gs before after failed Says
  plain_lacked only said =
      inl (record {
        answer = answer_to (reading outside defines fs);
        is = record { read = reading outside defines fs; of_read = refl; told = reading_is outside defines fs };
        ended = inr (inr (record {
          files = told_weaker fs gs (λ m n. n ≡ m) (IsPrefix (answer_to (reading outside defines fs)).calls) only.same (prefix_none (answer_to (reading outside defines fs)).calls);
          said = said;
        }));
      })
