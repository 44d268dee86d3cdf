-- The answers of the top call, and how it ends.
use Rattle.std.proofs.Common.{◌≡◌, ℕ, ◌<◌, ◌≤◌, true, false, nat_lt, List, ◌++◌, Option, Some, None, refl, sym, subst, arith, inl, inr}
use Rattle.std.proofs.lemmas.Bool.Decides.{nat_tests}
use Rattle.wf_io.specs.Files.{Rose}
use Rattle.wf_model.specs.declared.demo.Demo.{Demo}
use Rattle.wf_model.specs.declared.plan_fault.LayoutFault.TheVariants.{TooManyPatches}
use Rattle.wf_model.specs.Files.{Files}
use Rattle.wf_model.specs.StoreRuns.{Ran, Stopped}
use Rattle.wf_model.specs.Refusals.{layout_refusal}
use Rattle.wf_model.specs.Answer.{Answer, refused, summary_line, memory_text, how}
use Rattle.wf_model.specs.Demo.{demo_file, demo_of, demo_calls, demo_summary, demo_memories, demo_answer, usage, tool_answer}
use Rattle.wf_top.specs.Told.{file_calls}
use Rattle.wf_model.specs.Failed.{Failed}
use Rattle.wf_top.specs.Ends.{Ended, store_text, memory_text as lacking_text}

-- ---- answers

abbrev pub whole_answer : Demo → Answer
whole_answer d = record { status = 0; text = summary_line (demo_summary d) ++ memory_text (how d.each) (demo_memories d); calls = demo_calls d }

pub too_many_is : (d : Demo) → d.nx < d.px → refused (layout_refusal (TooManyPatches 1 d.px)) ≡ demo_answer d
unfolding demo_answer
too_many_is d h = let e : nat_lt d.nx d.px ≡ true = grind (arith, nat_tests) in rw e refl

pub whole_is : (d : Demo) → d.px ≤ d.nx → whole_answer d ≡ demo_answer d
unfolding demo_answer
whole_is d h = let e : nat_lt d.nx d.px ≡ false = grind (arith, nat_tests) in rw e refl

pub usage_is : (words : List (List ℕ)) → None ≡ demo_of words → usage ≡ tool_answer words
unfolding tool_answer
usage_is words e = rw (← e) refl

pub asked_is : (words : List (List ℕ)) (d : Demo) → Some d ≡ demo_of words → demo_answer d ≡ tool_answer words
unfolding tool_answer
asked_is words d e = rw (← e) refl

-- ---- ends

module _ (fs gs : Option Files) (before after : ℕ) (failed : List ℕ) (Says : ℕ → List ℕ → Type 0) where
  -- an answer was given whole
  pub ended_whole : (a b : Answer) (text : List ℕ) → a ≡ b → Ran a.calls fs gs → text ≡ a.text → Says a.status text → Ended b fs gs before after failed Says
  ended_whole a b text is r t s = subst (λ (x : Answer). Ended x fs gs before after failed Says) is (inl (record { files = r; said = subst (Says a.status) t s }))

  -- a store call failed
  pub ended_failed : (a b : Answer) → a ≡ b → Rose before after → failed ≡ demo_file → Failed a.calls demo_file fs gs → Says 9 (store_text demo_file) → Ended b fs gs before after failed Says
  ended_failed a b is rose name r s =
      subst (λ (x : Answer). Ended x fs gs before after failed Says) is (inr (inl (record { counted = rose; name = name; files = subst (λ (n : List ℕ). Failed a.calls n fs gs) (sym name) r; said = subst (λ (n : List ℕ). Says 9 (store_text n)) (sym name) s })))

  -- memory was wanting
  pub ended_lacking : (a b : Answer) → a ≡ b → Stopped a.calls fs gs → Says 10 lacking_text → Ended b fs gs before after failed Says
  ended_lacking a b is r s = subst (λ (x : Answer). Ended x fs gs before after failed Says) is (inr (inr (record { files = r; said = s })))

-- the calls of a file of as many points are the demo's
pub ran_along : (d : Demo) (nx ny : ℕ) (a b : Option Files) → nx ≡ d.nx → ny ≡ d.ny → Ran (file_calls nx ny d.steps) a b → Ran (demo_calls d) a b
ran_along d nx ny a b p q r = subst (λ y. Ran (file_calls d.nx y d.steps) a b) q (subst (λ x. Ran (file_calls x ny d.steps) a b) p r)
