-- The demo's answer is that of its command.
use Rattle.std.proofs.Common.{◌≡◌, ⊎_elim, ◌<◌, ◌≤◌, ◌++◌, sym, ap, ◌∙◌, arith, Result, Ok, Err}
use Rattle.std.proofs.lemmas.Bool.Decides.{nat_tests}
use Rattle.std.specs.Prelude.{nat_lt, if◌then◌else◌}
use Rattle.wf_model.specs.declared.demo.Demo.{Demo}
use Rattle.wf_model.specs.declared.layout.Layout.{Layout}
use Rattle.wf_model.specs.declared.plan_fault.LayoutFault.{LayoutFault}
use Rattle.wf_model.specs.declared.plan_fault.LayoutFault.TheVariants.{TooManyPatches}
use Rattle.wf_model.specs.Files.{Files}
use Rattle.wf_model.specs.Outcome.{RunData}
use Rattle.wf_model.specs.Reading.{told_as}
use Rattle.wf_model.specs.Refusals.{layout_refusal}
use Rattle.wf_model.specs.DemoCase.{columns_layout}
use Rattle.wf_model.specs.Demo.{demo_calls, demo_summary, demo_memories, demo_answer}
use Rattle.wf_model.specs.Answer.{Answer, Outside, demo, refused, after, how, memory_text, summary_line, ended_as, run_answer, command_answer}
use Rattle.wf_laws.proofs.Bools.{split_bool}
use Rattle.wf_demo_laws.specs.DemoLaws.{demo_run}
use Rattle.wf_demo_laws.proofs.Grids.{demo_goes}
use Rattle.wf_demo_laws.proofs.Writes.{writes_of_demo, summary_of_demo}
use Rattle.wf_demo_laws.proofs.Report.{report_is}

module _ (outside : Outside) (files : Files) (d : Demo) (high : 1 ≤ d.ny) (some : 1 ≤ d.px) (few : d.steps < 1000) where
  abbrev run : RunData
  run = demo_run d.nx d.ny d.steps outside.answers

  -- with a patch for each column at most it goes through
  goes_through : d.px ≤ d.nx → run_answer run (columns_layout d.px) (how d.each) ≡
      record { status = 0; text = summary_line (demo_summary d) ++ memory_text (how d.each) (demo_memories d); calls = demo_calls d }
  unfolding run_answer
  goes_through room =
      let summary = summary_of_demo d outside.answers few in
      let memories = report_is d outside.answers high some room in
      let calls = writes_of_demo d outside.answers few in
      ap (ended_as run (columns_layout d.px) (how d.each)) (demo_goes d.nx d.ny d.steps outside.answers)
      ∙ (λ t. record { status = 0; text = summary_line (summary t) ++ memory_text (how d.each) (memories t); calls = calls t })

  -- and else both refuse
  pub answer_is : command_answer outside files (demo d.nx d.ny d.steps d.px d.each) ≡ demo_answer d
  unfolding demo_answer
  answer_is =
      let next : Layout → Answer = λ layout. run_answer run layout (how d.each) in
      let many : Result Layout LayoutFault = Err (TooManyPatches 1 d.px) in
      let shown : Answer = record { status = 0; text = summary_line (demo_summary d) ++ memory_text (how d.each) (demo_memories d); calls = demo_calls d } in
      ⊎_elim
      (λ t. (λ n. after (told_as layout_refusal (if t n then many else Ok (columns_layout d.px))) next) ∙ sym (λ n. if t n then refused (layout_refusal (TooManyPatches 1 d.px)) else shown))
      (λ t. let room : d.px ≤ d.nx = grind (arith, nat_tests) in
      (λ n. after (told_as layout_refusal (if t n then many else Ok (columns_layout d.px))) next) ∙ goes_through room ∙ sym (λ n. if t n then refused (layout_refusal (TooManyPatches 1 d.px)) else shown))
      (split_bool (nat_lt d.nx d.px))
