-- The demo's script.
use Rattle.std.proofs.Common.{◌≡◌, ℕ, ◌+◌, ◌*◌, ◌/◌, ◌%◌, ◌-◌, List, [], ◌∷◌, false, refl, ap, arith}
use Rattle.std.specs.List.{range_with_len}
use Rattle.wf_model.specs.declared.initial.Begin.{Begin}
use Rattle.wf_model.specs.Letters.{Text}
use Rattle.wf_model.specs.Value.{Answers}
use Rattle.wf_model.specs.Plans.{domain_of, begin_of, children}
use Rattle.wf_model.specs.declared.script.Act.TheVariants.{Emit}
use Rattle.wf_model.specs.declared.script.Entry.{Entry}
use Rattle.wf_model.specs.Script.{entry, step_of, script_of}
use Rattle.wf_model.specs.Outcome.{script}
use Rattle.wf_model.specs.DemoCase.{case_start, demo_plan}
use Rattle.wf_demo_laws.specs.DemoLaws.{demo_run, step_entries, demo_script}
use Rattle.wf_demo_laws.proofs.Parts.{flat_map-same}

-- of a domain that does not resume
abbrev pub fresh : Text → List Begin
fresh text = record { steps = 0; start_text = text; resumed = false } ∷ []

module _ (nx ny steps : ℕ) (text : Text) where
  -- one step's items
  demo_step : (n : ℕ) → step_of (demo_plan nx ny steps) (fresh text) 1 1 (n * 60) ≡ step_entries n
  unfolding step_of domain_of begin_of children
  demo_step n =
      let behind : 0 + (n * 60 - 0) / 60 ≡ n = omega arith in
      let due : (n + 1) % 1 ≡ 0 = omega arith in
      let begins : n * 60 ≡ 60 * n = omega arith in
      let ends : 60 * n + 60 ≡ 60 * (n + 1) = omega arith in
      rw (behind, due, behind, begins, ends) (refl {a = step_entries n})

  -- and all items
  pub fresh-steps : script_of (demo_plan nx ny steps) (fresh text) ≡ demo_script steps
  unfolding script_of domain_of begin_of
  fresh-steps = ap (λ (es : List Entry). entry 1 0 0 (Emit 0) ∷ es) (flat_map-same (λ n. step_of (demo_plan nx ny steps) (fresh text) 1 1 (n * 60)) step_entries (range_with_len 0 steps) demo_step)

-- those of the demo's run
pub script-steps : (nx ny steps : ℕ) (m : Answers) → script (demo_run nx ny steps m) ≡ demo_script steps
script-steps nx ny steps m = fresh-steps nx ny steps case_start
