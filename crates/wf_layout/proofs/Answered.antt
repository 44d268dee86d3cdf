-- The answer of a layout by what its tests found.
use Rattle.std.proofs.Common.{◌≡◌, ℕ, Option, Some, None, Result, Ok, Err, ap, ◌∙◌}
use Rattle.wf_model.specs.declared.config.Config.{Config}
use Rattle.wf_model.specs.declared.plan.Plan.{Plan}
use Rattle.wf_model.specs.declared.layout.Layout.{Layout}
use Rattle.wf_model.specs.declared.plan_fault.LayoutFault.{LayoutFault}
use Rattle.wf_model.specs.Reading.{first_fault, unless_fault}
use Rattle.wf_model.specs.PlanOf.{layout_of, layout_from, layout_faults}

answer : (config : Config) (plan : Plan) (workers : ℕ) (l : Layout) (found : Option LayoutFault) → l ≡ layout_from config workers → found ≡ first_fault (layout_faults plan l) → unless_fault found l ≡ layout_of config plan workers
unfolding layout_of
answer config plan workers l found asked is = ap (λ o. unless_fault o l) is ∙ ap (λ m. unless_fault (first_fault (layout_faults plan m)) m) asked

pub refused : (config : Config) (plan : Plan) (workers : ℕ) (l : Layout) (fault : LayoutFault) → l ≡ layout_from config workers → Some fault ≡ first_fault (layout_faults plan l)
    → ◌≡◌ {A = Result Layout LayoutFault} (Err fault) (layout_of config plan workers)
refused config plan workers l fault asked is = answer config plan workers l (Some fault) asked is

pub given : (config : Config) (plan : Plan) (workers : ℕ) (l : Layout) → l ≡ layout_from config workers → None ≡ first_fault (layout_faults plan l)
    → ◌≡◌ {A = Result Layout LayoutFault} (Ok l) (layout_of config plan workers)
given config plan workers l asked is = answer config plan workers l None asked is
