-- What a domain has done before a place of the script, since its start: its forces, its items of
-- the table, and the feedbacks of its nests.
use Rattle.std.specs.Prelude.{ℕ, ◌==◌, List, [], ◌∷◌, ◌++◌, fold, take, if◌then◌else◌}
use Rattle.wf_model.specs.declared.plan.Plan.{Plan}
use Rattle.wf_model.specs.declared.script.Act.{Act}
use Rattle.wf_model.specs.declared.script.Act.TheVariants.{Start, Force, Feedback, Table, Emit}
use Rattle.wf_model.specs.declared.script.Entry.{Entry}
use Rattle.wf_model.specs.Plans.{domain_of, item_of}
use Rattle.wf_model.specs.Outcome.{RunData, script}
use Rattle.wf_model.specs.Cycle.{Turn, forced, done, fed}

-- after an entry more, by its act. A domain that starts has done nothing
abbrev pub turns_act : Plan → ℕ → List Turn → Entry → Act → List Turn
turns_act plan d ts e Start = if e.domain == d then [] else ts
turns_act plan d ts e Force = if e.domain == d then ts ++ (forced ∷ []) else ts
turns_act plan d ts e Feedback =
    if (domain_of plan e.domain).parent == d then ts ++ (fed ∷ []) else ts
turns_act plan d ts e (Table n) = if e.domain == d then ts ++ (done (item_of plan n) ∷ []) else ts
turns_act plan d ts e (Emit s) = ts

abbrev pub turns_after : Plan → ℕ → List Turn → Entry → List Turn
turns_after plan d ts e = turns_act plan d ts e e.act

-- before a place
abbrev pub turns_at : RunData → ℕ → ℕ → List Turn
turns_at r d n = fold (turns_after r.plan d) [] (take n (script r))
