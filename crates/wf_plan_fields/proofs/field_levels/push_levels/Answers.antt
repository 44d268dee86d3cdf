use Rattle.std.proofs.Common.{[], ◌∷◌, ◌++◌, if◌then◌else◌, sym, ap, ◌∙◌, append_assoc}
use Rattle.wf_plan_fields.proofs.field_levels.push_levels.Goals as goal

pub returns-in_ok-push_level-2-clause-extents : goal.returns-in_ok-push_level-2-clause-extents
returns-in_ok-push_level-2-clause-extents c =
    let z = c.args.common.now.shape.extent in
    c.in_ok-push_level-2.ensures.extents ∙ ap (λ r. r ++ z ∷ []) c.in_ok-push_level.ensures.extents ∙ append_assoc c.args.made.now.extents.items (z ∷ []) (z ∷ [])
    ∙ ap (λ t. c.args.made.now.extents.items ++ (if t then z ∷ z ∷ [] else z ∷ [])) (sym c.if-two.true)
