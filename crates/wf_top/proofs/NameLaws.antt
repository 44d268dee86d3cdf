-- The names by which an overflow is told.
use Rattle.std.proofs.Common.{◌≡◌, ◌∙◌, ap, ℕ, List, [], ◌∷◌, ◌++◌, map, slice_index_or, codes, refl, append_assoc}
use Rattle.std.proofs.Math.ListN.{get_or-map}
use Rattle.wf_model.specs.declared.plan.Field.{Field}
use Rattle.wf_model.specs.declared.plan.Plan.{Plan}
use Rattle.wf_model.specs.Letters.{Text}
use Rattle.wf_model.specs.Plans.{field_of, item_of, no_field, no_item}
use Rattle.wf_model.specs.Answer.{phase_name}

pub phase_at : (plan : Plan) (names : List Text) (n : ℕ) → names ≡ map phase_name plan.items → slice_index_or names n [] ≡ phase_name (item_of plan n)
unfolding item_of no_item
phase_at plan names n are = ap (λ (xs : List Text). slice_index_or xs n []) are ∙ get_or-map phase_name plan.items n no_item

pub field_at : (plan : Plan) (names : List Text) (f : ℕ) → names ≡ map (λ (x : Field). x.name) plan.fields → slice_index_or names f [] ≡ (field_of plan f).name
unfolding field_of no_field
field_at plan names f are = ap (λ (xs : List Text). slice_index_or xs f []) are ∙ get_or-map (λ (x : Field). x.name) plan.fields f no_field

-- a line that was put together from its parts
pub put_together : (domain step what field back : Text)
    → (codes "overflow " ++ (domain ++ 32 ∷ (step ++ 32 ∷ []))) ++ what ++ (32 ∷ []) ++ field ++ (32 ∷ back)
    ≡ codes "overflow " ++ (domain ++ 32 ∷ (step ++ 32 ∷ (what ++ 32 ∷ (field ++ 32 ∷ back))))
put_together domain step what field back = simp append_assoc refl

-- parts that were put one behind another
pub one_by_one : (t0 t1 t2 t3 t4 front what field back : Text) → t0 ≡ front → t1 ≡ t0 ++ what → t2 ≡ t1 ++ (32 ∷ []) → t3 ≡ t2 ++ field → t4 ≡ t3 ++ back
    → t4 ≡ front ++ what ++ (32 ∷ []) ++ field ++ back
one_by_one t0 t1 t2 t3 t4 front what field back e0 e1 e2 e3 e4 = cc
