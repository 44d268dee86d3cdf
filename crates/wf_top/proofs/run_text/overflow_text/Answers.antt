use Rattle.std.proofs.Common.{◌≡◌, ap, ◌∙◌, ◌++◌, ◌∷◌, [], codes, decimal}
use Rattle.wf_model.specs.Letters.{Text}
use Rattle.wf_model.specs.Plans.{field_of}
use Rattle.wf_model.specs.Answer.{what_name}
use Rattle.wf_top.proofs.NameLaws.{field_at, one_by_one, put_together}
use Rattle.wf_top.proofs.run_text.overflow_text.Goals as goal

pub returns : goal.returns
returns c = λ plan are.
    let p = c.args.point.now in
    let what = what_name plan p.what in
    let field = (field_of plan p.field).name in
    let t0 : Text = c.in_ok-text.text.items in
    let t1 : Text = c.extend_from_slice.new.self.items in
    let t2 : Text = c.push.new.self.items in
    let t3 : Text = c.extend_from_slice-2.new.self.items in
    let t4 : Text = c.extend_from_slice-3.new.self.items in
    let front : Text = codes "overflow " ++ (decimal p.domain ++ 32 ∷ (decimal p.step ++ 32 ∷ [])) in
    let back : Text = 32 ∷ (decimal p.k ++ 32 ∷ (decimal p.j ++ 32 ∷ (decimal p.i ++ 10 ∷ []))) in
    let e0 : t0 ≡ front = c.in_ok-text.ensures.items ∙ c.as_bytes.ensures.value ∙ c.in_ok-front.ensures in
    let e1 : t1 ≡ t0 ++ what = c.in_ok-extend_from_slice.ensures.items ∙ ap (λ (x : Text). t0 ++ x) (c.what.ensures plan are) in
    let e2 : t2 ≡ t1 ++ (32 ∷ []) = c.in_ok-push.ensures.items in
    let named : c.name_at.result.now ≡ field = c.name_at.ensures ∙ field_at plan c.as_slice.result.now p.field (c.as_slice.ensures ∙ are.fields) in
    let e3 : t3 ≡ t2 ++ field = c.in_ok-extend_from_slice-2.ensures.items ∙ ap (λ (x : Text). t2 ++ x) named in
    let e4 : t4 ≡ t3 ++ back = c.in_ok-extend_from_slice-3.ensures.items ∙ ap (λ (x : Text). t3 ++ x) (c.as_bytes-2.ensures.value ∙ c.in_ok-back.ensures) in
    one_by_one t0 t1 t2 t3 t4 front what field back e0 e1 e2 e3 e4
    ∙ put_together (decimal p.domain) (decimal p.step) what field (decimal p.k ++ 32 ∷ (decimal p.j ++ 32 ∷ (decimal p.i ++ 10 ∷ [])))
