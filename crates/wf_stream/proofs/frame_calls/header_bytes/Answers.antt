use Rattle.std.proofs.Common.{refl, ◌≡◌, ℕ, List, IfOk, ap, subst, ◌∙◌}
use Rattle.wf_model.specs.declared.initial.Begin.{Begin}
use Rattle.wf_model.specs.declared.plan.Plan.{Plan}
use Rattle.wf_model.specs.Headers.{file_header}
use Rattle.wf_stream.proofs.HeaderLaws.{header_fits, header_is, long_header}
use Rattle.wf_stream.proofs.frame_calls.header_bytes.Goals as goal

pub returns-clause-bytes : goal.returns-clause-bytes
returns-clause-bytes g c =
    let is = header_is g.N.RunName.run c.args.frame.now c.plan.result.now c.begin-begin.result.now.start_text c.steps_at-steps.result c.in_ok-header.header c.place_vars.new.header
    c.plan.ensures (ap (λ (b : Begin). b.start_text) c.begin-begin.ensures) c.steps_at-steps.ensures c.in_ok-header.ensures c.in-Ok.ensures.placed in
    subst (λ (bytes : List ℕ). IfOk c.write_header.result (λ v. v.items ≡ bytes)) is c.write_header.ensures

pub returns-clause-long : goal.returns-clause-long
returns-clause-long g c = long_header c.write_header.result (λ v. v.items) c.place_vars.new.header c.write_header.ensures

pub unreachable-requires : goal.unreachable-requires
unreachable-requires g c =
    let header : c.in_ok-header.header ≡ file_header g.N.RunName.run.plan c.args.frame.now.domain c.args.frame.now.stream c.begin-begin.result.now.start_text c.steps_at-steps.result
    = c.in_ok-header.ensures ∙ ap (λ (p : Plan). file_header p c.args.frame.now.domain c.args.frame.now.stream c.begin-begin.result.now.start_text c.steps_at-steps.result) c.plan.ensures in
    header_fits g.N.RunName.run c.args.frame.now c.in_ok-header.header c.begin-begin.result.now.start_text c.steps_at-steps.result c.requires.sound c.requires.frame
    (ap (λ (b : Begin). b.start_text) c.begin-begin.ensures) header (c.in-Err.ensures.too_long.0 refl)
