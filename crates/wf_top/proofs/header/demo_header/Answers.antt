use Rattle.std.proofs.Common.{arith, refl, sym, ap, subst, ◌∙◌, ◌≡◌, ◌+◌, ◌<◌, IfOk}
use Rattle.wf_model.specs.declared.header.Header.{Header}
use Rattle.wf_model.specs.Bytes.{header_bytes}
use Rattle.wf_model.specs.Headers.{file_header, placed}
use Rattle.wf_model.specs.Sizes.{file_size, most_bytes}
use Rattle.wf_model.specs.SoundHeader.{IsSoundHeader}
use Rattle.wf_model.specs.DemoCase.{demo_plan, case_start}
use Rattle.wf_top.specs.DemoHeader.{unplaced}
use Rattle.wf_top.proofs.HeaderLaws.{header_is, header_sound, header_fits}
use Rattle.wf_top.proofs.header.demo_header.Goals as goal

pub place_vars-requires : goal.place_vars-requires
place_vars-requires c =
    subst IsSoundHeader (sym c.in_ok-header.ensures) (header_sound c.args.nx c.args.ny c.requires.0 c.requires.1 c.requires.2 c.requires.3)

pub unreachable-requires : goal.unreachable-requires
unreachable-requires c =
    let long : most_bytes c.in_ok-header.header.version < file_size c.in_ok-header.header (c.args.steps + 1) = c.in-Err.ensures.too_long.0 refl in
    let same : most_bytes 1 < file_size (unplaced c.args.nx c.args.ny) (c.args.steps + 1) =
    subst (λ (h : Header). most_bytes h.version < file_size h (c.args.steps + 1)) c.in_ok-header.ensures long in
    absurd (omega (arith, same, header_fits c.args.nx c.args.ny (c.args.steps + 1) c.requires.1 c.requires.3 (omega (arith, c.requires.4))))

pub returns : goal.returns
returns c =
    let is : c.place_vars.new.header ≡ placed (file_header (demo_plan c.args.nx c.args.ny c.args.steps) 1 0 case_start 0) =
    c.in-Ok.ensures.placed ∙ ap placed (c.in_ok-header.ensures ∙ header_is c.args.nx c.args.ny c.args.steps) in
    subst (λ (h : Header). IfOk c.write_header.result (λ v. v.items ≡ header_bytes h)) is c.write_header.ensures
