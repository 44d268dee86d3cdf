use Rattle.std.proofs.Common.{rules, ◌≡◌, ◌+◌, ◌-◌, ◌∙◌, map, sym}
use Rattle.std.specs.List.{range_with_len}
use Rattle.wf_model.specs.Reading.{first_fault}
use Rattle.wf_model.specs.PlanTests.{file_fault}
use Rattle.wf_plan_limits.proofs.Stages.{stays, goes_on, next_of, none_left}
use Rattle.wf_plan_limits.proofs.files.domain_files_fault.Goals as goal

pub returns-then-is_some : goal.returns-then-is_some
returns-then-is_some c =
    let here : c.in_ok-fault.fault ≡ file_fault c.args.plan.now c.args.number c.loop-stream.stream = search rules in
    stays c.in_ok-fault.fault (file_fault c.args.plan.now c.args.number c.loop-stream.stream) (first_fault (map (file_fault c.args.plan.now c.args.number) (range_with_len (c.loop-stream.stream + 1) (11 - (c.loop-stream.stream + 1))))) here (sym c.if-is_some.ensures)
    ∙ sym (next_of (file_fault c.args.plan.now c.args.number) c.loop-stream.stream 11 c.loop-stream-test.true)
    ∙ c.loop-stream.invariant

pub loop-stream-preserved : goal.loop-stream-preserved
loop-stream-preserved c =
    let here : c.in_ok-fault.fault ≡ file_fault c.args.plan.now c.args.number c.loop-stream.stream = search rules in
    goes_on c.in_ok-fault.fault (file_fault c.args.plan.now c.args.number c.loop-stream.stream) (first_fault (map (file_fault c.args.plan.now c.args.number) (range_with_len (c.loop-stream.stream + 1) (11 - (c.loop-stream.stream + 1))))) here (sym c.if-is_some.ensures)
    ∙ sym (next_of (file_fault c.args.plan.now c.args.number) c.loop-stream.stream 11 c.loop-stream-test.true)
    ∙ c.loop-stream.invariant

pub returns : goal.returns
returns c = sym (none_left (file_fault c.args.plan.now c.args.number) c.loop-stream.stream 11 c.loop-stream-test.false) ∙ c.loop-stream.invariant
