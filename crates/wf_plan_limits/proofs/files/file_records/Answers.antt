use Rattle.std.proofs.Common.{rules, arith, ◌≡◌}
use Rattle.std.specs.Prelude.{slice_index}
use Rattle.wf_model.specs.Plans.{domain_of}
use Rattle.wf_model.specs.Counts.{due_steps, own_steps}
use Rattle.wf_plan_limits.proofs.FileSizes.{records-of_stream}
use Rattle.wf_plan_limits.proofs.files.file_records.Goals as goal

pub returns-then-due-from : goal.returns-then-due-from
returns-then-due-from c =
    let due : c.due_frames-due.result ≡ due_steps (slice_index (domain_of c.args.plan.now c.args.number).intervals c.args.stream) (own_steps c.args.plan.now c.args.number) = search rules in
    let records = records-of_stream c.args.plan.now c.args.number c.args.stream c.due_frames-due.result c.frames_per_file-most.result c.if-stream-eq-RESTART_STREAM.false due c.frames_per_file-most.ensures in
    omega (arith, records, c.from.ensures)

pub returns-else-due-from : goal.returns-else-due-from
returns-else-due-from c =
    let due : c.due_frames-due.result ≡ due_steps (slice_index (domain_of c.args.plan.now c.args.number).intervals c.args.stream) (own_steps c.args.plan.now c.args.number) = search rules in
    let records = records-of_stream c.args.plan.now c.args.number c.args.stream c.due_frames-due.result c.frames_per_file-most.result c.if-stream-eq-RESTART_STREAM.false due c.frames_per_file-most.ensures in
    omega (arith, records, c.from.ensures)
