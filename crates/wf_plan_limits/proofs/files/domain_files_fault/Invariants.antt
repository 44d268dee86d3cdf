use Rattle.std.proofs.Common.{◌≡◌, ◌-◌, map}
use Rattle.std.specs.List.{range_with_len}
use Rattle.wf_model.specs.Reading.{first_fault}
use Rattle.wf_model.specs.PlanTests.{file_fault}
use Rattle.wf_plan_limits.proofs.files.domain_files_fault.Given as goal

abbrev pub invariant-loop-stream : goal.invariant-loop-stream
invariant-loop-stream l = first_fault (map (file_fault l.plan l.number) (range_with_len l.stream (11 - l.stream))) ≡ first_fault (map (file_fault l.plan l.number) (range_with_len 0 11))
