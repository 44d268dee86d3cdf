use Rattle.std.proofs.Common.{◌≡◌, ◌++◌, ap, ◌∙◌, map, arith}
use Rattle.std.specs.Prelude.{filter, nat_lt}
use Rattle.std.specs.List.{range_with_len}
use Rattle.wf_model.specs.declared.script.Act.TheVariants.{Emit}
use Rattle.wf_model.specs.Script.{entry, interval}
use Rattle.wf_model.proofs.RangeParts.{added_if}
use Rattle.wf_model.proofs.script_list.ScriptSource.push_start_frames.Goals as goal

pub loop-stream-preserved : goal.loop-stream-preserved
loop-stream-preserved c =
    let plan = c.args.self.now.plan.now in
    let begins = c.args.self.now.begins.now in
    added_if (λ s. nat_lt 0 (interval plan begins c.args.number s)) (λ s. entry c.args.number 0 c.args.time (Emit s)) c.loop-stream.stream _ _ _ _ _ (ap (λ k. nat_lt 0 k) c.stream_interval-wanted.ensures) c.entry_of-frame.ensures c.loop-stream.invariant c.in_ok-push_if.ensures

pub returns : goal.returns
returns c =
    let plan = c.args.self.now.plan.now in
    let begins = c.args.self.now.begins.now in
    let all : c.loop-stream.stream ≡ 10 = omega arith in
    c.loop-stream.invariant
    ∙ ap (λ n. c.args.entries.now.items ++ map (λ s. entry c.args.number 0 c.args.time (Emit s)) (filter (λ s. nat_lt 0 (interval plan begins c.args.number s)) (range_with_len 0 n))) all
