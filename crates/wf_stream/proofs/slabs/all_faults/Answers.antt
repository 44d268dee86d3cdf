use Rattle.std.proofs.Common.{◌≡◌, ◌∙◌, ap, ℕ, cond, length, List, arith}
use Rattle.wf_model.specs.declared.plan.Field.{Field}
use Rattle.wf_model.specs.InputOf.{is_input, level_asked, slab_read}
use Rattle.wf_stream.specs.declared.slabs.SlabFaults.{SlabFaults}
use Rattle.wf_stream.specs.Slabs.{faults_of, slabs_up_to, with_slab}
use Rattle.wf_stream.proofs.SlabLemmas.{level_more}
use Rattle.wf_stream.proofs.slabs.all_faults.Goals as goal

pub loop-level-init : goal.loop-level-init
unfolding slabs_up_to
loop-level-init c = c.times_faults-faults.ensures

pub loop-level-preserved : goal.loop-level-preserved
loop-level-preserved c =
    c.with_level-faults.ensures
    ∙ ap (λ (faults : SlabFaults). cond (is_input c.args.plan.now c.loop-level.level) (with_slab faults (slab_read c.args.bytes.now c.args.header.now (level_asked c.args.plan.now c.args.number 0 c.loop-level.level))) faults) c.loop-level.invariant
    ∙ level_more c.args.plan.now c.args.number c.loop-level.level c.args.bytes.now c.args.header.now

pub returns : goal.returns
returns c =
    let end : c.loop-level.level ≡ length c.args.plan.now.fields = omega (arith, ap (λ (fields : List Field). length fields) c.as_slice-level-end.ensures) in
    c.loop-level.invariant ∙ ap (λ (n : ℕ). faults_of (slabs_up_to c.args.plan.now c.args.number n c.args.bytes.now c.args.header.now)) end
