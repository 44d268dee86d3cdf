use Rattle.std.proofs.Common.{◌≡◌, true, false, ◌∙◌, arith}
use Rattle.wf_model.specs.Sizes.{is_record_var, padded_size, slab_size}
use Rattle.wf_cdf.proofs.Sizes.{sum_kept, sum_added, count_more}
use Rattle.wf_cdfread.proofs.size.record_sizes.Goals as goal
use Rattle.wf_cdfread.proofs.size.record_sizes.Goals.{then-begins_with_record, else-begins_with_record}

pub loop-var-preserved : goal.loop-var-preserved
loop-var-preserved c =
    let dims = c.args.dims.now in
    let vars = c.args.vars.now in
    let i = c.loop-var.var-index in
    let v = c.var-item.result in
    let there = c.loop-var-test.true in
    let before = c.loop-var.invariant in
    record {
      count = elim c.if-begins_with_record.branch [
        | then-begins_with_record w ↦
            let moves : is_record_var c.args.dims.now c.var-item.result ≡ true = cc in
            omega (arith, count_more (is_record_var dims) vars i v true there c.var-item.is moves)
        | else-begins_with_record w ↦
            let stands : is_record_var c.args.dims.now c.var-item.result ≡ false = cc in
            omega (arith, count_more (is_record_var dims) vars i v false there c.var-item.is stands)
      ];
      few = elim c.if-begins_with_record.branch [ then-begins_with_record w ↦ omega arith | else-begins_with_record w ↦ omega arith ];
      padded = elim c.if-begins_with_record.branch [
        | then-begins_with_record w ↦
            let moves : is_record_var c.args.dims.now c.var-item.result ≡ true = cc in
            w.padded-is ∙ w.saturating_add-padded.ensures
            ∙ sum_added (is_record_var dims) (padded_size dims) vars i c.loop-var.padded w.padded_size.result v there c.var-item.is moves
            w.padded_size.ensures before.padded
        | else-begins_with_record w ↦
            let stands : is_record_var c.args.dims.now c.var-item.result ≡ false = cc in
            w.padded-is ∙ sum_kept (is_record_var dims) (padded_size dims) vars i c.loop-var.padded v there c.var-item.is stands before.padded
      ];
      unpadded = elim c.if-begins_with_record.branch [
        | then-begins_with_record w ↦
            let moves : is_record_var c.args.dims.now c.var-item.result ≡ true = cc in
            w.unpadded-is ∙ w.saturating_add-unpadded.ensures
            ∙ sum_added (is_record_var dims) (slab_size dims) vars i c.loop-var.unpadded w.slab_size.result v there c.var-item.is moves w.slab_size.ensures
            before.unpadded
        | else-begins_with_record w ↦
            let stands : is_record_var c.args.dims.now c.var-item.result ≡ false = cc in
            w.unpadded-is ∙ sum_kept (is_record_var dims) (slab_size dims) vars i c.loop-var.unpadded v there c.var-item.is stands before.unpadded
      ];
    }
