use Rattle.std.proofs.Common.{◌≡◌, ℕ, List, ◌+◌, ◌<◌, ◌≤◌, true, false, not, length, take, get_or, ap, sym, subst, ◌∙◌, arith}
use Rattle.wf_model.specs.declared.header.Var.{Var}
use Rattle.wf_model.specs.Sizes.{is_record_var, padded_size}
use Rattle.wf_cdf.proofs.Sizes.{sum_of_passing_kept, sum_of_passing_added}
use Rattle.wf_cdf.proofs.Placed.{fixed_of, moving_of, place_after_fixed, place_after_moving, place_after, placed_more, next_unplaced, padded_size_le, moving_fits, fixed_fits, placed_var_is}
use Rattle.wf_cdf.proofs.place.place_each.Goals as goal
use Rattle.wf_cdf.proofs.place.place_each.Goals.{then-begins_with_record, else-begins_with_record}

pub small_size-size-requires-clause-small : goal.small_size-size-requires-clause-small
small_size-size-requires-clause-small c =
    let next : c.var-item.result ≡ get_or c.args.vars.now c.loop-var.var-index c.var-item.result =
    next_unplaced c.args.dims.now c.args.fixed c.args.moving c.args.vars.now c.loop-var.vars c.loop-var.var-index c.var-item.result c.loop-var-test.true
    c.loop-var.invariant.front c.var-item.is in
    let small : padded_size c.args.dims.now c.var-item.result ≤ fixed_of c.args.dims.now c.args.vars.now + moving_of c.args.dims.now c.args.vars.now =
    padded_size_le c.args.dims.now c.args.vars.now c.loop-var.var-index c.var-item.result c.loop-var-test.true next in
    let same : padded_size c.args.dims.now c.var-item.result ≡ padded_size c.args.dims.now (get_or c.loop-var.vars c.loop-var.var-index c.var-item.result) =
    ap (padded_size c.args.dims.now) c.var-item.is in
    omega arith

pub begins_with_record-requires : goal.begins_with_record-requires
begins_with_record-requires c =
    let next : c.var-item.result ≡ get_or c.args.vars.now c.loop-var.var-index c.var-item.result =
    next_unplaced c.args.dims.now c.args.fixed c.args.moving c.args.vars.now c.loop-var.vars c.loop-var.var-index c.var-item.result c.loop-var-test.true
    c.loop-var.invariant.front c.var-item.is in
    let dims = c.args.dims.now in
    subst (λ (ns : List ℕ). (k d : ℕ) → k < length ns → get_or ns k d < length dims)
    (sym (c.as_slice.ensures ∙ ap (λ (v : Var). v.dims) (sym c.var-item.is ∙ next)))
    (c.requires.each c.loop-var.var-index c.var-item.result c.loop-var-test.true).dims_are

pub overflow_add-moving : goal.overflow_add-moving
overflow_add-moving c =
    let next : c.var-item.result ≡ get_or c.args.vars.now c.loop-var.var-index c.var-item.result =
    next_unplaced c.args.dims.now c.args.fixed c.args.moving c.args.vars.now c.loop-var.vars c.loop-var.var-index c.var-item.result c.loop-var-test.true
    c.loop-var.invariant.front c.var-item.is in
    let same : padded_size c.args.dims.now c.var-item.result ≡ padded_size c.args.dims.now (get_or c.loop-var.vars c.loop-var.var-index c.var-item.result) =
    ap (padded_size c.args.dims.now) c.var-item.is in
    let kind : is_record_var c.args.dims.now c.var-item.result ≡ true = cc in
    omega (arith, moving_fits c.args.dims.now c.args.moving c.args.vars.now c.loop-var.var-index c.var-item.result c.loop-var-test.true next kind)

pub overflow_add-fixed : goal.overflow_add-fixed
overflow_add-fixed c =
    let next : c.var-item.result ≡ get_or c.args.vars.now c.loop-var.var-index c.var-item.result =
    next_unplaced c.args.dims.now c.args.fixed c.args.moving c.args.vars.now c.loop-var.vars c.loop-var.var-index c.var-item.result c.loop-var-test.true
    c.loop-var.invariant.front c.var-item.is in
    let same : padded_size c.args.dims.now c.var-item.result ≡ padded_size c.args.dims.now (get_or c.loop-var.vars c.loop-var.var-index c.var-item.result) =
    ap (padded_size c.args.dims.now) c.var-item.is in
    let kind : is_record_var c.args.dims.now c.var-item.result ≡ false = cc in
    omega (arith, fixed_fits c.args.dims.now c.args.fixed c.args.vars.now c.loop-var.var-index c.var-item.result c.loop-var-test.true next kind)

pub loop-var-preserved : goal.loop-var-preserved
loop-var-preserved c =
    let dims = c.args.dims.now in
    let vars = c.args.vars.now in
    let i = c.loop-var.var-index in
    let v = c.var-item.result in
    let there = c.loop-var-test.true in
    let before = c.loop-var.invariant in
    let next : c.var-item.result ≡ get_or c.args.vars.now c.loop-var.var-index c.var-item.result =
    next_unplaced c.args.dims.now c.args.fixed c.args.moving c.args.vars.now c.loop-var.vars c.loop-var.var-index c.var-item.result c.loop-var-test.true
    c.loop-var.invariant.front c.var-item.is in
    let same : padded_size c.args.dims.now c.var-item.result ≡ padded_size c.args.dims.now (get_or c.loop-var.vars c.loop-var.var-index c.var-item.result) =
    ap (padded_size c.args.dims.now) c.var-item.is in
    record {
      front = elim c.if-begins_with_record.branch [
        | then-begins_with_record w ↦
            let kind : is_record_var c.args.dims.now c.var-item.result ≡ true = cc in
            w.vars-is ∙ placed_more dims c.args.fixed c.args.moving vars c.loop-var.vars i v w.place_var.new.var there before.front next
            (placed_var_is dims (place_after dims c.args.fixed c.args.moving (take i vars) v) c.small_size-size.result c.loop-var.moving
            (get_or c.loop-var.vars i v) v w.place_var.new.var (sym c.var-item.is) c.small_size-size.ensures
            (before.moving ∙ sym (place_after_moving dims c.args.fixed c.args.moving (take i vars) v kind)) w.place_var.ensures)
        | else-begins_with_record w ↦
            let kind : is_record_var c.args.dims.now c.var-item.result ≡ false = cc in
            w.vars-is ∙ placed_more dims c.args.fixed c.args.moving vars c.loop-var.vars i v w.place_var-else-begins_with_record.new.var there before.front next
            (placed_var_is dims (place_after dims c.args.fixed c.args.moving (take i vars) v) c.small_size-size.result c.loop-var.fixed
            (get_or c.loop-var.vars i v) v w.place_var-else-begins_with_record.new.var (sym c.var-item.is) c.small_size-size.ensures
            (before.fixed ∙ sym (place_after_fixed dims c.args.fixed c.args.moving (take i vars) v kind)) w.place_var-else-begins_with_record.ensures)
      ];
      fixed = elim c.if-begins_with_record.branch [
        | then-begins_with_record w ↦
            let kind : is_record_var c.args.dims.now c.var-item.result ≡ true = cc in
            omega (arith, sum_of_passing_kept (λ x. not (is_record_var dims x)) (padded_size dims) vars i v there next (ap not kind))
        | else-begins_with_record w ↦
            let kind : is_record_var c.args.dims.now c.var-item.result ≡ false = cc in
            omega (arith, sum_of_passing_added (λ x. not (is_record_var dims x)) (padded_size dims) vars i v there next (ap not kind))
      ];
      moving = elim c.if-begins_with_record.branch [
        | then-begins_with_record w ↦
            let kind : is_record_var c.args.dims.now c.var-item.result ≡ true = cc in
            omega (arith, sum_of_passing_added (is_record_var dims) (padded_size dims) vars i v there next kind)
        | else-begins_with_record w ↦
            let kind : is_record_var c.args.dims.now c.var-item.result ≡ false = cc in
            omega (arith, sum_of_passing_kept (is_record_var dims) (padded_size dims) vars i v there next kind)
      ];
    }
