use Rattle.std.proofs.Common.{◌≡◌, length, arith, ◌∙◌}
use Rattle.wf_model.specs.Sizes.{dim_of}
use Rattle.wf_cdfread.proofs.SlabValues.{same_lengths, other_lengths}
use Rattle.wf_cdfread.proofs.size.have_lengths.Goals as goal

pub returns-then-length_of-length : goal.returns-then-length_of-length
returns-then-length_of-length c =
    let len : length c.args.numbers.now ≡ length c.args.wanted.now = omega arith in
    other_lengths (λ n. (dim_of c.args.dims.now n).len) c.args.numbers.now c.args.wanted.now c.loop-i.i len c.loop-i-test.true
    (λ e. c.if-length_of-length.true (c.length_of.ensures ∙ e))

pub returns : goal.returns
returns c =
    let len : length c.args.numbers.now ≡ length c.args.wanted.now = omega arith in
    same_lengths (λ n. (dim_of c.args.dims.now n).len) c.args.numbers.now c.args.wanted.now len (λ k h. c.loop-i.invariant k (omega arith))
