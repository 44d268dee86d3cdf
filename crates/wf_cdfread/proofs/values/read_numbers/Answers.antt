use Rattle.std.proofs.Common.{◌≡◌, ◌*◌, length, ap, ◌∙◌, arith}
use Rattle.wf_model.specs.CdfRead.{ints}
use Rattle.wf_cdfread.proofs.SlabValues.{ints_read}
use Rattle.wf_cdfread.proofs.values.read_numbers.Goals as goal

pub returns : goal.returns
returns c =
    let kept : length c.read_i32_into.new.dst ≡ length c.args.values.now = omega arith in
    let fits : length c.args.bytes.now ≡ 4 * length c.read_i32_into.new.dst = omega arith in
    ints_read c.args.bytes.now c.read_i32_into.new.dst fits c.read_i32_into.ensures ∙ ap (λ n. ints n c.args.bytes.now) kept
