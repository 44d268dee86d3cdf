use Rattle.std.proofs.Common.{arith}
use Rattle.std.proofs.lemmas.Bool.Decides.{nat_tests}
use Rattle.std.proofs.lemmas.List.Sums.{length-filter}
use Rattle.wf_model.specs.Sizes.{is_record_dim}
use Rattle.wf_cdf.proofs.sound.has_one_record.Goals as goal

pub returns : goal.returns
returns c = grind (arith, nat_tests, length-filter is_record_dim c.args.dims.now)
