use Rattle.std.proofs.Common.{◌+◌, ◌*◌}
use Rattle.wf_model.specs.Sizes.{product, type_size, record_size}
use Rattle.wf_cdfread.proofs.SlabSizes.{part_exact, part_fits}
use Rattle.wf_cdfread.proofs.values.slab_part.Goals as goal

pub returns-clause-value : goal.returns-clause-value
returns-clause-value c =
    part_exact c.part.result c.args.bytes.now (c.args.var.now.begin + c.args.rec * record_size c.args.header.now) (product c.args.shape.now * type_size c.args.kind)
    c.place_of.result c.size_of_slab.result c.part.ensures.bound c.place_of.ensures c.size_of_slab.ensures c.part.ensures.value

pub returns-clause-length : goal.returns-clause-length
returns-clause-length c =
    part_fits c.part.result c.args.bytes.now (c.args.var.now.begin + c.args.rec * record_size c.args.header.now) (product c.args.shape.now * type_size c.args.kind)
    (part_exact c.part.result c.args.bytes.now (c.args.var.now.begin + c.args.rec * record_size c.args.header.now) (product c.args.shape.now * type_size c.args.kind)
    c.place_of.result c.size_of_slab.result c.part.ensures.bound c.place_of.ensures c.size_of_slab.ensures c.part.ensures.value)
