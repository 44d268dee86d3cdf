use Rattle.std.proofs.Common.{arith}
use Rattle.wf_top.proofs.CellLaws.{small_beside}
use Rattle.wf_top.proofs.cells.mean_at.Goals as goal

pub overflow_add-sum : goal.overflow_add-sum
overflow_add-sum c =
    let s = small_beside c.args.values.now c.args.width c.args.r c.args.c (c.requires.place.2) (c.requires.place.0) (c.requires.place.1) c.requires.small in
    omega (arith, s.here, s.west)

pub overflow_add-sum-2 : goal.overflow_add-sum-2
overflow_add-sum-2 c =
    let s = small_beside c.args.values.now c.args.width c.args.r c.args.c (c.requires.place.2) (c.requires.place.0) (c.requires.place.1) c.requires.small in
    omega (arith, s.here, s.west, s.east)

pub overflow_add-sum-3 : goal.overflow_add-sum-3
overflow_add-sum-3 c =
    let s = small_beside c.args.values.now c.args.width c.args.r c.args.c (c.requires.place.2) (c.requires.place.0) (c.requires.place.1) c.requires.small in
    omega (arith, s.here, s.west, s.east, s.south)

pub overflow_add-sum-4 : goal.overflow_add-sum-4
overflow_add-sum-4 c =
    let s = small_beside c.args.values.now c.args.width c.args.r c.args.c (c.requires.place.2) (c.requires.place.0) (c.requires.place.1) c.requires.small in
    omega (arith, s.here, s.west, s.east, s.south, s.north)

pub returns-clause-small : goal.returns-clause-small
returns-clause-small c =
    let s = small_beside c.args.values.now c.args.width c.args.r c.args.c (c.requires.place.2) (c.requires.place.0) (c.requires.place.1) c.requires.small in
    omega (arith, s.here, s.west, s.east, s.south, s.north)
