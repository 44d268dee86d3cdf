-- The worked cases: the definitions compute.
use Rattle.std.proofs.Common.{◌<◌, refl, arith}
use Rattle.wf_rect.specs.Cases.{WorkedCases}
use Rattle.wf_rect.proofs.Owning.{owner_is}

pub worked : WorkedCases
worked =
    let some : 0 < 3 = omega arith in
    let two : 0 < 2 = omega arith in record {
      starts = refl;
      none = refl;
      south_west = owner_is 3 2 7 5 1 1 some two
          (omega arith, omega arith) (omega arith, omega arith);
      south_east = owner_is 3 2 7 5 5 2 some two
          (omega arith, omega arith) (omega arith, omega arith);
      middle = owner_is 3 2 7 5 4 3 some two
          (omega arith, omega arith) (omega arith, omega arith);
      north_east = owner_is 3 2 7 5 7 5 some two
          (omega arith, omega arith) (omega arith, omega arith);
      meeting = refl;
      first_tile = refl;
      last_tile = refl;
      empty_tile = refl;
    }
