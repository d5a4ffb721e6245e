-- There is room whatever the phase: so what a line of another phase breaks is the line.
use Rattle.std.proofs.Common.{◌<◌, arith}
use Rattle.listing.proofs.NoneLine.{phase_small, none_room}
use Rattle.listing.proofs.write_none.Goals as goal

pub number_line-requires : goal.number_line-requires
number_line-requires c =
    let few = phase_small c.args.phase in
    let less : c.from-2.result < 10 = omega (arith, few, c.from.ensures, c.from-2.ensures) in
    (omega (arith, less), none_room few less c.requires)
