-- A number of 64 bits has at most 20 digits.
use Rattle.std.proofs.Common.{ap, arith, length}
use Rattle.hk_io.proofs.LineLemmas.{length-with_number}
use Rattle.hk_chart.proofs.drawing.add_number.Goals as goal

pub number-requires : goal.number-requires
number-requires c =
    let few = length-with_number c.args.line.now c.args.value (omega (arith, c.ranges.value.fits)) in
    let room = c.requires in
    omega (arith, few, room)

pub returns-clause-room : goal.returns-clause-room
returns-clause-room c =
    let few = length-with_number c.args.line.now c.args.value (omega (arith, c.ranges.value.fits)) in
    omega (arith, few, ap length c.number.ensures)
