-- A number of 64 bits has at most 20 digits.
use Rattle.std.proofs.Common.{◌≡◌, ap, arith, length, refl, length-append}
use Rattle.std.specs.Prelude.{codes, decimal}
use Rattle.hk_io.proofs.LineLemmas.{length-decimal}
use Rattle.hk_top.proofs.lines.add_tick.Goals as goal

pub add_number-requires : goal.add_number-requires
add_number-requires c =
    let few = length-decimal c.args.tick (omega (arith, c.ranges.tick.fits)) in
    let two : length (codes "t ") ≡ 2 = refl in
    let room = c.requires in
    omega (arith, few, two, room, ap length c.add.ensures, length-append c.args.gather.now (codes "t "))

pub returns-clause-room : goal.returns-clause-room
returns-clause-room c =
    let few = length-decimal c.args.tick (omega (arith, c.ranges.tick.fits)) in
    let two : length (codes "t ") ≡ 2 = refl in
    omega (arith, few, two, ap length c.add.ensures, ap length c.add_number.ensures, length-append c.args.gather.now (codes "t "), length-append c.add.new.self (decimal c.args.tick))
