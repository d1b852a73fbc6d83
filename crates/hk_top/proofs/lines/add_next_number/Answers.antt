-- A number of 64 bits has at most 20 digits.
use Rattle.std.proofs.Common.{◌≡◌, ◌∷◌, [], ap, arith, length, refl, length-append, append_assoc}
use Rattle.std.specs.Prelude.{codes, decimal}
use Rattle.hk_io.proofs.LineLemmas.{length-decimal}
use Rattle.hk_top.proofs.lines.add_next_number.Goals as goal

pub add_number-requires : goal.add_number-requires
add_number-requires c =
    let few = length-decimal c.args.value (omega (arith, c.ranges.value.fits)) in
    let one : length (codes " ") ≡ 1 = refl in
    let room = c.requires in
    omega (arith, few, one, room, ap length c.add.ensures, length-append c.args.gather.now (codes " "))

pub returns-clause-added : goal.returns-clause-added
returns-clause-added c = rw (c.add_number.ensures, c.add.ensures) (append_assoc c.args.gather.now (32 ∷ []) (decimal c.args.value))

pub returns-clause-room : goal.returns-clause-room
returns-clause-room c =
    let few = length-decimal c.args.value (omega (arith, c.ranges.value.fits)) in
    let one : length (codes " ") ≡ 1 = refl in
    omega (arith, few, one, ap length c.add.ensures, ap length c.add_number.ensures, length-append c.args.gather.now (codes " "), length-append c.add.new.self (decimal c.args.value))
