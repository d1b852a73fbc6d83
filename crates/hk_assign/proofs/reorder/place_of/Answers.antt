use Rattle.std.proofs.Common.{◌∙◌, arith}
use Rattle.std.proofs.lemmas.List.{get_or_default}
use Rattle.hk_assign.proofs.reorder.place_of.Goals as goal

pub unreachable-requires : goal.unreachable-requires
unreachable-requires c =
    c.loop-place.invariant c.requires.0 (omega (arith, c.requires.1, c.loop-place-test.false))
    (get_or_default c.args.numbers.now c.requires.0 0 c.args.number c.requires.1 ∙ c.requires.2)
