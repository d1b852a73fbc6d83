use Rattle.std.proofs.Common.{arith}
use Rattle.shared_mix.proofs.history.have_all_seats.Goals as goal

pub returns : goal.returns
returns c = λ _ number below.
    let end = c.loop-place-test.false in
    let long = c.if-passes-ne8.false in (
      number,
      omega arith,
      λ d. c.loop-place.invariant number d (omega arith),
    )
