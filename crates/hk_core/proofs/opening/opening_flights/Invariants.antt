use Rattle.std.proofs.Common.{◌≡◌}
use Rattle.std.specs.Prelude.{map}
use Rattle.std.specs.List.{range_with_len}
use Rattle.hk_core.specs.State.{idle}
use Rattle.hk_core.proofs.opening.opening_flights.Given as goal

abbrev pub invariant-loop-seat : goal.invariant-loop-seat
invariant-loop-seat l = l.flights.items ≡ map idle (range_with_len 0 l.seat)
