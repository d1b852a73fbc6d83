use Rattle.std.proofs.Common.{ℕ, ◌<◌, length, refl, arith}
use Rattle.hk_words.specs.Geometry.{tasks}
use Rattle.hk_core.specs.State.{State, IsSized}
use Rattle.hk_core.specs.View.{flight_at}
use Rattle.hk_core.proofs.Places.{refused_kept, begins_first, begins_alone, goes_on, ends, others_kept}
use Rattle.hk_core.proofs.Registers.{registers_tested}
use Rattle.hk_core.proofs.laws.places_in_order.Goals as goal

-- the seat of a task has a flight
has_flight : (c : State) (seat : ℕ) → IsSized c → seat < tasks c.geometry → seat < length c.flights
has_flight c seat sized below = let flights = sized.flights in omega arith

pub returns-clause-refused : goal.returns-clause-refused
returns-clause-refused c = refused_kept

pub returns-clause-first : goal.returns-clause-first
returns-clause-first c = λ state seat call sized below accepts. begins_first state seat (has_flight state seat sized below) call accepts

pub returns-clause-begins_alone : goal.returns-clause-begins_alone
returns-clause-begins_alone c = λ state seat call sized below. begins_alone state seat (has_flight state seat sized below) call

pub returns-clause-in_row : goal.returns-clause-in_row
unfolding flight_at
returns-clause-in_row c = λ state history seat below h. (h.facts.flights_formed seat below).in_row

pub returns-clause-goes_on : goal.returns-clause-goes_on
returns-clause-goes_on c = λ state seat sized below some few. goes_on state seat (has_flight state seat sized below) some few

pub returns-clause-ends : goal.returns-clause-ends
returns-clause-ends c = λ state seat sized below some at. ends state seat (has_flight state seat sized below) some at

pub returns-clause-lengths : goal.returns-clause-lengths
returns-clause-lengths c = record {
  get = λ reg field. refl;
  put = λ reg field value. refl;
  load = λ dest reg field. refl;
  store = λ reg field from. refl;
  move = λ dest from. refl;
  clear = λ dest. refl;
  new = λ dest shape. refl;
}

pub returns-clause-steps_alone : goal.returns-clause-steps_alone
returns-clause-steps_alone c = λ state seat sized below. others_kept state seat (has_flight state seat sized below)

pub returns-clause-registers : goal.returns-clause-registers
returns-clause-registers c = registers_tested
