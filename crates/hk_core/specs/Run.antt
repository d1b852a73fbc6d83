-- Interleavings: the steps of the seats and of the collector, in any order.
use Rattle.std.specs.Prelude.{ℕ, nat_lt, nat_eq, Bool, not, ◌&&◌, List, [], fold, if◌then◌else◌}
use Rattle.hk_words.specs.declared.geometry.Geometry.{Geometry}
use Rattle.hk_words.specs.declared.call.Call.{Call}
use Rattle.hk_words.specs.declared.call.Call.TheVariants.{Get, Put, Load, Store, Move, Clear, New, Same, IsNull}
use Rattle.hk_words.specs.Geometry.{tasks}
use Rattle.hk_model.specs.History.{History, is_question}
use Rattle.hk_core.specs.State.{State, opening, flight_of}
use Rattle.hk_core.specs.Step.{next, history_after}
use Rattle.hk_core.specs.Begin.{after_begin}
use Rattle.hk_core.specs.Collect.{next_collected}

-- what may come next: a seat begins a call, a seat does the next place of its call, the collector does its next event
pub data Action : Type 0 where
  begin : ℕ → Call → Action
  step : ℕ → Action
  collect : Action

-- a state, and the history that led to it
pub record Running : Type 0 where
  pub core : State
  pub history : History

-- a register that a call may write
abbrev pub is_writable : (registers reg : ℕ) → Bool
is_writable registers reg = nat_lt 0 reg && nat_lt reg registers

-- each register of the call is one of so many, and the one that it writes isn't register 0
abbrev pub registers_fit : ℕ → Call → Bool
registers_fit registers (Get reg field) = nat_lt reg registers
registers_fit registers (Put reg field value) = nat_lt reg registers
registers_fit registers (Load dest reg field) = is_writable registers dest && nat_lt reg registers
registers_fit registers (Store reg field from) = nat_lt reg registers && nat_lt from registers
registers_fit registers (Move dest from) = is_writable registers dest && nat_lt from registers
registers_fit registers (Clear dest) = is_writable registers dest
registers_fit registers (New dest shape) = is_writable registers dest
registers_fit registers (Same a b) = nat_lt a registers && nat_lt b registers
registers_fit registers (IsNull reg) = nat_lt reg registers

-- the seat is one of the geometry's and has no call in flight
abbrev pub is_idle : State → ℕ → Bool
is_idle c seat = nat_lt seat (tasks c.geometry) && nat_eq (flight_of c.flights seat).place 0

-- the seat has a call in flight
abbrev pub is_busy : State → ℕ → Bool
is_busy c seat = nat_lt seat (tasks c.geometry) && not (nat_eq (flight_of c.flights seat).place 0)

-- the condition of a begin: the seat is idle, the call is no question, and its registers fit
abbrev pub may_begin : State → ℕ → Call → Bool
may_begin c seat call = is_idle c seat && (not (is_question call) && registers_fit c.geometry.registers call)

-- an action on a state with its history. One whose condition doesn't hold changes nothing
unfoldable pub act : Running → Action → Running
act r (begin seat call) = if may_begin r.core seat call then record r { core = after_begin r.core seat call } else r
act r (step seat) = if is_busy r.core seat
    then record { core = next r.core seat; history = history_after r.core seat r.history } else r
act r collect = record r { core = next_collected r.core }

-- the run of a list of actions: that of a list and one more action is the action on the run of the list
unfoldable pub run : Running → List Action → Running
run r actions = fold act r actions

-- the run from the opening state of a geometry, with no history
unfoldable pub run_from_opening : Geometry → List Action → Running
run_from_opening g actions = run (record { core = opening g; history = [] }) actions
