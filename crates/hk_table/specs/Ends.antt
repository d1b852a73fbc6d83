-- How a shared heap begins and ends.
use Rattle.std.specs.Prelude.{◌≡◌, ℕ, ◌<◌, List, length, slice_index_or, All}
use Rattle.hk_words.specs.declared.geometry.Geometry.{Geometry}
use Rattle.hk_words.specs.Geometry.{tasks}
use Rattle.hk_model.specs.Heap.{opening_of}
use Rattle.hk_model.specs.History.{Legal}
use Rattle.hk_core.specs.Run.{Action, Running, run_from_opening}
use Rattle.hk_table.specs.Actions.{Begins, SeatsBelow, collects}
use Rattle.hk_table.specs.Knows.{KeeperView}
use Rattle.hk_table.specs.Rule.{StandsIn, fresh}
use Rattle.hk_table.specs.Seats.{the_log, keeper_from}
use Rattle.hk_table.specs.Passes.{IsPassOf, IsKeeperOf, known, kept}
use Rattle.hk_table.specs.declared.heap.Heap.{Heap}
use Rattle.hk_table.specs.declared.pass.Pass.{Pass}
use Rattle.hk_table.specs.declared.keeper.Keeper.{Keeper}
use Rattle.hk_table.specs.declared.closed.Closed.{Closed}

-- a heap at the start: one pass for each seat, in order, which has done and seen nothing, and the keeper
pub record Opens (g : Geometry) (h : Heap) (passes : List Pass) (keeper : Keeper) : Type 0 where
  pub geometry : h.geometry ≡ g
  pub count : length passes ≡ tasks g
  pub each : (seat : ℕ) (d : Pass) → seat < tasks g → IsPassOf h (slice_index_or passes seat d) × (known (slice_index_or passes seat d) ≡ fresh g seat)
  pub keeper_is : IsKeeperOf h keeper
  pub keeper_knows : kept keeper ≡ keeper_from (tasks g)

-- each of so many seats has its pass
abbrev pub HasAllSeats : ℕ → List Pass → Type 0
HasAllSeats n passes = (number : ℕ) → number < n → (i : ℕ) × (i < length passes) × ((d : Pass) → (slice_index_or passes i d).number ≡ number)

-- the log of a heap's whole life, and what its run gives
abbrev pub log_of : Closed → List Action
log_of c = the_log c.seat.me.0.knows

abbrev pub run_of : Closed → Running
run_of c = run_from_opening c.geometry (log_of c)

-- What is left of a heap that was closed with these passes and a keeper that knew k.
pub record ClosedBy (g : Geometry) (passes : List Pass) (k : KeeperView) (c : Closed) : Type 0 where
  pub geometry : c.geometry ≡ g
  pub seats : SeatsBelow (tasks g) (log_of c)
  -- each pass knew a beginning of the log, with every action of its own, and had seen a beginning of the history; its own
  -- entries are all that the history has of its seat
  pub each : All (λ p. StandsIn (log_of c) (run_of c) (known p).seat (known p).log (known p).seen (known p).mine) passes
  -- the keeper knew a beginning of the log, with every event of the collector
  pub keeper_begins : Begins (log_of c) k.log
  pub keeper_acts : collects k.log ≡ collects (log_of c)
  pub legal : Legal (opening_of g) (run_of c).history
