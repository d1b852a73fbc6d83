-- The calls in flight are in step with the walks: a seat has a call in flight exactly while its job is in mid-course of an
-- operation, at the place after the ticks that the job has had of it.
use Rattle.std.specs.Prelude.{◌≡◌, ℕ, ◌+◌, ◌≤◌, ◌⊎◌, false, Option, Some}
use Rattle.hk_words.specs.declared.geometry.Geometry.{Geometry}
use Rattle.hk_words.specs.declared.call.Call.{Call}
use Rattle.hk_words.specs.Bounds.{places_of}
use Rattle.hk_words.specs.Calls.{RegistersFit}
use Rattle.hk_model.specs.History.{is_question}
use Rattle.hk_core.specs.declared.flight.Flight.{Flight}
use Rattle.hk_script.specs.declared.walk.Need.{Need}
use Rattle.hk_script.specs.declared.walk.Need.TheVariants as need
use Rattle.hk_dispatch.specs.Turns.{is_operation}

-- a seat, by its flight, what its walk wants, and the ticks that its job has had of that: it has no call in flight and is at
-- no operation, or at the start of one; or the operation is in flight, at its next place
pub data SeatInStep (x : Flight) (wants : Option Need) (spent : ℕ) : Type 0 where
  aside : x.place ≡ 0 → (is_operation wants ≡ false) ⊎ (spent ≡ 0) → SeatInStep x wants spent
  under_way : (c : Call) → wants ≡ Some (need.Heap c) → x.call ≡ c → x.place ≡ spent + 1 → 1 ≤ spent → spent + 1 ≤ places_of c → SeatInStep x wants spent

-- a call that may be begun
pub record MayBegin (g : Geometry) (c : Call) : Type 0 where
  pub question : is_question c ≡ false
  pub registers : RegistersFit g.registers c
