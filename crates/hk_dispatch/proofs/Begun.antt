-- The flight of a begin that isn't refused is at its first place.
use Rattle.std.proofs.Common.{◌≡◌, ℕ, zero, suc, ◌<◌, ◌≤◌, [], ◌∷◌, ap, subst, sym, refl, inr, arith, None, Some}
use Rattle.hk_words.specs.declared.call.Call.{Call}
use Rattle.hk_words.specs.declared.geometry.Geometry.{Geometry}
use Rattle.hk_words.specs.Geometry.{tasks}
use Rattle.hk_core.specs.declared.flight.Flight.{Flight}
use Rattle.hk_core.specs.State.{State, IsSized, flight_of}
use Rattle.hk_core.specs.Begin.{refusal, first_flight, after_begin}
use Rattle.hk_core.proofs.Places.{begins_first}
use Rattle.hk_core.proofs.Turns.{has_flight, begin_geometry}
use Rattle.hk_plan.specs.declared.Ready.{Ready}
use Rattle.hk_script.specs.declared.walk.Need.TheVariants.{Heap}
use Rattle.hk_dispatch.specs.InStep.{SeatInStep, aside}
use Rattle.hk_dispatch.specs.Rows.{TasksRise}

pub begun_flying : (c : State) (seat : ℕ) (call : Call) → IsSized c → seat < tasks c.geometry → refusal c seat call ≡ None → 1 ≤ (flight_of (after_begin c seat call).flights seat).place
unfolding first_flight
begun_flying c seat call sized below e =
    let start = begins_first c seat (has_flight c seat sized below) call e in
    let place : (flight_of (after_begin c seat call).flights seat).place ≡ 1 = ap (λ (x : Flight). x.place) start in
    omega (arith, place)

pub begun_seat : (c : State) (seat : ℕ) (call : Call) → seat < tasks c.geometry → seat < tasks (after_begin c seat call).geometry
begun_seat c seat call below = subst (λ (g : Geometry). seat < tasks g) (sym (begin_geometry c seat call)) below

pub ruleset begun = (begun_flying, begun_seat)

-- a seat with no call in flight may begin one
pub aside_first : (x : Flight) (c : Call) → x.place ≡ 0 → SeatInStep x (Some (Heap c)) 0
aside_first x c idle = aside idle (inr refl)

-- two rows rise where the tasks do
pub two_rise : (a b : Ready) → a.task < b.task → TasksRise (a ∷ b ∷ [])
two_rise a b lt zero (suc zero) order within = lt
two_rise a b lt zero zero order within = absurd (omega (arith, order))
two_rise a b lt (suc i) zero order within = absurd (omega (arith, order))
two_rise a b lt (suc i) (suc zero) order within = absurd (omega (arith, order))
two_rise a b lt i (suc (suc j)) order within = absurd (omega (arith, within))
