-- A call in one piece leaves and answers what its steps leave and answer.
use Rattle.std.proofs.Common.{◌≡◌, ℕ, zero, suc, ◌+◌, ◌-◌, ◌<◌, ◌≤◌, List, length, refl, sym, ◌∙◌, ap, subst, arith, get_or-set_same, Option, Some, None, false}
use Rattle.std.proofs.lemmas.List.{set-set}
use Rattle.std.proofs.lemmas.Bool.{eq-eqb}
use Rattle.std.specs.Prelude.{slice_set, slice_index}
use Rattle.hk_words.specs.declared.call.Call.{Call}
use Rattle.hk_words.specs.Geometry.{tasks}
use Rattle.hk_words.specs.Bounds.{places_of}
use Rattle.hk_words.specs.Calls.{RegistersFit}
use Rattle.hk_model.specs.History.{History, is_question}
use Rattle.hk_core.specs.declared.flight.Flight.{Flight}
use Rattle.hk_core.specs.declared.outcome.Fault.{Fault}
use Rattle.hk_core.specs.declared.outcome.Step.TheVariants.{Ended}
use Rattle.hk_core.specs.Event.{CanFireIf, fired_if, learnt}
use Rattle.hk_core.specs.State.{State, idle, flight_of}
use Rattle.hk_core.specs.View.{flight_at}
use Rattle.hk_core.specs.Step.{event_of, took_of, step_of, outcome_at, event_by, found_by, next, answer_by}
use Rattle.hk_core.specs.Begin.{refusal, begun_or, accepted, first_flight}
use Rattle.hk_core.specs.Fits.{Fits, FindsNumber, CanStep}
use Rattle.hk_core.specs.Lawful.{Lawful}
use Rattle.hk_core.specs.Whole.{stepped, stepped_history, history_or, whole_history, whole, last_answer}
use Rattle.hk_core.specs.Passing.{Passing, passed, passed_by, CanPass, CanPassBy, begins, closed}
use Rattle.hk_core.proofs.Can.{can_step}
use Rattle.hk_core.proofs.Places.{goes_on, takes_last}
use Rattle.hk_core.proofs.Turns.{step_geometry}
use Rattle.hk_core.proofs.Seven.{seat_steps}
use Rattle.hk_core.proofs.kinds.Begin.{lawful_begin}

-- A state with the row and the flight of a passing, and one more begun call of the seat.

abbrev with_begun : State → ℕ → List ℕ → State
with_begun c s row = record c { row = row; begun = slice_set c.begun s (slice_index c.begun s + 1) }

abbrev in_state : State → ℕ → Passing → State
in_state c s p = record c {
  row = p.row;
  flights = slice_set c.flights s p.flight;
  begun = slice_set c.begun s (slice_index c.begun s + 1);
}

-- The step of a seat whose flight was set.

set_found : (c : State) (s : ℕ) (x : Flight) → s < length c.flights → flight_of (slice_set c.flights s x) s ≡ x
unfolding flight_of
set_found c s x below = get_or-set_same c.flights s x (idle s) below

next_set : (c : State) (s : ℕ) (x : Flight) → s < length c.flights
    → next (record c { flights = slice_set c.flights s x }) s
    ≡ record c {
      row = fired_if c.row (event_of c.geometry x);
      flights = slice_set c.flights s (took_of c.geometry x (learnt c.row (event_of c.geometry x)));
    }
unfolding next event_by found_by
next_set c s x below =
    let found = set_found c s x below in
    ap (λ (y : Flight). record c {
      row = fired_if c.row (event_of c.geometry y);
      flights = slice_set (slice_set c.flights s x) s (took_of c.geometry y (learnt c.row (event_of c.geometry y)));
    }) found
    ∙ ap (λ (l : List Flight). record c { row = fired_if c.row (event_of c.geometry x); flights = l }) (set-set c.flights s x _)

answer_set : (c : State) (s : ℕ) (x : Flight) → s < length c.flights → answer_by (record c { flights = slice_set c.flights s x }) s ≡ step_of x
unfolding answer_by
answer_set c s x below = ap step_of (set_found c s x below)

next_passed : (c : State) (s : ℕ) (p : Passing) → s < length c.flights → next (in_state c s p) s ≡ in_state c s (passed c.geometry p)
unfolding passed
next_passed c s p below = next_set (with_begun c s p.row) s p.flight below

can_pass : (c : State) (s : ℕ) (p : Passing) → s < length c.flights → CanStep (in_state c s p) s → CanPass c.geometry p
unfolding event_by found_by
can_pass c s p below can =
    let found = set_found c s p.flight below in
    record {
      flight = subst (λ (y : Flight). Fits c.geometry y) found can.flight;
      event = subst (λ (y : Flight). CanFireIf p.row (event_of c.geometry y)) found can.event;
      finds = subst (λ (y : Flight). FindsNumber y y.call (learnt p.row (event_of c.geometry y))) found can.finds;
    }

-- so the steps of a call that has begun pass its places
begins_in : (c : State) (s : ℕ) (call : Call) → accepted c s call ≡ in_state c s (begins c s call)
unfolding accepted begins
begins_in c s call = refl

steps_pass : (c : State) (s : ℕ) (call : Call) → s < length c.flights → (steps : ℕ)
    → stepped steps (accepted c s call) s ≡ in_state c s (passed_by steps c.geometry (begins c s call))
unfolding stepped passed_by
steps_pass c s call below zero = begins_in c s call
steps_pass c s call below (suc steps) =
    ap (λ (d : State). next d s) (steps_pass c s call below steps) ∙ next_passed c s (passed_by steps c.geometry (begins c s call)) below

-- A call in flight whose seat steps so many times: where it stands, and that it can go on.

record StandsAt (c : State) (s : ℕ) (call' : Call) (k : ℕ) : Type 0 where
  place : (flight_of c.flights s).place ≡ k
  call : (flight_of c.flights s).call ≡ call'

record IsAfter (c d : State) (s : ℕ) (call : Call) (k : ℕ) (history : History) : Type 0 where
  geometry : d.geometry ≡ c.geometry
  stands : StandsAt d s call k
  lawful : Lawful d history

is_after : (c : State) (s : ℕ) (call : Call) (history : History) → s < tasks c.geometry → StandsAt c s call 1 → Lawful c history
    → (steps : ℕ) → steps < places_of call → IsAfter c (stepped steps c s) s call (steps + 1) (stepped_history steps c s history)
unfolding stepped stepped_history flight_at
is_after c s call history below first h zero few = record { geometry = refl; stands = first; lawful = h }
is_after c s call history below first h (suc steps) few =
    let a = is_after c s call history below first h steps (omega arith) in
    let d = stepped steps c s in
    let e = a.lawful.sized.flights in
    let here : s < tasks d.geometry = rw a.geometry below in
    let within : s < length d.flights = omega arith in
    let at : (flight_of d.flights s).place ≡ steps + 1 = a.stands.place in
    let some : 1 ≤ (flight_of d.flights s).place = omega arith in
    let on = goes_on d s within some (rw (a.stands.call, at) (omega arith)) in
    record {
      geometry = step_geometry d s ∙ a.geometry;
      stands = record { place = let p = on.place in omega arith; call = on.call ∙ a.stands.call };
      lawful = (seat_steps d (stepped_history steps c s history) s here a.lawful some).lawful;
    }

-- the flight of a seat at the last place of a call
record IsLast (x : Flight) (s : ℕ) (call' : Call) : Type 0 where
  place : x.place ≡ places_of call'
  call : x.call ≡ call'
  seat : x.seat ≡ s

-- A call of a lawful state that isn't refused: each of its places can be done, and its end is lawful.
module _ (c : State) (s : ℕ) (call : Call) (history : History) (below : s < tasks c.geometry) (rests : (flight_of c.flights s).place ≡ 0)
    (asks : is_question call ≡ false) (fits : RegistersFit c.geometry.registers call) (accepts : refusal c s call ≡ None) (h : Lawful c history) where
  begun : Lawful (accepted c s call) history
  unfolding flight_at
  begun = lawful_begin c history s call below rests asks fits accepts h

  seated : s < length c.flights
  seated = let e = h.sized.flights in omega arith

  stands_first : StandsAt (accepted c s call) s call 1
  unfolding accepted first_flight
  stands_first =
      let found = set_found c s (first_flight c s call) seated in
      record { place = ap (λ (x : Flight). x.place) found; call = ap (λ (x : Flight). x.call) found }

  after_steps : (steps : ℕ) → steps < places_of call → IsAfter (accepted c s call) (stepped steps (accepted c s call) s) s call (steps + 1) (stepped_history steps (accepted c s call) s history)
  unfolding accepted
  after_steps = is_after (accepted c s call) s call history below stands_first begun

  can_go_on : (steps : ℕ) → steps < places_of call → CanPass c.geometry (passed_by steps c.geometry (begins c s call))
  unfolding flight_at accepted
  can_go_on steps few =
      let a = after_steps steps few in
      let at = a.stands.place in
      can_pass c s (passed_by steps c.geometry (begins c s call)) seated (subst (λ (d : State). CanStep d s) (steps_pass c s call seated steps)
      (can_step _ _ s (rw a.geometry below) a.lawful (let some : 1 ≤ (flight_of (stepped steps (accepted c s call) s).flights s).place = omega arith in some)))

  lawful_end : (steps : ℕ) → steps < places_of call → Lawful (stepped (suc steps) (accepted c s call) s) (stepped_history (suc steps) (accepted c s call) s history)
  unfolding stepped stepped_history flight_at accepted
  lawful_end steps few =
      let a = after_steps steps few in
      let at = a.stands.place in
      (seat_steps (stepped steps (accepted c s call) s) (stepped_history steps (accepted c s call) s history) s (rw a.geometry below) a.lawful
      (let some : 1 ≤ (flight_of (stepped steps (accepted c s call) s).flights s).place = omega arith in some)).lawful

  -- all places can be done, one after another
  can_pass_some : (steps : ℕ) → steps ≤ places_of call → CanPassBy steps c.geometry (begins c s call)
  unfolding CanPassBy
  can_pass_some zero few = tt
  can_pass_some (suc steps) few = (can_pass_some steps (omega arith), can_go_on steps (omega arith))

  pub can_pass_all : CanPassBy (places_of call) c.geometry (begins c s call)
  can_pass_all = can_pass_some (places_of call) (omega arith)

  is_last : (last : ℕ) → places_of call ≡ suc last → IsLast (passed_by last c.geometry (begins c s call)).flight s call
  unfolding flight_at accepted
  is_last last places =
      let a = after_steps last (rw places (omega arith)) in
      let here : s < tasks (stepped last (accepted c s call) s).geometry = rw a.geometry below in
      let found : flight_of (stepped last (accepted c s call) s).flights s ≡ (passed_by last c.geometry (begins c s call)).flight =
      ap (λ (d : State). flight_of d.flights s) (steps_pass c s call seated last) ∙ set_found c s (passed_by last c.geometry (begins c s call)).flight seated in
      record {
        place = ap (λ (x : Flight). x.place) (sym found) ∙ a.stands.place ∙ (let e : last + 1 ≡ places_of call = omega arith in e);
        call = ap (λ (x : Flight). x.call) (sym found) ∙ a.stands.call;
        seat = ap (λ (x : Flight). x.seat) (sym found) ∙ (a.lawful.facts.flights_formed s here).seated;
      }

  -- so a call in one piece leaves the row of its passing, and the seat idle
  pub whole_passes : (last : ℕ) → places_of call ≡ suc last
      → whole c s call ≡ closed (record c { row = (passed_by (places_of call) c.geometry (begins c s call)).row }) s
  unfolding whole closed passed_by passed
  whole_passes last places =
      let x = is_last last places in
      let p = passed_by last c.geometry (begins c s call) in
      let at = x.place in
      let ends : took_of c.geometry p.flight (learnt p.row (event_of c.geometry p.flight)) ≡ idle s =
      takes_last c.geometry p.flight (learnt p.row (event_of c.geometry p.flight)) (omega arith) (x.place ∙ ap places_of (sym x.call)) ∙ ap idle x.seat in
      rw (accepts, places) (steps_pass c s call seated (suc last)
      ∙ ap (λ (y : Flight). in_state c s (record { row = fired_if p.row (event_of c.geometry p.flight); flight = y })) ends)

  -- so what goes through its places and then closes the seat leaves what it leaves
  pub left : (last : ℕ) → places_of call ≡ suc last → (through after : State)
      → through ≡ record c { row = (passed_by (places_of call) c.geometry (begins c s call)).row } → after ≡ closed through s → after ≡ whole c s call
  left last places through after passing closing =
      closing ∙ ap (λ (d : State). closed d s) passing ∙ sym (whole_passes last places)

  -- and it answers how the flight at its last place ends
  pub whole_answers : (last : ℕ) → places_of call ≡ suc last
      → last_answer c s call ≡ Ended (outcome_at (passed_by last c.geometry (begins c s call)).flight call)
  unfolding last_answer step_of
  whole_answers last places =
      let x = is_last last places in
      let p = passed_by last c.geometry (begins c s call) in
      let e : places_of call - 1 ≡ last = omega arith in
      let answers : step_of p.flight ≡ Ended (outcome_at p.flight call) =
      rw (eq-eqb p.flight.place (places_of p.flight.call) (x.place ∙ ap places_of (sym x.call))) (ap (λ (k : Call). Ended (outcome_at p.flight k)) x.call) in
      ap (λ (n : ℕ). answer_by (stepped n (accepted c s call) s) s) e
      ∙ ap (λ (d : State). answer_by d s) (steps_pass c s call seated last)
      ∙ answer_set (with_begun c s p.row) s p.flight seated
      ∙ answers

-- so a call in one piece keeps a lawful state lawful
pub whole_lawful : (c : State) (s : ℕ) (call : Call) (history : History) (last : ℕ) → s < tasks c.geometry → (flight_of c.flights s).place ≡ 0
    → is_question call ≡ false → RegistersFit c.geometry.registers call → places_of call ≡ suc last → Lawful c history → Lawful (whole c s call) (whole_history c s call history)
unfolding whole whole_history
whole_lawful c s call history last below rests asks fits places h = either (refusal c s call) (λ e. rw places (lawful_end c s call history below rests asks fits e h last (rw places (omega arith))))
  where
    either : (o : Option Fault) → (o ≡ None → Lawful (stepped (places_of call) (accepted c s call) s) (stepped_history (places_of call) (accepted c s call) s history))
        → Lawful (begun_or o (stepped (places_of call) (accepted c s call) s) c) (history_or o (stepped_history (places_of call) (accepted c s call) s history) history)
    either None accepts = accepts refl
    either (Some fault) accepts = h

-- and one that is refused leaves it as it was
pub whole_refused : (c : State) (s : ℕ) (call : Call) (fault : Fault) → refusal c s call ≡ Some fault → c ≡ whole c s call
unfolding whole
whole_refused c s call fault e = rw e refl
