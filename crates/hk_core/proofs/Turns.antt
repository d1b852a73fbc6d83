-- A call in flight goes on by the steps of its own seat alone, one place at each.
use Rattle.std.proofs.Common.{◌≡◌, ◌≢◌, ℕ, ◌+◌, ◌<◌, ◌≤◌, Bool, true, false, [], ◌∷◌, List, length, length-set, inl, inr, refl, ◌∙◌, ap, arith, Option, Some, None}
use Rattle.std.proofs.lemmas.Bool.{cases_Bool, and_parts, ltb-true, eqb-true}
use Rattle.std.proofs.lemmas.Bool.Decides.{nat_tests}
use Rattle.std.specs.Prelude.{nat_lt, nat_eq, not, ◌&&◌, if◌then◌else◌}
use Rattle.hk_words.specs.declared.call.Call.{Call}
use Rattle.hk_words.specs.Geometry.{tasks}
use Rattle.hk_model.specs.History.{is_question}
use Rattle.hk_core.specs.declared.flight.Flight.{Flight}
use Rattle.hk_core.specs.declared.outcome.Fault.{Fault}
use Rattle.hk_core.specs.State.{State, IsSized, flight_of}
use Rattle.hk_words.specs.Bounds.{places_of}
use Rattle.hk_core.specs.Step.{answer_by, next}
use Rattle.hk_core.specs.Begin.{refusal, accepted, after_begin, begun_or}
use Rattle.hk_core.specs.Collect.{next_collected}
use Rattle.hk_core.specs.Run.{Action, Running, begin, step, collect, act, run, may_begin, is_idle, is_busy, registers_fit}
use Rattle.hk_core.specs.Places.{Ends}
use Rattle.hk_core.specs.Turns.{step_count, steps_of, StandsLater}
use Rattle.hk_core.proofs.Next.{length-fired_if}
use Rattle.hk_core.proofs.Places.{others_kept, goes_on, ends, begins_alone}

-- the state after it has the same geometry and as many words and flights, and the seat's flight stands so many places later
pub record GoesBy (seat : ℕ) (before after : State) (steps : ℕ) : Type 0 where
  pub geometry : after.geometry ≡ before.geometry
  pub sized : IsSized after
  pub later : StandsLater (flight_of before.flights seat) (flight_of after.flights seat) steps

stays : (seat : ℕ) (c : State) → IsSized c → GoesBy seat c c 0
stays seat c sized = record { geometry = refl; sized = sized; later = record { place = omega arith; call = refl } }

-- where the flight is the same it stands no later
as_it_was : (x y : Flight) → y ≡ x → StandsLater x y 0
as_it_was x y same = record { place = ap (λ (v : Flight). v.place) same ∙ plus_nothing x.place; call = ap (λ (v : Flight). v.call) same }
  where
    plus_nothing : (n : ℕ) → n ≡ n + 0
    plus_nothing n = omega arith

pub begin_sized : (c : State) (s : ℕ) (call : Call) → IsSized c → IsSized (after_begin c s call)
unfolding after_begin accepted
begin_sized c s call sized = either (refusal c s call)
  where
    either : (refused : Option Fault) → IsSized (begun_or refused (accepted c s call) c)
    either None = record { row = sized.row; flights = length-set c.flights s _ ∙ sized.flights; begun = length-set c.begun s _ ∙ sized.begun }
    either (Some fault) = sized

pub begin_geometry : (c : State) (s : ℕ) (call : Call) → (after_begin c s call).geometry ≡ c.geometry
unfolding after_begin accepted
begin_geometry c s call = either (refusal c s call)
  where
    either : (refused : Option Fault) → (begun_or refused (accepted c s call) c).geometry ≡ c.geometry
    either None = refl
    either (Some fault) = refl

step_sized : (c : State) (s : ℕ) → IsSized c → IsSized (next c s)
unfolding next
step_sized c s sized = record { row = length-fired_if c.row _ ∙ sized.row; flights = length-set c.flights s _ ∙ sized.flights; begun = sized.begun }

pub step_geometry : (c : State) (s : ℕ) → (next c s).geometry ≡ c.geometry
unfolding next
step_geometry c s = refl

collected : (seat : ℕ) (c : State) → IsSized c → GoesBy seat c (next_collected c) 0
unfolding next_collected
collected seat c sized = record { geometry = refl; sized = record { row = length-fired_if c.row _ ∙ sized.row; flights = sized.flights; begun = sized.begun }; later = as_it_was _ _ refl }

by_test : (P : State → Type 0) (test : Bool) (a b : Running) → (test ≡ true → P a.core) → (test ≡ false → P b.core) → P (if test then a else b).core
by_test P true a b yes' no' = yes' refl
by_test P false a b yes' no' = no' refl

pub has_flight : (c : State) (s : ℕ) → IsSized c → s < tasks c.geometry → s < length c.flights
has_flight c s sized below = let flights = sized.flights in omega arith

pub differ : (a b : ℕ) → nat_eq a b ≡ false → b ≢ a
differ a b e = grind (arith, nat_tests)

pub not_busy : (s n place : ℕ) → s < n → 1 ≤ place → (nat_lt s n && not (nat_eq place 0)) ≡ false → ⊥
not_busy s n place below some e = grind (arith, nat_tests)

module _ (seat : ℕ) (r : Running) (sized : IsSized r.core) (below : seat < tasks r.core.geometry) (some : 1 ≤ (flight_of r.core.flights seat).place) where
  begun : (s : ℕ) (call : Call) → GoesBy seat r.core (act r (begin s call)).core 0
  unfolding act
  begun s call =
      by_test (λ c. GoesBy seat r.core c 0) (may_begin r.core s call) _ r
      (λ e.
      let p = and_parts (is_idle r.core s) (not (is_question call) && registers_fit r.core.geometry.registers call) e in
      let idle = and_parts (nat_lt s (tasks r.core.geometry)) (nat_eq (flight_of r.core.flights s).place 0) p.0 in
      let s_below : s < tasks r.core.geometry = ltb-true s (tasks r.core.geometry) idle.0 in
      let none : (flight_of r.core.flights s).place ≡ 0 = eqb-true (flight_of r.core.flights s).place 0 idle.1 in
      record {
        geometry = begin_geometry r.core s call;
        sized = begin_sized r.core s call sized;
        later = as_it_was _ _ (begins_alone r.core s (has_flight r.core s sized s_below) call seat (λ same. busy s same none));
      })
      (λ e. stays seat r.core sized)
    where
      busy : (s : ℕ) → seat ≡ s → (flight_of r.core.flights s).place ≡ 0 → ⊥
      busy s same none = let at : (flight_of r.core.flights seat).place ≡ 0 = ap (λ (t : ℕ). (flight_of r.core.flights t).place) same ∙ none in absurd (omega arith)

  stepped_own : (flight_of r.core.flights seat).place < places_of (flight_of r.core.flights seat).call → GoesBy seat r.core (act r (step seat)).core 1
  unfolding act
  stepped_own few =
      by_test (λ c. GoesBy seat r.core c 1) (is_busy r.core seat) _ r
      (λ e.
      let o = goes_on r.core seat (has_flight r.core seat sized below) some few in
      record { geometry = step_geometry r.core seat; sized = step_sized r.core seat sized; later = record { place = o.place; call = o.call } })
      (λ e. absurd (not_busy seat (tasks r.core.geometry) (flight_of r.core.flights seat).place below some e))

  stepped_other : (s : ℕ) → seat ≢ s → GoesBy seat r.core (act r (step s)).core 0
  unfolding act
  stepped_other s other =
      by_test (λ c. GoesBy seat r.core c 0) (is_busy r.core s) _ r
      (λ e.
      let p = and_parts (nat_lt s (tasks r.core.geometry)) (not (nat_eq (flight_of r.core.flights s).place 0)) e in
      let s_below : s < tasks r.core.geometry = ltb-true s (tasks r.core.geometry) p.0 in
      record { geometry = step_geometry r.core s; sized = step_sized r.core s sized; later = as_it_was _ _ (others_kept r.core s (has_flight r.core s sized s_below) seat other) })
      (λ e. stays seat r.core sized)

  collects : GoesBy seat r.core (act r collect).core 0
  unfolding act
  collects = collected seat r.core sized

  by_own : (s : ℕ) → nat_eq s seat ≡ true → s ≡ seat → (flight_of r.core.flights seat).place + step_count seat (step s) ≤ places_of (flight_of r.core.flights seat).call
      → GoesBy seat r.core (act r (step s)).core (step_count seat (step s))
  unfolding step_count
  by_own s own same few =
      let early : (flight_of r.core.flights seat).place + 1 ≤ places_of (flight_of r.core.flights seat).call = rw own at few in
      rw own (rw same (stepped_own (omega arith)))

  pub acted : (a : Action) → (flight_of r.core.flights seat).place + step_count seat a ≤ places_of (flight_of r.core.flights seat).call → GoesBy seat r.core (act r a).core (step_count seat a)
  unfolding step_count
  acted (begin s call) few = begun s call
  acted (step s) few = elim (cases_Bool (nat_eq s seat)) [
    | inl own ↦ by_own s own (eqb-true s seat own) few
    | inr other ↦ rw other (stepped_other s (differ s seat other))
  ]
  acted collect few = collects

-- a list of actions
pub goes_by : (seat : ℕ) (actions : List Action) (r : Running) → IsSized r.core → seat < tasks r.core.geometry → 1 ≤ (flight_of r.core.flights seat).place
    → (flight_of r.core.flights seat).place + steps_of seat actions ≤ places_of (flight_of r.core.flights seat).call
    → GoesBy seat r.core (run r actions).core (steps_of seat actions)
unfolding run steps_of
goes_by seat [] r sized below some few = stays seat r.core sized
goes_by seat (a ∷ actions) r sized below some few =
    let first : GoesBy seat r.core (act r a).core (step_count seat a) = acted seat r sized below some a (omega arith) in
    let geometry = first.geometry in
    let place = first.later.place in
    let call = first.later.call in
    let same : places_of (flight_of (act r a).core.flights seat).call ≡ places_of (flight_of r.core.flights seat).call = ap places_of call in
    let tasks' : tasks (act r a).core.geometry ≡ tasks r.core.geometry = ap tasks geometry in
    let rest : GoesBy seat (act r a).core (run (act r a) actions).core (steps_of seat actions) =
    goes_by seat actions (act r a) first.sized (omega arith) (omega arith) (omega arith) in
    let further = rest.later.place in
    record {
      geometry = rest.geometry ∙ geometry;
      sized = rest.sized;
      later = record { place = omega arith; call = rest.later.call ∙ call };
    }

module _ (r : Running) (seat : ℕ) (actions : List Action) (sized : IsSized r.core) (below : seat < tasks r.core.geometry) (some : 1 ≤ (flight_of r.core.flights seat).place) where
  pub stands_later : (flight_of r.core.flights seat).place + steps_of seat actions ≤ places_of (flight_of r.core.flights seat).call
      → StandsLater (flight_of r.core.flights seat) (flight_of (run r actions).core.flights seat) (steps_of seat actions)
  stands_later few = (goes_by seat actions r sized below some few).later

  -- so the step after those that lead to the last place ends the call
  pub ends_then : (flight_of r.core.flights seat).place + steps_of seat actions ≡ places_of (flight_of r.core.flights seat).call
      → Ends (flight_of (run r actions).core.flights seat) (flight_of (next (run r actions).core seat).flights seat) (answer_by (run r actions).core seat)
  ends_then at =
      let o = goes_by seat actions r sized below some (omega arith) in
      let place = o.later.place in
      let same : places_of (flight_of (run r actions).core.flights seat).call ≡ places_of (flight_of r.core.flights seat).call = ap places_of o.later.call in
      let tasks' : tasks (run r actions).core.geometry ≡ tasks r.core.geometry = ap tasks o.geometry in
      ends (run r actions).core seat (has_flight (run r actions).core seat o.sized (omega arith)) (omega arith) (omega arith)
