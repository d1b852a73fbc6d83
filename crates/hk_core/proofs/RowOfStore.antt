-- The row of a Store: the places at which it enters and leaves its object and loads W0. The other places are given.
use Rattle.std.proofs.Common.{◌≡◌, ℕ, ◌<◌, ◌≤◌, false, inl, inr, refl, arith, None}
use Rattle.std.proofs.lemmas.Bool.{cases_Bool, eqb-true}
use Rattle.std.specs.Prelude.{nat_eq}
use Rattle.hk_words.specs.declared.geometry.Geometry.{Geometry}
use Rattle.hk_words.specs.declared.call.Call.TheVariants as call
use Rattle.hk_words.specs.Geometry.{tasks}
use Rattle.hk_words.specs.Layout as layout
use Rattle.hk_model.specs.History.{History}
use Rattle.hk_core.specs.declared.flight.Flight.{Flight}
use Rattle.hk_core.specs.State.{State, idle}
use Rattle.hk_core.specs.Step as table
use Rattle.hk_core.specs.View.{flight_at}
use Rattle.hk_core.specs.Lawful.{Lawful}
use Rattle.hk_core.proofs.Next.{StepsWell, steps_well}
use Rattle.hk_core.proofs.RowOfLoad.{choose}
use Rattle.hk_core.proofs.Rows.{TablesSay, enters_object, ends_in_object, loads_cycle}
use Rattle.hk_core.proofs.kinds.Seats.{moved_on}
use Rattle.hk_core.proofs.kinds.LoadCycle.{loaded_on, store_loads_cycle}
use Rattle.hk_core.proofs.kinds.Enter.{store_enters}
use Rattle.hk_core.proofs.kinds.Leave.{store_leaves}

module _ (g : Geometry) (x : Flight) (reg field from : ℕ) (is_store : x.call ≡ call.Store reg field from) where
  store_says_1 : x.place ≡ 1 → TablesSay g x (table.enter_object g x) (λ old. moved_on x 2 (layout.header_place old)) (λ old. None)
  unfolding table.event_of table.event_at table.store_event table.took_of table.took_at table.store_took table.effect_of table.effect_at table.store_entry
  store_says_1 at = record { event = rw (is_store, at) refl; flight = λ old. rw (is_store, at) refl; entry = λ old. rw (is_store, at) refl }

  store_says_2 : x.place ≡ 2 → nat_eq x.item 0 ≡ false → TablesSay g x (table.load_w0 g) (λ old. loaded_on x 3 old) (λ old. None)
  unfolding table.event_of table.event_at table.store_event table.took_of table.took_at table.store_took table.effect_of table.effect_at table.store_entry
  store_says_2 at some = record { event = rw (is_store, at, some) refl; flight = λ old. rw (is_store, at) refl; entry = λ old. rw (is_store, at) refl }

  store_says_7 : x.place ≡ 7 → TablesSay g x (table.leave_object g x) (λ old. idle x.seat) (λ old. None)
  unfolding table.event_of table.event_at table.store_event table.took_of table.took_at table.store_took table.effect_of table.effect_at table.store_entry
  store_says_7 at = record { event = rw (is_store, at) refl; flight = λ old. rw (is_store, at) refl; entry = λ old. rw (is_store, at) refl }

-- the places of a Store that rest for null in place of the load of W0, claim, reserve, link and write its cell
pub record StorePlaces (c : State) (history : History) (s : ℕ) : Type 0 where
  pub rests : (flight_at c s).place ≡ 2 → (flight_at c s).item ≡ 0 → StepsWell c history s
  pub claims : (flight_at c s).place ≡ 3 → StepsWell c history s
  pub reserves : (flight_at c s).place ≡ 4 → StepsWell c history s
  pub links : (flight_at c s).place ≡ 5 → StepsWell c history s
  pub writes : (flight_at c s).place ≡ 6 → StepsWell c history s

-- so every step of a Store keeps a lawful state lawful
pub store_steps : (c : State) (history : History) (s : ℕ) → s < tasks c.geometry → Lawful c history → (reg field from : ℕ) → (flight_at c s).call ≡ call.Store reg field from
    → StorePlaces c history s → 1 ≤ (flight_at c s).place → StepsWell c history s
store_steps c history s below h reg field from is_store given some =
    let g = c.geometry in
    let x = flight_at c s in
    let formed = h.facts.flights_formed s below in
    let few : x.place ≤ 7 = rw is_store at formed.in_row in
    choose x.place 1 7 some few
    (λ at. steps_well c history s _ (enters_object c history s below h 2 (rw (is_store, at) (store_enters reg field from)) (store_says_1 g x reg field from is_store at)) refl (λ p other. refl))
    (λ from_2. choose x.place 2 7 from_2 few
    (λ at. elim (cases_Bool (nat_eq x.item 0)) [
      | inl null ↦ given.rests at (eqb-true x.item 0 null)
      | inr item ↦ steps_well c history s _ (loads_cycle c history s below h 3 (rw (is_store, at) (store_loads_cycle reg field from)) (store_says_2 g x reg field from is_store at item)) refl (λ p other. refl)
    ])
    (λ from_3. choose x.place 3 7 from_3 few given.claims
    (λ from_4. choose x.place 4 7 from_4 few given.reserves
    (λ from_5. choose x.place 5 7 from_5 few given.links
    (λ from_6. choose x.place 6 7 from_6 few given.writes
    (λ from_7. let at : x.place ≡ 7 = omega arith in
    steps_well c history s _ (ends_in_object c history s below h (rw (is_store, at) (store_leaves reg field from)) (store_says_7 g x reg field from is_store at)) refl (λ p other. refl)))))))
