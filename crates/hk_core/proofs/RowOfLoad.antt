-- The row of a Load: the places at which it enters and leaves its frame and its object and loads W0. The other places are
-- given.
use Rattle.std.proofs.Common.{◌≡◌, ℕ, suc, ◌<◌, ◌≤◌, false, inl, inr, refl, arith, Some, None}
use Rattle.std.proofs.lemmas.Bool.{cases_eq}
use Rattle.hk_words.specs.declared.geometry.Geometry.{Geometry}
use Rattle.hk_words.specs.declared.call.Call.TheVariants as call
use Rattle.hk_words.specs.Geometry.{tasks}
use Rattle.hk_words.specs.Layout as layout
use Rattle.hk_words.specs.Row.{frame_at}
use Rattle.hk_model.specs.History.{History}
use Rattle.hk_core.specs.declared.event.Event.TheVariants as event
use Rattle.hk_core.specs.declared.flight.Flight.{Flight}
use Rattle.hk_core.specs.State.{State, idle}
use Rattle.hk_core.specs.Step as table
use Rattle.hk_core.specs.View.{flight_at}
use Rattle.hk_core.specs.Flights as f
use Rattle.hk_core.specs.Lawful.{Lawful}
use Rattle.hk_core.proofs.Next.{StepsWell, steps_well}
use Rattle.hk_core.proofs.Rows.{TablesSay, says_so, enters_object, leaves_object, loads_cycle, enters_frame, ends_in_frame}
use Rattle.hk_core.proofs.kinds.Seats.{moved_on}
use Rattle.hk_core.proofs.kinds.LoadCycle.{loaded_on, load_loads_cycle}
use Rattle.hk_core.proofs.kinds.Enter.{load_enters}
use Rattle.hk_core.proofs.kinds.Leave.{load_leaves}
use Rattle.hk_core.proofs.kinds.Frame.{load_enters_frame, load_leaves_frame}

module _ (g : Geometry) (x : Flight) (dest reg field : ℕ) (is_load : x.call ≡ call.Load dest reg field) where
  load_says_1 : x.place ≡ 1 → TablesSay g x (Some (event.Add (frame_at g x.seat) layout.entering)) (λ old. moved_on x 2 x.at) (λ old. None)
  unfolding table.event_of table.event_at table.load_event table.enter_frame table.leave_frame table.took_of table.took_at table.load_took table.effect_of table.effect_at table.load_entry_of
  load_says_1 at = record { event = rw (is_load, at) refl; flight = λ old. rw (is_load, at) refl; entry = λ old. rw (is_load, at) refl }

  load_says_2 : x.place ≡ 2 → TablesSay g x (table.enter_object g x) (λ old. moved_on x 3 (layout.header_place old)) (λ old. None)
  unfolding table.event_of table.event_at table.load_event table.enter_frame table.leave_frame table.took_of table.took_at table.load_took table.effect_of table.effect_at table.load_entry_of
  load_says_2 at = record { event = rw (is_load, at) refl; flight = λ old. rw (is_load, at) refl; entry = λ old. rw (is_load, at) refl }

  load_says_3 : x.place ≡ 3 → TablesSay g x (table.load_w0 g) (λ old. loaded_on x 4 old) (λ old. None)
  unfolding table.event_of table.event_at table.load_event table.enter_frame table.leave_frame table.took_of table.took_at table.load_took table.effect_of table.effect_at table.load_entry_of
  load_says_3 at = record { event = rw (is_load, at) refl; flight = λ old. rw (is_load, at) refl; entry = λ old. rw (is_load, at) refl }

  load_says_9 : x.place ≡ 9 → TablesSay g x (table.leave_object g x) (λ old. moved_on x 10 x.at) (λ old. None)
  unfolding table.event_of table.event_at table.load_event table.enter_frame table.leave_frame table.took_of table.took_at table.load_took table.effect_of table.effect_at table.load_entry_of
  load_says_9 at = record { event = rw (is_load, at) refl; flight = λ old. rw (is_load, at) refl; entry = λ old. rw (is_load, at) refl }

  load_says_10 : x.place ≡ 10 → TablesSay g x (Some (event.Sub (frame_at g x.seat) layout.leaving)) (λ old. idle x.seat) (λ old. None)
  unfolding table.event_of table.event_at table.load_event table.enter_frame table.leave_frame table.took_of table.took_at table.load_took table.effect_of table.effect_at table.load_entry_of
  load_says_10 at = record { event = rw (is_load, at) refl; flight = λ old. rw (is_load, at) refl; entry = λ old. rw (is_load, at) refl }

  load_busy : f.IsInStep x → f.is_resting x ≡ false
  load_busy o = let p : f.IsNoNew x.full x.raised = rw is_load at o in rw p.not_full refl

-- the places of a Load that read its cell, claim, reserve, link and write its register
pub record LoadPlaces (c : State) (history : History) (s : ℕ) : Type 0 where
  pub reads : (flight_at c s).place ≡ 4 → StepsWell c history s
  pub claims : (flight_at c s).place ≡ 5 → StepsWell c history s
  pub reserves : (flight_at c s).place ≡ 6 → StepsWell c history s
  pub links : (flight_at c s).place ≡ 7 → StepsWell c history s
  pub writes : (flight_at c s).place ≡ 8 → StepsWell c history s

-- the place is one of those from a first to a last one
pub choose : {A : Type 0} (p k n : ℕ) → k ≤ p → p ≤ n → (p ≡ k → A) → (suc k ≤ p → A) → A
choose p k n from to here later = elim (cases_eq p k) [ inl e ↦ here e | inr d ↦ later (omega arith) ]

-- so every step of a Load keeps a lawful state lawful
pub load_steps : (c : State) (history : History) (s : ℕ) → s < tasks c.geometry → Lawful c history → (dest reg field : ℕ) → (flight_at c s).call ≡ call.Load dest reg field
    → LoadPlaces c history s → 1 ≤ (flight_at c s).place → StepsWell c history s
load_steps c history s below h dest reg field is_load given some =
    let g = c.geometry in
    let x = flight_at c s in
    let formed = h.facts.flights_formed s below in
    let seated : x.seat ≡ s = formed.seated in
    let few : x.place ≤ 10 = rw is_load at formed.in_row in
    let busy = load_busy g x dest reg field is_load (h.facts.news_in_step s below) in
    choose x.place 1 10 some few
    (λ at. steps_well c history s _ (enters_frame c history s below h 2 (rw (is_load, at) (load_enters_frame dest reg field)) busy
    (says_so g x _ _ _ _ _ (load_says_1 g x dest reg field is_load at) (rw seated refl) (λ old. refl))) refl (λ p other. refl))
    (λ from_2. choose x.place 2 10 from_2 few
    (λ at. steps_well c history s _ (enters_object c history s below h 3 (rw (is_load, at) (load_enters dest reg field)) (load_says_2 g x dest reg field is_load at)) refl (λ p other. refl))
    (λ from_3. choose x.place 3 10 from_3 few
    (λ at. steps_well c history s _ (loads_cycle c history s below h 4 (rw (is_load, at) (load_loads_cycle dest reg field)) (load_says_3 g x dest reg field is_load at)) refl (λ p other. refl))
    (λ from_4. choose x.place 4 10 from_4 few given.reads
    (λ from_5. choose x.place 5 10 from_5 few given.claims
    (λ from_6. choose x.place 6 10 from_6 few given.reserves
    (λ from_7. choose x.place 7 10 from_7 few given.links
    (λ from_8. choose x.place 8 10 from_8 few given.writes
    (λ from_9. choose x.place 9 10 from_9 few
    (λ at. steps_well c history s _ (leaves_object c history s below h 10 (rw (is_load, at) (load_leaves dest reg field)) (load_says_9 g x dest reg field is_load at)) refl (λ p other. refl))
    (λ from_10. let at : x.place ≡ 10 = omega arith in
    steps_well c history s _ (ends_in_frame c history s below h (rw (is_load, at) (load_leaves_frame dest reg field)) busy
    (says_so g x _ _ _ _ _ (load_says_10 g x dest reg field is_load at) (rw seated refl) (λ old. refl))) refl (λ p other. refl))))))))))
