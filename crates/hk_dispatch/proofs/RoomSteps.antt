-- A step leaves a flight that found room so far without the mark of one that found too few words, where a New finds enough at its
-- first place and at its third. And only such a mark leads to the reply that there was no room.
use Rattle.std.proofs.Common.{◌≡◌, ◌≢◌, ℕ, ◌+◌, ◌<◌, ◌≤◌, Bool, false, length, refl, sym, subst, ◌∙◌, ap, arith, inl, inr}
use Rattle.std.proofs.lemmas.Bool.{cases_eq, cases_lt, eqb-true, le-ltb, and_right, or_from}
use Rattle.std.specs.Prelude.{not, ◌&&◌, ◌==◌, if◌then◌else◌}
use Rattle.hk_words.specs.declared.call.Call.{Call}
use Rattle.hk_words.specs.declared.call.Call.TheVariants as call
use Rattle.hk_words.specs.declared.call.Reply.TheVariants as reply
use Rattle.hk_words.specs.declared.geometry.Geometry.{Geometry}
use Rattle.hk_words.specs.declared.shape.Shape.{Shape}
use Rattle.hk_words.specs.Bounds.{places_of}
use Rattle.hk_words.specs.Geometry.{tasks}
use Rattle.hk_words.specs.Layout.{w0_words}
use Rattle.hk_words.specs.Row.{W0, word_of}
use Rattle.hk_words.specs.Shape.{size}
use Rattle.hk_model.specs.History.{History}
use Rattle.hk_core.specs.declared.flight.Flight.{Flight}
use Rattle.hk_core.specs.declared.outcome.Outcome.TheVariants as outcome
use Rattle.hk_core.specs.declared.outcome.Step.{Step}
use Rattle.hk_core.specs.State.{State, flight_of}
use Rattle.hk_core.specs.Step.{limit_of, full_to, full_to_all, outcome_at, step_of, answer_by, next, history_after}
use Rattle.hk_core.specs.Flights.{IsInStepAt}
use Rattle.hk_core.specs.View.{flight_at}
use Rattle.hk_core.specs.Lawful.{Lawful}
use Rattle.hk_core.specs.Refused.{finds_too_few}
use Rattle.hk_core.proofs.Places.{goes_on, ends}
use Rattle.hk_core.proofs.Room.{new_tells}
use Rattle.hk_core.proofs.Seven.{seat_steps}
use Rattle.hk_core.proofs.Turns.{has_flight, step_geometry}
use Rattle.hk_collect.specs.Taken.{used_in}
use Rattle.hk_dispatch.specs.declared.operation.Left.TheVariants as left
use Rattle.hk_dispatch.specs.Ticks.{reply_in, left_in}
use Rattle.hk_dispatch.proofs.Courses.{by_test}

-- WHERE A FLIGHT CAN BE FULL

-- only a New can be full, and only after its first place
full_later : (c : Call) (place : ℕ) (full raised : Bool) → IsInStepAt c place full raised → ((dest : ℕ) (shape : Shape) → c ≡ call.New dest shape → 2 ≤ place → full ≡ false) → full ≡ false
full_later (call.Get reg field) place full raised s later = s.not_full
full_later (call.Put reg field value) place full raised s later = s.not_full
full_later (call.Load dest reg field) place full raised s later = s.not_full
full_later (call.Store reg field from) place full raised s later = s.not_full
full_later (call.Move dest from) place full raised s later = s.not_full
full_later (call.Clear dest) place full raised s later = s.not_full
full_later (call.New dest shape) place full raised s later = elim (cases_lt place 2) [ inl early ↦ s.not_full_yet (omega (arith, early)) | inr late ↦ later dest shape refl late ]
full_later (call.Same a b) place full raised s later = s.not_full
full_later (call.IsNull reg) place full raised s later = s.not_full

-- A STEP

-- a place of a New finds enough words, where at the first its seat may use so many more, and at the third anybody may
pub finds_enough : (c : State) (f : Flight) (shape : Shape) → (f.place ≡ 1 → used_in c + size shape ≤ limit_of c.geometry f.seat)
    → (f.place ≡ 3 → used_in c + size shape ≤ c.geometry.alloc) → finds_too_few c f shape ≡ false
finds_enough c f shape first third =
    let w0 = word_of c.geometry c.row W0 in
    by_test (λ b. b ≡ false) (f.place == 1) (full_to c.geometry f.seat shape w0) (if f.place == 3 then not f.full && full_to_all c.geometry shape w0 else false)
    (λ e. le-ltb (limit_of c.geometry f.seat) (w0_words w0 + size shape) (first (eqb-true f.place 1 e)))
    (λ other. by_test (λ b. b ≡ false) (f.place == 3) (not f.full && full_to_all c.geometry shape w0) false
    (λ e. and_right (not f.full) (full_to_all c.geometry shape w0) (le-ltb c.geometry.alloc (w0_words w0 + size shape) (third (eqb-true f.place 3 e)))) (λ no'. refl))

module _ (c : State) (history : History) (h : Lawful c history) (seat : ℕ) (below : seat < tasks c.geometry) where
  pub room_still : 1 ≤ (flight_of c.flights seat).place → (flight_of c.flights seat).full ≡ false
      → ((dest : ℕ) (shape : Shape) → (flight_of c.flights seat).call ≡ call.New dest shape → finds_too_few c (flight_of c.flights seat) shape ≡ false)
      → (flight_of (next c seat).flights seat).full ≡ false
  unfolding flight_at
  room_still flying room finds =
      let x = flight_of c.flights seat in
      let y = flight_of (next c seat).flights seat in
      let after : Lawful (next c seat) (history_after c seat history) = (seat_steps c history seat below h flying).lawful in
      let inside : seat < tasks (next c seat).geometry = subst (λ (g : Geometry). seat < tasks g) (sym (step_geometry c seat)) below in
      let flights : seat < length c.flights = has_flight c seat h.sized below in
      let in_row : x.place ≤ places_of x.call = (h.facts.flights_formed seat below).in_row in
      full_later y.call y.place y.full y.raised (after.facts.news_in_step seat inside) (λ dest shape is_new late. elim (cases_eq x.place (places_of x.call)) [
        | inl last ↦ absurd (let at : y.place ≡ 0 = (ends c seat flights flying last).place in omega (arith, at, late))
        | inr more ↦
            let g = goes_on c seat flights flying (omega (arith, in_row, more)) in
            let same : x.call ≡ call.New dest shape = sym g.call ∙ is_new in
            let early : x.place < 7 = omega (arith, in_row, more, ap places_of same) in
            (new_tells c history h seat dest shape below same flying).full early ∙ or_from x.full (finds_too_few c x shape) room (finds dest shape same)
      ])

-- THE ANSWER

unrefused : (f : Flight) (c : Call) → f.full ≡ false → reply_in (outcome_at f c) ≢ reply.Full
unrefused f (call.Get reg field) room e = absurd (cc)
unrefused f (call.Put reg field value) room e = absurd (cc)
unrefused f (call.Load dest reg field) room e = absurd (cc)
unrefused f (call.Store reg field from) room e = absurd (cc)
unrefused f (call.Move dest from) room e = absurd (cc)
unrefused f (call.Clear dest) room e = absurd (cc)
unrefused f (call.New dest shape) room e =
    let none : reply.Unit ≡ reply.Full = subst (λ (b : Bool). reply_in (if b then outcome.Full (w0_words f.word) else outcome.Done reply.Unit) ≡ reply.Full) room e in absurd (cc)
unrefused f (call.Same a b) room e = absurd (cc)
unrefused f (call.IsNull reg) room e = absurd (cc)

pub answers_room : (core : State) (seat : ℕ) → (flight_of core.flights seat).full ≡ false → left_in (answer_by core seat) ≢ left.Passes reply.Full
unfolding answer_by step_of
answers_room core seat room =
    let f = flight_of core.flights seat in
    by_test (λ (s : Step). left_in s ≢ left.Passes reply.Full) (f.place == places_of f.call) _ _
    (λ last e. unrefused f f.call room (let same : reply_in (outcome_at f f.call) ≡ reply.Full = cc in same)) (λ going e. absurd (cc))
