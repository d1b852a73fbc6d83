-- What the actions of one atomic step make of a run: the row is that after the event, and the seat's own things are those
-- that the tables of a step say.
use Rattle.std.proofs.Common.{◌≡◌, ◌⊎◌, ℕ, zero, suc, ◌+◌, ◌<◌, ◌≤◌, Bool, true, false, List, [], ◌∷◌, refl, sym, ◌∙◌, ap, subst, arith, inl, inr, ⊎_elim, lt-ltb, Option, Some, None}
use Rattle.std.proofs.lemmas.Bool.{cases_Bool, cases_eq, and_parts, and_from}
use Rattle.std.proofs.lemmas.Bool.Decides.{nat_tests}
use Rattle.std.specs.Prelude.{nat_eq, nat_lt, not, is_none, slice_index, if◌then◌else◌}
use Rattle.hk_words.specs.declared.geometry.Geometry.{Geometry}
use Rattle.hk_words.specs.Geometry.{tasks}
use Rattle.hk_core.specs.declared.event.Event.{Event}
use Rattle.hk_core.specs.declared.flight.Flight.{Flight}
use Rattle.hk_core.specs.Event.{fired_if, learnt}
use Rattle.hk_core.specs.State.{idle, flight_of}
use Rattle.hk_core.specs.declared.outcome.Step.{Step}
use Rattle.hk_core.specs.Step.{step_of, next, history_after, event_by, found_by, event_of, took_of}
use Rattle.hk_words.specs.Bounds.{places_of}
use Rattle.hk_core.specs.Fits.{CanStep, Fits}
use Rattle.hk_core.specs.Run.{Action, Running, step, act, run, is_busy}
use Rattle.hk_core.specs.View.{flight_at}
use Rattle.hk_core.proofs.Actions.{IsLawfulRun}
use Rattle.hk_core.proofs.Can.{can_step}
use Rattle.hk_core.proofs.Places.{flight_stepped, takes_next, takes_last}
use Rattle.hk_core.proofs.Turns.{has_flight}
use Rattle.hk_collect.proofs.Running.{lawful_act, act_geometry}
use Rattle.hk_table.specs.Deeds.{RestsFit, answered, LastStep, is_rest, settled, rests}

-- what a run says of a seat
pub record SeatAt (r : Running) (s : ℕ) (words : List ℕ) (f : Flight) (count : ℕ) : Type 0 where
  pub row : r.core.row ≡ words
  pub flight : flight_of r.core.flights s ≡ f
  pub begun : slice_index r.core.begun s ≡ count

-- what every run is
pub record IsRun (g : Geometry) (s : ℕ) (r : Running) : Type 0 where
  pub lawful : IsLawfulRun r
  pub geometry : r.core.geometry ≡ g
  pub below : s < tasks g

pub run_acts : (g : Geometry) (s : ℕ) (r : Running) (a : Action) → IsRun g s r → IsRun g s (act r a)
run_acts g s r a h = record { lawful = lawful_act r a h.lawful; geometry = act_geometry r a ∙ h.geometry; below = h.below }

pub if_true : {A : Type 0} (test : Bool) (a b : A) → test ≡ true → (if test then a else b) ≡ a
if_true true a b e = refl
if_true false a b e = absurd (cc)

if_false : {A : Type 0} (test : Bool) (a b : A) → test ≡ false → (if test then a else b) ≡ b
if_false true a b e = absurd (cc)
if_false false a b e = refl

flying_test : (place : ℕ) → 1 ≤ place → not (nat_eq place 0) ≡ true
flying_test place h = grind (arith, nat_tests)

-- A STEP

module _ (g : Geometry) (s : ℕ) (r : Running) (h : IsRun g s r) where
  pub below_here : s < tasks r.core.geometry
  below_here = subst (λ (k : Geometry). s < tasks k) (sym h.geometry) h.below

  pub can : 1 ≤ (flight_of r.core.flights s).place → CanStep r.core s
  unfolding flight_at
  can flying = can_step r.core r.history s below_here h.lawful flying

  pub seated : (flight_of r.core.flights s).seat ≡ s
  unfolding flight_at
  seated = (h.lawful.facts.flights_formed s below_here).seated

  pub steps : 1 ≤ (flight_of r.core.flights s).place → act r (step s) ≡ record { core = next r.core s; history = history_after r.core s r.history }
  unfolding act
  steps flying = if_true (is_busy r.core s) _ _ (and_from (nat_lt s (tasks r.core.geometry)) _ (lt-ltb s (tasks r.core.geometry) below_here) (flying_test (flight_of r.core.flights s).place flying))

  -- a step at the flight f, whose event is e
  pub step_at : (f : Flight) (e : Option Event) → flight_of r.core.flights s ≡ f → 1 ≤ f.place → event_of g f ≡ e
      → SeatAt (act r (step s)) s (fired_if r.core.row e) (took_of g f (learnt r.core.row e)) (slice_index r.core.begun s)
  unfolding next found_by event_by
  step_at f e at flying asks =
      let flying' : 1 ≤ (flight_of r.core.flights s).place = subst (λ (x : Flight). 1 ≤ x.place) (sym at) flying in
      let same = steps flying' in
      let asked : event_by r.core s ≡ e = (λ i. event_of (h.geometry i) (at i)) ∙ asks in
      record {
        row = ap (λ (k : Running). k.core.row) same ∙ ap (fired_if r.core.row) asked;
        flight = ap (λ (k : Running). flight_of k.core.flights s) same ∙ flight_stepped r.core s (has_flight r.core s h.lawful.sized below_here)
            ∙ (λ i. took_of (h.geometry i) (at i) (learnt r.core.row (asked i)));
        begun = ap (λ (k : Running). slice_index k.core.begun s) same;
      }

-- RESTS

rest_parts : (g : Geometry) (f : Flight) → is_rest g f ≡ true → (1 ≤ f.place) × (event_of g f ≡ None)
unfolding is_rest
rest_parts g f e = let p = and_parts (not (nat_eq f.place 0)) (is_none (event_of g f)) e in (flying f.place p.0, none (event_of g f) p.1)
  where
    flying : (place : ℕ) → not (nat_eq place 0) ≡ true → 1 ≤ place
    flying place e = grind (arith, nat_tests)

    none : (o : Option Event) → is_none o ≡ true → o ≡ None
    none None e = refl
    none (Some x) e = absurd (cc)

-- one more rest
rests_more : (g : Geometry) (k s : ℕ) (f : Flight) → is_rest g f ≡ true → f.seat ≡ s → rests (suc k) g f ≡ step s ∷ rests k g (took_of g f 0)
unfolding rests
rests_more g k s f e own = if_true (is_rest g f) _ _ e ∙ ap (λ (o : ℕ). step o ∷ rests k g (took_of g f 0)) own

settled_more : (g : Geometry) (k : ℕ) (f : Flight) → is_rest g f ≡ true → settled (suc k) g f ≡ settled k g (took_of g f 0)
unfolding settled
settled_more g k f e = if_true (is_rest g f) _ _ e

rests_over : (g : Geometry) (k : ℕ) (f : Flight) → is_rest g f ≡ false → rests (suc k) g f ≡ []
unfolding rests
rests_over g k f e = if_false (is_rest g f) _ _ e

settled_over : (g : Geometry) (k : ℕ) (f : Flight) → is_rest g f ≡ false → settled (suc k) g f ≡ f
unfolding settled
settled_over g k f e = if_false (is_rest g f) _ _ e

idle_is : (g : Geometry) (f : Flight) → f.place ≡ 0 → is_rest g f ≡ false
unfolding is_rest
idle_is g f e = rw e refl

settled_none : (g : Geometry) (f : Flight) → settled zero g f ≡ f
unfolding settled
settled_none g f = refl

none-learnt : (row : List ℕ) → learnt row None ≡ 0
unfolding learnt
none-learnt row = refl

-- the rests change no word
pub rests_at : (g : Geometry) (s k : ℕ) (r : Running) (f : Flight) → IsRun g s r → flight_of r.core.flights s ≡ f
    → SeatAt (run r (rests k g f)) s r.core.row (settled k g f) (slice_index r.core.begun s)
unfolding run learnt fired_if rests settled
rests_at g s zero r f h at = record { row = refl; flight = at; begun = refl }
rests_at g s (suc k) r f h at =
    elim (cases_Bool (is_rest g f)) [
      | inl e ↦
          let p = rest_parts g f e in
          let own : f.seat ≡ s = ap (λ (x : Flight). x.seat) (sym at) ∙ seated g s r h in
          let one = step_at g s r h f None at p.0 p.1 in
          let next' = rests_at g s k (act r (step s)) (took_of g f 0) (run_acts g s r (step s) h) one.flight in
          subst (λ (l : List Action). SeatAt (run r l) s r.core.row (settled (suc k) g f) (slice_index r.core.begun s)) (sym (rests_more g k s f e own))
          (record { row = next'.row ∙ one.row; flight = next'.flight ∙ sym (settled_more g k f e); begun = next'.begun ∙ one.begun })
      | inr e ↦
          subst (λ (l : List Action). SeatAt (run r l) s r.core.row (settled (suc k) g f) (slice_index r.core.begun s)) (sym (rests_over g k f e))
          (record { row = refl; flight = at ∙ sym (settled_over g k f e); begun = refl })
    ]

answered_more : (g : Geometry) (k : ℕ) (f : Flight) (a : Step) → is_rest g f ≡ true → answered (suc k) g f a ≡ answered k g (took_of g f 0) (step_of f)
unfolding answered
answered_more g k f a e = if_true (is_rest g f) _ _ e

answered_over : (g : Geometry) (k : ℕ) (f : Flight) (a : Step) → is_rest g f ≡ false → answered (suc k) g f a ≡ a
unfolding answered
answered_over g k f a e = if_false (is_rest g f) _ _ e

-- where a place of the row leads
leads_on : (g : Geometry) (f : Flight) (old : ℕ) → 1 ≤ f.place → f.place ≤ places_of f.call
    → ((f.place < places_of f.call) × ((took_of g f old).place ≡ f.place + 1) × ((took_of g f old).call ≡ f.call)) ⊎ ((f.place ≡ places_of f.call) × ((took_of g f old).place ≡ 0))
unfolding idle
leads_on g f old some few = elim (cases_eq f.place (places_of f.call)) [
  | inl last ↦ inr (last, ap (λ (x : Flight). x.place) (takes_last g f old some last))
  | inr more ↦ let t = takes_next g f old some (omega arith) in inl (omega arith, t.place, t.call)
]

-- the last of the steps
pub last_step : (g : Geometry) (s k : ℕ) (r : Running) (f : Flight) (old : ℕ) → IsRun g s r → flight_of r.core.flights s ≡ f → 1 ≤ f.place → f.place ≤ places_of f.call
    → flight_of (act r (step s)).core.flights s ≡ took_of g f old
    → LastStep g s r f (settled k g (took_of g f old)) (step s ∷ rests k g (took_of g f old)) (answered k g (took_of g f old) (step_of f))
unfolding run rests settled answered learnt
last_step g s zero r f old h at some few next' =
    record { count = 0; are = refl; last = f; at = at; place = omega arith; call = refl; answers = refl; leads = leads_on g f old some few }
last_step g s (suc k) r f old h at some few next' =
    let y = took_of g f old in
    elim (cases_Bool (is_rest g y)) [
      | inl e ↦
          let p = rest_parts g y e in
          let own : y.seat ≡ s = ap (λ (x : Flight). x.seat) (sym next') ∙ seated g s (act r (step s)) (run_acts g s r (step s) h) in
          let two = step_at g s (act r (step s)) (run_acts g s r (step s) h) y None next' p.0 p.1 in
          let on : (f.place < places_of f.call) × (y.place ≡ f.place + 1) × (y.call ≡ f.call) =
          ⊎_elim (λ t. t) (λ t. let none = t.1 in let flying = p.0 in absurd (omega arith)) (leads_on g f old some few) in
          let place = on.1 in
          let same : places_of y.call ≡ places_of f.call = ap places_of on.2 in
          let in_row = on.0 in
          let more = last_step g s k (act r (step s)) y 0 (run_acts g s r (step s) h) next' p.0 (omega arith) (two.flight ∙ learns_none y) in
          let further = more.place in
          subst (λ (l : List Action). LastStep g s r f (settled (suc k) g y) (step s ∷ l) (answered (suc k) g y (step_of f))) (sym (rests_more g k s y e own))
          (subst (λ (x : Flight). LastStep g s r f x (step s ∷ step s ∷ rests k g (took_of g y 0)) (answered (suc k) g y (step_of f))) (sym (settled_more g k y e))
          (record {
            count = suc more.count;
            are = ap (λ (l : List Action). step s ∷ l) more.are;
            last = more.last;
            at = more.at;
            place = omega arith;
            call = more.call ∙ on.2;
            answers = answered_more g k y (step_of f) e ∙ more.answers;
            leads = ⊎_elim (λ t. inl ((let a = t.0 in omega arith), t.1, t.2 ∙ on.2)) (λ t. inr ((let a = t.0 in omega arith), t.1)) more.leads;
          }))
      | inr e ↦
          subst (λ (l : List Action). LastStep g s r f (settled (suc k) g y) (step s ∷ l) (answered (suc k) g y (step_of f))) (sym (rests_over g k y e))
          (subst (λ (x : Flight). LastStep g s r f x (step s ∷ []) (answered (suc k) g y (step_of f))) (sym (settled_over g k y e))
          (record { count = 0; are = refl; last = f; at = at; place = omega arith; call = refl; answers = answered_over g k y (step_of f) e; leads = leads_on g f old some few }))
    ]
  where
    learns_none : (y : Flight) → took_of g y (learnt (act r (step s)).core.row None) ≡ took_of g y 0
    learns_none y = refl

pub rests_fit : (g : Geometry) (s k : ℕ) (r : Running) (f : Flight) → IsRun g s r → flight_of r.core.flights s ≡ f → RestsFit k g f
unfolding RestsFit
rests_fit g s zero r f h at = tt
rests_fit g s (suc k) r f h at = (
  (λ some. subst (λ (x : Flight). Fits g x) at (subst (λ (z : Geometry). Fits z (flight_of r.core.flights s)) h.geometry (can g s r h (subst (λ (x : Flight). 1 ≤ x.place) (sym at) some)).flight)),
  (λ e. let p = rest_parts g f e in rests_fit g s k (act r (step s)) (took_of g f 0) (run_acts g s r (step s) h) ((step_at g s r h f None at p.0 p.1).flight ∙ learns_none)),
)
  where
    learns_none : took_of g f (learnt r.core.row None) ≡ took_of g f 0
    learns_none = ap (took_of g f) (none-learnt r.core.row)

pub idle_settled : (g : Geometry) (k : ℕ) (f : Flight) → f.place ≡ 0 → is_rest g (settled k g f) ≡ false
idle_settled g zero f e = subst (λ (x : Flight). is_rest g x ≡ false) (sym (settled_none g f)) (idle_is g f e)
idle_settled g (suc k) f e = subst (λ (x : Flight). is_rest g x ≡ false) (sym (settled_over g k f (idle_is g f e))) (idle_is g f e)

-- with enough of them, no rest follows
pub settled_used : (g : Geometry) (k : ℕ) (f : Flight) → f.place ≤ places_of f.call → places_of f.call < f.place + k → is_rest g (settled k g f) ≡ false
settled_used g zero f few enough = absurd (omega arith)
settled_used g (suc k) f few enough =
    elim (cases_Bool (is_rest g f)) [
      | inl e ↦
          let p = rest_parts g f e in
          subst (λ (x : Flight). is_rest g x ≡ false) (sym (settled_more g k f e))
          (⊎_elim
          (λ t. let call = ap places_of t.2 in let place = t.1 in let below = t.0 in settled_used g k (took_of g f 0) (omega arith) (omega arith))
          (λ t. idle_settled g k (took_of g f 0) t.1)
          (leads_on g f 0 p.0 few))
      | inr e ↦ subst (λ (x : Flight). is_rest g x ≡ false) (sym (settled_over g k f e)) e
    ]
