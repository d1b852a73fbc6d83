-- Each call adds one entry to the history, and answers what the entry says: along the actions that come between.
use Rattle.std.proofs.Common.{◌≡◌, ◌≢◌, ℕ, ◌+◌, ◌<◌, ◌≤◌, Bool, true, false, [], ◌∷◌, ◌++◌, List, length, inl, inr, refl, sym, ◌∙◌, ap, arith, Option, Some, None}
use Rattle.std.proofs.lemmas.Bool.{cases_Bool, cases_eq, and_parts, ltb-true, eqb-true}
use Rattle.std.specs.Prelude.{nat_lt, nat_eq, not, ◌&&◌, option_to_list, if◌then◌else◌}
use Rattle.hk_words.specs.declared.geometry.Geometry.{Geometry}
use Rattle.hk_words.specs.declared.call.Call.{Call}
use Rattle.hk_words.specs.declared.call.Call.TheVariants as call
use Rattle.hk_words.specs.declared.shape.Shape.{Shape}
use Rattle.hk_words.specs.Geometry.{tasks}
use Rattle.hk_model.specs.History.{Entry, History, of_seat, is_question}
use Rattle.hk_model.proofs.Histories.{of_seat-push_own, of_seat-push_other}
use Rattle.hk_core.specs.declared.flight.Flight.{Flight}
use Rattle.hk_core.specs.declared.outcome.Fault.{Fault}
use Rattle.hk_core.specs.State.{State, IsSized, flight_of, idle}
use Rattle.hk_core.specs.Step as table
use Rattle.hk_words.specs.Bounds.{places_of}
use Rattle.hk_core.specs.Step.{outcome_at, took_of, effect_of, found_by, next, history_after}
use Rattle.hk_core.specs.Begin.{refusal, first_flight, after_begin}
use Rattle.hk_core.specs.Collect.{next_collected}
use Rattle.hk_core.specs.Run.{Action, Running, begin, step, collect, act, run, may_begin, is_idle, is_busy, registers_fit}
use Rattle.hk_core.specs.View.{flight_at}
use Rattle.hk_core.specs.Lawful.{Lawful}
use Rattle.hk_core.specs.Turns.{step_count, steps_of}
use Rattle.hk_core.specs.Replied.{AddsOne, AnswersEntry}
use Rattle.hk_core.proofs.Places.{others_kept, takes_next, ends, begins_alone, begins_first, refused_kept, flight_stepped}
use Rattle.hk_core.proofs.Replied.{is_done, done_at, StepKind, EndKind, quiet, acts, past, over, at_once, step_kind, end_kind}
use Rattle.hk_core.proofs.Turns.{GoesBy, acted, has_flight, goes_by, differ, begin_sized, begin_geometry, step_geometry}
use Rattle.hk_core.proofs.Shared.{refuted}
use Rattle.std.proofs.lemmas.List.{append-nil}

-- SEATS

by_test : {A : Type 0} (P : A → Type 0) (test : Bool) (a b : A) → (test ≡ true → P a) → (test ≡ false → P b) → P (if test then a else b)
by_test P true a b yes' no' = yes' refl
by_test P false a b yes' no' = no' refl

module _ (g : Geometry) (x : Flight) (old : ℕ) where
  abbrev Seated : Flight → Type 0
  Seated y = y.seat ≡ x.seat

  abbrev OfSeat : Option Entry → Type 0
  OfSeat o = (e : Entry) → o ≡ Some e → e.seat ≡ x.seat

  none_of_seat : OfSeat None
  none_of_seat e here = absurd (cc)

  some_of_seat : (e : Entry) → e.seat ≡ x.seat → OfSeat (Some e)
  some_of_seat e seat e' here = let same : e ≡ e' = cc in rw (← same) seat

  get_seat : Seated (table.get_took x old)
  unfolding table.get_took idle
  get_seat =
      by_test Seated (nat_eq x.place 1) _ _ (λ e. refl) (λ _.
      by_test Seated (nat_eq x.place 2) _ _ (λ e. refl) (λ _.
      by_test Seated (nat_eq x.place 3) _ _ (λ e. refl) (λ _. refl)))

  put_seat : Seated (table.put_took x old)
  unfolding table.put_took idle
  put_seat =
      by_test Seated (nat_eq x.place 1) _ _ (λ e. refl) (λ _.
      by_test Seated (nat_eq x.place 2) _ _ (λ e. refl) (λ _.
      by_test Seated (nat_eq x.place 3) _ _ (λ e. refl) (λ _. refl)))

  move_seat : Seated (table.move_took x)
  unfolding table.move_took idle
  move_seat =
      by_test Seated (nat_eq x.place 1) _ _ (λ e. refl) (λ _.
      by_test Seated (nat_eq x.place 2) _ _ (λ e. refl) (λ _.
      by_test Seated (nat_eq x.place 3) _ _ (λ e. refl) (λ _. refl)))

  clear_seat : Seated (table.clear_took x)
  unfolding table.clear_took idle
  clear_seat =
      by_test Seated (nat_eq x.place 1) _ _ (λ e. refl) (λ _. refl)

  load_seat : Seated (table.load_took x old)
  unfolding table.load_took idle
  load_seat =
      by_test Seated (nat_eq x.place 1) _ _ (λ e. refl) (λ _.
      by_test Seated (nat_eq x.place 2) _ _ (λ e. refl) (λ _.
      by_test Seated (nat_eq x.place 3) _ _ (λ e. refl) (λ _.
      by_test Seated (nat_eq x.place 4) _ _ (λ e. refl) (λ _.
      by_test Seated (nat_eq x.place 5) _ _ (λ e. refl) (λ _.
      by_test Seated (nat_eq x.place 6) _ _ (λ e. refl) (λ _.
      by_test Seated (nat_eq x.place 7) _ _ (λ e. refl) (λ _.
      by_test Seated (nat_eq x.place 8) _ _ (λ e. refl) (λ _.
      by_test Seated (nat_eq x.place 9) _ _ (λ e. refl) (λ _.
      by_test Seated (nat_eq x.place 10) _ _ (λ e. refl) (λ _. refl))))))))))

  store_seat : Seated (table.store_took x old)
  unfolding table.store_took idle
  store_seat =
      by_test Seated (nat_eq x.place 1) _ _ (λ e. refl) (λ _.
      by_test Seated (nat_eq x.place 2) _ _ (λ e. refl) (λ _.
      by_test Seated (nat_eq x.place 3) _ _ (λ e. refl) (λ _.
      by_test Seated (nat_eq x.place 4) _ _ (λ e. refl) (λ _.
      by_test Seated (nat_eq x.place 5) _ _ (λ e. refl) (λ _.
      by_test Seated (nat_eq x.place 6) _ _ (λ e. refl) (λ _.
      by_test Seated (nat_eq x.place 7) _ _ (λ e. refl) (λ _. refl)))))))

  new_seat : (shape : Shape) → Seated (table.new_took g x shape old)
  unfolding table.new_took idle
  new_seat shape =
      by_test Seated (nat_eq x.place 1) _ _ (λ e. refl) (λ _.
      by_test Seated (nat_eq x.place 2) _ _ (λ e. refl) (λ _.
      by_test Seated (nat_eq x.place 3) _ _ (λ e. by_test Seated x.full _ _ (λ _. refl) (λ _. refl)) (λ _.
      by_test Seated (nat_eq x.place 4) _ _ (λ e. refl) (λ _.
      by_test Seated (nat_eq x.place 5) _ _ (λ e. refl) (λ _.
      by_test Seated (nat_eq x.place 6) _ _ (λ e. refl) (λ _.
      by_test Seated (nat_eq x.place 7) _ _ (λ e. refl) (λ _. refl)))))))

  pub took_seat : Seated (took_of g x old)
  unfolding table.took_of table.took_at
  took_seat = each x.call
    where
      each : (call' : Call) → Seated (table.took_at g x old call')
      each (call.Get reg field) = get_seat
      each (call.Put reg field value) = put_seat
      each (call.Load dest reg field) = load_seat
      each (call.Store reg field from) = store_seat
      each (call.Move dest from) = move_seat
      each (call.Clear dest) = clear_seat
      each (call.New dest shape) = new_seat shape
      each (call.Same a b) = refl
      each (call.IsNull reg) = refl

  new_entry_seat : (shape : Shape) → OfSeat (table.new_entry g x shape old)
  unfolding table.new_entry
  new_entry_seat shape =
      by_test OfSeat (nat_eq x.place 1) _ _ (λ _. by_test OfSeat (table.full_to g x.seat shape old) _ _ (λ _. some_of_seat _ refl) (λ _. none_of_seat)) (λ _.
      by_test OfSeat (nat_eq x.place 3) _ _ (λ _. by_test OfSeat (not x.full && table.full_to_all g shape old) _ _ (λ _. some_of_seat _ refl) (λ _. none_of_seat)) (λ _.
      by_test OfSeat (nat_eq x.place 6) _ _ (λ _. by_test OfSeat x.full _ _ (λ _. none_of_seat) (λ _. some_of_seat _ refl)) (λ _. none_of_seat)))

  pub effect_seat : OfSeat (effect_of g x old)
  unfolding table.effect_of table.effect_at table.get_entry table.put_entry table.move_entry table.clear_entry table.load_entry_of table.store_entry
  effect_seat = each x.call
    where
      each : (call' : Call) → OfSeat (table.effect_at g x old call')
      each (call.Get reg field) = by_test OfSeat (nat_eq x.place 2) _ _ (λ _. some_of_seat _ refl) (λ _. none_of_seat)
      each (call.Put reg field value) = by_test OfSeat (nat_eq x.place 2) _ _ (λ _. some_of_seat _ refl) (λ _. none_of_seat)
      each (call.Load dest reg field) = by_test OfSeat (nat_eq x.place 4) _ _ (λ _. some_of_seat _ refl) (λ _. none_of_seat)
      each (call.Store reg field from) = by_test OfSeat (nat_eq x.place 6) _ _ (λ _. some_of_seat _ refl) (λ _. none_of_seat)
      each (call.Move dest from) = by_test OfSeat (nat_eq x.place 2) _ _ (λ _. some_of_seat _ refl) (λ _. none_of_seat)
      each (call.Clear dest) = by_test OfSeat (nat_eq x.place 1) _ _ (λ _. some_of_seat _ refl) (λ _. none_of_seat)
      each (call.New dest shape) = new_entry_seat shape
      each (call.Same a b) = none_of_seat
      each (call.IsNull reg) = none_of_seat

-- ENTRIES OF A SEAT

-- an entry of another seat, or none, adds nothing to those of a seat
others_entry : (history : History) (seat : ℕ) (o : Option Entry) → ((e : Entry) → o ≡ Some e → e.seat ≢ seat) → of_seat (history ++ option_to_list o) seat ≡ of_seat history seat
others_entry history seat None other = ap (λ (h : History). of_seat h seat) (append-nil history)
others_entry history seat (Some e) other = of_seat-push_other history e seat (other e refl)

-- WHAT HOLDS ALONG THE WAY

-- the seat of a flight has added nothing before the effect of its call, and one entry after it
record Stands (seat : ℕ) (earlier : History) (x : Flight) (history : History) : Type 0 where
  fresh : x.place ≡ 1 → x.full ≡ false
  before : is_done x ≡ false → of_seat history seat ≡ earlier
  after : is_done x ≡ true → AddsOne history earlier seat x.call (outcome_at x x.call)

-- so it is where the seat has the same entries
still : (seat : ℕ) (earlier : History) (x : Flight) (history history' : History) → of_seat history' seat ≡ of_seat history seat → Stands seat earlier x history → Stands seat earlier x history'
still seat earlier x history history' same h = record {
  fresh = h.fresh;
  before = λ e. same ∙ h.before e;
  after = λ e. let o = h.after e in record { entry = o.entry; last = same ∙ o.last; call = o.call; says = o.says };
}

module _ (g : Geometry) (x : Flight) (old seat : ℕ) (earlier history : History) (seated : x.seat ≡ seat) (some : 1 ≤ x.place) (h : Stands seat earlier x history) where
  abbrev longer : History
  longer = history ++ option_to_list (effect_of g x old)

  -- no entry, and one of the flight
  longer_none : effect_of g x old ≡ None → of_seat longer seat ≡ of_seat history seat
  longer_none none = ap (λ (o : Option Entry). of_seat (history ++ option_to_list o) seat) none ∙ ap (λ (k : History). of_seat k seat) (append-nil history)

  longer_one : (e : Entry) → effect_of g x old ≡ Some e → e.seat ≡ x.seat → is_done x ≡ false → of_seat longer seat ≡ earlier ++ e ∷ []
  longer_one e is own late =
      ap (λ (o : Option Entry). of_seat (history ++ option_to_list o) seat) is ∙ of_seat-push_own history e seat (own ∙ seated) ∙ ap (λ (k : History). k ++ e ∷ []) (h.before late)

  own_step : x.place < places_of x.call → Stands seat earlier (took_of g x old) longer
  own_step few =
      let next' = takes_next g x old some few in
      let place = next'.place in
      by_kind (step_kind g x old h.fresh some few) (λ first. absurd (omega arith)) next'.call
    where
      by_kind : StepKind x (took_of g x old) (effect_of g x old) → ((took_of g x old).place ≡ 1 → (took_of g x old).full ≡ false) → (took_of g x old).call ≡ x.call
          → Stands seat earlier (took_of g x old) longer
      by_kind (quiet a b none) fresh call = record { fresh = fresh; before = λ e. longer_none none ∙ h.before a; after = λ e. refuted _ b e }
      by_kind (acts a b o) fresh call = record {
        fresh = fresh;
        before = λ e. refuted _ e b;
        after = λ e. record { entry = o.entry; last = longer_one o.entry o.is o.seat a; call = o.call ∙ sym call; says = o.says };
      }
      by_kind (past a b none same) fresh call = record {
        fresh = fresh;
        before = λ e. refuted _ e b;
        after = λ e. let o = h.after a in record { entry = o.entry; last = longer_none none ∙ o.last; call = o.call ∙ sym call; says = o.says ∙ sym same };
      }

  own_end : x.place ≡ places_of x.call → AddsOne longer earlier seat x.call (outcome_at x x.call)
  own_end at = by_kind (end_kind g x old some at)
    where
      by_kind : EndKind x (effect_of g x old) → AddsOne longer earlier seat x.call (outcome_at x x.call)
      by_kind (over a none) = let o = h.after a in record { entry = o.entry; last = longer_none none ∙ o.last; call = o.call; says = o.says }
      by_kind (at_once a o) = record { entry = o.entry; last = longer_one o.entry o.is o.seat a; call = o.call; says = o.says }

-- the flights of a state are those of their seats
abbrev AllSeated : State → Type 0
AllSeated c = (s : ℕ) → s < tasks c.geometry → (flight_of c.flights s).seat ≡ s

first_seat : (c : State) (s : ℕ) (call' : Call) → (first_flight c s call').seat ≡ s
unfolding first_flight
first_seat c s call' = refl

seated_begun : (c : State) (s : ℕ) (call' : Call) → s < length c.flights → s < tasks c.geometry → AllSeated c → (t : ℕ) → t < tasks c.geometry → (flight_of (after_begin c s call').flights t).seat ≡ t
seated_begun c s call' below s_below seated t t_below = elim (cases_eq t s) [
  | inl e ↦ rw e (own (refusal c s call') refl)
  | inr other ↦ ap (λ (x : Flight). x.seat) (begins_alone c s below call' t other) ∙ seated t t_below
]
  where
    own : (o : Option Fault) → refusal c s call' ≡ o → (flight_of (after_begin c s call').flights s).seat ≡ s
    own None e = ap (λ (x : Flight). x.seat) (begins_first c s below call' e) ∙ first_seat c s call'
    own (Some fault) e = ap (λ (d : State). (flight_of d.flights s).seat) (refused_kept c s call' fault e) ∙ seated s s_below

seated_stepped : (c : State) (s : ℕ) → s < length c.flights → s < tasks c.geometry → AllSeated c → (t : ℕ) → t < tasks c.geometry → (flight_of (next c s).flights t).seat ≡ t
seated_stepped c s below s_below seated t t_below = elim (cases_eq t s) [
  | inl e ↦ rw e (ap (λ (x : Flight). x.seat) (flight_stepped c s below) ∙ took_seat c.geometry (flight_of c.flights s) (found_by c s) ∙ seated s s_below)
  | inr other ↦ ap (λ (x : Flight). x.seat) (others_kept c s below t other) ∙ seated t t_below
]

-- all of it
record Holds (seat : ℕ) (earlier : History) (r : Running) : Type 0 where
  seated : AllSeated r.core
  stands : Stands seat earlier (flight_of r.core.flights seat) r.history

by_running : (P : Running → Type 0) (test : Bool) (a b : Running) → (test ≡ true → P a) → (test ≡ false → P b) → P (if test then a else b)
by_running P true a b yes' no' = yes' refl
by_running P false a b yes' no' = no' refl

module _ (seat : ℕ) (earlier : History) (r : Running) (sized : IsSized r.core) (below : seat < tasks r.core.geometry) (some : 1 ≤ (flight_of r.core.flights seat).place)
    (h : Holds seat earlier r) where
  held_begun : (s : ℕ) (call' : Call) → Holds seat earlier (act r (begin s call'))
  unfolding act
  held_begun s call' =
      by_running (Holds seat earlier) (may_begin r.core s call') _ r
      (λ e.
      let p = and_parts (is_idle r.core s) (not (is_question call') && registers_fit r.core.geometry.registers call') e in
      let idle' = and_parts (nat_lt s (tasks r.core.geometry)) (nat_eq (flight_of r.core.flights s).place 0) p.0 in
      let s_below : s < tasks r.core.geometry = ltb-true s (tasks r.core.geometry) idle'.0 in
      let none : (flight_of r.core.flights s).place ≡ 0 = eqb-true (flight_of r.core.flights s).place 0 idle'.1 in
      record {
        seated = λ t t_below. seated_begun r.core s call' (has_flight r.core s sized s_below) s_below h.seated t (rw (begin_geometry r.core s call') at t_below);
        stands = rw (begins_alone r.core s (has_flight r.core s sized s_below) call' seat (λ same. busy s same none)) h.stands;
      })
      (λ e. h)
    where
      busy : (s : ℕ) → seat ≡ s → (flight_of r.core.flights s).place ≡ 0 → ⊥
      busy s same none = let at : (flight_of r.core.flights seat).place ≡ 0 = ap (λ (t : ℕ). (flight_of r.core.flights t).place) same ∙ none in absurd (omega arith)

  held_own : (flight_of r.core.flights seat).place < places_of (flight_of r.core.flights seat).call → Holds seat earlier (act r (step seat))
  unfolding act history_after
  held_own few =
      by_running (Holds seat earlier) (is_busy r.core seat) _ r
      (λ e. record {
        seated = λ t t_below. seated_stepped r.core seat (has_flight r.core seat sized below) below h.seated t (rw (step_geometry r.core seat) at t_below);
        stands = rw (flight_stepped r.core seat (has_flight r.core seat sized below))
            (own_step r.core.geometry (flight_of r.core.flights seat) (found_by r.core seat) seat earlier r.history (h.seated seat below) some h.stands few);
      })
      (λ e. h)

  held_other : (s : ℕ) → seat ≢ s → Holds seat earlier (act r (step s))
  unfolding act history_after
  held_other s other =
      by_running (Holds seat earlier) (is_busy r.core s) _ r
      (λ e.
      let p = and_parts (nat_lt s (tasks r.core.geometry)) (not (nat_eq (flight_of r.core.flights s).place 0)) e in
      let s_below : s < tasks r.core.geometry = ltb-true s (tasks r.core.geometry) p.0 in
      record {
        seated = λ t t_below. seated_stepped r.core s (has_flight r.core s sized s_below) s_below h.seated t (rw (step_geometry r.core s) at t_below);
        stands = rw (others_kept r.core s (has_flight r.core s sized s_below) seat other)
            (still seat earlier (flight_of r.core.flights seat) r.history _
            (others_entry r.history seat (effect_of r.core.geometry (flight_of r.core.flights s) (found_by r.core s))
            (λ added here own. other (sym own ∙ effect_seat r.core.geometry (flight_of r.core.flights s) (found_by r.core s) added here ∙ h.seated s s_below))) h.stands);
      })
      (λ e. h)

  held_collected : Holds seat earlier (act r collect)
  unfolding act next_collected
  held_collected = record { seated = h.seated; stands = h.stands }

  held_by_own : (s : ℕ) → nat_eq s seat ≡ true → (flight_of r.core.flights seat).place + step_count seat (step s) ≤ places_of (flight_of r.core.flights seat).call → Holds seat earlier (act r (step s))
  unfolding step_count
  held_by_own s own few =
      let early : (flight_of r.core.flights seat).place + 1 ≤ places_of (flight_of r.core.flights seat).call = rw own at few in
      let same : s ≡ seat = eqb-true s seat own in
      rw same (held_own (omega arith))

  held : (a : Action) → (flight_of r.core.flights seat).place + step_count seat a ≤ places_of (flight_of r.core.flights seat).call → Holds seat earlier (act r a)
  held (begin s call') few = held_begun s call'
  held (step s) few = elim (cases_Bool (nat_eq s seat)) [
    | inl own ↦ held_by_own s own few
    | inr other ↦ held_other s (differ s seat other)
  ]
  held collect few = held_collected

-- along a list of actions
held_along : (seat : ℕ) (earlier : History) (actions : List Action) (r : Running) → IsSized r.core → seat < tasks r.core.geometry → 1 ≤ (flight_of r.core.flights seat).place
    → (flight_of r.core.flights seat).place + steps_of seat actions ≤ places_of (flight_of r.core.flights seat).call → Holds seat earlier r → Holds seat earlier (run r actions)
unfolding run steps_of
held_along seat earlier [] r sized below some few h = h
held_along seat earlier (a ∷ actions) r sized below some few h =
    let first : GoesBy seat r.core (act r a).core (step_count seat a) = acted seat r sized below some a (omega arith) in
    let place = first.later.place in
    let same : places_of (flight_of (act r a).core.flights seat).call ≡ places_of (flight_of r.core.flights seat).call = ap places_of first.later.call in
    let tasks' : tasks (act r a).core.geometry ≡ tasks r.core.geometry = ap tasks first.geometry in
    held_along seat earlier actions (act r a) first.sized (omega arith) (omega arith) (omega arith) (held seat earlier r sized below some h a (omega arith))

-- FROM THE BEGIN TO THE END

first_not_done : (c : State) (s : ℕ) (call' : Call) → is_done (first_flight c s call') ≡ false
unfolding first_flight is_done done_at
first_not_done c s call' = each call'
  where
    each : (k : Call) → done_at k 1 false ≡ false
    each (call.Get reg field) = refl
    each (call.Put reg field value) = refl
    each (call.Load dest reg field) = refl
    each (call.Store reg field from) = refl
    each (call.Move dest from) = refl
    each (call.Clear dest) = refl
    each (call.New dest shape) = refl
    each (call.Same a b) = refl
    each (call.IsNull reg) = refl

first_stands : (c : State) (s : ℕ) (call' : Call) (history : History) → Stands s (of_seat history s) (first_flight c s call') history
unfolding first_flight
first_stands c s call' history = record { fresh = λ e. refl; before = λ e. refl; after = λ e. refuted _ (first_not_done c s call') e }

first_place : (c : State) (s : ℕ) (call' : Call) → ((first_flight c s call').place ≡ 1) × ((first_flight c s call').call ≡ call')
unfolding first_flight
first_place c s call' = (refl, refl)

pub answers_entry : (r : Running) (seat : ℕ) (call' : Call) (actions : List Action) → Lawful r.core r.history → seat < tasks r.core.geometry → refusal r.core seat call' ≡ None
    → 1 + steps_of seat actions ≡ places_of call'
    → AnswersEntry (run (record r { core = after_begin r.core seat call' }) actions).core (run (record r { core = after_begin r.core seat call' }) actions).history
    (of_seat r.history seat) seat call'
unfolding history_after flight_at
answers_entry r seat call' actions lawful below accepts length' =
    let c = r.core in
    let sized = lawful.sized in
    let flights = has_flight c seat sized below in
    let begun : Running = record r { core = after_begin c seat call' } in
    let first : flight_of begun.core.flights seat ≡ first_flight c seat call' = begins_first c seat flights call' accepts in
    let at : (flight_of begun.core.flights seat).place ≡ 1 = ap (λ (x : Flight). x.place) first ∙ (first_place c seat call').0 in
    let is : (flight_of begun.core.flights seat).call ≡ call' = ap (λ (x : Flight). x.call) first ∙ (first_place c seat call').1 in
    let sized' : IsSized begun.core = begin_sized c seat call' sized in
    let tasks' : tasks begun.core.geometry ≡ tasks c.geometry = ap tasks (begin_geometry c seat call') in
    let places : places_of (flight_of begun.core.flights seat).call ≡ places_of call' = ap places_of is in
    let holds : Holds seat (of_seat r.history seat) begun = record {
      seated = λ t t_below. seated_begun c seat call' flights below (λ s s_below. (lawful.facts.flights_formed s s_below).seated) t (rw (begin_geometry c seat call') at t_below);
      stands = rw first (first_stands c seat call' r.history);
    } in
    let along = goes_by seat actions begun sized' (omega arith) (omega arith) (omega arith) in
    let there = held_along seat (of_seat r.history seat) actions begun sized' (omega arith) (omega arith) (omega arith) holds in
    let d = (run begun actions).core in
    let x = flight_of d.flights seat in
    let place : x.place ≡ (flight_of begun.core.flights seat).place + steps_of seat actions = along.later.place in
    let same : x.call ≡ call' = along.later.call ∙ is in
    let places' : places_of x.call ≡ places_of call' = ap places_of same in
    let tasks_then : tasks d.geometry ≡ tasks begun.core.geometry = ap tasks along.geometry in
    let last : x.place ≡ places_of x.call = omega arith in
    let there_below : seat < tasks d.geometry = omega arith in
    let ended = ends d seat (has_flight d seat along.sized there_below) (omega arith) last in
    let adds = own_end d.geometry x (found_by d seat) seat (of_seat r.history seat) (run begun actions).history (there.seated seat there_below) (omega arith) there.stands last in
    record {
      outcome = outcome_at x x.call;
      answers = ended.answers;
      adds = record { entry = adds.entry; last = adds.last; call = adds.call ∙ same; says = adds.says };
    }
