-- At every moment of a session the words used since the last flip are paid for, by the useful events of the cycle and by those
-- that are owed.
use Rattle.std.proofs.Common.{◌≡◌, ◌≢◌, ℕ, zero, suc, ◌+◌, ◌*◌, ◌^◌, ◌<◌, ◌≤◌, Bool, true, false, List, [], length, Option, Some, None, refl, sym, ◌∙◌, ap, subst, arith, inl, inr}
use Rattle.std.proofs.lemmas.Bool.{cases_eq, eq-eqb, ne_eqb, and_from, lt-ltb}
use Rattle.std.specs.Prelude.{nat_eq, not, ◌==◌, ◌&&◌, if◌then◌else◌}
use Rattle.hk_words.specs.declared.call.Call.{Call}
use Rattle.hk_words.specs.declared.call.Call.TheVariants as call
use Rattle.hk_words.specs.declared.geometry.Geometry.{Geometry}
use Rattle.hk_words.specs.Bounds.{frame_events, object_events}
use Rattle.hk_words.specs.Geometry.{HasSizes, tasks}
use Rattle.hk_words.specs.Shape.{size}
use Rattle.hk_model.specs.History.{History}
use Rattle.hk_core.specs.declared.flight.Flight.{Flight}
use Rattle.hk_core.specs.declared.outcome.Fault.{Fault}
use Rattle.hk_core.specs.State as machine
use Rattle.hk_core.specs.State.{State, IsSized, flight_of}
use Rattle.hk_core.specs.Step.{next, history_after}
use Rattle.hk_core.specs.Begin.{refusal, first_flight, after_begin}
use Rattle.hk_core.specs.Run.{Running, begin, step, act, is_busy, may_begin}
use Rattle.hk_core.proofs.Inside.{shapes_fit}
use Rattle.hk_core.proofs.Places.{begins_first}
use Rattle.hk_core.proofs.Registers.{registers_tested}
use Rattle.hk_core.proofs.Turns.{has_flight}
use Rattle.hk_collect.specs.Measure.{NoneInFlight}
use Rattle.hk_collect.specs.Pays.{HeapKept, ObjectsWithin, IsAttemptBound}
use Rattle.hk_collect.specs.Taken.{used_in, taken_at, taken_by}
use Rattle.hk_collect.specs.Used.{Trace, trace_act, trace_opening}
use Rattle.hk_collect.proofs.Cycles.{few_events_never_wear}
use Rattle.hk_collect.proofs.Pays.{begins_keep_heap, steps_keep_heap, opening_keeps_heap}
use Rattle.hk_plan.specs.declared.Ready.{Ready}
use Rattle.hk_script.specs.declared.walk.Need.{Need}
use Rattle.hk_script.specs.declared.walk.Need.TheVariants as need
use Rattle.hk_sheet.specs.declared.sheet.Sheet.{Sheet}
use Rattle.hk_sheet.specs.Faults.{sizes_of}
use Rattle.hk_sheet.specs.Valid.{IsSheet}
use Rattle.hk_admit.specs.Conditions.{KeepsToDeclared}
use Rattle.hk_dispatch.specs.Tasks.{tasks_of, task_at}
use Rattle.hk_dispatch.specs.Moment.{Moment, core_of, history_of, used_at, course_at, need_at, opening}
use Rattle.hk_dispatch.specs.Rows.{IsChoice}
use Rattle.hk_dispatch.specs.Turns.{Turn, turn}
use Rattle.hk_dispatch.specs.Ticks.{run_first, run_on, run_by, takes_on, words_by, after_task, after_event, after_turn}
use Rattle.hk_dispatch.specs.Session.{after_tick, state}
use Rattle.hk_dispatch.specs.InStep.{SeatInStep, aside, under_way, MayBegin}
use Rattle.hk_dispatch.specs.Rules.{TurnIs, by_high, by_operation, by_collector, by_low, by_nobody}
use Rattle.hk_dispatch.specs.Jobs.{JobsKept}
use Rattle.hk_dispatch.proofs.Begun.{begun_seat}
use Rattle.hk_dispatch.proofs.Tracing.{traced_begin, traced_step}
use Rattle.hk_dispatch.proofs.TurnFacts.{turn_is}
use Rattle.hk_dispatch.proofs.Sheets.{scripts, seats}
use Rattle.hk_dispatch.proofs.Walking.{may_begin_wanted}
use Rattle.hk_dispatch.proofs.SeatsInStep.{MayBeginIf}
use Rattle.hk_dispatch.proofs.TaskTick.{words_none}
use Rattle.hk_dispatch.proofs.Waiting.{none_in_flight, seat_below}
use Rattle.hk_dispatch.proofs.CollectorTick.{heap_after_event}
use Rattle.hk_dispatch.proofs.Runs.{geometry_at}
use Rattle.hk_dispatch.proofs.SessionJobs.{jobs_kept}
use Rattle.hk_dispatch.proofs.SessionHeap.{IsMeasured, measured}

-- what is kept, whether or not an open attempt was met
abbrev pub Paid : (rate : ℕ) → State → History → (useful debt : ℕ) → Type 0
Paid rate c history useful debt = HeapKept rate c history useful debt (used_in c) true

any_met : (rate : ℕ) (c : State) (history : History) (useful debt used : ℕ) (met_now : Bool) → HeapKept rate c history useful debt used met_now → HeapKept rate c history useful debt used true
any_met rate c history useful debt used met_now h = record {
  lawful = h.lawful;
  calm = h.calm;
  useful_few = h.useful_few;
  counted = h.counted;
  untouched = λ e. absurd (cc);
  balance = h.balance;
}

-- ACTIONS

acts_begin : (r : Running) (seat : ℕ) (c : Call) → may_begin r.core seat c ≡ true → act r (begin seat c) ≡ record r { core = after_begin r.core seat c }
unfolding act
acts_begin r seat c may = rw may refl

acts_step : (r : Running) (seat : ℕ) → seat < tasks r.core.geometry → 1 ≤ (flight_of r.core.flights seat).place
    → act r (step seat) ≡ record { core = next r.core seat; history = history_after r.core seat r.history }
unfolding act
acts_step r seat below flying =
    let busy : is_busy r.core seat ≡ true = and_from _ _ (lt-ltb seat (tasks r.core.geometry) below) (ap not (ne_eqb (flight_of r.core.flights seat).place 0 (λ e. omega (arith, e, flying)))) in
    rw busy refl

may_now : (c : State) (seat : ℕ) (k : Call) → seat < tasks c.geometry → (flight_of c.flights seat).place ≡ 0 → MayBegin c.geometry k → may_begin c seat k ≡ true
may_now c seat k below idle m = and_from _ _ (and_from _ _ (lt-ltb seat (tasks c.geometry) below) (eq-eqb (flight_of c.flights seat).place 0 idle))
    (and_from _ _ (ap not m.question) ((registers_tested c.geometry.registers k).1 m.registers))

-- THE WORDS that a step takes are those of the tick

none_taken : (f : Flight) (c : Call) → f.place ≢ 3 → taken_at f c ≡ 0
unfolding taken_at
none_taken f (call.Get reg field) other = refl
none_taken f (call.Put reg field value) other = refl
none_taken f (call.Load dest reg field) other = refl
none_taken f (call.Store reg field from) other = refl
none_taken f (call.Move dest from) other = refl
none_taken f (call.Clear dest) other = refl
none_taken f (call.New dest shape) other = rw (ne_eqb f.place 3 other) refl
none_taken f (call.Same a b) other = refl
none_taken f (call.IsNull reg) other = refl

same_taken : (core : State) (seat : ℕ) (c : Call) (spent : ℕ) → (flight_of core.flights seat).place ≡ spent + 1 → taken_at (flight_of core.flights seat) c ≡ takes_on core seat c spent
unfolding taken_at
same_taken core seat (call.Get reg field) spent at = refl
same_taken core seat (call.Put reg field value) spent at = refl
same_taken core seat (call.Load dest reg field) spent at = refl
same_taken core seat (call.Store reg field from) spent at = refl
same_taken core seat (call.Move dest from) spent at = refl
same_taken core seat (call.Clear dest) spent at = refl
same_taken core seat (call.New dest shape) spent at =
    let test : nat_eq (flight_of core.flights seat).place 3 ≡ (spent == 2) = elim (cases_eq spent 2) [
      | inl two ↦ eq-eqb (flight_of core.flights seat).place 3 (omega (arith, at, two)) ∙ sym (eq-eqb spent 2 two)
      | inr other ↦ ne_eqb (flight_of core.flights seat).place 3 (λ e. absurd (other (omega (arith, at, e)))) ∙ sym (ne_eqb spent 2 other)
    ] in
    ap (λ (b : Bool). if b && not (flight_of core.flights seat).full then size shape else 0) test
same_taken core seat (call.Same a b) spent at = refl
same_taken core seat (call.IsNull reg) spent at = refl

-- AN OPERATION'S TICK

module _ (rate useful debt : ℕ) where
  more_owed : (c : State) (history : History) (w v : ℕ) → w ≡ v → Paid rate c history useful (debt + rate * w) → Paid rate c history useful (debt + rate * v)
  more_owed c history w v e h = subst (λ n. Paid rate c history useful (debt + rate * n)) e h

  none_owed : (c : State) (history : History) (w : ℕ) → w ≡ 0 → Paid rate c history useful debt → Paid rate c history useful (debt + rate * w)
  none_owed c history w e h =
      let z : debt ≡ debt + rate * w = let k : rate * w ≡ rate * 0 = ap (λ n. rate * n) e in omega (arith, k) in
      subst (λ n. Paid rate c history useful n) z h

  step_paid : (r : Trace) (seat : ℕ) → seat < tasks r.running.core.geometry → 1 ≤ (flight_of r.running.core.flights seat).place
      → Paid rate r.running.core r.running.history useful debt
      → let s = trace_act r (step seat) in Paid rate s.running.core s.running.history useful (debt + rate * taken_by r.running.core seat)
  step_paid r seat below flying h =
      let n = debt + rate * taken_by r.running.core seat in
      subst (λ (x : Running). Paid rate x.core x.history useful n) (sym (traced_step r seat ∙ acts_step r.running seat below flying))
      (any_met rate _ _ useful n _ _ (steps_keep_heap rate r.running.core r.running.history useful debt true seat below flying h))

  module _ (r : Trace) (seat : ℕ) (c : Call) (sized : IsSized r.running.core) (below : seat < tasks r.running.core.geometry) (may : MayBegin r.running.core.geometry c)
      (h : Paid rate r.running.core r.running.history useful debt) where
    abbrev PaidIn : Trace → (words : ℕ) → Type 0
    PaidIn s words = Paid rate s.running.core s.running.history useful (debt + rate * words)

    first : (flight_of r.running.core.flights seat).place ≡ 0 → (o : Option Fault) → refusal r.running.core seat c ≡ o → PaidIn (run_first r seat c o) 0
    unfolding first_flight
    first idle (Some fault) e = none_owed r.running.core r.running.history 0 refl h
    first idle None e =
        let b = trace_act r (begin seat c) in
        let core = r.running.core in
        let is = traced_begin r seat c ∙ acts_begin r.running seat c (may_now core seat c below idle may) in
        let hb : Paid rate b.running.core b.running.history useful debt = subst (λ (x : Running). Paid rate x.core x.history useful debt) (sym is)
        (any_met rate _ _ useful debt _ _ (begins_keep_heap rate core r.running.history useful debt true seat c (may_now core seat c below idle may) h)) in
        let inside : seat < tasks b.running.core.geometry = subst (λ (x : Running). seat < tasks x.core.geometry) (sym is) (begun_seat core seat c below) in
        let start : flight_of (after_begin core seat c).flights seat ≡ first_flight core seat c = begins_first core seat (has_flight core seat sized below) c e in
        let place : (flight_of b.running.core.flights seat).place ≡ 1 = ap (λ (x : Running). (flight_of x.core.flights seat).place) is ∙ ap (λ (f : Flight). f.place) start in
        more_owed (trace_act b (step seat)).running.core (trace_act b (step seat)).running.history (taken_by b.running.core seat) 0
        (none_taken (flight_of b.running.core.flights seat) (flight_of b.running.core.flights seat).call (λ three. absurd (omega (arith, place, three))))
        (step_paid b seat inside (omega (arith, place)) hb)

    further : (spent : ℕ) → (flight_of r.running.core.flights seat).call ≡ c → (flight_of r.running.core.flights seat).place ≡ suc spent + 1
        → PaidIn (run_on r seat c (suc spent)) (takes_on r.running.core seat c (suc spent))
    further spent is at =
        let f = flight_of r.running.core.flights seat in
        more_owed (trace_act r (step seat)).running.core (trace_act r (step seat)).running.history (taken_by r.running.core seat) (takes_on r.running.core seat c (suc spent))
        (ap (λ (k : Call). taken_at f k) is ∙ same_taken r.running.core seat c (suc spent) at)
        (step_paid r seat below (omega (arith, at)) h)

    op_paid : (spent : ℕ) → SeatInStep (flight_of r.running.core.flights seat) (Some (need.Heap c)) spent → PaidIn (run_on r seat c spent) (takes_on r.running.core seat c spent)
    op_paid zero (aside idle w) =
        more_owed (run_on r seat c 0).running.core (run_on r seat c 0).running.history 0 (takes_on r.running.core seat c 0)
        (sym (words_none r.running.core seat 0 (Some (need.Heap c)) (λ e. absurd (omega (arith, e))))) (first idle (refusal r.running.core seat c) refl)
    op_paid zero (under_way c' e is at some within) = absurd (omega (arith, some))
    op_paid (suc spent) (aside idle (inl w)) = absurd (cc)
    op_paid (suc spent) (aside idle (inr w)) = absurd (omega (arith, w))
    op_paid (suc spent) (under_way c' e is at some within) =
        let same : c' ≡ c = let k : ◌≡◌ {A = Option Need} (Some (need.Heap c)) (Some (need.Heap c')) = e in cc in
        further spent (is ∙ same) at

-- A TICK

abbrev pub IsPaid : Sheet → Moment → Type 0
IsPaid sheet n = Paid sheet.heap.rate (core_of n) (history_of n) n.useful n.debt

module _ (choice : List Ready → ℕ) (sheet : Sheet) (m : Moment) (t : ℕ) where
  module _ (readable : IsSheet sheet) (g : Geometry) (sizes : HasSizes g (sizes_of sheet)) (geometry : (core_of m).geometry ≡ g)
      (jobs : JobsKept sheet m t) (h : IsPaid sheet m) where
    count : tasks (core_of m).geometry ≡ length (tasks_of sheet)
    count = ap tasks geometry ∙ seats g sheet sizes

    may : (seat : ℕ) → seat < length (tasks_of sheet) → MayBeginIf sheet m seat
    may seat below c is = may_begin_wanted (core_of m).geometry sheet.heap.fields sheet.heap.registers (task_at sheet seat).script (course_at m seat).walk c
        (scripts sheet readable seat below) (sym (sizes.registers) ∙ sym (ap (λ (k : Geometry). k.registers) geometry)) is

    by_need : (seat : ℕ) → seat < length (tasks_of sheet) → (wants : Option Need) → need_at sheet m seat ≡ wants → SeatInStep (flight_of (core_of m).flights seat) wants (course_at m seat).spent
        → let s = run_by m.trace seat (course_at m seat).spent wants in
        Paid sheet.heap.rate s.running.core s.running.history m.useful (m.debt + sheet.heap.rate * words_by (core_of m) seat (course_at m seat).spent wants)
    by_need seat below (Some (need.Heap c)) is s = op_paid sheet.heap.rate m.useful m.debt m.trace seat c h.lawful.sized (subst (λ k. seat < k) (sym count) below) (may seat below c is) h (course_at m seat).spent s
    by_need seat below (Some (need.Work k)) is s = none_owed sheet.heap.rate m.useful m.debt (core_of m) (history_of m) 0 refl h
    by_need seat below (Some need.Local) is s = none_owed sheet.heap.rate m.useful m.debt (core_of m) (history_of m) 0 refl h
    by_need seat below (Some (need.Out value)) is s = none_owed sheet.heap.rate m.useful m.debt (core_of m) (history_of m) 0 refl h
    by_need seat below (Some (need.Ask c)) is s = none_owed sheet.heap.rate m.useful m.debt (core_of m) (history_of m) 0 refl h
    by_need seat below None is s = none_owed sheet.heap.rate m.useful m.debt (core_of m) (history_of m) 0 refl h

    task_paid : (seat : ℕ) → seat < length (tasks_of sheet) → IsPaid sheet (after_task sheet m t seat)
    unfolding after_task
    task_paid seat below = by_need seat below (need_at sheet m seat) refl (jobs.in_step seat below)

    -- any object is small, and so is any attempt
    abbrev most_events : ℕ
    most_events = frame_events (core_of m).geometry.registers + object_events 512

    bound : IsAttemptBound (core_of m).geometry 512 most_events
    bound = record { frames = omega arith; objects = omega arith }

    small : ObjectsWithin (core_of m).geometry (history_of m) 512
    small b = let few = shapes_fit (core_of m).geometry (history_of m) b in omega (arith, few.0, few.1)

    event_paid : IsMeasured m t → t ≤ 2 ^ 24 → NoneInFlight (core_of m) → 0 < m.debt → (after_event m).over ≡ None → IsPaid sheet (after_event m)
    event_paid k few none owed not_over =
        any_met sheet.heap.rate _ _ (after_event m).useful (after_event m).debt _ _
        (heap_after_event sheet.heap.rate most_events 512 m true h bound small none owed
        (few_events_never_wear (core_of m) (history_of m) m.events h.lawful k.worked (let some = k.events_few in omega (arith, some, few))) not_over)

    turn_paid : IsMeasured m t → t ≤ 2 ^ 24 → (o : Turn) → TurnIs choice sheet m t o → (after_turn sheet m t o).over ≡ None → IsPaid sheet (after_turn sheet m t o)
    turn_paid k few o (by_high seat f) not_over = task_paid seat (seat_below choice sheet m t o seat (by_high seat f) refl)
    turn_paid k few o (by_operation seat f) not_over = task_paid seat (seat_below choice sheet m t o seat (by_operation seat f) refl)
    turn_paid k few o (by_collector f) not_over = event_paid k few (none_in_flight sheet m t jobs count f.no_high f.no_operation) f.owed not_over
    turn_paid k few o (by_low seat f) not_over = task_paid seat (seat_below choice sheet m t o seat (by_low seat f) refl)
    turn_paid k few o (by_nobody f) not_over = h

-- THE RUN

module _ (g : Geometry) (choice : List Ready → ℕ) (choice_is : IsChoice choice) (sheet : Sheet) (readable : IsSheet sheet) (within : KeepsToDeclared sheet.high)
    (sizes : HasSizes g (sizes_of sheet)) where
  abbrev at : ℕ → Moment
  at t = state g choice sheet t

  tick_paid : (m : Moment) (t : ℕ) (over : Option ℕ) → m.over ≡ over → (core_of m).geometry ≡ g → JobsKept sheet m t → IsMeasured m t → t ≤ 2 ^ 24
      → (m.over ≡ None → IsPaid sheet m) → (after_tick choice sheet m t over).over ≡ None → IsPaid sheet (after_tick choice sheet m t over)
  tick_paid m t None e geometry jobs k few h not_over = turn_paid choice sheet m t readable g sizes geometry jobs (h e) k few (turn choice sheet m t) (turn_is choice sheet m t choice_is) not_over
  tick_paid m t (Some words) e geometry jobs k few h not_over = h not_over

  paid : (t : ℕ) → t ≤ 2 ^ 24 → (at t).over ≡ None → IsPaid sheet (at t)
  unfolding state opening trace_opening
  paid zero few not_over = any_met sheet.heap.rate (machine.opening g) [] 0 0 (used_in (machine.opening g)) false (opening_keeps_heap sheet.heap.rate g)
  paid (suc t) few not_over = tick_paid (at t) t (at t).over refl (geometry_at g choice sheet t) (jobs_kept g choice choice_is sheet readable within sizes t)
      (measured g choice choice_is sheet readable within sizes t) (omega (arith, few)) (paid t (omega (arith, few))) not_over

  pub used_is_paid : (t : ℕ) → t ≤ sheet.ticks → (at t).over ≡ None → sheet.heap.rate * used_at (at t) ≤ (at t).useful + (at t).debt
  used_is_paid t le not_over = (paid t (let most = readable.ticks.at_most in omega (arith, le, most)) not_over).balance
