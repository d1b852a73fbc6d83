-- At every moment of a session the machine of its heap is calm, the useful events of the cycle are at most those of the spot, and
-- the events of the collector are enough for its cycles. So it waits for nobody, and has cycles enough. And each seat has begun
-- at most one call a tick.
use Rattle.std.proofs.Common.{◌≡◌, ◌≢◌, ℕ, zero, suc, ◌+◌, ◌^◌, ◌<◌, ◌≤◌, Bool, true, false, List, length, Option, Some, None, refl, sym, ◌∙◌, ap, subst, arith}
use Rattle.std.proofs.lemmas.Bool.{and_parts, ltb-true}
use Rattle.std.specs.Prelude.{nat_lt, nat_eq, not, if◌then◌else◌}
use Rattle.hk_words.specs.declared.call.Call.{Call}
use Rattle.hk_words.specs.declared.geometry.Geometry.{Geometry}
use Rattle.hk_words.specs.Bounds.{cycle_events}
use Rattle.hk_words.specs.Geometry.{HasSizes, tasks}
use Rattle.hk_core.specs.declared.outcome.Fault.{Fault}
use Rattle.hk_core.specs.declared.spot.Spot.{Spot}
use Rattle.hk_core.specs.declared.spot.Work.TheVariants.{Worn}
use Rattle.hk_core.specs.State as machine
use Rattle.hk_core.specs.State.{State, flight_of}
use Rattle.hk_core.specs.Step.{next, history_after}
use Rattle.hk_core.specs.Begin.{refusal, after_begin}
use Rattle.hk_core.specs.Collect.{next_collected, work_by_collector}
use Rattle.hk_core.specs.Lawful.{Lawful}
use Rattle.hk_core.specs.Run.{Running, begin, step, act, is_busy, may_begin}
use Rattle.hk_core.proofs.Actions.{IsLawfulRun}
use Rattle.hk_collect.specs.Cycles.{IsWorked}
use Rattle.hk_collect.specs.Measure.{IsCalm, KeepsCalm, KeepsMeasure, NoneInFlight, WaitsForNobody, most_useful, cycle_bound}
use Rattle.hk_collect.specs.Used.{Trace, trace_act, trace_opening}
use Rattle.hk_collect.proofs.Cycles.{opening_is_worked, few_events_never_wear}
use Rattle.hk_collect.proofs.MeasureBounds.{bound_is_cycle}
use Rattle.hk_collect.proofs.MeasureEvents.{collector_is_measured, opening_is_calm}
use Rattle.hk_collect.proofs.MeasureSeats.{seats_keep_calm}
use Rattle.hk_collect.proofs.Running.{lawful_act, act_geometry}
use Rattle.hk_plan.specs.declared.Ready.{Ready}
use Rattle.hk_script.specs.declared.walk.Need.{Need}
use Rattle.hk_script.specs.declared.walk.Need.TheVariants as need
use Rattle.hk_sheet.specs.declared.sheet.Sheet.{Sheet}
use Rattle.hk_sheet.specs.Faults.{sizes_of}
use Rattle.hk_sheet.specs.Valid.{IsSheet}
use Rattle.hk_admit.specs.Analysis.{cycle_work}
use Rattle.hk_admit.specs.Conditions.{KeepsToDeclared}
use Rattle.hk_dispatch.specs.Tasks.{tasks_of}
use Rattle.hk_dispatch.specs.Moment.{Moment, core_of, history_of, course_at, need_at, opening}
use Rattle.hk_dispatch.specs.Rows.{IsChoice}
use Rattle.hk_dispatch.specs.Turns.{Turn, to_collector, turn}
use Rattle.hk_dispatch.specs.Ticks.{run_first, run_on, run_by, after_task, after_event, after_turn}
use Rattle.hk_dispatch.specs.Session.{after_tick, state}
use Rattle.hk_dispatch.specs.Rules.{TurnIs, by_high, by_operation, by_collector, by_low, by_nobody}
use Rattle.hk_dispatch.specs.Jobs.{JobsKept}
use Rattle.hk_dispatch.proofs.Tracing.{traced_begin, traced_step}
use Rattle.hk_dispatch.proofs.TurnFacts.{turn_is}
use Rattle.hk_dispatch.proofs.Sheets.{seats, high_seats, low_seats}
use Rattle.hk_dispatch.proofs.Waiting.{none_in_flight}
use Rattle.hk_dispatch.proofs.CollectorTick.{core_collected, worked_event}
use Rattle.hk_dispatch.proofs.Runs.{geometry_at, lawful_at}
use Rattle.hk_dispatch.proofs.SessionJobs.{jobs_kept}

-- A TICK OF A TASK leaves the spot and the geometry, and a calm machine calm
record Keeps (c after : State) : Type 0 where
  spot : after.spot ≡ c.spot
  geometry : after.geometry ≡ c.geometry
  calm : IsCalm c → IsCalm after

same : (c : State) → Keeps c c
same c = record { spot = refl; geometry = refl; calm = λ h. h }

then_more : (a b c : State) → Keeps a b → Keeps b c → Keeps a c
then_more a b c x y = record { spot = y.spot ∙ x.spot; geometry = y.geometry ∙ x.geometry; calm = λ h. y.calm (x.calm h) }

by_condition : (r : Running) (test : Bool) (a : Running) → (test ≡ true → KeepsCalm r.core a.core) → KeepsCalm r.core (if test then a else r).core
by_condition r true a h = h refl
by_condition r false a h = record { spot = refl; calm = λ k. k }

act_keeps : (r : Running) (a : _) → KeepsCalm r.core (act r a).core → Keeps r.core (act r a).core
act_keeps r a k = record { spot = k.spot; geometry = act_geometry r a; calm = k.calm }

begin_calm : (r : Running) (seat : ℕ) (c : Call) → KeepsCalm r.core (act r (begin seat c)).core
unfolding act
begin_calm r seat c = by_condition r (may_begin r.core seat c) (record r { core = after_begin r.core seat c }) (λ e. seats_keep_calm.begin r.core seat c)

begin_keeps : (r : Running) (seat : ℕ) (c : Call) → Keeps r.core (act r (begin seat c)).core
begin_keeps r seat c = act_keeps r (begin seat c) (begin_calm r seat c)

some_place : (p : ℕ) → not (nat_eq p 0) ≡ true → 1 ≤ p
some_place zero e = absurd (cc)
some_place (suc p) e = omega arith

step_calm : (r : Running) (seat : ℕ) → IsLawfulRun r → KeepsCalm r.core (act r (step seat)).core
unfolding act
step_calm r seat h = by_condition r (is_busy r.core seat) (record { core = next r.core seat; history = history_after r.core seat r.history })
    (λ e.
    let both = and_parts (nat_lt seat (tasks r.core.geometry)) (not (nat_eq (flight_of r.core.flights seat).place 0)) e in
    seats_keep_calm.step r.core r.history seat (ltb-true seat (tasks r.core.geometry) both.0) (some_place _ both.1) h)

step_keeps : (r : Running) (seat : ℕ) → IsLawfulRun r → Keeps r.core (act r (step seat)).core
step_keeps r seat h = act_keeps r (step seat) (step_calm r seat h)

-- what holds of the states before and after a tick of a task, where it holds of each action
module _ (P : State → State → Type 0) (one : (c : State) → P c c) (more : (a b c : State) → P a b → P b c → P a c)
    (begins : (r : Running) (seat : ℕ) (c : Call) → P r.core (act r (begin seat c)).core)
    (steps : (r : Running) (seat : ℕ) → IsLawfulRun r → P r.core (act r (step seat)).core) where
  stepped : (r : Trace) (seat : ℕ) → IsLawfulRun r.running → P r.running.core (trace_act r (step seat)).running.core
  stepped r seat h = subst (λ (x : Running). P r.running.core x.core) (sym (traced_step r seat)) (steps r.running seat h)

  first : (r : Trace) (seat : ℕ) (c : Call) (o : Option Fault) → IsLawfulRun r.running → P r.running.core (run_first r seat c o).running.core
  first r seat c (Some fault) h = one r.running.core
  first r seat c None h =
      let b = trace_act r (begin seat c) in
      let e = traced_begin r seat c in
      let lawful : IsLawfulRun b.running = subst IsLawfulRun (sym e) (lawful_act r.running (begin seat c) h) in
      more r.running.core b.running.core (trace_act b (step seat)).running.core
      (subst (λ (x : Running). P r.running.core x.core) (sym e) (begins r.running seat c)) (stepped b seat lawful)

  on : (r : Trace) (seat : ℕ) (c : Call) (spent : ℕ) → IsLawfulRun r.running → P r.running.core (run_on r seat c spent).running.core
  on r seat c zero h = first r seat c (refusal r.running.core seat c) h
  on r seat c (suc spent) h = stepped r seat h

  by_need : (r : Trace) (seat spent : ℕ) (wants : Option Need) → IsLawfulRun r.running → P r.running.core (run_by r seat spent wants).running.core
  by_need r seat spent (Some (need.Heap c)) h = on r seat c spent h
  by_need r seat spent (Some (need.Work n)) h = one r.running.core
  by_need r seat spent (Some need.Local) h = one r.running.core
  by_need r seat spent (Some (need.Out value)) h = one r.running.core
  by_need r seat spent (Some (need.Ask c)) h = one r.running.core
  by_need r seat spent None h = one r.running.core

-- WHAT IS MEASURED

pub record IsMeasured (m : Moment) (t : ℕ) : Type 0 where
  pub calm : IsCalm (core_of m)
  pub useful_few : m.useful ≤ most_useful (core_of m).geometry (core_of m).spot
  pub worked : IsWorked (core_of m).geometry (core_of m).spot m.events
  pub events_few : m.events ≤ t

measured_first : (g : Geometry) (sheet : Sheet) → IsMeasured (opening g sheet) 0
unfolding opening trace_opening machine.opening
measured_first g sheet = record { calm = opening_is_calm g; useful_few = omega arith; worked = opening_is_worked g; events_few = omega arith }

measured_later : (m n : Moment) (t : ℕ) → Keeps (core_of m) (core_of n) → n.useful ≡ m.useful → n.events ≡ m.events → IsMeasured m t → IsMeasured n (suc t)
measured_later m n t k useful events h = record {
  calm = k.calm h.calm;
  useful_few = subst (λ u. u ≤ most_useful (core_of n).geometry (core_of n).spot) (sym useful)
      (subst (λ (g : Geometry). m.useful ≤ most_useful g (core_of n).spot) (sym k.geometry)
      (subst (λ (s : Spot). m.useful ≤ most_useful (core_of m).geometry s) (sym k.spot) h.useful_few));
  worked = subst (λ e. IsWorked (core_of n).geometry (core_of n).spot e) (sym events)
      (subst (λ (g : Geometry). IsWorked g (core_of n).spot m.events) (sym k.geometry)
      (subst (λ (s : Spot). IsWorked (core_of m).geometry s m.events) (sym k.spot) h.worked));
  events_few = let few = h.events_few in omega (arith, few, events);
}

module _ (choice : List Ready → ℕ) (sheet : Sheet) (m : Moment) (t : ℕ) (lawful : Lawful (core_of m) (history_of m)) (h : IsMeasured m t) where
  measured_task : (seat : ℕ) → IsMeasured (after_task sheet m t seat) (suc t)
  unfolding after_task
  measured_task seat = measured_later m (after_task sheet m t seat) t
      (by_need Keeps same then_more begin_keeps step_keeps m.trace seat (course_at m seat).spent (need_at sheet m seat) lawful) refl refl h

  module _ (none : NoneInFlight (core_of m)) where
    event_measured : KeepsMeasure (core_of m) m.useful
    event_measured = collector_is_measured (core_of m) (history_of m) m.useful lawful h.calm none h.useful_few

    measured_event : IsMeasured (after_event m) (suc t)
    unfolding after_event next_collected
    measured_event =
        let n = after_event m in
        record {
          calm = subst IsCalm (sym (core_collected m)) event_measured.calm;
          useful_few = subst (λ (c : State). n.useful ≤ most_useful c.geometry c.spot) (sym (core_collected m)) event_measured.measured;
          worked = worked_event m (history_of m) lawful h.worked;
          events_few = let few = h.events_few in omega (arith, few);
        }

  module _ (jobs : JobsKept sheet m t) (count : tasks (core_of m).geometry ≡ length (tasks_of sheet)) where
    measured_turn : (o : Turn) → TurnIs choice sheet m t o → IsMeasured (after_turn sheet m t o) (suc t)
    measured_turn o (by_high seat f) = measured_task seat
    measured_turn o (by_operation seat f) = measured_task seat
    measured_turn o (by_collector f) = measured_event (none_in_flight sheet m t jobs count f.no_high f.no_operation)
    measured_turn o (by_low seat f) = measured_task seat
    measured_turn o (by_nobody f) = measured_later m (record m { idle = m.idle + 1 }) t (same (core_of m)) refl refl h

    -- at a tick of the collector it waits for nobody, and isn't worn
    pub never_waits : (o : Turn) → TurnIs choice sheet m t o → o ≡ to_collector → t ≤ 2 ^ 24 → WaitsForNobody (work_by_collector (core_of m)) × (work_by_collector (core_of m) ≢ Worn)
    never_waits o (by_high seat f) e few = absurd (cc)
    never_waits o (by_operation seat f) e few = absurd (cc)
    never_waits o (by_collector f) e few = (
      (event_measured (none_in_flight sheet m t jobs count f.no_high f.no_operation)).waits_for_nobody,
      few_events_never_wear (core_of m) (history_of m) m.events lawful h.worked (let some = h.events_few in omega (arith, some, few)),
    )
    never_waits o (by_low seat f) e few = absurd (cc)
    never_waits o (by_nobody f) e few = absurd (cc)

-- THE RUN

module _ (g : Geometry) (choice : List Ready → ℕ) (choice_is : IsChoice choice) (sheet : Sheet) (readable : IsSheet sheet) (within : KeepsToDeclared sheet.high)
    (sizes : HasSizes g (sizes_of sheet)) where
  abbrev at : ℕ → Moment
  at t = state g choice sheet t

  count_at : (t : ℕ) → tasks (core_of (at t)).geometry ≡ length (tasks_of sheet)
  count_at t = ap tasks (geometry_at g choice sheet t) ∙ seats g sheet sizes

  measured_tick : (m : Moment) (t : ℕ) (over : Option ℕ) → Lawful (core_of m) (history_of m) → JobsKept sheet m t → tasks (core_of m).geometry ≡ length (tasks_of sheet)
      → IsMeasured m t → IsMeasured (after_tick choice sheet m t over) (suc t)
  measured_tick m t None lawful jobs count h = measured_turn choice sheet m t lawful h jobs count (turn choice sheet m t) (turn_is choice sheet m t choice_is)
  measured_tick m t (Some words) lawful jobs count h = measured_later m m t (same (core_of m)) refl refl h

  pub measured : (t : ℕ) → IsMeasured (at t) t
  unfolding state
  measured zero = measured_first g sheet
  measured (suc t) = measured_tick (at t) t (at t).over (lawful_at g choice sheet t) (jobs_kept g choice choice_is sheet readable within sizes t) (count_at t) (measured t)

  pub collector_never_waits : (t : ℕ) → t < sheet.ticks → turn choice sheet (at t) t ≡ to_collector
      → WaitsForNobody (work_by_collector (core_of (at t))) × (work_by_collector (core_of (at t)) ≢ Worn)
  collector_never_waits t lt e = never_waits choice sheet (at t) t (lawful_at g choice sheet t) (measured t) (jobs_kept g choice choice_is sheet readable within sizes t) (count_at t)
      (turn choice sheet (at t) t) (turn_is choice sheet (at t) t choice_is) e (let most = readable.ticks.at_most in omega (arith, lt, most))

  -- the bound of a cycle is the number of the analysis
  cycle_is : cycle_bound g ≡ cycle_work sheet
  cycle_is =
      let count : tasks g ≡ length sheet.high + length sheet.low = omega (arith, high_seats g sheet sizes, low_seats g sheet sizes) in
      ap (λ r. cycle_events r (tasks g) g.live g.alloc) sizes.registers ∙ ap (λ n. cycle_events sheet.heap.registers n g.live g.alloc) count
      ∙ ap (λ n. cycle_events sheet.heap.registers (length sheet.high + length sheet.low) n g.alloc) sizes.live
      ∙ ap (λ n. cycle_events sheet.heap.registers (length sheet.high + length sheet.low) sheet.heap.live n) sizes.alloc

  pub useful_within : (t : ℕ) → (at t).useful ≤ cycle_work sheet
  useful_within t =
      let few = (measured t).useful_few in
      let most : most_useful (core_of (at t)).geometry (core_of (at t)).spot ≤ cycle_bound (core_of (at t)).geometry = bound_is_cycle (core_of (at t)) (history_of (at t)) (lawful_at g choice sheet t) in
      let is : cycle_bound (core_of (at t)).geometry ≡ cycle_work sheet = ap (λ (k : Geometry). cycle_bound k) (geometry_at g choice sheet t) ∙ cycle_is in
      omega (arith, few, most, is)
