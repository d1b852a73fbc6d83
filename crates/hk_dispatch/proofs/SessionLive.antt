-- No birth of a session is ever late, since at each tick of the collector no call is in flight. So where it finds too many words
-- reserved, more were live at the last flip than the sheet declares.
use Rattle.std.proofs.Common.{◌≡◌, ℕ, zero, suc, ◌<◌, false, List, length, Option, Some, None, refl, sym, ◌∙◌, ap, subst}
use Rattle.hk_words.specs.declared.call.Call.{Call}
use Rattle.hk_words.specs.declared.geometry.Geometry.{Geometry}
use Rattle.hk_words.specs.Geometry.{HasSizes, tasks}
use Rattle.hk_model.specs.Heap.{opening_of}
use Rattle.hk_model.specs.History.{History, after}
use Rattle.hk_core.specs.declared.outcome.Fault.{Fault}
use Rattle.hk_core.specs.declared.spot.Work.{Work}
use Rattle.hk_core.specs.declared.spot.Work.TheVariants.{Useful, Flipped, Lost, BusyFrame, BusyObject, Unlinked, Grey, LiveOver, Worn}
use Rattle.hk_core.specs.Begin.{refusal}
use Rattle.hk_core.specs.Collect.{work_by_collector}
use Rattle.hk_core.specs.Run.{begin, collect}
use Rattle.hk_collect.specs.Live.{LiveExceeds, IsOver}
use Rattle.hk_collect.specs.Measure.{NoneInFlight}
use Rattle.hk_collect.specs.Used.{Trace, trace_act, is_flip, NoneLate, traced}
use Rattle.hk_collect.proofs.LiveCause.{live_over_has_live}
use Rattle.hk_collect.proofs.UsedLaws.{keeps_none_late}
use Rattle.hk_plan.specs.declared.Ready.{Ready}
use Rattle.hk_script.specs.declared.walk.Need.{Need}
use Rattle.hk_script.specs.declared.walk.Need.TheVariants as need
use Rattle.hk_sheet.specs.declared.sheet.Sheet.{Sheet}
use Rattle.hk_sheet.specs.Faults.{sizes_of}
use Rattle.hk_sheet.specs.Valid.{IsSheet}
use Rattle.hk_admit.specs.Conditions.{KeepsToDeclared}
use Rattle.hk_dispatch.specs.Tasks.{tasks_of}
use Rattle.hk_dispatch.specs.Moment.{Moment, core_of, course_at, need_at, flip_heap, opening}
use Rattle.hk_dispatch.specs.Rows.{IsChoice}
use Rattle.hk_dispatch.specs.Turns.{Turn, to_task, to_collector, to_nobody, turn}
use Rattle.hk_dispatch.specs.Ticks.{run_first, run_on, run_by, over_in, after_task, after_event, after_turn}
use Rattle.hk_dispatch.specs.Session.{after_tick, state}
use Rattle.hk_dispatch.specs.Rules.{TurnIs, by_high, by_operation, by_collector, by_low, by_nobody}
use Rattle.hk_dispatch.specs.Jobs.{JobsKept}
use Rattle.hk_dispatch.proofs.Tracing.{IsRun}
use Rattle.hk_dispatch.proofs.TurnFacts.{turn_is}
use Rattle.hk_dispatch.proofs.Sheets.{seats}
use Rattle.hk_dispatch.proofs.Waiting.{none_in_flight}
use Rattle.hk_dispatch.proofs.Runs.{state_run, geometry_at}
use Rattle.hk_dispatch.proofs.SessionJobs.{jobs_kept}

-- NO BIRTH IS LATE

late_first : (r : Trace) (seat : ℕ) (c : Call) (o : Option Fault) → NoneLate r → NoneLate (run_first r seat c o)
late_first r seat c (Some fault) h = h
late_first r seat c None h = keeps_none_late.step (trace_act r (begin seat c)) seat (keeps_none_late.begin r seat c h)

late_on : (r : Trace) (seat : ℕ) (c : Call) (spent : ℕ) → NoneLate r → NoneLate (run_on r seat c spent)
late_on r seat c zero h = late_first r seat c (refusal r.running.core seat c) h
late_on r seat c (suc spent) h = keeps_none_late.step r seat h

late_by : (r : Trace) (seat spent : ℕ) (wants : Option Need) → NoneLate r → NoneLate (run_by r seat spent wants)
late_by r seat spent (Some (need.Heap c)) h = late_on r seat c spent h
late_by r seat spent (Some (need.Work n)) h = h
late_by r seat spent (Some need.Local) h = h
late_by r seat spent (Some (need.Out value)) h = h
late_by r seat spent (Some (need.Ask c)) h = h
late_by r seat spent None h = h

-- A TICK THAT FINDS TOO MUCH

-- what is found where a moment says that so many words are too many
abbrev HasCause : Geometry → Moment → Type 0
HasCause g m = (words : ℕ) → m.over ≡ Some words → IsOver g (flip_heap g m) words

none_over : (o : Option ℕ) (words : ℕ) → o ≡ None → o ≡ Some words → ⊥
none_over None words e f = cc
none_over (Some w) words e f = cc

over_is : (w : Work) (words : ℕ) → over_in w ≡ Some words → w ≡ LiveOver words
over_is Useful words e = absurd (cc)
over_is Flipped words e = absurd (cc)
over_is (Lost n) words e = absurd (cc)
over_is (BusyFrame seat) words e = absurd (cc)
over_is (BusyObject number) words e = absurd (cc)
over_is (Unlinked place) words e = absurd (cc)
over_is (Grey number) words e = absurd (cc)
over_is (LiveOver found) words e = let same : found ≡ words = cc in ap LiveOver same
over_is Worn words e = absurd (cc)

-- such an event is no flip
flip_same : (r : Trace) (words : ℕ) → work_by_collector r.running.core ≡ LiveOver words → (trace_act r collect).at_flip ≡ r.at_flip
unfolding trace_act
flip_same r words e = let no : is_flip (work_by_collector r.running.core) ≡ false = ap is_flip e in rw no refl

module _ (g : Geometry) (choice : List Ready → ℕ) (sheet : Sheet) (m : Moment) (t : ℕ) (late : NoneLate m.trace) where
  late_task : (seat : ℕ) → NoneLate (after_task sheet m t seat).trace
  unfolding after_task
  late_task seat = late_by m.trace seat (course_at m seat).spent (need_at sheet m seat) late

  late_event : NoneInFlight (core_of m) → NoneLate (after_event m).trace
  unfolding after_event
  late_event none = keeps_none_late.collect m.trace (λ flip. none) late

  cause_event : IsRun g m.trace → HasCause g (after_event m)
  unfolding after_event
  cause_event run words e =
      let is : work_by_collector (core_of m) ≡ LiveOver words = over_is (work_by_collector (core_of m)) words e in
      let there : (r : Trace) → r ≡ traced g run.0 → NoneLate r → work_by_collector r.running.core ≡ LiveOver words → IsOver g (after (opening_of g) r.at_flip) words =
      λ r same n w. subst (λ (s : Trace). IsOver g (after (opening_of g) s.at_flip) words) (sym same)
      (live_over_has_live g run.0 words (sym (ap (λ (s : Trace). s.late) same) ∙ n.none_late) (sym (ap (λ (s : Trace). work_by_collector s.running.core) same) ∙ w)) in
      subst (λ (hist : History). IsOver g (after (opening_of g) hist) words) (sym (flip_same m.trace words is)) (there m.trace run.1 late is)

  cause_task : m.over ≡ None → (seat : ℕ) → HasCause g (after_task sheet m t seat)
  unfolding after_task
  cause_task none seat words e = absurd (none_over m.over words none e)

  module _ (jobs : JobsKept sheet m t) (count : tasks (core_of m).geometry ≡ length (tasks_of sheet)) where
    late_turn : (o : Turn) → TurnIs choice sheet m t o → NoneLate (after_turn sheet m t o).trace
    late_turn o (by_high seat f) = late_task seat
    late_turn o (by_operation seat f) = late_task seat
    late_turn o (by_collector f) = late_event (none_in_flight sheet m t jobs count f.no_high f.no_operation)
    late_turn o (by_low seat f) = late_task seat
    late_turn o (by_nobody f) = late

  cause_turn : IsRun g m.trace → m.over ≡ None → (o : Turn) → HasCause g (after_turn sheet m t o)
  cause_turn run none (to_task seat) = cause_task none seat
  cause_turn run none to_collector = cause_event run
  cause_turn run none to_nobody = λ words e. absurd (none_over m.over words none e)

-- THE RUN

module _ (g : Geometry) (choice : List Ready → ℕ) (choice_is : IsChoice choice) (sheet : Sheet) (readable : IsSheet sheet) (within : KeepsToDeclared sheet.high)
    (sizes : HasSizes g (sizes_of sheet)) where
  abbrev at : ℕ → Moment
  at t = state g choice sheet t

  late_tick : (m : Moment) (t : ℕ) (over : Option ℕ) → NoneLate m.trace → JobsKept sheet m t → tasks (core_of m).geometry ≡ length (tasks_of sheet) → NoneLate (after_tick choice sheet m t over).trace
  late_tick m t None late jobs count = late_turn g choice sheet m t late jobs count (turn choice sheet m t) (turn_is choice sheet m t choice_is)
  late_tick m t (Some words) late jobs count = late

  pub none_late : (t : ℕ) → NoneLate (at t).trace
  unfolding state opening
  none_late zero = keeps_none_late.opening g
  none_late (suc t) = late_tick (at t) t (at t).over (none_late t) (jobs_kept g choice choice_is sheet readable within sizes t) (ap tasks (geometry_at g choice sheet t) ∙ seats g sheet sizes)

  cause_tick : (m : Moment) (t : ℕ) (over : Option ℕ) → m.over ≡ over → NoneLate m.trace → IsRun g m.trace → HasCause g m → HasCause g (after_tick choice sheet m t over)
  cause_tick m t None none late run h = cause_turn g choice sheet m t late run none (turn choice sheet m t)
  cause_tick m t (Some words) some late run h = h

  has_cause : (t : ℕ) → HasCause g (at t)
  unfolding state opening
  has_cause zero words e = absurd (cc)
  has_cause (suc t) words e = cause_tick (at t) t (at t).over refl (none_late t) (state_run g choice sheet t) (has_cause t) words e

  pub live_over_cause : (t words : ℕ) → (at t).over ≡ Some words → (sheet.heap.live < words) × LiveExceeds g (flip_heap g (at t)) sheet.heap.live
  live_over_cause t words e =
      let o = has_cause t words e in
      let live : g.live ≡ sheet.heap.live = sizes.live in (
        subst (λ n. n < words) live o.found,
        subst (λ n. LiveExceeds g (flip_heap g (at t)) n) live o.exceeds,
      )
