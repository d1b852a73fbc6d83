-- The heap of a session runs by an interleaving of begins, steps of seats and events of the collector. So at every moment it is
-- lawful for its history, and that is legal.
use Rattle.std.proofs.Common.{◌≡◌, ℕ, zero, suc, List, [], Option, Some, None, refl, sym, ◌∙◌, ap, subst}
use Rattle.hk_words.specs.declared.call.Call.{Call}
use Rattle.hk_words.specs.declared.geometry.Geometry.{Geometry}
use Rattle.hk_model.specs.Heap.{opening_of}
use Rattle.hk_model.specs.History.{Legal}
use Rattle.hk_core.specs.declared.outcome.Fault.{Fault}
use Rattle.hk_core.specs.Begin.{refusal}
use Rattle.hk_core.specs.Lawful.{Lawful}
use Rattle.hk_core.specs.Run.{Running, begin, step, collect}
use Rattle.hk_core.proofs.Actions.{IsLawfulRun}
use Rattle.hk_collect.specs.Used.{Trace, trace_act, traced}
use Rattle.hk_collect.proofs.Running.{lawful_from_opening, legal_from_opening}
use Rattle.hk_collect.proofs.UsedLaws.{traced_is_run, traced_keeps_geometry}
use Rattle.hk_plan.specs.declared.Ready.{Ready}
use Rattle.hk_script.specs.declared.walk.Need.{Need}
use Rattle.hk_script.specs.declared.walk.Need.TheVariants as need
use Rattle.hk_sheet.specs.declared.sheet.Sheet.{Sheet}
use Rattle.hk_dispatch.specs.Moment.{Moment, core_of, history_of, course_at, need_at, opening}
use Rattle.hk_dispatch.specs.Turns.{Turn, to_task, to_collector, to_nobody, turn}
use Rattle.hk_dispatch.specs.Ticks.{run_first, run_on, run_by, after_task, after_event, after_turn}
use Rattle.hk_dispatch.specs.Session.{after_tick, state}
use Rattle.hk_dispatch.proofs.Tracing.{IsRun, run_more}

module _ (g : Geometry) where
  -- a tick of an operation
  first_run : (r : Trace) (seat : ℕ) (c : Call) (o : Option Fault) → IsRun g r → IsRun g (run_first r seat c o)
  first_run r seat c (Some fault) h = h
  first_run r seat c None h = run_more g (trace_act r (begin seat c)) (step seat) (run_more g r (begin seat c) h)

  on_run : (r : Trace) (seat : ℕ) (c : Call) (spent : ℕ) → IsRun g r → IsRun g (run_on r seat c spent)
  on_run r seat c zero h = first_run r seat c (refusal r.running.core seat c) h
  on_run r seat c (suc spent) h = run_more g r (step seat) h

  -- of a task
  by_run : (r : Trace) (seat spent : ℕ) (wants : Option Need) → IsRun g r → IsRun g (run_by r seat spent wants)
  by_run r seat spent (Some (need.Heap c)) h = on_run r seat c spent h
  by_run r seat spent (Some (need.Work n)) h = h
  by_run r seat spent (Some need.Local) h = h
  by_run r seat spent (Some (need.Out value)) h = h
  by_run r seat spent (Some (need.Ask c)) h = h
  by_run r seat spent None h = h

  -- of anybody
  turn_run : (sheet : Sheet) (m : Moment) (tick : ℕ) (o : Turn) → IsRun g m.trace → IsRun g (after_turn sheet m tick o).trace
  unfolding after_task after_event
  turn_run sheet m tick (to_task seat) h = by_run m.trace seat (course_at m seat).spent (need_at sheet m seat) h
  turn_run sheet m tick to_collector h = run_more g m.trace collect h
  turn_run sheet m tick to_nobody h = h

  tick_run : (choice : List Ready → ℕ) (sheet : Sheet) (m : Moment) (tick : ℕ) (over : Option ℕ) → IsRun g m.trace → IsRun g (after_tick choice sheet m tick over).trace
  tick_run choice sheet m tick None h = turn_run sheet m tick (turn choice sheet m tick) h
  tick_run choice sheet m tick (Some words) h = h

  pub state_run : (choice : List Ready → ℕ) (sheet : Sheet) (t : ℕ) → IsRun g (state g choice sheet t).trace
  unfolding state opening traced
  state_run choice sheet zero = ([], refl)
  state_run choice sheet (suc t) = let m = state g choice sheet t in tick_run choice sheet m t m.over (state_run choice sheet t)

  module _ (choice : List Ready → ℕ) (sheet : Sheet) (t : ℕ) where
    abbrev m : Moment
    m = state g choice sheet t

    pub geometry_at : (core_of m).geometry ≡ g
    geometry_at = let r = state_run choice sheet t in ap (λ (s : Trace). s.running.core.geometry) r.1 ∙ traced_keeps_geometry g r.0

    pub lawful_at : Lawful (core_of m) (history_of m)
    lawful_at =
        let r = state_run choice sheet t in
        subst IsLawfulRun (sym (ap (λ (s : Trace). s.running) r.1 ∙ traced_is_run g r.0)) (lawful_from_opening g r.0)

    pub legal_at : Legal (opening_of g) (history_of m)
    legal_at =
        let r = state_run choice sheet t in
        subst (λ (s : Running). Legal (opening_of g) s.history) (sym (ap (λ (s : Trace). s.running) r.1 ∙ traced_is_run g r.0)) (legal_from_opening g r.0)
