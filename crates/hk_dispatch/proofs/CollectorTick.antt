-- A tick of the collector: what it keeps of the heap, and that it waits for nobody.
use Rattle.std.proofs.Common.{◌≡◌, ◌≢◌, ℕ, ◌+◌, ◌*◌, ◌<◌, Bool, true, Option, Some, None, refl, sym, ◌∙◌, ap, subst, arith}
use Rattle.std.specs.Prelude.{max}
use Rattle.hk_words.specs.declared.geometry.Geometry.{Geometry}
use Rattle.hk_words.specs.Bounds.{frame_events, object_events}
use Rattle.hk_model.specs.History.{History}
use Rattle.hk_core.specs.declared.spot.Work.{Work}
use Rattle.hk_core.specs.declared.spot.Work.TheVariants.{LiveOver, Worn}
use Rattle.hk_core.specs.State.{State}
use Rattle.hk_core.specs.Collect.{next_collected, work_by_collector}
use Rattle.hk_core.specs.Lawful.{Lawful}
use Rattle.hk_core.specs.Run.{Running, act}
use Rattle.hk_collect.specs.Cycles.{IsWorked}
use Rattle.hk_collect.specs.Measure.{NoneInFlight}
use Rattle.hk_collect.specs.Pays.{HeapKept, ObjectsWithin, IsAttemptBound, Pays, met_still}
use Rattle.hk_collect.specs.Taken.{used_in}
use Rattle.hk_collect.proofs.Cycles.{event_works}
use Rattle.hk_collect.proofs.Pays.{collector_pays}
use Rattle.hk_sheet.specs.declared.sheet.Sheet.{Sheet}
use Rattle.hk_admit.specs.Analysis.{some_makes, attempt_events, largest_object}
use Rattle.hk_dispatch.specs.Moment.{Moment, core_of, history_of, used_at}
use Rattle.hk_dispatch.specs.Ticks.{over_in, after_event}
use Rattle.hk_dispatch.proofs.Tracing.{traced_event}

-- THE RUN

pub core_collected : (m : Moment) → core_of (after_event m) ≡ next_collected (core_of m)
unfolding after_event act
core_collected m = ap (λ (r : Running). r.core) (traced_event m.trace)

pub history_collected : (m : Moment) → history_of (after_event m) ≡ history_of m
unfolding after_event act
history_collected m = ap (λ (r : Running). r.history) (traced_event m.trace)

-- THE BOUND OF AN ATTEMPT, where something is made

pub attempt_bound : (g : Geometry) (sheet : Sheet) (attempt : ℕ) → g.registers ≡ sheet.heap.registers → attempt ≡ attempt_events sheet → some_makes sheet ≡ true
    → IsAttemptBound g (largest_object sheet) attempt
attempt_bound g sheet attempt registers is makes =
    let all : attempt ≡ max (frame_events sheet.heap.registers) (object_events (largest_object sheet)) = is ∙ rw makes refl in
    record { frames = grind (arith, all, registers); objects = grind (arith, all) }

-- no answer of an event but one says that too many words are reserved
over_none : (w : Work) (words : ℕ) → over_in w ≡ None → w ≢ LiveOver words
over_none w words none e = absurd (let f : ◌≡◌ {A = Option ℕ} (Some words) None = ap over_in (sym e) ∙ none in cc)

-- THE TICK

module _ (rate attempt most : ℕ) (m : Moment) (met_now : Bool) (h : HeapKept rate (core_of m) (history_of m) m.useful m.debt (used_at m) met_now)
    (bound : IsAttemptBound (core_of m).geometry most attempt) (sizes : ObjectsWithin (core_of m).geometry (history_of m) most)
    (none : NoneInFlight (core_of m)) (owed : 0 < m.debt) (goes_on : work_by_collector (core_of m) ≢ Worn) (not_over : (after_event m).over ≡ None) where
  fits : (words : ℕ) → work_by_collector (core_of m) ≢ LiveOver words
  unfolding after_event
  fits words = over_none (work_by_collector (core_of m)) words not_over

  -- what the tick pays
  pub event_pays : Pays rate attempt (core_of m) (history_of m) m.useful m.debt met_now
  event_pays = collector_pays rate most attempt (core_of m) (history_of m) m.useful m.debt met_now h bound sizes none (omega (arith, owed)) fits goes_on

  pub heap_after_event : let n = after_event m in HeapKept rate (core_of n) (history_of n) n.useful n.debt (used_at n) (met_still (core_of m) met_now)
  unfolding after_event
  heap_after_event =
      let n = after_event m in
      subst (λ (c : State). HeapKept rate c (history_of n) n.useful n.debt (used_in c) (met_still (core_of m) met_now)) (sym (core_collected m))
      (subst (λ (hist : History). HeapKept rate (next_collected (core_of m)) hist n.useful n.debt (used_in (next_collected (core_of m))) (met_still (core_of m) met_now)) (sym (history_collected m)) event_pays.kept)

-- the account of the debt
pub account_event : (m : Moment) (rate : ℕ) → 0 < m.debt → m.events + m.debt ≡ rate * m.taken + m.lost
    → (after_event m).events + (after_event m).debt ≡ rate * (after_event m).taken + (after_event m).lost
unfolding after_event
account_event m rate owed is = omega (arith, owed, is)

-- so many events were enough
pub worked_event : (m : Moment) (history : History) → Lawful (core_of m) history → IsWorked (core_of m).geometry (core_of m).spot m.events
    → IsWorked (core_of (after_event m)).geometry (core_of (after_event m)).spot (after_event m).events
unfolding after_event next_collected
worked_event m history lawful w = subst (λ (c : State). IsWorked c.geometry c.spot (m.events + 1)) (sym (core_collected m)) (event_works (core_of m) history m.events lawful w)
