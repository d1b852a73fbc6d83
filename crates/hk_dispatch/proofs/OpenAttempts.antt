-- The collector's open attempt through the run of a session: it was met only while it is open; one that wasn't met is untouched, and
-- began where no high job waited and no low operation was in mid-course. With it go the sizes of the objects and, where no script
-- makes one, that nothing is owed. So at every moment the heap keeps what the collector's events need.
use Rattle.std.proofs.Common.{◌≡◌, ℕ, zero, suc, ◌+◌, ◌*◌, ◌<◌, ◌≤◌, Bool, true, false, List, length, Option, Some, None, refl, sym, ◌∙◌, ap, subst, arith, inl, inr}
use Rattle.std.proofs.lemmas.Bool.{cases_Bool, and_parts}
use Rattle.std.proofs.lemmas.List.Elements.{All-nil}
use Rattle.std.specs.Prelude.{◌&&◌}
use Rattle.hk_words.specs.declared.call.Call.{Call}
use Rattle.hk_words.specs.declared.geometry.Geometry.{Geometry}
use Rattle.hk_words.specs.Geometry.{HasSizes, tasks}
use Rattle.hk_model.specs.Lasting.{MakesAtMost}
use Rattle.hk_core.specs.declared.outcome.Fault.{Fault}
use Rattle.hk_core.specs.declared.spot.Spot.{Spot}
use Rattle.hk_core.specs.State as machine
use Rattle.hk_core.specs.State.{State}
use Rattle.hk_core.specs.Begin.{refusal, after_begin}
use Rattle.hk_core.specs.Lawful.{Lawful}
use Rattle.hk_core.specs.Run.{Running, begin, step, act, is_busy, may_begin}
use Rattle.hk_core.specs.Step.{next, history_after}
use Rattle.hk_collect.specs.Measure.{IsUntouched, least_useful}
use Rattle.hk_collect.specs.Pays.{HeapKept}
use Rattle.hk_collect.specs.Runs.{in_attempt}
use Rattle.hk_collect.specs.Used.{Trace, trace_act, trace_opening}
use Rattle.hk_collect.proofs.MeasureAttempts.{untouched_outside, event_keeps_untouched, attempts_are_counted}
use Rattle.hk_collect.proofs.MeasureSeats.{seats_keep_calm}
use Rattle.hk_collect.proofs.Pays.{opening_keeps_heap}
use Rattle.hk_plan.specs.declared.Ready.{Ready}
use Rattle.hk_script.specs.declared.walk.Need.{Need}
use Rattle.hk_script.specs.declared.walk.Need.TheVariants as need
use Rattle.hk_sheet.specs.declared.sheet.Sheet.{Sheet}
use Rattle.hk_sheet.specs.Faults.{sizes_of}
use Rattle.hk_sheet.specs.Valid.{IsSheet}
use Rattle.hk_admit.specs.Analysis.{largest_object, some_makes}
use Rattle.hk_admit.specs.Conditions.{KeepsToDeclared}
use Rattle.hk_dispatch.specs.Tasks.{tasks_of, task_at}
use Rattle.hk_dispatch.specs.Moment.{Moment, core_of, history_of, used_at, course_at, need_at, opening}
use Rattle.hk_dispatch.specs.Rows.{IsChoice}
use Rattle.hk_dispatch.specs.Turns.{Turn, in_mid_course, turn}
use Rattle.hk_dispatch.specs.Ticks.{run_first, run_on, run_by, after_task, after_event, after_turn}
use Rattle.hk_dispatch.specs.Session.{after_tick, state, IsMoment}
use Rattle.hk_dispatch.specs.Kept.{met_after, met, AttemptFresh}
use Rattle.hk_dispatch.specs.Rules.{NoHighReady, NoLow, ToCollector, TurnIs, by_high, by_operation, by_collector, by_low, by_nobody}
use Rattle.hk_dispatch.specs.Jobs.{JobsKept}
use Rattle.hk_dispatch.proofs.CollectorTick.{core_collected, history_collected}
use Rattle.hk_dispatch.proofs.Courses.{by_test, words_now}
use Rattle.hk_dispatch.proofs.LowOperations.{attempt_fresh, attempt_met}
use Rattle.hk_dispatch.proofs.NewSizes.{wanted_small, makes_small, makes_nothing}
use Rattle.hk_dispatch.proofs.ObjectsSmall.{AreSmall, run_small}
use Rattle.hk_dispatch.proofs.Runs.{geometry_at, lawful_at}
use Rattle.hk_dispatch.proofs.SessionHeap.{measured}
use Rattle.hk_dispatch.proofs.SessionJobs.{jobs_kept}
use Rattle.hk_dispatch.proofs.SessionPaid.{used_is_paid}
use Rattle.hk_dispatch.proofs.SeatsInStep.{MayBeginIf}
use Rattle.hk_dispatch.proofs.Sheets.{scripts, seats}
use Rattle.hk_dispatch.proofs.TaskTick.{words_few}
use Rattle.hk_dispatch.proofs.Tracing.{traced_begin, traced_step}
use Rattle.hk_dispatch.proofs.TurnFacts.{turn_is}
use Rattle.hk_dispatch.proofs.Waiting.{seat_below}
use Rattle.hk_dispatch.proofs.Walking.{may_begin_wanted}

-- A TICK OF A TASK leaves the spot of the collector

begin_spot : (r : Running) (seat : ℕ) (c : Call) → (act r (begin seat c)).core.spot ≡ r.core.spot
unfolding act
begin_spot r seat c = by_test (λ (x : Running). x.core.spot ≡ r.core.spot) (may_begin r.core seat c) (record r { core = after_begin r.core seat c }) r
    (λ may. (seats_keep_calm.begin r.core seat c).spot) (λ not'. refl)

step_spot : (r : Running) (seat : ℕ) → (act r (step seat)).core.spot ≡ r.core.spot
unfolding act next
step_spot r seat = by_test (λ (x : Running). x.core.spot ≡ r.core.spot) (is_busy r.core seat) (record { core = next r.core seat; history = history_after r.core seat r.history }) r (λ busy. refl) (λ idle. refl)

stepped_spot : (r : Trace) (seat : ℕ) → (trace_act r (step seat)).running.core.spot ≡ r.running.core.spot
stepped_spot r seat = ap (λ (x : Running). x.core.spot) (traced_step r seat) ∙ step_spot r.running seat

first_spot : (r : Trace) (seat : ℕ) (c : Call) (o : Option Fault) → (run_first r seat c o).running.core.spot ≡ r.running.core.spot
first_spot r seat c (Some fault) = refl
first_spot r seat c None = stepped_spot (trace_act r (begin seat c)) seat ∙ ap (λ (x : Running). x.core.spot) (traced_begin r seat c) ∙ begin_spot r.running seat c

on_spot : (r : Trace) (seat : ℕ) (c : Call) (spent : ℕ) → (run_on r seat c spent).running.core.spot ≡ r.running.core.spot
on_spot r seat c zero = first_spot r seat c (refusal r.running.core seat c)
on_spot r seat c (suc spent) = stepped_spot r seat

run_spot : (r : Trace) (seat spent : ℕ) (wants : Option Need) → (run_by r seat spent wants).running.core.spot ≡ r.running.core.spot
run_spot r seat spent (Some (need.Heap c)) = on_spot r seat c spent
run_spot r seat spent (Some (need.Work n)) = refl
run_spot r seat spent (Some need.Local) = refl
run_spot r seat spent (Some (need.Out value)) = refl
run_spot r seat spent (Some (need.Ask c)) = refl
run_spot r seat spent None = refl

pub task_spot : (sheet : Sheet) (m : Moment) (t seat : ℕ) → (core_of (after_task sheet m t seat)).spot ≡ (core_of m).spot
unfolding after_task
task_spot sheet m t seat = run_spot m.trace seat (course_at m seat).spent (need_at sheet m seat)

-- WHAT IS KEPT: an attempt that was met is open; one that wasn't began where nobody else had anything to do, and is untouched; the
-- useful events count those of the attempt; each New makes an object of at most the largest size; and where no script makes one
-- nothing is owed.
pub record AttemptKept (sheet : Sheet) (m : Moment) (met_now : Bool) (t : ℕ) : Type 0 where
  pub is_open : met_now ≡ true → in_attempt (core_of m).spot.line ≡ true
  pub fresh : AttemptFresh sheet m met_now t
  pub counted : least_useful (core_of m).spot ≤ m.useful
  pub untouched : met_now ≡ false → IsUntouched (core_of m)
  pub small : AreSmall (largest_object sheet) (history_of m)
  pub no_debt : some_makes sheet ≡ false → m.debt ≡ 0

-- at the start no attempt is open, and nothing is owed
module _ (g : Geometry) (sheet : Sheet) where
  at_rest : in_attempt (core_of (opening g sheet)).spot.line ≡ false
  unfolding opening trace_opening machine.opening machine.opening_spot in_attempt
  at_rest = refl

  attempt_first : AttemptKept sheet (opening g sheet) false 0
  unfolding opening trace_opening
  attempt_first =
      let k = opening_keeps_heap sheet.heap.rate g in
      record {
        is_open = λ e. absurd (cc);
        fresh = record {
          high = λ o met_not. absurd (let e : true ≡ false = sym o ∙ at_rest in cc);
          low = λ o met_not. absurd (let e : true ≡ false = sym o ∙ at_rest in cc);
        };
        counted = k.counted;
        untouched = k.untouched;
        small = All-nil (MakesAtMost (largest_object sheet));
        no_debt = λ none. refl;
      }

module _ (choice : List Ready → ℕ) (sheet : Sheet) (m : Moment) (t : ℕ) (met_now : Bool) (readable : IsSheet sheet) (g : Geometry) (sizes : HasSizes g (sizes_of sheet))
    (geometry : (core_of m).geometry ≡ g) (lawful : Lawful (core_of m) (history_of m)) (jobs : JobsKept sheet m t) (h : AttemptKept sheet m met_now t) where
  may : (seat : ℕ) → seat < length (tasks_of sheet) → MayBeginIf sheet m seat
  may seat below c is = may_begin_wanted (core_of m).geometry sheet.heap.fields sheet.heap.registers (task_at sheet seat).script (course_at m seat).walk c
      (scripts sheet readable seat below) (sym (sizes.registers) ∙ sym (ap (λ (k : Geometry). k.registers) geometry)) is

  -- where no script makes an object a tick takes no words
  none_taken : some_makes sheet ≡ false → (seat : ℕ) → words_now sheet m t seat ≡ 0
  none_taken none seat =
      let few = words_few (core_of m) seat (course_at m seat).spent (need_at sheet m seat) in
      let wanted = wanted_small (task_at sheet seat).script (course_at m seat).walk in
      let all = makes_nothing sheet none seat in
      omega (arith, few, wanted, all)

  attempt_task : (seat : ℕ) → seat < length (tasks_of sheet) → let n = after_task sheet m t seat in AttemptKept sheet n (in_attempt (core_of n).spot.line) (suc t)
  unfolding after_task
  attempt_task seat below =
      let n = after_task sheet m t seat in
      let few = h.counted in
      record {
        is_open = λ e. e;
        fresh = attempt_met sheet n (suc t);
        counted = subst (λ (s : Spot). least_useful s ≤ m.useful) (sym (task_spot sheet m t seat)) few;
        untouched = untouched_outside (core_of n);
        small = run_small (largest_object sheet) m.trace seat lawful.sized (subst (λ k. seat < k) (sym (ap tasks geometry ∙ seats g sheet sizes)) below) h.small
            (course_at m seat).spent (need_at sheet m seat) (may seat below)
            (let wanted = wanted_small (task_at sheet seat).script (course_at m seat).walk in let most = makes_small sheet seat in omega (arith, wanted, most))
            (jobs.in_step seat below);
        no_debt = λ none. let w : sheet.heap.rate * words_now sheet m t seat ≡ 0 = ap (λ k. sheet.heap.rate * k) (none_taken none seat) ∙ omega arith in
            let d = h.no_debt none in omega (arith, w, d);
      }

  courses_kept : (after_event m).courses ≡ m.courses
  unfolding after_event
  courses_kept = refl

  attempt_event : ToCollector sheet m t → let n = after_event m in AttemptKept sheet n (met_now && in_attempt (core_of n).spot.line) (suc t)
  unfolding after_event
  attempt_event f =
      let n = after_event m in
      record {
        is_open = λ e. (and_parts met_now (in_attempt (core_of n).spot.line) e).1;
        fresh = attempt_fresh sheet m n courses_kept readable t (met_now && in_attempt (core_of n).spot.line) f.no_high f.no_operation;
        counted = subst (λ (c : State). least_useful c.spot ≤ n.useful) (sym (core_collected m)) (attempts_are_counted (core_of m) m.useful h.counted).least;
        untouched = λ e. elim (cases_Bool met_now) [
          | inl yes' ↦ untouched_outside (core_of n) (let b : in_attempt (core_of n).spot.line ≡ false = rw yes' at e in b)
          | inr no' ↦ subst IsUntouched (sym (core_collected m)) (event_keeps_untouched (core_of m) (history_of m) lawful (h.untouched no'))
        ];
        small = subst (AreSmall (largest_object sheet)) (sym (history_collected m)) h.small;
        no_debt = λ none. absurd (let d = h.no_debt none in let owed = f.owed in omega (arith, d, owed));
      }

  attempt_nobody : NoHighReady sheet m t → NoLow sheet (in_mid_course sheet m) → AttemptKept sheet (record m { idle = m.idle + 1 }) met_now (suc t)
  attempt_nobody no_high no_low = record {
    is_open = h.is_open;
    fresh = attempt_fresh sheet m (record m { idle = m.idle + 1 }) refl readable t met_now no_high no_low;
    counted = h.counted;
    untouched = h.untouched;
    small = h.small;
    no_debt = h.no_debt;
  }

  attempt_turn : (o : Turn) → TurnIs choice sheet m t o → let n = after_turn sheet m t o in AttemptKept sheet n (met_after met_now (in_attempt (core_of n).spot.line) o) (suc t)
  attempt_turn o (by_high seat f) = attempt_task seat (seat_below choice sheet m t o seat (by_high seat f) refl)
  attempt_turn o (by_operation seat f) = attempt_task seat (seat_below choice sheet m t o seat (by_operation seat f) refl)
  attempt_turn o (by_collector f) = attempt_event f
  attempt_turn o (by_low seat f) = attempt_task seat (seat_below choice sheet m t o seat (by_low seat f) refl)
  attempt_turn o (by_nobody f) = attempt_nobody f.no_high f.no_operation

-- THE RUN

module _ (g : Geometry) (choice : List Ready → ℕ) (sheet : Sheet) where
  abbrev at : ℕ → Moment
  at t = state g choice sheet t

  over_tick : (m : Moment) (t : ℕ) (over : Option ℕ) → m.over ≡ over → (after_tick choice sheet m t over).over ≡ None → m.over ≡ None
  over_tick m t None is e = is
  over_tick m t (Some words) is e = e

  -- before a moment at which the collector hasn't found too many words reserved it hasn't either
  pub over_before : (t : ℕ) → (at (suc t)).over ≡ None → (at t).over ≡ None
  unfolding state
  over_before t e = over_tick (at t) t (at t).over refl e

  pub next_is : (t : ℕ) → (at t).over ≡ None → at (suc t) ≡ after_turn sheet (at t) t (turn choice sheet (at t) t)
  unfolding state
  next_is t e = ap (after_tick choice sheet (at t) t) e

  pub met_next : (t : ℕ) → met g choice sheet (suc t) ≡ met_after (met g choice sheet t) (in_attempt (core_of (at (suc t))).spot.line) (turn choice sheet (at t) t)
  unfolding met
  met_next t = refl

  module _ (choice_is : IsChoice choice) (readable : IsSheet sheet) (within : KeepsToDeclared sheet.high) (sizes : HasSizes g (sizes_of sheet)) where
    pub attempt_kept : (t : ℕ) → (at t).over ≡ None → AttemptKept sheet (at t) (met g choice sheet t) t
    unfolding state met
    attempt_kept zero not_over = attempt_first g sheet
    attempt_kept (suc t) not_over =
        let before = over_before t not_over in
        let o = turn choice sheet (at t) t in
        subst (λ (n : Moment). AttemptKept sheet n (met_after (met g choice sheet t) (in_attempt (core_of n).spot.line) o) (suc t)) (sym (next_is t before))
        (attempt_turn choice sheet (at t) t (met g choice sheet t) readable g sizes (geometry_at g choice sheet t) (lawful_at g choice sheet t)
        (jobs_kept g choice choice_is sheet readable within sizes t) (attempt_kept t before) o (turn_is choice sheet (at t) t choice_is))

    -- what the collector's events need
    pub heap_kept : (t : ℕ) → IsMoment g choice sheet t
        → HeapKept sheet.heap.rate (core_of (at t)) (history_of (at t)) (at t).useful (at t).debt (used_at (at t)) (met g choice sheet t)
    heap_kept t moment =
        let a = attempt_kept t moment.before_over in
        let k = measured g choice choice_is sheet readable within sizes t in
        record {
          lawful = lawful_at g choice sheet t;
          calm = k.calm;
          useful_few = k.useful_few;
          counted = a.counted;
          untouched = a.untouched;
          balance = used_is_paid g choice choice_is sheet readable within sizes t moment.within moment.before_over;
        }
