-- At every moment of a session all jobs are kept, the account of the debt holds, and one low operation at most is in mid-course.
use Rattle.std.proofs.Common.{◌≡◌, ℕ, zero, suc, ◌+◌, ◌*◌, ◌<◌, ◌≤◌, Bool, true, false, List, [], ◌∷◌, length, Option, Some, None, refl, sym, ◌∙◌, ap, subst, arith, inr, get_or}
use Rattle.std.proofs.lemmas.List.{length-replicate}
use Rattle.std.specs.Prelude.{nat_lt, ◌&&◌, map}
use Rattle.std.specs.List.{range_with_len}
use Rattle.hk_words.specs.declared.geometry.Geometry.{Geometry}
use Rattle.hk_words.specs.Geometry.{HasSizes, tasks}
use Rattle.hk_model.proofs.Views.{get_or-replicate_same}
use Rattle.hk_core.specs.declared.flight.Flight.{Flight}
use Rattle.hk_core.specs.State as machine
use Rattle.hk_core.specs.State.{State, flight_of}
use Rattle.hk_core.specs.Collect.{next_collected}
use Rattle.hk_core.specs.Lawful.{Lawful}
use Rattle.hk_collect.specs.Used.{trace_opening}
use Rattle.hk_plan.specs.declared.Ready.{Ready}
use Rattle.hk_script.specs.Cost.{greatest_ticks, greatest_words}
use Rattle.hk_script.specs.Walks.{need_of}
use Rattle.hk_sheet.specs.declared.sheet.Sheet.{Sheet}
use Rattle.hk_sheet.specs.Faults.{sizes_of}
use Rattle.hk_sheet.specs.Valid.{IsSheet}
use Rattle.hk_admit.specs.Conditions.{is_too_long, is_too_large, KeepsToDeclared}
use Rattle.hk_dispatch.specs.Tasks.{Task, IsLowSeat, tasks_of, task_at, no_high, high_at}
use Rattle.hk_dispatch.specs.Moment.{Course, Moment, no_course, core_of, history_of, course_at, opening}
use Rattle.hk_dispatch.specs.Rows.{IsChoice}
use Rattle.hk_dispatch.specs.Turns.{Turn, is_operation, in_mid_course, turn}
use Rattle.hk_dispatch.specs.Ticks.{after_task, after_event, after_turn}
use Rattle.hk_dispatch.specs.Session.{after_tick, state}
use Rattle.hk_dispatch.specs.InStep.{aside}
use Rattle.hk_dispatch.specs.Kept.{CourseKept, KeepsDeclared, OneLow}
use Rattle.hk_dispatch.specs.Rules.{ready_now, TurnIs, by_high, by_operation, by_collector, by_low, by_nobody}
use Rattle.hk_dispatch.specs.Jobs.{JobsKept}
use Rattle.hk_dispatch.proofs.TurnFacts.{turn_is}
use Rattle.hk_dispatch.proofs.Sheets.{scripts, count_tasks, seats}
use Rattle.hk_dispatch.proofs.CourseFacts.{started_kept, started_declared}
use Rattle.hk_dispatch.proofs.JobsKept.{high_is, within_declared, none_at, jobs_wait, jobs_keep}
use Rattle.hk_dispatch.proofs.Waiting.{mid_course_ready}
use Rattle.hk_dispatch.proofs.LowOperations.{one_low_waits, one_low_high, one_low_operation, one_low_low}
use Rattle.hk_dispatch.proofs.CollectorTick.{core_collected, account_event}
use Rattle.hk_dispatch.proofs.Runs.{geometry_at, lawful_at}

-- THE START

all_idle : (xs : List ℕ) (i : ℕ) (d : Flight) → d.place ≡ 0 → (get_or (map machine.idle xs) i d).place ≡ 0
unfolding machine.idle
all_idle [] i d e = e
all_idle (x ∷ xs) zero d e = refl
all_idle (x ∷ xs) (suc i) d e = all_idle xs i d e

idle_at_start : (g : Geometry) (seat : ℕ) → (flight_of (machine.opening g).flights seat).place ≡ 0
unfolding machine.opening flight_of machine.idle
idle_at_start g seat = all_idle (range_with_len 0 (tasks g)) seat (machine.idle seat) refl

module _ (g : Geometry) (sheet : Sheet) where
  first_course : (seat : ℕ) → course_at (opening g sheet) seat ≡ no_course
  unfolding opening
  first_course seat = get_or-replicate_same (length (tasks_of sheet)) seat no_course

  idle_first : (seat : ℕ) → (flight_of (core_of (opening g sheet)).flights seat).place ≡ 0
  unfolding opening trace_opening
  idle_first seat = idle_at_start g seat

  pub one_low_first : OneLow sheet (opening g sheet)
  unfolding in_mid_course
  one_low_first a b la lb ma mb = absurd (
      let none : in_mid_course sheet (opening g sheet) a ≡ false = ap (λ (c : Course). is_operation (need_of (task_at sheet a).script c.walk) && nat_lt 0 c.spent) (first_course a) ∙ never _ in
      let e : true ≡ false = sym ma ∙ none in cc
      )
    where
      never : (b : Bool) → (b && false) ≡ false
      never true = refl
      never false = refl

  module _ (readable : IsSheet sheet) (within : KeepsToDeclared sheet.high) where
    first_declared : (seat : ℕ) → seat < length sheet.high → KeepsDeclared (high_at sheet seat).script no_course (high_at sheet seat).timing.cost (high_at sheet seat).words
    first_declared seat high =
        let e = high_is sheet seat high in
        let P : Task → Type 0 = λ (a : Task). KeepsDeclared a.script no_course (high_at sheet seat).timing.cost (high_at sheet seat).words in
        subst P e (started_declared sheet.heap.fields sheet.heap.registers (task_at sheet seat) (scripts sheet readable seat (omega (arith, high, count_tasks sheet)))
        (high_at sheet seat).timing.cost (high_at sheet seat).words
        (subst (λ (a : Task). greatest_ticks a.script ≤ (high_at sheet seat).timing.cost) (sym e) (within_declared _ _ (none_at is_too_long sheet.high seat no_high within.ticks high)))
        (subst (λ (a : Task). greatest_words a.script ≤ (high_at sheet seat).words) (sym e) (within_declared _ _ (none_at is_too_large sheet.high seat no_high within.words high)))
        0 0)

    jobs_first : JobsKept sheet (opening g sheet) 0
    unfolding opening
    jobs_first = record {
      courses = length-replicate (length (tasks_of sheet)) no_course;
      course = λ seat below. subst (λ (c : Course). CourseKept (task_at sheet seat) c 0) (sym (first_course seat))
          (started_kept sheet.heap.fields sheet.heap.registers (task_at sheet seat) (scripts sheet readable seat below) 0 0 (omega arith) 0);
      declared = λ seat high. subst (λ (c : Course). KeepsDeclared (high_at sheet seat).script c (high_at sheet seat).timing.cost (high_at sheet seat).words) (sym (first_course seat)) (first_declared seat high);
      in_step = λ seat below. aside (idle_first seat) (inr (ap (λ (c : Course). c.spent) (first_course seat)));
    }

-- A TICK

-- the account of the debt
abbrev IsAccounted : Sheet → Moment → Type 0
IsAccounted sheet n = n.events + n.debt ≡ sheet.heap.rate * n.taken + n.lost

module _ (choice : List Ready → ℕ) (sheet : Sheet) (m : Moment) (t : ℕ) where
  account_task : (seat : ℕ) → IsAccounted sheet m → IsAccounted sheet (after_task sheet m t seat)
  unfolding after_task
  account_task seat h = omega (arith, h)

  account_turn : (o : Turn) → TurnIs choice sheet m t o → IsAccounted sheet m → IsAccounted sheet (after_turn sheet m t o)
  account_turn o (by_high seat f) h = account_task seat h
  account_turn o (by_operation seat f) h = account_task seat h
  account_turn o (by_collector f) h = account_event m sheet.heap.rate f.owed h
  account_turn o (by_low seat f) h = account_task seat h
  account_turn o (by_nobody f) h = h

  same_courses : (after_event m).courses ≡ m.courses
  unfolding after_event
  same_courses = refl

  -- the low operations in mid-course
  one_low_turn : (o : Turn) → TurnIs choice sheet m t o → OneLow sheet m → OneLow sheet (after_turn sheet m t o)
  one_low_turn o (by_high seat f) h = one_low_high sheet m t seat h f.high
  one_low_turn o (by_operation seat f) h = one_low_operation sheet m t seat h f
  one_low_turn o (by_collector f) h = one_low_waits sheet m (after_event m) same_courses h
  one_low_turn o (by_low seat f) h = one_low_low sheet m t seat h f
  one_low_turn o (by_nobody f) h = one_low_waits sheet m (record m { idle = m.idle + 1 }) refl h

  -- the jobs
  same_flights : (core_of (after_event m)).flights ≡ (core_of m).flights
  unfolding next_collected
  same_flights = ap (λ (c : State). c.flights) (core_collected m)

  module _ (readable : IsSheet sheet) (within : KeepsToDeclared sheet.high) (g : Geometry) (sizes : HasSizes g (sizes_of sheet))
      (geometry : (core_of m).geometry ≡ g) (lawful : Lawful (core_of m) (history_of m)) (h : JobsKept sheet m t) where
    jobs_task : (seat : ℕ) → seat < length (tasks_of sheet) → ready_now sheet m t seat ≡ true → JobsKept sheet (after_task sheet m t seat) (suc t)
    jobs_task seat below ready = jobs_keep sheet readable within m t seat below (ap tasks geometry ∙ seats g sheet sizes)
        (sym (sizes.registers) ∙ sym (ap (λ (k : Geometry). k.registers) geometry)) lawful.sized ready h

    low_below : (seat : ℕ) → IsLowSeat sheet seat → seat < length (tasks_of sheet)
    low_below seat low = let b = low.below in omega (arith, b, count_tasks sheet)

    jobs_turn : (o : Turn) → TurnIs choice sheet m t o → JobsKept sheet (after_turn sheet m t o) (suc t)
    jobs_turn o (by_high seat f) = jobs_task seat (let high = f.high in omega (arith, high, count_tasks sheet)) f.ready
    jobs_turn o (by_operation seat f) = let below = low_below seat f.first.low in jobs_task seat below (mid_course_ready sheet m t h seat below f.first.passes)
    jobs_turn o (by_collector f) = jobs_wait sheet m (after_event m) t same_courses same_flights h
    jobs_turn o (by_low seat f) = jobs_task seat (low_below seat f.first.low) f.first.passes
    jobs_turn o (by_nobody f) = jobs_wait sheet m (record m { idle = m.idle + 1 }) t refl refl h

-- THE RUN

module _ (g : Geometry) (choice : List Ready → ℕ) (choice_is : IsChoice choice) (sheet : Sheet) where
  abbrev at : ℕ → Moment
  at t = state g choice sheet t

  account_tick : (m : Moment) (t : ℕ) (over : Option ℕ) → IsAccounted sheet m → IsAccounted sheet (after_tick choice sheet m t over)
  account_tick m t None h = account_turn choice sheet m t (turn choice sheet m t) (turn_is choice sheet m t choice_is) h
  account_tick m t (Some words) h = h

  pub accounted : (t : ℕ) → IsAccounted sheet (at t)
  unfolding state opening
  accounted zero = omega arith
  accounted (suc t) = account_tick (at t) t (at t).over (accounted t)

  one_low_tick : (m : Moment) (t : ℕ) (over : Option ℕ) → OneLow sheet m → OneLow sheet (after_tick choice sheet m t over)
  one_low_tick m t None h = one_low_turn choice sheet m t (turn choice sheet m t) (turn_is choice sheet m t choice_is) h
  one_low_tick m t (Some words) h = h

  pub one_low : (t : ℕ) → OneLow sheet (at t)
  unfolding state
  one_low zero = one_low_first g sheet
  one_low (suc t) = one_low_tick (at t) t (at t).over (one_low t)

  module _ (readable : IsSheet sheet) (within : KeepsToDeclared sheet.high) (sizes : HasSizes g (sizes_of sheet)) where
    jobs_tick : (m : Moment) (t : ℕ) (over : Option ℕ) → (core_of m).geometry ≡ g → Lawful (core_of m) (history_of m) → JobsKept sheet m t → JobsKept sheet (after_tick choice sheet m t over) (suc t)
    jobs_tick m t None geometry lawful h = jobs_turn choice sheet m t readable within g sizes geometry lawful h (turn choice sheet m t) (turn_is choice sheet m t choice_is)
    jobs_tick m t (Some words) geometry lawful h = jobs_wait sheet m m t refl refl h

    pub jobs_kept : (t : ℕ) → JobsKept sheet (at t) t
    unfolding state
    jobs_kept zero = jobs_first g sheet readable within
    jobs_kept (suc t) = jobs_tick (at t) t (at t).over (geometry_at g choice sheet t) (lawful_at g choice sheet t) (jobs_kept t)
