-- A tick of a session that doesn't end it; and no more jobs of a high task are ended than have become ready.
use Rattle.std.proofs.Common.{◌≡◌, ℕ, zero, suc, ◌+◌, ◌-◌, ◌*◌, ◌<◌, ◌≤◌, true, List, length, Option, Some, None, refl, sym, ap, subst, arith, inl, inr}
use Rattle.std.proofs.lemmas.Bool.{cases_eq}
use Rattle.hk_words.specs.declared.geometry.Geometry.{Geometry}
use Rattle.hk_words.specs.Geometry.{HasSizes}
use Rattle.hk_model.proofs.Views.{get_or-replicate_same}
use Rattle.hk_plan.specs.declared.Ready.{Ready}
use Rattle.hk_sheet.specs.declared.sheet.Sheet.{Sheet}
use Rattle.hk_sheet.specs.Faults.{sizes_of}
use Rattle.hk_sheet.specs.Valid.{IsSheet}
use Rattle.hk_admit.specs.Conditions.{KeepsToDeclared}
use Rattle.hk_dispatch.specs.Tasks.{IsLowSeat, tasks_of, task_at, high_at}
use Rattle.hk_dispatch.specs.Moment.{Course, Moment, no_course, course_at, opening}
use Rattle.hk_dispatch.specs.Rows.{IsChoice}
use Rattle.hk_dispatch.specs.Turns.{Turn, turn}
use Rattle.hk_dispatch.specs.Ticks.{after_task, after_event, after_turn}
use Rattle.hk_dispatch.specs.Session.{after_tick, state, IsMoment}
use Rattle.hk_dispatch.specs.Rules.{ready_now, TurnIs, by_high, by_operation, by_collector, by_low, by_nobody}
use Rattle.hk_dispatch.proofs.Counters.{ready_before}
use Rattle.hk_dispatch.proofs.Courses.{words_now, left_now, own_course, other_course}
use Rattle.hk_dispatch.proofs.HighLeft.{Moves, moves, job_few}
use Rattle.hk_dispatch.proofs.ReadyCounts.{ready_next, ready_counts}
use Rattle.hk_dispatch.proofs.Sheets.{count_tasks}
use Rattle.hk_dispatch.proofs.SessionJobs.{jobs_kept}
use Rattle.hk_dispatch.proofs.TurnFacts.{turn_is}

-- THE COURSES AFTER A TICK

module _ (sheet : Sheet) (m : Moment) (t : ℕ) where
  -- that of the task that gets it goes on
  pub task_moves : (seat : ℕ) → seat < length m.courses → Moves (course_at m seat) (course_at (after_task sheet m t seat) seat) (words_now sheet m t seat)
  task_moves seat below = subst (λ (c : Course). Moves (course_at m seat) c (words_now sheet m t seat)) (sym (own_course sheet m t seat below))
      (moves (task_at sheet seat) (course_at m seat) t (words_now sheet m t seat) (left_now sheet m t seat))

  pub debt_task : (seat : ℕ) → (after_task sheet m t seat).debt ≡ m.debt + sheet.heap.rate * words_now sheet m t seat
  unfolding after_task
  debt_task seat = refl

  pub event_course : (seat : ℕ) → course_at (after_event m) seat ≡ course_at m seat
  unfolding after_event
  event_course seat = refl

-- NO MORE ENDED THAN READY

abbrev pub JobsReady : Sheet → Moment → (t : ℕ) → Type 0
JobsReady sheet m t = (seat : ℕ) → seat < length sheet.high → (course_at m seat).job ≤ ready_before (high_at sheet seat) t

module _ (choice : List Ready → ℕ) (sheet : Sheet) (readable : IsSheet sheet) (m : Moment) (t : ℕ) (h : JobsReady sheet m t) (courses : length m.courses ≡ length (tasks_of sheet)) where
  same_ready : (n : Moment) (seat : ℕ) → seat < length sheet.high → course_at n seat ≡ course_at m seat → (course_at n seat).job ≤ ready_before (high_at sheet seat) (suc t)
  same_ready n seat high same = let j = ap (λ (c : Course). c.job) same in let le = h seat high in omega (arith, j, le, ready_next (high_at sheet seat) t)

  own_ready : (seat : ℕ) → seat < length sheet.high → ready_now sheet m t seat ≡ true → (course_at (after_task sheet m t seat) seat).job ≤ ready_before (high_at sheet seat) (suc t)
  own_ready seat high ready = job_few (course_at m seat) (course_at (after_task sheet m t seat) seat) (words_now sheet m t seat) (ready_before (high_at sheet seat) (suc t))
      (task_moves sheet m t seat (omega (arith, high, courses, count_tasks sheet))) (ready_counts sheet readable m t seat high ready)

  task_ready : (seat : ℕ) → ((seat < length sheet.high) → ready_now sheet m t seat ≡ true) → JobsReady sheet (after_task sheet m t seat) (suc t)
  task_ready seat ready other high = elim (cases_eq other seat) [
    | inl same ↦ subst (λ s. (course_at (after_task sheet m t seat) s).job ≤ ready_before (high_at sheet s) (suc t)) (sym same)
        (let own = subst (λ s. s < length sheet.high) same high in own_ready seat own (ready own))
    | inr differs ↦ same_ready (after_task sheet m t seat) other high (other_course sheet m t seat other differs)
  ]

  low_ready : (seat : ℕ) → IsLowSeat sheet seat → JobsReady sheet (after_task sheet m t seat) (suc t)
  low_ready seat low = task_ready seat (λ high. absurd (let from = low.from in omega (arith, from, high)))

  turn_ready : (o : Turn) → TurnIs choice sheet m t o → JobsReady sheet (after_turn sheet m t o) (suc t)
  turn_ready o (by_high seat f) = task_ready seat (λ high. f.ready)
  turn_ready o (by_operation seat f) = low_ready seat f.first.low
  turn_ready o (by_collector f) = λ seat high. same_ready (after_event m) seat high (event_course sheet m t seat)
  turn_ready o (by_low seat f) = low_ready seat f.first.low
  turn_ready o (by_nobody f) = λ seat high. same_ready (record m { idle = m.idle + 1 }) seat high refl

-- THE RUN

module _ (g : Geometry) (choice : List Ready → ℕ) (sheet : Sheet) where
  abbrev at : ℕ → Moment
  at t = state g choice sheet t

  over_first : (m : Moment) (t : ℕ) (over : Option ℕ) → m.over ≡ over → (after_tick choice sheet m t over).over ≡ None → m.over ≡ None
  over_first m t None e after = e
  over_first m t (Some words) e after = after

  -- a run that isn't over at a moment isn't before
  pub over_before : (t : ℕ) → (at (suc t)).over ≡ None → (at t).over ≡ None
  unfolding state
  over_before t e = over_first (at t) t (at t).over refl e

  pub moment_before : (t : ℕ) → IsMoment g choice sheet (suc t) → IsMoment g choice sheet t
  moment_before t h = record { within = let w = h.within in omega (arith, w); before_over = over_before t h.before_over }

  pub earlier_moment : (d t : ℕ) → IsMoment g choice sheet (t + d) → IsMoment g choice sheet t
  earlier_moment zero t h = subst (IsMoment g choice sheet) (let e : t + 0 ≡ t = omega arith in e) h
  earlier_moment (suc d) t h = earlier_moment d t (moment_before (t + d) (subst (IsMoment g choice sheet) (let e : t + suc d ≡ suc (t + d) = omega arith in e) h))

  pub moment_until : (horizon t : ℕ) → t ≤ horizon → IsMoment g choice sheet horizon → IsMoment g choice sheet t
  moment_until horizon t le h = earlier_moment (horizon - t) t (subst (IsMoment g choice sheet) (let e : horizon ≡ t + (horizon - t) = omega (arith, le) in e) h)

  -- the moment after a tick is that of who gets it
  pub next_is : (t : ℕ) → (at t).over ≡ None → at (suc t) ≡ after_turn sheet (at t) t (turn choice sheet (at t) t)
  unfolding state
  next_is t e = ap (after_tick choice sheet (at t) t) e

  module _ (choice_is : IsChoice choice) (readable : IsSheet sheet) (within : KeepsToDeclared sheet.high) (sizes : HasSizes g (sizes_of sheet)) where
    ready_tick : (m : Moment) (t : ℕ) (over : Option ℕ) → length m.courses ≡ length (tasks_of sheet) → JobsReady sheet m t → JobsReady sheet (after_tick choice sheet m t over) (suc t)
    ready_tick m t None courses h = turn_ready choice sheet readable m t h courses (turn choice sheet m t) (turn_is choice sheet m t choice_is)
    ready_tick m t (Some words) courses h = λ seat high. same_ready choice sheet readable m t h courses m seat high refl

    pub jobs_ready : (t : ℕ) → JobsReady sheet (at t) t
    unfolding state opening
    jobs_ready zero = λ seat high. let j = ap (λ (c : Course). c.job) (get_or-replicate_same (length (tasks_of sheet)) seat no_course) in omega (arith, j)
    jobs_ready (suc t) = ready_tick (at t) t (at t).over (jobs_kept g choice choice_is sheet readable within sizes t).courses (jobs_ready t)
