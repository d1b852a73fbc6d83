-- The counters of a seat's jobs, as a session's run shows them.
use Rattle.std.proofs.Common.{◌≡◌, ℕ, suc, ◌+◌, ◌<◌, Bool, true, List, length, Option, Some, None, refl, sym, ap, subst, arith, inl, inr}
use Rattle.std.proofs.lemmas.Bool.{cases_eq, eq-eqb, ne_eqb}
use Rattle.std.specs.Prelude.{nat_eq, ◌&&◌, is_none, if◌then◌else◌}
use Rattle.hk_words.specs.declared.geometry.Geometry.{Geometry}
use Rattle.hk_words.specs.declared.call.Reply.TheVariants as reply
use Rattle.hk_model.proofs.Views.{get_or-replicate_same}
use Rattle.hk_plan.specs.declared.Ready.{Ready}
use Rattle.hk_script.specs.declared.walk.Walk.{Walk}
use Rattle.hk_script.specs.Walks.{walk_after}
use Rattle.hk_script.specs.Left.{ticks_left}
use Rattle.hk_script.proofs.Potential.{ticks_fall}
use Rattle.hk_sheet.specs.declared.sheet.Sheet.{Sheet}
use Rattle.hk_dispatch.specs.declared.operation.Left.{Left}
use Rattle.hk_dispatch.specs.declared.operation.Left.TheVariants as left
use Rattle.hk_dispatch.specs.Tasks.{Task, tasks_of, task_at, high_at}
use Rattle.hk_dispatch.specs.Moment.{Course, Moment, no_course, course_at, opening}
use Rattle.hk_dispatch.specs.Turns.{Turn, to_task, to_collector, to_nobody, turn}
use Rattle.hk_dispatch.specs.Ticks.{is_over, next_job, course_after, after_task, after_event, after_turn}
use Rattle.hk_dispatch.specs.Session.{after_tick, state, IsSession}
use Rattle.hk_dispatch.specs.Rules.{TurnIs}
use Rattle.hk_dispatch.specs.Jobs.{JobsKept}
use Rattle.hk_dispatch.specs.HighJobs.{is_to, given}
use Rattle.hk_dispatch.proofs.Courses.{by_test, own_course, other_course}
use Rattle.hk_dispatch.proofs.JobCounters.{Counts, waits, goes_on, ends, AreCounters}
use Rattle.hk_dispatch.proofs.JobsKept.{high_is}
use Rattle.hk_dispatch.proofs.SessionJobs.{jobs_kept}
use Rattle.hk_dispatch.proofs.Sheets.{scripts, count_tasks}
use Rattle.hk_dispatch.proofs.TurnFacts.{turn_is}
use Rattle.hk_dispatch.proofs.Waiting.{seat_below}

-- a course before and after a tick
abbrev pub CountsCourse : Bool → Course → Course → Type 0
CountsCourse gets before after = Counts gets before.job before.had after.job after.had

-- a tick of its own job
counts_own : (task : Task) (course : Course) (tick words : ℕ) (gets : Bool) (l : Left) → gets ≡ true → CountsCourse gets course (course_after task course tick words l)
counts_own task course tick words gets left.Stays e = goes_on e refl refl
counts_own task course tick words gets (left.Faults f) e = ends e refl refl
counts_own task course tick words gets (left.Passes r) e =
    by_test (CountsCourse gets course) (is_over task (walk_after task.script course.walk r)) (next_job task course tick) _
    (λ over. ends e refl refl) (λ goes. goes_on e refl refl)

module _ (choice : List Ready → ℕ) (sheet : Sheet) (m : Moment) (t seat : ℕ) (courses : length m.courses ≡ length (tasks_of sheet)) where
  abbrev CountsTurn : Turn → Type 0
  CountsTurn o = CountsCourse (is_to o seat) (course_at m seat) (course_at (after_turn sheet m t o) seat)

  counts_task : (s : ℕ) → s < length (tasks_of sheet) → CountsTurn (to_task s)
  counts_task s below = elim (cases_eq s seat) [
    | inl same ↦
        let own = own_course sheet m t s (subst (λ k. s < k) (sym courses) below) in
        subst (λ k. CountsCourse (nat_eq s k) (course_at m k) (course_at (after_task sheet m t s) k)) same
        (subst (CountsCourse (nat_eq s s) (course_at m s)) (sym own) (counts_own (task_at sheet s) (course_at m s) t _ (nat_eq s s) _ (eq-eqb s s refl)))
    | inr other ↦
        let as_before = other_course sheet m t s seat (λ e. other (sym e)) in
        waits (ne_eqb s seat other) (ap (λ (c : Course). c.job) as_before) (ap (λ (c : Course). c.had) as_before)
  ]

  counts_event : CountsTurn to_collector
  unfolding after_event
  counts_event = waits refl refl refl

  counts_turn : (o : Turn) → TurnIs choice sheet m t o → CountsTurn o
  counts_turn (to_task s) is = counts_task s (seat_below choice sheet m t (to_task s) s is refl)
  counts_turn to_collector is = counts_event
  counts_turn to_nobody is = waits refl refl refl

  counts_tick : TurnIs choice sheet m t (turn choice sheet m t) → (over : Option ℕ)
      → CountsCourse (is_none over && is_to (turn choice sheet m t) seat) (course_at m seat) (course_at (after_tick choice sheet m t over) seat)
  counts_tick is None = counts_turn (turn choice sheet m t) is
  counts_tick is (Some words) = waits refl refl refl

module _ (g : Geometry) (choice : List Ready → ℕ) (sheet : Sheet) where
  -- a tick goes to the task of a seat
  abbrev pub goes : (t seat : ℕ) → Bool
  goes t seat = is_none (state g choice sheet t).over && is_to (turn choice sheet (state g choice sheet t) t) seat

  -- the job of a seat at a moment, and the ticks that it has had
  abbrev pub job_of : (t seat : ℕ) → ℕ
  job_of t seat = (course_at (state g choice sheet t) seat).job

  abbrev pub had_of : (t seat : ℕ) → ℕ
  had_of t seat = (course_at (state g choice sheet t) seat).had

module _ (g : Geometry) (choice : List Ready → ℕ) (sheet : Sheet) (work attempt busy debt : ℕ) (s : IsSession g choice sheet work attempt busy debt) where
  pub jobs_at : (t : ℕ) → JobsKept sheet (state g choice sheet t) t
  jobs_at t = jobs_kept g choice s.choice_is sheet s.checked.readable s.checked.declared s.sizes t

  module _ (seat : ℕ) where
    first_course : course_at (state g choice sheet 0) seat ≡ no_course
    unfolding state opening
    first_course = get_or-replicate_same (length (tasks_of sheet)) seat no_course

    none_given : (j : ℕ) → given g choice sheet 0 seat j ≡ 0
    unfolding given
    none_given j = refl

    gained : (t j : ℕ) → given g choice sheet (suc t) seat j ≡ given g choice sheet t seat j + (if goes g choice sheet t seat && nat_eq (job_of g choice sheet t seat) j then 1 else 0)
    unfolding given
    gained t j = refl

    counts : (t : ℕ) → CountsCourse (goes g choice sheet t seat) (course_at (state g choice sheet t) seat) (course_at (state g choice sheet (suc t)) seat)
    unfolding state
    counts t =
        let m = state g choice sheet t in
        counts_tick choice sheet m t seat (jobs_at t).courses (turn_is choice sheet m t s.choice_is) m.over

    pub counters : AreCounters (λ t. goes g choice sheet t seat) (λ t. job_of g choice sheet t seat) (λ t. had_of g choice sheet t seat) (λ t j. given g choice sheet t seat j)
    counters = record {
      first = ap (λ (c : Course). c.job) first_course;
      none_had = ap (λ (c : Course). c.had) first_course;
      none_given = none_given;
      counts = counts;
      gained = gained;
    }

    -- a high job that isn't ended has had fewer ticks than its task declares
    pub had_few : seat < length sheet.high → (t : ℕ) → had_of g choice sheet t seat < (high_at sheet seat).timing.cost
    had_few high t =
        let below : seat < length (tasks_of sheet) = omega (arith, high, count_tasks sheet) in
        let walk : Walk = (course_at (state g choice sheet t) seat).walk in
        let k = (jobs_at t).course seat below in
        let few = ((jobs_at t).declared seat high).ticks_few in
        let spent = k.spent_few in
        let fall = ticks_fall (task_at sheet seat).script walk reply.Unit (scripts sheet s.checked.readable seat below) k.fits k.turns in
        let same = ap (λ (a : Task). ticks_left a.script walk) (high_is sheet seat high) in
        omega (arith, few, spent, fall, same)
