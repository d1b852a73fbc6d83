-- The fields after a tick show the moment after it: where a task had the tick, and where none had.
use Rattle.std.proofs.Common.{◌≡◌, ◌≢◌, ℕ, suc, ◌+◌, ◌<◌, Bool, true, false, List, length, refl, sym, ◌∙◌, ap, subst, arith, inl, inr, Option, Some, None, get_or, set, length-set, get_or-set_same, get_or-set_other}
use Rattle.std.proofs.lemmas.Bool.{cases_eq}
use Rattle.std.specs.Prelude.{nat_lt, ◌&&◌, slice_index_or, if◌then◌else◌}
use Rattle.std.specs.Option.{is_some}
use Rattle.hk_plan.specs.AloneBy.{ready_at}
use Rattle.hk_script.specs.Walks.{need_of, walk_after}
use Rattle.hk_sheet.specs.declared.sheet.Sheet.{Sheet}
use Rattle.hk_dispatch.specs.declared.operation.Left.{Left}
use Rattle.hk_dispatch.specs.declared.operation.Left.TheVariants as left
use Rattle.hk_dispatch.specs.declared.roster.Roster.{Roster}
use Rattle.hk_dispatch.specs.declared.run.TaskRun.{TaskRun}
use Rattle.hk_dispatch.specs.declared.tick.End.{End}
use Rattle.hk_dispatch.specs.Tasks.{IsLowSeat, Task, tasks_of, task_at}
use Rattle.hk_dispatch.specs.Moment.{Course, Moment, no_course, course_at}
use Rattle.hk_dispatch.specs.Turns.{is_operation, ready_rows, in_mid_course, first_low}
use Rattle.hk_dispatch.specs.Ticks.{is_over, next_job, course_after, after_task}
use Rattle.hk_dispatch.specs.Told.{end_of, ended}
use Rattle.hk_dispatch.specs.Opened.{ShowsCourses, roster_after, HighWent, ShowsReady, OnlyLow}
use Rattle.hk_dispatch.specs.TaskRuns.{ShowsCourse}
use Rattle.hk_dispatch.proofs.Courses.{left_now, words_now, course_now, own_course, other_course}
use Rattle.hk_dispatch.proofs.FirstLow.{first_low_law}
use Rattle.hk_dispatch.proofs.RosterAfter.{first_low_same, due_sooner, roster_waits, roster_counts, roster_goes}

-- whether an operation is in mid-course, by the courses
mid_by : (sheet : Sheet) (m n : Moment) (seat : ℕ) → course_at n seat ≡ course_at m seat → in_mid_course sheet n seat ≡ in_mid_course sheet m seat
unfolding in_mid_course
mid_by sheet m n seat e = ap (λ (c : Course). is_operation (need_of (task_at sheet seat).script c.walk) && nat_lt 0 c.spent) e

-- A TICK THAT CHANGES NO COURSE

module _ (sheet : Sheet) (m n : Moment) (same : n.courses ≡ m.courses) where
  course_same : (seat : ℕ) → course_at n seat ≡ course_at m seat
  course_same seat = ap (λ (cs : List Course). slice_index_or cs seat no_course) same

  pub courses_wait : (runs : List TaskRun) → ShowsCourses sheet m runs → ShowsCourses sheet n runs
  courses_wait runs h = record {
    all = h.all;
    each = λ seat d below. subst (λ (c : Course). ShowsCourse (task_at sheet seat) c (slice_index_or runs seat d)) (sym (course_same seat)) (h.each seat d below);
  }

  pub roster_wait : (tick : ℕ) (r : Roster) → ShowsReady sheet m tick r → suc tick < r.stale_from → ShowsReady sheet n (suc tick) r
  roster_wait tick r h fresh = roster_waits sheet m n tick r h fresh (λ seat below. ap (λ (c : Course). c.job) (course_same seat)) (λ seat high. ap (λ (c : Course). c.had) (course_same seat))

  pub mid_wait : first_low sheet (in_mid_course sheet m) ≡ first_low sheet (in_mid_course sheet n)
  mid_wait = first_low_same sheet _ _ (λ seat low. sym (mid_by sheet m n seat (course_same seat)))

-- A TICK OF A TASK

-- where it ends no job the task stays at its job
stays_at : (task : Task) (course : Course) (tick words : ℕ) (l : Left) → end_of task course.job course.walk tick l ≡ None → (course_after task course tick words l).job ≡ course.job
stays_at task course tick words left.Stays e = refl
stays_at task course tick words (left.Passes r) e = by_over (is_over task (walk_after task.script course.walk r)) e
  where
    by_over : (over : Bool) → (if over then ended course.job (task.arrival course.job) tick None else None) ≡ None
        → (if over then next_job task course tick else record course { walk = walk_after task.script course.walk r; spent = 0; had = course.had + 1; took = course.took + words }).job ≡ course.job
    by_over true e = absurd (cc)
    by_over false e = refl
stays_at task course tick words (left.Faults fault) e = absurd (cc)

module _ (sheet : Sheet) (m : Moment) (tick seat : ℕ) where
  abbrev n : Moment
  n = after_task sheet m tick seat

  abbrev pub end_now : Option End
  end_now = end_of (task_at sheet seat) (course_at m seat).job (course_at m seat).walk tick (left_now sheet m tick seat)

  jobs_stay : seat < length m.courses → end_now ≡ None → (other : ℕ) → (course_at n other).job ≡ (course_at m other).job
  jobs_stay below none other = elim (cases_eq other seat) [
    | inl same ↦ subst (λ k. (course_at n k).job ≡ (course_at m k).job) (sym same)
        (ap (λ (c : Course). c.job) (own_course sheet m tick seat below) ∙ stays_at (task_at sheet seat) (course_at m seat) tick (words_now sheet m tick seat) (left_now sheet m tick seat) none)
    | inr differs ↦ ap (λ (c : Course). c.job) (other_course sheet m tick seat other differs)
  ]

  had_stay : (other : ℕ) → other ≢ seat → (course_at n other).had ≡ (course_at m other).had
  had_stay other differs = ap (λ (c : Course). c.had) (other_course sheet m tick seat other differs)

  mid_stay : (other : ℕ) → other ≢ seat → in_mid_course sheet n other ≡ in_mid_course sheet m other
  mid_stay other differs = mid_by sheet m n other (other_course sheet m tick seat other differs)

  -- the courses, where the run of the seat shows its own
  pub courses_gone : (runs : List TaskRun) (run : TaskRun) → seat < length m.courses → seat < length (tasks_of sheet) → ShowsCourses sheet m runs
      → ShowsCourse (task_at sheet seat) (course_now sheet m tick seat) run → ShowsCourses sheet n (set runs seat run)
  courses_gone runs run known below h own = record {
    all = length-set runs seat run ∙ h.all;
    each = λ other d b. elim (cases_eq other seat) [
      | inl same ↦ subst (λ k. ShowsCourse (task_at sheet k) (course_at n k) (get_or (set runs seat run) k d)) (sym same)
          (subst (λ (c : Course). ShowsCourse (task_at sheet seat) c (get_or (set runs seat run) seat d)) (sym (own_course sheet m tick seat known))
          (subst (λ (x : TaskRun). ShowsCourse (task_at sheet seat) (course_now sheet m tick seat) x) (sym (get_or-set_same runs seat run d (let all = h.all in omega (arith, below, all)))) own))
      | inr differs ↦ subst (λ (c : Course). ShowsCourse (task_at sheet other) c (get_or (set runs seat run) other d)) (sym (other_course sheet m tick seat other differs))
          (subst (λ (x : TaskRun). ShowsCourse (task_at sheet other) (course_at m other) x) (sym (get_or-set_other runs seat other run d differs)) (h.each other d b))
    ];
  }

  -- the roster, where the seat is a high one
  pub high_roster : (r after : Roster) (e : Option End) (place : ℕ) (run : TaskRun) → ShowsReady sheet m tick r → seat < length m.courses → e ≡ end_now
      → place < length (ready_rows sheet m tick) → (ready_at (ready_rows sheet m tick) place).task ≡ seat → ShowsCourse (task_at sheet seat) (course_at n seat) run
      → HighWent place run (is_some e) r after → suc tick < after.stale_from → ShowsReady sheet n (suc tick) after
  high_roster r after None place run h below is within task shows went fresh =
      roster_counts sheet m n tick r h (let due = went.due in omega (arith, due, fresh)) place seat within task (λ other differs. other_course sheet m tick seat other differs) run shows after
      (jobs_stay below (sym is) seat) went
  high_roster r after (Some end) place run h below is within task shows went fresh =
      roster_goes sheet m n tick r h (let due = went.due in let sooner = due_sooner run.ready r.stale_from in omega (arith, due, sooner, fresh)) place seat within task
      (λ other differs. other_course sheet m tick seat other differs) run shows after went fresh

  -- and where it is a low one
  pub low_roster : (r : Roster) (e : Option End) (h : ShowsReady sheet m tick r) → seat < length m.courses → e ≡ end_now → IsLowSeat sheet seat
      → suc tick < (roster_after (is_some e) r).stale_from → ShowsReady sheet n (suc tick) (roster_after (is_some e) r)
  low_roster r (Some end) h below is low fresh = absurd (omega (arith, fresh))
  low_roster r None h below is low fresh =
      roster_waits sheet m n tick r h fresh (λ other b. jobs_stay below (sym is) other)
      (λ other high. had_stay other (λ e. let from = low.from in omega (arith, from, high, e)))

  -- the low operation in mid-course
  pub high_mid : seat < length sheet.high → first_low sheet (in_mid_course sheet m) ≡ first_low sheet (in_mid_course sheet n)
  high_mid high = first_low_same sheet _ _ (λ other low. sym (mid_stay other (λ e. let from = low.from in omega (arith, from, high, e))))

  pub low_mid : IsLowSeat sheet seat → OnlyLow sheet m seat → (if in_mid_course sheet n seat then Some seat else None) ≡ first_low sheet (in_mid_course sheet n)
  low_mid low only = elim (first_low_law sheet (in_mid_course sheet n)) [
    | inl f ↦
        let e = none_but f.0 f.1.low f.1.passes in
        rw (subst (λ k. in_mid_course sheet n k ≡ true) e f.1.passes) (ap (λ k. Some k) (sym e) ∙ sym (f.1.is))
    | inr none ↦ rw (none.fails seat low) (sym (none.is))
  ]
    where
      none_but : (other : ℕ) → IsLowSeat sheet other → in_mid_course sheet n other ≡ true → other ≡ seat
      none_but other l mid = elim (cases_eq other seat) [ inl same ↦ same | inr differs ↦ only other l (sym (mid_stay other differs) ∙ mid) ]
