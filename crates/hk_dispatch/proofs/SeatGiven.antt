-- What the tick of a seat's job leaves in the fields.
use Rattle.std.proofs.Common.{◌≡◌, ℕ, suc, ◌+◌, ◌*◌, ◌^◌, ◌<◌, ◌≤◌, List, length, sym, ◌∙◌, subst, get_or, set}
use Rattle.std.specs.Prelude.{nat_lt, ◌&&◌}
use Rattle.hk_sheet.specs.declared.sheet.Sheet.{Sheet}
use Rattle.hk_dispatch.specs.declared.run.Done.{Done}
use Rattle.hk_dispatch.specs.declared.run.TaskRun.{TaskRun}
use Rattle.hk_dispatch.specs.declared.stand.Stand.{Stand}
use Rattle.hk_dispatch.specs.Tasks.{Task, tasks_of, task_at}
use Rattle.hk_dispatch.specs.Moment.{Course, Moment, course_at}
use Rattle.hk_dispatch.specs.Turns.{is_operation}
use Rattle.hk_dispatch.specs.Ticks.{words_by, left_by, course_after, after_task}
use Rattle.hk_dispatch.specs.Told.{out_of, end_of}
use Rattle.hk_dispatch.specs.TaskRuns.{ShowsCourse, wanted, core_by}
use Rattle.hk_dispatch.specs.Opened.{ShowsCourses, Before, Gave}
use Rattle.hk_dispatch.proofs.SeatTick.{core_is, out_is, end_is, course_shown, mid_course_is, debt_after_is, debt_within}
use Rattle.hk_dispatch.proofs.ShownAfter.{courses_gone}

module _ (sheet : Sheet) (m : Moment) (tick : ℕ) (s : Stand) (b : Before sheet m tick s) (seat : ℕ) (below : seat < length (tasks_of sheet)) where
  -- the run of the seat shows its course
  pub shows_at : (run : TaskRun) → run ≡ get_or s.tasks.items seat run → ShowsCourse (task_at sheet seat) (course_at m seat) run
  shows_at run is = subst (λ (x : TaskRun). ShowsCourse (task_at sheet seat) (course_at m seat) x) (sym is) (b.shows.courses.each seat run below)

  module _ (task : Task) (task_is : task ≡ task_at sheet seat) (run : TaskRun) (run_is : run ≡ get_or s.tasks.items seat run) (after : TaskRun) (done : Done)
      (leads : (course : Course) → ShowsCourse task course run → ShowsCourse task (course_after task course tick (words_by s.heap seat run.spent (wanted task run)) (left_by s.heap seat run.spent (wanted task run))) after)
      (out : done.out ≡ out_of (wanted task run)) (end : done.end ≡ end_of task run.job run.walk tick (left_by s.heap seat run.spent (wanted task run)))
      (mid : done.mid_course ≡ (is_operation (wanted task after) && nat_lt 0 after.spent)) (words : done.words ≡ words_by s.heap seat run.spent (wanted task run)) (few : done.words ≤ 511) where
    pub seat_gave : (u : Stand) → u.heap ≡ core_by s.heap seat run.spent (wanted task run) → u.tasks.items ≡ set s.tasks.items seat after → u.debt ≡ s.debt + sheet.heap.rate * done.words
        → Gave sheet m tick seat u done
    seat_gave u heap items debt =
        let shows = shows_at run run_is in
        let may = b.may in
        let known : seat < length m.courses = subst (λ k. seat < k) (sym (may.jobs.courses)) below in
        record {
          heap_is = heap ∙ core_is sheet m tick may seat below task task_is s.heap b.shows.heap_is run shows;
          courses = subst (λ (xs : List TaskRun). ShowsCourses sheet (after_task sheet m tick seat) xs) (sym items)
              (courses_gone sheet m tick seat s.tasks.items after known below b.shows.courses (course_shown sheet m tick may seat below task task_is s.heap b.shows.heap_is run shows after leads));
          debt_is = debt ∙ debt_after_is sheet m tick may seat below task task_is s.heap b.shows.heap_is run shows s.debt done.words b.shows.debt_is words;
          debt_few = subst (λ k. k ≤ suc tick * 2 ^ 33) (sym debt) (debt_within sheet m tick may seat below task task_is s.heap b.shows.heap_is run shows s.debt done.words b.fit.debt_few few);
          out_is = out ∙ out_is sheet m tick may seat below task task_is s.heap b.shows.heap_is run shows;
          end_is = end ∙ end_is sheet m tick may seat below task task_is s.heap b.shows.heap_is run shows;
          mid_course_is = mid ∙ mid_course_is sheet m tick may seat below task task_is s.heap b.shows.heap_is run shows after leads;
        }
