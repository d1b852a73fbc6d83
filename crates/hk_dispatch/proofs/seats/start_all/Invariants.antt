-- The tasks so far have started.
use Rattle.std.proofs.Common.{◌≡◌, ◌<◌, ℕ, length}
use Rattle.std.specs.Prelude.{slice_index_or}
use Rattle.hk_dispatch.specs.declared.run.TaskRun.{TaskRun}
use Rattle.hk_dispatch.specs.Tasks.{task_at}
use Rattle.hk_dispatch.specs.Moment.{no_course}
use Rattle.hk_dispatch.specs.TaskRuns.{ShowsCourse}
use Rattle.hk_dispatch.proofs.seats.start_all.Given as goal

abbrev pub invariant-loop-seat : goal.invariant-loop-seat
invariant-loop-seat l = record {
  all : length l.tasks.items ≡ l.seat;
  each : (seat : ℕ) (d : TaskRun) → seat < l.seat → ShowsCourse (task_at l.sheet seat) no_course (slice_index_or l.tasks.items seat d);
}
