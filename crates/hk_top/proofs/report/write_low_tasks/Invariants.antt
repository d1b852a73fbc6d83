-- The lines of the tasks so far were written or wait, and no write failed.
use Rattle.std.proofs.Common.{◌≡◌, ◌++◌}
use Rattle.hk_io.specs.Bytes.{AppendsFront}
use Rattle.hk_top.specs.Report.{line_of_low}
use Rattle.hk_top.proofs.Parts.{first_texts}
use Rattle.hk_top.proofs.report.write_low_tasks.Given as goal

abbrev pub invariant-loop-task : goal.invariant-loop-task
invariant-loop-task g l = record {
  front : AppendsFront (g.K.Sink.taken l.initial.sink) (g.K.Sink.taken l.sink) (l.initial.gather ++ first_texts line_of_low l.tasks l.task-index) l.gather;
  kept : g.K.Sink.faults l.sink ≡ g.K.Sink.faults l.initial.sink;
}
