-- The lines of the tasks so far were written, and no write failed.
use Rattle.std.proofs.Common.{◌≡◌}
use Rattle.std.specs.Io.KnownBytes.{Appends}
use Rattle.hk_top.specs.Report.{line_of_low}
use Rattle.hk_top.proofs.Parts.{first_texts}
use Rattle.hk_edf.proofs.report.put_low_tasks.Given as goal

abbrev pub invariant-loop-task : goal.invariant-loop-task
invariant-loop-task g l = record {
  written : Appends (g.K.Sink.taken l.initial.sink) (g.K.Sink.taken l.sink) (first_texts line_of_low l.tasks l.task-index);
  kept : g.K.Sink.faults l.sink ≡ g.K.Sink.faults l.initial.sink;
}
