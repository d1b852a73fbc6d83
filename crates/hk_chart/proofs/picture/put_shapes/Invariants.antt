-- The texts of the shapes so far were written or wait, and no write failed.
use Rattle.std.proofs.Common.{◌≡◌, ◌++◌}
use Rattle.hk_io.specs.Bytes.{AppendsFront}
use Rattle.hk_chart.specs.Drawing.{part_text}
use Rattle.hk_chart.proofs.Joined.{first_texts}
use Rattle.hk_chart.proofs.picture.put_shapes.Given as goal

abbrev pub invariant-loop-shape : goal.invariant-loop-shape
invariant-loop-shape g l = record {
  front : AppendsFront (g.K.Sink.taken l.initial.sink) (g.K.Sink.taken l.sink) (l.initial.gather ++ first_texts (part_text l.part l.progress l.tasks) l.shapes l.shape-index) l.gather;
  kept : g.K.Sink.faults l.sink ≡ g.K.Sink.faults l.initial.sink;
}
