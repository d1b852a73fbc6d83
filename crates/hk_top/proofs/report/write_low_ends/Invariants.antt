-- The lines of the tasks so far were written or wait, and no write failed.
use Rattle.std.proofs.Common.{◌≡◌, ◌++◌, ◌≤◌}
use Rattle.hk_io.specs.Bytes.{AppendsFront}
use Rattle.hk_dispatch.specs.Session.{state}
use Rattle.hk_top.specs.Report.{texts_below, line_of_low_end}
use Rattle.hk_top.proofs.report.write_low_ends.Given as goal

abbrev pub invariant-loop-place : goal.invariant-loop-place
invariant-loop-place g l =
    let s = l.fn.session in
    record {
      within : l.place ≤ l.place-end;
      front : AppendsFront (g.K.Sink.taken l.initial.sink) (g.K.Sink.taken l.sink) (l.initial.gather ++ texts_below (line_of_low_end s.sheet (state s.geometry (g.P.Pick.choice s.pick) s.sheet s.given)) l.place) l.gather;
      kept : g.K.Sink.faults l.sink ≡ g.K.Sink.faults l.initial.sink;
    }
