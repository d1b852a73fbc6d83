-- The session was given so many ticks, at which it went on; their lines were written or wait, and no write failed.
use Rattle.std.proofs.Common.{◌≡◌, ◌++◌, ◌≤◌, None}
use Rattle.hk_io.specs.Bytes.{AppendsFront}
use Rattle.hk_dispatch.specs.Session.{state}
use Rattle.hk_top.specs.Report.{ticks_text}
use Rattle.hk_top.proofs.report.write_run.Given as goal

abbrev pub invariant-loop-tick : goal.invariant-loop-tick
invariant-loop-tick g l =
    let s = l.fn.session in
    record {
      within : l.tick ≤ l.ticks;
      all : l.ticks ≡ s.sheet.ticks;
      opened : l.session ≡ record s { given = l.tick };
      before : (state s.geometry (g.P.Pick.choice s.pick) s.sheet l.tick).over ≡ None;
      front : AppendsFront (g.K.Sink.taken l.initial.sink) (g.K.Sink.taken l.sink) (l.initial.gather ++ ticks_text l.form s.geometry (g.P.Pick.choice s.pick) s.sheet l.tick) l.gather;
      kept : g.K.Sink.faults l.sink ≡ g.K.Sink.faults l.initial.sink;
    }
