-- What was read so far.
use Rattle.std.proofs.Common.{◌≡◌, ◌+◌, ◌-◌}
use Rattle.hk_chart.specs.Reading.{IsCounted}
use Rattle.hk_chart.specs.declared.reader.TheConstants.{MAX_BYTES}
use Rattle.hk_chart.proofs.Taking.{Comes}
use Rattle.hk_chart.proofs.reader.read_chart.Given as goal

abbrev pub invariant-loop-reader : goal.invariant-loop-reader
invariant-loop-reader g l = record {
  comes : Comes l.window (g.S.Source.left l.initial.source) (g.S.Source.left l.source) l.reader;
  counted : IsCounted l.reader;
  kept : g.S.Source.faults l.source ≡ g.S.Source.faults l.initial.source;
}

abbrev pub decreases-loop-reader : goal.decreases-loop-reader
decreases-loop-reader g l = MAX_BYTES + 1 - l.reader.bytes
