use Rattle.std.proofs.Common.{◌≡◌, length}
use Rattle.hk_io.specs.Bytes.{AppendsFront}
use Rattle.hk_io.proofs.whole.put_all.Given as goal

-- some of the bytes were taken, the rest is left, and the count of faults is as it was
abbrev pub invariant-loop-rest : goal.invariant-loop-rest
invariant-loop-rest g l = record {
  front : AppendsFront (g.K.Sink.taken l.initial.sink) (g.K.Sink.taken l.sink) l.bytes l.rest;
  kept : g.K.Sink.faults l.sink ≡ g.K.Sink.faults l.initial.sink;
}

abbrev pub decreases-loop-rest : goal.decreases-loop-rest
decreases-loop-rest g l = length l.rest
