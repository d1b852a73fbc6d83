-- One byte more.
use Rattle.std.proofs.Common.{arith}
use Rattle.hk_chart.proofs.Taking.{went_on, came_to_stop, one_more, stopped}
use Rattle.hk_chart.proofs.reader.Reader.take_piece.Goals as goal

pub returns-in-Some-clause-taken : goal.returns-in-Some-clause-taken
returns-in-Some-clause-taken c =
    stopped c.args.window c.args.self.now c.loop-byte.self c.args.piece.now c.loop-byte.byte-index c.loop-byte-test.true c.loop-byte.invariant.goes c.in-Some.why
    (came_to_stop _ _ _ c.in-Some.why c.in_ok-stop.ensures.answer c.in-Some.is)

pub loop-byte-preserved : goal.loop-byte-preserved
loop-byte-preserved c =
    let bytes = c.in_ok-stop.ensures.bytes c.in-None.is in
    record {
      goes = one_more c.args.window c.args.self.now c.loop-byte.self c.args.piece.now c.loop-byte.byte-index c.loop-byte-test.true c.loop-byte.invariant.goes _
          (went_on _ _ _ c.in_ok-stop.ensures.answer c.in-None.is);
      counted = c.in_ok-stop.ensures.counted;
      bytes = omega (arith, bytes, c.loop-byte.invariant.bytes);
    }
