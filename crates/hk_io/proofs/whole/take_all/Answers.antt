use Rattle.std.proofs.Common.{◌≡◌, ◌++◌, ◌≤◌, length, take, arith, length-take}
use Rattle.std.proofs.KnownBytes.{Consumes-trans}
use Rattle.hk_io.proofs.BytesLemmas.{length-more}
use Rattle.hk_io.proofs.whole.take_all.Goals as goal

-- no memory for the last piece: the bytes before it and the piece were lost
pub returns-in_err-extend_from_slice-in-Ok-clause-stops :
    goal.returns-in_err-extend_from_slice-in-Ok-clause-stops
returns-in_err-extend_from_slice-in-Ok-clause-stops g c =
    let bytes = c.loop-piece.bytes.items in
    let piece = c.read.new.buf in
    let size : length piece ≡ length (take c.min-room.result c.loop-piece.piece) = c.read.auto.buf in
    let within : c.in-Ok.count ≤ length piece = c.in-Ok.ensures.within in
    record {
      front = bytes ++ take c.in-Ok.count piece;
      fits = omega (arith, size, c.loop-piece.bytes.ok, c.loop-piece.invariant.short, c.min-room.ensures, c.len-in-loop-piece.ensures, length-take c.min-room.result c.loop-piece.piece, length-more bytes piece c.in-Ok.count within);
      consumed = Consumes-trans _ _ _ _ _ c.loop-piece.invariant.consumed c.in-Ok.ensures.bytes.0;
    }
