-- The bytes so far, and those that are left.
use Rattle.std.proofs.Common.{◌≡◌, ℕ, ◌+◌, List, ◌++◌, drop}
use Rattle.hk_chart.specs.Reading.{read_on, IsCounted}
use Rattle.hk_chart.proofs.reader.Reader.take_piece.Given as goal

abbrev pub invariant-loop-byte : goal.invariant-loop-byte
invariant-loop-byte l = record {
  goes : (rest : List ℕ) → read_on l.window l.initial.self (l.piece ++ rest) ≡ read_on l.window l.self (drop l.byte-index l.piece ++ rest);
  counted : IsCounted l.self;
  bytes : l.self.bytes ≡ l.initial.self.bytes + l.byte-index;
}
