use Rattle.std.proofs.Common.{◌≡◌, ◌+◌, ◌-◌, ◌≤◌, vec_len}
use Rattle.std.specs.Io.KnownBytes.{Consumes}
use Rattle.hk_io.specs.Limits.{longest_input}
use Rattle.hk_io.proofs.whole.take_all.Given as goal

-- the bytes so far are those that the source has lost, they are few enough, and the count of faults is as it was
abbrev pub invariant-loop-piece : goal.invariant-loop-piece
invariant-loop-piece g l = record {
  consumed : Consumes (g.S.Source.left l.initial.source) (g.S.Source.left l.source) l.bytes.items;
  short : vec_len l.bytes ≤ longest_input + 1;
  kept : g.S.Source.faults l.source ≡ g.S.Source.faults l.initial.source;
}

abbrev pub decreases-loop-piece : goal.decreases-loop-piece
decreases-loop-piece g l = longest_input + 1 - vec_len l.bytes
