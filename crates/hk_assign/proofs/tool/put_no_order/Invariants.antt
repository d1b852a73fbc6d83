-- The words so far.
use Rattle.std.proofs.Common.{◌≡◌, ◌+◌, take, length}
use Rattle.hk_io.specs.Bytes.{texts}
use Rattle.hk_assign.proofs.Named.{words_of}
use Rattle.hk_assign.proofs.tool.put_no_order.Given as goal

abbrev pub invariant-loop-place : goal.invariant-loop-place
invariant-loop-place g l = record {
  long : length l.words ≡ 33;
  counted : l.count ≡ l.place + 2;
  so_far : texts (take l.count l.words) ≡ words_of l.tasks (take l.place l.set);
}
