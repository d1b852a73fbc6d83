use Rattle.std.proofs.Common.{◌≡◌, take, length}
use Rattle.std.specs.List.{range_with_len}
use Rattle.hk_assign.proofs.assignment.indices.Given as goal

abbrev pub invariant-loop-place : goal.invariant-loop-place
invariant-loop-place l = record {
  long : length l.tasks ≡ 31;
  so_far : take l.place l.tasks ≡ range_with_len 0 l.place;
}
