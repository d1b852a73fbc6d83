use Rattle.std.proofs.Common.{◌≡◌, take, length}
use Rattle.hk_assign.specs.Orders.{in_order}
use Rattle.hk_assign.proofs.placing.row.Given as goal

abbrev pub invariant-loop-place : goal.invariant-loop-place
invariant-loop-place l = record {
  long : length l.row ≡ 31;
  so_far : take l.place l.row ≡ in_order l.timings (take l.place l.tasks);
}
