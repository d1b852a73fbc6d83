use Rattle.std.proofs.Common.{◌≡◌, take, length}
use Rattle.hk_admit.specs.Analysis.{timings_of}
use Rattle.hk_assign.proofs.tool.timings.Given as goal

abbrev pub invariant-loop-place : goal.invariant-loop-place
invariant-loop-place l = record {
  long : length l.row ≡ 31;
  so_far : take l.place l.row ≡ timings_of (take l.place l.tasks);
}
