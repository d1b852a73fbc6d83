use Rattle.std.proofs.Common.{◌≡◌, ℕ, ◌<◌, length}
use Rattle.hk_model.specs.Heap.{register_count}
use Rattle.shared_mix.proofs.history.replay.replay.Given as goal

abbrev pub invariant-loop-place : goal.invariant-loop-place
invariant-loop-place l = record {
  tasks_are : length l.plain.registers ≡ 8;
  registers_are : (seat : ℕ) → seat < 8 → register_count l.plain seat ≡ 8;
}
