use Rattle.std.proofs.Common.{◌≡◌, ℕ, ◌<◌, length}
use Rattle.hk_model.specs.Heap.{register_count}
use Rattle.hk_model.proofs.tests.play.Given as goal

abbrev pub invariant-loop-seat : goal.invariant-loop-seat
invariant-loop-seat g l = record {
  tasks_are : length l.plain.registers ≡ l.tasks;
  registers_are : (seat : ℕ) → seat < l.tasks → register_count l.plain seat ≡ l.registers;
}
