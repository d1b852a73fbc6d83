use Rattle.std.proofs.Common.{◌≡◌, replicate}
use Rattle.hk_model.specs.Heap.{first_registers}
use Rattle.hk_model.proofs.plain.task_registers.Given as goal

abbrev pub invariant-loop : goal.invariant-loop
invariant-loop l = l.registers.items ≡ replicate l.counter (first_registers l.count)
