use Rattle.std.proofs.Common.{◌≡◌, map}
use Rattle.std.specs.List.{range_with_len}
use Rattle.hk_core.specs.State.{opening_register}
use Rattle.hk_table.proofs.open.first_registers.Given as goal

abbrev pub invariant-loop-reg : goal.invariant-loop-reg
invariant-loop-reg l = l.registers.items ≡ map (opening_register l.g) (range_with_len 0 l.reg)
