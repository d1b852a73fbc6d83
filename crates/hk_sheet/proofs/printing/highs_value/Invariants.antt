use Rattle.std.proofs.Common.{◌≡◌, map, take}
use Rattle.toml.specs.View.{view}
use Rattle.hk_sheet.specs.Printing.{high_data}
use Rattle.hk_sheet.proofs.printing.highs_value.Given as goal

abbrev pub invariant-loop-task : goal.invariant-loop-task
invariant-loop-task l = map view l.values.items ≡ map high_data (take l.task-index l.tasks)
