use Rattle.std.proofs.Common.{◌≡◌, map, take}
use Rattle.toml.specs.View.{view}
use Rattle.hk_sheet.specs.Printing.{low_data}
use Rattle.hk_sheet.proofs.printing.lows_value.Given as goal

abbrev pub invariant-loop-task : goal.invariant-loop-task
invariant-loop-task l = map view l.values.items ≡ map low_data (take l.task-index l.tasks)
