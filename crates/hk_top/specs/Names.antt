-- Names of tasks fit a line.
use Rattle.std.specs.Prelude.{◌≤◌, List, length}
use Rattle.std.specs.List.{AllByRecursion}
use Rattle.hk_sheet.specs.declared.sheet.High.{High}
use Rattle.hk_sheet.specs.declared.sheet.Low.{Low}

abbrev pub AreNamed : List High → Type 0
AreNamed tasks = AllByRecursion (λ (task : High). length task.name ≤ 16) tasks

abbrev pub AreLowNamed : List Low → Type 0
AreLowNamed tasks = AllByRecursion (λ (task : Low). length task.name ≤ 16) tasks
