-- What the types of the analysis keep of every value.
use Rattle.std.specs.Prelude.{◌≡◌, ℕ, ◌≤◌}
use Rattle.hk_sheet.specs.declared.sheet.Sheet.{Sheet}
use Rattle.hk_sheet.specs.Valid.{IsSheet}
use Rattle.hk_admit.specs.Analysis.{cycle_work, attempt_events, IsBusy, most_owed, events_outside, events_in_reserve}
use Rattle.hk_admit.specs.Conditions.{KeepsToDeclared}

-- The sheet can be read, its high tasks keep to what they declare, the numbers are those of the sheet, and the heap has
-- room: the collector ends a cycle before the words outside the reserve are taken, and the reserve lasts for what is
-- owed in a busy period.
pub record IsChecked (sheet : Sheet) (work attempt busy debt : ℕ) : Type 0 where
  pub readable : IsSheet sheet
  pub declared : KeepsToDeclared sheet.high
  pub work_is : work ≡ cycle_work sheet
  pub attempt_is : attempt ≡ attempt_events sheet
  pub busy_is : IsBusy sheet busy
  pub debt_is : debt ≡ most_owed sheet busy
  pub rate : work ≤ events_outside sheet
  pub reserve : debt ≤ events_in_reserve sheet
