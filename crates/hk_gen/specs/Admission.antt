-- What makes a sheet one that is admitted.
use Rattle.std.specs.Prelude.{ℕ, ◌≤◌, List, All}
use Rattle.hk_sheet.specs.declared.sheet.Sheet.{Sheet}
use Rattle.hk_admit.specs.Analysis.{timings_of}
use Rattle.hk_admit.specs.Conditions.{AreResponses}
use Rattle.hk_admit.specs.Facts.{IsChecked}

-- There are the numbers of an analysis that admits the sheet, with these most events of a cycle and of an attempt. The
-- busy period, the debt and each response time are at most so many ticks and events.
pub record IsAdmitted (sheet : Sheet) (work attempt most_busy most_debt most_response : ℕ) : Type 0 where
  pub busy : ℕ
  pub debt : ℕ
  pub responses : List ℕ
  pub checked : IsChecked sheet work attempt busy debt
  pub in_time : AreResponses (timings_of sheet.high) responses
  pub short_busy : busy ≤ most_busy
  pub small_debt : debt ≤ most_debt
  pub short_responses : All (λ response. response ≤ most_response) responses
