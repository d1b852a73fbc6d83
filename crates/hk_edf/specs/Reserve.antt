-- What the run of an admitted sheet promises of what the collector owes and of the room that each New finds. So it is in a
-- session by any choice among the high jobs.
use Rattle.std.specs.Prelude.{◌≡◌, ◌≢◌, ◌⊎◌, ℕ, ◌+◌, ◌*◌, ◌≤◌, true, false, Some}
use Rattle.hk_words.specs.declared.geometry.Geometry.{Geometry}
use Rattle.hk_words.specs.Geometry.{HasSizes}
use Rattle.hk_words.specs.declared.call.Call.{Call}
use Rattle.hk_words.specs.declared.shape.Shape.{Shape}
use Rattle.hk_words.specs.Shape.{size}
use Rattle.hk_core.specs.declared.outcome.Fault.TheVariants.{Spent}
use Rattle.hk_core.specs.declared.spot.Work.TheVariants.{Worn}
use Rattle.hk_core.specs.Begin.{refusal}
use Rattle.hk_core.specs.Collect.{work_by_collector}
use Rattle.hk_collect.specs.Measure.{WaitsForNobody}
use Rattle.hk_sheet.specs.declared.sheet.Sheet.{Sheet}
use Rattle.hk_sheet.specs.Faults.{sizes_of}
use Rattle.hk_admit.specs.Facts.{IsChecked}
use Rattle.hk_dispatch.specs.Tasks.{is_high}
use Rattle.hk_dispatch.specs.Moment.{core_of, used_at}
use Rattle.hk_dispatch.specs.Turns.{to_task, to_collector, turn}
use Rattle.hk_dispatch.specs.Session.{state, IsMoment, IsTick}
use Rattle.hk_dispatch.specs.Quiet.{IsQuiet, QuietWithin}
use Rattle.hk_dispatch.specs.Laws.{NewAt}
use Rattle.hk_edf.specs.Earliest.{earliest_row}
use Rattle.hk_edf.specs.Refusals.{MeetsDemand}

-- Of the session of an admitted sheet with the numbers of its analysis, on the heap of its geometry, at every moment and every
-- tick up to the horizon and before live memory passes its declared limit.
pub record Reserve (g : Geometry) (sheet : Sheet) (work busy debt : ℕ) : Type 0 where
  -- the rate for each word used since the last flip is at most the useful events of the cycle and what is owed
  pub used_is_paid : (t : ℕ) → IsMoment g earliest_row sheet t → let m = state g earliest_row sheet t in sheet.heap.rate * used_at m ≤ m.useful + m.debt
  -- the useful events of a cycle are at most the number of the analysis
  pub useful_events_stay_within : (t : ℕ) → IsMoment g earliest_row sheet t → (state g earliest_row sheet t).useful ≤ work
  -- so is what is owed
  pub debt_stays_within : (t : ℕ) → IsMoment g earliest_row sheet t → (state g earliest_row sheet t).debt ≤ debt
  -- from each quiet moment another follows within the busy period, as far as the run goes
  pub quiet_again : (t : ℕ) → IsMoment g earliest_row sheet t → IsQuiet sheet (state g earliest_row sheet t) t → IsMoment g earliest_row sheet (t + busy)
      → QuietWithin g earliest_row sheet t busy
  -- each New of a high job finds room for its object, at its first place, which looks, and at its third, which takes the words
  pub high_news_find_room : (t : ℕ) → IsTick g earliest_row sheet t → let m = state g earliest_row sheet t in
      (seat spent : ℕ) (shape : Shape) → is_high sheet seat ≡ true → (spent ≡ 0) ⊎ (spent ≡ 2) → NewAt earliest_row sheet m t seat spent shape
      → used_at m + size shape ≤ sheet.heap.alloc
  -- each New of a low job begins with nothing owed and finds room beside the reserve
  pub low_news_begin_quiet : (t : ℕ) → IsTick g earliest_row sheet t → let m = state g earliest_row sheet t in
      (seat : ℕ) (shape : Shape) → is_high sheet seat ≡ false → NewAt earliest_row sheet m t seat 0 shape
      → (m.debt ≡ 0) × (used_at m + size shape + sheet.heap.reserve ≤ sheet.heap.alloc)
  -- and room for its object where it takes the words
  pub low_news_find_room : (t : ℕ) → IsTick g earliest_row sheet t → let m = state g earliest_row sheet t in
      (seat : ℕ) (shape : Shape) → is_high sheet seat ≡ false → NewAt earliest_row sheet m t seat 2 shape
      → used_at m + size shape ≤ sheet.heap.alloc
  -- no task has begun all the calls that it can
  pub no_task_is_spent : (t : ℕ) → IsTick g earliest_row sheet t → let m = state g earliest_row sheet t in
      (seat : ℕ) (c : Call) → turn earliest_row sheet m t ≡ to_task seat → refusal (core_of m) seat c ≢ Some Spent
  -- the collector waits for no call, and has cycles enough
  pub collector_never_waits : (t : ℕ) → IsTick g earliest_row sheet t → let m = state g earliest_row sheet t in
      turn earliest_row sheet m t ≡ to_collector → WaitsForNobody (work_by_collector (core_of m)) × (work_by_collector (core_of m) ≢ Worn)

-- so it is for every admitted sheet
abbrev pub ReserveHolds : Type 0
ReserveHolds = (g : Geometry) (sheet : Sheet) (work attempt busy debt : ℕ)
    → HasSizes g (sizes_of sheet) → IsChecked sheet work attempt busy debt → MeetsDemand sheet busy → Reserve g sheet work busy debt
