-- Why a sheet is refused: the first reason, in the stated order, which is Cost, Words, Response, Busy, Rate, Reserve.
use Rattle.std.specs.Prelude.{◌≡◌, ℕ, ◌^◌, ◌<◌, ◌≤◌, false, List, [], map, slice_index_or, Option, Some, option_map}
use Rattle.std.specs.List.{find, list_any}
use Rattle.hk_rta.specs.Busy.{IsOverfull}
use Rattle.hk_sheet.specs.declared.sheet.High.{High}
use Rattle.hk_sheet.specs.declared.sheet.Sheet.{Sheet}
use Rattle.hk_admit.specs.declared.refused.Refused.{Refused}
use Rattle.hk_admit.specs.declared.refused.Refused.TheVariants.{Cost, Words, Response, Busy, Rate, Reserve, Memory}
use Rattle.hk_admit.specs.Analysis.{timings_of, cycle_work, loads, base, IsBusy, most_owed, events_outside, events_in_reserve}
use Rattle.hk_admit.specs.Conditions.{ticks_needed, words_needed, is_too_long, is_too_large, KeepsToDeclared, AreInTime, IsFirstLate}

-- the refusal of the first high task, in sheet order, that takes more ticks than it declares
abbrev pub too_long : High → Refused
too_long task = Cost task.name (ticks_needed task) task.timing.cost

abbrev pub first_too_long : List High → Option Refused
first_too_long tasks = option_map too_long (find is_too_long tasks)

-- and of the first that takes more words
abbrev pub too_large : High → Refused
too_large task = Words task.name (words_needed task) task.words

abbrev pub first_too_large : List High → Option Refused
first_too_large tasks = option_map too_large (find is_too_large tasks)

-- the name is that of the first high task whose response is above its deadline, or that has none
pub record IsFirstLateName (tasks : List High) (name : List ℕ) : Type 0 where
  pub place : ℕ
  pub first : IsFirstLate (timings_of tasks) place
  pub named : name ≡ slice_index_or (map (λ (task : High). task.name) tasks) place []

-- there is a busy period, and the collector does too few events for a whole cycle while the words outside the reserve
-- are taken
pub record IsRateShort (sheet : Sheet) (have need : ℕ) : Type 0 where
  pub busy : ℕ
  pub is_busy : IsBusy sheet busy
  pub has : have ≡ events_outside sheet
  pub needs : need ≡ cycle_work sheet
  pub short : have < need

-- there is a busy period, the collector does enough for a cycle, and the words of the reserve stand for fewer events than
-- can be owed in the busy period
pub record IsReserveShort (sheet : Sheet) (have need : ℕ) : Type 0 where
  pub busy : ℕ
  pub is_busy : IsBusy sheet busy
  pub keeps_up : cycle_work sheet ≤ events_outside sheet
  pub has : have ≡ events_in_reserve sheet
  pub needs : need ≡ most_owed sheet busy
  pub short : have < need

-- why a sheet is refused, where the high tasks' responses aren't looked at; want of memory may come at any sheet
abbrev pub IsHeapRefusal : Sheet → Refused → Type 0
IsHeapRefusal sheet (Cost task need declared) = first_too_long sheet.high ≡ Some (Cost task need declared)
IsHeapRefusal sheet (Words task need declared) =
    (list_any is_too_long sheet.high ≡ false) × (first_too_large sheet.high ≡ Some (Words task need declared))
IsHeapRefusal sheet (Response task) = ⊥
IsHeapRefusal sheet Busy = KeepsToDeclared sheet.high × IsOverfull (loads sheet) (base sheet) (2 ^ 24)
IsHeapRefusal sheet (Rate have need) = KeepsToDeclared sheet.high × IsRateShort sheet have need
IsHeapRefusal sheet (Reserve have need) = KeepsToDeclared sheet.high × IsReserveShort sheet have need
IsHeapRefusal sheet Memory = Unit {0}

-- why a sheet is refused: the responses come after what the tasks declare, and before the heap
abbrev pub IsRefusal : Sheet → Refused → Type 0
IsRefusal sheet (Cost task need declared) = IsHeapRefusal sheet (Cost task need declared)
IsRefusal sheet (Words task need declared) = IsHeapRefusal sheet (Words task need declared)
IsRefusal sheet (Response task) = KeepsToDeclared sheet.high × IsFirstLateName sheet.high task
IsRefusal sheet Memory = Unit {0}
IsRefusal sheet refused = AreInTime (timings_of sheet.high) × IsHeapRefusal sheet refused
