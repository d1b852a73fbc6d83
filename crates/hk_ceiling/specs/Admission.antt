-- When a sheet with sections is admitted.
use Rattle.std.specs.Prelude.{◌≡◌, ◌≢◌, ℕ, ◌<◌, ◌≤◌, List, [], length, map, slice_index, slice_index_or}
use Rattle.hk_rta.specs.declared.Timing.{Timing}
use Rattle.hk_rta.specs.Demand.{deadline_at, jitter_at}
use Rattle.hk_sheet.specs.declared.sheet.High.{High}
use Rattle.hk_sheet.specs.declared.sheet.Sheet.{Sheet}
use Rattle.hk_admit.specs.Analysis.{timings_of}
use Rattle.hk_admit.specs.Refusals.{IsHeapRefusal}
use Rattle.hk_admit.specs.Facts.{IsChecked}
use Rattle.hk_admit.specs.declared.refused.Refused.TheVariants as heap
use Rattle.hk_ceiling.specs.declared.ceilings.TaskSection.{TaskSection}
use Rattle.hk_ceiling.specs.Bounds.{AreStill, Response, IsLate}
use Rattle.hk_ceiling.specs.Order.{IsFirstWrong, NoneWrong}
use Rattle.hk_ceiling.specs.declared.told.Section.{Section}
use Rattle.hk_ceiling.specs.declared.refused.CeilRefused.{CeilRefused}
use Rattle.hk_ceiling.specs.declared.refused.CeilRefused.TheVariants as refusal
use Rattle.hk_ceiling.specs.Told.{all_numbered}

-- no section of a sheet is wrong
abbrev pub NoSectionWrong : List High → List Section → Type 0
NoSectionWrong tasks sections = NoneWrong (timings_of tasks) (all_numbered tasks sections) (length (all_numbered tasks sections))

-- the response times of tasks, in their order; each is at most the task's deadline
pub record AreResponses (tasks : List Timing) (sections : List TaskSection) (responses : List ℕ) : Type 0 where
  pub whole : length responses ≡ length tasks
  pub each : (i : ℕ) → i < length tasks → Response tasks sections i (slice_index responses i)
  pub in_time : (i : ℕ) → i < length tasks → slice_index responses i ≤ deadline_at tasks i

-- what is kept of an admitted sheet, its sections and its response times, beside what the check of the heap keeps
pub record IsHeld (sheet : Sheet) (sections : List Section) (responses : List ℕ) : Type 0 where
  pub few : length sections ≤ 64
  pub none_wrong : NoSectionWrong sheet.high sections
  pub still : AreStill (timings_of sheet.high)
  pub in_time : AreResponses (timings_of sheet.high) (all_numbered sheet.high sections) responses

-- THE REFUSALS

-- the name is that of the task at a place
abbrev pub IsNameAt : List High → (place : ℕ) → (name : List ℕ) → Type 0
IsNameAt tasks place name = name ≡ slice_index_or (map (λ (task : High). task.name) tasks) place []

-- the first task with release jitter
pub record IsFirstMoved (tasks : List Timing) (i : ℕ) : Type 0 where
  pub within : i < length tasks
  pub moves : 0 < jitter_at tasks i
  pub earlier : (j : ℕ) → j < i → jitter_at tasks j ≡ 0

pub record IsFirstMovedName (tasks : List High) (name : List ℕ) : Type 0 where
  pub place : ℕ
  pub first : IsFirstMoved (timings_of tasks) place
  pub named : IsNameAt tasks place name

-- the first task that has no response time within its deadline
pub record IsFirstLate (tasks : List Timing) (sections : List TaskSection) (i : ℕ) : Type 0 where
  pub within : i < length tasks
  pub late : IsLate tasks sections i
  pub earlier : (j : ℕ) → j < i → ¬ (IsLate tasks sections j)

pub record IsFirstLateName (tasks : List High) (sections : List TaskSection) (name : List ℕ) : Type 0 where
  pub place : ℕ
  pub first : IsFirstLate (timings_of tasks) sections place
  pub named : IsNameAt tasks place name

-- the check of the heap has nothing against the sheet
pub record HeapFits (sheet : Sheet) : Type 0 where
  pub work : ℕ
  pub attempt : ℕ
  pub busy : ℕ
  pub debt : ℕ
  pub sound : IsChecked sheet work attempt busy debt

-- the parts of the jitter, and of the response times
abbrev pub IsMovedRefusal : List High → CeilRefused → Type 0
IsMovedRefusal tasks (refusal.Jitter name) = IsFirstMovedName tasks name
IsMovedRefusal tasks refusal.Memory = Unit {0}
IsMovedRefusal tasks refused = ⊥

abbrev pub IsLateRefusal : List High → List TaskSection → CeilRefused → Type 0
IsLateRefusal tasks sections (refusal.Response name) = IsFirstLateName tasks sections name
IsLateRefusal tasks sections refusal.Memory = Unit {0}
IsLateRefusal tasks sections refused = ⊥

-- what is found of the times of a sheet, and why it is refused for them
pub record AreTimes (sheet : Sheet) (sections : List Section) (responses : List ℕ) : Type 0 where
  pub still : AreStill (timings_of sheet.high)
  pub in_time : AreResponses (timings_of sheet.high) (all_numbered sheet.high sections) responses

abbrev pub IsTimesRefusal : Sheet → List Section → CeilRefused → Type 0
IsTimesRefusal sheet sections (refusal.Jitter name) = IsFirstMovedName sheet.high name
IsTimesRefusal sheet sections (refusal.Response name) = AreStill (timings_of sheet.high) × IsFirstLateName sheet.high (all_numbered sheet.high sections) name
IsTimesRefusal sheet sections refusal.Memory = Unit {0}
IsTimesRefusal sheet sections refused = ⊥

-- why a sheet with sections isn't admitted: the first reason, in this order; want of memory may come at any sheet
abbrev pub IsCeilRefusal : Sheet → List Section → CeilRefused → Type 0
IsCeilRefusal sheet sections (refusal.Section q) = IsFirstWrong (timings_of sheet.high) (all_numbered sheet.high sections) q
IsCeilRefusal sheet sections (refusal.Heap refused) = NoSectionWrong sheet.high sections × IsHeapRefusal sheet refused × (refused ≢ heap.Memory)
IsCeilRefusal sheet sections refusal.Memory = Unit {0}
IsCeilRefusal sheet sections refused = NoSectionWrong sheet.high sections × HeapFits sheet × IsTimesRefusal sheet sections refused
