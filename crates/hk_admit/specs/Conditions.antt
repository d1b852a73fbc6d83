-- What is asked of the tasks of a sheet: that each high task's script keeps to what the task declares, and that each of
-- its jobs ends within its deadline.
use Rattle.std.specs.Prelude.{◌≡◌, ℕ, ◌<◌, ◌≤◌, Bool, true, false, nat_lt, List, length, slice_index, Option, None, Some}
use Rattle.std.specs.List.{list_any}
use Rattle.hk_rta.specs.declared.Timing.{Timing}
use Rattle.hk_rta.specs.Demand.{deadline_at}
use Rattle.hk_rta.specs.Response.{Response, IsLate}
use Rattle.hk_script.specs.Cost.{told, greatest_ticks, greatest_words}
use Rattle.hk_sheet.specs.declared.sheet.High.{High}

-- what is needed is above what is declared; none stands for a number that is too large to be told
abbrev pub exceeds : (need : Option ℕ) → (declared : ℕ) → Bool
exceeds None declared = true
exceeds (Some need) declared = nat_lt declared need

-- the most ticks that a job of a high task takes, by its script, and the most words
abbrev pub ticks_needed : High → Option ℕ
ticks_needed task = told (greatest_ticks task.script)

abbrev pub words_needed : High → Option ℕ
words_needed task = told (greatest_words task.script)

-- a high task takes more ticks, or more words, than it declares
abbrev pub is_too_long : High → Bool
is_too_long task = exceeds (ticks_needed task) task.timing.cost

abbrev pub is_too_large : High → Bool
is_too_large task = exceeds (words_needed task) task.words

-- no high task takes more than it declares
pub record KeepsToDeclared (tasks : List High) : Type 0 where
  pub ticks : list_any is_too_long tasks ≡ false
  pub words : list_any is_too_large tasks ≡ false

-- each task has a response time that is at most its deadline
abbrev pub AreInTime : List Timing → Type 0
AreInTime tasks = (i : ℕ) → i < length tasks → ¬ (IsLate tasks i)

-- the first task, in sheet order, that has none
pub record IsFirstLate (tasks : List Timing) (i : ℕ) : Type 0 where
  pub within : i < length tasks
  pub late : IsLate tasks i
  pub earlier : (j : ℕ) → j < i → ¬ (IsLate tasks j)

-- the response times of tasks, in their order; each is at most the task's deadline
pub record AreResponses (tasks : List Timing) (responses : List ℕ) : Type 0 where
  pub whole : length responses ≡ length tasks
  pub each : (i : ℕ) → i < length tasks → Response tasks i (slice_index responses i)
  pub in_time : (i : ℕ) → i < length tasks → slice_index responses i ≤ deadline_at tasks i
