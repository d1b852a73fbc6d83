-- What a race comes to.
use Rattle.std.specs.Prelude.{◌≡◌, ◌⊎◌, ℕ, ◌<◌, ◌≤◌, Bool, true, List, [], length, All, IsNone, IfSome, is_some}
use Rattle.std.specs.List.{list_any}
use Rattle.hk_words.specs.Geometry.{tasks}
use Rattle.hk_words.specs.Row.{W1, word_of}
use Rattle.hk_model.specs.History.{History, is_refused}
use Rattle.hk_sheet.specs.declared.sheet.Sheet.{Sheet}
use Rattle.hk_table.specs.declared.heap.Heap.{Heap}
use Rattle.hk_table.specs.declared.keeper.Keeper.{Keeper}
use Rattle.hk_table.specs.declared.pass.Pass.{Pass}
use Rattle.hk_table.specs.Ends.{ClosedBy, HasAllSeats, log_of, run_of}
use Rattle.hk_table.specs.Passes.{IsPassOf, IsKeeperOf, kept}
use Rattle.hk_race.specs.declared.competing.Raced.{Raced}
use Rattle.hk_race.specs.Course.{Course}
use Rattle.hk_race.specs.Lives.{live_of}
use Rattle.hk_race.specs.Tasks.{tasks_of, task_at}
use Rattle.hk_race.specs.Text.{task_course, race_text}

-- a New of the history found no room
abbrev pub has_full : History → Bool
has_full history = list_any is_refused history

-- a task has taken every entry of its seat, and did so many jobs, or stopped at a New that found no room
abbrev pub CameToEnd : (jobs : ℕ) → Course → Type 0
CameToEnd jobs c = (c.rest ≡ []) × ((c.jobs ≡ jobs) ⊎ (is_some c.full ≡ true))

-- The scripts of a sheet were done on a heap, which was then closed.
pub record IsRace (h : Heap) (sheet : Sheet) (r : Raced) : Type 0 where
  -- it was closed with a pass of each seat and with its keeper
  pub passes : List Pass
  pub seats : HasAllSeats (tasks h.geometry) passes
  pub of_heap : All (IsPassOf h) passes
  pub keeper : Keeper
  pub keeps : IsKeeperOf h keeper
  pub closed : ClosedBy h.geometry passes (kept keeper) r.closed
  -- what is told is what the closing history says, and whether the collector's last event found too many words live
  pub text : r.text.items ≡ race_text sheet h.geometry (run_of r.closed).history r.live
  pub live : r.live ≡ live_of h.geometry (log_of r.closed)
  -- by that history each task did all its jobs, or stopped at a New without room; some task did exactly where there is such a New
  pub ended : (seat : ℕ) → seat < length (tasks_of sheet) → CameToEnd (task_at sheet seat).jobs (task_course sheet h.geometry (run_of r.closed).history seat)
  pub full : r.full ≡ has_full (run_of r.closed).history
  -- words that are too many are above what was declared, and still reserved at the close
  pub above : IfSome r.live (λ words. h.geometry.live < words)
  pub reserved : IfSome r.live (λ words. words ≤ word_of h.geometry (run_of r.closed).core.row W1)
  -- a whole cycle was done, unless there were too many
  pub cycle : IsNone r.live → 3 ≤ (run_of r.closed).core.spot.cycle
