-- What a tick of a session does to the low operation in mid-course and to the open attempt: the facts of them on which the busy
-- interval stands.
use Rattle.std.specs.Prelude.{◌≡◌, ℕ, suc, ◌+◌, ◌*◌, ◌≤◌, ◌⊎◌, List, None}
use Rattle.hk_words.specs.declared.geometry.Geometry.{Geometry}
use Rattle.hk_words.specs.Bounds.{most_places}
use Rattle.hk_plan.specs.declared.Ready.{Ready}
use Rattle.hk_sheet.specs.declared.sheet.Sheet.{Sheet}
use Rattle.hk_admit.specs.Analysis.{largest_low}
use Rattle.hk_dispatch.specs.Moment.{Moment, core_of, course_at, need_at}
use Rattle.hk_dispatch.specs.Turns.{to_task, to_collector, in_mid_course, first_low, turn}
use Rattle.hk_dispatch.specs.Ticks.{words_by}
use Rattle.hk_dispatch.specs.Session.{state, IsMoment, IsSession}
use Rattle.hk_dispatch.specs.Quiet.{NoHighWaits}
use Rattle.hk_dispatch.specs.Kept.{met}
use Rattle.hk_dispatch.specs.Rules.{ToHigh, ToOperation, ToCollector, ToLow}
use Rattle.hk_dispatch.proofs.Counters.{low_ticks, low_events, liable}

-- the events of the open attempt that may be owed again at a moment of a session
abbrev pub liable_at : Geometry → (List Ready → ℕ) → Sheet → (attempt t : ℕ) → ℕ
liable_at g choice sheet attempt t = liable attempt (state g choice sheet t) (met g choice sheet t)

-- the words that a tick of the task of a seat takes
abbrev pub words_at : Sheet → Moment → (seat : ℕ) → ℕ
words_at sheet m seat = words_by (core_of m) seat (course_at m seat).spent (need_at sheet m seat)

-- A tick, from a moment to the next one, with the liable events at both. The low operation has no more left afterwards.
pub record LowSame (sheet : Sheet) (m n : Moment) : Type 0 where
  pub ticks : low_ticks sheet n ≤ low_ticks sheet m
  pub owed : low_events sheet n ≤ low_events sheet m

-- A tick of a high task. An attempt becomes liable only where no high job waited.
pub record HighLeaves (sheet : Sheet) (m n : Moment) (t before after : ℕ) : Type 0 where
  pub low_same : LowSame sheet m n
  pub charged : (after ≤ before) ⊎ NoHighWaits sheet m t

-- of the low operation in mid-course, which takes so many words
pub record LowFalls (sheet : Sheet) (m n : Moment) (words before after : ℕ) : Type 0 where
  pub ticks : low_ticks sheet n + 1 ≤ low_ticks sheet m
  pub own : low_events sheet n + sheet.heap.rate * words ≤ low_events sheet m
  pub charged : after ≤ before

-- of the collector: a useful event, or the last one of an attempt that is lost, which was liable
pub record EventPays (sheet : Sheet) (m n : Moment) (before after : ℕ) : Type 0 where
  pub low_same : LowSame sheet m n
  pub pays : n.debt + after + 1 ≤ m.debt + before

-- the first one of a statement of a low task
pub record LowStarts (sheet : Sheet) (n : Moment) (words : ℕ) : Type 0 where
  pub ticks : low_ticks sheet n + 1 ≤ most_places
  pub own : low_events sheet n + sheet.heap.rate * words ≤ sheet.heap.rate * largest_low sheet

-- all of it, of a tick of a session
pub record LowFacts (g : Geometry) (choice : List Ready → ℕ) (sheet : Sheet) (attempt t : ℕ) : Type 0 where
  pub high : (seat : ℕ) → turn choice sheet (state g choice sheet t) t ≡ to_task seat → ToHigh choice sheet (state g choice sheet t) t seat
      → HighLeaves sheet (state g choice sheet t) (state g choice sheet (suc t)) t (liable_at g choice sheet attempt t) (liable_at g choice sheet attempt (suc t))
  pub operation : (seat : ℕ) → turn choice sheet (state g choice sheet t) t ≡ to_task seat → ToOperation sheet (state g choice sheet t) t seat
      → LowFalls sheet (state g choice sheet t) (state g choice sheet (suc t)) (words_at sheet (state g choice sheet t) seat)
      (liable_at g choice sheet attempt t) (liable_at g choice sheet attempt (suc t))
  pub collector : turn choice sheet (state g choice sheet t) t ≡ to_collector → ToCollector sheet (state g choice sheet t) t
      → EventPays sheet (state g choice sheet t) (state g choice sheet (suc t)) (liable_at g choice sheet attempt t) (liable_at g choice sheet attempt (suc t))
  pub low : (seat : ℕ) → turn choice sheet (state g choice sheet t) t ≡ to_task seat → ToLow sheet (state g choice sheet t) t seat
      → LowStarts sheet (state g choice sheet (suc t)) (words_at sheet (state g choice sheet t) seat)

-- of all sessions: of each tick that ends at a moment of the run; and a low operation in mid-course has a tick left
abbrev pub LowTicksFall : Type 0
LowTicksFall = (g : Geometry) (choice : List Ready → ℕ) (sheet : Sheet) (work attempt busy debt : ℕ)
    → IsSession g choice sheet work attempt busy debt → (t : ℕ) → IsMoment g choice sheet (suc t) → LowFacts g choice sheet attempt t

abbrev pub LowWaits : Type 0
LowWaits = (g : Geometry) (choice : List Ready → ℕ) (sheet : Sheet) (work attempt busy debt : ℕ)
    → IsSession g choice sheet work attempt busy debt → (t : ℕ) → IsMoment g choice sheet t
    → (first_low sheet (in_mid_course sheet (state g choice sheet t)) ≡ None) ⊎ (1 ≤ low_ticks sheet (state g choice sheet t))
