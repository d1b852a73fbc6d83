-- The ranges of the numbers of a sheet that can be read, as far as the sums of the analysis need them.
use Rattle.std.specs.Prelude.{ℕ, ◌+◌, ◌*◌, ◌^◌, ◌≤◌}
use Rattle.hk_rta.specs.Demand.{IsTimed}
use Rattle.hk_sheet.specs.declared.sheet.High.{High}

-- the most words of an object that a task makes, and the most of the board by its two counts of fields, of a byte each
abbrev pub MOST_MADE : ℕ
MOST_MADE = 255

abbrev pub MOST_WORDS : ℕ
MOST_WORDS = 511

-- so the most events of an attempt
abbrev pub MOST_ATTEMPT : ℕ
MOST_ATTEMPT = 2 + 5 * MOST_WORDS

-- and the most that a job, or the low operation in mid-course, makes the collector owe
abbrev pub MOST_EVENTS : ℕ
MOST_EVENTS = 2 ^ 36 + MOST_ATTEMPT

-- a task's times and its words are in range
pub record IsInRange (task : High) : Type 0 where
  pub timing : IsTimed task.timing
  pub words : task.words ≤ 2 ^ 24
