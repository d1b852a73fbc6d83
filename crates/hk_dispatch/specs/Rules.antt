-- The five rules, with what each says: it applies, and none of those before it does.
use Rattle.std.specs.Prelude.{◌≡◌, ◌↔◌, ℕ, ◌<◌, Bool, true, false, List, length, Some, None}
use Rattle.hk_plan.specs.declared.Ready.{Ready}
use Rattle.hk_plan.specs.AloneBy.{chosen_task}
use Rattle.hk_sheet.specs.declared.sheet.Sheet.{Sheet}
use Rattle.hk_sheet.specs.Arrivals.{ready_of}
use Rattle.hk_sheet.specs.Valid.{IsSheet}
use Rattle.hk_dispatch.specs.Rows.{TasksRise, IsChoice}
use Rattle.hk_dispatch.specs.Tasks.{IsLowSeat, task_at, high_at}
use Rattle.hk_dispatch.specs.Moment.{Moment, course_at}
use Rattle.hk_dispatch.specs.Turns.{Turn, to_task, to_collector, to_nobody, is_ready, ready_rows, in_mid_course, first_low, turn}

-- the first low seat, in the order of the sheet, of which a test holds
pub record FirstLowIs (sheet : Sheet) (test : ℕ → Bool) (seat : ℕ) : Type 0 where
  pub is : first_low sheet test ≡ Some seat
  pub low : IsLowSeat sheet seat
  pub passes : test seat ≡ true
  pub before : (other : ℕ) → IsLowSeat sheet other → other < seat → test other ≡ false

-- it holds of no low seat
pub record NoLow (sheet : Sheet) (test : ℕ → Bool) : Type 0 where
  pub is : first_low sheet test ≡ None
  pub fails : (other : ℕ) → IsLowSeat sheet other → test other ≡ false

-- the task of a seat has a ready job
abbrev pub ready_now : Sheet → Moment → (tick seat : ℕ) → Bool
ready_now sheet m tick seat = is_ready (task_at sheet seat) (course_at m seat) tick

-- no high task has one
abbrev pub NoHighReady : Sheet → Moment → (tick : ℕ) → Type 0
NoHighReady sheet m tick = (seat : ℕ) → seat < length sheet.high → ready_now sheet m tick seat ≡ false

-- the tick goes to a high task with a ready job: the one of the row that the choice names
pub record ToHigh (choice : List Ready → ℕ) (sheet : Sheet) (m : Moment) (tick seat : ℕ) : Type 0 where
  pub high : seat < length sheet.high
  pub ready : ready_now sheet m tick seat ≡ true
  pub chosen : chosen_task choice (ready_rows sheet m tick) ≡ Some seat

-- to the low operation in mid-course
pub record ToOperation (sheet : Sheet) (m : Moment) (tick seat : ℕ) : Type 0 where
  pub no_high : NoHighReady sheet m tick
  pub first : FirstLowIs sheet (in_mid_course sheet m) seat

-- to the collector
pub record ToCollector (sheet : Sheet) (m : Moment) (tick : ℕ) : Type 0 where
  pub no_high : NoHighReady sheet m tick
  pub no_operation : NoLow sheet (in_mid_course sheet m)
  pub owed : 0 < m.debt

-- to a low task
pub record ToLow (sheet : Sheet) (m : Moment) (tick seat : ℕ) : Type 0 where
  pub no_high : NoHighReady sheet m tick
  pub no_operation : NoLow sheet (in_mid_course sheet m)
  pub nothing_owed : m.debt ≡ 0
  pub first : FirstLowIs sheet (ready_now sheet m tick) seat

-- to nobody
pub record ToNobody (sheet : Sheet) (m : Moment) (tick : ℕ) : Type 0 where
  pub no_high : NoHighReady sheet m tick
  pub no_operation : NoLow sheet (in_mid_course sheet m)
  pub nothing_owed : m.debt ≡ 0
  pub no_low : NoLow sheet (ready_now sheet m tick)

-- who gets a tick: by each rule, which applies where none before it does
pub data TurnIs (choice : List Ready → ℕ) (sheet : Sheet) (m : Moment) (tick : ℕ) : Turn → Type 0 where
  by_high : (seat : ℕ) → ToHigh choice sheet m tick seat → TurnIs choice sheet m tick (to_task seat)
  by_operation : (seat : ℕ) → ToOperation sheet m tick seat → TurnIs choice sheet m tick (to_task seat)
  by_collector : ToCollector sheet m tick → TurnIs choice sheet m tick to_collector
  by_low : (seat : ℕ) → ToLow sheet m tick seat → TurnIs choice sheet m tick (to_task seat)
  by_nobody : ToNobody sheet m tick → TurnIs choice sheet m tick to_nobody

-- THE LAWS

-- each tick goes by one of the rules, and which one is decided by the sheet, the moment and the choice
abbrev pub RulesApply : Type 0
RulesApply = (choice : List Ready → ℕ) (sheet : Sheet) (m : Moment) (tick : ℕ) → IsChoice choice → TurnIs choice sheet m tick (turn choice sheet m tick)

-- a tick goes to a high task exactly where one has a ready job
abbrev pub HighFirst : Type 0
HighFirst = (choice : List Ready → ℕ) (sheet : Sheet) (m : Moment) (tick : ℕ) → IsChoice choice
    → ((seat : ℕ) × (seat < length sheet.high) × (ready_now sheet m tick seat ≡ true))
    ↔ ((seat : ℕ) × (turn choice sheet m tick ≡ to_task seat) × ToHigh choice sheet m tick seat)

-- the choice is told one row of each high task with a ready job, in the order of the sheet
abbrev pub RowsRise : Type 0
RowsRise = (sheet : Sheet) (m : Moment) (tick : ℕ) → TasksRise (ready_rows sheet m tick)

-- the jobs of a high task become ready in their order
abbrev pub ReadyMomentsRise : Type 0
ReadyMomentsRise = (sheet : Sheet) (seat first second later : ℕ) → IsSheet sheet → seat < length sheet.high → first < second
    → ready_of (high_at sheet seat) second ≡ Some later
    → (earlier : ℕ) × (ready_of (high_at sheet seat) first ≡ Some earlier) × (earlier < later)
