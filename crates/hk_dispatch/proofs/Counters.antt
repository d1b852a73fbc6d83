-- What is left to do at a moment of a session, in counters: those of which the busy interval is made.
use Rattle.std.specs.Prelude.{ℕ, zero, suc, ◌+◌, ◌-◌, ◌*◌, Bool, ◌&&◌, Option, Some, None, if◌then◌else◌}
use Rattle.hk_script.specs.Runs.{need_ticks, need_words, taken_by}
use Rattle.hk_collect.specs.Runs.{in_attempt}
use Rattle.hk_sheet.specs.declared.sheet.High.{High}
use Rattle.hk_sheet.specs.declared.sheet.Sheet.{Sheet}
use Rattle.hk_sheet.specs.Arrivals.{ready_of}
use Rattle.hk_dispatch.specs.Tasks.{high_at, is_by}
use Rattle.hk_dispatch.specs.Moment.{Moment, core_of, course_at, need_at}
use Rattle.hk_dispatch.specs.Turns.{in_mid_course, first_low}
use Rattle.hk_dispatch.specs.Kept.{taken_already}

-- HIGH JOBS

-- one where the next job of a task, of which so many have become ready before a tick, becomes ready at it
unfoldable pub come : High → (before tick : ℕ) → ℕ
come task before tick = if is_by (ready_of task before) tick then 1 else 0

-- how many jobs of a task become ready before a moment. Their ready moments rise, so at most one does at each tick
unfoldable pub ready_before : High → (moment : ℕ) → ℕ
ready_before task zero = 0
ready_before task (suc tick) = ready_before task tick + come task (ready_before task tick) tick

-- and at a tick
abbrev pub fresh : Sheet → (tick seat : ℕ) → ℕ
fresh sheet tick seat = come (high_at sheet seat) (ready_before (high_at sheet seat) tick) tick

-- those of them that aren't ended
abbrev pub backlog : Sheet → Moment → (moment seat : ℕ) → ℕ
backlog sheet m moment seat = ready_before (high_at sheet seat) moment - (course_at m seat).job

-- the ticks that these may still take, and the events that they may still make the collector owe
abbrev pub high_ticks : Sheet → Moment → (moment seat : ℕ) → ℕ
high_ticks sheet m moment seat = backlog sheet m moment seat * (high_at sheet seat).timing.cost - (course_at m seat).had

abbrev pub high_events : Sheet → Moment → (moment seat : ℕ) → ℕ
high_events sheet m moment seat = sheet.heap.rate * (backlog sheet m moment seat * (high_at sheet seat).words - (course_at m seat).took)

-- THE LOW OPERATION IN MID-COURSE: its ticks that are left, and the events for the words that it hasn't taken yet
abbrev pub ticks_of_low : Sheet → Moment → Option ℕ → ℕ
ticks_of_low sheet m None = 0
ticks_of_low sheet m (Some seat) = taken_by need_ticks (need_at sheet m seat) - (course_at m seat).spent

abbrev pub words_of_low : Sheet → Moment → Option ℕ → ℕ
words_of_low sheet m None = 0
words_of_low sheet m (Some seat) = taken_by need_words (need_at sheet m seat) - taken_already (need_at sheet m seat) (course_at m seat).spent

abbrev pub low_ticks : Sheet → Moment → ℕ
low_ticks sheet m = ticks_of_low sheet m (first_low sheet (in_mid_course sheet m))

abbrev pub low_events : Sheet → Moment → ℕ
low_events sheet m = sheet.heap.rate * words_of_low sheet m (first_low sheet (in_mid_course sheet m))

-- THE OPEN ATTEMPT, where a task had a tick since it began: its events may be owed again
abbrev pub liable : (attempt : ℕ) → Moment → (met_now : Bool) → ℕ
liable attempt m met_now = if in_attempt (core_of m).spot.line && met_now then attempt else 0
