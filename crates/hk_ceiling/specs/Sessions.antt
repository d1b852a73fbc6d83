-- What sessions promise where the high jobs are chosen by ceilings: of every sheet whose heap was checked, and all sections of
-- which none is wrong.
use Rattle.std.specs.Prelude.{◌≡◌, ◌⊎◌, ℕ, ◌+◌, ◌<◌, ◌≤◌, true, List, length, slice_index_or, Some}
use Rattle.hk_words.specs.declared.geometry.Geometry.{Geometry}
use Rattle.hk_words.specs.Geometry.{HasSizes}
use Rattle.hk_plan.specs.AloneBy.{AloneEnds}
use Rattle.hk_sheet.specs.declared.sheet.Sheet.{Sheet}
use Rattle.hk_sheet.specs.Arrivals.{arrival_of}
use Rattle.hk_sheet.specs.Faults.{sizes_of}
use Rattle.hk_admit.specs.Analysis.{timings_of}
use Rattle.hk_admit.specs.Facts.{IsChecked}
use Rattle.hk_dispatch.specs.Rows.{IsChoice}
use Rattle.hk_dispatch.specs.Tasks.{task_at, high_at}
use Rattle.hk_dispatch.specs.Moment.{Course, course_at}
use Rattle.hk_dispatch.specs.Turns.{to_task, is_ready}
use Rattle.hk_dispatch.specs.Session.{state, who_gets, IsMoment, IsTick, JobEndsAt}
use Rattle.hk_dispatch.specs.HighJobs.{jobs_by}
use Rattle.hk_ceiling.specs.declared.ceilings.TaskSection.{TaskSection}
use Rattle.hk_ceiling.specs.Admission.{AreResponses}
use Rattle.hk_ceiling.specs.Bounds.{AreStill}
use Rattle.hk_ceiling.specs.Ceilings.{section_at, ceiling, Inside}
use Rattle.hk_ceiling.specs.Choice.{by_ceilings}
use Rattle.hk_ceiling.specs.Order.{NoneWrong}

-- a sheet whose heap was checked, with its numbers and its geometry, and sections of which none is wrong
pub record IsCeilingSession (g : Geometry) (sections : List TaskSection) (sheet : Sheet) (work attempt busy debt : ℕ) : Type 0 where
  pub sizes : HasSizes g (sizes_of sheet)
  pub checked : IsChecked sheet work attempt busy debt
  pub none_wrong : NoneWrong (timings_of sheet.high) sections (length sections)

-- the choice by ceilings is one of the rows that it is told
abbrev pub CeilingsChoose : Type 0
CeilingsChoose = (sections : List TaskSection) → IsChoice (by_ceilings sections)

-- where the task of a seat stands as a tick begins
abbrev pub course : Geometry → List TaskSection → Sheet → (t seat : ℕ) → Course
course g sections sheet t seat = course_at (state g (by_ceilings sections) sheet t) seat

-- EXCLUSION

-- at tick t the job under way of a high task holds the resource of the section at q: it is between the section's first tick
-- and its last, or gets the first
pub record HoldsAt (g : Geometry) (sections : List TaskSection) (sheet : Sheet) (t seat job q : ℕ) : Type 0 where
  pub high : seat < length sheet.high
  pub under_way : (course g sections sheet t seat).job ≡ job
  pub listed : q < length sections
  pub its : (section_at sections q).task ≡ seat
  pub held : ((section_at sections q).start < (course g sections sheet t seat).had)
      ⊎ (((section_at sections q).start ≡ (course g sections sheet t seat).had) × (who_gets g (by_ceilings sections) sheet t ≡ to_task seat))
  pub more : (course g sections sheet t seat).had < (section_at sections q).start + (section_at sections q).len

-- at no tick do two jobs hold one resource
abbrev pub OneHolderAtATime : Type 0
OneHolderAtATime =
    (g : Geometry) (sections : List TaskSection) (sheet : Sheet) (work attempt busy debt : ℕ)
    → IsCeilingSession g sections sheet work attempt busy debt
    → (t : ℕ) → IsTick g (by_ceilings sections) sheet t
    → (seat job p other other_job q : ℕ) → HoldsAt g sections sheet t seat job p → HoldsAt g sections sheet t other other_job q
    → (section_at sections p).res ≡ (section_at sections q).res
    → (seat ≡ other) × (job ≡ other_job)

-- HOLDING UP

-- at tick t a job of a high task is ready, and the tick goes to a job of a later task
pub record HeldUpAt (g : Geometry) (sections : List TaskSection) (sheet : Sheet) (t seat job other other_job : ℕ) : Type 0 where
  pub high : seat < length sheet.high
  pub under_way : (course g sections sheet t seat).job ≡ job
  pub ready : is_ready (task_at sheet seat) (course g sections sheet t seat) t ≡ true
  pub gets : who_gets g (by_ceilings sections) sheet t ≡ to_task other
  pub its : (course g sections sheet t other).job ≡ other_job
  pub later : seat < other

-- as tick t begins that job is of a high task and inside the section at q, whose resource's ceiling is at most the ready task
pub record InSectionAt (g : Geometry) (sections : List TaskSection) (sheet : Sheet) (t seat other q : ℕ) : Type 0 where
  pub high : other < length sheet.high
  pub inside : Inside sections other (course g sections sheet t other).had q
  pub ceiling_high : ceiling sections q ≤ seat

-- a job is held up by one section of one job of a later task, wherever in the run that is
abbrev pub HeldUpByOneSection : Type 0
HeldUpByOneSection =
    (g : Geometry) (sections : List TaskSection) (sheet : Sheet) (work attempt busy debt : ℕ)
    → IsCeilingSession g sections sheet work attempt busy debt
    → (t u : ℕ) → IsTick g (by_ceilings sections) sheet t → IsTick g (by_ceilings sections) sheet u
    → (seat job a b c d : ℕ) → HeldUpAt g sections sheet t seat job a b → HeldUpAt g sections sheet u seat job c d
    → (a ≡ c) × (b ≡ d) × ((q : ℕ) × (InSectionAt g sections sheet t seat a q × InSectionAt g sections sheet u seat c q))

-- RESPONSE TIMES

-- a job ends within a response time, which is at most its deadline, and when the schedule of the high jobs alone ends it
pub record EndsWithin (g : Geometry) (sections : List TaskSection) (sheet : Sheet) (seat job arrival response : ℕ) : Type 0 where
  pub moment : ℕ
  pub ends : JobEndsAt g (by_ceilings sections) sheet seat job moment
  pub alone : AloneEnds (by_ceilings sections) (jobs_by g (by_ceilings sections) sheet (arrival + response)) seat job moment
  pub in_time : moment ≤ arrival + response
  pub by_deadline : response ≤ (high_at sheet seat).timing.deadline

-- each job of a sheet without jitter and with these response times, whose arrival and response time lie within the run and are
-- reached before the collector finds too many words reserved, ends within its response time
abbrev pub JobsEndWithin : Type 0
JobsEndWithin =
    (g : Geometry) (sections : List TaskSection) (sheet : Sheet) (work attempt busy debt : ℕ) (responses : List ℕ)
    → IsCeilingSession g sections sheet work attempt busy debt
    → AreStill (timings_of sheet.high) → AreResponses (timings_of sheet.high) sections responses
    → (seat job arrival : ℕ) → seat < length sheet.high → arrival_of (high_at sheet seat).arrivals job ≡ Some arrival
    → IsMoment g (by_ceilings sections) sheet (arrival + slice_index_or responses seat 0)
    → EndsWithin g sections sheet seat job arrival (slice_index_or responses seat 0)
