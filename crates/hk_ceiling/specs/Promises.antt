-- What the schedule of the high jobs alone by ceilings promises.
use Rattle.std.specs.Prelude.{◌≡◌, ℕ, ◌+◌, ◌<◌, ◌≤◌, ◌⊎◌, List, length}
use Rattle.hk_rta.specs.declared.Timing.{Timing}
use Rattle.hk_rta.specs.Demand.{timing_at, period_at, deadline_at}
use Rattle.hk_plan.specs.AloneBy.{Jobs, IsJob, alone_had, AloneGives, AloneEnds}
use Rattle.hk_plan.specs.JobBounds.{JobsKeepTiming}
use Rattle.hk_ceiling.specs.Bounds.{AreStill, Response}
use Rattle.hk_ceiling.specs.Choice.{by_ceilings}
use Rattle.hk_ceiling.specs.declared.ceilings.TaskSection.{TaskSection}
use Rattle.hk_ceiling.specs.Ceilings.{section_at, ceiling, AreApart, Inside}

-- the jobs of each task become ready in their order
pub record InOrder (jobs : Jobs) : Type 0 where
  pub order : (i j k : ℕ) → i < jobs.tasks → j < k → k < jobs.count i → jobs.ready i j ≤ jobs.ready i k

-- how many of the first t ticks a job has had
abbrev pub done : List TaskSection → Jobs → (t i j : ℕ) → ℕ
done sections jobs t = alone_had (by_ceilings sections) jobs t

-- tick t goes to a job
abbrev pub Gets : List TaskSection → Jobs → (t i j : ℕ) → Type 0
Gets sections jobs t i j = AloneGives (by_ceilings sections) jobs t i j

-- a job is ready at a moment and isn't ended
pub record IsReadyJob (sections : List TaskSection) (jobs : Jobs) (t i j : ℕ) : Type 0 where
  pub is_job : IsJob jobs i j
  pub arrived : jobs.ready i j ≤ t
  pub unended : done sections jobs t i j < jobs.ticks i j

-- EXCLUSION

-- at tick t a job holds the resource of the section at q: it is between the section's first tick and its last, or
-- gets the first; a job that has ended holds none
pub record JobHolds (sections : List TaskSection) (jobs : Jobs) (t i j q : ℕ) : Type 0 where
  pub ready : IsReadyJob sections jobs t i j
  pub listed : q < length sections
  pub its : (section_at sections q).task ≡ i
  pub held : ((section_at sections q).start < done sections jobs t i j) ⊎ (((section_at sections q).start ≡ done sections jobs t i j) × Gets sections jobs t i j)
  pub more : done sections jobs t i j < (section_at sections q).start + (section_at sections q).len

-- at no tick do two jobs hold one resource
abbrev pub OneHolder : Type 0
OneHolder =
    (sections : List TaskSection) (jobs : Jobs) → AreApart sections → InOrder jobs
    → (t i j p a b q : ℕ) → JobHolds sections jobs t i j p → JobHolds sections jobs t a b q
    → (section_at sections p).res ≡ (section_at sections q).res
    → (i ≡ a) × (j ≡ b)

-- HOLDING UP

-- at tick t a job of task i is ready, and the tick goes to the job b of a later task a
pub record HeldUp (sections : List TaskSection) (jobs : Jobs) (t i j a b : ℕ) : Type 0 where
  pub ready : IsReadyJob sections jobs t i j
  pub is_job : IsJob jobs a b
  pub gets : Gets sections jobs t a b
  pub later : i < a

-- as tick t begins that job is inside the section at q, whose resource's ceiling is at most i
pub record InSection (sections : List TaskSection) (jobs : Jobs) (t i a b q : ℕ) : Type 0 where
  pub inside : Inside sections a (done sections jobs t a b) q
  pub high : ceiling sections q ≤ i

-- a job is held up by one section of one job of a later task
abbrev pub HeldUpByOne : Type 0
HeldUpByOne =
    (sections : List TaskSection) (jobs : Jobs) → AreApart sections → InOrder jobs
    → (i j t a b u c d : ℕ) → HeldUp sections jobs t i j a b → HeldUp sections jobs u i j c d
    → (a ≡ c) × (b ≡ d) × ((q : ℕ) × (InSection sections jobs t i a b q × InSection sections jobs u i c d q))

-- RESPONSE TIMES

-- a job ends at most so many ticks after its arrival: by then it has had all its ticks
pub record EndsBy (sections : List TaskSection) (jobs : Jobs) (i j bound : ℕ) : Type 0 where
  pub whole : done sections jobs (jobs.arrival i j + bound) i j ≡ jobs.ticks i j
  pub moment : ℕ
  pub ends : AloneEnds (by_ceilings sections) jobs i j moment
  pub in_time : moment ≤ jobs.arrival i j + bound

-- where the jobs of each task up to i keep to its timing, no task has release jitter, and the deadline of i is at most its
-- period, each job of i ends within the response time of i, if that is at most the deadline
abbrev pub EndInTime : Type 0
EndInTime =
    (sections : List TaskSection) (jobs : Jobs) → AreApart sections → InOrder jobs
    → (timings : List Timing) (i r : ℕ) → i < length timings
    → ((j : ℕ) → j ≤ i → JobsKeepTiming jobs j (timing_at timings j)) → AreStill timings
    → deadline_at timings i ≤ period_at timings i → Response timings sections i r → r ≤ deadline_at timings i
    → (j : ℕ) → IsJob jobs i j → EndsBy sections jobs i j r
