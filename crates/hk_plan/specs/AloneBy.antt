-- The schedule of jobs by a choice among the ready ones. A job is known by its task and its number within the task.
-- Each tick goes to the chosen task, and there to its earliest job that is ready and isn't ended. With the least task
-- as the choice it is the plain schedule.
use Rattle.std.specs.Prelude.{◌≡◌, ℕ, zero, suc, ◌+◌, ◌-◌, ◌<◌, Bool, false, ◌&&◌, nat_lt, nat_le, nat_eq, if◌then◌else◌, List, [], ◌∷◌, ◌++◌, Option, Some, None, slice_index_or}
use Rattle.hk_plan.specs.declared.Ready.{Ready}

-- the jobs of some tasks: how many tasks there are, how many jobs each has, and how long after an arrival a job of the
-- task is to end; and of each job when it arrives, when it becomes ready, and how many ticks it takes
pub record Jobs : Type 0 where
  pub tasks : ℕ
  pub count : ℕ → ℕ
  pub deadline : ℕ → ℕ
  pub arrival : ℕ → ℕ → ℕ
  pub ready : ℕ → ℕ → ℕ
  pub ticks : ℕ → ℕ → ℕ

-- there is such a job
pub record IsJob (jobs : Jobs) (i j : ℕ) : Type 0 where
  pub known : i < jobs.tasks
  pub listed : j < jobs.count i

-- the first number below a bound of which a test holds
unfoldable pub first_below : (ℕ → Bool) → ℕ → Option ℕ
first_below test zero = None
first_below test (suc n) = or_else_at test n (first_below test n) where
  or_else_at : (ℕ → Bool) → ℕ → Option ℕ → Option ℕ
  or_else_at test n (Some k) = Some k
  or_else_at test n None = if test n then Some n else None

-- a job is ready at a moment, and has had fewer ticks than it takes
abbrev pub is_ready_job : Jobs → (had : ℕ → ℕ → ℕ) → (t i j : ℕ) → Bool
is_ready_job jobs had t i j = nat_le (jobs.ready i j) t && nat_lt (had i j) (jobs.ticks i j)

-- the earliest such job of a task
abbrev pub earliest : Jobs → (had : ℕ → ℕ → ℕ) → (t i : ℕ) → Option ℕ
earliest jobs had t i = first_below (is_ready_job jobs had t i) (jobs.count i)

-- what a choice is told of a task's job, where there is one
abbrev pub row_for : Jobs → (had : ℕ → ℕ → ℕ) → (i : ℕ) → Option ℕ → List Ready
row_for jobs had i None = []
row_for jobs had i (Some j) = record { task = i; job = j; arrival = jobs.arrival i j; deadline = jobs.arrival i j + jobs.deadline i; done = had i j } ∷ []

-- the rows of the tasks below a number, in rising order of tasks
unfoldable pub rows_below : (ℕ → List Ready) → ℕ → List Ready
rows_below row zero = []
rows_below row (suc n) = rows_below row n ++ row n

-- what a choice is told at a moment: the earliest ready job of each task that has one
abbrev pub ready_rows : Jobs → (had : ℕ → ℕ → ℕ) → (t : ℕ) → List Ready
ready_rows jobs had t = rows_below (λ i. row_for jobs had i (earliest jobs had t i)) jobs.tasks

-- a row of no job, which stands for a place where there is none
abbrev pub no_ready : Ready
no_ready = record { task = 0; job = 0; arrival = 0; deadline = 0; done = 0 }

-- the row at a place
abbrev pub ready_at : List Ready → ℕ → Ready
ready_at rows k = slice_index_or rows k no_ready

-- a choice answers a place in the list that it is told, which has at least one row; the tick goes to that row's task
abbrev pub chosen_task : (List Ready → ℕ) → List Ready → Option ℕ
chosen_task choice [] = None
chosen_task choice (row ∷ rows) = Some (ready_at (row ∷ rows) (choice (row ∷ rows))).task

-- the task that gets tick t, where each job has had so many ticks
abbrev pub alone_turn : (List Ready → ℕ) → Jobs → (had : ℕ → ℕ → ℕ) → (t : ℕ) → Option ℕ
alone_turn choice jobs had t = chosen_task choice (ready_rows jobs had t)

-- it is this number
abbrev pub is_some_at : Option ℕ → ℕ → Bool
is_some_at None k = false
is_some_at (Some j) k = nat_eq j k

-- how many of the first t ticks a job has had
unfoldable pub alone_had : (List Ready → ℕ) → Jobs → (t i j : ℕ) → ℕ
alone_had choice jobs zero i j = 0
alone_had choice jobs (suc t) i j =
    let had = alone_had choice jobs t in
    had i j + (if is_some_at (alone_turn choice jobs had t) i && is_some_at (earliest jobs had t i) j then 1 else 0)

-- tick t goes to this job
pub record AloneGives (choice : List Ready → ℕ) (jobs : Jobs) (t i j : ℕ) : Type 0 where
  pub task : alone_turn choice jobs (alone_had choice jobs t) t ≡ Some i
  pub job : earliest jobs (alone_had choice jobs t) t i ≡ Some j

-- tick t goes to nobody
abbrev pub AloneRests : (List Ready → ℕ) → Jobs → ℕ → Type 0
AloneRests choice jobs t = alone_turn choice jobs (alone_had choice jobs t) t ≡ None

-- a job ends at the moment e: the tick before it goes to the job, and is its last
pub record AloneEnds (choice : List Ready → ℕ) (jobs : Jobs) (i j e : ℕ) : Type 0 where
  pub later : 0 < e
  pub last : AloneGives choice jobs (e - 1) i j
  pub whole : alone_had choice jobs e i j ≡ jobs.ticks i j

-- the choice of the least task, whose row is the first
abbrev pub least_task : List Ready → ℕ
least_task rows = 0
