-- How a worker's progress follows the course of its task.
use Rattle.std.specs.Prelude.{◌≡◌, ◌⊎◌, ℕ, true, List, [], ◌∷◌, ◌++◌, length, is_some}
use Rattle.hk_words.specs.declared.geometry.Geometry.{Geometry}
use Rattle.hk_model.specs.Heap.{Heap, opening_of}
use Rattle.hk_model.specs.History.{History, after, of_seat}
use Rattle.hk_script.specs.declared.statement.Statement.{Statement}
use Rattle.hk_script.specs.Limits.{limits_of}
use Rattle.hk_script.specs.Blocks.{IsScript}
use Rattle.hk_script.specs.Walks.{Fits}
use Rattle.hk_script.specs.declared.walk.Walk.{Walk}
use Rattle.hk_race.specs.declared.note.Note.{Note}
use Rattle.hk_race.specs.declared.progress.Progress.{Progress}
use Rattle.hk_race.specs.Turns.{Turn, turns}
use Rattle.hk_race.specs.Course.{Course, course}

-- the script is one for tasks with so many registers
pub record RunsOn (registers : ℕ) (script : List Statement) : Type 0 where
  pub fields : ℕ
  pub is : IsScript (limits_of fields registers) script

-- a walk that fits its script, with a counter for each level of blocks
pub record Walks (script : List Statement) (w : Walk) : Type 0 where
  pub fits : Fits script w
  pub levels : length w.turns ≡ 16

-- the course that a worker's progress is, on a plain heap and with turns to come
abbrev pub course_of : Progress → Heap → List Turn → Course
course_of own heap rest = record { walk = own.walk; heap = heap; rest = rest; notes = own.notes.items; jobs = own.jobs; full = own.full }

-- While a worker saw more, its progress went on as a course does: it took just the turns that it saw more, whatever turns
-- follow them
pub record Goes (start : Heap) (seat : ℕ) (f : Course → Course) (seen seen_now : History) (own own_now : Progress) : Type 0 where
  pub fresh : List Turn
  pub more : turns start seat seen_now ≡ turns start seat seen ++ fresh
  pub goes : (later : List Turn) → f (course_of own (after start seen) (fresh ++ later)) ≡ course_of own_now (after start seen_now) later

-- a worker ends its job with this note
pub record Ends (script : List Statement) (n : Note) (own own_now : Progress) : Type 0 where
  pub walk : own_now.walk ≡ record own.walk { place = length script }
  pub notes : own_now.notes.items ≡ own.notes.items ++ n ∷ []
  pub jobs : own_now.jobs ≡ own.jobs
  pub full : own_now.full ≡ own.full

-- the job under way has come to the end of its script, or the task has stopped at a New without room
abbrev pub IsThrough : List Statement → Progress → Type 0
IsThrough script own = (own.walk.place ≡ length script) ⊎ (is_some own.full ≡ true)

-- What a worker tells is the course of its task over what its pass has seen and whatever is seen later, since that has no further
-- entry of its seat. Every turn was taken.
abbrev pub TellsCourse : Geometry → (seat jobs : ℕ) → List Statement → (seen : History) → Progress → Type 0
TellsCourse g seat jobs script seen own = (later : History) → of_seat later seat ≡ []
    → course script jobs (opening_of g) seat (seen ++ later) ≡ course_of own (after (opening_of g) seen) []
