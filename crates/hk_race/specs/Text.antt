-- The text of a race: what it tells of each task, by a closing history.
use Rattle.std.specs.Prelude.{ℕ, zero, suc, List, [], ◌∷◌, ◌++◌, length, codes, decimal, flat_map, Option, Some, None}
use Rattle.hk_front.specs.Text.{line}
use Rattle.hk_words.specs.declared.geometry.Geometry.{Geometry}
use Rattle.hk_model.specs.Heap.{opening_of}
use Rattle.hk_model.specs.History.{History}
use Rattle.hk_sheet.specs.declared.sheet.Sheet.{Sheet}
use Rattle.hk_race.specs.declared.note.Note.{Note}
use Rattle.hk_race.specs.declared.note.Note.TheVariants as note
use Rattle.hk_race.specs.Course.{Course, course}
use Rattle.hk_race.specs.Tasks.{tasks_of, task_at}

-- a value that a task put out, or a job of it that met a fault at a statement
abbrev pub note_line : (name : List ℕ) → Note → List ℕ
note_line name (note.Out value) = line (codes "out" ∷ name ∷ decimal value ∷ [])
note_line name (note.Nil job statement) = line (codes "fault" ∷ name ∷ decimal job ∷ decimal statement ∷ codes "nil" ∷ [])
note_line name (note.Field job statement) = line (codes "fault" ∷ name ∷ decimal job ∷ decimal statement ∷ codes "field" ∷ [])

-- how a task ended: after its last job, or at a New without room, which found so many words used
abbrev pub end_of_task : (name : List ℕ) → (jobs : ℕ) → (full : Option ℕ) → List ℕ
end_of_task name jobs None = line (codes "done" ∷ name ∷ codes "jobs" ∷ decimal jobs ∷ [])
end_of_task name jobs (Some words) = line (codes "full" ∷ name ∷ decimal words ∷ [])

-- the collector found more words live than the sheet declares
abbrev pub live_text : (declared : ℕ) → Option ℕ → List ℕ
live_text declared None = []
live_text declared (Some words) = line (codes "live" ∷ decimal words ∷ codes "above" ∷ decimal declared ∷ [])

-- what a task's course tells
unfoldable pub told : (name : List ℕ) → Course → List ℕ
told name c = flat_map (note_line name) c.notes ++ end_of_task name c.jobs c.full

-- what the jobs of the task of a seat come to, by the history, and what that tells
abbrev pub task_course : Sheet → Geometry → History → (seat : ℕ) → Course
task_course sheet g history seat = course (task_at sheet seat).script (task_at sheet seat).jobs (opening_of g) seat history

abbrev pub task_text : Sheet → Geometry → History → (seat : ℕ) → List ℕ
task_text sheet g history seat = told (task_at sheet seat).name (task_course sheet g history seat)

-- what the tasks of the first seats tell
abbrev pub tasks_text : Sheet → Geometry → History → (seats : ℕ) → List ℕ
tasks_text sheet g history zero = []
tasks_text sheet g history (suc seat) = tasks_text sheet g history seat ++ task_text sheet g history seat

-- The text of a sheet, by its geometry, a closing history, and the words that the collector found live, where they were too many:
-- what each task tells, the high ones first; the line of the live words; and the last line
unfoldable pub race_text : Sheet → Geometry → History → (live : Option ℕ) → List ℕ
race_text sheet g history live =
    tasks_text sheet g history (length (tasks_of sheet)) ++ (live_text sheet.heap.live live ++ line (codes "end" ∷ []))
