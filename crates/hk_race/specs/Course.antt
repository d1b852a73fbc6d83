-- What a task's jobs come to over the turns of its seat: the walk of each script takes its replies from them.
use Rattle.std.specs.Prelude.{ℕ, zero, suc, ◌+◌, nat_eq, if◌then◌else◌, List, [], ◌∷◌, ◌++◌, length, Option, Some, None, is_some}
use Rattle.hk_words.specs.declared.call.Reply.{Reply}
use Rattle.hk_words.specs.declared.call.Reply.TheVariants as reply
use Rattle.hk_model.specs.Heap.{Heap}
use Rattle.hk_model.specs.History.{History, is_full}
use Rattle.hk_model.specs.Replies.{reply_of}
use Rattle.hk_script.specs.declared.statement.Statement.{Statement}
use Rattle.hk_script.specs.declared.walk.Need.{Need}
use Rattle.hk_script.specs.declared.walk.Need.TheVariants as need
use Rattle.hk_script.specs.declared.walk.Walk.{Walk}
use Rattle.hk_script.specs.Walks.{started, need_of, walk_after}
use Rattle.hk_script.specs.Cost.{greatest_ticks}
use Rattle.hk_race.specs.declared.note.Note.{Note}
use Rattle.hk_race.specs.declared.note.Note.TheVariants as note
use Rattle.hk_race.specs.Turns.{Turn, turns}

-- Where a task stands: the walk of the job under way; the plain heap after the last turn that was taken, and the turns to come;
-- what was put out and which jobs met a fault; how many jobs ended; and, where a New found no room, the words that it found used
pub record Course : Type 0 where
  pub walk : Walk
  pub heap : Heap
  pub rest : List Turn
  pub notes : List Note
  pub jobs : ℕ
  pub full : Option ℕ

-- one note more
abbrev pub noted : Note → Course → Course
noted n c = record c { notes = c.notes ++ n ∷ [] }

-- the walk goes on behind its statement, which had this reply
abbrev pub past : List Statement → Reply → Course → Course
past script r c = record c { walk = walk_after script c.walk r }

-- the job ends at its statement, whose call was refused
abbrev pub faulted : List Statement → Note → Course → Course
faulted script n c = record c { walk = record c.walk { place = length script }; notes = c.notes ++ n ∷ [] }

-- A call that isn't refused takes the next turn: the task stops where that is a New without room, and else goes on with its
-- reply. Where no turn is left the task doesn't go on
abbrev pub took : List Statement → Turn → List Turn → Course → Course
took script t rest c =
    if is_full t.entry.reply then record c { heap = t.heap; rest = rest; full = Some t.entry.number }
    else record c { walk = walk_after script c.walk t.entry.reply; heap = t.heap; rest = rest }

abbrev pub took_next : List Statement → List Turn → Course → Course
took_next script [] c = c
took_next script (t ∷ rest) c = took script t rest c

-- a call, by what the plain heap answers after the last turn: it is refused there, or takes the next turn
abbrev pub called : List Statement → Reply → Course → Course
called script reply.Nil c = faulted script (note.Nil c.jobs (c.walk.place + 1)) c
called script reply.Field c = faulted script (note.Field c.jobs (c.walk.place + 1)) c
called script reply.Full c = took_next script c.rest c
called script reply.Unit c = took_next script c.rest c
called script (reply.Num n) c = took_next script c.rest c
called script reply.Yes c = took_next script c.rest c
called script reply.No c = took_next script c.rest c

-- a statement, by what it wants; at the end of the script nothing is left to do
abbrev pub did : List Statement → (seat : ℕ) → Option Need → Course → Course
did script seat None c = c
did script seat (Some (need.Work n)) c = past script reply.Unit c
did script seat (Some need.Local) c = past script reply.Unit c
did script seat (Some (need.Out v)) c = past script reply.Unit (noted (note.Out v) c)
did script seat (Some (need.Ask question)) c = past script (reply_of c.heap seat question) c
did script seat (Some (need.Heap call)) c = called script (reply_of c.heap seat call) c

-- one statement more, where the task hasn't stopped
unfoldable pub stepped : List Statement → (seat : ℕ) → Course → Course
stepped script seat c = if is_some c.full then c else did script seat (need_of script c.walk) c

-- something done so many times
abbrev pub times : {A : Type 0} → ℕ → (A → A) → A → A
times zero f x = x
times (suc n) f x = f (times n f x)

-- a job begins, where the task hasn't stopped
abbrev pub begun : Course → Course
begun c = if is_some c.full then c else record c { walk = started c.jobs }

-- a job has ended where its walk is at the end of its script, and the task hasn't stopped
abbrev pub ended : List Statement → Course → Course
ended script c = if is_some c.full then c else if nat_eq c.walk.place (length script) then record c { jobs = c.jobs + 1 } else c

-- One job more: as many statements as its script costs ticks. No job has more, since each statement takes a tick at least; at the
-- end of the script nothing more is done
unfoldable pub job_done : List Statement → (seat : ℕ) → Course → Course
job_done script seat c = ended script (times (greatest_ticks script) (stepped script seat) (begun c))

-- a task before its first job, and after so many jobs
abbrev pub opened : Heap → List Turn → Course
opened start rest = record { walk = started 0; heap = start; rest = rest; notes = []; jobs = 0; full = None }

unfoldable pub course : List Statement → (jobs : ℕ) → Heap → (seat : ℕ) → History → Course
course script jobs start seat history = times jobs (job_done script seat) (opened start (turns start seat history))
