-- The same jobs on the heap that never collects: a run by who gets each tick alone. It has no words, no debt and no collector.
use Rattle.std.specs.Prelude.{ℕ, zero, suc, ◌+◌, nat_lt, ◌==◌, Bool, List, length, replicate, slice_index_or, slice_set, Option, Some, None, if◌then◌else◌}
use Rattle.hk_words.specs.declared.call.Call.{Call}
use Rattle.hk_words.specs.declared.call.Call.TheVariants as call
use Rattle.hk_words.specs.declared.call.Reply.{Reply}
use Rattle.hk_words.specs.declared.call.Reply.TheVariants as reply
use Rattle.hk_words.specs.Bounds.{places_of}
use Rattle.hk_model.specs.Heap.{Heap}
use Rattle.hk_model.specs.Replies.{reply_of, heap_after}
use Rattle.hk_core.specs.declared.outcome.Fault.TheVariants as refused
use Rattle.hk_script.specs.declared.walk.Need.{Need}
use Rattle.hk_script.specs.declared.walk.Need.TheVariants as need
use Rattle.hk_script.specs.declared.walk.Walk.{Walk}
use Rattle.hk_script.specs.Walks.{started, need_of, walk_after}
use Rattle.hk_sheet.specs.declared.sheet.Sheet.{Sheet}
use Rattle.hk_dispatch.specs.declared.operation.Left.{Left}
use Rattle.hk_dispatch.specs.declared.operation.Left.TheVariants as left
use Rattle.hk_dispatch.specs.declared.tick.End.{End}
use Rattle.hk_dispatch.specs.Tasks.{Task, tasks_of, task_at, is_by}
use Rattle.hk_dispatch.specs.Turns.{Turn, to_task, to_collector, to_nobody}
use Rattle.hk_dispatch.specs.Ticks.{is_over}
use Rattle.hk_dispatch.specs.Told.{out_of, end_of}

-- where a task stands: its job, the job's walk, the ticks that it has had of the statement, and what its operation has answered,
-- once it had its effect
pub record Part : Type 0 where
  pub job : ℕ
  pub walk : Walk
  pub spent : ℕ
  pub answer : Reply

abbrev pub first_part : (job : ℕ) → Part
first_part job = record { job = job; walk = started job; spent = 0; answer = reply.Unit }

-- the plain heap, and each seat's part
pub record Played : Type 0 where
  pub heap : Heap
  pub parts : List Part

-- the place of an operation at which the plain heap's state changes
abbrev pub effect_place : Call → ℕ
effect_place (call.Get reg field) = 2
effect_place (call.Put reg field value) = 2
effect_place (call.Move dest from) = 2
effect_place (call.Clear dest) = 1
effect_place (call.Load dest reg field) = 4
effect_place (call.Store reg field from) = 6
effect_place (call.New dest shape) = 6
effect_place (call.Same a b) = 0
effect_place (call.IsNull reg) = 0

-- the next tick of an operation that isn't refused: what it has answered after it, the heap, and how it leaves the job. It
-- answers, and changes the heap, at its effect place; it passes at its last place
abbrev pub answer_on : Heap → (seat : ℕ) → Call → Part → Reply
answer_on h seat c p = if p.spent + 1 == effect_place c then reply_of h seat c else p.answer

abbrev pub heap_on : Heap → (seat : ℕ) → Call → Part → Heap
heap_on h seat c p = if p.spent + 1 == effect_place c then heap_after h seat c else h

abbrev pub goes_on : Heap → (seat : ℕ) → Call → Part → Left
goes_on h seat c p = if p.spent + 1 == places_of c then left.Passes (answer_on h seat c p) else left.Stays

-- null and a wrong field are found at the first tick
abbrev pub left_at_first : Heap → (seat : ℕ) → Call → Part → Reply → Left
left_at_first h seat c p reply.Nil = left.Faults refused.Nil
left_at_first h seat c p reply.Field = left.Faults refused.Field
left_at_first h seat c p reply.Unit = goes_on h seat c p
left_at_first h seat c p (reply.Num n) = goes_on h seat c p
left_at_first h seat c p reply.Yes = goes_on h seat c p
left_at_first h seat c p reply.No = goes_on h seat c p
left_at_first h seat c p reply.Full = goes_on h seat c p

abbrev pub left_at : Heap → (seat : ℕ) → Call → Part → (spent : ℕ) → Left
left_at h seat c p zero = left_at_first h seat c p (reply_of h seat c)
left_at h seat c p (suc spent) = goes_on h seat c p

abbrev pub heap_unless : Heap → (seat : ℕ) → Call → Part → Left → Heap
heap_unless h seat c p (left.Faults fault) = h
heap_unless h seat c p left.Stays = heap_on h seat c p
heap_unless h seat c p (left.Passes r) = heap_on h seat c p

-- a tick of a job: how it leaves the job, the heap, and what an operation has answered
abbrev pub play_left : Heap → (seat : ℕ) → Part → Option Need → Left
play_left h seat p (Some (need.Work n)) = if nat_lt (p.spent + 1) n then left.Stays else left.Passes reply.Unit
play_left h seat p (Some need.Local) = left.Passes reply.Unit
play_left h seat p (Some (need.Out value)) = left.Passes reply.Unit
play_left h seat p (Some (need.Heap c)) = left_at h seat c p p.spent
play_left h seat p (Some (need.Ask c)) = left.Passes (reply_of h seat c)
play_left h seat p None = left.Stays

abbrev pub play_heap : Heap → (seat : ℕ) → Part → Option Need → Heap
play_heap h seat p (Some (need.Heap c)) = heap_unless h seat c p (left_at h seat c p p.spent)
play_heap h seat p (Some (need.Work n)) = h
play_heap h seat p (Some need.Local) = h
play_heap h seat p (Some (need.Out value)) = h
play_heap h seat p (Some (need.Ask c)) = h
play_heap h seat p None = h

abbrev pub play_answer : Heap → (seat : ℕ) → Part → Option Need → Reply
play_answer h seat p (Some (need.Heap c)) = answer_on h seat c p
play_answer h seat p (Some (need.Work n)) = reply.Unit
play_answer h seat p (Some need.Local) = reply.Unit
play_answer h seat p (Some (need.Out value)) = reply.Unit
play_answer h seat p (Some (need.Ask c)) = reply.Unit
play_answer h seat p None = reply.Unit

-- the part after the tick
abbrev pub part_past : Task → Part → Walk → Part
part_past task p walk = if is_over task walk then first_part (p.job + 1)
    else record { job = p.job; walk = walk; spent = 0; answer = reply.Unit }

abbrev pub part_after : Task → Part → (answer : Reply) → Left → Part
part_after task p answer left.Stays = record p { spent = p.spent + 1; answer = answer }
part_after task p answer (left.Passes r) = part_past task p (walk_after task.script p.walk r)
part_after task p answer (left.Faults fault) = first_part (p.job + 1)

abbrev pub part_at : Played → (seat : ℕ) → Part
part_at s seat = slice_index_or s.parts seat (first_part 0)

abbrev pub wants_at : Sheet → Played → (seat : ℕ) → Option Need
wants_at sheet s seat = need_of (task_at sheet seat).script (part_at s seat).walk

-- the task's earliest job that isn't ended is ready at a tick
abbrev pub plays : Sheet → Played → (tick seat : ℕ) → Bool
plays sheet s tick seat = is_by ((task_at sheet seat).ready (part_at s seat).job) tick

-- A tick of a task carries on its earliest job that is ready and isn't ended, where it has one, by one tick of its script.
-- Other ticks do nothing.
abbrev pub played_by : Sheet → Played → (seat : ℕ) → Played
played_by sheet s seat =
    let p = part_at s seat in
    let wants = wants_at sheet s seat in
    record {
      heap = play_heap s.heap seat p wants;
      parts = slice_set s.parts seat (part_after (task_at sheet seat) p (play_answer s.heap seat p wants) (play_left s.heap seat p wants));
    }

abbrev pub played_after : Sheet → Played → (tick : ℕ) → Turn → Played
played_after sheet s tick (to_task seat) = if plays sheet s tick seat then played_by sheet s seat else s
played_after sheet s tick to_collector = s
played_after sheet s tick to_nobody = s

-- where the jobs stand after so many ticks, by who gets each
unfoldable pub played : Heap → Sheet → (whos : ℕ → Turn) → (ticks : ℕ) → Played
played start sheet whos zero = record { heap = start; parts = replicate (length (tasks_of sheet)) (first_part 0) }
played start sheet whos (suc tick) = played_after sheet (played start sheet whos tick) tick (whos tick)

-- what a tick puts out, and the end that it brings
abbrev pub out_by : Sheet → Played → (tick : ℕ) → Turn → Option ℕ
out_by sheet s tick (to_task seat) = if plays sheet s tick seat then out_of (wants_at sheet s seat) else None
out_by sheet s tick to_collector = None
out_by sheet s tick to_nobody = None

abbrev pub end_by : Sheet → Played → (tick : ℕ) → Turn → Option End
end_by sheet s tick (to_task seat) =
    let p = part_at s seat in
    if plays sheet s tick seat then end_of (task_at sheet seat) p.job p.walk tick (play_left s.heap seat p (wants_at sheet s seat)) else None
end_by sheet s tick to_collector = None
end_by sheet s tick to_nobody = None

unfoldable pub replayed_out : Heap → Sheet → (whos : ℕ → Turn) → (tick : ℕ) → Option ℕ
replayed_out start sheet whos tick = out_by sheet (played start sheet whos tick) tick (whos tick)

unfoldable pub replayed_end : Heap → Sheet → (whos : ℕ → Turn) → (tick : ℕ) → Option End
replayed_end start sheet whos tick = end_by sheet (played start sheet whos tick) tick (whos tick)
