-- What the run of an admitted sheet promises, sentence by sentence.
use Rattle.std.specs.Prelude.{◌≡◌, ◌≢◌, ℕ, ◌+◌, ◌-◌, ◌<◌, ◌≤◌, ◌↔◌, List, length, slice_index_or, Some}
use Rattle.hk_words.specs.declared.geometry.Geometry.{Geometry}
use Rattle.hk_words.specs.declared.call.Call.{Call}
use Rattle.hk_words.specs.declared.call.Reply.TheVariants.{Full}
use Rattle.hk_model.specs.Heap.{opening_of}
use Rattle.hk_model.specs.History.{Legal}
use Rattle.hk_model.specs.Replies.{reply_of, said}
use Rattle.hk_core.specs.Run.{Action}
use Rattle.hk_collect.specs.Used.{traced}
use Rattle.hk_collect.specs.Live.{LiveExceeds}
use Rattle.hk_plan.specs.AloneBy.{IsJob, AloneEnds, least_task}
use Rattle.hk_script.specs.declared.walk.Need.TheVariants.{Ask}
use Rattle.hk_sheet.specs.declared.sheet.Sheet.{Sheet}
use Rattle.hk_sheet.specs.Arrivals.{arrival_of}
use Rattle.hk_admit.specs.Analysis.{largest_low}
use Rattle.hk_dispatch.specs.declared.operation.Left.TheVariants.{Passes}
use Rattle.hk_dispatch.specs.Tasks.{high_at}
use Rattle.hk_dispatch.specs.Moment.{core_of, history_of, used_at, plain_heap, flip_heap, course_at, need_at}
use Rattle.hk_dispatch.specs.Turns.{to_task, turn}
use Rattle.hk_dispatch.specs.Ticks.{asked, left_by}
use Rattle.hk_dispatch.specs.Session.{state, who_gets, IsMoment, IsTick, JobEndsAt}
use Rattle.hk_dispatch.specs.Told.{told, out_in, end_in}
use Rattle.hk_dispatch.specs.Replay.{replayed_out, replayed_end}
use Rattle.hk_dispatch.specs.HighJobs.{jobs_by}
use Rattle.hk_dispatch.specs.Laws.{LegalInAnyOrder, EndsInTime}

-- THE HEADLINE, of the session of an admitted sheet on the heap of its geometry, at every moment and every tick up to the horizon
-- and before live memory passes its declared limit. High tasks go by the order of the sheet.
pub record Headline (g : Geometry) (sheet : Sheet) (responses : List ℕ) : Type 0 where
  -- the collector finds too much only where more words were live when its cycle began than the sheet declares
  pub until_live_passes_its_limit : (t words : ℕ) → t ≤ sheet.ticks → (state g least_task sheet t).over ≡ Some words
      → (sheet.heap.live < words) × LiveExceeds g (flip_heap g (state g least_task sheet t)) sheet.heap.live
  -- each high job ends exactly when a schedule of the high jobs alone ends it
  pub ends_as_if_alone : (t : ℕ) → IsMoment g least_task sheet t → (seat job e : ℕ) → IsJob (jobs_by g least_task sheet t) seat job → e ≤ t
      → JobEndsAt g least_task sheet seat job e ↔ AloneEnds least_task (jobs_by g least_task sheet t) seat job e
  -- within its response-time bound and its deadline
  pub within_response_and_deadline : (seat job arrival : ℕ) → seat < length sheet.high → arrival_of (high_at sheet seat).arrivals job ≡ Some arrival
      → IsMoment g least_task sheet (arrival + slice_index_or responses seat 0) → EndsInTime g sheet seat job arrival (slice_index_or responses seat 0)
  -- no allocation is refused, of a high job or of a low one
  pub no_allocation_refused : (t : ℕ) → IsTick g least_task sheet t → let m = state g least_task sheet t in
      (seat : ℕ) → turn least_task sheet m t ≡ to_task seat → left_by (core_of m) seat (course_at m seat).spent (need_at sheet m seat) ≢ Passes Full
  -- each collection cycle ends before the reserve is spent: the words used since it began leave room for the largest object of a
  -- low task
  pub cycle_ends_before_reserve_is_spent : (t : ℕ) → IsMoment g least_task sheet t → used_at (state g least_task sheet t) ≤ sheet.heap.alloc - largest_low sheet
  -- every reply is that of one legal history on a heap that never collects
  pub one_legal_history : (t : ℕ) → IsMoment g least_task sheet t → Legal (opening_of g) (history_of (state g least_task sheet t))
  -- so is the answer to each question about registers
  pub questions_answered : (t : ℕ) → IsTick g least_task sheet t → let m = state g least_task sheet t in
      (seat : ℕ) (c : Call) → turn least_task sheet m t ≡ to_task seat → need_at sheet m seat ≡ Some (Ask c)
      → said (asked (core_of m) seat c) ≡ reply_of (plain_heap g m) seat c
  -- and what the jobs put out, and how they end, is what they put out and how they end on that heap
  pub outputs_and_ends : (t : ℕ) → IsTick g least_task sheet t
      → (out_in (told g least_task sheet t) ≡ replayed_out (opening_of g) sheet (who_gets g least_task sheet) t)
      × (end_in (told g least_task sheet t) ≡ replayed_end (opening_of g) sheet (who_gets g least_task sheet) t)
  -- whatever the interleaving: begins, steps and events of the heap give one legal history in any order
  pub whatever_the_interleaving : LegalInAnyOrder g
  -- and the run of the heap is such a list of begins, steps and events
  pub run_is_interleaving : (t : ℕ) → IsMoment g least_task sheet t → (actions : List Action) × ((state g least_task sheet t).trace ≡ traced g actions)

-- At no flip of the run of a sheet more words are live than it declares
abbrev pub LiveIsWithin : Geometry → Sheet → Type 0
LiveIsWithin g sheet = (t : ℕ) → t ≤ sheet.ticks → ¬ (LiveExceeds g (flip_heap g (state g least_task sheet t)) sheet.heap.live)
