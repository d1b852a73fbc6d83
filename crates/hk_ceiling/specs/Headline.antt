-- What the run of an admitted sheet with sections promises, sentence by sentence.
use Rattle.std.specs.Prelude.{◌≡◌, ◌≢◌, ℕ, ◌+◌, ◌-◌, ◌<◌, ◌≤◌, ◌↔◌, List, length, slice_index_or, Some}
use Rattle.hk_words.specs.declared.geometry.Geometry.{Geometry}
use Rattle.hk_words.specs.Geometry.{HasSizes}
use Rattle.hk_words.specs.declared.call.Call.{Call}
use Rattle.hk_words.specs.declared.call.Reply.TheVariants.{Full}
use Rattle.hk_model.specs.Heap.{opening_of}
use Rattle.hk_model.specs.History.{Legal}
use Rattle.hk_model.specs.Replies.{reply_of, said}
use Rattle.hk_core.specs.Run.{Action}
use Rattle.hk_collect.specs.Used.{traced}
use Rattle.hk_collect.specs.Live.{LiveExceeds}
use Rattle.hk_plan.specs.AloneBy.{IsJob, AloneEnds}
use Rattle.hk_script.specs.declared.walk.Need.TheVariants.{Ask}
use Rattle.hk_sheet.specs.declared.sheet.Sheet.{Sheet}
use Rattle.hk_sheet.specs.Arrivals.{arrival_of}
use Rattle.hk_sheet.specs.Faults.{sizes_of}
use Rattle.hk_admit.specs.Analysis.{largest_low}
use Rattle.hk_admit.specs.Facts.{IsChecked}
use Rattle.hk_dispatch.specs.declared.operation.Left.TheVariants.{Passes}
use Rattle.hk_dispatch.specs.Tasks.{high_at}
use Rattle.hk_dispatch.specs.Moment.{core_of, history_of, used_at, plain_heap, flip_heap, course_at, need_at}
use Rattle.hk_dispatch.specs.Turns.{to_task, turn}
use Rattle.hk_dispatch.specs.Ticks.{asked, left_by}
use Rattle.hk_dispatch.specs.Session.{state, who_gets, IsMoment, IsTick, JobEndsAt}
use Rattle.hk_dispatch.specs.Laws.{LegalInAnyOrder}
use Rattle.hk_dispatch.specs.Told.{told, out_in, end_in}
use Rattle.hk_dispatch.specs.Replay.{replayed_out, replayed_end}
use Rattle.hk_dispatch.specs.HighJobs.{jobs_by}
use Rattle.hk_ceiling.specs.declared.ceilings.TaskSection.{TaskSection}
use Rattle.hk_ceiling.specs.declared.told.Section.{Section}
use Rattle.hk_ceiling.specs.Admission.{IsHeld}
use Rattle.hk_ceiling.specs.Ceilings.{section_at}
use Rattle.hk_ceiling.specs.Choice.{by_ceilings}
use Rattle.hk_ceiling.specs.Sessions.{HoldsAt, HeldUpAt, InSectionAt, EndsWithin}
use Rattle.hk_ceiling.specs.Told.{all_numbered}

-- Of the session of the sheet on the heap of its geometry, at every moment and every tick up to the horizon and before live memory
-- passes its declared limit. High tasks go by the ceilings of the sections.
pub record Headline (g : Geometry) (sheet : Sheet) (sections : List TaskSection) (responses : List ℕ) : Type 0 where
  -- the collector finds too much only where more words were live when its cycle began than the sheet declares
  pub until_live_passes_its_limit : (t words : ℕ) → t ≤ sheet.ticks → (state g (by_ceilings sections) sheet t).over ≡ Some words
      → (sheet.heap.live < words) × LiveExceeds g (flip_heap g (state g (by_ceilings sections) sheet t)) sheet.heap.live
  -- at no tick are two jobs between the first and the last tick of sections of one resource
  pub one_holder : (t : ℕ) → IsTick g (by_ceilings sections) sheet t
      → (seat job p other other_job q : ℕ) → HoldsAt g sections sheet t seat job p → HoldsAt g sections sheet t other other_job q
      → (section_at sections p).res ≡ (section_at sections q).res → (seat ≡ other) × (job ≡ other_job)
  -- each high job is held up by at most one section of one later task
  pub held_up_once : (t u : ℕ) → IsTick g (by_ceilings sections) sheet t → IsTick g (by_ceilings sections) sheet u
      → (seat job a b c d : ℕ) → HeldUpAt g sections sheet t seat job a b → HeldUpAt g sections sheet u seat job c d
      → (a ≡ c) × (b ≡ d) × ((q : ℕ) × (InSectionAt g sections sheet t seat a q × InSectionAt g sections sheet u seat c q))
  -- each ends exactly when a schedule of the high jobs alone ends it
  pub ends_as_if_alone : (t : ℕ) → IsMoment g (by_ceilings sections) sheet t → (seat job e : ℕ) → IsJob (jobs_by g (by_ceilings sections) sheet t) seat job → e ≤ t
      → JobEndsAt g (by_ceilings sections) sheet seat job e ↔ AloneEnds (by_ceilings sections) (jobs_by g (by_ceilings sections) sheet t) seat job e
  -- within its response time, which has room for a section, and its deadline
  pub within_response_and_deadline : (seat job arrival : ℕ) → seat < length sheet.high → arrival_of (high_at sheet seat).arrivals job ≡ Some arrival
      → IsMoment g (by_ceilings sections) sheet (arrival + slice_index_or responses seat 0) → EndsWithin g sections sheet seat job arrival (slice_index_or responses seat 0)
  -- no allocation is refused, of a high job or of a low one
  pub no_allocation_refused : (t : ℕ) → IsTick g (by_ceilings sections) sheet t → let m = state g (by_ceilings sections) sheet t in
      (seat : ℕ) → turn (by_ceilings sections) sheet m t ≡ to_task seat → left_by (core_of m) seat (course_at m seat).spent (need_at sheet m seat) ≢ Passes Full
  -- each collection cycle ends before the reserve is spent: the words used since it began leave room for the largest object of a
  -- low task
  pub cycle_ends_before_reserve_is_spent : (t : ℕ) → IsMoment g (by_ceilings sections) sheet t → used_at (state g (by_ceilings sections) sheet t) ≤ sheet.heap.alloc - largest_low sheet
  -- every reply is that of one legal history on a heap that never collects
  pub one_legal_history : (t : ℕ) → IsMoment g (by_ceilings sections) sheet t → Legal (opening_of g) (history_of (state g (by_ceilings sections) sheet t))
  -- so is the answer to each question about registers
  pub questions_answered : (t : ℕ) → IsTick g (by_ceilings sections) sheet t → let m = state g (by_ceilings sections) sheet t in
      (seat : ℕ) (c : Call) → turn (by_ceilings sections) sheet m t ≡ to_task seat → need_at sheet m seat ≡ Some (Ask c)
      → said (asked (core_of m) seat c) ≡ reply_of (plain_heap g m) seat c
  -- and what the jobs put out, and how they end, is what they put out and how they end on that heap
  pub outputs_and_ends : (t : ℕ) → IsTick g (by_ceilings sections) sheet t
      → (out_in (told g (by_ceilings sections) sheet t) ≡ replayed_out (opening_of g) sheet (who_gets g (by_ceilings sections) sheet) t)
      × (end_in (told g (by_ceilings sections) sheet t) ≡ replayed_end (opening_of g) sheet (who_gets g (by_ceilings sections) sheet) t)
  -- whatever the interleaving: begins, steps and events of the heap give one legal history in any order
  pub whatever_the_interleaving : LegalInAnyOrder g
  -- and the run of the heap is such a list of begins, steps and events
  pub run_is_interleaving : (t : ℕ) → IsMoment g (by_ceilings sections) sheet t → (actions : List Action) × ((state g (by_ceilings sections) sheet t).trace ≡ traced g actions)

-- It holds of every sheet that is admitted with its sections.
abbrev pub HeadlineHolds : Type 0
HeadlineHolds =
    (g : Geometry) (sheet : Sheet) (sections : List Section) (work attempt busy debt : ℕ) (responses : List ℕ)
    → HasSizes g (sizes_of sheet) → IsChecked sheet work attempt busy debt → IsHeld sheet sections responses
    → Headline g sheet (all_numbered sheet.high sections) responses

-- at no flip of the run more words are live than the sheet declares
abbrev pub LiveIsWithin : Geometry → Sheet → List TaskSection → Type 0
LiveIsWithin g sheet sections = (t : ℕ) → t ≤ sheet.ticks → ¬ (LiveExceeds g (flip_heap g (state g (by_ceilings sections) sheet t)) sheet.heap.live)
