-- A tick keeps the seats in step: the calls in flight stand where the jobs are.
use Rattle.std.proofs.Common.{◌≡◌, ◌≢◌, ℕ, ◌+◌, ◌<◌, Bool, true, false, length, inl, inr, refl, sym, subst, ◌∙◌, ap, arith, Option, Some, None}
use Rattle.std.proofs.lemmas.Bool.{cases_eq}
use Rattle.std.specs.Prelude.{nat_lt, if◌then◌else◌}
use Rattle.hk_words.specs.declared.call.Call.{Call}
use Rattle.hk_words.specs.declared.call.Reply.{Reply}
use Rattle.hk_words.specs.declared.call.Reply.TheVariants as reply
use Rattle.hk_words.specs.Geometry.{tasks}
use Rattle.hk_model.specs.Replies.{said}
use Rattle.hk_core.specs.declared.flight.Flight.{Flight}
use Rattle.hk_core.specs.State.{IsSized, flight_of}
use Rattle.hk_core.specs.Places.{KeepsOthers}
use Rattle.hk_script.specs.declared.walk.Need.{Need}
use Rattle.hk_script.specs.declared.walk.Need.TheVariants as need
use Rattle.hk_script.specs.Walks.{need_of}
use Rattle.hk_sheet.specs.declared.sheet.Sheet.{Sheet}
use Rattle.hk_dispatch.specs.declared.operation.Left.{Left}
use Rattle.hk_dispatch.specs.declared.operation.Left.TheVariants as left
use Rattle.hk_dispatch.specs.Tasks.{Task, tasks_of, task_at}
use Rattle.hk_dispatch.specs.Moment.{Course, Moment, core_of, course_at, need_at}
use Rattle.hk_dispatch.specs.Turns.{is_operation}
use Rattle.hk_dispatch.specs.Ticks.{asked, left_by, run_by, words_by, course_after, after_task}
use Rattle.hk_dispatch.specs.InStep.{SeatInStep, aside, under_way, MayBegin}
use Rattle.hk_dispatch.specs.Jobs.{AreInStep}
use Rattle.hk_dispatch.proofs.InStep.{OpInStep, still, done, refused, op_keeps}
use Rattle.hk_dispatch.proofs.Courses.{own_course, other_course, passes_spent}

-- what a job wants may be begun, where it is an operation
abbrev pub MayBeginIf : Sheet → Moment → (seat : ℕ) → Type 0
MayBeginIf sheet m seat = (c : Call) → need_at sheet m seat ≡ Some (need.Heap c) → MayBegin (core_of m).geometry c

-- a seat that wants no operation has no call in flight
pub none_flying : (x : Flight) (wants : Option Need) (spent : ℕ) → SeatInStep x wants spent → is_operation wants ≡ false → x.place ≡ 0
none_flying x wants spent (aside idle w) e = idle
none_flying x wants spent (under_way c is at place some within) e = absurd (let b : true ≡ false = sym (ap is_operation is) ∙ e in cc)

-- the course after a tick of what isn't an operation: the same need goes on, or the next has had no tick
module _ (task : Task) (course : Course) (tick words : ℕ) (x : Flight) (idle : x.place ≡ 0) (wants : Option Need) (is : need_of task.script course.walk ≡ wants) (quiet : is_operation wants ≡ false) where
  abbrev After : Left → Type 0
  After l = let c = course_after task course tick words l in SeatInStep x (need_of task.script c.walk) c.spent

  stays : After left.Stays
  stays = aside idle (inl (ap is_operation is ∙ quiet))

  passes : (r : Reply) → After (left.Passes r)
  passes r = aside idle (inr (passes_spent task course tick words r))

  stays_or_passes : (test : Bool) → After (if test then left.Stays else left.Passes reply.Unit)
  stays_or_passes true = stays
  stays_or_passes false = passes reply.Unit

-- the course after a tick of an operation
after_operation : (task : Task) (course : Course) (tick words : ℕ) (x : Flight) (c : Call) (l : Left) → need_of task.script course.walk ≡ Some (need.Heap c)
    → OpInStep x c course.spent l → let d = course_after task course tick words l in SeatInStep x (need_of task.script d.walk) d.spent
after_operation task course tick words x c left.Stays is (still call at within) = under_way c is call at (omega arith) within
after_operation task course tick words x c (left.Passes r) is (done r' idle) = aside idle (inr (passes_spent task course tick words r))
after_operation task course tick words x c (left.Faults f) is (refused f' idle) = aside idle (inr refl)

module _ (sheet : Sheet) (m : Moment) (tick seat : ℕ) (below : seat < length (tasks_of sheet)) (seats : tasks (core_of m).geometry ≡ length (tasks_of sheet))
    (sized : IsSized (core_of m)) (courses : length m.courses ≡ length (tasks_of sheet)) (may : MayBeginIf sheet m seat) (h : AreInStep sheet m) where
  abbrev n : Moment
  n = after_task sheet m tick seat

  within : seat < tasks (core_of m).geometry
  within = subst (λ k. seat < k) (sym seats) below

  -- the flight and the course of the seat, by what its job wants
  record Leads (wants : Option Need) : Type 0 where
    own : let c = course_after (task_at sheet seat) (course_at m seat) tick (words_by (core_of m) seat (course_at m seat).spent wants) (left_by (core_of m) seat (course_at m seat).spent wants) in
        SeatInStep (flight_of (run_by m.trace seat (course_at m seat).spent wants).running.core.flights seat) (need_of (task_at sheet seat).script c.walk) c.spent
    others : KeepsOthers (core_of m) (run_by m.trace seat (course_at m seat).spent wants).running.core seat

  leads : (wants : Option Need) → need_at sheet m seat ≡ wants → SeatInStep (flight_of (core_of m).flights seat) wants (course_at m seat).spent → Leads wants
  leads (Some (need.Work k)) is s = record { own = stays_or_passes (task_at sheet seat) (course_at m seat) tick 0 _ (none_flying _ _ _ s refl) (Some (need.Work k)) is refl (nat_lt ((course_at m seat).spent + 1) k); others = λ other differs. refl }
  leads (Some need.Local) is s = record { own = passes (task_at sheet seat) (course_at m seat) tick 0 _ (none_flying _ _ _ s refl) (Some need.Local) is refl reply.Unit; others = λ other differs. refl }
  leads (Some (need.Out value)) is s = record { own = passes (task_at sheet seat) (course_at m seat) tick 0 _ (none_flying _ _ _ s refl) (Some (need.Out value)) is refl reply.Unit; others = λ other differs. refl }
  leads (Some (need.Ask c)) is s = record { own = passes (task_at sheet seat) (course_at m seat) tick 0 _ (none_flying _ _ _ s refl) (Some (need.Ask c)) is refl (said (asked (core_of m) seat c)); others = λ other differs. refl }
  leads None is s = record { own = stays (task_at sheet seat) (course_at m seat) tick 0 _ (none_flying _ _ _ s refl) None is refl; others = λ other differs. refl }
  leads (Some (need.Heap c)) is s =
      let k = op_keeps m.trace seat c sized within (may c is) (course_at m seat).spent s in
      record { own = after_operation (task_at sheet seat) (course_at m seat) tick _ _ c _ is k.own; others = k.others }

  led : Leads (need_at sheet m seat)
  led = leads (need_at sheet m seat) refl (h seat below)

  own_in_step : SeatInStep (flight_of (core_of n).flights seat) (need_at sheet n seat) (course_at n seat).spent
  unfolding after_task
  own_in_step = subst (λ (c : Course). SeatInStep (flight_of (core_of n).flights seat) (need_of (task_at sheet seat).script c.walk) c.spent)
      (sym (own_course sheet m tick seat (subst (λ k. seat < k) (sym courses) below))) led.own

  other_in_step : (other : ℕ) → other < length (tasks_of sheet) → other ≢ seat → SeatInStep (flight_of (core_of n).flights other) (need_at sheet n other) (course_at n other).spent
  unfolding after_task
  other_in_step other b differs = subst (λ (c : Course). SeatInStep (flight_of (core_of n).flights other) (need_of (task_at sheet other).script c.walk) c.spent)
      (sym (other_course sheet m tick seat other differs))
      (subst (λ (x : Flight). SeatInStep x (need_at sheet m other) (course_at m other).spent) (sym (led.others other differs)) (h other b))

  -- a tick of a task keeps the seats in step
  pub task_keeps_step : AreInStep sheet n
  task_keeps_step other b = elim (cases_eq other seat) [
    | inl same ↦ subst (λ s. SeatInStep (flight_of (core_of n).flights s) (need_at sheet n s) (course_at n s).spent) (sym same) own_in_step
    | inr differs ↦ other_in_step other b differs
  ]
