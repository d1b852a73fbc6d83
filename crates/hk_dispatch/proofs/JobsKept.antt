-- What is kept of all jobs: their courses, what high ones declare, and that the calls in flight are in step.
use Rattle.std.proofs.Common.{◌≡◌, ℕ, suc, zero, ◌+◌, ◌^◌, ◌<◌, ◌≤◌, Bool, true, false, List, [], ◌∷◌, length, Option, Some, refl, sym, ◌∙◌, ap, subst, arith, inl, inr, get_or}
use Rattle.std.proofs.lemmas.Bool.{cases_Bool, cases_eq, ltb-false}
use Rattle.std.proofs.lemmas.List.{get_or_append_left, get_or-map, length-map}
use Rattle.std.specs.Prelude.{map, slice_index_or, nat_le, nat_lt, ◌||◌}
use Rattle.std.specs.List.{list_any}
use Rattle.hk_words.specs.declared.call.Call.{Call}
use Rattle.hk_words.specs.Geometry.{tasks}
use Rattle.hk_core.specs.declared.flight.Flight.{Flight}
use Rattle.hk_core.specs.State.{IsSized, flight_of}
use Rattle.hk_script.specs.declared.walk.Need.{Need}
use Rattle.hk_script.specs.declared.walk.Need.TheVariants as need
use Rattle.hk_script.specs.Cost.{told, greatest_ticks, greatest_words}
use Rattle.hk_script.specs.Walks.{need_of}
use Rattle.hk_script.specs.Runs.{need_ticks, taken_by}
use Rattle.hk_sheet.specs.declared.sheet.High.{High}
use Rattle.hk_sheet.specs.declared.sheet.Sheet.{Sheet}
use Rattle.hk_sheet.specs.Valid.{IsSheet}
use Rattle.hk_admit.specs.Conditions.{exceeds, is_too_long, is_too_large, KeepsToDeclared}
use Rattle.hk_dispatch.specs.declared.operation.Left.TheVariants as left
use Rattle.hk_dispatch.specs.Tasks.{Task, high_task, low_task, tasks_of, no_task, no_high, task_at, high_at}
use Rattle.hk_dispatch.specs.Moment.{Course, Moment, no_course, core_of, course_at, need_at}
use Rattle.hk_dispatch.specs.Turns.{is_ready}
use Rattle.hk_dispatch.specs.Ticks.{after_task, leaves_on}
use Rattle.hk_dispatch.specs.InStep.{SeatInStep}
use Rattle.hk_dispatch.specs.Kept.{CourseKept, KeepsDeclared}
use Rattle.hk_dispatch.proofs.InStep.{OpInStep, op_keeps}
use Rattle.hk_dispatch.proofs.Courses.{left_now, words_now, course_now, own_course, other_course, as_many_courses}
use Rattle.hk_dispatch.specs.Jobs.{JobsKept}
use Rattle.hk_dispatch.proofs.SeatsInStep.{MayBeginIf, task_keeps_step}
use Rattle.hk_dispatch.proofs.Sheets.{HasScript, scripts}
use Rattle.hk_dispatch.proofs.Walking.{wants, may_begin_wanted}
use Rattle.hk_dispatch.proofs.CourseFacts.{course_waits, course_keeps, declared_keeps}
use Rattle.hk_dispatch.proofs.TaskTick.{words_few, words_none, stays_more}

-- WHAT HIGH TASKS DECLARE

-- an element of a list of which a test holds nowhere
pub none_at : (p : High → Bool) (xs : List High) (i : ℕ) (d : High) → list_any p xs ≡ false → i < length xs → p (get_or xs i d) ≡ false
none_at p [] i d none lt = absurd (omega arith)
none_at p (x ∷ xs) zero d none lt = left_false (p x) (list_any p xs) none where
  left_false : (a b : Bool) → (a || b) ≡ false → a ≡ false
  left_false true b e = absurd (cc)
  left_false false b e = refl
none_at p (x ∷ xs) (suc i) d none lt = none_at p xs i d (right_false (p x) (list_any p xs) none) (omega arith) where
  right_false : (a b : Bool) → (a || b) ≡ false → b ≡ false
  right_false true b e = absurd (cc)
  right_false false b e = e

pub within_declared : (n declared : ℕ) → exceeds (told n) declared ≡ false → n ≤ declared
within_declared n declared e = elim (cases_Bool (nat_le n (2 ^ 24))) [
  | inl yes' ↦ ltb-false declared n (let f : nat_lt declared n ≡ false = rw yes' at e in f)
  | inr no' ↦ absurd (let f : true ≡ false = rw no' at e in cc)
]

-- the task of a high seat
pub high_is : (sheet : Sheet) (seat : ℕ) → seat < length sheet.high → task_at sheet seat ≡ high_task (high_at sheet seat)
high_is sheet seat lt =
    get_or_append_left (map high_task sheet.high) (map low_task sheet.low) no_task seat (omega (arith, length-map sheet.high high_task, lt))
    ∙ get_or-map high_task sheet.high seat no_high no_task lt

-- ALL JOBS

-- a tick of nobody, or of the collector: it changes no course and no flight
pub jobs_wait : (sheet : Sheet) (m n : Moment) (t : ℕ) → n.courses ≡ m.courses → (core_of n).flights ≡ (core_of m).flights → JobsKept sheet m t → JobsKept sheet n (suc t)
jobs_wait sheet m n t courses flights h = record {
  courses = ap length courses ∙ h.courses;
  course = λ seat below. subst (λ (cs : List Course). CourseKept (task_at sheet seat) (slice_index_or cs seat no_course) (suc t)) (sym courses) (course_waits (task_at sheet seat) (course_at m seat) t (h.course seat below));
  declared = λ seat high. subst (λ (cs : List Course). KeepsDeclared (high_at sheet seat).script (slice_index_or cs seat no_course) (high_at sheet seat).timing.cost (high_at sheet seat).words) (sym courses) (h.declared seat high);
  in_step = λ seat below. subst (λ (cs : List Course). SeatInStep (flight_of (core_of n).flights seat) (need_of (task_at sheet seat).script (slice_index_or cs seat no_course).walk) (slice_index_or cs seat no_course).spent) (sym courses)
      (subst (λ (fs : List Flight). SeatInStep (flight_of fs seat) (need_at sheet m seat) (course_at m seat).spent) (sym flights) (h.in_step seat below));
}

module _ (sheet : Sheet) (readable : IsSheet sheet) (within : KeepsToDeclared sheet.high) (m : Moment) (t seat : ℕ) (below : seat < length (tasks_of sheet))
    (seats : tasks (core_of m).geometry ≡ length (tasks_of sheet)) (registers : sheet.heap.registers ≡ (core_of m).geometry.registers)
    (sized : IsSized (core_of m)) (ready : is_ready (task_at sheet seat) (course_at m seat) t ≡ true) (h : JobsKept sheet m t) where
  abbrev task : Task
  task = task_at sheet seat

  script : HasScript sheet task
  script = scripts sheet readable seat below

  kept : CourseKept task (course_at m seat) t
  kept = h.course seat below

  pub may : MayBeginIf sheet m seat
  may c is = may_begin_wanted (core_of m).geometry sheet.heap.fields sheet.heap.registers task.script (course_at m seat).walk c script registers is

  own_below : seat < tasks (core_of m).geometry
  own_below = subst (λ k. seat < k) (sym seats) below

  operation : (c : Call) → need_at sheet m seat ≡ Some (need.Heap c) → (x : Flight) × OpInStep x c (course_at m seat).spent (leaves_on (core_of m) seat c (course_at m seat).spent)
  operation c is = (
    _,
    (op_keeps m.trace seat c sized own_below (may c is) (course_at m seat).spent
        (subst (λ (o : Option Need). SeatInStep (flight_of (core_of m).flights seat) o (course_at m seat).spent) is (h.in_step seat below))).own,
  )

  stays : left_now sheet m t seat ≡ left.Stays → (course_at m seat).spent + 1 < taken_by need_ticks (need_at sheet m seat)
  stays e =
      let n = wants task.script (course_at m seat).walk kept.fits kept.within in
      stays_more (core_of m) seat (course_at m seat).spent (need_at sheet m seat) n.0 n.1 operation e

  own_after : CourseKept task (course_now sheet m t seat) (suc t)
  own_after = course_keeps sheet.heap.fields sheet.heap.registers task script (course_at m seat) t kept ready (words_now sheet m t seat) (left_now sheet m t seat) stays

  early : (course_at m seat).spent < 2 → words_now sheet m t seat ≡ 0
  early lt = words_none (core_of m) seat (course_at m seat).spent (need_at sheet m seat) (λ e. omega (arith, e, lt))

  late : 2 < (course_at m seat).spent → words_now sheet m t seat ≡ 0
  late lt = words_none (core_of m) seat (course_at m seat).spent (need_at sheet m seat) (λ e. omega (arith, e, lt))

  own_declared : seat < length sheet.high → KeepsDeclared (high_at sheet seat).script (course_now sheet m t seat) (high_at sheet seat).timing.cost (high_at sheet seat).words
  own_declared high =
      let e = high_is sheet seat high in
      let P : Task → Type 0 = λ (a : Task). KeepsDeclared a.script (course_now sheet m t seat) (high_at sheet seat).timing.cost (high_at sheet seat).words in
      subst P e (declared_keeps sheet.heap.fields sheet.heap.registers task script (course_at m seat) t kept ready (words_now sheet m t seat)
      (high_at sheet seat).timing.cost (high_at sheet seat).words
      (subst (λ (a : Task). greatest_ticks a.script ≤ (high_at sheet seat).timing.cost) (sym e) (within_declared _ _ (none_at is_too_long sheet.high seat no_high within.ticks high)))
      (subst (λ (a : Task). greatest_words a.script ≤ (high_at sheet seat).words) (sym e) (within_declared _ _ (none_at is_too_large sheet.high seat no_high within.words high)))
      (subst (λ (a : Task). KeepsDeclared a.script (course_at m seat) (high_at sheet seat).timing.cost (high_at sheet seat).words) (sym e) (h.declared seat high))
      (left_now sheet m t seat) early late (words_few (core_of m) seat (course_at m seat).spent (need_at sheet m seat)))

  -- a tick of a task keeps all jobs
  pub jobs_keep : JobsKept sheet (after_task sheet m t seat) (suc t)
  jobs_keep =
      let at = own_course sheet m t seat (subst (λ k. seat < k) (sym h.courses) below) in
      record {
        courses = as_many_courses sheet m t seat ∙ h.courses;
        course = λ other b. elim (cases_eq other seat) [
          | inl same ↦ subst (λ s. CourseKept (task_at sheet s) (course_at (after_task sheet m t seat) s) (suc t)) (sym same) (subst (λ (c : Course). CourseKept task c (suc t)) (sym at) own_after)
          | inr differs ↦ subst (λ (c : Course). CourseKept (task_at sheet other) c (suc t)) (sym (other_course sheet m t seat other differs)) (course_waits (task_at sheet other) (course_at m other) t (h.course other b))
        ];
        declared = λ other high. elim (cases_eq other seat) [
          | inl same ↦ subst (λ s. KeepsDeclared (high_at sheet s).script (course_at (after_task sheet m t seat) s) (high_at sheet s).timing.cost (high_at sheet s).words) (sym same)
              (subst (λ (c : Course). KeepsDeclared (high_at sheet seat).script c (high_at sheet seat).timing.cost (high_at sheet seat).words) (sym at) (own_declared (subst (λ s. s < length sheet.high) same high)))
          | inr differs ↦ subst (λ (c : Course). KeepsDeclared (high_at sheet other).script c (high_at sheet other).timing.cost (high_at sheet other).words) (sym (other_course sheet m t seat other differs)) (h.declared other high)
        ];
        in_step = task_keeps_step sheet m t seat below seats sized h.courses may h.in_step;
      }
