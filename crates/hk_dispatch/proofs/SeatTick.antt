-- The tick of a seat's job: what it asks holds of the run that shows the course, and what it leaves shows the course after it.
use Rattle.std.proofs.Common.{◌≡◌, ℕ, suc, ◌+◌, ◌*◌, ◌^◌, ◌<◌, ◌≤◌, true, List, length, Option, Some, None, refl, sym, ◌∙◌, ap, subst, arith}
use Rattle.std.proofs.lemmas.Nat.{mul-le}
use Rattle.std.specs.Prelude.{nat_lt, ◌&&◌, IfSome}
use Rattle.hk_words.specs.declared.call.Call.{Call}
use Rattle.hk_words.specs.declared.call.Call.TheVariants as call
use Rattle.hk_words.specs.declared.geometry.Geometry.{Geometry}
use Rattle.hk_words.specs.Bounds.{places_of}
use Rattle.hk_words.specs.Calls.{RegistersFit}
use Rattle.hk_model.specs.History.{is_question}
use Rattle.hk_core.specs.State.{State, flight_of}
use Rattle.hk_script.specs.declared.statement.Statement.{Statement}
use Rattle.hk_script.specs.declared.walk.Need.{Need}
use Rattle.hk_script.specs.declared.walk.Need.TheVariants as need
use Rattle.hk_script.specs.declared.walk.Walk.{Walk}
use Rattle.hk_script.specs.Blocks.{IsScript}
use Rattle.hk_script.specs.Limits.{limits_of}
use Rattle.hk_script.specs.Needs.{NeedFits}
use Rattle.hk_script.specs.Walks.{need_of}
use Rattle.hk_script.proofs.Needs.{need_fits}
use Rattle.hk_sheet.specs.declared.sheet.Sheet.{Sheet}
use Rattle.hk_dispatch.specs.declared.run.TaskRun.{TaskRun}
use Rattle.hk_dispatch.specs.Tasks.{Task, tasks_of, task_at}
use Rattle.hk_dispatch.specs.Moment.{Course, Moment, core_of, course_at, need_at}
use Rattle.hk_dispatch.specs.Turns.{is_operation, in_mid_course}
use Rattle.hk_dispatch.specs.Ticks.{words_by, left_by, course_after, after_task}
use Rattle.hk_dispatch.specs.Told.{out_of, end_of}
use Rattle.hk_dispatch.specs.InStep.{SeatInStep, MayBegin}
use Rattle.hk_dispatch.specs.Kept.{CourseKept}
use Rattle.hk_dispatch.specs.TaskRuns.{ShowsCourse, MayWant, wanted, shown, core_by}
use Rattle.hk_dispatch.specs.Opened.{MayGo}
use Rattle.hk_dispatch.proofs.Courses.{left_now, words_now, course_now, own_course}
use Rattle.hk_dispatch.proofs.Sheets.{scripts}
use Rattle.hk_dispatch.proofs.Walking.{may_begin_wanted}
use Rattle.hk_dispatch.proofs.SeatCore.{by_core}
use Rattle.hk_dispatch.proofs.ShownAfter.{end_now}

asks_question : (c : Call) → places_of c ≡ 0 → is_question c ≡ true
asks_question (call.Get reg field) e = absurd (omega (arith, e))
asks_question (call.Put reg field value) e = absurd (omega (arith, e))
asks_question (call.Load dest reg field) e = absurd (omega (arith, e))
asks_question (call.Store reg field from) e = absurd (omega (arith, e))
asks_question (call.Move dest from) e = absurd (omega (arith, e))
asks_question (call.Clear dest) e = absurd (omega (arith, e))
asks_question (call.New dest shape) e = absurd (omega (arith, e))
asks_question (call.Same a b) e = refl
asks_question (call.IsNull reg) e = refl

-- what a walk wants may be wanted
module _ (g : Geometry) (fields registers : ℕ) (s : List Statement) (w : Walk) (script : IsScript (limits_of fields registers) s) (same : registers ≡ g.registers) where
  may_want : (o : Option Need) → need_of s w ≡ o → IfSome o (NeedFits (limits_of fields registers)) → IfSome o (MayWant g)
  may_want None e f = tt
  may_want (Some (need.Heap c)) e f = may_begin_wanted g fields registers s w c script same e
  may_want (Some (need.Ask c)) e f = (asks_question c f.1, subst (λ r. RegistersFit r c) same f.0)
  may_want (Some (need.Work n)) e f = tt
  may_want (Some need.Local) e f = tt
  may_want (Some (need.Out value)) e f = tt

module _ (sheet : Sheet) (m : Moment) (tick : ℕ) (may : MayGo sheet m tick) (seat : ℕ) (below : seat < length (tasks_of sheet)) (task : Task) (task_is : task ≡ task_at sheet seat)
    (heap : State) (heap_is : heap ≡ core_of m) (run : TaskRun) (shows : ShowsCourse (task_at sheet seat) (course_at m seat) run) where
  abbrev n : Moment
  n = after_task sheet m tick seat

  wanted_is : wanted task run ≡ need_at sheet m seat
  wanted_is = λ i. need_of (task_is i).script (shows.walk i)

  -- WHAT IT ASKS

  pub course_kept : CourseKept task (shown run 0) tick
  course_kept =
      let k = may.jobs.course seat below in
      let same : shown run 0 ≡ record (course_at m seat) { took = 0 } = λ i. record { job = shows.job i; walk = shows.walk i; spent = shows.spent i; had = shows.had i; took = 0; latest = shows.latest i } in
      subst (λ (t : Task). CourseKept t (shown run 0) tick) (sym task_is) (subst (λ (c : Course). CourseKept (task_at sheet seat) c tick) (sym same)
      (record { fits = k.fits; within = k.within; turns = k.turns; spent_few = k.spent_few; spent_had = k.spent_had; began = k.began; jobs_few = k.jobs_few }))

  pub wants_fit : IfSome (wanted task run) (MayWant heap.geometry)
  wants_fit =
      let script = scripts sheet may.readable seat below in
      subst (λ (o : Option Need). IfSome o (MayWant heap.geometry)) (sym wanted_is) (subst (λ (c : State). IfSome (need_at sheet m seat) (MayWant c.geometry)) (sym heap_is)
      (may_want (core_of m).geometry sheet.heap.fields sheet.heap.registers (task_at sheet seat).script (course_at m seat).walk script may.registers (need_at sheet m seat) refl
      (need_fits (limits_of sheet.heap.fields sheet.heap.registers) (task_at sheet seat).script (course_at m seat).walk script)))

  pub in_step : SeatInStep (flight_of heap.flights seat) (wanted task run) run.spent
  in_step = subst (λ (c : State). SeatInStep (flight_of c.flights seat) (wanted task run) run.spent) (sym heap_is)
      (subst (λ k. SeatInStep (flight_of (core_of m).flights seat) (wanted task run) k) (sym (shows.spent))
      (subst (λ (o : Option Need). SeatInStep (flight_of (core_of m).flights seat) o (course_at m seat).spent) (sym wanted_is) (may.jobs.in_step seat below)))

  -- WHAT IT LEAVES

  begins : (c : Call) → need_at sheet m seat ≡ Some (need.Heap c) → MayBegin (core_of m).geometry c
  begins c is = may_begin_wanted (core_of m).geometry sheet.heap.fields sheet.heap.registers (task_at sheet seat).script (course_at m seat).walk c (scripts sheet may.readable seat below) may.registers is

  pub core_is : core_by heap seat run.spent (wanted task run) ≡ core_of n
  unfolding after_task
  core_is = (λ i. core_by (heap_is i) seat (shows.spent i) (wanted_is i))
      ∙ by_core m.trace seat may.sized (subst (λ k. seat < k) (sym (may.seats)) below) (course_at m seat).spent (need_at sheet m seat) begins (may.jobs.in_step seat below)

  pub words_is : words_by heap seat run.spent (wanted task run) ≡ words_now sheet m tick seat
  words_is = λ i. words_by (heap_is i) seat (shows.spent i) (wanted_is i)

  pub left_is : left_by heap seat run.spent (wanted task run) ≡ left_now sheet m tick seat
  left_is = λ i. left_by (heap_is i) seat (shows.spent i) (wanted_is i)

  pub out_is : out_of (wanted task run) ≡ out_of (need_at sheet m seat)
  out_is = ap out_of wanted_is

  pub end_is : end_of task run.job run.walk tick (left_by heap seat run.spent (wanted task run)) ≡ end_now sheet m tick seat
  end_is = λ i. end_of (task_is i) (shows.job i) (shows.walk i) tick (left_is i)

  module _ (after : TaskRun)
      (leads : (course : Course) → ShowsCourse task course run → ShowsCourse task (course_after task course tick (words_by heap seat run.spent (wanted task run)) (left_by heap seat run.spent (wanted task run))) after) where
    pub course_shown : ShowsCourse (task_at sheet seat) (course_now sheet m tick seat) after
    course_shown =
        let own : ShowsCourse task (course_at m seat) run = subst (λ (t : Task). ShowsCourse t (course_at m seat) run) (sym task_is) shows in
        let same : course_after task (course_at m seat) tick (words_by heap seat run.spent (wanted task run)) (left_by heap seat run.spent (wanted task run)) ≡ course_now sheet m tick seat =
        λ i. course_after (task_is i) (course_at m seat) tick (words_is i) (left_is i) in
        subst (λ (t : Task). ShowsCourse t (course_now sheet m tick seat) after) task_is (subst (λ (c : Course). ShowsCourse task c after) same (leads (course_at m seat) own))

    pub mid_course_is : (is_operation (wanted task after) && nat_lt 0 after.spent) ≡ in_mid_course sheet n seat
    unfolding in_mid_course
    mid_course_is =
        let s = course_shown in
        let own = own_course sheet m tick seat (subst (λ k. seat < k) (sym (may.jobs.courses)) below) in
        (λ i. is_operation (need_of (task_is i).script (s.walk i)) && nat_lt 0 (s.spent i))
        ∙ ap (λ (c : Course). is_operation (need_of (task_at sheet seat).script c.walk) && nat_lt 0 c.spent) (sym own)

  -- what is owed afterwards
  pub debt_after_is : (debt words : ℕ) → debt ≡ m.debt → words ≡ words_by heap seat run.spent (wanted task run) → debt + sheet.heap.rate * words ≡ n.debt
  unfolding after_task
  debt_after_is debt words e w = λ i. e i + sheet.heap.rate * (w ∙ words_is) i

  pub debt_within : (debt words : ℕ) → debt ≤ tick * 2 ^ 33 → words ≤ 511 → debt + sheet.heap.rate * words ≤ suc tick * 2 ^ 33
  debt_within debt words few some =
      let most = mul-le sheet.heap.rate words 4096 511 may.readable.heap.rate.at_most some in
      omega (arith, few, most)
