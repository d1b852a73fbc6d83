-- A tick of a task beside the same tick of the replay, whatever its job wants: it leaves the job in the same way, and each task
-- stands in both where the other says.
use Rattle.std.proofs.Common.{◌≡◌, ◌≢◌, ℕ, ◌+◌, ◌<◌, ◌≤◌, Bool, true, false, length, inl, inr, refl, sym, ◌∙◌, ap, subst, arith, Option, Some, None, length-set, get_or-set_same, get_or-set_other}
use Rattle.std.proofs.lemmas.Bool.{cases_eq}
use Rattle.std.specs.Prelude.{if◌then◌else◌}
use Rattle.hk_words.specs.declared.geometry.Geometry.{Geometry}
use Rattle.hk_words.specs.declared.call.Call.{Call}
use Rattle.hk_words.specs.declared.call.Reply.{Reply}
use Rattle.hk_words.specs.declared.call.Reply.TheVariants as reply
use Rattle.hk_words.specs.Geometry.{tasks}
use Rattle.hk_model.specs.Heap.{Heap, opening_of}
use Rattle.hk_model.specs.History.{after}
use Rattle.hk_model.specs.Replies.{reply_of, said}
use Rattle.hk_core.specs.declared.flight.Flight.{Flight}
use Rattle.hk_core.specs.declared.outcome.Fault.TheVariants as fault
use Rattle.hk_core.specs.declared.outcome.Outcome.TheVariants as outcome
use Rattle.hk_core.specs.State.{IsSized, flight_of}
use Rattle.hk_core.specs.Step.{outcome_at}
use Rattle.hk_core.specs.Begin.{refusal}
use Rattle.hk_core.specs.Lawful.{Lawful}
use Rattle.hk_core.specs.Places.{KeepsOthers}
use Rattle.hk_core.proofs.Actions.{IsLawfulRun}
use Rattle.hk_core.proofs.Replied.{is_done}
use Rattle.hk_collect.specs.Used.{Trace}
use Rattle.hk_script.specs.declared.walk.Need.{Need}
use Rattle.hk_script.specs.declared.walk.Need.TheVariants as need
use Rattle.hk_script.specs.declared.walk.Walk.{Walk}
use Rattle.hk_script.specs.Walks.{need_of, walk_after}
use Rattle.hk_sheet.specs.declared.sheet.Sheet.{Sheet}
use Rattle.hk_dispatch.specs.declared.operation.Left.{Left}
use Rattle.hk_dispatch.specs.declared.operation.Left.TheVariants as left
use Rattle.hk_dispatch.specs.Tasks.{Task, tasks_of, task_at, is_by}
use Rattle.hk_dispatch.specs.Moment.{Course, Moment, core_of, history_of, plain_heap, course_at, need_at}
use Rattle.hk_dispatch.specs.Turns.{to_task}
use Rattle.hk_dispatch.specs.InStep.{SeatInStep, MayBegin}
use Rattle.hk_dispatch.specs.Ticks.{asked, is_over, next_job, passed, course_after, after_task, left_by, run_by}
use Rattle.hk_dispatch.specs.Told.{out_of, end_of, out_in, end_in, told_turn}
use Rattle.hk_dispatch.specs.Replay.{Part, Played, first_part, part_past, part_after, part_at, wants_at, plays, play_left, play_heap, play_answer, played_by, played_after, out_by, end_by}
use Rattle.hk_dispatch.specs.Rules.{ready_now}
use Rattle.hk_dispatch.specs.Jobs.{JobsKept}
use Rattle.hk_dispatch.proofs.Courses.{left_now, words_now, course_now, own_course, other_course}
use Rattle.hk_dispatch.proofs.SeatsInStep.{MayBeginIf, none_flying}
use Rattle.hk_dispatch.proofs.InStep.{op_keeps}
use Rattle.hk_dispatch.proofs.ReplayTicks.{op_ticks}

-- THE PART OF A TASK in the replay says where its course is, and what its call in flight has answered
pub record PartFollows (x : Flight) (course : Course) (p : Part) : Type 0 where
  pub job : p.job ≡ course.job
  pub walk : p.walk ≡ course.walk
  pub spent : p.spent ≡ course.spent
  pub answer : 1 ≤ course.spent → 1 ≤ x.place → is_done x ≡ true → outcome_at x x.call ≡ outcome.Done p.answer

-- a part that has had no tick of its statement has answered nothing
pub follows_new : (y : Flight) (course : Course) (p : Part) → p.job ≡ course.job → p.walk ≡ course.walk → p.spent ≡ course.spent → course.spent ≡ 0 → PartFollows y course p
follows_new y course p job walk spent none = record { job = job; walk = walk; spent = spent; answer = λ some flying done. absurd (omega (arith, some, none)) }

module _ (task : Task) (course : Course) (p : Part) (t words : ℕ) (y : Flight) (job : p.job ≡ course.job) where
  next_follows : PartFollows y (next_job task course t) (first_part (p.job + 1))
  next_follows = follows_new y _ _ (ap (λ k. k + 1) job) (ap (λ k. (first_part (k + 1)).walk) job) refl refl

  past_follows : (w : Walk) → PartFollows y (passed task course t words w) (part_past task p w)
  past_follows w = by_over (is_over task w)
    where
      by_over : (b : Bool) → PartFollows y (if b then next_job task course t else record course { walk = w; spent = 0; had = course.had + 1; took = course.took + words })
          (if b then first_part (p.job + 1) else record { job = p.job; walk = w; spent = 0; answer = reply.Unit })
      by_over true = next_follows
      by_over false = follows_new y _ _ job refl refl refl

-- after a tick that leaves the job so
part_follows : (task : Task) (course : Course) (p : Part) (t words : ℕ) (x y : Flight) (answer : Reply) → PartFollows x course p
    → (1 ≤ y.place → is_done y ≡ true → outcome_at y y.call ≡ outcome.Done answer) → (l : Left) → PartFollows y (course_after task course t words l) (part_after task p answer l)
part_follows task course p t words x y answer h given left.Stays = record { job = h.job; walk = h.walk; spent = ap (λ k. k + 1) h.spent; answer = λ some flying done. given flying done }
part_follows task course p t words x y answer h given (left.Passes r) =
    subst (λ (w : Walk). PartFollows y (passed task course t words (walk_after task.script course.walk r)) (part_past task p (walk_after task.script w r))) (sym h.walk)
    (past_follows task course p t words y h.job (walk_after task.script course.walk r))
part_follows task course p t words x y answer h given (left.Faults f) = next_follows task course p t words y h.job

-- WHAT A JOB WANTS

-- beside the replay's tick: the plain heap, how the job is left, and what its call has answered once it had its effect
record NeedTicks (h k : Heap) (seat : ℕ) (p : Part) (wants : Option Need) (l : Left) (y : Flight) : Type 0 where
  heap : k ≡ play_heap h seat p wants
  leaves : l ≡ play_left h seat p wants
  answer : 1 ≤ y.place → is_done y ≡ true → outcome_at y y.call ≡ outcome.Done (play_answer h seat p wants)

-- a tick that does nothing on the heap
aside_ticks : (h k : Heap) (seat : ℕ) (p : Part) (wants : Option Need) (l : Left) (y : Flight) → k ≡ play_heap h seat p wants → l ≡ play_left h seat p wants → y.place ≡ 0 → NeedTicks h k seat p wants l y
aside_ticks h k seat p wants l y heap leaves idle = record { heap = heap; leaves = leaves; answer = λ flying done. absurd (omega (arith, flying, idle)) }

module _ (g : Geometry) (r : Trace) (geometry : r.running.core.geometry ≡ g) (lawful : IsLawfulRun r.running) (seat : ℕ) (below : seat < tasks r.running.core.geometry) (p : Part)
    (not_spent : (c : Call) → refusal r.running.core seat c ≢ Some fault.Spent) (room : (flight_of r.running.core.flights seat).full ≡ false)
    (before : 1 ≤ p.spent → 1 ≤ (flight_of r.running.core.flights seat).place → is_done (flight_of r.running.core.flights seat) ≡ true
    → outcome_at (flight_of r.running.core.flights seat) (flight_of r.running.core.flights seat).call ≡ outcome.Done p.answer) where
  abbrev h : Heap
  h = after (opening_of g) r.running.history

  need_ticks : (wants : Option Need) → SeatInStep (flight_of r.running.core.flights seat) wants p.spent
      → ((c : Call) → wants ≡ Some (need.Heap c) → MayBegin r.running.core.geometry c) → ((c : Call) → wants ≡ Some (need.Ask c) → said (asked r.running.core seat c) ≡ reply_of h seat c)
      → (flight_of (run_by r seat p.spent wants).running.core.flights seat).full ≡ false
      → NeedTicks h (after (opening_of g) (run_by r seat p.spent wants).running.history) seat p wants (left_by r.running.core seat p.spent wants) (flight_of (run_by r seat p.spent wants).running.core.flights seat)
  need_ticks (Some (need.Heap c)) s may answers room_after =
      let o = op_ticks g r geometry lawful seat below c p (may c refl) (not_spent c) p.spent refl s room room_after before in
      record { heap = o.heap; leaves = o.leaves; answer = o.answer }
  need_ticks (Some (need.Work n)) s may answers room_after = aside_ticks h h seat p (Some (need.Work n)) _ _ refl refl (none_flying _ _ _ s refl)
  need_ticks (Some need.Local) s may answers room_after = aside_ticks h h seat p (Some need.Local) _ _ refl refl (none_flying _ _ _ s refl)
  need_ticks (Some (need.Out value)) s may answers room_after = aside_ticks h h seat p (Some (need.Out value)) _ _ refl refl (none_flying _ _ _ s refl)
  need_ticks (Some (need.Ask c)) s may answers room_after =
      aside_ticks h h seat p (Some (need.Ask c)) _ _ refl (ap (λ (a : Reply). left.Passes a) (answers c refl)) (none_flying _ _ _ s refl)
  need_ticks None s may answers room_after = aside_ticks h h seat p None _ _ refl refl (none_flying _ _ _ s refl)

-- it leaves all other flights as they were
need_others : (r : Trace) (seat spent : ℕ) → IsSized r.running.core → seat < tasks r.running.core.geometry → (wants : Option Need)
    → SeatInStep (flight_of r.running.core.flights seat) wants spent → ((c : Call) → wants ≡ Some (need.Heap c) → MayBegin r.running.core.geometry c)
    → KeepsOthers r.running.core (run_by r seat spent wants).running.core seat
need_others r seat spent sized below (Some (need.Heap c)) s may = (op_keeps r seat c sized below (may c refl) spent s).others
need_others r seat spent sized below (Some (need.Work n)) s may = λ other differs. refl
need_others r seat spent sized below (Some need.Local) s may = λ other differs. refl
need_others r seat spent sized below (Some (need.Out value)) s may = λ other differs. refl
need_others r seat spent sized below (Some (need.Ask c)) s may = λ other differs. refl
need_others r seat spent sized below None s may = λ other differs. refl

-- THE MOMENT of a session, and where the replay stands then
pub record Follows (g : Geometry) (sheet : Sheet) (m : Moment) (s : Played) : Type 0 where
  pub heap : s.heap ≡ plain_heap g m
  pub parts : length s.parts ≡ length (tasks_of sheet)
  pub part : (seat : ℕ) → seat < length (tasks_of sheet) → PartFollows (flight_of (core_of m).flights seat) (course_at m seat) (part_at s seat)

-- what a session says at a tick of a task
pub record TaskTicks (g : Geometry) (sheet : Sheet) (m : Moment) (t seat : ℕ) : Type 0 where
  pub below : seat < length (tasks_of sheet)
  pub ready : ready_now sheet m t seat ≡ true
  pub geometry : (core_of m).geometry ≡ g
  pub lawful : Lawful (core_of m) (history_of m)
  pub jobs : JobsKept sheet m t
  pub count : tasks (core_of m).geometry ≡ length (tasks_of sheet)
  pub may : MayBeginIf sheet m seat
  pub not_spent : (c : Call) → refusal (core_of m) seat c ≢ Some fault.Spent
  pub answers : (c : Call) → need_at sheet m seat ≡ Some (need.Ask c) → said (asked (core_of m) seat c) ≡ reply_of (plain_heap g m) seat c
  pub room : (flight_of (core_of m).flights seat).full ≡ false
  pub room_after : (flight_of (core_of (after_task sheet m t seat)).flights seat).full ≡ false

module _ (g : Geometry) (sheet : Sheet) (m : Moment) (t seat : ℕ) (k : TaskTicks g sheet m t seat) (s : Played) (f : Follows g sheet m s) where
  abbrev n : Moment
  n = after_task sheet m t seat

  abbrev task : Task
  task = task_at sheet seat

  abbrev p : Part
  p = part_at s seat

  abbrev wants : Option Need
  wants = need_at sheet m seat

  own : PartFollows (flight_of (core_of m).flights seat) (course_at m seat) p
  own = f.part seat k.below

  same_wants : wants_at sheet s seat ≡ wants
  same_wants = ap (λ (w : Walk). need_of task.script w) own.walk

  plays_now : plays sheet s t seat ≡ true
  plays_now = ap (λ j. is_by (task.ready j) t) own.job ∙ k.ready

  -- what the tick does, as the replay does it
  need_now : NeedTicks (plain_heap g m) (plain_heap g n) seat p wants (left_now sheet m t seat) (flight_of (core_of n).flights seat)
  unfolding after_task
  need_now = by_spent (course_at m seat).spent own.spent (k.jobs.in_step seat k.below) k.room_after own.answer
    where
      by_spent : (spent : ℕ) → p.spent ≡ spent → SeatInStep (flight_of (core_of m).flights seat) wants spent → (flight_of (run_by m.trace seat spent wants).running.core.flights seat).full ≡ false
          → (1 ≤ spent → 1 ≤ (flight_of (core_of m).flights seat).place → is_done (flight_of (core_of m).flights seat) ≡ true
          → outcome_at (flight_of (core_of m).flights seat) (flight_of (core_of m).flights seat).call ≡ outcome.Done p.answer)
          → NeedTicks (plain_heap g m) (after (opening_of g) (run_by m.trace seat spent wants).running.history) seat p wants (left_by (core_of m) seat spent wants) (flight_of (run_by m.trace seat spent wants).running.core.flights seat)
      by_spent spent e step room_after before =
          subst (λ q. NeedTicks (plain_heap g m) (after (opening_of g) (run_by m.trace seat q wants).running.history) seat p wants (left_by (core_of m) seat q wants) (flight_of (run_by m.trace seat q wants).running.core.flights seat)) e
          (need_ticks g m.trace k.geometry k.lawful seat (subst (λ q. seat < q) (sym k.count) k.below) p k.not_spent k.room
          (λ some. before (omega (arith, some, e))) wants (subst (SeatInStep (flight_of (core_of m).flights seat) wants) (sym e) step) k.may k.answers
          (subst (λ q. (flight_of (run_by m.trace seat q wants).running.core.flights seat).full ≡ false) (sym e) room_after))

  others_now : KeepsOthers (core_of m) (core_of n) seat
  unfolding after_task
  others_now = need_others m.trace seat (course_at m seat).spent k.lawful.sized (subst (λ q. seat < q) (sym k.count) k.below) wants (k.jobs.in_step seat k.below) k.may

  same_left : play_left s.heap seat p (wants_at sheet s seat) ≡ left_now sheet m t seat
  same_left = ap (λ (h : Heap). play_left h seat p (wants_at sheet s seat)) f.heap ∙ ap (play_left (plain_heap g m) seat p) same_wants ∙ sym need_now.leaves

  same_answer : play_answer s.heap seat p (wants_at sheet s seat) ≡ play_answer (plain_heap g m) seat p wants
  same_answer = ap (λ (h : Heap). play_answer h seat p (wants_at sheet s seat)) f.heap ∙ ap (play_answer (plain_heap g m) seat p) same_wants

  same_heap : play_heap s.heap seat p (wants_at sheet s seat) ≡ plain_heap g n
  same_heap = ap (λ (h : Heap). play_heap h seat p (wants_at sheet s seat)) f.heap ∙ ap (play_heap (plain_heap g m) seat p) same_wants ∙ sym need_now.heap

  own_after : PartFollows (flight_of (core_of n).flights seat) (course_at n seat) (part_at (played_by sheet s seat) seat)
  own_after =
      let l = left_now sheet m t seat in
      let answer = play_answer (plain_heap g m) seat p wants in
      let is : part_at (played_by sheet s seat) seat ≡ part_after task p answer l =
      get_or-set_same s.parts seat _ _ (subst (λ q. seat < q) (sym f.parts) k.below)
      ∙ ap (λ (a : Reply). part_after task p a (play_left s.heap seat p (wants_at sheet s seat))) same_answer ∙ ap (λ (a : Left). part_after task p answer a) same_left in
      subst (λ (c : Course). PartFollows (flight_of (core_of n).flights seat) c (part_at (played_by sheet s seat) seat)) (sym (own_course sheet m t seat (subst (λ q. seat < q) (sym k.jobs.courses) k.below)))
      (subst (λ (q : Part). PartFollows (flight_of (core_of n).flights seat) (course_now sheet m t seat) q) (sym is)
      (part_follows task (course_at m seat) p t (words_now sheet m t seat) _ _ answer own need_now.answer l))

  other_after : (other : ℕ) → other < length (tasks_of sheet) → other ≢ seat → PartFollows (flight_of (core_of n).flights other) (course_at n other) (part_at (played_by sheet s seat) other)
  other_after other b differs =
      subst (λ (q : Part). PartFollows (flight_of (core_of n).flights other) (course_at n other) q) (sym (get_or-set_other s.parts seat other _ _ differs))
      (subst (λ (c : Course). PartFollows (flight_of (core_of n).flights other) c (part_at s other)) (sym (other_course sheet m t seat other differs))
      (subst (λ (x : Flight). PartFollows x (course_at m other) (part_at s other))
      (sym (others_now other differs)) (f.part other b)))

  task_follows_by : Follows g sheet n (played_by sheet s seat)
  task_follows_by = record {
    heap = same_heap;
    parts = length-set s.parts seat _ ∙ f.parts;
    part = λ other b. elim (cases_eq other seat) [
      | inl same ↦ subst (λ q. PartFollows (flight_of (core_of n).flights q) (course_at n q) (part_at (played_by sheet s seat) q)) (sym same) own_after
      | inr differs ↦ other_after other b differs
    ];
  }

  -- the tick leads on in both
  pub task_follows : Follows g sheet n (played_after sheet s t (to_task seat))
  task_follows = rw plays_now task_follows_by

  -- and both tell the same of it
  pub task_out : out_in (told_turn sheet m t (to_task seat)) ≡ out_by sheet s t (to_task seat)
  task_out = rw plays_now (ap out_of (sym same_wants))

  pub task_end : end_in (told_turn sheet m t (to_task seat)) ≡ end_by sheet s t (to_task seat)
  task_end = rw plays_now (
      ap (λ j. end_of task j (course_at m seat).walk t (left_now sheet m t seat)) (sym own.job)
      ∙ ap (λ (w : Walk). end_of task p.job w t (left_now sheet m t seat)) (sym own.walk)
      ∙ ap (end_of task p.job p.walk t) (sym same_left)
      )
