-- The outputs, the faults and the ends of all jobs of a session are those of the replay on the heap that never collects, by who
-- got each tick.
use Rattle.std.proofs.Common.{◌≡◌, ℕ, zero, suc, ◌+◌, ◌<◌, true, false, List, length, refl, sym, ◌∙◌, ap, subst, arith, Option, Some, None}
use Rattle.std.proofs.lemmas.Bool.{lt-ltb}
use Rattle.std.proofs.lemmas.List.{length-replicate}
use Rattle.std.specs.Prelude.{slice_index_or}
use Rattle.hk_words.specs.declared.geometry.Geometry.{Geometry}
use Rattle.hk_words.specs.Geometry.{tasks}
use Rattle.hk_model.specs.Heap.{opening_of}
use Rattle.hk_model.specs.History.{after}
use Rattle.hk_model.proofs.Views.{get_or-replicate_same}
use Rattle.hk_core.specs.declared.flight.Flight.{Flight}
use Rattle.hk_core.specs.declared.spot.Work.{Work}
use Rattle.hk_core.specs.State.{State, flight_of}
use Rattle.hk_core.specs.Collect.{next_collected, work_by_collector}
use Rattle.hk_collect.specs.Used.{trace_opening}
use Rattle.hk_plan.specs.declared.Ready.{Ready}
use Rattle.hk_sheet.specs.declared.sheet.Sheet.{Sheet}
use Rattle.hk_dispatch.specs.Tasks.{tasks_of, task_at}
use Rattle.hk_dispatch.specs.Moment.{Course, Moment, no_course, core_of, history_of, course_at, opening}
use Rattle.hk_dispatch.specs.Turns.{Turn, to_task, to_collector, to_nobody, in_mid_course, turn}
use Rattle.hk_dispatch.specs.Ticks.{over_in, after_task, after_event, after_turn}
use Rattle.hk_dispatch.specs.Session.{after_tick, state, who_gets, IsMoment, IsTick, IsSession}
use Rattle.hk_dispatch.specs.Told.{told, told_by, told_turn, told_event, out_in, end_in}
use Rattle.hk_dispatch.specs.Replay.{Part, Played, first_part, part_at, played, played_after, out_by, end_by, replayed_out, replayed_end}
use Rattle.hk_dispatch.specs.Rules.{ready_now, TurnIs, by_high, by_operation, by_collector, by_low, by_nobody}
use Rattle.hk_dispatch.specs.Jobs.{JobsKept}
use Rattle.hk_dispatch.specs.Laws.{SessionIsReplay}
use Rattle.hk_dispatch.proofs.TurnFacts.{turn_is}
use Rattle.hk_dispatch.proofs.Sheets.{scripts, seats}
use Rattle.hk_dispatch.proofs.Walking.{may_begin_wanted}
use Rattle.hk_dispatch.proofs.CollectorTick.{core_collected, history_collected}
use Rattle.hk_dispatch.proofs.Waiting.{mid_course_ready, seat_below}
use Rattle.hk_dispatch.proofs.Runs.{geometry_at, lawful_at}
use Rattle.hk_dispatch.proofs.SessionJobs.{jobs_kept}
use Rattle.hk_dispatch.proofs.Promises.{no_task_is_spent, questions_are_answered}
use Rattle.hk_dispatch.proofs.Owed.{NoneFull}
use Rattle.hk_dispatch.proofs.ReplayTasks.{PartFollows, Follows, TaskTicks, follows_new, task_follows, task_out, task_end}

-- THE START

module _ (g : Geometry) (sheet : Sheet) where
  part_first : (seat : ℕ) (x : Flight) (course : Course) (p : Part) → course ≡ no_course → p ≡ first_part 0 → PartFollows x course p
  part_first seat x course p c q = follows_new x course p (ap (λ (a : Part). a.job) q ∙ sym (ap (λ (a : Course). a.job) c)) (ap (λ (a : Part). a.walk) q ∙ sym (ap (λ (a : Course). a.walk) c))
      (ap (λ (a : Part). a.spent) q ∙ sym (ap (λ (a : Course). a.spent) c)) (ap (λ (a : Course). a.spent) c)

  follows_first : (whos : ℕ → Turn) → Follows g sheet (opening g sheet) (played (opening_of g) sheet whos 0)
  unfolding opening played trace_opening after
  follows_first whos = record {
    heap = refl;
    parts = length-replicate (length (tasks_of sheet)) (first_part 0);
    part = λ seat below. part_first seat _ _ _ (get_or-replicate_same (length (tasks_of sheet)) seat no_course) (get_or-replicate_same (length (tasks_of sheet)) seat (first_part 0));
  }

-- A TICK

-- the session and the replay tell the same of it, and go on as the other does
record TurnReplays (g : Geometry) (sheet : Sheet) (m : Moment) (s : Played) (t : ℕ) (o : Turn) : Type 0 where
  out : out_in (told_turn sheet m t o) ≡ out_by sheet s t o
  ended : end_in (told_turn sheet m t o) ≡ end_by sheet s t o
  follows : Follows g sheet (after_turn sheet m t o) (played_after sheet s t o)

module _ (g : Geometry) (sheet : Sheet) (m : Moment) (s : Played) (f : Follows g sheet m s) where
  -- of the collector, or of nobody: it changes no course, no flight and no history
  follows_still : (n : Moment) → history_of n ≡ history_of m → (core_of n).flights ≡ (core_of m).flights → n.courses ≡ m.courses → Follows g sheet n s
  follows_still n history flights courses = record {
    heap = f.heap ∙ ap (after (opening_of g)) (sym history);
    parts = f.parts;
    part = λ seat below. subst (λ (cs : List Course). PartFollows (flight_of (core_of n).flights seat) (slice_index_or cs seat no_course) (part_at s seat)) (sym courses)
        (subst (λ (xs : List Flight). PartFollows (flight_of xs seat) (course_at m seat) (part_at s seat)) (sym flights) (f.part seat below));
  }

  follows_event : Follows g sheet (after_event m) s
  unfolding after_event next_collected
  follows_event = follows_still (after_event m) (history_collected m) (ap (λ (c : State). c.flights) (core_collected m)) refl

  -- an event puts out nothing and ends no job
  event_tells : (done : Work) (over : Option ℕ) → (out_in (told_event done over) ≡ None) × (end_in (told_event done over) ≡ None)
  event_tells done None = (refl, refl)
  event_tells done (Some words) = (refl, refl)

  turn_replays : (t : ℕ) (o : Turn) → ((seat : ℕ) → o ≡ to_task seat → TaskTicks g sheet m t seat) → TurnReplays g sheet m s t o
  turn_replays t (to_task seat) tick =
      let k = tick seat refl in
      record { out = task_out g sheet m t seat k s f; ended = task_end g sheet m t seat k s f; follows = task_follows g sheet m t seat k s f }
  turn_replays t to_collector tick =
      let e = event_tells (work_by_collector (core_of m)) (over_in (work_by_collector (core_of m))) in
      record { out = e.0; ended = e.1; follows = follows_event }
  turn_replays t to_nobody tick = record { out = refl; ended = refl; follows = follows_still (record m { idle = m.idle + 1 }) refl refl refl }

-- a tick that goes to a task goes to a ready job
gets_ready : (choice : List Ready → ℕ) (sheet : Sheet) (m : Moment) (t : ℕ) → JobsKept sheet m t → (o : Turn) (seat : ℕ) → seat < length (tasks_of sheet) → TurnIs choice sheet m t o → o ≡ to_task seat
    → ready_now sheet m t seat ≡ true
gets_ready choice sheet m t jobs o seat below (by_high other h) e = let same : other ≡ seat = cc in subst (λ k. ready_now sheet m t k ≡ true) same h.ready
gets_ready choice sheet m t jobs o seat below (by_operation other h) e =
    let same : other ≡ seat = cc in
    mid_course_ready sheet m t jobs seat below (subst (λ k. in_mid_course sheet m k ≡ true) same h.first.passes)
gets_ready choice sheet m t jobs o seat below (by_collector h) e = absurd (cc)
gets_ready choice sheet m t jobs o seat below (by_low other h) e = let same : other ≡ seat = cc in subst (λ k. ready_now sheet m t k ≡ true) same h.first.passes
gets_ready choice sheet m t jobs o seat below (by_nobody h) e = absurd (cc)

-- THE RUN

module _ (none_full : NoneFull) (g : Geometry) (choice : List Ready → ℕ) (sheet : Sheet) (work attempt busy debt : ℕ) (s : IsSession g choice sheet work attempt busy debt) where
  abbrev at : ℕ → Moment
  at t = state g choice sheet t

  abbrev play : ℕ → Played
  play t = played (opening_of g) sheet (who_gets g choice sheet) t

  -- before the collector found too many words reserved the run goes on
  goes_on : (t : ℕ) → (at t).over ≡ None → at (suc t) ≡ after_turn sheet (at t) t (turn choice sheet (at t) t)
  unfolding state
  goes_on t not_over = ap (after_tick choice sheet (at t) t) not_over

  over_before : (t : ℕ) → (at (suc t)).over ≡ None → (at t).over ≡ None
  unfolding state
  over_before t not_over = by_over (at t).over refl not_over
    where
      by_over : (o : Option ℕ) → (at t).over ≡ o → (after_tick choice sheet (at t) t o).over ≡ None → (at t).over ≡ None
      by_over None e n = e
      by_over (Some words) e n = n

  module _ (t : ℕ) (tick : IsTick g choice sheet t) (seat : ℕ) (goes : turn choice sheet (at t) t ≡ to_task seat) where
    abbrev m : Moment
    m = at t

    jobs : JobsKept sheet m t
    jobs = jobs_kept g choice s.choice_is sheet s.checked.readable s.checked.declared s.sizes t

    below : seat < length (tasks_of sheet)
    below = seat_below choice sheet m t (turn choice sheet m t) seat (turn_is choice sheet m t s.choice_is) goes

    registers : sheet.heap.registers ≡ (core_of m).geometry.registers
    registers = sym (s.sizes.registers) ∙ sym (ap (λ (k : Geometry). k.registers) (geometry_at g choice sheet t))

    next_is : at (suc t) ≡ after_task sheet m t seat
    next_is = goes_on t tick.before_over ∙ ap (after_turn sheet m t) goes

    next_moment : IsMoment g choice sheet (suc t)
    unfolding after_task
    next_moment = record { within = let w = tick.within in omega (arith, w); before_over = ap (λ (n : Moment). n.over) next_is ∙ tick.before_over }

    task_ticks : TaskTicks g sheet m t seat
    task_ticks = record {
      below = below;
      ready = gets_ready choice sheet m t jobs (turn choice sheet m t) seat below (turn_is choice sheet m t s.choice_is) goes;
      geometry = geometry_at g choice sheet t;
      lawful = lawful_at g choice sheet t;
      jobs = jobs;
      count = ap tasks (geometry_at g choice sheet t) ∙ seats g sheet s.sizes;
      may = λ c is. may_begin_wanted (core_of m).geometry sheet.heap.fields sheet.heap.registers (task_at sheet seat).script (course_at m seat).walk c (scripts sheet s.checked.readable seat below) registers is;
      not_spent = λ c. no_task_is_spent g choice sheet work attempt busy debt s t tick seat c goes;
      answers = λ c is. questions_are_answered g choice sheet work attempt busy debt s t tick seat c goes is;
      room = none_full g choice sheet work attempt busy debt s t (record { within = let w = tick.within in omega (arith, w); before_over = tick.before_over }) seat;
      room_after = subst (λ (n : Moment). (flight_of (core_of n).flights seat).full ≡ false) next_is (none_full g choice sheet work attempt busy debt s (suc t) next_moment seat);
    }

  turn_at : (t : ℕ) → IsTick g choice sheet t → Follows g sheet (at t) (play t) → TurnReplays g sheet (at t) (play t) t (turn choice sheet (at t) t)
  turn_at t tick f = turn_replays g sheet (at t) (play t) f t (turn choice sheet (at t) t) (task_ticks t tick)

  follows : (t : ℕ) → IsMoment g choice sheet t → Follows g sheet (at t) (play t)
  unfolding state played who_gets
  follows zero moment = follows_first g sheet (who_gets g choice sheet)
  follows (suc t) moment =
      let before = over_before t moment.before_over in
      let w = moment.within in
      let tick : IsTick g choice sheet t = record { within = omega (arith, w); before_over = before } in
      let f = follows t (record { within = omega (arith, w); before_over = before }) in
      subst (λ (n : Moment). Follows g sheet n (play (suc t))) (sym (goes_on t before)) (turn_at t tick f).follows

  replay_at : (t : ℕ) → IsTick g choice sheet t → TurnReplays g sheet (at t) (play t) t (turn choice sheet (at t) t)
  replay_at t tick = turn_at t tick (follows t (record { within = let w = tick.within in omega (arith, w); before_over = tick.before_over }))

  told_is : (t : ℕ) → IsTick g choice sheet t → told g choice sheet t ≡ told_turn sheet (at t) t (turn choice sheet (at t) t)
  unfolding told
  told_is t tick = ap (told_by choice sheet (at t) t) tick.before_over ∙ rw (lt-ltb t sheet.ticks tick.within) refl

-- the promise
pub session_is_replay : NoneFull → SessionIsReplay
unfolding replayed_out replayed_end who_gets
session_is_replay none_full g choice sheet work attempt busy debt s t tick =
    let r = replay_at none_full g choice sheet work attempt busy debt s t tick in
    let is = told_is none_full g choice sheet work attempt busy debt s t tick in
    (ap out_in is ∙ r.out, ap end_in is ∙ r.ended)
