-- No call of a session finds too few words. So no New is refused.
use Rattle.std.proofs.Common.{◌≡◌, ◌≢◌, ℕ, zero, suc, ◌+◌, ◌-◌, ◌<◌, ◌≤◌, Bool, true, false, List, [], ◌∷◌, length, Option, Some, None, refl, sym, ◌∙◌, ap, subst, arith, inl, inr, get_or}
use Rattle.std.proofs.lemmas.Bool.{cases_Bool}
use Rattle.std.specs.Prelude.{map, nat_lt, if◌then◌else◌}
use Rattle.std.specs.List.{range_with_len}
use Rattle.hk_words.specs.declared.call.Call.{Call}
use Rattle.hk_words.specs.declared.call.Call.TheVariants as call
use Rattle.hk_words.specs.declared.call.Reply.TheVariants as reply
use Rattle.hk_words.specs.declared.geometry.Geometry.{Geometry}
use Rattle.hk_words.specs.declared.shape.Shape.{Shape}
use Rattle.hk_words.specs.Geometry.{HasSizes, tasks}
use Rattle.hk_words.specs.Shape.{size}
use Rattle.hk_model.specs.Replies.{said}
use Rattle.hk_core.specs.declared.flight.Flight.{Flight}
use Rattle.hk_core.specs.declared.outcome.Fault.{Fault}
use Rattle.hk_core.specs.State as machine
use Rattle.hk_core.specs.State.{State, IsSized, flight_of}
use Rattle.hk_core.specs.Step.{limit_of}
use Rattle.hk_core.specs.Begin.{refusal, first_flight, after_begin}
use Rattle.hk_core.specs.Collect.{next_collected}
use Rattle.hk_core.specs.Lawful.{Lawful}
use Rattle.hk_core.proofs.Places.{begins_first}
use Rattle.hk_core.proofs.Turns.{has_flight}
use Rattle.hk_collect.specs.Used.{trace_opening}
use Rattle.hk_plan.specs.declared.Ready.{Ready}
use Rattle.hk_script.specs.declared.walk.Need.{Need}
use Rattle.hk_script.specs.declared.walk.Need.TheVariants as need
use Rattle.hk_sheet.specs.declared.sheet.Sheet.{Sheet}
use Rattle.hk_sheet.specs.Faults.{sizes_of}
use Rattle.hk_dispatch.specs.declared.operation.Left.TheVariants as left
use Rattle.hk_dispatch.specs.Tasks.{tasks_of, task_at, is_high}
use Rattle.hk_dispatch.specs.Moment.{Moment, core_of, history_of, course_at, need_at, opening}
use Rattle.hk_dispatch.specs.Turns.{Turn, to_task, turn}
use Rattle.hk_dispatch.specs.Ticks.{leaves_first, leaves_on, left_by, asked, after_event, after_turn}
use Rattle.hk_dispatch.specs.Session.{after_tick, state, IsSession, IsTick}
use Rattle.hk_dispatch.specs.Rules.{TurnIs, by_high, by_operation, by_collector, by_low, by_nobody}
use Rattle.hk_dispatch.specs.Jobs.{JobsKept}
use Rattle.hk_dispatch.specs.Laws.{DebtWithin, HighNewsFindRoom, LowNewsBeginQuiet, LowNewsFindRoom, NoNewIsRefused}
use Rattle.hk_dispatch.proofs.CollectorTick.{core_collected}
use Rattle.hk_dispatch.proofs.Owed.{OwedForNews, NoneFull}
use Rattle.hk_dispatch.proofs.RoomNews.{moment_of, high_news_find_room, low_news_begin_quiet, low_news_find_room}
use Rattle.hk_dispatch.proofs.RoomSteps.{answers_room}
use Rattle.hk_dispatch.proofs.RoomTicks.{FindsRoom, AllRoom, task_room}
use Rattle.hk_dispatch.proofs.Runs.{geometry_at, lawful_at}
use Rattle.hk_dispatch.proofs.SeatsInStep.{MayBeginIf}
use Rattle.hk_dispatch.proofs.SessionJobs.{jobs_kept}
use Rattle.hk_dispatch.proofs.Sheets.{scripts, seats, high_seats}
use Rattle.hk_dispatch.proofs.TurnFacts.{turn_is}
use Rattle.hk_dispatch.proofs.Waiting.{seat_below}
use Rattle.hk_dispatch.proofs.Walking.{may_begin_wanted}

-- THE START

all_room_first : (xs : List ℕ) (i : ℕ) (d : Flight) → d.full ≡ false → (get_or (map machine.idle xs) i d).full ≡ false
unfolding machine.idle
all_room_first [] i d e = e
all_room_first (x ∷ xs) zero d e = refl
all_room_first (x ∷ xs) (suc i) d e = all_room_first xs i d e

room_at_start : (g : Geometry) → AllRoom (machine.opening g)
unfolding machine.opening flight_of machine.idle
room_at_start g seat = all_room_first (range_with_len 0 (tasks g)) seat (machine.idle seat) refl

-- LIMITS: a high seat may use all words, and a low one leaves the reserve
module _ (k : Geometry) (sheet : Sheet) (sizes : HasSizes k (sizes_of sheet)) (seat : ℕ) where
  limit_is : limit_of k seat ≡ (if is_high sheet seat then sheet.heap.alloc else sheet.heap.alloc - sheet.heap.reserve)
  limit_is =
      let high = high_seats k sheet sizes in
      λ i. if nat_lt seat (high i) then sizes.alloc i else sizes.alloc i - sizes.reserve i

  high_limit : is_high sheet seat ≡ true → limit_of k seat ≡ sheet.heap.alloc
  high_limit e = limit_is ∙ ap (λ (b : Bool). if b then sheet.heap.alloc else sheet.heap.alloc - sheet.heap.reserve) e

  low_limit : is_high sheet seat ≡ false → limit_of k seat ≡ sheet.heap.alloc - sheet.heap.reserve
  low_limit e = limit_is ∙ ap (λ (b : Bool). if b then sheet.heap.alloc else sheet.heap.alloc - sheet.heap.reserve) e

within_limit : (used words most limit : ℕ) → limit ≡ most → used + words ≤ most → used + words ≤ limit
within_limit used words most limit is free = omega (arith, is, free)

beside_reserve : (used words reserve alloc limit : ℕ) → limit ≡ alloc - reserve → used + words + reserve ≤ alloc → used + words ≤ limit
beside_reserve used words reserve alloc limit is free = omega (arith, is, free)

-- A TICK

module _ (choice : List Ready → ℕ) (sheet : Sheet) (m : Moment) (t : ℕ) (lawful : Lawful (core_of m) (history_of m)) (jobs : JobsKept sheet m t)
    (count : tasks (core_of m).geometry ≡ length (tasks_of sheet)) (may : (seat : ℕ) → seat < length (tasks_of sheet) → MayBeginIf sheet m seat)
    (finds : (seat dest : ℕ) (shape : Shape) → turn choice sheet m t ≡ to_task seat → need_at sheet m seat ≡ Some (need.Heap (call.New dest shape)) → FindsRoom (core_of m) seat (course_at m seat).spent (size shape))
    (all : AllRoom (core_of m)) where
  to_a_task : (seat : ℕ) → seat < length (tasks_of sheet) → turn choice sheet m t ≡ to_task seat → AllRoom (core_of (after_turn sheet m t (to_task seat)))
  to_a_task seat below goes = task_room sheet m t seat lawful (subst (λ k. seat < k) (sym count) below) (may seat below) (λ dest shape wants. finds seat dest shape goes wants) all (jobs.in_step seat below)

  same_flights : (core_of (after_event m)).flights ≡ (core_of m).flights
  unfolding next_collected
  same_flights = ap (λ (c : State). c.flights) (core_collected m)

  turn_room : (o : Turn) → TurnIs choice sheet m t o → turn choice sheet m t ≡ o → AllRoom (core_of (after_turn sheet m t o))
  turn_room o (by_high seat f) goes = to_a_task seat (seat_below choice sheet m t o seat (by_high seat f) refl) goes
  turn_room o (by_operation seat f) goes = to_a_task seat (seat_below choice sheet m t o seat (by_operation seat f) refl) goes
  turn_room o (by_collector f) goes = λ seat. ap (λ (fs : List Flight). (flight_of fs seat).full) same_flights ∙ all seat
  turn_room o (by_low seat f) goes = to_a_task seat (seat_below choice sheet m t o seat (by_low seat f) refl) goes
  turn_room o (by_nobody f) goes = all

-- THE RUN

module _ (high : HighNewsFindRoom) (quiet : LowNewsBeginQuiet) (low : LowNewsFindRoom) (g : Geometry) (choice : List Ready → ℕ) (sheet : Sheet) (work attempt busy debt : ℕ)
    (s : IsSession g choice sheet work attempt busy debt) where
  abbrev at : ℕ → Moment
  at t = state g choice sheet t

  sizes_at : (t : ℕ) → HasSizes (core_of (at t)).geometry (sizes_of sheet)
  sizes_at t = subst (λ (k : Geometry). HasSizes k (sizes_of sheet)) (sym (geometry_at g choice sheet t)) s.sizes

  -- a New that gets a tick finds room
  news_find : (t : ℕ) → IsTick g choice sheet t → (seat dest : ℕ) (shape : Shape) → turn choice sheet (at t) t ≡ to_task seat
      → need_at sheet (at t) seat ≡ Some (need.Heap (call.New dest shape)) → FindsRoom (core_of (at t)) seat (course_at (at t) seat).spent (size shape)
  news_find t tick seat dest shape goes wants =
      let k = (core_of (at t)).geometry in
      let sizes = sizes_at t in
      elim (cases_Bool (is_high sheet seat)) [
        | inl is_high' ↦ record {
          first = λ e. within_limit _ (size shape) _ (limit_of k seat) (high_limit k sheet sizes seat is_high')
              (high g choice sheet work attempt busy debt s t tick seat 0 shape is_high' (inl refl) (record { gets = goes; dest = dest; wants = wants; spent_is = e }));
          third = λ e. within_limit _ (size shape) _ k.alloc sizes.alloc
              (high g choice sheet work attempt busy debt s t tick seat 2 shape is_high' (inr refl) (record { gets = goes; dest = dest; wants = wants; spent_is = e }));
        }
        | inr is_low ↦ record {
          first = λ e. beside_reserve _ (size shape) _ _ (limit_of k seat) (low_limit k sheet sizes seat is_low)
              (quiet g choice sheet work attempt busy debt s t tick seat shape is_low (record { gets = goes; dest = dest; wants = wants; spent_is = e })).1;
          third = λ e. within_limit _ (size shape) _ k.alloc sizes.alloc
              (low g choice sheet work attempt busy debt s t tick seat shape is_low (record { gets = goes; dest = dest; wants = wants; spent_is = e }));
        }
      ]

  jobs_at : (t : ℕ) → JobsKept sheet (at t) t
  jobs_at t = jobs_kept g choice s.choice_is sheet s.checked.readable s.checked.declared s.sizes t

  count_at : (t : ℕ) → tasks (core_of (at t)).geometry ≡ length (tasks_of sheet)
  count_at t = seats (core_of (at t)).geometry sheet (sizes_at t)

  may_at : (t seat : ℕ) → seat < length (tasks_of sheet) → MayBeginIf sheet (at t) seat
  may_at t seat below c is = may_begin_wanted (core_of (at t)).geometry sheet.heap.fields sheet.heap.registers (task_at sheet seat).script (course_at (at t) seat).walk c
      (scripts sheet s.checked.readable seat below) (sym (let sizes = sizes_at t in sizes.registers)) is

  tick_room : (t : ℕ) (over : Option ℕ) → (at t).over ≡ over → t < sheet.ticks → ((at t).over ≡ None → AllRoom (core_of (at t)))
      → (after_tick choice sheet (at t) t over).over ≡ None → AllRoom (core_of (after_tick choice sheet (at t) t over))
  tick_room t None e within room not_over = turn_room choice sheet (at t) t (lawful_at g choice sheet t) (jobs_at t) (count_at t) (may_at t)
      (news_find t (record { within = within; before_over = e })) (room e) (turn choice sheet (at t) t) (turn_is choice sheet (at t) t s.choice_is) refl
  tick_room t (Some words) e within room not_over = room not_over

  pub all_room : (t : ℕ) → t ≤ sheet.ticks → (at t).over ≡ None → AllRoom (core_of (at t))
  unfolding state opening trace_opening
  all_room zero le not_over = room_at_start g
  all_room (suc t) le not_over = tick_room t (at t).over refl (omega (arith, le)) (all_room t (omega (arith, le))) not_over

pub none_full : DebtWithin → OwedForNews → NoneFull
none_full within owed g choice sheet work attempt busy debt s t moment =
    all_room (high_news_find_room within owed) low_news_begin_quiet (low_news_find_room within) g choice sheet work attempt busy debt s t moment.within moment.before_over

-- NO NEW IS REFUSED

unrefused_said : (b : Bool) → left.Passes (said b) ≢ left.Passes reply.Full
unrefused_said true e = absurd (cc)
unrefused_said false e = absurd (cc)

unrefused_work : (b : Bool) → (if b then left.Stays else left.Passes reply.Unit) ≢ left.Passes reply.Full
unrefused_work true e = absurd (cc)
unrefused_work false e = absurd (cc)

module _ (core : State) (sized : IsSized core) (seat : ℕ) (below : seat < tasks core.geometry) (room : (flight_of core.flights seat).full ≡ false) where
  -- the first place of an operation
  unrefused_first : (c : Call) (o : Option Fault) → refusal core seat c ≡ o → leaves_first core seat c o ≢ left.Passes reply.Full
  unfolding first_flight
  unrefused_first c (Some fault) is e = absurd (cc)
  unrefused_first c None is e =
      answers_room (after_begin core seat c) seat (ap (λ (x : Flight). x.full) (begins_first core seat (has_flight core seat sized below) c is)) e

  unrefused_on : (c : Call) (spent : ℕ) → leaves_on core seat c spent ≢ left.Passes reply.Full
  unrefused_on c zero = unrefused_first c (refusal core seat c) refl
  unrefused_on c (suc spent) = answers_room core seat room

  unrefused_by : (spent : ℕ) (wants : Option Need) → left_by core seat spent wants ≢ left.Passes reply.Full
  unrefused_by spent (Some (need.Heap c)) e = unrefused_on c spent e
  unrefused_by spent (Some (need.Work k)) e = unrefused_work (nat_lt (spent + 1) k) e
  unrefused_by spent (Some need.Local) e = absurd (cc)
  unrefused_by spent (Some (need.Out value)) e = absurd (cc)
  unrefused_by spent (Some (need.Ask c)) e = unrefused_said (asked core seat c) e
  unrefused_by spent None e = absurd (cc)

pub no_new_is_refused : DebtWithin → OwedForNews → NoNewIsRefused
no_new_is_refused within owed g choice sheet work attempt busy debt s t tick seat goes =
    let m = state g choice sheet t in
    let lawful : Lawful (core_of m) (history_of m) = lawful_at g choice sheet t in
    let below = seat_below choice sheet m t (turn choice sheet m t) seat (turn_is choice sheet m t s.choice_is) goes in
    let count : tasks (core_of m).geometry ≡ length (tasks_of sheet) = ap tasks (geometry_at g choice sheet t) ∙ seats g sheet s.sizes in
    let room = none_full within owed g choice sheet work attempt busy debt s t (moment_of g choice sheet t tick) seat in
    unrefused_by (core_of m) lawful.sized seat (subst (λ k. seat < k) (sym count) below) room (course_at m seat).spent (need_at sheet m seat)
