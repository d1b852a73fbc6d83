-- At each tick of a session: what is left of the low operation in mid-course, and what of an attempt that was met may be owed again.
use Rattle.std.proofs.Common.{◌≡◌, ℕ, suc, ◌+◌, ◌*◌, ◌<◌, ◌≤◌, ◌⊎◌, Bool, true, false, List, length, Option, Some, None, refl, sym, ◌∙◌, ap, subst, arith, inl, inr}
use Rattle.std.proofs.lemmas.Bool.{cases_Bool}
use Rattle.std.specs.Prelude.{◌&&◌, if◌then◌else◌}
use Rattle.hk_words.specs.declared.geometry.Geometry.{Geometry}
use Rattle.hk_words.specs.Geometry.{tasks}
use Rattle.hk_words.specs.Shape.{size}
use Rattle.hk_core.specs.declared.spot.Spot.{Spot}
use Rattle.hk_core.specs.State.{State}
use Rattle.hk_core.specs.Collect.{next_collected, work_by_collector}
use Rattle.hk_collect.specs.Pays as paid
use Rattle.hk_collect.specs.Pays.{ObjectsWithin, IsAttemptBound, Pays, debt_after, met_still}
use Rattle.hk_collect.specs.Runs.{in_attempt}
use Rattle.hk_plan.specs.declared.Ready.{Ready}
use Rattle.hk_sheet.specs.declared.sheet.Sheet.{Sheet}
use Rattle.hk_admit.specs.Analysis.{largest_object, some_makes}
use Rattle.hk_dispatch.specs.Tasks.{IsLowSeat, tasks_of}
use Rattle.hk_dispatch.specs.Moment.{Moment, core_of, history_of, course_at}
use Rattle.hk_dispatch.specs.Turns.{Turn, to_task, to_collector, in_mid_course, first_low, turn}
use Rattle.hk_dispatch.specs.Ticks.{after_task, after_event, after_turn}
use Rattle.hk_dispatch.specs.Session.{state, IsMoment, IsSession}
use Rattle.hk_dispatch.specs.Kept.{met_after, met}
use Rattle.hk_dispatch.specs.Rules.{ToHigh, ToOperation, ToCollector, ToLow}
use Rattle.hk_dispatch.specs.Jobs.{JobsKept}
use Rattle.hk_dispatch.proofs.CollectorTick.{core_collected, attempt_bound, event_pays}
use Rattle.hk_dispatch.proofs.Counters.{ticks_of_low, low_ticks, low_events, liable}
use Rattle.hk_dispatch.proofs.Courses.{other_course}
use Rattle.hk_dispatch.proofs.FirstLow.{first_low_law}
use Rattle.hk_dispatch.proofs.LowFacts.{liable_at, words_at, LowSame, HighLeaves, LowFalls, EventPays, LowStarts, LowTicksFall, LowWaits}
use Rattle.hk_dispatch.proofs.LowLeft.{operation_falls, low_starts}
use Rattle.hk_dispatch.proofs.LowSeats.{low_ticks_same, low_events_same}
use Rattle.hk_dispatch.proofs.ObjectsSmall.{objects_within}
use Rattle.hk_dispatch.proofs.OpenAttempts.{AttemptKept, task_spot, over_before, next_is, met_next, attempt_kept, heap_kept}
use Rattle.hk_dispatch.proofs.Runs.{geometry_at}
use Rattle.hk_dispatch.proofs.SessionHeap.{collector_never_waits}
use Rattle.hk_dispatch.proofs.SessionJobs.{one_low, jobs_kept}
use Rattle.hk_dispatch.proofs.Sheets.{seats, count_tasks}
use Rattle.hk_dispatch.proofs.Waiting.{none_in_flight}

-- WHAT IS LIABLE

chosen_few : (b : Bool) (a : ℕ) → (if b then a else 0) ≤ a
chosen_few true a = omega arith
chosen_few false a = omega arith

pub liable_few : (attempt : ℕ) (m : Moment) (met_now : Bool) → liable attempt m met_now ≤ attempt
liable_few attempt m met_now = chosen_few (in_attempt (core_of m).spot.line && met_now) attempt

closed_none : (attempt : ℕ) (m : Moment) (met_now : Bool) → in_attempt (core_of m).spot.line ≡ false → liable attempt m met_now ≡ 0
closed_none attempt m met_now e = ap (λ b. if b && met_now then attempt else 0) e

open_all : (attempt : ℕ) (m : Moment) (met_now : Bool) → in_attempt (core_of m).spot.line ≡ true → met_now ≡ true → liable attempt m met_now ≡ attempt
open_all attempt m met_now o e = λ i. if o i && e i then attempt else 0

-- where an attempt that was met is open, it is enough to say that it was met
met_alone : (attempt : ℕ) (open_now met_now : Bool) → (met_now ≡ true → open_now ≡ true) → (if open_now && met_now then attempt else 0) ≡ paid.liable attempt met_now
met_alone attempt open_now false h = ap (λ b. if b then attempt else 0) (never open_now)
  where
    never : (b : Bool) → (b && false) ≡ false
    never true = refl
    never false = refl
met_alone attempt open_now true h = ap (λ b. if b && true then attempt else 0) (h refl)

-- after a tick of a task an open attempt may be owed again, where it couldn't before, only if it wasn't met
still_liable : (attempt : ℕ) (m n : Moment) (before after' : Bool) → (core_of n).spot ≡ (core_of m).spot
    → (liable attempt n after' ≤ liable attempt m before) ⊎ ((in_attempt (core_of m).spot.line ≡ true) × (before ≡ false))
still_liable attempt m n before after' spot = elim (cases_Bool (in_attempt (core_of m).spot.line)) [
  | inr closed ↦ inl (let e = closed_none attempt n after' (ap (λ (s : Spot). in_attempt s.line) spot ∙ closed) in omega (arith, e))
  | inl open_now ↦ elim (cases_Bool before) [
    | inl yes' ↦ inl (let e = open_all attempt m before open_now yes' in let few = liable_few attempt n after' in omega (arith, e, few))
    | inr no' ↦ inr (open_now, no')
  ]
]

-- A TICK

module _ (g : Geometry) (choice : List Ready → ℕ) (sheet : Sheet) (work attempt busy debt : ℕ) (s : IsSession g choice sheet work attempt busy debt) where
  abbrev at : ℕ → Moment
  at t = state g choice sheet t

  abbrev met_at : ℕ → Bool
  met_at t = met g choice sheet t

  jobs : (t : ℕ) → JobsKept sheet (at t) t
  jobs t = jobs_kept g choice s.choice_is sheet s.checked.readable s.checked.declared s.sizes t

  kept : (t : ℕ) → (at t).over ≡ None → AttemptKept sheet (at t) (met_at t) t
  kept t not_over = attempt_kept g choice sheet s.choice_is s.checked.readable s.checked.declared s.sizes t not_over

  -- a low operation in mid-course has a tick left
  pub low_waits_at : (t : ℕ) → (first_low sheet (in_mid_course sheet (at t)) ≡ None) ⊎ (1 ≤ ticks_of_low sheet (at t) (first_low sheet (in_mid_course sheet (at t))))
  low_waits_at t = elim (first_low_law sheet (in_mid_course sheet (at t))) [
    | inr none ↦ inl none.is
    | inl f ↦
        let below : f.0 < length (tasks_of sheet) = let b = f.1.low.below in omega (arith, b, count_tasks sheet) in
        let few = ((jobs t).course f.0 below).spent_few in
        let e = ap (ticks_of_low sheet (at t)) f.1.is in
        inr (omega (arith, few, e))
  ]

  module _ (t : ℕ) (moment : IsMoment g choice sheet (suc t)) where
    abbrev m : Moment
    m = at t

    not_over : m.over ≡ None
    not_over = over_before g choice sheet t moment.before_over

    first_moment : IsMoment g choice sheet t
    first_moment = record { within = let le = moment.within in omega (arith, le); before_over = not_over }

    leads : (o : Turn) → turn choice sheet m t ≡ o → at (suc t) ≡ after_turn sheet m t o
    leads o goes = next_is g choice sheet t not_over ∙ ap (after_turn sheet m t) goes

    inside : (seat : ℕ) → IsLowSeat sheet seat → seat < length m.courses
    inside seat low = let b = low.below in let count = (jobs t).courses in omega (arith, b, count, count_tasks sheet)

    -- what a tick leaves that changes no low course
    same_low : (n : Moment) → ((seat : ℕ) → IsLowSeat sheet seat → course_at n seat ≡ course_at m seat) → LowSame sheet m n
    same_low n same = record {
      ticks = let e = low_ticks_same sheet m n same in omega (arith, e);
      owed = let e = low_events_same sheet m n same in omega (arith, e);
    }

    spot_kept : (seat : ℕ) → turn choice sheet m t ≡ to_task seat → (core_of (at (suc t))).spot ≡ (core_of m).spot
    spot_kept seat goes = ap (λ (n : Moment). (core_of n).spot) (leads (to_task seat) goes) ∙ task_spot sheet m t seat

    high_leaves : (seat : ℕ) → turn choice sheet m t ≡ to_task seat → ToHigh choice sheet m t seat
        → HighLeaves sheet m (at (suc t)) t (liable_at g choice sheet attempt t) (liable_at g choice sheet attempt (suc t))
    high_leaves seat goes f = record {
      low_same = subst (λ (n : Moment). LowSame sheet m n) (sym (leads (to_task seat) goes))
          (same_low (after_task sheet m t seat) (λ other low. other_course sheet m t seat other (λ e. let from = low.from in let high = f.high in omega (arith, e, from, high))));
      charged = elim (still_liable attempt m (at (suc t)) (met_at t) (met_at (suc t)) (spot_kept seat goes)) [
        | inl same ↦ inl same
        | inr new ↦ inr ((kept t not_over).fresh.high new.0 new.1)
      ];
    }

    low_falls : (seat : ℕ) → turn choice sheet m t ≡ to_task seat → ToOperation sheet m t seat
        → LowFalls sheet m (at (suc t)) (words_at sheet m seat) (liable_at g choice sheet attempt t) (liable_at g choice sheet attempt (suc t))
    low_falls seat goes f =
        let below : seat < length (tasks_of sheet) = let b = f.first.low.below in omega (arith, b, count_tasks sheet) in
        let falls = operation_falls sheet m t seat f.first.low (inside seat f.first.low)
        (λ other low mid. one_low g choice s.choice_is sheet t other seat low f.first.low mid f.first.passes) f.first.passes ((jobs t).course seat below).spent_few in
        let less : at (suc t) ≡ after_task sheet m t seat = leads (to_task seat) goes in
        record {
          ticks = subst (λ (n : Moment). low_ticks sheet n + 1 ≤ low_ticks sheet m) (sym less) falls.0;
          own = subst (λ (n : Moment). low_events sheet n + sheet.heap.rate * words_at sheet m seat ≤ low_events sheet m) (sym less) falls.1;
          charged = elim (still_liable attempt m (at (suc t)) (met_at t) (met_at (suc t)) (spot_kept seat goes)) [
            | inl same ↦ same
            | inr new ↦ absurd (let e : ◌≡◌ {A = Option ℕ} None (Some seat) = sym ((kept t not_over).fresh.low new.0 new.1) ∙ f.first.is in cc)
          ];
        }

    starts : (seat : ℕ) → turn choice sheet m t ≡ to_task seat → ToLow sheet m t seat → LowStarts sheet (at (suc t)) (words_at sheet m seat)
    starts seat goes f =
        let first = low_starts sheet m t seat f.first.low (inside seat f.first.low)
        (λ other low mid. absurd (let e : true ≡ false = sym mid ∙ f.no_operation.fails other low in cc)) (f.no_operation.fails seat f.first.low) in
        subst (λ (n : Moment). LowStarts sheet n (words_at sheet m seat)) (sym (leads (to_task seat) goes)) (record { ticks = first.0; own = first.1 })

    -- THE COLLECTOR

    event_same : (seat : ℕ) → IsLowSeat sheet seat → course_at (after_event m) seat ≡ course_at m seat
    unfolding after_event
    event_same seat low = refl

    some_object : 0 < m.debt → some_makes sheet ≡ true
    some_object owed = elim (cases_Bool (some_makes sheet)) [
      | inl yes' ↦ yes'
      | inr no' ↦ absurd (let none = (kept t not_over).no_debt no' in omega (arith, none, owed))
    ]

    small : ObjectsWithin (core_of m).geometry (history_of m) (largest_object sheet)
    small =
        let board : size (core_of m).geometry.board ≤ largest_object sheet =
        subst (λ (k : Geometry). size k.board ≤ largest_object sheet) (sym (geometry_at g choice sheet t)) (let r = s.sizes.refs in let k = s.sizes.nums in omega (arith, r, k)) in
        objects_within (core_of m).geometry (history_of m) (largest_object sheet) board (kept t not_over).small

    pays : turn choice sheet m t ≡ to_collector → ToCollector sheet m t
        → Pays sheet.heap.rate attempt (core_of m) (history_of m) m.useful m.debt (met_at t)
    pays goes f =
        let geometry = geometry_at g choice sheet t in
        let bound : IsAttemptBound (core_of m).geometry (largest_object sheet) attempt =
        subst (λ (k : Geometry). IsAttemptBound k (largest_object sheet) attempt) (sym geometry)
        (attempt_bound g sheet attempt s.sizes.registers s.checked.attempt_is (some_object f.owed)) in
        let none = none_in_flight sheet m t (jobs t) (ap tasks geometry ∙ seats g sheet s.sizes) f.no_high f.no_operation in
        let works = collector_never_waits g choice s.choice_is sheet s.checked.readable s.checked.declared s.sizes t moment.within goes in
        event_pays sheet.heap.rate attempt (largest_object sheet) m (met_at t) (heap_kept g choice sheet s.choice_is s.checked.readable s.checked.declared s.sizes t first_moment)
        bound small none f.owed works.1 (sym (ap (λ (n : Moment). n.over) (leads to_collector goes)) ∙ moment.before_over)

    -- what may be owed again, before the event and after it
    liable_before : liable_at g choice sheet attempt t ≡ paid.liable attempt (met_at t)
    liable_before = met_alone attempt (in_attempt (core_of m).spot.line) (met_at t) (kept t not_over).is_open

    liable_after : turn choice sheet m t ≡ to_collector → liable_at g choice sheet attempt (suc t) ≡ paid.liable attempt (met_still (core_of m) (met_at t))
    liable_after goes =
        let n = at (suc t) in
        let core : core_of n ≡ next_collected (core_of m) = ap core_of (leads to_collector goes) ∙ core_collected m in
        let still : met_at (suc t) ≡ met_still (core_of m) (met_at t) =
        met_next g choice sheet t ∙ ap (met_after (met_at t) (in_attempt (core_of n).spot.line)) goes ∙ ap (λ (c : State). met_at t && in_attempt c.spot.line) core in
        met_alone attempt (in_attempt (core_of n).spot.line) (met_at (suc t)) (kept (suc t) moment.before_over).is_open ∙ ap (paid.liable attempt) still

    debt_then : (after_event m).debt ≡ debt_after (work_by_collector (core_of m)) m.debt
    unfolding after_event
    debt_then = refl

    event_leaves : turn choice sheet m t ≡ to_collector → ToCollector sheet m t
        → EventPays sheet m (at (suc t)) (liable_at g choice sheet attempt t) (liable_at g choice sheet attempt (suc t))
    event_leaves goes f = record {
      low_same = subst (λ (n : Moment). LowSame sheet m n) (sym (leads to_collector goes)) (same_low (after_event m) event_same);
      pays =
          let falls = (pays goes f).falls in
          let owed : (at (suc t)).debt ≡ debt_after (work_by_collector (core_of m)) m.debt = ap (λ (n : Moment). n.debt) (leads to_collector goes) ∙ debt_then in
          omega (arith, falls, owed, liable_before, liable_after goes);
    }

-- THE LAWS

pub low_ticks_fall : LowTicksFall
low_ticks_fall g choice sheet work attempt busy debt s t moment = record {
  high = high_leaves g choice sheet work attempt busy debt s t moment;
  operation = low_falls g choice sheet work attempt busy debt s t moment;
  collector = event_leaves g choice sheet work attempt busy debt s t moment;
  low = starts g choice sheet work attempt busy debt s t moment;
}

pub low_waits : LowWaits
low_waits g choice sheet work attempt busy debt s t moment = low_waits_at g choice sheet work attempt busy debt s t
