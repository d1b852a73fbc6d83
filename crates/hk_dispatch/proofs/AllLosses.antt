-- The events of all lost attempts of a session are at most an attempt for each high job that has arrived and for each object for
-- which a low task took words.
use Rattle.std.proofs.Common.{◌≡◌, ◌≢◌, ℕ, zero, suc, ◌+◌, ◌*◌, ◌<◌, ◌≤◌, ◌⊎◌, List, length, refl, sym, ◌∙◌, ap, subst, arith, inl, inr}
use Rattle.std.proofs.lemmas.Bool.{cases_eq}
use Rattle.std.proofs.Math.Nat.{mul-le-mul_right}
use Rattle.hk_words.specs.declared.geometry.Geometry.{Geometry}
use Rattle.hk_plan.specs.declared.Ready.{Ready}
use Rattle.hk_plan.proofs.Sums.{total, total-le, total-add, total_zero, total_more}
use Rattle.hk_sheet.specs.declared.sheet.Sheet.{Sheet}
use Rattle.hk_dispatch.specs.Tasks.{IsLowSeat, tasks_of, high_at}
use Rattle.hk_dispatch.specs.Moment.{Moment, core_of, course_at, need_at, opening}
use Rattle.hk_dispatch.specs.Turns.{Turn, to_task, to_collector, to_nobody, turn}
use Rattle.hk_dispatch.specs.Ticks.{after_turn}
use Rattle.hk_dispatch.specs.Session.{state, IsMoment, IsSession}
use Rattle.hk_dispatch.specs.Laws.{LossesAreFew}
use Rattle.hk_dispatch.specs.Quiet.{NoHighWaits}
use Rattle.hk_dispatch.specs.HighJobs.{high_arrivals_before}
use Rattle.hk_dispatch.specs.Kept.{met}
use Rattle.hk_dispatch.specs.Rules.{NoHighReady, ToHigh, ToCollector, ToNobody, TurnIs, by_high, by_operation, by_collector, by_low, by_nobody}
use Rattle.hk_dispatch.specs.Jobs.{JobsKept}
use Rattle.hk_dispatch.proofs.ArrivedBefore.{all_ready_arrived}
use Rattle.hk_dispatch.proofs.Counters.{ready_before, fresh, backlog}
use Rattle.hk_dispatch.proofs.Courses.{words_now}
use Rattle.hk_dispatch.proofs.HighLeft.{none_had}
use Rattle.hk_dispatch.proofs.LowFacts.{liable_at, LowFacts}
use Rattle.hk_dispatch.proofs.LowTicks.{liable_few, low_ticks_fall}
use Rattle.hk_dispatch.proofs.OpenAttempts.{over_before, next_is}
use Rattle.hk_dispatch.proofs.ReadyCounts.{ready_next, no_backlog, ready_counts}
use Rattle.hk_dispatch.proofs.ReadyMoments.{none_waits}
use Rattle.hk_dispatch.proofs.SessionJobs.{jobs_kept}
use Rattle.hk_dispatch.proofs.Sheets.{count_tasks}
use Rattle.hk_dispatch.proofs.TickCounts.{event_lost, event_debt, event_news, event_jobs, jobs_rise, debt_is, lost_is, news_are, high_news, low_news, owes_none}
use Rattle.hk_dispatch.proofs.TaskTick.{words_none}
use Rattle.hk_dispatch.proofs.TurnFacts.{turn_is}
use Rattle.hk_dispatch.proofs.Waiting.{seat_below}
use Rattle.hk_dispatch.proofs.numbers.Losses as losses

-- a sum is at least each of its terms
total_has : (f : ℕ → ℕ) (l n : ℕ) → l < n → 1 ≤ f l → 1 ≤ total f n
total_has f l n lt some = omega (arith, total_more (λ k. 0) f l n lt (λ k b. omega arith) (omega (arith, some)))

-- THE COUNTERS of a session

module _ (g : Geometry) (choice : List Ready → ℕ) (sheet : Sheet) (work attempt busy debt : ℕ) (s : IsSession g choice sheet work attempt busy debt) where
  abbrev at : ℕ → Moment
  at t = state g choice sheet t

  abbrev came : ℕ → ℕ
  came t = total (λ seat. ready_before (high_at sheet seat) t) (length sheet.high)

  abbrev comes : ℕ → ℕ
  comes t = total (fresh sheet t) (length sheet.high)

  abbrev waiting : ℕ → ℕ
  waiting t = total (λ seat. backlog sheet (at t) t seat) (length sheet.high)

  abbrev owed : ℕ → ℕ
  owed t = (at t).debt

  abbrev lost : ℕ → ℕ
  lost t = (at t).lost

  abbrev news : ℕ → ℕ
  news t = (at t).low_objects

  abbrev again : ℕ → ℕ
  again t = liable_at g choice sheet attempt t

  abbrev Charged : ℕ → Type 0
  Charged t = losses.Charged attempt comes owed again lost came waiting news t

  comes_to : (t : ℕ) → losses.Comes attempt comes owed again lost came waiting news t
  comes_to t = record {
    more = ap (λ f. total f (length sheet.high)) (λ i seat. ready_next (high_at sheet seat) t i) ∙ total-add (λ seat. ready_before (high_at sheet seat) t) (fresh sheet t) (length sheet.high);
    few = liable_few attempt (at (suc t)) (met g choice sheet (suc t));
  }

  jobs : (t : ℕ) → JobsKept sheet (at t) t
  jobs t = jobs_kept g choice s.choice_is sheet s.checked.readable s.checked.declared s.sizes t

  module _ (t : ℕ) (moment : IsMoment g choice sheet (suc t)) where
    abbrev m : Moment
    m = at t

    leads : (o : Turn) → turn choice sheet m t ≡ o → at (suc t) ≡ after_turn sheet m t o
    leads o goes = next_is g choice sheet t (over_before g choice sheet t moment.before_over) ∙ ap (after_turn sheet m t) goes

    facts : LowFacts g choice sheet attempt t
    facts = low_ticks_fall g choice sheet work attempt busy debt s t moment

    rises : (seat : ℕ) → turn choice sheet m t ≡ to_task seat → (other : ℕ) → (course_at m other).job ≤ (course_at (at (suc t)) other).job
    rises seat goes other =
        let below = seat_below choice sheet m t (turn choice sheet m t) seat (turn_is choice sheet m t s.choice_is) goes in
        let count = (jobs t).courses in
        subst (λ (n : Moment). (course_at m other).job ≤ (course_at n other).job) (sym (leads (to_task seat) goes)) (jobs_rise sheet m t seat (omega (arith, below, count)) other)

    -- where no high job is ready none waits after the tick
    none_then : ((other : ℕ) → (course_at m other).job ≤ (course_at (at (suc t)) other).job) → NoHighReady sheet m t → waiting (suc t) ≡ 0
    none_then up no_high = total_zero (λ seat. backlog sheet (at (suc t)) (suc t) seat) (length sheet.high)
        (λ seat high.
        let none = no_backlog sheet s.checked.readable m (suc t) (none_waits sheet s.checked.readable m t no_high) seat high in
        let le = up seat in omega (arith, none, le))

    -- A HIGH TICK

    high_waits : (seat : ℕ) → turn choice sheet m t ≡ to_task seat → waiting (suc t) ≤ waiting t + comes t
    high_waits seat goes = omega (
      arith,
      total-le (λ other. backlog sheet (at (suc t)) (suc t) other) (λ other. backlog sheet m t other + fresh sheet t other) (length sheet.high)
          (λ other b. let up = rises seat goes other in omega (arith, up, ready_next (high_at sheet other) t)),
      total-add (λ other. backlog sheet m t other) (fresh sheet t) (length sheet.high),
    )

    debt_then : (seat : ℕ) → turn choice sheet m t ≡ to_task seat → owed (suc t) ≡ owed t + sheet.heap.rate * words_now sheet m t seat
    debt_then seat goes = ap (λ (n : Moment). n.debt) (leads (to_task seat) goes) ∙ debt_is sheet m t seat

    -- a job that takes words has become ready before
    has_waited : (seat : ℕ) → seat < length sheet.high → words_now sheet m t seat ≢ 0 → 1 ≤ waiting t
    has_waited seat high some = total_has (λ other. backlog sheet m t other) seat (length sheet.high) high
        (elim (cases_eq (backlog sheet m t seat) 0) [
          | inr other ↦ omega (arith, other)
          | inl none ↦ absurd (
              let had = none_had sheet s.checked.readable m t seat high (jobs t) none in
              let below : seat < length (tasks_of sheet) = omega (arith, high, count_tasks sheet) in
              let few = ((jobs t).course seat below).spent_had in
              some (words_none (core_of m) seat (course_at m seat).spent (need_at sheet m seat) (λ two. omega (arith, two, had, few)))
              )
        ])

    -- where none waited the job has become ready at the tick
    has_come : (seat : ℕ) → ToHigh choice sheet m t seat → NoHighWaits sheet m t → 1 ≤ comes t
    has_come seat f none =
        let empty = no_backlog sheet s.checked.readable m t none seat f.high in
        let counts = ready_counts sheet s.checked.readable m t seat f.high f.ready in
        total_has (fresh sheet t) seat (length sheet.high) f.high (omega (arith, empty, counts, ready_next (high_at sheet seat) t))

    high_tick : (seat : ℕ) → turn choice sheet m t ≡ to_task seat → ToHigh choice sheet m t seat → losses.HighTick attempt comes owed again lost came waiting news t
    high_tick seat goes f =
        let next = debt_then seat goes in
        record {
          comes = comes_to t;
          same = (
            ap (λ (n : Moment). n.lost) (leads (to_task seat) goes) ∙ lost_is sheet m t seat,
            ap (λ (n : Moment). n.low_objects) (leads (to_task seat) goes) ∙ high_news sheet m t seat f.high,
          );
          waits = high_waits seat goes;
          first_debt = λ none. elim (cases_eq (words_now sheet m t seat) 0) [
            | inl no_words ↦ inl (ap (λ (n : Moment). n.debt) (leads (to_task seat) goes) ∙ owes_none sheet m t seat no_words ∙ none)
            | inr some ↦ inr (has_waited seat f.high some)
          ];
          owes_on = λ none. omega (arith, next, none);
          charged = elim (facts.high seat goes f).charged [
            | inl same ↦ inl same
            | inr none ↦ inr (has_come seat f none)
          ];
        }

    -- A LOW ONE

    low_tick : (seat : ℕ) → IsLowSeat sheet seat → turn choice sheet m t ≡ to_task seat → NoHighReady sheet m t → (owed t ≡ 0) ⊎ (again (suc t) ≤ again t)
        → losses.LowTick attempt comes owed again lost came waiting news t
    low_tick seat low goes no_high charged =
        let next = debt_then seat goes in
        let news_next = ap (λ (n : Moment). n.low_objects) (leads (to_task seat) goes) in
        let more = news_are sheet m t seat in
        record {
          comes = comes_to t;
          same = ap (λ (n : Moment). n.lost) (leads (to_task seat) goes) ∙ lost_is sheet m t seat;
          none_waits = (none_then (rises seat goes) no_high, omega (arith, news_next, more));
          first_debt = λ none. elim (cases_eq (words_now sheet m t seat) 0) [
            | inl no_words ↦ inl (ap (λ (n : Moment). n.debt) (leads (to_task seat) goes) ∙ owes_none sheet m t seat no_words ∙ none)
            | inr some ↦ inr (let one = low_news sheet m t seat low (omega (arith, some)) in omega (arith, news_next, one))
          ];
          owes_on = λ none. omega (arith, next, none);
          charged = charged;
        }

    -- OF THE COLLECTOR, AND OF NOBODY

    collector_tick : turn choice sheet m t ≡ to_collector → ToCollector sheet m t → losses.CollectorTick attempt comes owed again lost came waiting news t
    collector_tick goes f =
        let next = leads to_collector goes in
        let pays = (facts.collector goes f).pays in
        let some = f.owed in
        let lost_next = ap (λ (n : Moment). n.lost) next ∙ event_lost m in
        let debt_next = ap (λ (n : Moment). n.debt) next ∙ event_debt m in
        record {
          comes = comes_to t;
          same = ap (λ (n : Moment). n.low_objects) next ∙ event_news m;
          owed = omega (arith, some);
          none_waits = none_then (λ other. subst (λ (n : Moment). (course_at m other).job ≤ (course_at n other).job) (sym next) (event_jobs m other)) f.no_high;
          pays = omega (arith, pays, some, lost_next, debt_next);
        }

    nobody_tick : turn choice sheet m t ≡ to_nobody → ToNobody sheet m t → losses.LowTick attempt comes owed again lost came waiting news t
    nobody_tick goes f =
        let next = leads to_nobody goes in
        let debt_next : owed (suc t) ≡ owed t = ap (λ (n : Moment). n.debt) next in
        let news_next : news (suc t) ≡ news t = ap (λ (n : Moment). n.low_objects) next in
        record {
          comes = comes_to t;
          same = ap (λ (n : Moment). n.lost) next;
          none_waits = (
            none_then (λ other. subst (λ (n : Moment). (course_at m other).job ≤ (course_at n other).job) (sym next) (omega arith)) f.no_high,
            omega (arith, news_next),
          );
          first_debt = λ none. inl (debt_next ∙ none);
          owes_on = λ none. sym debt_next ∙ none;
          charged = inl f.nothing_owed;
        }

    charged_turn : (o : Turn) → TurnIs choice sheet m t o → turn choice sheet m t ≡ o → Charged t → Charged (suc t)
    charged_turn o (by_high seat f) goes h = losses.high_keeps attempt comes owed again lost came waiting news t (high_tick seat goes f) h
    charged_turn o (by_operation seat f) goes h =
        losses.low_keeps attempt comes owed again lost came waiting news t (low_tick seat f.first.low goes f.no_high (inr (facts.operation seat goes f).charged)) h
    charged_turn o (by_collector f) goes h = losses.collector_keeps attempt comes owed again lost came waiting news t (collector_tick goes f) h
    charged_turn o (by_low seat f) goes h = losses.low_keeps attempt comes owed again lost came waiting news t (low_tick seat f.first.low goes f.no_high (inl f.nothing_owed)) h
    charged_turn o (by_nobody f) goes h = losses.low_keeps attempt comes owed again lost came waiting news t (nobody_tick goes f) h

  charged_first : Charged 0
  unfolding state opening ready_before
  charged_first = record {
    at_rest = λ none.
        let w = total_zero (λ seat. backlog sheet (at 0) 0 seat) (length sheet.high) (λ seat high. omega arith) in
        let k = ap (λ n. n * attempt) w in omega (arith, k);
    at_work = inr refl;
  }

  charged : (t : ℕ) → IsMoment g choice sheet t → Charged t
  charged zero moment = charged_first
  charged (suc t) moment =
      let le = moment.within in
      charged_turn t moment (turn choice sheet (at t) t) (turn_is choice sheet (at t) t s.choice_is) refl
      (charged t (record { within = omega (arith, le); before_over = over_before g choice sheet t moment.before_over }))

-- THE LAW

pub losses_are_few : LossesAreFew
losses_are_few g choice sheet work attempt busy debt s t moment =
    let few = losses.losses_few attempt (λ u. total (fresh sheet u) (length sheet.high)) (λ u. (state g choice sheet u).debt) (λ u. liable_at g choice sheet attempt u) (λ u. (state g choice sheet u).lost)
    (λ u. total (λ seat. ready_before (high_at sheet seat) u) (length sheet.high)) (λ u. total (λ seat. backlog sheet (state g choice sheet u) u seat) (length sheet.high))
    (λ u. (state g choice sheet u).low_objects) t (charged g choice sheet work attempt busy debt s t moment) in
    let arrived = all_ready_arrived sheet s.checked.readable t in
    let sum : total (λ seat. ready_before (high_at sheet seat) t) (length sheet.high) + (state g choice sheet t).low_objects ≤ high_arrivals_before sheet t + (state g choice sheet t).low_objects = omega (arith, arrived) in
    let all = mul-le-mul_right attempt sum in
    omega (arith, few, all)
