-- The ticks of a session in counters: what each kind of tick does to what is left in a busy interval.
use Rattle.std.proofs.Common.{◌≡◌, ℕ, suc, ◌+◌, ◌*◌, ◌<◌, ◌≤◌, ◌⊎◌, Bool, true, false, List, length, Option, Some, None, refl, sym, ◌∙◌, ap, subst, arith, inl, inr}
use Rattle.std.proofs.lemmas.Bool.{ne_eqb}
use Rattle.std.specs.Prelude.{◌&&◌, ◌==◌}
use Rattle.hk_words.specs.declared.geometry.Geometry.{Geometry}
use Rattle.hk_words.specs.Bounds.{most_places}
use Rattle.hk_collect.specs.Runs.{in_attempt}
use Rattle.hk_plan.specs.declared.Ready.{Ready}
use Rattle.hk_sheet.specs.declared.sheet.Sheet.{Sheet}
use Rattle.hk_sheet.specs.Valid.{IsSheet}
use Rattle.hk_admit.specs.Analysis.{largest_low, base}
use Rattle.hk_admit.specs.Analysis as analysis
use Rattle.hk_dispatch.specs.Tasks.{IsLowSeat, high_at}
use Rattle.hk_dispatch.specs.Moment.{Moment, core_of, course_at}
use Rattle.hk_dispatch.specs.Turns.{Turn, to_task, to_collector, to_nobody, turn}
use Rattle.hk_dispatch.specs.Ticks.{after_turn}
use Rattle.hk_dispatch.specs.Session.{state, IsMoment, IsSession}
use Rattle.hk_dispatch.specs.Quiet.{NoHighWaits, IsQuiet}
use Rattle.hk_dispatch.specs.Kept.{met}
use Rattle.hk_dispatch.specs.Jobs.{JobsKept}
use Rattle.hk_dispatch.specs.Rules.{ToHigh, ToOperation, ToCollector, ToLow, ToNobody, TurnIs, by_high, by_operation, by_collector, by_low, by_nobody}
use Rattle.hk_dispatch.proofs.Counters.{fresh, backlog, high_ticks, high_events, low_ticks, low_events, ticks_of_low, words_of_low}
use Rattle.hk_dispatch.proofs.Courses.{by_test, other_course}
use Rattle.hk_dispatch.proofs.HighLeft.{Moves, none_to_do, none_to_owe, had_few, took_few, ticks_wait, events_wait, ticks_fall_by_one, events_fall}
use Rattle.hk_dispatch.proofs.LowFacts.{LowFacts, liable_at, words_at}
use Rattle.hk_dispatch.proofs.QuietTest.{quiet_now, quiet_is, is_quiet, rests, rests_on}
use Rattle.hk_dispatch.proofs.ReadyCounts.{ready_next, no_backlog, ready_counts}
use Rattle.hk_dispatch.proofs.Sheets.{count_tasks}
use Rattle.hk_dispatch.proofs.SessionJobs.{jobs_kept}
use Rattle.hk_dispatch.proofs.SessionReady.{JobsReady, task_moves, debt_task, event_course, moment_before, next_is, jobs_ready}
use Rattle.hk_dispatch.proofs.TurnFacts.{turn_is}
use Rattle.hk_dispatch.proofs.numbers.Interval.{Begins, GoesOn}
use Rattle.hk_dispatch.proofs.numbers.Charges.{Waits, HighTick, LowTick, CollectorTick, Nothing, LowFirst, left_at, owed_at, high_goes_on, low_goes_on, collector_goes_on, high_begins, low_begins}

-- an attempt is liable at most once
pub liable_few : (g : Geometry) (choice : List Ready → ℕ) (sheet : Sheet) (attempt t : ℕ) → liable_at g choice sheet attempt t ≤ attempt
liable_few g choice sheet attempt t = by_test (λ x. x ≤ attempt) (in_attempt (core_of (state g choice sheet t)).spot.line && met g choice sheet t) attempt 0 (λ e. omega arith) (λ e. omega arith)

module _ (g : Geometry) (choice : List Ready → ℕ) (sheet : Sheet) (attempt : ℕ) where
  abbrev at : ℕ → Moment
  at t = state g choice sheet t

  -- THE COUNTERS

  abbrev pub tasks : ℕ
  tasks = length sheet.high

  abbrev pub cost : ℕ → ℕ
  cost i = (high_at sheet i).timing.cost

  abbrev pub events : ℕ → ℕ
  events i = sheet.heap.rate * (high_at sheet i).words

  abbrev pub bring : ℕ → ℕ
  bring i = cost i + (events i + attempt)

  abbrev pub owe : ℕ → ℕ
  owe i = events i + attempt

  abbrev pub news : ℕ → ℕ → ℕ
  news t i = fresh sheet t i

  abbrev pub debt_at : ℕ → ℕ
  debt_at t = (at t).debt

  abbrev pub liable_now : ℕ → ℕ
  liable_now t = liable_at g choice sheet attempt t

  abbrev pub low_ticks_at : ℕ → ℕ
  low_ticks_at t = low_ticks sheet (at t)

  abbrev pub low_events_at : ℕ → ℕ
  low_events_at t = low_events sheet (at t)

  abbrev pub ticks_at : ℕ → ℕ → ℕ
  ticks_at t i = high_ticks sheet (at t) t i

  abbrev pub events_at : ℕ → ℕ → ℕ
  events_at t i = high_events sheet (at t) t i

  abbrev pub left_now : ℕ → ℕ
  left_now t = left_at tasks cost events attempt news debt_at liable_now low_ticks_at low_events_at ticks_at events_at t

  abbrev pub owed_now : ℕ → ℕ
  owed_now t = owed_at tasks cost events attempt news debt_at liable_now low_ticks_at low_events_at ticks_at events_at t

  abbrev pub quiet_at : ℕ → Bool
  quiet_at t = quiet_now sheet (at t) t

  module _ (work busy debt : ℕ) (s : IsSession g choice sheet work attempt busy debt) where
    abbrev readable : IsSheet sheet
    readable = s.checked.readable

    jobs : (t : ℕ) → JobsKept sheet (at t) t
    jobs t = jobs_kept g choice s.choice_is sheet readable s.checked.declared s.sizes t

    counted : (t : ℕ) → JobsReady sheet (at t) t
    counted t = jobs_ready g choice sheet s.choice_is readable s.checked.declared s.sizes t

    -- at a quiet moment nothing is left
    nothing : (t : ℕ) → quiet_at t ≡ true → Nothing tasks cost events attempt news debt_at liable_now low_ticks_at low_events_at ticks_at events_at t
    nothing t e =
        let q = quiet_is sheet readable (at t) t e in
        let none = no_backlog sheet readable (at t) t q.no_high_waits in
        record {
          no_debt = q.nothing_owed;
          no_low = (ap (ticks_of_low sheet (at t)) q.no_low_in_mid_course, ap (λ o. sheet.heap.rate * words_of_low sheet (at t) o) q.no_low_in_mid_course ∙ omega arith);
          no_high = λ i high. (
            none_to_do (backlog sheet (at t) t i) (cost i) (course_at (at t) i).had (none i high),
            none_to_owe sheet.heap.rate (backlog sheet (at t) t i) (high_at sheet i).words (course_at (at t) i).took (none i high),
          );
        }

    -- A TICK that doesn't end the run
    module _ (t : ℕ) (moment : IsMoment g choice sheet (suc t)) (low : LowFacts g choice sheet attempt t) where
      abbrev n : Moment
      n = at (suc t)

      is_after : (o : Turn) → turn choice sheet (at t) t ≡ o → n ≡ after_turn sheet (at t) t o
      is_after o e = next_is g choice sheet t (moment_before g choice sheet t moment).before_over ∙ ap (after_turn sheet (at t) t) e

      waits : (i : ℕ) → i < tasks → course_at n i ≡ course_at (at t) i → Waits tasks cost events attempt news debt_at liable_now low_ticks_at low_events_at ticks_at events_at t i
      waits i below same = record {
        ticks = ticks_wait sheet readable (at t) t i below n same (counted t i below);
        owed = events_wait sheet readable (at t) t i below n same (counted t i below);
      }

      other_waits : (seat : ℕ) → turn choice sheet (at t) t ≡ to_task seat → (i : ℕ) → i < tasks → (i ≡ seat → ⊥)
          → Waits tasks cost events attempt news debt_at liable_now low_ticks_at low_events_at ticks_at events_at t i
      other_waits seat e i below differs = waits i below (ap (λ k. course_at k i) (is_after (to_task seat) e) ∙ other_course sheet (at t) t seat i differs)

      low_others : (seat : ℕ) → turn choice sheet (at t) t ≡ to_task seat → IsLowSeat sheet seat → (i : ℕ) → i < tasks
          → Waits tasks cost events attempt news debt_at liable_now low_ticks_at low_events_at ticks_at events_at t i
      low_others seat e is_low i below = other_waits seat e i below (λ same. let from = is_low.from in omega (arith, from, same, below))

      debts : (seat : ℕ) → turn choice sheet (at t) t ≡ to_task seat → debt_at (suc t) ≡ debt_at t + sheet.heap.rate * words_at sheet (at t) seat
      debts seat e = ap (λ (k : Moment). k.debt) (is_after (to_task seat) e) ∙ debt_task sheet (at t) t seat

      -- a high job that gets the tick where none waited became ready at it
      fresh_one : (seat : ℕ) → ToHigh choice sheet (at t) t seat → NoHighWaits sheet (at t) t → 1 ≤ news t seat
      fresh_one seat f none =
          let empty = no_backlog sheet readable (at t) t none seat f.high in
          let counts = ready_counts sheet readable (at t) t seat f.high f.ready in
          omega (arith, empty, counts, ready_next (high_at sheet seat) t)

      pub high_tick : (seat : ℕ) → turn choice sheet (at t) t ≡ to_task seat → ToHigh choice sheet (at t) t seat
          → HighTick tasks cost events attempt news debt_at liable_now low_ticks_at low_events_at ticks_at events_at t seat (sheet.heap.rate * words_at sheet (at t) seat)
      high_tick seat e f =
          let l = low.high seat e f in
          let high = f.high in
          let moved = subst (λ (k : Moment). Moves (course_at (at t) seat) (course_at k seat) (words_at sheet (at t) seat)) (sym (is_after (to_task seat) e))
          (task_moves sheet (at t) t seat (omega (arith, high, (jobs t).courses, count_tasks sheet))) in
          let counts = ready_counts sheet readable (at t) t seat high f.ready in
          record {
            high = high;
            ticks = ticks_fall_by_one sheet readable (at t) t seat high n (words_at sheet (at t) seat) moved (counted t seat high) counts (had_few sheet readable (at t) t seat high (jobs t));
            own = events_fall sheet readable (at t) t seat high n (words_at sheet (at t) seat) moved (counted t seat high) counts (took_few sheet readable (at t) t seat high (jobs t));
            others = other_waits seat e;
            debts = debts seat e;
            low_same = (l.low_same.ticks, l.low_same.owed);
            charged = elim l.charged [
              | inl kept ↦ inl kept
              | inr none ↦ inr (seat, high, fresh_one seat f none, liable_few g choice sheet attempt (suc t))
            ];
          }

      pub operation_tick : (seat : ℕ) → turn choice sheet (at t) t ≡ to_task seat → ToOperation sheet (at t) t seat
          → LowTick tasks cost events attempt news debt_at liable_now low_ticks_at low_events_at ticks_at events_at t (sheet.heap.rate * words_at sheet (at t) seat)
      operation_tick seat e f =
          let l = low.operation seat e f in
          record { ticks = l.ticks; own = l.own; others = low_others seat e f.first.low; debts = debts seat e; charged = l.charged }

      pub collector_tick : turn choice sheet (at t) t ≡ to_collector → ToCollector sheet (at t) t
          → CollectorTick tasks cost events attempt news debt_at liable_now low_ticks_at low_events_at ticks_at events_at t
      collector_tick e f =
          let l = low.collector e f in
          record {
            pays = l.pays;
            others = λ i below. waits i below (ap (λ k. course_at k i) (is_after to_collector e) ∙ event_course sheet (at t) t i);
            low_same = (l.low_same.ticks, l.low_same.owed);
          }

      pub low_first_tick : (seat : ℕ) → turn choice sheet (at t) t ≡ to_task seat → ToLow sheet (at t) t seat
          → LowFirst tasks cost events attempt news debt_at liable_now low_ticks_at low_events_at ticks_at events_at t most_places (sheet.heap.rate * largest_low sheet)
      low_first_tick seat e f =
          let l = low.low seat e f in
          let ticks = l.ticks in
          let own = l.own in
          let none = f.nothing_owed in
          record { ticks = ticks; own = omega (arith, own, none, debts seat e); others = low_others seat e f.first.low }

      pub quiet_after : turn choice sheet (at t) t ≡ to_nobody → ToNobody sheet (at t) t → quiet_at (suc t) ≡ true
      quiet_after e f = is_quiet sheet readable n (suc t)
          (subst (λ (k : Moment). IsQuiet sheet k (suc t)) (sym (is_after to_nobody e)) (rests_on sheet readable (at t) t f.no_high f.no_operation f.nothing_owed))

      -- the first tick of an interval
      begins_by : (o : Turn) → TurnIs choice sheet (at t) t o → turn choice sheet (at t) t ≡ o → quiet_at t ≡ true
          → (quiet_at (suc t) ≡ true) ⊎ Begins tasks bring owe (base sheet) (analysis.low_events sheet) news left_now owed_now t
      begins_by o (by_high seat f) e q = inr (high_begins tasks cost events attempt news debt_at liable_now low_ticks_at low_events_at ticks_at events_at
          (base sheet) (analysis.low_events sheet) t seat (sheet.heap.rate * words_at sheet (at t) seat) (nothing t q) (high_tick seat e f) (liable_few g choice sheet attempt (suc t)))
      begins_by o (by_operation seat f) e q = absurd (let k : ◌≡◌ {A = Option ℕ} (Some seat) None = sym f.first.is ∙ (quiet_is sheet readable (at t) t q).no_low_in_mid_course in cc)
      begins_by o (by_collector f) e q = absurd (let some = f.owed in let none = (quiet_is sheet readable (at t) t q).nothing_owed in omega (arith, some, none))
      begins_by o (by_low seat f) e q =
          let b = low_begins tasks cost events attempt news debt_at liable_now low_ticks_at low_events_at ticks_at events_at
          most_places (sheet.heap.rate * largest_low sheet) t (nothing t q) (low_first_tick seat e f) (liable_few g choice sheet attempt (suc t)) in
          let is = with_low (let from = f.first.low.from in let below = f.first.low.below in omega (arith, from, below)) in
          let l = b.left in
          let o = b.owed in
          inr (record { left = omega (arith, l, is.0); owed = omega (arith, o, is.1) })
        where
          with_low : 0 < length sheet.low → (base sheet ≡ most_places + (sheet.heap.rate * largest_low sheet + attempt)) × (analysis.low_events sheet ≡ sheet.heap.rate * largest_low sheet + attempt)
          with_low some =
              let a = s.checked.attempt_is in
              let test : (length sheet.low == 0) ≡ false = ne_eqb (length sheet.low) 0 (λ none. omega (arith, some, none)) in
              (rw test (ap (λ x. most_places + (sheet.heap.rate * largest_low sheet + x)) (sym a)), rw test (ap (λ x. sheet.heap.rate * largest_low sheet + x) (sym a)))
      begins_by o (by_nobody f) e q = inl (quiet_after e f)

      pub begins : quiet_at t ≡ true → (quiet_at (suc t) ≡ true) ⊎ Begins tasks bring owe (base sheet) (analysis.low_events sheet) news left_now owed_now t
      begins q = begins_by (turn choice sheet (at t) t) (turn_is choice sheet (at t) t s.choice_is) refl q

      -- a further one
      not_quiet : quiet_at t ≡ false → IsQuiet sheet (at t) t → ⊥
      not_quiet q is = let k : true ≡ false = sym (is_quiet sheet readable (at t) t is) ∙ q in cc

      goes_on_by : (o : Turn) → TurnIs choice sheet (at t) t o → turn choice sheet (at t) t ≡ o → quiet_at t ≡ false
          → GoesOn tasks bring owe (base sheet) (analysis.low_events sheet) news left_now owed_now t
      goes_on_by o (by_high seat f) e q = high_goes_on tasks cost events attempt news debt_at liable_now low_ticks_at low_events_at ticks_at events_at
          (base sheet) (analysis.low_events sheet) t seat (sheet.heap.rate * words_at sheet (at t) seat) (high_tick seat e f)
      goes_on_by o (by_operation seat f) e q = low_goes_on tasks cost events attempt news debt_at liable_now low_ticks_at low_events_at ticks_at events_at
          (base sheet) (analysis.low_events sheet) t (sheet.heap.rate * words_at sheet (at t) seat) (operation_tick seat e f)
      goes_on_by o (by_collector f) e q = collector_goes_on tasks cost events attempt news debt_at liable_now low_ticks_at low_events_at ticks_at events_at
          (base sheet) (analysis.low_events sheet) t (collector_tick e f)
      goes_on_by o (by_low seat f) e q = absurd (not_quiet q (rests sheet readable (at t) t f.no_high f.no_operation f.nothing_owed))
      goes_on_by o (by_nobody f) e q = absurd (not_quiet q (rests sheet readable (at t) t f.no_high f.no_operation f.nothing_owed))

      pub goes_on : quiet_at t ≡ false → GoesOn tasks bring owe (base sheet) (analysis.low_events sheet) news left_now owed_now t
      goes_on q = goes_on_by (turn choice sheet (at t) t) (turn_is choice sheet (at t) t s.choice_is) refl q
