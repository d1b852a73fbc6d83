-- What a tick does to the counts of a session. After one of a task no course has gone back, the words that it takes are owed for, and
-- a low task that takes words has an object more; one of the collector pays for an event that is owed, and may lose an attempt.
use Rattle.std.proofs.Common.{◌≡◌, ℕ, ◌+◌, ◌*◌, ◌<◌, ◌≤◌, Bool, true, false, length, refl, sym, ◌∙◌, ap, subst, arith, inl, inr}
use Rattle.std.proofs.lemmas.Bool.{cases_eq, lt-ltb, le-ltb}
use Rattle.std.specs.Prelude.{nat_lt, not, ◌&&◌, if◌then◌else◌}
use Rattle.hk_core.specs.Collect.{work_by_collector}
use Rattle.hk_collect.specs.Pays.{lost_in, debt_after}
use Rattle.hk_sheet.specs.declared.sheet.Sheet.{Sheet}
use Rattle.hk_dispatch.specs.Tasks.{IsLowSeat, task_at, is_high}
use Rattle.hk_dispatch.specs.Moment.{Course, Moment, core_of, course_at}
use Rattle.hk_dispatch.specs.Ticks.{after_task, after_event}
use Rattle.hk_dispatch.proofs.Courses.{left_now, words_now, course_now, own_course, other_course}
use Rattle.hk_dispatch.proofs.HighLeft.{Moves, stays_at, is_next, moves}

-- A TASK
module _ (sheet : Sheet) (m : Moment) (t seat : ℕ) (inside : seat < length m.courses) where
  job_rises : (c d : Course) (words : ℕ) → Moves c d words → c.job ≤ d.job
  job_rises c d words (stays_at j h k) = omega (arith, j)
  job_rises c d words (is_next j h k) = omega (arith, j)

  pub jobs_rise : (other : ℕ) → (course_at m other).job ≤ (course_at (after_task sheet m t seat) other).job
  jobs_rise other = elim (cases_eq other seat) [
    | inr differs ↦ let e = ap (λ (c : Course). c.job) (other_course sheet m t seat other differs) in omega (arith, e)
    | inl same ↦ subst (λ k. (course_at m k).job ≤ (course_at (after_task sheet m t seat) k).job) (sym same)
        (let e = ap (λ (c : Course). c.job) (own_course sheet m t seat inside) in
        let up = job_rises (course_at m seat) (course_now sheet m t seat) (words_now sheet m t seat) (moves (task_at sheet seat) (course_at m seat) t (words_now sheet m t seat) (left_now sheet m t seat)) in
        omega (arith, e, up))
  ]

module _ (sheet : Sheet) (m : Moment) (t seat : ℕ) where
  pub debt_is : (after_task sheet m t seat).debt ≡ m.debt + sheet.heap.rate * words_now sheet m t seat
  unfolding after_task
  debt_is = refl

  pub lost_is : (after_task sheet m t seat).lost ≡ m.lost
  unfolding after_task
  lost_is = refl

  pub news_are : (after_task sheet m t seat).low_objects ≡ m.low_objects + (if nat_lt 0 (words_now sheet m t seat) && not (is_high sheet seat) then 1 else 0)
  unfolding after_task
  news_are = refl

  none_new : (b : Bool) → ◌≡◌ {A = ℕ} (if b && false then 1 else 0) 0
  none_new true = refl
  none_new false = refl

  pub high_news : seat < length sheet.high → (after_task sheet m t seat).low_objects ≡ m.low_objects
  high_news high =
      let b : not (is_high sheet seat) ≡ false = ap not (lt-ltb seat (length sheet.high) high) in
      let c : ◌≡◌ {A = ℕ} (if nat_lt 0 (words_now sheet m t seat) && not (is_high sheet seat) then 1 else 0) 0 =
      ap (λ x. if nat_lt 0 (words_now sheet m t seat) && x then 1 else 0) b ∙ none_new (nat_lt 0 (words_now sheet m t seat)) in
      omega (arith, news_are, c)

  pub low_news : IsLowSeat sheet seat → 0 < words_now sheet m t seat → (after_task sheet m t seat).low_objects ≡ m.low_objects + 1
  low_news low some =
      let b : not (is_high sheet seat) ≡ true = ap not (le-ltb seat (length sheet.high) low.from) in
      let a : nat_lt 0 (words_now sheet m t seat) ≡ true = lt-ltb 0 (words_now sheet m t seat) some in
      let c : ◌≡◌ {A = ℕ} (if nat_lt 0 (words_now sheet m t seat) && not (is_high sheet seat) then 1 else 0) 1 = λ i. if a i && b i then 1 else 0 in
      omega (arith, news_are, c)

  -- where no words are taken nothing more is owed
  pub owes_none : words_now sheet m t seat ≡ 0 → (after_task sheet m t seat).debt ≡ m.debt
  owes_none none = let e : sheet.heap.rate * words_now sheet m t seat ≡ 0 = ap (λ w. sheet.heap.rate * w) none ∙ omega arith in omega (arith, e, debt_is)

-- THE COLLECTOR
module _ (m : Moment) where
  pub event_lost : (after_event m).lost ≡ m.lost + lost_in (work_by_collector (core_of m))
  unfolding after_event
  event_lost = refl

  pub event_debt : (after_event m).debt ≡ debt_after (work_by_collector (core_of m)) m.debt
  unfolding after_event
  event_debt = refl

  pub event_news : (after_event m).low_objects ≡ m.low_objects
  unfolding after_event
  event_news = refl

  pub event_jobs : (other : ℕ) → (course_at m other).job ≤ (course_at (after_event m) other).job
  unfolding after_event
  event_jobs other = omega arith
