-- What the high jobs have left: how it changes with a tick of the task, and with a tick of another.
use Rattle.std.proofs.Common.{◌≡◌, ◌≢◌, ℕ, suc, zero, ◌+◌, ◌-◌, ◌*◌, ◌<◌, ◌≤◌, length, refl, sym, ◌∙◌, ap, subst, arith}
use Rattle.std.proofs.lemmas.Bool.{lt-ltb}
use Rattle.std.proofs.Math.Nat.{mul-le-mul_left, mul-le-mul_right}
use Rattle.std.specs.Prelude.{nat_lt, if◌then◌else◌}
use Rattle.hk_words.specs.declared.call.Reply.TheVariants as reply
use Rattle.hk_script.specs.Runs.{need_words, taken_by}
use Rattle.hk_script.specs.Walks.{walk_after}
use Rattle.hk_script.specs.Left.{words_left}
use Rattle.hk_script.proofs.Potential.{ticks_fall, words_fall}
use Rattle.hk_sheet.specs.declared.sheet.Sheet.{Sheet}
use Rattle.hk_sheet.specs.Valid.{IsSheet}
use Rattle.hk_dispatch.specs.declared.operation.Left.{Left}
use Rattle.hk_dispatch.specs.declared.operation.Left.TheVariants as left
use Rattle.hk_dispatch.specs.Tasks.{Task, tasks_of, task_at, high_at}
use Rattle.hk_dispatch.specs.Moment.{Course, Moment, core_of, course_at, need_at}
use Rattle.hk_dispatch.specs.Ticks.{is_over, next_job, course_after}
use Rattle.hk_dispatch.specs.Kept.{CourseKept, KeepsDeclared}
use Rattle.hk_dispatch.specs.Jobs.{JobsKept}
use Rattle.hk_dispatch.proofs.Counters.{ready_before, fresh, backlog, high_ticks, high_events}
use Rattle.hk_dispatch.proofs.Courses.{by_test, words_now}
use Rattle.hk_dispatch.proofs.JobsKept.{high_is}
use Rattle.hk_dispatch.proofs.ReadyMoments.{high_right}
use Rattle.hk_dispatch.proofs.ReadyCounts.{ready_next, ready_below}
use Rattle.hk_dispatch.proofs.Sheets.{scripts, count_tasks}
use Rattle.hk_dispatch.proofs.TaskTick.{words_few, words_none}

-- ON NUMBERS: b jobs wait and f come, each of c ticks, of which the first has had some

scaled : (k a x b f w : ℕ) → a + x ≤ b + f * w → k * a + k * x ≤ k * b + f * (k * w)
scaled k a x b f w h = let m = mul-le-mul_left k h in omega (arith, m)

waits_on : (b f c had : ℕ) → (b + f) * c - had ≤ (b * c - had) + f * c
waits_on b f c had = omega arith

pub waits_owing : (k b f w took : ℕ) → k * ((b + f) * w - took) ≤ k * (b * w - took) + f * (k * w)
waits_owing k b f w took = let h = scaled k ((b + f) * w - took) 0 (b * w - took) f w (let m = waits_on b f w took in omega (arith, m)) in omega (arith, h)

goes_on : (b f c had x : ℕ) → 1 ≤ b + f → had + x ≤ c → ((b + f) * c - (had + x)) + x ≤ (b * c - had) + f * c
goes_on b f c had x some few = let m = mul-le-mul_right c some in omega (arith, m, few)

ends_at : (b f rest c had x : ℕ) → b + f ≡ suc rest → had + x ≤ c → (rest * c - 0) + x ≤ (b * c - had) + f * c
ends_at b f rest c had x e few = let m = ap (λ n. n * c) e in let n : suc rest * c ≡ rest * c + c = omega arith in let d : (b + f) * c ≡ b * c + f * c = omega arith in omega (arith, m, n, d, few)

pub none_to_do : (b c had : ℕ) → b ≡ 0 → b * c - had ≡ 0
none_to_do b c had none = let m = ap (λ x. x * c) none in omega (arith, m)

pub none_to_owe : (k b w took : ℕ) → b ≡ 0 → k * (b * w - took) ≡ 0
none_to_owe k b w took none = ap (λ x. k * x) (none_to_do b w took none) ∙ omega arith

-- A TICK OF A TASK takes its job on, or ends it
pub data Moves (c d : Course) (words : ℕ) : Type 0 where
  stays_at : d.job ≡ c.job → d.had ≡ c.had + 1 → d.took ≡ c.took + words → Moves c d words
  is_next : d.job ≡ c.job + 1 → d.had ≡ 0 → d.took ≡ 0 → Moves c d words

pub moves : (task : Task) (c : Course) (tick words : ℕ) (l : Left) → Moves c (course_after task c tick words l) words
moves task c tick words left.Stays = stays_at refl refl refl
moves task c tick words (left.Faults fault) = is_next refl refl refl
moves task c tick words (left.Passes r) = by_test (λ (d : Course). Moves c d words) (is_over task (walk_after task.script c.walk r)) (next_job task c tick) _
    (λ e. is_next refl refl refl) (λ e. stays_at refl refl refl)

-- of n jobs that have become ready before the tick, and f at it, the task ends no more
pub job_few : (c d : Course) (words n : ℕ) → Moves c d words → c.job < n → d.job ≤ n
job_few c d words n (stays_at j h k) lt = omega (arith, j, lt)
job_few c d words n (is_next j h k) lt = omega (arith, j, lt)

ticks_by : (c d : Course) (words n f cost : ℕ) → Moves c d words → c.job ≤ n → c.job < n + f → c.had < cost
    → ((n + f - d.job) * cost - d.had) + 1 ≤ ((n - c.job) * cost - c.had) + f * cost
ticks_by c d words n f cost (stays_at j h k) le lt few =
    let b : n + f - d.job ≡ (n - c.job) + f = omega (arith, j, le) in
    let is : ((n + f - d.job) * cost - d.had) ≡ (((n - c.job) + f) * cost - (c.had + 1)) = ap (λ x. x * cost - d.had) b ∙ ap (λ x. ((n - c.job) + f) * cost - x) h in
    let g = goes_on (n - c.job) f cost c.had 1 (omega (arith, le, lt)) (omega (arith, few)) in
    omega (arith, is, g)
ticks_by c d words n f cost (is_next j h k) le lt few =
    let is : ((n + f - d.job) * cost - d.had) ≡ ((n + f - (c.job + 1)) * cost - 0) = ap (λ x. (n + f - x) * cost - d.had) j ∙ ap (λ x. (n + f - (c.job + 1)) * cost - x) h in
    let g = ends_at (n - c.job) f (n + f - (c.job + 1)) cost c.had 1 (omega (arith, le, lt)) (omega (arith, few)) in
    omega (arith, is, g)

events_by : (c d : Course) (words n f most rate : ℕ) → Moves c d words → c.job ≤ n → c.job < n + f → c.took + words ≤ most
    → rate * ((n + f - d.job) * most - d.took) + rate * words ≤ rate * ((n - c.job) * most - c.took) + f * (rate * most)
events_by c d words n f most rate (stays_at j h k) le lt few =
    let b : n + f - d.job ≡ (n - c.job) + f = omega (arith, j, le) in
    let is : ((n + f - d.job) * most - d.took) ≡ (((n - c.job) + f) * most - (c.took + words)) = ap (λ x. x * most - d.took) b ∙ ap (λ x. ((n - c.job) + f) * most - x) k in
    let g = goes_on (n - c.job) f most c.took words (omega (arith, le, lt)) few in
    scaled rate ((n + f - d.job) * most - d.took) words ((n - c.job) * most - c.took) f most (omega (arith, is, g))
events_by c d words n f most rate (is_next j h k) le lt few =
    let is : ((n + f - d.job) * most - d.took) ≡ ((n + f - (c.job + 1)) * most - 0) = ap (λ x. (n + f - x) * most - d.took) j ∙ ap (λ x. (n + f - (c.job + 1)) * most - x) k in
    let g = ends_at (n - c.job) f (n + f - (c.job + 1)) most c.took words (omega (arith, le, lt)) few in
    scaled rate ((n + f - d.job) * most - d.took) words ((n - c.job) * most - c.took) f most (omega (arith, is, g))

-- the words of a tick, beside those that its job has taken
words_by_declared : (s a w took left most : ℕ) → (s ≢ 2 → w ≡ 0) → w ≤ a → a ≤ left → took + left ≤ most + (if nat_lt 2 s then a else 0) → took + w ≤ most
words_by_declared zero a w took left most none few within k = let n = none (λ e. omega (arith, e)) in omega (arith, n, k)
words_by_declared (suc zero) a w took left most none few within k = let n = none (λ e. omega (arith, e)) in omega (arith, n, k)
words_by_declared (suc (suc zero)) a w took left most none few within k = omega (arith, few, within, k)
words_by_declared (suc (suc (suc s))) a w took left most none few within k =
    let n = none (λ e. omega (arith, e)) in
    let all : (if nat_lt 2 (suc (suc (suc s))) then a else 0) ≡ a = rw (lt-ltb 2 (suc (suc (suc s))) (omega arith)) refl in
    omega (arith, n, k, all, within)

-- A HIGH SEAT AT A MOMENT

module _ (sheet : Sheet) (readable : IsSheet sheet) (m : Moment) (t : ℕ) (seat : ℕ) (high : seat < length sheet.high) where
  abbrev came : ℕ
  came = ready_before (high_at sheet seat) t

  module _ (jobs : JobsKept sheet m t) where
    below : seat < length (tasks_of sheet)
    below = omega (arith, high, count_tasks sheet)

    kept : CourseKept (task_at sheet seat) (course_at m seat) t
    kept = jobs.course seat below

    declared : KeepsDeclared (task_at sheet seat).script (course_at m seat) (high_at sheet seat).timing.cost (high_at sheet seat).words
    declared = subst (λ (a : Task). KeepsDeclared a.script (course_at m seat) (high_at sheet seat).timing.cost (high_at sheet seat).words) (sym (high_is sheet seat high)) (jobs.declared seat high)

    -- a job has had fewer ticks than its task declares
    pub had_few : (course_at m seat).had < (high_at sheet seat).timing.cost
    had_few =
        let fall = ticks_fall (task_at sheet seat).script (course_at m seat).walk reply.Unit (scripts sheet readable seat below) kept.fits kept.turns in
        let few = declared.ticks_few in
        let more = kept.spent_few in
        omega (arith, fall, few, more)

    -- and takes no more words, with those of a tick
    pub took_few : (course_at m seat).took + words_now sheet m t seat ≤ (high_at sheet seat).words
    took_few =
        let fall = words_fall (task_at sheet seat).script (course_at m seat).walk reply.Unit (scripts sheet readable seat below) kept.fits kept.turns in
        words_by_declared (course_at m seat).spent (taken_by need_words (need_at sheet m seat)) (words_now sheet m t seat) (course_at m seat).took
        (words_left (task_at sheet seat).script (course_at m seat).walk) (high_at sheet seat).words
        (words_none (core_of m) seat (course_at m seat).spent (need_at sheet m seat))
        (words_few (core_of m) seat (course_at m seat).spent (need_at sheet m seat)) (omega (arith, fall)) declared.words_few

    -- before its third tick at a New, with the words of that
    pub took_before : (course_at m seat).spent ≤ 2 → (course_at m seat).took + taken_by need_words (need_at sheet m seat) ≤ (high_at sheet seat).words
    took_before early =
        let fall = words_fall (task_at sheet seat).script (course_at m seat).walk reply.Unit (scripts sheet readable seat below) kept.fits kept.turns in
        by_spent (course_at m seat).spent (taken_by need_words (need_at sheet m seat)) (course_at m seat).took (words_left (task_at sheet seat).script (course_at m seat).walk) (high_at sheet seat).words
        early (omega (arith, fall)) declared.words_few
      where
        by_spent : (s a took rest most : ℕ) → s ≤ 2 → a ≤ rest → took + rest ≤ most + (if nat_lt 2 s then a else 0) → took + a ≤ most
        by_spent zero a took rest most early within k = omega (arith, within, k)
        by_spent (suc zero) a took rest most early within k = omega (arith, within, k)
        by_spent (suc (suc zero)) a took rest most early within k = omega (arith, within, k)
        by_spent (suc (suc (suc s))) a took rest most early within k = absurd (omega (arith, early))

    -- a task with a job that waits has a tick left
    pub some_left : 1 ≤ backlog sheet m t seat → 1 ≤ high_ticks sheet m t seat
    some_left some = by_backlog (backlog sheet m t seat) (high_at sheet seat).timing.cost (course_at m seat).had some had_few
      where
        by_backlog : (b c had : ℕ) → 1 ≤ b → had < c → 1 ≤ b * c - had
        by_backlog b c had some few = let k = mul-le-mul_right c some in omega (arith, k, few)

    -- where none waits, nothing is left
    pub none_had : backlog sheet m t seat ≡ 0 → (course_at m seat).had ≡ 0
    none_had none = by_had (course_at m seat).had refl
      where
        by_had : (had : ℕ) → (course_at m seat).had ≡ had → (course_at m seat).had ≡ 0
        by_had zero e = e
        by_had (suc had) e = absurd (
            let b = kept.began (omega (arith, e)) in
            let is = ap (λ (a : Task). a.ready (course_at m seat).job) (sym (high_is sheet seat high)) ∙ b.1 in
            let lt = ready_below sheet (high_at sheet seat) (high_right sheet readable seat high) t (course_at m seat).job b.0 is b.2 in
            omega (arith, none, lt)
            )

  -- A TICK from the moment to another

  -- that another gets
  module _ (n : Moment) (same : course_at n seat ≡ course_at m seat) (le : (course_at m seat).job ≤ came) where
    grown : backlog sheet n (suc t) seat ≡ backlog sheet m t seat + fresh sheet t seat
    grown =
        let j = ap (λ (c : Course). c.job) same in
        omega (arith, j, le, ready_next (high_at sheet seat) t)

    pub ticks_wait : high_ticks sheet n (suc t) seat ≤ high_ticks sheet m t seat + fresh sheet t seat * (high_at sheet seat).timing.cost
    ticks_wait =
        let is : high_ticks sheet n (suc t) seat ≡ (backlog sheet m t seat + fresh sheet t seat) * (high_at sheet seat).timing.cost - (course_at m seat).had =
        ap (λ b. b * (high_at sheet seat).timing.cost - (course_at n seat).had) grown ∙ ap (λ (c : Course). (backlog sheet m t seat + fresh sheet t seat) * (high_at sheet seat).timing.cost - c.had) same in
        subst (λ x. x ≤ high_ticks sheet m t seat + fresh sheet t seat * (high_at sheet seat).timing.cost) (sym is)
        (waits_on (backlog sheet m t seat) (fresh sheet t seat) (high_at sheet seat).timing.cost (course_at m seat).had)

    pub events_wait : high_events sheet n (suc t) seat ≤ high_events sheet m t seat + fresh sheet t seat * (sheet.heap.rate * (high_at sheet seat).words)
    events_wait =
        let is : high_events sheet n (suc t) seat ≡ sheet.heap.rate * ((backlog sheet m t seat + fresh sheet t seat) * (high_at sheet seat).words - (course_at m seat).took) =
        ap (λ b. sheet.heap.rate * (b * (high_at sheet seat).words - (course_at n seat).took)) grown
        ∙ ap (λ (c : Course). sheet.heap.rate * ((backlog sheet m t seat + fresh sheet t seat) * (high_at sheet seat).words - c.took)) same in
        subst (λ x. x ≤ high_events sheet m t seat + fresh sheet t seat * (sheet.heap.rate * (high_at sheet seat).words)) (sym is)
        (waits_owing sheet.heap.rate (backlog sheet m t seat) (fresh sheet t seat) (high_at sheet seat).words (course_at m seat).took)

  -- that it gets
  module _ (n : Moment) (words : ℕ) (moved : Moves (course_at m seat) (course_at n seat) words) (le : (course_at m seat).job ≤ came)
      (counts : (course_at m seat).job < ready_before (high_at sheet seat) (suc t)) where
    pub ticks_fall_by_one : (course_at m seat).had < (high_at sheet seat).timing.cost
        → high_ticks sheet n (suc t) seat + 1 ≤ high_ticks sheet m t seat + fresh sheet t seat * (high_at sheet seat).timing.cost
    ticks_fall_by_one few =
        subst (λ r. ((r - (course_at n seat).job) * (high_at sheet seat).timing.cost - (course_at n seat).had) + 1 ≤ high_ticks sheet m t seat + fresh sheet t seat * (high_at sheet seat).timing.cost)
        (sym (ready_next (high_at sheet seat) t))
        (ticks_by (course_at m seat) (course_at n seat) words came (fresh sheet t seat) (high_at sheet seat).timing.cost moved le (omega (arith, counts, ready_next (high_at sheet seat) t)) few)

    pub events_fall : (course_at m seat).took + words ≤ (high_at sheet seat).words
        → high_events sheet n (suc t) seat + sheet.heap.rate * words ≤ high_events sheet m t seat + fresh sheet t seat * (sheet.heap.rate * (high_at sheet seat).words)
    events_fall few =
        subst (λ r. sheet.heap.rate * ((r - (course_at n seat).job) * (high_at sheet seat).words - (course_at n seat).took) + sheet.heap.rate * words
        ≤ high_events sheet m t seat + fresh sheet t seat * (sheet.heap.rate * (high_at sheet seat).words)) (sym (ready_next (high_at sheet seat) t))
        (events_by (course_at m seat) (course_at n seat) words came (fresh sheet t seat) (high_at sheet seat).words sheet.heap.rate moved le (omega (arith, counts, ready_next (high_at sheet seat) t)) few)
