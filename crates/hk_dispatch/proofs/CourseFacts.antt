-- What is kept of a course through a tick of its task, and through a tick of another.
use Rattle.std.proofs.Common.{◌≡◌, ◌≢◌, ℕ, suc, zero, ◌+◌, ◌<◌, ◌≤◌, true, length, Option, Some, None, refl, ◌∙◌, arith}
use Rattle.std.proofs.lemmas.Bool.{lt-ltb, eqb-false, leb-true}
use Rattle.std.specs.Prelude.{nat_lt, if◌then◌else◌}
use Rattle.hk_script.specs.Limits.{limits_of}
use Rattle.hk_script.specs.declared.walk.Need.{Need}
use Rattle.hk_script.specs.Blocks.{IsScript}
use Rattle.hk_script.specs.Cost.{greatest_ticks, greatest_words}
use Rattle.hk_script.specs.Walks.{started, need_of, walk_after}
use Rattle.hk_script.specs.Runs.{need_ticks, need_words, taken_by}
use Rattle.hk_script.specs.Left.{words_left}
use Rattle.hk_script.proofs.Stops.{started_fits}
use Rattle.hk_script.proofs.Potential.{ticks_fall, words_fall, ticks_started, words_started, goes_on_fitting}
use Rattle.hk_dispatch.specs.declared.operation.Left.{Left}
use Rattle.hk_dispatch.specs.declared.operation.Left.TheVariants as left
use Rattle.hk_dispatch.specs.Tasks.{Task, is_by}
use Rattle.hk_dispatch.specs.Moment.{Course}
use Rattle.hk_dispatch.specs.Turns.{is_ready}
use Rattle.hk_dispatch.specs.Ticks.{is_over, next_job, course_after}
use Rattle.hk_dispatch.specs.Kept.{CourseKept, KeepsDeclared}
use Rattle.hk_dispatch.proofs.Courses.{by_test}
use Rattle.hk_dispatch.proofs.Walking.{wants_ticks}

-- a moment that is by another is one
by_some : (o : Option ℕ) (t : ℕ) → is_by o t ≡ true → (m : ℕ) × (o ≡ Some m) × (m < suc t)
by_some None t e = absurd (cc)
by_some (Some m) t e = (m, refl, let le : m ≤ t = leb-true m t e in omega (arith, le))

-- a tick of another task
pub course_waits : (task : Task) (course : Course) (t : ℕ) → CourseKept task course t → CourseKept task course (suc t)
course_waits task course t h = record {
  fits = h.fits;
  within = h.within;
  turns = h.turns;
  spent_few = h.spent_few;
  spent_had = h.spent_had;
  began = λ some. let b = h.began some in (b.0, b.1, let lt = b.2 in omega (arith, lt));
  jobs_few = let few = h.jobs_few in omega (arith, few);
}

-- after its third place a New's words were taken
paid_all : (s a : ℕ) → 2 < s → (if nat_lt 2 s then a else 0) ≡ a
paid_all s a lt = rw (lt-ltb 2 s lt) refl

module _ (fields registers : ℕ) (task : Task) (script : IsScript (limits_of fields registers) task.script) where
  -- a task before the first tick of its next job
  pub started_kept : (job later : ℕ) → job ≤ later → (latest : ℕ) → CourseKept task (record { job = job; walk = started job; spent = 0; had = 0; took = 0; latest = latest }) later
  started_kept job later le latest =
      let some = script.some in
      let fits = started_fits task.script job script in
      record {
        fits = fits;
        within = some;
        turns = refl;
        spent_few = wants_ticks fields registers task.script (started job) script fits some;
        spent_had = omega arith;
        began = λ none. absurd (omega (arith, none));
        jobs_few = omega (arith, le);
      }

  -- which takes no more than the script costs
  pub started_declared : (cost most : ℕ) → greatest_ticks task.script ≤ cost → greatest_words task.script ≤ most
      → (job latest : ℕ) → KeepsDeclared task.script (record { job = job; walk = started job; spent = 0; had = 0; took = 0; latest = latest }) cost most
  started_declared cost most costs sizes job latest = record {
    ticks_few = let all = ticks_started task.script job script in omega (arith, all, costs);
    words_few = let all = words_started task.script job script in omega (arith, all, sizes);
  }

module _ (fields registers : ℕ) (task : Task) (script : IsScript (limits_of fields registers) task.script) (course : Course) (t : ℕ) where
  module _ (h : CourseKept task course t) (ready : is_ready task course t ≡ true) (words : ℕ) where
    abbrev KeptAfter : Left → Type 0
    KeptAfter l = CourseKept task (course_after task course t words l) (suc t)

    over : CourseKept task (next_job task course t) (suc t)
    over = let few = h.jobs_few in started_kept fields registers task script (course.job + 1) (suc t) (omega (arith, few)) _

    -- a tick of a task leaves its job at the same statement while that takes more ticks
    pub course_keeps : (l : Left) → (l ≡ left.Stays → course.spent + 1 < taken_by need_ticks (need_of task.script course.walk)) → KeptAfter l
    course_keeps left.Stays more = record {
      fits = h.fits;
      within = h.within;
      turns = h.turns;
      spent_few = more refl;
      spent_had = let s = h.spent_had in omega (arith, s);
      began = λ some. by_some (task.ready course.job) t ready;
      jobs_few = let few = h.jobs_few in omega (arith, few);
    }
    course_keeps (left.Faults f) more = over
    course_keeps (left.Passes r) more =
        let walk = walk_after task.script course.walk r in
        let g = goes_on_fitting task.script course.walk r script h.fits in
        by_test (λ (c : Course). CourseKept task c (suc t)) (is_over task walk) (next_job task course t) _ (λ e. over)
        (λ e.
        let not_end : walk.place ≢ length task.script = eqb-false walk.place (length task.script) e in
        let lt : walk.place < length task.script = let le = g.0.within in omega (arith, le, not_end) in
        record {
          fits = g.0;
          within = lt;
          turns = g.1 ∙ h.turns;
          spent_few = wants_ticks fields registers task.script walk script g.0 lt;
          spent_had = omega arith;
          began = λ some. by_some (task.ready course.job) t ready;
          jobs_few = let few = h.jobs_few in omega (arith, few);
        })

    -- THE TICKS AND THE WORDS of a job, where those of its script are at most the declared ones
    module _ (cost most : ℕ) (costs : greatest_ticks task.script ≤ cost) (sizes : greatest_words task.script ≤ most) (d : KeepsDeclared task.script course cost most) where
      abbrev wants : Option Need
      wants = need_of task.script course.walk

      -- what the tick takes of the present statement's words, beside those that were taken before
      pub declared_keeps : (l : Left) → (course.spent < 2 → words ≡ 0) → (2 < course.spent → words ≡ 0) → words ≤ taken_by need_words wants
          → KeepsDeclared task.script (course_after task course t words l) cost most
      declared_keeps left.Stays early late few = record {
        ticks_few = let k = d.ticks_few in omega (arith, k);
        words_few = by_spent course.spent (taken_by need_words wants) words course.took (words_left task.script course.walk) most early late few d.words_few;
      }
        where
          by_spent : (s a w took rest most' : ℕ) → (s < 2 → w ≡ 0) → (2 < s → w ≡ 0) → w ≤ a → took + rest ≤ most' + (if nat_lt 2 s then a else 0) → took + w + rest ≤ most' + (if nat_lt 2 (s + 1) then a else 0)
          by_spent zero a w took rest most' e l f k = let n = e (omega arith) in omega (arith, n, k)
          by_spent (suc zero) a w took rest most' e l f k = let n = e (omega arith) in omega (arith, n, k)
          by_spent (suc (suc zero)) a w took rest most' e l f k = omega (arith, f, k)
          by_spent (suc (suc (suc s))) a w took rest most' e l f k =
              let n = l (omega arith) in omega (arith, n, k, paid_all (suc (suc (suc s))) a (omega arith), paid_all (suc (suc (suc s)) + 1) a (omega arith))
      declared_keeps (left.Faults f) early late few = started_declared fields registers task script cost most costs sizes (course.job + 1) _
      declared_keeps (left.Passes r) early late few =
          let walk = walk_after task.script course.walk r in
          let tick = ticks_fall task.script course.walk r script h.fits h.turns in
          let word = words_fall task.script course.walk r script h.fits h.turns in
          by_test (λ (c : Course). KeepsDeclared task.script c cost most) (is_over task walk) (next_job task course t) _ (λ e. started_declared fields registers task script cost most costs sizes (course.job + 1) _)
          (λ e. record {
            ticks_few = let k = d.ticks_few in let s = h.spent_few in omega (arith, k, s, tick);
            words_few = by_spent course.spent (taken_by need_words wants) words course.took (words_left task.script course.walk) (words_left task.script walk) most early late few d.words_few word;
          })
        where
          by_spent : (s a w took rest rest' most' : ℕ) → (s < 2 → w ≡ 0) → (2 < s → w ≡ 0) → w ≤ a → took + rest ≤ most' + (if nat_lt 2 s then a else 0) → a + rest' ≤ rest → took + w + rest' ≤ most' + 0
          by_spent zero a w took rest rest' most' e l f k g = let n = e (omega arith) in omega (arith, n, k, g)
          by_spent (suc zero) a w took rest rest' most' e l f k g = let n = e (omega arith) in omega (arith, n, k, g)
          by_spent (suc (suc zero)) a w took rest rest' most' e l f k g = omega (arith, f, k, g)
          by_spent (suc (suc (suc s))) a w took rest rest' most' e l f k g = let n = l (omega arith) in omega (arith, n, k, g, paid_all (suc (suc (suc s))) a (omega arith))
