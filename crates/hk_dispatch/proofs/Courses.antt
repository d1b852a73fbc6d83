-- The courses after a tick of a task: that of its own seat is the one that the tick leads to, and the others are as they were.
use Rattle.std.proofs.Common.{◌≡◌, ◌≢◌, ℕ, ◌<◌, Bool, true, false, length, refl, length-set, get_or-set_same, get_or-set_other}
use Rattle.std.specs.Prelude.{if◌then◌else◌}
use Rattle.hk_words.specs.declared.call.Reply.{Reply}
use Rattle.hk_script.specs.declared.walk.Walk.{Walk}
use Rattle.hk_sheet.specs.declared.sheet.Sheet.{Sheet}
use Rattle.hk_dispatch.specs.declared.operation.Left.{Left}
use Rattle.hk_dispatch.specs.declared.operation.Left.TheVariants as left
use Rattle.hk_dispatch.specs.Tasks.{Task, task_at}
use Rattle.hk_dispatch.specs.Moment.{Course, Moment, core_of, course_at, need_at, no_course}
use Rattle.hk_dispatch.specs.Ticks.{is_over, next_job, passed, course_after, after_task, left_by, words_by}

-- what a test chooses has what both sides have
pub by_test : {A : Type 0} (P : A → Type 0) (test : Bool) (a b : A) → (test ≡ true → P a) → (test ≡ false → P b) → P (if test then a else b)
by_test P true a b yes' no' = yes' refl
by_test P false a b yes' no' = no' refl

module _ (sheet : Sheet) (m : Moment) (tick seat : ℕ) where
  -- how the tick leaves the job, and the words that it takes
  abbrev pub left_now : Left
  left_now = left_by (core_of m) seat (course_at m seat).spent (need_at sheet m seat)

  abbrev pub words_now : ℕ
  words_now = words_by (core_of m) seat (course_at m seat).spent (need_at sheet m seat)

  abbrev pub course_now : Course
  course_now = course_after (task_at sheet seat) (course_at m seat) tick words_now left_now

  pub own_course : seat < length m.courses → course_at (after_task sheet m tick seat) seat ≡ course_now
  unfolding after_task
  own_course below = get_or-set_same m.courses seat course_now no_course below

  pub other_course : (other : ℕ) → other ≢ seat → course_at (after_task sheet m tick seat) other ≡ course_at m other
  unfolding after_task
  other_course other differs = get_or-set_other m.courses seat other course_now no_course differs

  pub as_many_courses : length (after_task sheet m tick seat).courses ≡ length m.courses
  unfolding after_task
  as_many_courses = length-set m.courses seat course_now

-- past a statement, or at its end, a job has had no tick of what comes next
pub passed_spent : (task : Task) (course : Course) (tick words : ℕ) (walk : Walk) → (passed task course tick words walk).spent ≡ 0
passed_spent task course tick words walk = by_test (λ (c : Course). c.spent ≡ 0) (is_over task walk) (next_job task course tick) _ (λ e. refl) (λ e. refl)

pub passes_spent : (task : Task) (course : Course) (tick words : ℕ) (r : Reply) → (course_after task course tick words (left.Passes r)).spent ≡ 0
passes_spent task course tick words r = passed_spent task course tick words _
