-- The jobs of some tasks by the places of their rows, and their schedule over these places.
use Rattle.std.proofs.Common.{◌≡◌, ℕ, ◌-◌, ◌<◌, nat_lt, if◌then◌else◌, List, Option, Some, None, length, sym, ap, ◌∙◌, refl, arith}
use Rattle.std.proofs.lemmas.Bool.{lt-ltb}
use Rattle.hk_plan.specs.declared.Ready.{Ready}
use Rattle.hk_plan.specs.Alone.{task_of}
use Rattle.hk_plan.specs.AloneBy.{Jobs, IsJob, earliest, alone_turn, alone_had}
use Rattle.hk_plan.specs.LeastTask.{IsRowOf, HasJob}
use Rattle.hk_plan.proofs.JobRows.{rows_before, job_rows, place, job_rows_list}

-- what the row at a place has had, where each job has had so many ticks
abbrev pub had_at : Jobs → (ℕ → ℕ → ℕ) → ℕ → ℕ
had_at jobs had k =
    let i = task_of (job_rows jobs) k in
    if nat_lt k (length (job_rows jobs)) then had i (k - length (rows_before jobs i)) else 0

abbrev pub at_job : Jobs → ℕ → Option ℕ → Option ℕ
at_job jobs i None = None
at_job jobs i (Some j) = Some (place jobs i j)

abbrev pub at_turn : Jobs → (ℕ → ℕ → ℕ) → ℕ → Option ℕ → Option ℕ
at_turn jobs had t None = None
at_turn jobs had t (Some i) = at_job jobs i (earliest jobs had t i)

-- the place whose row gets a tick
abbrev pub got_at : (List Ready → ℕ) → Jobs → ℕ → Option ℕ
got_at choice jobs t =
    let had = alone_had choice jobs t in
    at_turn jobs had t (alone_turn choice jobs had t)

module _ (jobs : Jobs) where
  pub is_row : (i j : ℕ) → IsJob jobs i j → IsRowOf (job_rows jobs) jobs i j (place jobs i j)
  is_row i j is = (job_rows_list jobs).row i j is

  pub job_of : (k : ℕ) → k < length (job_rows jobs) → HasJob jobs (place jobs) k
  job_of k lt = (job_rows_list jobs).job k lt

  -- the task of a row is that of its job
  pub task_is : (k : ℕ) (l : HasJob jobs (place jobs) k) → task_of (job_rows jobs) k ≡ l.task
  task_is k l = ap (λ x. task_of (job_rows jobs) x) (sym l.there) ∙ (is_row l.task l.job l.is_job).task

  -- one place is of one job
  pub same_task : (i j a b : ℕ) → IsJob jobs i j → IsJob jobs a b → place jobs i j ≡ place jobs a b → i ≡ a
  same_task i j a b is other e = sym (is_row i j is).task ∙ ap (λ k. task_of (job_rows jobs) k) e ∙ (is_row a b other).task

  pub same_job : (i j a b : ℕ) → IsJob jobs i j → IsJob jobs a b → place jobs i j ≡ place jobs a b → j ≡ b
  same_job i j a b is other e = omega (arith, e, ap (λ x. length (rows_before jobs x)) (same_task i j a b is other e))

  -- what a place has had
  pub its_had : (had : ℕ → ℕ → ℕ) (i j : ℕ) → IsJob jobs i j → had_at jobs had (place jobs i j) ≡ had i j
  its_had had i j is =
      let back : place jobs i j - length (rows_before jobs i) ≡ j = omega arith in
      rw (lt-ltb (place jobs i j) (length (job_rows jobs)) (is_row i j is).within, (is_row i j is).task, back) refl
