-- The jobs of some tasks as one list of rows.
use Rattle.std.proofs.Common.{◌≡◌, ℕ, zero, suc, ◌+◌, ◌-◌, ◌<◌, List, [], ◌∷◌, ◌++◌, length, get_or, refl, sym, ap, ◌∙◌, subst, arith, inl, inr, length-append}
use Rattle.std.proofs.lemmas.Bool.{cases_lt, cases_eq}
use Rattle.std.proofs.lemmas.List.{get_or_append_left, get_or-append-add}
use Rattle.hk_plan.specs.declared.Row.{Row}
use Rattle.hk_plan.specs.Alone.{no_row, row_of}
use Rattle.hk_plan.specs.AloneBy.{Jobs}
use Rattle.hk_plan.specs.LeastTask.{ListsJobs}

-- the row of a job, which arrives when the job becomes ready
abbrev pub job_row : Jobs → ℕ → ℕ → Row
job_row jobs i j = record { task = i; arrival = jobs.ready i j; ticks = jobs.ticks i j }

-- the first n jobs of a task
unfoldable pub task_rows : Jobs → ℕ → ℕ → List Row
task_rows jobs i zero = []
task_rows jobs i (suc n) = task_rows jobs i n ++ (job_row jobs i n ∷ [])

-- the jobs of the first n tasks
unfoldable pub rows_before : Jobs → ℕ → List Row
rows_before jobs zero = []
rows_before jobs (suc i) = rows_before jobs i ++ task_rows jobs i (jobs.count i)

-- all of them, task by task, and within a task in the order of its jobs
abbrev pub job_rows : Jobs → List Row
job_rows jobs = rows_before jobs jobs.tasks

-- the place of a job's row
abbrev pub place : Jobs → ℕ → ℕ → ℕ
place jobs i j = length (rows_before jobs i) + j

task_length : (jobs : Jobs) (i n : ℕ) → length (task_rows jobs i n) ≡ n
unfolding task_rows
task_length jobs i zero = refl
task_length jobs i (suc n) = omega (arith, length-append (task_rows jobs i n) (job_row jobs i n ∷ []), task_length jobs i n)

task_rows_at : (jobs : Jobs) (i n j : ℕ) → j < n → row_of (task_rows jobs i n) j ≡ job_row jobs i j
unfolding task_rows
task_rows_at jobs i zero j lt = absurd (omega arith)
task_rows_at jobs i (suc n) j lt =
    let own : List Row = task_rows jobs i n in
    let last : List Row = job_row jobs i n ∷ [] in
    let many : length own ≡ n = task_length jobs i n in
    elim (cases_eq j n) [
      | inr other ↦ get_or_append_left own last no_row j (omega (arith, many, lt, other)) ∙ task_rows_at jobs i n j (omega (arith, lt, other))
      | inl same ↦
          let e : j ≡ length own + 0 = omega (arith, many, same) in
          ap (λ k. get_or (own ++ last) k no_row) e ∙ get_or-append-add own last 0 no_row ∙ ap (λ k. job_row jobs i k) (sym same)
    ]

-- a job is listed at its place
record IsListed (jobs : Jobs) (n i j : ℕ) : Type 0 where
  within : place jobs i j < length (rows_before jobs n)
  row : row_of (rows_before jobs n) (place jobs i j) ≡ job_row jobs i j

is_listed : (jobs : Jobs) (n i j : ℕ) → i < n → j < jobs.count i → IsListed jobs n i j
unfolding rows_before
is_listed jobs zero i j lt listed = absurd (omega arith)
is_listed jobs (suc n) i j lt listed =
    let own : List Row = rows_before jobs n in
    let last : List Row = task_rows jobs n (jobs.count n) in
    let both = length-append own last in
    elim (cases_eq i n) [
      | inr other ↦
          let before = is_listed jobs n i j (omega (arith, lt, other)) listed in
          record {
            within = omega (arith, both, before.within);
            row = get_or_append_left own last no_row (place jobs i j) before.within ∙ before.row;
          }
      | inl same ↦
          let P : ℕ → Type 0 = λ x. IsListed jobs (suc n) x j in
          let Q : ℕ → Type 0 = λ x. j < jobs.count x in
          let fits : j < jobs.count n = subst Q same listed in
          subst P (sym same) (record {
            within = omega (arith, both, task_length jobs n (jobs.count n), fits);
            row = get_or-append-add own last j no_row ∙ task_rows_at jobs n (jobs.count n) j fits;
          })
    ]

-- each place is some job's
record Located (jobs : Jobs) (n k : ℕ) : Type 0 where
  task : ℕ
  job : ℕ
  known : task < n
  listed : job < jobs.count task
  there : place jobs task job ≡ k

located : (jobs : Jobs) (n k : ℕ) → k < length (rows_before jobs n) → Located jobs n k
unfolding rows_before
located jobs zero k lt = absurd (omega arith)
located jobs (suc n) k lt =
    let own : List Row = rows_before jobs n in
    let last : List Row = task_rows jobs n (jobs.count n) in
    elim (cases_lt k (length own)) [
      | inl before ↦
          let l = located jobs n k before in
          record { task = l.task; job = l.job; known = omega (arith, l.known); listed = l.listed; there = l.there }
      | inr past ↦ record {
        task = n;
        job = k - length own;
        known = omega arith;
        listed = omega (arith, lt, past, length-append own last, task_length jobs n (jobs.count n));
        there = omega (arith, past);
      }
    ]

-- the rows list the jobs
pub job_rows_list : (jobs : Jobs) → ListsJobs (job_rows jobs) jobs (place jobs)
job_rows_list jobs = record {
  row = λ i j is.
      let l = is_listed jobs jobs.tasks i j is.known is.listed in
      record {
        within = l.within;
        task = ap (λ (r : Row). r.task) l.row;
        ready = ap (λ (r : Row). r.arrival) l.row;
        ticks = ap (λ (r : Row). r.ticks) l.row;
      };
  job = λ k within.
      let l = located jobs jobs.tasks k within in
      record { task = l.task; job = l.job; is_job = record { known = l.known; listed = l.listed }; there = l.there };
  order = λ i j k less is. omega (arith, less);
}
