-- That each job ends within its task's response time.
use Rattle.std.proofs.Common.{◌≡◌, ℕ, ◌+◌, ◌-◌, ◌<◌, ◌≤◌, List, length, sym, ap, ◌∙◌, subst, arith}
use Rattle.hk_rta.specs.declared.Timing.{Timing}
use Rattle.hk_plan.specs.declared.Row.{Row}
use Rattle.hk_plan.specs.Alone.{task_of, arrival_of, ticks_of}
use Rattle.hk_plan.specs.Bounds.{KeepsTiming, EndsWithin}
use Rattle.hk_plan.specs.AloneBy.{Jobs, IsJob}
use Rattle.hk_plan.specs.LeastTask.{IsPlainSchedule}
use Rattle.hk_plan.specs.JobBounds.{JobsKeepTiming, JobEndsWithin, ResponseBoundsJobs}
use Rattle.hk_plan.proofs.Bound.{response_bounds}
use Rattle.hk_plan.proofs.JobRows.{rows_before, job_rows, place, job_rows_list}
use Rattle.hk_plan.proofs.LeastTask.{least_task_is_plain}

module _ (jobs : Jobs) where
  abbrev rows : List Row
  rows = job_rows jobs

  -- the arrival of the job whose row is at a place
  abbrev origin : ℕ → ℕ
  origin k = jobs.arrival (task_of rows k) (k - length (rows_before jobs (task_of rows k)))

  origin_is : (i j : ℕ) → IsJob jobs i j → origin (place jobs i j) ≡ jobs.arrival i j
  origin_is i j is =
      let task : task_of rows (place jobs i j) ≡ i = ((job_rows_list jobs).row i j is).task in
      let back : place jobs i j - length (rows_before jobs i) ≡ j = omega arith in
      ap (λ x. jobs.arrival x (place jobs i j - length (rows_before jobs x))) task ∙ ap (λ y. jobs.arrival i y) back

  -- a row of a task is one of its jobs'
  record Own (i k : ℕ) : Type 0 where
    job : ℕ
    is_job : IsJob jobs i job
    there : place jobs i job ≡ k

  own : (i k : ℕ) → k < length rows → task_of rows k ≡ i → Own i k
  own i k within mine =
      let h = (job_rows_list jobs).job k within in
      let same : h.task ≡ i = sym ((job_rows_list jobs).row h.task h.job h.is_job).task ∙ ap (task_of rows) h.there ∙ mine in
      let P : ℕ → Type 0 = λ x. IsJob jobs x h.job in
      record { job = h.job; is_job = subst P same h.is_job; there = ap (λ x. place jobs x h.job) (sym same) ∙ h.there }

  keeps_timing : (i : ℕ) (timing : Timing) → JobsKeepTiming jobs i timing → KeepsTiming rows origin i timing
  keeps_timing i timing keeps = record {
    period_some = keeps.period_some;
    ticks_some = λ k within mine.
        let o = own i k within mine in
        let P : ℕ → Type 0 = λ x. 1 ≤ ticks_of rows x in
        subst P o.there (omega (arith, ((job_rows_list jobs).row i o.job o.is_job).ticks, keeps.ticks_some o.job o.is_job.listed));
    ticks_few = λ k within mine.
        let o = own i k within mine in
        let P : ℕ → Type 0 = λ x. ticks_of rows x ≤ timing.cost in
        subst P o.there (omega (arith, ((job_rows_list jobs).row i o.job o.is_job).ticks, keeps.ticks_few o.job o.is_job.listed));
    from_origin = λ k within mine.
        let o = own i k within mine in
        let P : ℕ → Type 0 = λ x. origin x ≤ arrival_of rows x in
        subst P o.there (omega (arith, ((job_rows_list jobs).row i o.job o.is_job).ready, origin_is i o.job o.is_job, keeps.from_arrival o.job o.is_job.listed));
    in_jitter = λ k within mine.
        let o = own i k within mine in
        let P : ℕ → Type 0 = λ x. arrival_of rows x ≤ origin x + timing.jitter in
        subst P o.there (omega (arith, ((job_rows_list jobs).row i o.job o.is_job).ready, origin_is i o.job o.is_job, keeps.in_jitter o.job o.is_job.listed));
    apart = λ a b less within first second.
        let o = own i a (omega (arith, less, within)) first in
        let q = own i b within second in
        let far = keeps.apart o.job q.job (omega (arith, less, o.there, q.there)) q.is_job.listed in
        let here : origin a ≡ jobs.arrival i o.job = ap origin (sym o.there) ∙ origin_is i o.job o.is_job in
        let there : origin b ≡ jobs.arrival i q.job = ap origin (sym q.there) ∙ origin_is i q.job q.is_job in
        omega (arith, far, here, there);
  }

  job_ends_within : (i j bound : ℕ) → IsJob jobs i j → EndsWithin rows (place jobs i j) (jobs.arrival i j) bound → JobEndsWithin jobs i j bound
  job_ends_within i j bound is within =
      let plain : IsPlainSchedule rows jobs (place jobs) = least_task_is_plain rows jobs (place jobs) (job_rows_list jobs) in
      record {
        whole = λ t le. omega (arith, within.whole t le, plain.had t i j is, ((job_rows_list jobs).row i j is).ticks);
        ends = (within.ends.0, (plain.ends i j within.ends.0 is).1 within.ends.1);
        bounded = λ e ends. within.bounded e ((plain.ends i j e is).0 ends);
      }

pub response_bounds_jobs : ResponseBoundsJobs
response_bounds_jobs jobs timings i r listed keeps constrained response in_time j is =
    let row = (job_rows_list jobs).row i j is in
    let P : ℕ → Type 0 = λ moment. EndsWithin (job_rows jobs) (place jobs i j) moment r in
    job_ends_within jobs i j r is (subst P (origin_is jobs i j is)
    (response_bounds (job_rows jobs) (origin jobs) timings i r listed (λ m le. keeps_timing jobs m _ (keeps m le)) constrained response in_time
    (place jobs i j) row.within row.task))
