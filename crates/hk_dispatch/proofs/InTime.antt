-- Each job of an admitted sheet ends within its response time, where the first row is chosen.
use Rattle.std.proofs.Common.{◌≡◌, ℕ, ◌+◌, ◌<◌, ◌≤◌, List, length, Some, sym, ◌∙◌, ap, subst, arith, inl, inr}
use Rattle.std.proofs.lemmas.Bool.{cases_lt}
use Rattle.std.proofs.lemmas.List.{length-map, get_or-map}
use Rattle.std.specs.Prelude.{slice_index_or}
use Rattle.hk_words.specs.declared.geometry.Geometry.{Geometry}
use Rattle.hk_rta.specs.declared.Timing.{Timing}
use Rattle.hk_rta.specs.Demand.{no_timing, timing_at}
use Rattle.hk_rta.specs.Response.{Response}
use Rattle.hk_plan.specs.declared.Ready.{Ready}
use Rattle.hk_plan.specs.AloneBy.{Jobs, IsJob, least_task}
use Rattle.hk_plan.specs.JobBounds.{JobsKeepTiming, JobEndsWithin}
use Rattle.hk_plan.proofs.JobBound.{response_bounds_jobs}
use Rattle.hk_sheet.specs.declared.sheet.High.{High}
use Rattle.hk_sheet.specs.declared.sheet.Sheet.{Sheet}
use Rattle.hk_sheet.specs.Arrivals.{arrival_of, delay_of}
use Rattle.hk_sheet.specs.Valid.{IsHigh}
use Rattle.hk_admit.specs.Analysis.{timings_of}
use Rattle.hk_admit.specs.Conditions.{AreResponses}
use Rattle.hk_dispatch.specs.Tasks.{no_high, high_at}
use Rattle.hk_dispatch.specs.Turns.{arrived}
use Rattle.hk_dispatch.specs.Session.{IsSession, IsMoment}
use Rattle.hk_dispatch.specs.HighJobs.{given, jobs_by}
use Rattle.hk_dispatch.specs.Laws.{EndsInTime, JobsEndInTime}
use Rattle.hk_dispatch.proofs.JobCounters as counter
use Rattle.hk_dispatch.proofs.JobCounters.{AreCounters}
use Rattle.hk_dispatch.proofs.SeatCounters.{goes, job_of, had_of, counters, had_few}
use Rattle.hk_dispatch.proofs.ListedJobs as arriving
use Rattle.hk_dispatch.proofs.ListedJobs.{Listed, listed_job, arrives_at, ready_at, delay_few}
use Rattle.hk_dispatch.proofs.AloneRun as run
use Rattle.hk_dispatch.proofs.AloneEnds.{ends_alone}
use Rattle.hk_dispatch.proofs.ReadyMoments.{high_right}

module _ (g : Geometry) (choice : List Ready → ℕ) (sheet : Sheet) (work attempt busy debt : ℕ) (s : IsSession g choice sheet work attempt busy debt) (stop : ℕ) (moment : IsMoment g choice sheet stop) where
  abbrev jobs : Jobs
  jobs = jobs_by g choice sheet stop

  its : (i : ℕ) → AreCounters (λ t. goes g choice sheet t i) (λ t. job_of g choice sheet t i) (λ t. had_of g choice sheet t i) (λ t j. given g choice sheet t i j)
  its i = counters g choice sheet work attempt busy debt s i

  ended : (i j : ℕ) → j < job_of g choice sheet stop i → jobs.ticks i j ≡ given g choice sheet stop i j
  ended i j lt = run.ticks_ended g choice sheet work attempt busy debt s stop moment i j lt

  declared : (i j : ℕ) → job_of g choice sheet stop i ≤ j → jobs.ticks i j ≡ (high_at sheet i).timing.cost
  declared i j le = run.ticks_declared g choice sheet work attempt busy debt s stop moment i j le

  module _ (i : ℕ) (high : i < length sheet.high) where
    right : IsHigh sheet.ticks sheet.heap (high_at sheet i)
    right = high_right sheet s.checked.readable i high

    -- a job takes at least a tick, and at most those that its task declares
    takes_some : (j : ℕ) → 1 ≤ jobs.ticks i j
    takes_some j = elim (cases_lt j (job_of g choice sheet stop i)) [
      | inl lt ↦ let e = ended i j lt in let some = counter.given_some _ _ _ _ (its i) stop j lt in omega (arith, e, some)
      | inr le ↦ let e = declared i j le in let some = right.timing.cost.at_least in omega (arith, e, some)
    ]

    takes_few : (j : ℕ) → jobs.ticks i j ≤ (high_at sheet i).timing.cost
    takes_few j = elim (cases_lt j (job_of g choice sheet stop i)) [
      | inl lt ↦
          let e = ended i j lt in
          let few = counter.given_few _ _ _ _ (its i) (high_at sheet i).timing.cost (λ t. had_few g choice sheet work attempt busy debt s i high t) stop j in
          omega (arith, e, few)
      | inr le ↦ let e = declared i j le in omega (arith, e)
    ]

    listed_at : (j : ℕ) → j < jobs.count i → Listed sheet s.checked.readable.ticks.at_most (high_at sheet i) right j
    listed_at j lt = listed_job sheet s.checked.readable.ticks.at_most (high_at sheet i) right j lt

    ready_is : (j : ℕ) → j < jobs.count i → jobs.ready i j ≡ jobs.arrival i j + delay_of (high_at sheet i) j
    ready_is j lt =
        let l = listed_at j lt in
        ready_at sheet s.checked.readable.ticks.at_most (high_at sheet i) right j l
        ∙ ap (λ a. a + delay_of (high_at sheet i) j) (sym (arrives_at sheet s.checked.readable.ticks.at_most (high_at sheet i) right j l))

    pub keeps_timing : JobsKeepTiming jobs i (high_at sheet i).timing
    keeps_timing = record {
      period_some = let some = right.timing.period.at_least in omega (arith, some);
      ticks_some = λ j lt. takes_some j;
      ticks_few = λ j lt. takes_few j;
      from_arrival = λ j lt. let e = ready_is j lt in omega (arith, e);
      in_jitter = λ j lt. let e = ready_is j lt in let few = delay_few sheet s.checked.readable.ticks.at_most (high_at sheet i) right j in omega (arith, e, few);
      apart = λ j k less lt. arriving.apart sheet s.checked.readable.ticks.at_most (high_at sheet i) right j k less lt;
    }

-- the times of a high task in the list of all
pub time_is : (tasks : List High) (i : ℕ) → i < length tasks → timing_at (timings_of tasks) i ≡ (slice_index_or tasks i no_high).timing
time_is tasks i lt = get_or-map (λ (task : High). task.timing) tasks i no_high no_timing lt

-- a response time is at least a tick
response_some : (timings : List Timing) (i r : ℕ) → Response timings i r → 0 < r
response_some timings i r h = let some = h.least.holds.positive in omega (arith, some)

module _ (g : Geometry) (sheet : Sheet) (work attempt busy debt : ℕ) (responses : List ℕ) (s : IsSession g least_task sheet work attempt busy debt)
    (are : AreResponses (timings_of sheet.high) responses) (seat job arrival : ℕ) (high : seat < length sheet.high)
    (arrives : arrival_of (high_at sheet seat).arrivals job ≡ Some arrival) (moment : IsMoment g least_task sheet (arrival + slice_index_or responses seat 0)) where
  abbrev response : ℕ
  response = slice_index_or responses seat 0

  abbrev stop : ℕ
  stop = arrival + response

  abbrev its_jobs : Jobs
  its_jobs = jobs_by g least_task sheet stop

  timed : seat < length (timings_of sheet.high)
  timed = omega (arith, high, length-map sheet.high (λ (task : High). task.timing))

  is_job : IsJob its_jobs seat job
  is_job = record {
    known = high;
    listed =
        let some = response_some (timings_of sheet.high) seat response (are.each seat timed) in
        let le = moment.within in
        arriving.listed sheet.ticks (high_at sheet seat).timing.period (high_at sheet seat).arrivals job arrival (high_right sheet s.checked.readable seat high).arrivals arrives (omega (arith, some, le));
  }

  within : JobEndsWithin its_jobs seat job response
  within =
      let short = (high_right sheet s.checked.readable seat high).timing.deadline.at_most in
      response_bounds_jobs its_jobs (timings_of sheet.high) seat response timed
      (λ i le. let below : i < length sheet.high = omega (arith, le, high) in
      subst (JobsKeepTiming its_jobs i) (sym (time_is sheet.high i below)) (keeps_timing g least_task sheet work attempt busy debt s stop moment i below))
      (subst (λ (t : Timing). t.deadline ≤ t.period) (sym (time_is sheet.high seat high)) short)
      (are.each seat timed) (are.in_time seat timed) job is_job

  ends_in_time : EndsInTime g sheet seat job arrival response
  ends_in_time =
      let e = within.ends.0 in
      let by_then : e ≤ stop = let few = within.bounded e within.ends.1 in let at : its_jobs.arrival seat job ≡ arrival = ap arrived arrives in omega (arith, few, at) in
      record {
        moment = e;
        ends = (ends_alone g least_task sheet work attempt busy debt s stop moment seat job e is_job by_then).1 within.ends.1;
        in_time = by_then;
        by_deadline = subst (λ (t : Timing). response ≤ t.deadline) (time_is sheet.high seat high) (are.in_time seat timed);
      }

pub jobs_end_in_time : JobsEndInTime
jobs_end_in_time g sheet work attempt busy debt responses s are seat job arrival high arrives moment =
    ends_in_time g sheet work attempt busy debt responses s are seat job arrival high arrives moment
