-- That in a session which goes by earliest deadlines each high job ends by its deadline.
use Rattle.std.proofs.Common.{◌≡◌, ℕ, zero, suc, ◌+◌, ◌<◌, ◌≤◌, true, false, List, [], ◌∷◌, map, length, Some, refl, sym, ◌∙◌, ap, subst, arith, inl, inr}
use Rattle.std.specs.List.{list_any, sum_by}
use Rattle.std.proofs.Math.Nat.{mul-le-mul_left}
use Rattle.std.proofs.lemmas.Bool.{cases_lt, lt-ltb}
use Rattle.std.proofs.lemmas.List.{length-map}
use Rattle.std.proofs.lemmas.List.Sums.{sum_by-le-sum_by, sum_by-cons}
use Rattle.std.specs.Prelude.{slice_index_or}
use Rattle.hk_words.specs.declared.geometry.Geometry.{Geometry}
use Rattle.hk_rta.specs.declared.Timing.{Timing}
use Rattle.hk_rta.specs.Demand.{starts_in, demand_of, demand}
use Rattle.hk_rta.specs.Demand as load
use Rattle.hk_plan.specs.AloneBy.{Jobs, IsJob}
use Rattle.hk_plan.specs.JobBounds.{JobsKeepTiming}
use Rattle.hk_sheet.specs.declared.sheet.High.{High}
use Rattle.hk_sheet.specs.declared.sheet.Sheet.{Sheet}
use Rattle.hk_sheet.specs.Arrivals.{arrival_of}
use Rattle.hk_admit.specs.Analysis.{timings_of, job_events, load_of, attempt_events, IsBusy}
use Rattle.hk_admit.proofs.Found.{failed}
use Rattle.hk_dispatch.specs.Tasks.{no_high, high_at}
use Rattle.hk_dispatch.specs.Turns.{arrived}
use Rattle.hk_dispatch.specs.Session.{IsMoment, IsSession}
use Rattle.hk_dispatch.specs.HighJobs.{jobs_by}
use Rattle.hk_dispatch.proofs.AloneEnds.{ends_alone}
use Rattle.hk_dispatch.proofs.InTime.{keeps_timing, time_is}
use Rattle.hk_dispatch.proofs.ListedJobs as arriving
use Rattle.hk_dispatch.proofs.ReadyMoments.{high_right}
use Rattle.hk_edf.specs.Earliest.{earliest_row}
use Rattle.hk_edf.specs.InTime.{KeepTimings, FitsIn, MeetsDeadline}
use Rattle.hk_edf.specs.Refusals.{has_jitter, MeetsDemand}
use Rattle.hk_edf.specs.Sessions.{EndsByDeadline, JobsEndByDeadlines}
use Rattle.hk_edf.proofs.InTime.{deadlines_are_met}

-- ---- the busy period

sum_by_map : {X Y : Type 0} (f : Y → ℕ) (g : X → Y) (xs : List X) → sum_by f (map g xs) ≡ sum_by (λ x. f (g x)) xs
sum_by_map f g [] = refl
sum_by_map f g (x ∷ xs) = omega (arith, sum_by-cons f (g x) (map g xs), sum_by-cons (λ y. f (g y)) x xs, sum_by_map f g xs)

-- in the busy period of a sheet all that its high jobs bring is done
pub busy_covers : (sheet : Sheet) (x : ℕ) → IsBusy sheet x → demand (timings_of sheet.high) x ≤ x
busy_covers sheet x is =
    let rate : ℕ = sheet.heap.rate in
    let attempt : ℕ = attempt_events sheet in
    let each = sum_by-le-sum_by (λ (task : High). demand_of x task.timing) (λ (task : High). load.work_of x (load_of rate attempt task)) sheet.high
    (λ (task : High). mul-le-mul_left (starts_in (x + task.timing.jitter) task.timing.period) (let few : task.timing.cost ≤ task.timing.cost + job_events rate attempt task = omega arith in few)) in
    let enough = is.least.holds.enough in
    omega (arith, enough, each, sum_by_map (demand_of x) (λ (task : High). task.timing) sheet.high, sum_by_map (load.work_of x) (load_of rate attempt) sheet.high)

-- ---- no jitter

none_at : (tasks : List High) (i : ℕ) → list_any has_jitter tasks ≡ false → i < length tasks → (slice_index_or tasks i no_high).timing.jitter ≡ 0
none_at [] i none below = absurd (omega (arith, below))
none_at (task ∷ rest) zero none below =
    let first = (failed (has_jitter task) (list_any has_jitter rest) none).0 in
    elim (cases_lt 0 task.timing.jitter) [
      | inr fine ↦ omega (arith, fine)
      | inl late ↦ absurd (let e : has_jitter task ≡ true = lt-ltb 0 task.timing.jitter late in let x : true ≡ false = sym e ∙ first in cc)
    ]
none_at (task ∷ rest) (suc i) none below =
    none_at rest i (failed (has_jitter task) (list_any has_jitter rest) none).1 (omega (arith, below))

-- ---- one job

module _ (g : Geometry) (sheet : Sheet) (work attempt busy debt : ℕ) (s : IsSession g earliest_row sheet work attempt busy debt)
    (meets : MeetsDemand sheet busy) (seat job arrival : ℕ) (high : seat < length sheet.high)
    (arrives : arrival_of (high_at sheet seat).arrivals job ≡ Some arrival) (moment : IsMoment g earliest_row sheet (arrival + (high_at sheet seat).timing.deadline)) where
  abbrev timings : List Timing
  timings = timings_of sheet.high

  abbrev stop : ℕ
  stop = arrival + (high_at sheet seat).timing.deadline

  abbrev its_jobs : Jobs
  its_jobs = jobs_by g earliest_row sheet stop

  all_tasks : length sheet.high ≡ length timings
  all_tasks = let e = length-map sheet.high (λ (task : High). task.timing) in omega (arith, e)

  keep : KeepTimings its_jobs timings
  keep = record {
    all_tasks = all_tasks;
    each = λ i below. subst (JobsKeepTiming its_jobs i) (sym (time_is sheet.high i below)) (keeps_timing g earliest_row sheet work attempt busy debt s stop moment i below);
    no_jitter = λ i below. ap (λ (t : Timing). t.jitter) (time_is sheet.high i below) ∙ none_at sheet.high i meets.no_jitter below;
    deadline_some = λ i below.
        let some = (high_right sheet s.checked.readable i below).timing.deadline.at_least in
        let same = ap (λ (t : Timing). t.deadline) (time_is sheet.high i below) in
        omega (arith, some, same);
    deadline_is = λ i below. sym (ap (λ (t : Timing). t.deadline) (time_is sheet.high i below));
  }

  length_fits : FitsIn timings busy
  length_fits = record {
    some = s.checked.busy_is.least.holds.positive;
    covers = busy_covers sheet busy s.checked.busy_is;
    fits = meets.fits;
  }

  is_job : IsJob its_jobs seat job
  is_job = record {
    known = high;
    listed =
        let right = high_right sheet s.checked.readable seat high in
        let some = right.timing.deadline.at_least in
        let le = moment.within in
        arriving.listed sheet.ticks (high_at sheet seat).timing.period (high_at sheet seat).arrivals job arrival right.arrivals arrives (omega (arith, some, le));
  }

  met : MeetsDeadline its_jobs seat job
  met = deadlines_are_met its_jobs timings busy keep length_fits seat job is_job

  ends_by_deadline : EndsByDeadline g sheet seat job stop
  ends_by_deadline =
      let e : ℕ = met.ends.0 in
      let by_then : e ≤ stop = let few = met.in_time e met.ends.1 in let at : its_jobs.arrival seat job ≡ arrival = ap arrived arrives in omega (arith, few, at) in
      record {
        moment = e;
        ends = (ends_alone g earliest_row sheet work attempt busy debt s stop moment seat job e is_job by_then).1 met.ends.1;
        alone = met.ends.1;
        in_time = by_then;
      }

pub jobs_end_by_deadlines : JobsEndByDeadlines
jobs_end_by_deadlines g sheet work attempt busy debt s meets seat job arrival high arrives moment =
    ends_by_deadline g sheet work attempt busy debt s meets seat job arrival high arrives moment
