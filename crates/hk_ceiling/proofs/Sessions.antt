-- The promises of sessions by ceilings.
use Rattle.std.proofs.Common.{◌≡◌, ℕ, suc, ◌+◌, ◌<◌, ◌≤◌, List, length, Some, refl, sym, ◌∙◌, ap, subst, arith, inl, inr}
use Rattle.std.proofs.lemmas.Bool.{cases_lt}
use Rattle.std.proofs.lemmas.List.{length-map}
use Rattle.std.specs.Prelude.{slice_index_or}
use Rattle.hk_words.specs.declared.geometry.Geometry.{Geometry}
use Rattle.hk_rta.specs.declared.Timing.{Timing}
use Rattle.hk_plan.specs.declared.Ready.{Ready}
use Rattle.hk_plan.specs.AloneBy.{Jobs, IsJob}
use Rattle.hk_plan.specs.JobBounds.{JobsKeepTiming}
use Rattle.hk_sheet.specs.declared.sheet.High.{High}
use Rattle.hk_sheet.specs.declared.sheet.Sheet.{Sheet}
use Rattle.hk_sheet.specs.Arrivals.{arrival_of}
use Rattle.hk_admit.specs.Analysis.{timings_of}
use Rattle.hk_dispatch.specs.Tasks.{high_at}
use Rattle.hk_dispatch.specs.Turns.{Turn, to_task, to_collector, to_nobody, arrived}
use Rattle.hk_dispatch.specs.Session.{who_gets, IsSession, IsMoment, IsTick}
use Rattle.hk_dispatch.specs.HighJobs.{jobs_by}
use Rattle.hk_dispatch.proofs.AloneEnds.{ends_alone}
use Rattle.hk_dispatch.proofs.InTime.{keeps_timing, time_is}
use Rattle.hk_dispatch.proofs.ListedJobs as arriving
use Rattle.hk_dispatch.proofs.ReadyMoments.{high_right}
use Rattle.hk_ceiling.specs.declared.ceilings.TaskSection.{TaskSection}
use Rattle.hk_ceiling.specs.Admission.{AreResponses}
use Rattle.hk_ceiling.specs.Bounds.{AreStill}
use Rattle.hk_ceiling.specs.Ceilings.{section_at, AreApart}
use Rattle.hk_ceiling.specs.Choice.{by_ceilings}
use Rattle.hk_ceiling.specs.Promises.{EndsBy}
use Rattle.hk_ceiling.specs.Sessions.{IsCeilingSession, CeilingsChoose, HoldsAt, OneHolderAtATime, HeldUpAt, InSectionAt, HeldUpByOneSection, EndsWithin, JobsEndWithin}
use Rattle.hk_ceiling.proofs.Chosen.{chooses_best}
use Rattle.hk_ceiling.proofs.Orders as order
use Rattle.hk_ceiling.proofs.Promised.{one_holder, held_up_by_one, end_in_time}
use Rattle.hk_ceiling.proofs.SessionTicks as alone
use Rattle.hk_ceiling.proofs.SessionTicks.{moment_after}

pub ceilings_choose : CeilingsChoose
ceilings_choose sections rows some rise = (chooses_best sections rows some).within

module _ (g : Geometry) (sections : List TaskSection) (sheet : Sheet) (work attempt busy debt : ℕ) (s : IsCeilingSession g sections sheet work attempt busy debt) where
  abbrev choice : List Ready → ℕ
  choice rows = by_ceilings sections rows

  session : IsSession g (by_ceilings sections) sheet work attempt busy debt
  session = record { sizes = s.sizes; checked = s.checked; choice_is = ceilings_choose sections }

  apart : AreApart sections
  apart = order.are_apart sections (order.in_order (timings_of sheet.high) sections s.none_wrong)

  -- ---- exclusion

  abbrev OneHolds : (t seat job p other other_job q : ℕ) → Type 0
  OneHolds t seat job p other other_job q = HoldsAt g sections sheet t seat job p → HoldsAt g sections sheet t other other_job q
      → (section_at sections p).res ≡ (section_at sections q).res → (seat ≡ other) × (job ≡ other_job)

  -- before a moment of the run at which the tick is over, if it goes to a task
  one_holds : (stop t seat job p other other_job q : ℕ) → IsMoment g choice sheet stop → t ≤ stop → ((a : ℕ) → who_gets g choice sheet t ≡ to_task a → t < stop) → OneHolds t seat job p other other_job q
  one_holds stop t seat job p other other_job q moment le within x y same =
      one_holder sections (jobs_by g choice sheet stop) apart (alone.in_order g sections sheet work attempt busy debt session stop moment) t seat job p other other_job q
      (alone.holds_alone g sections sheet work attempt busy debt session stop moment t seat job p le (within seat) x)
      (alone.holds_alone g sections sheet work attempt busy debt session stop moment t other other_job q le (within other) y) same

  to_other : (t a : ℕ) (w : Turn) → who_gets g choice sheet t ≡ w → (w ≡ to_task a → ⊥) → who_gets g choice sheet t ≡ to_task a → t < t
  to_other t a w e ne f = absurd (ne (sym e ∙ f))

  by_turn : (t seat job p other other_job q : ℕ) → IsTick g choice sheet t → (w : Turn) → who_gets g choice sheet t ≡ w → OneHolds t seat job p other other_job q
  by_turn t seat job p other other_job q tick (to_task a) e =
      one_holds (suc t) t seat job p other other_job q (moment_after g choice sheet t a tick e) (omega arith) (λ b f. omega arith)
  by_turn t seat job p other other_job q tick to_collector e =
      one_holds t t seat job p other other_job q (record { within = let lt = tick.within in omega (arith, lt); before_over = tick.before_over }) (omega arith)
      (λ a f. to_other t a to_collector e (λ x. cc) f)
  by_turn t seat job p other other_job q tick to_nobody e =
      one_holds t t seat job p other other_job q (record { within = let lt = tick.within in omega (arith, lt); before_over = tick.before_over }) (omega arith)
      (λ a f. to_other t a to_nobody e (λ x. cc) f)

  pub one_at_a_time : (t : ℕ) → IsTick g choice sheet t → (seat job p other other_job q : ℕ) → OneHolds t seat job p other other_job q
  one_at_a_time t tick seat job p other other_job q = by_turn t seat job p other other_job q tick (who_gets g choice sheet t) refl

  -- ---- holding up

  abbrev ByOne : (t u seat a b c d : ℕ) → Type 0
  ByOne t u seat a b c d = (a ≡ c) × (b ≡ d) × ((q : ℕ) × (InSectionAt g sections sheet t seat a q × InSectionAt g sections sheet u seat c q))

  by_one : (stop t u seat job a b c d : ℕ) → IsMoment g choice sheet stop → t < stop → u < stop
      → HeldUpAt g sections sheet t seat job a b → HeldUpAt g sections sheet u seat job c d → ByOne t u seat a b c d
  by_one stop t u seat job a b c d moment lt ltu x y =
      let h = held_up_by_one sections (jobs_by g choice sheet stop) apart (alone.in_order g sections sheet work attempt busy debt session stop moment) seat job t a b u c d
      (alone.held_up_alone g sections sheet work attempt busy debt session stop moment t seat job a b lt x)
      (alone.held_up_alone g sections sheet work attempt busy debt session stop moment u seat job c d ltu y) in (
        h.0,
        h.1,
        (
          h.2.0,
          (
            alone.in_section_at g sections sheet work attempt busy debt session stop moment t seat job a b h.2.0 lt x h.2.1.0,
            alone.in_section_at g sections sheet work attempt busy debt session stop moment u seat job c d h.2.0 ltu y h.2.1.1,
          ),
        ),
      )

  pub by_one_section : (t u : ℕ) → IsTick g choice sheet t → IsTick g choice sheet u
      → (seat job a b c d : ℕ) → HeldUpAt g sections sheet t seat job a b → HeldUpAt g sections sheet u seat job c d → ByOne t u seat a b c d
  by_one_section t u tick tick_u seat job a b c d x y = elim (cases_lt u t) [
    | inl less ↦ by_one (suc t) t u seat job a b c d (moment_after g choice sheet t a tick x.gets) (omega arith) (omega (arith, less)) x y
    | inr le ↦ by_one (suc u) t u seat job a b c d (moment_after g choice sheet u c tick_u y.gets) (omega (arith, le)) (omega arith) x y
  ]

  -- ---- response times

  module _ (responses : List ℕ) (still : AreStill (timings_of sheet.high)) (are : AreResponses (timings_of sheet.high) sections responses)
      (seat job arrival : ℕ) (high : seat < length sheet.high) (arrives : arrival_of (high_at sheet seat).arrivals job ≡ Some arrival)
      (moment : IsMoment g choice sheet (arrival + slice_index_or responses seat 0)) where
    abbrev response : ℕ
    response = slice_index_or responses seat 0

    abbrev stop : ℕ
    stop = arrival + response

    abbrev its_jobs : Jobs
    its_jobs = jobs_by g choice sheet stop

    timed : seat < length (timings_of sheet.high)
    timed = omega (arith, high, length-map sheet.high (λ (task : High). task.timing))

    is_job : IsJob its_jobs seat job
    is_job = record {
      known = high;
      listed =
          let some = (are.each seat timed).holds.positive in
          let le = moment.within in
          arriving.listed sheet.ticks (high_at sheet seat).timing.period (high_at sheet seat).arrivals job arrival (high_right sheet s.checked.readable seat high).arrivals arrives (omega (arith, some, le));
    }

    within : EndsBy sections its_jobs seat job response
    within =
        let short = (high_right sheet s.checked.readable seat high).timing.deadline.at_most in
        end_in_time sections its_jobs apart (alone.in_order g sections sheet work attempt busy debt session stop moment) (timings_of sheet.high) seat response timed
        (λ i le. let below : i < length sheet.high = omega (arith, le, high) in
        subst (JobsKeepTiming its_jobs i) (sym (time_is sheet.high i below)) (keeps_timing g choice sheet work attempt busy debt session stop moment i below))
        still (subst (λ (t : Timing). t.deadline ≤ t.period) (sym (time_is sheet.high seat high)) short)
        (are.each seat timed) (are.in_time seat timed) job is_job

    pub ends_within : EndsWithin g sections sheet seat job arrival response
    ends_within =
        let at : its_jobs.arrival seat job ≡ arrival = ap arrived arrives in
        let by_then : within.moment ≤ stop = let few = within.in_time in omega (arith, few, at) in
        record {
          moment = within.moment;
          ends = (ends_alone g choice sheet work attempt busy debt session stop moment seat job within.moment is_job by_then).1 within.ends;
          alone = within.ends;
          in_time = by_then;
          by_deadline = subst (λ (t : Timing). response ≤ t.deadline) (time_is sheet.high seat high) (are.in_time seat timed);
        }

pub one_holder_at_a_time : OneHolderAtATime
one_holder_at_a_time g sections sheet work attempt busy debt s t tick seat job p other other_job q = one_at_a_time g sections sheet work attempt busy debt s t tick seat job p other other_job q

pub held_up_by_one_section : HeldUpByOneSection
held_up_by_one_section g sections sheet work attempt busy debt s t u tick tick_u seat job a b c d x y =
    by_one_section g sections sheet work attempt busy debt s t u tick tick_u seat job a b c d x y

pub jobs_end_within : JobsEndWithin
jobs_end_within g sections sheet work attempt busy debt responses s still are seat job arrival high arrives moment =
    ends_within g sections sheet work attempt busy debt s responses still are seat job arrival high arrives moment
