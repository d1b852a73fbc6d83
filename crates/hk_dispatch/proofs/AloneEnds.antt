-- Each high job ends exactly when the schedule of the high jobs alone ends it.
use Rattle.std.proofs.Common.{◌≡◌, ℕ, zero, suc, ◌-◌, ◌<◌, ◌≤◌, true, false, List, length, Option, Some, None, refl, sym, ◌∙◌, ap, subst, arith}
use Rattle.std.proofs.lemmas.Bool.{eqb-true, eq-eqb}
use Rattle.std.specs.Prelude.{◌↔◌}
use Rattle.hk_words.specs.declared.geometry.Geometry.{Geometry}
use Rattle.hk_plan.specs.declared.Ready.{Ready}
use Rattle.hk_plan.specs.AloneBy.{Jobs, IsJob, is_some_at, alone_had, AloneGives, AloneEnds}
use Rattle.hk_sheet.specs.declared.sheet.Sheet.{Sheet}
use Rattle.hk_dispatch.specs.Session.{state, IsSession, IsMoment, JobEndsAt}
use Rattle.hk_dispatch.specs.HighJobs.{given, jobs_by}
use Rattle.hk_dispatch.specs.Laws.{EndsAreAlone}
use Rattle.hk_dispatch.proofs.JobCounters as counter
use Rattle.hk_dispatch.proofs.JobCounters.{AreCounters, Counts, waits, goes_on, ends}
use Rattle.hk_dispatch.proofs.SeatCounters.{goes, job_of, had_of, counters}
use Rattle.hk_dispatch.proofs.HighTicks.{high_turn}
use Rattle.hk_dispatch.proofs.AloneRun as run

at_some : (o : Option ℕ) (k : ℕ) → is_some_at o k ≡ true → o ≡ Some k
at_some None k e = absurd (cc)
at_some (Some n) k e = ap (λ x. Some x) (eqb-true n k e)

one_some : {a b : ℕ} → Some a ≡ Some b → a ≡ b
one_some e = cc

module _ (g : Geometry) (choice : List Ready → ℕ) (sheet : Sheet) (work attempt busy debt : ℕ) (s : IsSession g choice sheet work attempt busy debt) (stop : ℕ) (moment : IsMoment g choice sheet stop) where
  abbrev jobs : Jobs
  jobs = jobs_by g choice sheet stop

  abbrev job_at : ℕ → ℕ → ℕ
  job_at t i = job_of g choice sheet t i

  abbrev ticks_given : ℕ → ℕ → ℕ → ℕ
  ticks_given t i j = given g choice sheet t i j

  its : (i : ℕ) → AreCounters (λ t. goes g choice sheet t i) (λ t. job_of g choice sheet t i) (λ t. had_of g choice sheet t i) (λ t j. given g choice sheet t i j)
  its i = counters g choice sheet work attempt busy debt s i

  -- a job's last tick is the schedule's
  end_is_last : (i j tick : ℕ) → tick < stop → IsJob jobs i j → job_at tick i ≡ j → job_at (suc tick) i ≡ suc j → AloneEnds choice jobs i j (suc tick)
  end_is_last i j tick lt is was after =
      let high = is.known in
      let goes_to = sym (run.goes_is g choice sheet work attempt busy debt s stop moment tick i lt high) ∙ counter.last_tick _ _ _ _ (its i) tick (omega (arith, was, after)) in
      let mine : high_turn choice sheet (state g choice sheet tick) tick ≡ Some i = at_some _ i goes_to in
      let back : suc tick - 1 ≡ tick = omega arith in
      let gives_it : AloneGives choice jobs tick i j = subst (AloneGives choice jobs tick i) was (run.gives_alone g choice sheet work attempt busy debt s stop moment tick i lt mine) in
      let le : suc tick ≤ stop = omega (arith, lt) in
      let up = counter.rises _ _ _ _ (its i) (suc tick) stop le in
      record {
        later = omega arith;
        last = subst (λ k. AloneGives choice jobs k i j) (sym back) gives_it;
        whole =
            run.had_alone g choice sheet work attempt busy debt s stop moment (suc tick) i j le high
            ∙ sym (counter.settled _ _ _ _ (its i) (suc tick) stop j le (omega (arith, after)))
            ∙ sym (run.ticks_ended g choice sheet work attempt busy debt s stop moment i j (omega (arith, after, up)));
      }

  -- the job that gets a tick of the schedule which makes it whole ends with it
  whole_ends : (i j tick : ℕ) → suc tick ≤ stop → i < length sheet.high → goes g choice sheet tick i ≡ true → job_at tick i ≡ j → ticks_given (suc tick) i j ≡ jobs.ticks i j
      → Counts (goes g choice sheet tick i) (job_at tick i) (had_of g choice sheet tick i) (job_at (suc tick) i) (had_of g choice sheet (suc tick) i) → job_at (suc tick) i ≡ suc j
  whole_ends i j tick le high gets was whole (waits e same still) = absurd (let f : true ≡ false = sym gets ∙ e in cc)
  whole_ends i j tick le high gets was whole (ends e next none) = omega (arith, next, was)
  whole_ends i j tick le high gets was whole (goes_on e same more) = absurd (
      let less = run.under_way g choice sheet work attempt busy debt s stop moment (suc tick) i le high in
      let here : ticks_given (suc tick) i j < jobs.ticks i j = subst (λ k. ticks_given (suc tick) i k < jobs.ticks i k) (same ∙ was) less in
      omega (arith, here, whole)
      )

  last_is_end : (i j tick : ℕ) → tick < stop → IsJob jobs i j → AloneGives choice jobs tick i j → alone_had choice jobs (suc tick) i j ≡ jobs.ticks i j
      → (job_at tick i ≡ j) × (job_at (suc tick) i ≡ suc j)
  last_is_end i j tick lt is last whole =
      let high = is.known in
      let le : suc tick ≤ stop = omega (arith, lt) in
      let mine : high_turn choice sheet (state g choice sheet tick) tick ≡ Some i = sym (run.turn_alone g choice sheet work attempt busy debt s stop moment tick lt) ∙ last.task in
      let now = run.gives_alone g choice sheet work attempt busy debt s stop moment tick i lt mine in
      let was : job_at tick i ≡ j = one_some (sym now.job ∙ last.job) in
      let gets : goes g choice sheet tick i ≡ true = run.goes_is g choice sheet work attempt busy debt s stop moment tick i lt high ∙ ap (λ o. is_some_at o i) mine ∙ eq-eqb i i refl in
      let all = sym (run.had_alone g choice sheet work attempt busy debt s stop moment (suc tick) i j le high) ∙ whole in
      (was, whole_ends i j tick le high gets was all ((its i).counts tick))

  pub ends_alone : (i j e : ℕ) → IsJob jobs i j → e ≤ stop → JobEndsAt g choice sheet i j e ↔ AloneEnds choice jobs i j e
  ends_alone i j zero is le = (λ h. absurd (let e = h.before in omega (arith, e)), λ h. absurd (let some = h.later in omega (arith, some)))
  ends_alone i j (suc tick) is le =
      let lt : tick < stop = omega (arith, le) in
      let back : suc tick - 1 ≡ tick = omega arith in (
        λ h.
            let same : tick ≡ h.tick = let e = h.before in omega (arith, e) in
            end_is_last i j tick lt is (ap (λ k. job_at k i) same ∙ h.under_way) h.ended,
        λ h.
            let last : AloneGives choice jobs tick i j = subst (λ k. AloneGives choice jobs k i j) back h.last in
            let both = last_is_end i j tick lt is last h.whole in
            record { tick = tick; before = refl; under_way = both.0; ended = both.1 },
      )

pub ends_are_alone : EndsAreAlone
ends_are_alone g choice sheet work attempt busy debt s t moment seat job e is le = ends_alone g choice sheet work attempt busy debt s t moment seat job e is le
