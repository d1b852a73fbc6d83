-- What a session's ticks say of the schedule of its high jobs alone by ceilings.
use Rattle.std.proofs.Common.{◌≡◌, ℕ, suc, ◌<◌, ◌≤◌, true, false, List, length, Option, Some, None, refl, sym, ◌∙◌, ap, subst, arith, inl, inr}
use Rattle.std.proofs.lemmas.Bool.{and_parts, ltb-true, leb-true, eq-eqb}
use Rattle.std.specs.Prelude.{nat_lt, nat_le}
use Rattle.hk_words.specs.declared.geometry.Geometry.{Geometry}
use Rattle.hk_plan.specs.declared.Ready.{Ready}
use Rattle.hk_plan.specs.AloneBy.{Jobs, is_some_at, alone_had}
use Rattle.hk_sheet.specs.declared.sheet.Sheet.{Sheet}
use Rattle.hk_dispatch.specs.Moment.{Moment}
use Rattle.hk_dispatch.specs.Turns.{Turn, to_task, turn}
use Rattle.hk_dispatch.specs.Ticks.{after_task, after_turn}
use Rattle.hk_dispatch.specs.Session.{after_tick, state, who_gets, IsSession, IsMoment, IsTick}
use Rattle.hk_dispatch.specs.Rules.{ready_now, TurnIs, by_high, by_operation, by_collector, by_low, by_nobody}
use Rattle.hk_dispatch.specs.HighJobs.{is_to, jobs_by}
use Rattle.hk_dispatch.proofs.JobCounters as counter
use Rattle.hk_dispatch.proofs.JobCounters.{AreCounters}
use Rattle.hk_dispatch.proofs.SeatCounters.{goes, job_of, had_of, counters}
use Rattle.hk_dispatch.specs.HighJobs.{given}
use Rattle.hk_dispatch.proofs.HighTicks.{high_turn, named, due}
use Rattle.hk_dispatch.proofs.AloneRun as run
use Rattle.hk_dispatch.proofs.TurnFacts as turns
use Rattle.hk_ceiling.specs.declared.ceilings.TaskSection.{TaskSection}
use Rattle.hk_ceiling.specs.Choice.{by_ceilings}
use Rattle.hk_ceiling.specs.Promises.{done, Gets, IsReadyJob, JobHolds, InOrder, HeldUp, InSection}
use Rattle.hk_ceiling.specs.Sessions.{course, HoldsAt, HeldUpAt, InSectionAt}
use Rattle.hk_ceiling.proofs.Came.{IsCome, first_come, has_come}
use Rattle.hk_ceiling.proofs.Promised.{at_some}

-- a tick that goes to a task leaves the run going
over_stays : (sheet : Sheet) (m : Moment) (t seat : ℕ) → (after_task sheet m t seat).over ≡ m.over
unfolding after_task
over_stays sheet m t seat = refl

after_over : (choice : List Ready → ℕ) (sheet : Sheet) (m : Moment) (t seat : ℕ) (over : Option ℕ) → over ≡ None → turn choice sheet m t ≡ to_task seat → m.over ≡ None
    → (after_tick choice sheet m t over).over ≡ None
after_over choice sheet m t seat None e goes none = ap (λ w. (after_turn sheet m t w).over) goes ∙ over_stays sheet m t seat ∙ none
after_over choice sheet m t seat (Some words) e goes none = absurd (cc)

pub moment_after : (g : Geometry) (choice : List Ready → ℕ) (sheet : Sheet) (t seat : ℕ) → IsTick g choice sheet t → who_gets g choice sheet t ≡ to_task seat
    → IsMoment g choice sheet (suc t)
unfolding state who_gets
moment_after g choice sheet t seat tick e = record {
  within = let lt = tick.within in omega (arith, lt);
  before_over = after_over choice sheet (state g choice sheet t) t seat (state g choice sheet t).over tick.before_over e tick.before_over;
}

-- where a high task has a ready job, the task that gets the tick is a high one
pub is_to_high : (choice : List Ready → ℕ) (sheet : Sheet) (m : Moment) (t seat other : ℕ) → seat < length sheet.high → ready_now sheet m t seat ≡ true
    → (o : Turn) → TurnIs choice sheet m t o → o ≡ to_task other → other < length sheet.high
is_to_high choice sheet m t seat other high ready o (by_high s f) e = let same : s ≡ other = cc in subst (λ k. k < length sheet.high) same f.high
is_to_high choice sheet m t seat other high ready o (by_operation s f) e = absurd (let x : true ≡ false = sym ready ∙ f.no_high seat high in cc)
is_to_high choice sheet m t seat other high ready o (by_collector f) e = absurd (let x : true ≡ false = sym ready ∙ f.no_high seat high in cc)
is_to_high choice sheet m t seat other high ready o (by_low s f) e = absurd (let x : true ≡ false = sym ready ∙ f.no_high seat high in cc)
is_to_high choice sheet m t seat other high ready o (by_nobody f) e = absurd (let x : true ≡ false = sym ready ∙ f.no_high seat high in cc)

module _ (g : Geometry) (sections : List TaskSection) (sheet : Sheet) (work attempt busy debt : ℕ) (s : IsSession g (by_ceilings sections) sheet work attempt busy debt)
    (stop : ℕ) (moment : IsMoment g (by_ceilings sections) sheet stop) where
  abbrev choice : List Ready → ℕ
  choice rows = by_ceilings sections rows

  abbrev pub jobs : Jobs
  jobs = jobs_by g choice sheet stop

  its : (i : ℕ) → AreCounters (λ t. goes g choice sheet t i) (λ t. job_of g choice sheet t i) (λ t. had_of g choice sheet t i) (λ t j. given g choice sheet t i j)
  its i = counters g choice sheet work attempt busy debt s i

  pub in_order : InOrder jobs
  in_order = record { order = λ i j k known less lt. (run.premises g choice sheet work attempt busy debt s stop moment).ordered i j k (omega (arith, less)) lt }

  is_turn : (t : ℕ) → TurnIs choice sheet (state g choice sheet t) t (turn choice sheet (state g choice sheet t) t)
  is_turn t = turns.turn_is choice sheet (state g choice sheet t) t s.choice_is

  -- the job under way has had as many ticks of the schedule alone
  pub same_done : (t i : ℕ) → t ≤ stop → i < length sheet.high → done sections jobs t i (job_of g choice sheet t i) ≡ (course g sections sheet t i).had
  same_done t i le high =
      run.had_alone g choice sheet work attempt busy debt s stop moment t i (job_of g choice sheet t i) le high
      ∙ counter.present _ _ _ _ (its i) t

  unended : (t i : ℕ) → t ≤ stop → i < length sheet.high → done sections jobs t i (job_of g choice sheet t i) < jobs.ticks i (job_of g choice sheet t i)
  unended t i le high =
      let few = run.under_way g choice sheet work attempt busy debt s stop moment t i le high in
      let same = run.had_alone g choice sheet work attempt busy debt s stop moment t i (job_of g choice sheet t i) le high in
      omega (arith, few, same)

  -- a tick that goes to a high task is one of the schedule alone, for its job under way
  pub gets_alone : (t i : ℕ) → t < stop → i < length sheet.high → who_gets g choice sheet t ≡ to_task i → Gets sections jobs t i (job_of g choice sheet t i)
  unfolding who_gets
  gets_alone t i lt high e =
      let mine : is_some_at (high_turn choice sheet (state g choice sheet t) t) i ≡ true =
      named choice sheet (state g choice sheet t) t (turn choice sheet (state g choice sheet t) t) (is_turn t) i high ∙ ap (λ o. is_to o i) e ∙ eq-eqb i i refl in
      run.gives_alone g choice sheet work attempt busy debt s stop moment t i lt (at_some choice jobs _ i mine)

  job_ready : (t i : ℕ) → t ≤ stop → i < length sheet.high → IsCome jobs t i (job_of g choice sheet t i) → IsReadyJob sections jobs t i (job_of g choice sheet t i)
  job_ready t i le high c = record {
    is_job = record { known = high; listed = c.listed };
    arrived = c.ready;
    unended = unended t i le high;
  }

  -- a job that holds a resource does so in the schedule alone
  pub holds_alone : (t seat job q : ℕ) → t ≤ stop → (who_gets g choice sheet t ≡ to_task seat → t < stop) → HoldsAt g sections sheet t seat job q → JobHolds sections jobs t seat job q
  holds_alone t seat job q le within h =
      let d = same_done t seat le h.high in
      let P : ℕ → Type 0 = λ j. JobHolds sections jobs t seat j q in
      subst P h.under_way (elim (h.held) [
        | inl begun ↦ record {
          ready = job_ready t seat le h.high (has_come choice jobs t seat (job_of g choice sheet t seat) (omega (arith, d, begun)));
          listed = h.listed;
          its = h.its;
          held = inl (omega (arith, begun, d));
          more = let m = h.more in omega (arith, m, d);
        }
        | inr now ↦
            let gets = gets_alone t seat (within now.1) h.high now.1 in
            record {
              ready = job_ready t seat le h.high (first_come jobs (alone_had choice jobs t) t seat (job_of g choice sheet t seat) gets.job);
              listed = h.listed;
              its = h.its;
              held = inr (now.0 ∙ sym d, gets);
              more = let m = h.more in omega (arith, m, d);
            }
      ])

  -- so does a job that is held up
  ready_come : (t seat : ℕ) → t < stop → seat < length sheet.high → ready_now sheet (state g choice sheet t) t seat ≡ true → IsCome jobs t seat (job_of g choice sheet t seat)
  ready_come t seat lt high ready =
      let job = job_of g choice sheet t seat in
      let is_due = sym (due choice sheet (state g choice sheet t) t s.checked.readable (let le = moment.within in omega (arith, lt, le)) seat high) ∙ ready in
      let p = and_parts (nat_lt job (jobs.count seat)) (nat_le (jobs.ready seat job) t) is_due in
      record { listed = ltb-true job (jobs.count seat) p.0; ready = leb-true (jobs.ready seat job) t p.1 }

  pub other_high : (t seat job a b : ℕ) → HeldUpAt g sections sheet t seat job a b → a < length sheet.high
  unfolding who_gets
  other_high t seat job a b h = is_to_high choice sheet (state g choice sheet t) t seat a h.high h.ready (turn choice sheet (state g choice sheet t) t) (is_turn t) h.gets

  pub held_up_alone : (t seat job a b : ℕ) → t < stop → HeldUpAt g sections sheet t seat job a b → HeldUp sections jobs t seat job a b
  held_up_alone t seat job a b lt h =
      let le : t ≤ stop = omega (arith, lt) in
      let high = other_high t seat job a b h in
      let gets = gets_alone t a lt high h.gets in
      let P : ℕ → ℕ → Type 0 = λ j k. HeldUp sections jobs t seat j a k in
      let here : P (job_of g choice sheet t seat) (job_of g choice sheet t a) = record {
        ready = job_ready t seat le h.high (ready_come t seat lt h.high h.ready);
        is_job = record { known = high; listed = (first_come jobs (alone_had choice jobs t) t a (job_of g choice sheet t a) gets.job).listed };
        gets = gets;
        later = h.later;
      } in
      subst (λ j. P j b) h.under_way (subst (P (job_of g choice sheet t seat)) h.its here)

  pub in_section_at : (t seat job a b q : ℕ) → t < stop → HeldUpAt g sections sheet t seat job a b → InSection sections jobs t seat a b q → InSectionAt g sections sheet t seat a q
  in_section_at t seat job a b q lt h x =
      let high = other_high t seat job a b h in
      let d : done sections jobs t a b ≡ (course g sections sheet t a).had = ap (done sections jobs t a) (sym h.its) ∙ same_done t a (omega (arith, lt)) high in
      record {
        high = high;
        inside = record {
          listed = x.inside.listed;
          its = x.inside.its;
          begun = let e = x.inside.begun in omega (arith, e, d);
          more = let e = x.inside.more in omega (arith, e, d);
        };
        ceiling_high = x.high;
      }
