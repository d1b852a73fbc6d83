-- The promises over the jobs themselves.
use Rattle.std.proofs.Common.{◌≡◌, ℕ, zero, suc, ◌+◌, ◌-◌, ◌<◌, ◌≤◌, Bool, true, false, ◌&&◌, List, Option, Some, None, refl, sym, ap, ◌∙◌, subst, arith, inl, inr}
use Rattle.std.proofs.lemmas.Bool.{cases_Bool, and_parts, eqb-true}
use Rattle.hk_rta.specs.declared.Timing.{Timing}
use Rattle.hk_rta.specs.Demand.{timing_at}
use Rattle.hk_plan.specs.declared.Ready.{Ready}
use Rattle.hk_plan.specs.Alone.{task_of, arrival_of, ticks_of}
use Rattle.hk_plan.specs.AloneBy.{Jobs, IsJob, is_some_at, earliest, alone_turn, alone_had, AloneEnds}
use Rattle.hk_plan.specs.Bounds.{KeepsTiming}
use Rattle.hk_plan.specs.JobBounds.{JobsKeepTiming}
use Rattle.hk_plan.specs.LeastTask.{HasJob}
use Rattle.hk_plan.proofs.JobRows.{job_rows, place}
use Rattle.hk_ceiling.specs.declared.ceilings.TaskSection.{TaskSection}
use Rattle.hk_ceiling.specs.Choice.{by_ceilings}
use Rattle.hk_ceiling.specs.Promises.{done, Gets, IsReadyJob, JobHolds, OneHolder, HeldUp, InSection, HeldUpByOne, EndInTime}
use Rattle.hk_ceiling.proofs.Scheduled.{IsReady, Holds, HoldsUp, Blocks}
use Rattle.hk_ceiling.proofs.Alone.{had, got, exclusive_alone, held_by_one_alone, bounds_alone}
use Rattle.hk_ceiling.proofs.Placed.{at_turn, at_job, is_row, job_of, task_is, same_task, same_job, its_had}

module _ (sections : List TaskSection) (jobs : Jobs) where
  its_done : (t i j : ℕ) → IsJob jobs i j → had sections jobs t (place jobs i j) ≡ done sections jobs t i j
  its_done t i j is = its_had jobs (done sections jobs t) i j is

  gets_place : (t i j : ℕ) → Gets sections jobs t i j → got sections jobs t ≡ Some (place jobs i j)
  gets_place t i j g = ap (λ o. at_turn jobs (done sections jobs t) t o) g.task ∙ ap (λ o. at_job jobs i o) g.job

  ready_place : (t i j : ℕ) → IsReadyJob sections jobs t i j → IsReady (job_rows jobs) (had sections jobs t) t (place jobs i j)
  ready_place t i j r = record {
    within = (is_row jobs i j r.is_job).within;
    arrived = omega (arith, r.arrived, (is_row jobs i j r.is_job).ready);
    unended = omega (arith, r.unended, its_done t i j r.is_job, (is_row jobs i j r.is_job).ticks);
  }

  holds_place : (t i j q : ℕ) → JobHolds sections jobs t i j q → Holds (job_rows jobs) sections (got sections jobs) (had sections jobs) t (place jobs i j) q
  holds_place t i j q h =
      let d = its_done t i j h.ready.is_job in
      record {
        ready = ready_place t i j h.ready;
        listed = h.listed;
        its = h.its ∙ sym (is_row jobs i j h.ready.is_job).task;
        held = elim (h.held) [
          | inl begun ↦ inl (omega (arith, begun, d))
          | inr goes ↦ inr (goes.0 ∙ sym d, gets_place t i j goes.1)
        ];
        more = omega (arith, h.more, d);
      }

  holds_up_place : (t i j a b : ℕ) → HeldUp sections jobs t i j a b → HoldsUp (job_rows jobs) (got sections jobs) (had sections jobs) (place jobs i j) t (place jobs a b)
  holds_up_place t i j a b h = record {
    ready = ready_place t i j h.ready;
    gets = gets_place t a b h.gets;
    later = omega (arith, h.later, (is_row jobs i j h.ready.is_job).task, (is_row jobs a b h.is_job).task);
  }

  in_section : (t i j a b q : ℕ) → IsJob jobs i j → IsJob jobs a b
      → Blocks (job_rows jobs) sections (had sections jobs) (task_of (job_rows jobs) (place jobs i j)) t (place jobs a b) q → InSection sections jobs t i a b q
  in_section t i j a b q is other x =
      let d = its_done t a b other in
      record {
        inside = record {
          listed = x.inside.listed;
          its = x.inside.its ∙ (is_row jobs a b other).task;
          begun = omega (arith, x.inside.begun, d);
          more = omega (arith, x.inside.more, d);
        };
        high = omega (arith, x.high, (is_row jobs i j is).task);
      }

  -- ---- timing

  -- a row of a task is one of its jobs'
  record Own (i k : ℕ) : Type 0 where
    job : ℕ
    is_job : IsJob jobs i job
    there : place jobs i job ≡ k

  own_job : (i k : ℕ) → (l : HasJob jobs (place jobs) k) → task_of (job_rows jobs) k ≡ i → Own i k
  own_job i k l mine =
      let same : l.task ≡ i = sym (task_is jobs k l) ∙ mine in
      let P : ℕ → Type 0 = λ x. IsJob jobs x l.job in
      record { job = l.job; is_job = subst P same l.is_job; there = ap (λ x. place jobs x l.job) (sym same) ∙ l.there }

  -- without jitter a job becomes ready as it arrives
  at_once : (i j : ℕ) (timing : Timing) → JobsKeepTiming jobs i timing → timing.jitter ≡ 0 → IsJob jobs i j → jobs.ready i j ≡ jobs.arrival i j
  at_once i j timing keeps still is = let from = keeps.from_arrival j is.listed in let late = keeps.in_jitter j is.listed in omega (arith, from, late, still)

  timing_place : (i : ℕ) (timing : Timing) → JobsKeepTiming jobs i timing → timing.jitter ≡ 0 → KeepsTiming (job_rows jobs) (arrival_of (job_rows jobs)) i timing
  timing_place i timing keeps still = record {
    period_some = keeps.period_some;
    ticks_some = λ k within mine.
        let o = own_job i k (job_of jobs k within) mine in
        let some = keeps.ticks_some o.job o.is_job.listed in
        omega (arith, some, ap (ticks_of (job_rows jobs)) o.there, (is_row jobs i o.job o.is_job).ticks);
    ticks_few = λ k within mine.
        let o = own_job i k (job_of jobs k within) mine in
        let few = keeps.ticks_few o.job o.is_job.listed in
        omega (arith, few, ap (ticks_of (job_rows jobs)) o.there, (is_row jobs i o.job o.is_job).ticks);
    from_origin = λ k within mine. omega arith;
    in_jitter = λ k within mine. omega arith;
    apart = λ a b less within first second.
        let o = own_job i a (job_of jobs a (omega (arith, less, within))) first in
        let q = own_job i b (job_of jobs b within) second in
        let far = keeps.apart o.job q.job (omega (arith, less, o.there, q.there)) q.is_job.listed in
        omega (
          arith,
          far,
          at_once i o.job timing keeps still o.is_job,
          at_once i q.job timing keeps still q.is_job,
          (is_row jobs i o.job o.is_job).ready,
          (is_row jobs i q.job q.is_job).ready,
          ap (arrival_of (job_rows jobs)) o.there,
          ap (arrival_of (job_rows jobs)) q.there,
        );
  }

-- ---- a job that has had all its ticks has an end

module _ (choice : List Ready → ℕ) (jobs : Jobs) where
  pub at_some : (o : Option ℕ) (k : ℕ) → is_some_at o k ≡ true → o ≡ Some k
  at_some None k e = absurd (cc)
  at_some (Some m) k e = ap (λ x. Some x) (eqb-true m k e)

  abbrev pub gets_it : ℕ → ℕ → ℕ → Bool
  gets_it t i j = is_some_at (alone_turn choice jobs (alone_had choice jobs t) t) i && is_some_at (earliest jobs (alone_had choice jobs t) t i) j

  pub none_more : (t i j : ℕ) → gets_it t i j ≡ false → alone_had choice jobs (suc t) i j ≡ alone_had choice jobs t i j
  unfolding alone_had
  none_more t i j e = rw e (omega arith)

  pub none_first : (i j : ℕ) → alone_had choice jobs 0 i j ≡ 0
  unfolding alone_had
  none_first i j = refl

  pub record Ended (i j t : ℕ) : Type 0 where
    pub moment : ℕ
    pub ends : AloneEnds choice jobs i j moment
    pub by_then : moment ≤ t

  pub has_end : (t i j : ℕ) → 0 < jobs.ticks i j → alone_had choice jobs t i j ≡ jobs.ticks i j → Ended i j t
  has_end zero i j some whole = absurd (omega (arith, some, whole, none_first i j))
  has_end (suc t) i j some whole = elim (cases_Bool (gets_it t i j)) [
    | inr other ↦
        let e = has_end t i j some (sym (none_more t i j other) ∙ whole) in
        record { moment = e.moment; ends = e.ends; by_then = omega (arith, e.by_then) }
    | inl mine ↦
        let back : suc t - 1 ≡ t = omega arith in
        let p = and_parts (is_some_at (alone_turn choice jobs (alone_had choice jobs t) t) i) (is_some_at (earliest jobs (alone_had choice jobs t) t i) j) mine in
        record {
          moment = suc t;
          ends = record {
            later = omega arith;
            last = rw back (record { task = at_some _ i p.0; job = at_some _ j p.1 });
            whole = whole;
          };
          by_then = omega arith;
        }
  ]

-- ---- the promises

pub one_holder : OneHolder
one_holder sections jobs apart in_order t i j p a b q x y same =
    let e = exclusive_alone sections jobs apart in_order (suc t) t (place jobs i j) (place jobs a b) p q (omega arith) (holds_place sections jobs t i j p x) (holds_place sections jobs t a b q y) same in
    (same_task jobs i j a b x.ready.is_job y.ready.is_job e, same_job jobs i j a b x.ready.is_job y.ready.is_job e)

pub held_up_by_one : HeldUpByOne
held_up_by_one sections jobs apart in_order i j t a b u c d x y =
    let h = held_by_one_alone sections jobs apart in_order (suc (t + u)) (place jobs i j) t u (place jobs a b) (place jobs c d) (omega arith) (omega arith)
    (holds_up_place sections jobs t i j a b x) (holds_up_place sections jobs u i j c d y) in (
      same_task jobs a b c d x.is_job y.is_job h.0,
      same_job jobs a b c d x.is_job y.is_job h.0,
      (h.1.0, (in_section sections jobs t i j a b h.1.0 x.ready.is_job x.is_job h.1.1.0, in_section sections jobs u i j c d h.1.0 x.ready.is_job y.is_job h.1.1.1)),
    )

pub end_in_time : EndInTime
end_in_time sections jobs apart in_order timings i r listed keeps still constrained response in_time j is =
    let k : ℕ = place jobs i j in
    let row = is_row jobs i j is in
    let here : arrival_of (job_rows jobs) k ≡ jobs.arrival i j = row.ready ∙ at_once sections jobs i j (timing_at timings i) (keeps i (omega arith)) (still i listed) is in
    let stop : ℕ = jobs.arrival i j + r in
    let e = bounds_alone sections jobs apart in_order stop timings i r listed (λ a le. timing_place sections jobs a (timing_at timings a) (keeps a le) (still a (omega (arith, le, listed))))
    still constrained response in_time k row.within row.task (omega (arith, here)) in
    let P : ℕ → Type 0 = λ x. had sections jobs (x + r) k ≡ ticks_of (job_rows jobs) k in
    let whole : done sections jobs (jobs.arrival i j + r) i j ≡ jobs.ticks i j = sym (its_had jobs (done sections jobs (jobs.arrival i j + r)) i j is) ∙ subst P here e ∙ row.ticks in
    let some = (keeps i (omega arith)).ticks_some j is.listed in
    let ended = has_end (by_ceilings sections) jobs (jobs.arrival i j + r) i j (omega (arith, some)) whole in
    record { whole = whole; moment = ended.moment; ends = ended.ends; in_time = ended.by_then }
