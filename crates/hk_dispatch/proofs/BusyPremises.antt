-- A session up to a moment is a run of busy intervals, with the numbers of the analysis.
use Rattle.std.proofs.Common.{◌≡◌, ℕ, suc, ◌+◌, ◌*◌, ◌<◌, ◌≤◌, List, length, map, get_or, sym, ◌∙◌, ap, subst, arith, inl, inr}
use Rattle.std.proofs.lemmas.List.{get_or-map, length-map}
use Rattle.std.specs.List.{sum_by}
use Rattle.hk_words.specs.declared.geometry.Geometry.{Geometry}
use Rattle.hk_rta.specs.declared.Load.{Load}
use Rattle.hk_rta.specs.Demand.{starts_in, work_of, work_in}
use Rattle.hk_rta.proofs.Steps.{starts_grow}
use Rattle.hk_plan.specs.declared.Ready.{Ready}
use Rattle.hk_plan.proofs.Sums.{total, total-le, sum_is_total}
use Rattle.hk_sheet.specs.declared.sheet.Sheet.{Sheet}
use Rattle.hk_admit.specs.Analysis.{load_of, base, events_in}
use Rattle.hk_admit.specs.Analysis as analysis
use Rattle.hk_dispatch.specs.Tasks.{no_high, high_at}
use Rattle.hk_dispatch.specs.Session.{state, IsMoment, IsSession}
use Rattle.hk_dispatch.proofs.BusyRun.{bring, owe, news, ticks_at, events_at, left_now, owed_now, quiet_at, begins, goes_on}
use Rattle.hk_dispatch.proofs.BusyWindow.{Premises}
use Rattle.hk_dispatch.proofs.Counters.{ready_before, backlog}
use Rattle.hk_dispatch.proofs.HighLeft.{some_left}
use Rattle.hk_dispatch.proofs.LowFacts.{LowTicksFall, LowWaits}
use Rattle.hk_dispatch.proofs.QuietTest.{Busy, owes, low_waits, high_waits, busy_is, is_quiet, quiet_first, some_term}
use Rattle.hk_dispatch.proofs.ReadyCounts.{ready_next, few_ready}
use Rattle.hk_dispatch.proofs.SessionJobs.{jobs_kept}
use Rattle.hk_dispatch.proofs.SessionReady.{moment_until}

-- THE NUMBERS OF THE ANALYSIS, as sums over the seats

-- the most jobs of a high task that become ready in a window
abbrev pub most : Sheet → (window seat : ℕ) → ℕ
most sheet window seat = starts_in (window + (high_at sheet seat).timing.jitter) (high_at sheet seat).timing.period

module _ (sheet : Sheet) (attempt busy : ℕ) where
  abbrev load_at : ℕ → Load
  load_at i = get_or (map (load_of sheet.heap.rate attempt) sheet.high) i (load_of sheet.heap.rate attempt no_high)

  same_load : (i : ℕ) → i < length sheet.high → load_at i ≡ load_of sheet.heap.rate attempt (high_at sheet i)
  same_load i lt = get_or-map (load_of sheet.heap.rate attempt) sheet.high i no_high (load_of sheet.heap.rate attempt no_high) lt

  -- the jobs that become ready in a window bring no more than the loads
  pub loads_cover : total (λ i. most sheet busy i * ((high_at sheet i).timing.cost + (sheet.heap.rate * (high_at sheet i).words + attempt))) (length sheet.high)
      ≤ work_in (map (load_of sheet.heap.rate attempt) sheet.high) busy
  loads_cover =
      let all = sum_is_total (work_of busy) (map (load_of sheet.heap.rate attempt) sheet.high) (load_of sheet.heap.rate attempt no_high) in
      let as_many = ap (total (λ k. work_of busy (load_at k))) (length-map sheet.high (load_of sheet.heap.rate attempt)) in
      let each = total-le (λ i. most sheet busy i * ((high_at sheet i).timing.cost + (sheet.heap.rate * (high_at sheet i).words + attempt))) (λ k. work_of busy (load_at k)) (length sheet.high)
      (λ i lt. subst (λ (l : Load). work_of busy (load_of sheet.heap.rate attempt (high_at sheet i)) ≤ work_of busy l) (sym (same_load i lt)) (omega arith)) in
      subst (λ x. total (λ i. most sheet busy i * ((high_at sheet i).timing.cost + (sheet.heap.rate * (high_at sheet i).words + attempt))) (length sheet.high) ≤ x) (sym (all ∙ as_many)) each

  -- and make the collector owe as much as the analysis says
  pub owed_is : sum_by (events_in sheet.heap.rate attempt busy) sheet.high ≡ total (λ i. most sheet busy i * (sheet.heap.rate * (high_at sheet i).words + attempt)) (length sheet.high)
  owed_is = sum_is_total (events_in sheet.heap.rate attempt busy) sheet.high no_high

module _ (g : Geometry) (choice : List Ready → ℕ) (sheet : Sheet) (work attempt busy debt : ℕ) (s : IsSession g choice sheet work attempt busy debt) where
  room : base sheet + total (λ i. most sheet busy i * bring g choice sheet attempt i) (length sheet.high) ≤ busy
  room =
      let enough = s.checked.busy_is.least.holds.enough in
      let loads = subst (λ a. total (λ i. most sheet busy i * bring g choice sheet attempt i) (length sheet.high) ≤ work_in (map (load_of sheet.heap.rate a) sheet.high) busy)
      s.checked.attempt_is (loads_cover sheet attempt busy) in
      omega (arith, enough, loads)

  pub debt_sum : debt ≡ analysis.low_events sheet + total (λ i. most sheet busy i * owe g choice sheet attempt i) (length sheet.high)
  debt_sum = s.checked.debt_is ∙ ap (λ x. analysis.low_events sheet + x)
      (sym (ap (λ a. sum_by (events_in sheet.heap.rate a busy) sheet.high) s.checked.attempt_is) ∙ owed_is sheet attempt busy)

  module _ (falls : LowTicksFall) (waits : LowWaits) (horizon : ℕ) (until : IsMoment g choice sheet horizon) where
    at_moment : (t : ℕ) → t ≤ horizon → IsMoment g choice sheet t
    at_moment t le = moment_until g choice sheet horizon t le until

    -- at a moment that isn't quiet something is left to do
    left_some : (t : ℕ) → t ≤ horizon → Busy sheet s.checked.readable (state g choice sheet t) t → 1 ≤ left_now g choice sheet attempt t
    left_some t le (owes some) = omega (arith, some)
    left_some t le (low_waits some) = elim (waits g choice sheet work attempt busy debt s t (at_moment t le)) [
      | inl none ↦ absurd (some none)
      | inr more ↦ omega (arith, more)
    ]
    left_some t le (high_waits some) =
        let jobs = jobs_kept g choice s.choice_is sheet s.checked.readable s.checked.declared s.sizes t in
        let more = some_term (λ i. ticks_at g choice sheet attempt t i + events_at g choice sheet attempt t i) (backlog sheet (state g choice sheet t) t) (length sheet.high)
        (λ i high one. let own = some_left sheet s.checked.readable (state g choice sheet t) t i high jobs one in omega (arith, own)) some in
        omega (arith, more)

    pub premises : Premises (length sheet.high) (most sheet) (bring g choice sheet attempt) (owe g choice sheet attempt) (base sheet) (analysis.low_events sheet) busy horizon
        (λ t i. ready_before (high_at sheet i) t) (news g choice sheet attempt) (quiet_at g choice sheet attempt) (left_now g choice sheet attempt) (owed_now g choice sheet attempt)
    unfolding state
    premises = record {
      start = is_quiet sheet s.checked.readable (state g choice sheet 0) 0 (quiet_first g sheet);
      some = s.checked.busy_is.least.holds.positive;
      room = room;
      next = λ t i. ready_next (high_at sheet i) t;
      few = λ from x i below le. (
          let few = few_ready sheet s.checked.readable from x i below in
          let grows = starts_grow (x + (high_at sheet i).timing.jitter) (busy + (high_at sheet i).timing.jitter) (high_at sheet i).timing.period (omega (arith, le)) in
          omega (arith, few, grows)
          );
      waits = λ t le e. left_some t le (busy_is sheet s.checked.readable (state g choice sheet t) t e);
      begins = λ t lt e. (let moment = at_moment (suc t) (omega (arith, lt)) in begins g choice sheet attempt work busy debt s t moment (falls g choice sheet work attempt busy debt s t moment) e);
      goes_on = λ t lt e. (let moment = at_moment (suc t) (omega (arith, lt)) in goes_on g choice sheet attempt work busy debt s t moment (falls g choice sheet work attempt busy debt s t moment) e);
    }
