-- The machine after a tick of a job is that of the run of the heap.
use Rattle.std.proofs.Common.{◌≡◌, ℕ, zero, suc, ◌<◌, ◌≤◌, true, Option, Some, None, refl, sym, ◌∙◌, ap, subst, arith, inl, inr}
use Rattle.std.proofs.lemmas.Bool.{and_from, lt-ltb, eq-eqb, ne_eqb}
use Rattle.std.specs.Prelude.{not}
use Rattle.hk_words.specs.declared.call.Call.{Call}
use Rattle.hk_words.specs.Geometry.{tasks}
use Rattle.hk_core.specs.declared.outcome.Fault.{Fault}
use Rattle.hk_core.specs.State.{State, IsSized, flight_of}
use Rattle.hk_core.specs.Begin.{refusal, after_begin}
use Rattle.hk_core.specs.Step.{next}
use Rattle.hk_core.specs.Run.{Running, begin, step, act, is_busy, may_begin}
use Rattle.hk_core.proofs.Registers.{registers_tested}
use Rattle.hk_collect.specs.Used.{Trace, trace_act}
use Rattle.hk_script.specs.declared.walk.Need.{Need}
use Rattle.hk_script.specs.declared.walk.Need.TheVariants as need
use Rattle.hk_dispatch.specs.InStep.{SeatInStep, aside, under_way, MayBegin}
use Rattle.hk_dispatch.specs.Ticks.{core_first, core_on, run_first, run_on, run_by}
use Rattle.hk_dispatch.specs.TaskRuns.{core_by}
use Rattle.hk_dispatch.proofs.Begun.{begun_flying, begun_seat}
use Rattle.hk_dispatch.proofs.Tracing.{traced_step}

acts_busy : (r : Running) (seat : ℕ) → is_busy r.core seat ≡ true → (act r (step seat)).core ≡ next r.core seat
unfolding act
acts_busy r seat busy = rw busy refl

-- a step of a call in flight
stepped : (r : Trace) (seat : ℕ) → seat < tasks r.running.core.geometry → 1 ≤ (flight_of r.running.core.flights seat).place → (trace_act r (step seat)).running.core ≡ next r.running.core seat
stepped r seat below flying =
    let busy : is_busy r.running.core seat ≡ true = and_from _ _ (lt-ltb seat (tasks r.running.core.geometry) below) (ap not (ne_eqb (flight_of r.running.core.flights seat).place 0 (λ e. omega (arith, e, flying)))) in
    ap (λ (x : Running). x.core) (traced_step r seat) ∙ acts_busy r.running seat busy

-- the begin of a call of an idle seat
starts : (r : Trace) (seat : ℕ) (c : Call) → seat < tasks r.running.core.geometry → (flight_of r.running.core.flights seat).place ≡ 0 → MayBegin r.running.core.geometry c
    → (trace_act r (begin seat c)).running.core ≡ after_begin r.running.core seat c
unfolding trace_act act
starts r seat c below idle m =
    let may : may_begin r.running.core seat c ≡ true = and_from _ _ (and_from _ _ (lt-ltb seat (tasks r.running.core.geometry) below) (eq-eqb (flight_of r.running.core.flights seat).place 0 idle))
    (and_from _ _ (ap not m.question) ((registers_tested r.running.core.geometry.registers c).1 m.registers)) in
    rw may refl

module _ (r : Trace) (seat : ℕ) (sized : IsSized r.running.core) (below : seat < tasks r.running.core.geometry) where
  first_core : (c : Call) → (flight_of r.running.core.flights seat).place ≡ 0 → MayBegin r.running.core.geometry c → (o : Option Fault) → refusal r.running.core seat c ≡ o
      → core_first r.running.core seat c o ≡ (run_first r seat c o).running.core
  first_core c idle may (Some fault) e = refl
  first_core c idle may None e =
      let then' = starts r seat c below idle may in
      let b = trace_act r (begin seat c) in
      let below' : seat < tasks b.running.core.geometry = subst (λ (k : State). seat < tasks k.geometry) (sym then') (begun_seat r.running.core seat c below) in
      let flying : 1 ≤ (flight_of b.running.core.flights seat).place = subst (λ (k : State). 1 ≤ (flight_of k.flights seat).place) (sym then') (begun_flying r.running.core seat c sized below e) in
      sym (stepped b seat below' flying ∙ ap (λ (k : State). next k seat) then')

  on_core : (c : Call) (spent : ℕ) → MayBegin r.running.core.geometry c → SeatInStep (flight_of r.running.core.flights seat) (Some (need.Heap c)) spent
      → core_on r.running.core seat c spent ≡ (run_on r seat c spent).running.core
  on_core c zero may (aside idle w) = first_core c idle may (refusal r.running.core seat c) refl
  on_core c zero may (under_way c' e is at some within) = absurd (omega (arith, some))
  on_core c (suc spent) may (aside idle (inl w)) = absurd (cc)
  on_core c (suc spent) may (aside idle (inr w)) = absurd (omega (arith, w))
  on_core c (suc spent) may (under_way c' e is at some within) = sym (stepped r seat below (omega (arith, at)))

  pub by_core : (spent : ℕ) (wants : Option Need) → ((c : Call) → wants ≡ Some (need.Heap c) → MayBegin r.running.core.geometry c) → SeatInStep (flight_of r.running.core.flights seat) wants spent
      → core_by r.running.core seat spent wants ≡ (run_by r seat spent wants).running.core
  by_core spent (Some (need.Heap c)) may in_step = on_core c spent (may c refl) in_step
  by_core spent (Some (need.Work n)) may in_step = refl
  by_core spent (Some need.Local) may in_step = refl
  by_core spent (Some (need.Out value)) may in_step = refl
  by_core spent (Some (need.Ask c)) may in_step = refl
  by_core spent None may in_step = refl
