-- The calls in flight are in step with the walks: a seat has a call in flight exactly while its job is in mid-course of an
-- operation, at the place after the ticks that the job has had of it.
use Rattle.std.proofs.Common.{◌≡◌, ℕ, zero, suc, ◌+◌, ◌<◌, ◌≤◌, true, false, inl, inr, refl, sym, subst, ◌∙◌, ap, arith, Option, Some, None}
use Rattle.std.proofs.lemmas.Bool.{cases_eq, eq-eqb, ne_eqb, and_from, lt-ltb}
use Rattle.std.specs.Prelude.{not}
use Rattle.hk_words.specs.declared.geometry.Geometry.{Geometry}
use Rattle.hk_words.specs.declared.call.Call.{Call}
use Rattle.hk_words.specs.declared.call.Call.TheVariants as call
use Rattle.hk_words.specs.declared.call.Reply.{Reply}
use Rattle.hk_words.specs.Geometry.{tasks}
use Rattle.hk_model.specs.History.{is_question}
use Rattle.hk_core.specs.declared.flight.Flight.{Flight}
use Rattle.hk_core.specs.declared.outcome.Fault.{Fault}
use Rattle.hk_core.specs.State.{State, IsSized, flight_of}
use Rattle.hk_words.specs.Bounds.{places_of}
use Rattle.hk_core.specs.Step.{next, answer_by}
use Rattle.hk_core.specs.Begin.{refusal, first_flight, after_begin}
use Rattle.hk_core.specs.Places.{GoesOn, Ends, KeepsOthers}
use Rattle.hk_core.specs.Run.{Running, begin, step, act, is_busy, may_begin}
use Rattle.hk_core.proofs.Places.{begins_first, begins_alone, goes_on, ends, others_kept}
use Rattle.hk_core.proofs.Registers.{registers_tested}
use Rattle.hk_core.proofs.Turns.{has_flight, begin_sized, begin_geometry}
use Rattle.hk_collect.specs.Used.{Trace, trace_act}
use Rattle.hk_script.specs.declared.walk.Need.{Need}
use Rattle.hk_script.specs.declared.walk.Need.TheVariants as need
use Rattle.hk_dispatch.specs.declared.operation.Left.{Left}
use Rattle.hk_dispatch.specs.declared.operation.Left.TheVariants as left
use Rattle.hk_dispatch.specs.InStep.{SeatInStep, aside, under_way, MayBegin}
use Rattle.hk_dispatch.proofs.Tracing.{traced_step}
use Rattle.hk_dispatch.specs.Ticks.{left_in, run_first, run_on, leaves_first, leaves_on}

-- THE RUN OF THE HEAP

module _ (r : Trace) (seat : ℕ) (sized : IsSized r.running.core) (below : seat < tasks r.running.core.geometry) where
  abbrev core : State
  core = r.running.core

  acts : 1 ≤ (flight_of r.running.core.flights seat).place → (act r.running (step seat)).core ≡ next r.running.core seat
  unfolding act
  acts flying =
      let busy : is_busy r.running.core seat ≡ true = and_from _ _ (lt-ltb seat (tasks r.running.core.geometry) below) (ap not (ne_eqb (flight_of r.running.core.flights seat).place 0 (λ e. omega (arith, e, flying)))) in
      rw busy refl

  stepped : 1 ≤ (flight_of r.running.core.flights seat).place → (trace_act r (step seat)).running.core ≡ next r.running.core seat
  stepped flying = ap (λ (x : Running). x.core) (traced_step r seat) ∙ acts flying

  begun : (c : Call) → (flight_of r.running.core.flights seat).place ≡ 0 → MayBegin r.running.core.geometry c → (trace_act r (begin seat c)).running.core ≡ after_begin r.running.core seat c
  unfolding trace_act act
  begun c idle m =
      let may : may_begin r.running.core seat c ≡ true = and_from _ _ (and_from _ _ (lt-ltb seat (tasks r.running.core.geometry) below) (eq-eqb (flight_of r.running.core.flights seat).place 0 idle))
      (and_from _ _ (ap not m.question) ((registers_tested r.running.core.geometry.registers c).1 m.registers)) in
      rw may refl

-- THE TICK OF AN OPERATION

-- after a tick of a seat's operation the call in flight is where the job is: past the last place there is none
pub data OpInStep (x : Flight) (c : Call) (spent : ℕ) : Left → Type 0 where
  still : x.call ≡ c → x.place ≡ spent + 1 + 1 → spent + 1 + 1 ≤ places_of c → OpInStep x c spent left.Stays
  done : (r : Reply) → x.place ≡ 0 → OpInStep x c spent (left.Passes r)
  refused : (f : Fault) → x.place ≡ 0 → OpInStep x c spent (left.Faults f)

-- and the other seats are as they were
pub record OpKeeps (r s : Trace) (seat : ℕ) (c : Call) (spent : ℕ) (l : Left) : Type 0 where
  pub own : OpInStep (flight_of s.running.core.flights seat) c spent l
  pub others : KeepsOthers r.running.core s.running.core seat

row_some : (c : Call) → is_question c ≡ false → 1 ≤ places_of c
row_some (call.Get reg field) e = omega arith
row_some (call.Put reg field value) e = omega arith
row_some (call.Load dest reg field) e = omega arith
row_some (call.Store reg field from) e = omega arith
row_some (call.Move dest from) e = omega arith
row_some (call.Clear dest) e = omega arith
row_some (call.New dest shape) e = omega arith
row_some (call.Same a b) e = absurd (cc)
row_some (call.IsNull reg) e = absurd (cc)

module _ (r : Trace) (seat : ℕ) (c : Call) (sized : IsSized r.running.core) (below : seat < tasks r.running.core.geometry) (may : MayBegin r.running.core.geometry c) where
  -- a step of a call at a place: it ends there, or goes on
  by_end : (d : State) → IsSized d → seat < tasks d.geometry → (spent : ℕ) → (flight_of d.flights seat).call ≡ c → (flight_of d.flights seat).place ≡ spent + 1 → spent + 1 ≤ places_of c
      → (s : Trace) → s.running.core ≡ next d seat → KeepsOthers r.running.core d seat
      → OpKeeps r s seat c spent (left_in (answer_by d seat))
  by_end d whole inside spent is at within s core_is others = elim (cases_eq (spent + 1) (places_of c)) [
    | inl last ↦
        let e : Ends (flight_of d.flights seat) (flight_of (next d seat).flights seat) _ = ends d seat (has_flight d seat whole inside) (omega (arith, at)) (at ∙ last ∙ sym (ap places_of is)) in
        subst (OpKeeps r s seat c spent) (sym (ap left_in e.answers))
        (record { own = done _ (ap (λ (k : State). (flight_of k.flights seat).place) core_is ∙ e.place); others = all_others })
    | inr more ↦
        let few : (flight_of d.flights seat).place < places_of (flight_of d.flights seat).call = omega (arith, at, ap places_of is, within, more) in
        let g : GoesOn (flight_of d.flights seat) (flight_of (next d seat).flights seat) _ = goes_on d seat (has_flight d seat whole inside) (omega (arith, at)) few in
        subst (OpKeeps r s seat c spent) (sym (ap left_in g.answers))
        (record {
          own = still (ap (λ (k : State). (flight_of k.flights seat).call) core_is ∙ g.call ∙ is)
              (ap (λ (k : State). (flight_of k.flights seat).place) core_is ∙ g.place ∙ omega (arith, at)) (omega (arith, within, more));
          others = all_others;
        })
  ]
    where
      all_others : KeepsOthers r.running.core s.running.core seat
      all_others other differs = ap (λ (k : State). flight_of k.flights other) core_is ∙ others_kept d seat (has_flight d seat whole inside) other differs ∙ others other differs

  first : (flight_of r.running.core.flights seat).place ≡ 0 → (o : Option Fault) → refusal r.running.core seat c ≡ o
      → OpKeeps r (run_first r seat c o) seat c 0 (leaves_first r.running.core seat c o)
  unfolding first_flight
  first idle (Some fault) e = record { own = refused fault idle; others = λ other differs. refl }
  first idle None e =
      let d = after_begin r.running.core seat c in
      let inside : seat < tasks d.geometry = subst (λ (g : Geometry). seat < tasks g) (sym (begin_geometry r.running.core seat c)) below in
      let whole = begin_sized r.running.core seat c sized in
      let start = begins_first r.running.core seat (has_flight r.running.core seat sized below) c e in
      let at : (flight_of d.flights seat).place ≡ 1 = ap (λ (x : Flight). x.place) start ∙ place_first in
      let is : (flight_of d.flights seat).call ≡ c = ap (λ (x : Flight). x.call) start ∙ call_first in
      let then' = begun r seat sized below c idle may in
      let r' = trace_act r (begin seat c) in
      let sized' : IsSized r'.running.core = subst IsSized (sym then') whole in
      let below' : seat < tasks r'.running.core.geometry = subst (λ (k : State). seat < tasks k.geometry) (sym then') inside in
      let flying : 1 ≤ (flight_of r'.running.core.flights seat).place = omega (arith, ap (λ (k : State). (flight_of k.flights seat).place) then', at) in
      let core_is = stepped r' seat sized' below' flying ∙ ap (λ (k : State). next k seat) then' in
      by_end d whole inside 0 is at (row_some c may.question) (trace_act r' (step seat)) core_is
      (begins_alone r.running.core seat (has_flight r.running.core seat sized below) c)
    where
      place_first : (first_flight r.running.core seat c).place ≡ 1
      place_first = refl

      call_first : (first_flight r.running.core seat c).call ≡ c
      call_first = refl

  further : (spent : ℕ) → (flight_of r.running.core.flights seat).call ≡ c → (flight_of r.running.core.flights seat).place ≡ suc spent + 1 → suc spent + 1 ≤ places_of c
      → OpKeeps r (run_on r seat c (suc spent)) seat c (suc spent) (leaves_on r.running.core seat c (suc spent))
  further spent is at within =
      by_end r.running.core sized below (suc spent) is at within (trace_act r (step seat)) (stepped r seat sized below (omega (arith, at))) (λ other differs. refl)

  -- the tick of an operation of a seat that is in step
  pub op_keeps : (spent : ℕ) → SeatInStep (flight_of r.running.core.flights seat) (Some (need.Heap c)) spent → OpKeeps r (run_on r seat c spent) seat c spent (leaves_on r.running.core seat c spent)
  op_keeps zero (aside idle w) = first idle (refusal r.running.core seat c) refl
  op_keeps zero (under_way c' e is at some within) = absurd (omega (arith, some))
  op_keeps (suc spent) (aside idle (inl w)) = absurd (cc)
  op_keeps (suc spent) (aside idle (inr w)) = absurd (omega (arith, w))
  op_keeps (suc spent) (under_way c' e is at some within) =
      let same : c' ≡ c = let k : ◌≡◌ {A = Option Need} (Some (need.Heap c)) (Some (need.Heap c')) = e in cc in
      further spent (is ∙ same) at (omega (arith, within, ap places_of same))
