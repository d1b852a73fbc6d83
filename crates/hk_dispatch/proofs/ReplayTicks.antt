-- A tick of a task beside the same tick of the replay: by what its job wants, it leaves the job in the same way and changes the
-- plain heap in the same way.
use Rattle.std.proofs.Common.{◌≡◌, ◌≢◌, ℕ, zero, suc, ◌+◌, ◌<◌, ◌≤◌, Bool, true, false, inl, inr, refl, sym, ◌∙◌, ap, subst, arith, Option, Some, None}
use Rattle.std.proofs.lemmas.Bool.{and_from, eq-eqb, ne_eqb, lt-ltb}
use Rattle.std.specs.Prelude.{not, ◌==◌, if◌then◌else◌}
use Rattle.hk_words.specs.declared.geometry.Geometry.{Geometry}
use Rattle.hk_words.specs.declared.call.Call.{Call}
use Rattle.hk_words.specs.declared.call.Reply.{Reply}
use Rattle.hk_words.specs.declared.call.Reply.TheVariants as reply
use Rattle.hk_words.specs.Bounds.{places_of}
use Rattle.hk_words.specs.Geometry.{tasks}
use Rattle.hk_model.specs.Heap.{Heap, opening_of}
use Rattle.hk_model.specs.History.{after}
use Rattle.hk_model.specs.Replies.{reply_of}
use Rattle.hk_core.specs.declared.flight.Flight.{Flight}
use Rattle.hk_core.specs.declared.outcome.Fault.{Fault}
use Rattle.hk_core.specs.declared.outcome.Fault.TheVariants as fault
use Rattle.hk_core.specs.declared.outcome.Outcome.TheVariants as outcome
use Rattle.hk_core.specs.State.{State, flight_of}
use Rattle.hk_core.specs.Step.{outcome_at, answer_by, next, history_after}
use Rattle.hk_core.specs.Begin.{refusal, first_flight, after_begin}
use Rattle.hk_core.specs.Faults.{FindsField, TellsPlain}
use Rattle.hk_core.specs.Run.{Running, begin, step, act, is_busy, may_begin}
use Rattle.hk_core.specs.View.{flight_at}
use Rattle.hk_core.proofs.Actions.{IsLawfulRun}
use Rattle.hk_core.proofs.Places.{begins_first}
use Rattle.hk_core.proofs.RefusedPlain.{refused_plain}
use Rattle.hk_core.proofs.Registers.{registers_tested}
use Rattle.hk_core.proofs.Replied.{is_done}
use Rattle.hk_core.proofs.Turns.{has_flight, begin_geometry}
use Rattle.hk_core.proofs.kinds.Begin.{lawful_after_begin}
use Rattle.hk_collect.specs.Used.{Trace, trace_act}
use Rattle.hk_script.specs.declared.walk.Need.{Need}
use Rattle.hk_script.specs.declared.walk.Need.TheVariants as need
use Rattle.hk_dispatch.specs.declared.operation.Left.{Left}
use Rattle.hk_dispatch.specs.declared.operation.Left.TheVariants as left
use Rattle.hk_dispatch.specs.InStep.{SeatInStep, aside, under_way, MayBegin}
use Rattle.hk_dispatch.specs.Ticks.{left_in, run_first, run_on, leaves_first, leaves_on}
use Rattle.hk_dispatch.specs.Replay as replay
use Rattle.hk_dispatch.specs.Replay.{Part, answer_on, heap_on, left_at_first, left_at, heap_unless}
use Rattle.hk_dispatch.proofs.Tracing.{traced_begin, traced_step}
use Rattle.hk_dispatch.proofs.ReplayEffects.{effect_some, effect_within, late}
use Rattle.hk_dispatch.proofs.ReplaySteps.{OpReplays, step_replays}

-- THE RUN OF THE HEAP, with its history

abbrev stepped : Running → (seat : ℕ) → Running
stepped r seat = record { core = next r.core seat; history = history_after r.core seat r.history }

abbrev begun : Running → (seat : ℕ) → Call → Running
begun r seat c = record r { core = after_begin r.core seat c }

step_is : (r : Trace) (seat : ℕ) → seat < tasks r.running.core.geometry → 1 ≤ (flight_of r.running.core.flights seat).place → (trace_act r (step seat)).running ≡ stepped r.running seat
unfolding act
step_is r seat below flying =
    let busy : is_busy r.running.core seat ≡ true = and_from _ _ (lt-ltb seat (tasks r.running.core.geometry) below) (ap not (ne_eqb (flight_of r.running.core.flights seat).place 0 (λ e. omega (arith, e, flying)))) in
    traced_step r seat ∙ rw busy refl

begin_is : (r : Trace) (seat : ℕ) (c : Call) → seat < tasks r.running.core.geometry → (flight_of r.running.core.flights seat).place ≡ 0 → MayBegin r.running.core.geometry c
    → (trace_act r (begin seat c)).running ≡ begun r.running seat c
unfolding act
begin_is r seat c below idle m =
    let may : may_begin r.running.core seat c ≡ true = and_from _ _ (and_from _ _ (lt-ltb seat (tasks r.running.core.geometry) below) (eq-eqb (flight_of r.running.core.flights seat).place 0 idle))
    (and_from _ _ (ap not m.question) ((registers_tested r.running.core.geometry.registers c).1 m.registers)) in
    traced_begin r seat c ∙ rw may refl

-- THE TICK OF AN OPERATION

module _ (h : Heap) (seat : ℕ) (c : Call) (p : Part) where
  -- an operation that goes on isn't refused
  unless_by : (b : Bool) → heap_unless h seat c p (if b then left.Passes (answer_on h seat c p) else left.Stays) ≡ heap_on h seat c p
  unless_by true = refl
  unless_by false = refl

  found : (r : Reply) → FindsField r → left_at_first h seat c p r ≡ replay.goes_on h seat c p
  found reply.Nil f = absurd (f.0 refl)
  found reply.Field f = absurd (f.1 refl)
  found reply.Unit f = refl
  found (reply.Num n) f = refl
  found reply.Yes f = refl
  found reply.No f = refl
  found reply.Full f = refl

-- beside the replay's tick: the plain heap, how the job is left, and what the call has answered once it had its effect
pub record OpTicks (h k : Heap) (seat : ℕ) (c : Call) (p : Part) (spent : ℕ) (l : Left) (y : Flight) : Type 0 where
  pub heap : k ≡ heap_unless h seat c p (left_at h seat c p spent)
  pub leaves : l ≡ left_at h seat c p spent
  pub answer : 1 ≤ y.place → is_done y ≡ true → outcome_at y y.call ≡ outcome.Done (answer_on h seat c p)

going : (h k : Heap) (seat : ℕ) (c : Call) (p : Part) (spent : ℕ) (l : Left) (y : Flight) → left_at h seat c p spent ≡ replay.goes_on h seat c p → OpReplays h k seat c p l y → OpTicks h k seat c p spent l y
going h k seat c p spent l y goes o = record {
  heap = o.heap ∙ sym (ap (heap_unless h seat c p) goes ∙ unless_by h seat c p (p.spent + 1 == places_of c));
  leaves = o.leaves ∙ sym goes;
  answer = o.answer;
}

module _ (g : Geometry) (r : Trace) (geometry : r.running.core.geometry ≡ g) (lawful : IsLawfulRun r.running) (seat : ℕ) (below : seat < tasks r.running.core.geometry)
    (c : Call) (p : Part) (may : MayBegin r.running.core.geometry c) (not_spent : refusal r.running.core seat c ≢ Some fault.Spent) where
  abbrev core : State
  core = r.running.core

  abbrev h : Heap
  h = after (opening_of g) r.running.history

  -- the tick leads to a run, and leaves the job so
  abbrev Ticks : (spent : ℕ) → Running → Left → Type 0
  Ticks spent n l = OpTicks h (after (opening_of g) n.history) seat c p spent l (flight_of n.core.flights seat)

  abbrev Finds : Running → Type 0
  Finds n = (flight_of n.core.flights seat).full ≡ false

  further : (spent : ℕ) → p.spent ≡ suc spent → (flight_of core.flights seat).call ≡ c → (flight_of core.flights seat).place ≡ suc spent + 1 → suc spent + 1 ≤ places_of c → Finds r.running
      → Finds (run_on r seat c (suc spent)).running
      → (is_done (flight_of core.flights seat) ≡ true → outcome_at (flight_of core.flights seat) (flight_of core.flights seat).call ≡ outcome.Done p.answer)
      → Ticks (suc spent) (run_on r seat c (suc spent)).running (leaves_on core seat c (suc spent))
  further spent e is at within room room_after before =
      let to = step_is r seat below (omega (arith, at)) in
      subst (λ (n : Running). Ticks (suc spent) n (left_in (answer_by core seat))) (sym to)
      (going h _ seat c p (suc spent) _ _ refl
      (step_replays g core r.running.history geometry lawful seat below c p is (omega (arith, at, e)) (omega (arith, within, e)) room (subst Finds to room_after) before))

  tells : (flight_of core.flights seat).place ≡ 0 → TellsPlain (refusal core seat c) (reply_of h seat c)
  unfolding flight_at
  tells idle = subst (λ (a : Geometry). TellsPlain (refusal core seat c) (reply_of (after (opening_of a) r.running.history) seat c)) geometry
      (refused_plain core r.running.history seat below lawful idle c may.question may.registers)

  first : p.spent ≡ 0 → (flight_of core.flights seat).place ≡ 0 → (o : Option Fault) → refusal core seat c ≡ o → TellsPlain o (reply_of h seat c) → Finds (run_first r seat c o).running
      → Ticks 0 (run_first r seat c o).running (leaves_first core seat c o)
  unfolding first_flight flight_at
  first none idle (Some fault.Spent) e plain room_after = absurd (not_spent e)
  first none idle (Some fault.Nil) e plain room_after = record {
    heap = sym (ap (λ (a : Reply). heap_unless h seat c p (left_at_first h seat c p a)) plain);
    leaves = sym (ap (left_at_first h seat c p) plain);
    answer = λ flying done. absurd (omega (arith, flying, idle));
  }
  first none idle (Some fault.Field) e plain room_after = record {
    heap = sym (ap (λ (a : Reply). heap_unless h seat c p (left_at_first h seat c p a)) plain);
    leaves = sym (ap (left_at_first h seat c p) plain);
    answer = λ flying done. absurd (omega (arith, flying, idle));
  }
  first none idle None e plain room_after =
      let d = after_begin core seat c in
      let b = trace_act r (begin seat c) in
      let same = begin_geometry core seat c in
      let inside : seat < tasks d.geometry = subst (λ (a : Geometry). seat < tasks a) (sym same) below in
      let start = begins_first core seat (has_flight core seat lawful.sized below) c e in
      let at : (flight_of d.flights seat).place ≡ 1 = ap (λ (x : Flight). x.place) start in
      let is : (flight_of d.flights seat).call ≡ c = ap (λ (x : Flight). x.call) start in
      let room : (flight_of d.flights seat).full ≡ false = ap (λ (x : Flight). x.full) start in
      let some = effect_some c may.question in
      let within = effect_within c in
      let by_begin : b.running ≡ begun r.running seat c = begin_is r seat c below idle may in
      let below' : seat < tasks b.running.core.geometry = subst (λ (n : Running). seat < tasks n.core.geometry) (sym by_begin) inside in
      let flying' : 1 ≤ (flight_of b.running.core.flights seat).place = omega (arith, ap (λ (n : Running). (flight_of n.core.flights seat).place) by_begin, at) in
      let to : (run_first r seat c None).running ≡ stepped (begun r.running seat c) seat = step_is b seat below' flying' ∙ ap (λ (n : Running). stepped n seat) by_begin in
      subst (λ (n : Running). Ticks 0 n (left_in (answer_by d seat))) (sym to)
      (going h _ seat c p 0 _ _ (found h seat c p (reply_of h seat c) plain)
      (step_replays g d r.running.history (same ∙ geometry) (lawful_after_begin core r.running.history seat c below idle may.question may.registers lawful) seat inside c p
      is (omega (arith, at, none)) (omega (arith, none, some, within)) room (subst Finds to room_after)
      (λ done. let l = late (flight_of d.flights seat) c is room done in absurd (omega (arith, l, at, some)))))

  pub op_ticks : (spent : ℕ) → p.spent ≡ spent → SeatInStep (flight_of core.flights seat) (Some (need.Heap c)) spent → Finds r.running → Finds (run_on r seat c spent).running
      → (1 ≤ spent → 1 ≤ (flight_of core.flights seat).place → is_done (flight_of core.flights seat) ≡ true → outcome_at (flight_of core.flights seat) (flight_of core.flights seat).call ≡ outcome.Done p.answer)
      → Ticks spent (run_on r seat c spent).running (leaves_on core seat c spent)
  op_ticks zero e (aside idle w) room room_after before = first e idle (refusal core seat c) refl (tells idle) room_after
  op_ticks zero e (under_way c' is own at some within) room room_after before = absurd (omega (arith, some))
  op_ticks (suc spent) e (aside idle (inl w)) room room_after before = absurd (cc)
  op_ticks (suc spent) e (aside idle (inr w)) room room_after before = absurd (omega (arith, w))
  op_ticks (suc spent) e (under_way c' is own at some within) room room_after before =
      let same : c' ≡ c = let k : ◌≡◌ {A = Option Need} (Some (need.Heap c)) (Some (need.Heap c')) = is in cc in
      further spent e (own ∙ same) at (omega (arith, within, ap places_of same)) room room_after (before some (omega (arith, at)))
