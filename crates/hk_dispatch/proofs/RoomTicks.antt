-- A tick of a task leaves no call in flight that found too few words, where a New that gets the tick finds enough.
use Rattle.std.proofs.Common.{◌≡◌, ℕ, zero, suc, ◌+◌, ◌<◌, ◌≤◌, true, false, Option, Some, None, refl, sym, ◌∙◌, ap, subst, arith, inl, inr}
use Rattle.std.proofs.lemmas.Bool.{cases_eq, ne_eqb, eq-eqb, and_from, lt-ltb}
use Rattle.std.specs.Prelude.{not}
use Rattle.hk_words.specs.declared.call.Call.{Call}
use Rattle.hk_words.specs.declared.call.Call.TheVariants as call
use Rattle.hk_words.specs.declared.geometry.Geometry.{Geometry}
use Rattle.hk_words.specs.declared.shape.Shape.{Shape}
use Rattle.hk_words.specs.Geometry.{tasks}
use Rattle.hk_words.specs.Shape.{size}
use Rattle.hk_core.specs.declared.flight.Flight.{Flight}
use Rattle.hk_core.specs.declared.outcome.Fault.{Fault}
use Rattle.hk_core.specs.State.{State, flight_of}
use Rattle.hk_core.specs.Step.{limit_of, next}
use Rattle.hk_core.specs.Begin.{refusal, first_flight, after_begin}
use Rattle.hk_core.specs.Lawful.{Lawful}
use Rattle.hk_core.specs.Run.{Running, begin, step, act, is_busy, may_begin}
use Rattle.hk_core.proofs.Actions.{IsLawfulRun}
use Rattle.hk_core.proofs.Places.{begins_first}
use Rattle.hk_core.proofs.Registers.{registers_tested}
use Rattle.hk_core.proofs.Turns.{has_flight, begin_geometry}
use Rattle.hk_collect.specs.Taken.{used_in}
use Rattle.hk_collect.specs.Used.{Trace, trace_act}
use Rattle.hk_collect.proofs.Running.{lawful_act}
use Rattle.hk_collect.proofs.Taken.{begins_take_none}
use Rattle.hk_script.specs.declared.walk.Need.{Need}
use Rattle.hk_script.specs.declared.walk.Need.TheVariants as need
use Rattle.hk_sheet.specs.declared.sheet.Sheet.{Sheet}
use Rattle.hk_dispatch.specs.Moment.{Moment, core_of, history_of, course_at, need_at}
use Rattle.hk_dispatch.specs.Ticks.{run_first, run_on, run_by, after_task}
use Rattle.hk_dispatch.specs.InStep.{SeatInStep, aside, under_way, MayBegin}
use Rattle.hk_dispatch.proofs.Begun.{begun_seat}
use Rattle.hk_dispatch.proofs.InStep.{op_keeps}
use Rattle.hk_dispatch.proofs.RoomSteps.{finds_enough, room_still}
use Rattle.hk_dispatch.proofs.SeatsInStep.{MayBeginIf}
use Rattle.hk_dispatch.proofs.Tracing.{traced_begin, traced_step}

-- an operation that has had so many ticks finds so many words free for its seat, where it looks for them now
pub record FindsRoom (core : State) (seat spent words : ℕ) : Type 0 where
  pub first : spent ≡ 0 → used_in core + words ≤ limit_of core.geometry seat
  pub third : spent ≡ 2 → used_in core + words ≤ core.geometry.alloc

-- no call in flight found too few words
abbrev pub AllRoom : State → Type 0
AllRoom c = (seat : ℕ) → (flight_of c.flights seat).full ≡ false

-- ACTIONS

acts_step : (r : Running) (seat : ℕ) → seat < tasks r.core.geometry → 1 ≤ (flight_of r.core.flights seat).place → (act r (step seat)).core ≡ next r.core seat
unfolding act
acts_step r seat below flying =
    let busy : is_busy r.core seat ≡ true = and_from _ _ (lt-ltb seat (tasks r.core.geometry) below) (ap not (ne_eqb (flight_of r.core.flights seat).place 0 (λ e. omega (arith, e, flying)))) in
    rw busy refl

acts_begin : (r : Running) (seat : ℕ) (c : Call) → may_begin r.core seat c ≡ true → act r (begin seat c) ≡ record r { core = after_begin r.core seat c }
unfolding act
acts_begin r seat c may = rw may refl

stepped : (r : Trace) (seat : ℕ) → seat < tasks r.running.core.geometry → 1 ≤ (flight_of r.running.core.flights seat).place → (trace_act r (step seat)).running.core ≡ next r.running.core seat
stepped r seat below flying = ap (λ (x : Running). x.core) (traced_step r seat) ∙ acts_step r.running seat below flying

-- as many words are free after a begin as before it
as_free : (before used words most limit : ℕ) → used ≡ before + 0 → limit ≡ most → before + words ≤ most → used + words ≤ limit
as_free before used words most limit same at free = omega (arith, same, at, free)

-- AN OPERATION

module _ (r : Trace) (seat : ℕ) (c : Call) (lawful : IsLawfulRun r.running) (below : seat < tasks r.running.core.geometry) (may : MayBegin r.running.core.geometry c)
    (room : (flight_of r.running.core.flights seat).full ≡ false) where
  -- it finds room, where it is a New
  abbrev NewFinds : (spent : ℕ) → Type 0
  NewFinds spent = (dest : ℕ) (shape : Shape) → c ≡ call.New dest shape → FindsRoom r.running.core seat spent (size shape)

  abbrev RoomIn : Trace → Type 0
  RoomIn s = (flight_of s.running.core.flights seat).full ≡ false

  may_now : (flight_of r.running.core.flights seat).place ≡ 0 → may_begin r.running.core seat c ≡ true
  may_now idle = and_from _ _ (and_from _ _ (lt-ltb seat (tasks r.running.core.geometry) below) (eq-eqb (flight_of r.running.core.flights seat).place 0 idle))
      (and_from _ _ (ap not may.question) ((registers_tested r.running.core.geometry.registers c).1 may.registers))

  -- the step after its begin
  begun_room : refusal r.running.core seat c ≡ None → Lawful (after_begin r.running.core seat c) r.running.history → NewFinds 0
      → (flight_of (next (after_begin r.running.core seat c) seat).flights seat).full ≡ false
  unfolding first_flight
  begun_room e lawful_begun finds =
      let core = r.running.core in
      let d = after_begin core seat c in
      let start : flight_of d.flights seat ≡ first_flight core seat c = begins_first core seat (has_flight core seat lawful.sized below) c e in
      let place : (flight_of d.flights seat).place ≡ 1 = ap (λ (x : Flight). x.place) start in
      let seated : (flight_of d.flights seat).seat ≡ seat = ap (λ (x : Flight). x.seat) start in
      let empty : (flight_of d.flights seat).full ≡ false = ap (λ (x : Flight). x.full) start in
      let called : (flight_of d.flights seat).call ≡ c = ap (λ (x : Flight). x.call) start in
      let limit : limit_of d.geometry (flight_of d.flights seat).seat ≡ limit_of core.geometry seat =
      ap (λ k. limit_of d.geometry k) seated ∙ ap (λ (g : Geometry). limit_of g seat) (begin_geometry core seat c) in
      room_still d r.running.history lawful_begun seat (begun_seat core seat c below) (omega (arith, place)) empty
      (λ dest shape is_new. finds_enough d (flight_of d.flights seat) shape
      (λ one. as_free (used_in core) (used_in d) (size shape) _ _ (begins_take_none core seat c).used limit ((finds dest shape (sym called ∙ is_new)).first refl))
      (λ three. absurd (omega (arith, place, three))))

  first : (flight_of r.running.core.flights seat).place ≡ 0 → NewFinds 0 → (o : Option Fault) → refusal r.running.core seat c ≡ o → RoomIn (run_first r seat c o)
  unfolding first_flight
  first idle finds (Some fault) e = room
  first idle finds None e =
      let core = r.running.core in
      let d = after_begin core seat c in
      let b = trace_act r (begin seat c) in
      let begun : act r.running (begin seat c) ≡ record r.running { core = d } = acts_begin r.running seat c (may_now idle) in
      let is : b.running ≡ record r.running { core = d } = traced_begin r seat c ∙ begun in
      let lawful_begun : Lawful d r.running.history = subst IsLawfulRun begun (lawful_act r.running (begin seat c) lawful) in
      let start : flight_of d.flights seat ≡ first_flight core seat c = begins_first core seat (has_flight core seat lawful.sized below) c e in
      let place : (flight_of b.running.core.flights seat).place ≡ 1 = ap (λ (x : Running). (flight_of x.core.flights seat).place) is ∙ ap (λ (x : Flight). x.place) start in
      let inside : seat < tasks b.running.core.geometry = subst (λ (x : Running). seat < tasks x.core.geometry) (sym is) (begun_seat core seat c below) in
      let core_is : (trace_act b (step seat)).running.core ≡ next d seat = stepped b seat inside (omega (arith, place)) ∙ ap (λ (x : Running). next x.core seat) is in
      subst (λ (k : State). (flight_of k.flights seat).full ≡ false) (sym core_is) (begun_room e lawful_begun finds)

  further : (spent : ℕ) → NewFinds (suc spent) → (flight_of r.running.core.flights seat).call ≡ c → (flight_of r.running.core.flights seat).place ≡ suc spent + 1 → RoomIn (run_on r seat c (suc spent))
  further spent finds called at =
      let core = r.running.core in
      subst (λ (k : State). (flight_of k.flights seat).full ≡ false) (sym (stepped r seat below (omega (arith, at))))
      (room_still core r.running.history lawful seat below (omega (arith, at)) room
      (λ dest shape is_new. finds_enough core (flight_of core.flights seat) shape (λ one. absurd (omega (arith, at, one)))
      (λ three. (finds dest shape (sym called ∙ is_new)).third (omega (arith, at, three)))))

  pub op_room : (spent : ℕ) → NewFinds spent → SeatInStep (flight_of r.running.core.flights seat) (Some (need.Heap c)) spent → RoomIn (run_on r seat c spent)
  op_room zero finds (aside idle w) = first idle finds (refusal r.running.core seat c) refl
  op_room zero finds (under_way c' e is at some within) = absurd (omega (arith, some))
  op_room (suc spent) finds (aside idle (inl w)) = absurd (cc)
  op_room (suc spent) finds (aside idle (inr w)) = absurd (omega (arith, w))
  op_room (suc spent) finds (under_way c' e is at some within) =
      let same : c' ≡ c = let k : ◌≡◌ {A = Option Need} (Some (need.Heap c)) (Some (need.Heap c')) = e in cc in
      further spent finds (is ∙ same) at

-- A TICK OF A TASK

module _ (sheet : Sheet) (m : Moment) (t seat : ℕ) (lawful : Lawful (core_of m) (history_of m)) (below : seat < tasks (core_of m).geometry) (may : MayBeginIf sheet m seat)
    (finds : (dest : ℕ) (shape : Shape) → need_at sheet m seat ≡ Some (need.Heap (call.New dest shape)) → FindsRoom (core_of m) seat (course_at m seat).spent (size shape))
    (all : AllRoom (core_of m)) where
  by_need : (wants : Option Need) → need_at sheet m seat ≡ wants → SeatInStep (flight_of (core_of m).flights seat) wants (course_at m seat).spent
      → AllRoom (run_by m.trace seat (course_at m seat).spent wants).running.core
  by_need (Some (need.Work k)) is s other = all other
  by_need (Some need.Local) is s other = all other
  by_need (Some (need.Out value)) is s other = all other
  by_need (Some (need.Ask c)) is s other = all other
  by_need None is s other = all other
  by_need (Some (need.Heap c)) is s other = elim (cases_eq other seat) [
    | inl same ↦ subst (λ k. (flight_of (run_on m.trace seat c (course_at m seat).spent).running.core.flights k).full ≡ false) (sym same)
        (op_room m.trace seat c lawful below (may c is) (all seat) (course_at m seat).spent (λ dest shape new. finds dest shape (is ∙ ap (λ k. Some (need.Heap k)) new)) s)
    | inr differs ↦ ap (λ (x : Flight). x.full) ((op_keeps m.trace seat c lawful.sized below (may c is) (course_at m seat).spent s).others other differs) ∙ all other
  ]

  pub task_room : SeatInStep (flight_of (core_of m).flights seat) (need_at sheet m seat) (course_at m seat).spent → AllRoom (core_of (after_task sheet m t seat))
  unfolding after_task
  task_room s = by_need (need_at sheet m seat) refl s
