-- A step of an operation on the heap beside the tick of the same operation on the heap that never collects: what becomes of the
-- plain heap, how the job is left, and what the operation has answered once it had its effect.
use Rattle.std.proofs.Common.{◌≡◌, ◌≢◌, ℕ, ◌+◌, ◌<◌, ◌≤◌, true, false, [], ◌∷◌, ◌++◌, length, inl, inr, refl, sym, ◌∙◌, ap, subst, arith, Option, None}
use Rattle.std.proofs.lemmas.Bool.{cases_eq, eq-eqb, ne_eqb}
use Rattle.std.proofs.lemmas.List.{append-nil}
use Rattle.std.specs.Prelude.{option_to_list}
use Rattle.hk_words.specs.declared.geometry.Geometry.{Geometry}
use Rattle.hk_words.specs.declared.call.Call.{Call}
use Rattle.hk_words.specs.declared.call.Reply.{Reply}
use Rattle.hk_words.specs.Bounds.{places_of}
use Rattle.hk_words.specs.Geometry.{tasks}
use Rattle.hk_model.specs.Heap.{Heap, opening_of}
use Rattle.hk_model.specs.History.{Entry, History, Legal, after}
use Rattle.hk_model.specs.Replies.{reply_of, heap_after}
use Rattle.hk_core.specs.declared.flight.Flight.{Flight}
use Rattle.hk_core.specs.declared.outcome.Outcome.{Outcome}
use Rattle.hk_core.specs.declared.outcome.Outcome.TheVariants as outcome
use Rattle.hk_core.specs.declared.outcome.Step.{Step}
use Rattle.hk_core.specs.declared.outcome.Step.TheVariants.{Ended}
use Rattle.hk_core.specs.State.{State, flight_of}
use Rattle.hk_core.specs.Step.{outcome_at, effect_of, found_by, answer_by, next, history_after}
use Rattle.hk_core.specs.View.{flight_at}
use Rattle.hk_core.specs.Lawful.{Lawful}
use Rattle.hk_core.specs.Replied.{outcome_of}
use Rattle.hk_core.proofs.Places.{flight_stepped, goes_on, ends}
use Rattle.hk_core.proofs.Replied.{is_done, Says, StepKind, EndKind, quiet, acts, past, over, at_once, step_kind, end_kind}
use Rattle.hk_core.proofs.Seven.{seat_steps}
use Rattle.hk_core.proofs.Shared.{refuted}
use Rattle.hk_core.proofs.Turns.{has_flight, step_geometry}
use Rattle.hk_dispatch.specs.declared.operation.Left.{Left}
use Rattle.hk_dispatch.specs.declared.operation.Left.TheVariants as left
use Rattle.hk_dispatch.specs.Ticks.{left_in}
use Rattle.hk_dispatch.specs.Replay as replay
use Rattle.hk_dispatch.specs.Replay.{Part, effect_place, answer_on, heap_on}
use Rattle.hk_dispatch.proofs.ReplayEffects.{effect_within, late, early, some_reply, reply_is, heap_is}

-- THE TICK OF THE REPLAY at the effect place and elsewhere, at the last place and before it
module _ (h : Heap) (seat : ℕ) (c : Call) (p : Part) where
  heap_here : p.spent + 1 ≡ effect_place c → heap_on h seat c p ≡ heap_after h seat c
  heap_here e = rw (eq-eqb (p.spent + 1) (effect_place c) e) refl

  heap_elsewhere : p.spent + 1 ≢ effect_place c → heap_on h seat c p ≡ h
  heap_elsewhere e = rw (ne_eqb (p.spent + 1) (effect_place c) e) refl

  answer_here : p.spent + 1 ≡ effect_place c → answer_on h seat c p ≡ reply_of h seat c
  answer_here e = rw (eq-eqb (p.spent + 1) (effect_place c) e) refl

  answer_elsewhere : p.spent + 1 ≢ effect_place c → answer_on h seat c p ≡ p.answer
  answer_elsewhere e = rw (ne_eqb (p.spent + 1) (effect_place c) e) refl

  passes_last : p.spent + 1 ≡ places_of c → replay.goes_on h seat c p ≡ left.Passes (answer_on h seat c p)
  passes_last e = rw (eq-eqb (p.spent + 1) (places_of c) e) refl

  stays_before : p.spent + 1 ≢ places_of c → replay.goes_on h seat c p ≡ left.Stays
  stays_before e = rw (ne_eqb (p.spent + 1) (places_of c) e) refl

-- THE STEP

-- beside the replay's tick: the plain heap, how the job is left, and what the call has answered once it had its effect
pub record OpReplays (h k : Heap) (seat : ℕ) (c : Call) (p : Part) (l : Left) (y : Flight) : Type 0 where
  pub heap : k ≡ heap_on h seat c p
  pub leaves : l ≡ replay.goes_on h seat c p
  pub answer : 1 ≤ y.place → is_done y ≡ true → outcome_at y y.call ≡ outcome.Done (answer_on h seat c p)

module _ (start : Heap) (history : History) (o : Option Entry) (legal : Legal start (history ++ option_to_list o)) (x : Flight) (seat : ℕ) (c : Call) (p : Part)
    (seated : x.seat ≡ seat) (is : x.call ≡ c) (room : x.full ≡ false) (at : x.place ≡ p.spent + 1)
    (before : is_done x ≡ true → outcome_at x x.call ≡ outcome.Done p.answer) where
  abbrev h : Heap
  h = after start history

  abbrev k : Heap
  k = after start (history ++ option_to_list o)

  -- at the effect place, and at another
  pub record Acts (out : Outcome) : Type 0 where
    pub heap : k ≡ heap_on h seat c p
    pub answer : out ≡ outcome.Done (answer_on h seat c p)

  acting : (out : Outcome) (r : Reply) → p.spent + 1 ≡ effect_place c → out ≡ outcome.Done r → Says x o out → Acts out
  acting out r here done says =
      let e = says.entry in
      let own : Legal start (history ++ e ∷ []) = subst (λ (a : Option Entry). Legal start (history ++ option_to_list a)) says.is legal in
      let same : outcome_of e ≡ outcome.Done r = says.says ∙ done in
      record {
        heap = ap (λ (a : Option Entry). after start (history ++ option_to_list a)) says.is ∙ heap_is start history e r own same
            ∙ ap (λ s. heap_after h s e.call) (says.seat ∙ seated) ∙ ap (λ (d : Call). heap_after h seat d) (says.call ∙ is)
            ∙ sym (heap_here h seat c p here);
        answer = done ∙ ap (λ (a : Reply). outcome.Done a) (reply_is start history e r own same ∙ ap (λ s. reply_of h s e.call) (says.seat ∙ seated)
            ∙ ap (λ (d : Call). reply_of h seat d) (says.call ∙ is) ∙ sym (answer_here h seat c p here));
      }

  resting : p.spent + 1 ≢ effect_place c → o ≡ None → k ≡ heap_on h seat c p
  resting elsewhere none = ap (λ (a : Option Entry). after start (history ++ option_to_list a)) none ∙ ap (after start) (append-nil history)
      ∙ sym (heap_elsewhere h seat c p elsewhere)

  kept : p.spent + 1 ≢ effect_place c → is_done x ≡ true → outcome_at x x.call ≡ outcome.Done (answer_on h seat c p)
  kept elsewhere done = before done ∙ ap (λ (a : Reply). outcome.Done a) (sym (answer_elsewhere h seat c p elsewhere))

  -- a step before the last place
  pub step_goes : (y : Flight) → y.call ≡ x.call → y.place ≡ x.place + 1 → y.full ≡ false → p.spent + 1 < places_of c → StepKind x y o → OpReplays h k seat c p left.Stays y
  step_goes y same further room' few kind = by_kind kind
    where
      stays : left.Stays ≡ replay.goes_on h seat c p
      stays = sym (stays_before h seat c p (λ e. omega (arith, e, few)))

      by_kind : StepKind x y o → OpReplays h k seat c p left.Stays y
      by_kind (quiet a b none) =
          let e = early y c (same ∙ is) room' (omega (arith, further, at, few)) b in
          record { heap = resting (λ here. omega (arith, here, e, further, at)) none; leaves = stays; answer = λ flying done. refuted _ b done }
      by_kind (acts a b says) =
          let e = early x c is room (omega (arith, at, few)) a in
          let l = late y c (same ∙ is) room' b in
          let r = some_reply y room' y.call in
          let w = acting (outcome_at y y.call) r.0 (omega (arith, e, l, further, at)) r.1 says in
          record { heap = w.heap; leaves = stays; answer = λ flying done. w.answer }
      by_kind (past a b none out) =
          let l = late x c is room a in
          let elsewhere : p.spent + 1 ≢ effect_place c = λ here. omega (arith, here, l, at) in
          record { heap = resting elsewhere none; leaves = stays; answer = λ flying done. out ∙ kept elsewhere a }

  -- the step at the last place
  pub step_ends : (y : Flight) → y.place ≡ 0 → p.spent + 1 ≡ places_of c → EndKind x o → OpReplays h k seat c p (left_in (Ended (outcome_at x x.call))) y
  step_ends y idle last kind = by_kind kind
    where
      with_answer : outcome_at x x.call ≡ outcome.Done (answer_on h seat c p) → left_in (Ended (outcome_at x x.call)) ≡ replay.goes_on h seat c p
      with_answer out = ap (λ (a : Outcome). left_in (Ended a)) out ∙ sym (passes_last h seat c p last)

      by_kind : EndKind x o → OpReplays h k seat c p (left_in (Ended (outcome_at x x.call))) y
      by_kind (over a none) =
          let l = late x c is room a in
          let elsewhere : p.spent + 1 ≢ effect_place c = λ here. omega (arith, here, l, at) in
          record { heap = resting elsewhere none; leaves = with_answer (kept elsewhere a); answer = λ flying done. absurd (omega (arith, flying, idle)) }
      by_kind (at_once a says) =
          let e = early x c is room (omega (arith, at, last)) a in
          let r = some_reply x room x.call in
          let w = acting (outcome_at x x.call) r.0 (omega (arith, e, at, last, effect_within c)) r.1 says in
          record { heap = w.heap; leaves = with_answer w.answer; answer = λ flying done. absurd (omega (arith, flying, idle)) }

-- THE MACHINE

module _ (g : Geometry) (d : State) (history : History) (geometry : d.geometry ≡ g) (lawful : Lawful d history) (seat : ℕ) (below : seat < tasks d.geometry) (c : Call) (p : Part)
    (is : (flight_of d.flights seat).call ≡ c) (at : (flight_of d.flights seat).place ≡ p.spent + 1) (within : p.spent + 1 ≤ places_of c)
    (room : (flight_of d.flights seat).full ≡ false) (room_after : (flight_of (next d seat).flights seat).full ≡ false)
    (before : is_done (flight_of d.flights seat) ≡ true → outcome_at (flight_of d.flights seat) (flight_of d.flights seat).call ≡ outcome.Done p.answer) where
  abbrev x : Flight
  x = flight_of d.flights seat

  abbrev y : Flight
  y = flight_of (next d seat).flights seat

  abbrev o : Option Entry
  o = effect_of d.geometry x (found_by d seat)

  seated : x.seat ≡ seat
  unfolding flight_at
  seated = (lawful.facts.flights_formed seat below).seated

  there : seat < length d.flights
  there = has_flight d seat lawful.sized below

  legal : Legal (opening_of g) (history ++ option_to_list o)
  unfolding history_after flight_at
  legal =
      let flying : 1 ≤ (flight_of d.flights seat).place = omega (arith, at) in
      subst (λ (a : Geometry). Legal (opening_of a) (history_after d seat history)) (step_geometry d seat ∙ geometry) (seat_steps d history seat below lawful flying).lawful.legal

  pub step_replays : OpReplays (after (opening_of g) history) (after (opening_of g) (history_after d seat history)) seat c p (left_in (answer_by d seat)) y
  unfolding history_after
  step_replays = elim (cases_eq (p.spent + 1) (places_of c)) [
    | inl last ↦
        let e = ends d seat there (omega (arith, at)) (at ∙ last ∙ sym (ap places_of is)) in
        subst (λ (l : Left). OpReplays (after (opening_of g) history) (after (opening_of g) (history ++ option_to_list o)) seat c p l y) (sym (ap (λ (a : Step). left_in a) e.answers))
        (step_ends (opening_of g) history o legal x seat c p seated is room at before y e.place last (end_kind d.geometry x (found_by d seat) (omega (arith, at)) (at ∙ last ∙ sym (ap places_of is))))
    | inr more ↦
        let few : x.place < places_of x.call = omega (arith, at, ap places_of is, within, more) in
        let e = goes_on d seat there (omega (arith, at)) few in
        let kind : StepKind x y o = subst (λ (v : Flight). StepKind x v o) (sym (flight_stepped d seat there)) (step_kind d.geometry x (found_by d seat) (λ first. room) (omega (arith, at)) few) in
        subst (λ (l : Left). OpReplays (after (opening_of g) history) (after (opening_of g) (history ++ option_to_list o)) seat c p l y) (sym (ap (λ (a : Step). left_in a) e.answers))
        (step_goes (opening_of g) history o legal x seat c p seated is room at before y e.call e.place room_after (omega (arith, within, more)) kind)
  ]
