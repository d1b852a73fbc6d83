-- The objects of a session are no larger than the largest one of its sheet, since each New of its history is one of a script. And
-- where no script makes an object nothing is ever owed.
use Rattle.std.proofs.Common.{◌≡◌, ℕ, zero, suc, ◌<◌, ◌≤◌, true, ◌++◌, Option, Some, None, refl, sym, ◌∙◌, ap, subst, arith, inl, inr}
use Rattle.std.proofs.lemmas.Bool.{and_from, lt-ltb, eq-eqb}
use Rattle.std.proofs.lemmas.List.{append-nil}
use Rattle.std.proofs.lemmas.List.Elements.{All-push}
use Rattle.std.specs.Prelude.{All, nat_eq, not, ◌&&◌, option_to_list}
use Rattle.hk_words.specs.declared.call.Call.{Call}
use Rattle.hk_words.specs.declared.call.Call.TheVariants as call
use Rattle.hk_words.specs.declared.geometry.Geometry.{Geometry}
use Rattle.hk_words.specs.declared.shape.Shape.{Shape}
use Rattle.hk_words.specs.Geometry.{tasks}
use Rattle.hk_words.specs.Shape.{size}
use Rattle.hk_model.specs.Heap.{opening_of}
use Rattle.hk_model.specs.History.{Entry, History}
use Rattle.hk_model.specs.Lasting.{words_made, MakesAtMost}
use Rattle.hk_model.proofs.Lasting.{objects_small}
use Rattle.hk_core.specs.declared.flight.Flight.{Flight}
use Rattle.hk_core.specs.declared.outcome.Fault.{Fault}
use Rattle.hk_core.specs.State.{State, IsSized, flight_of}
use Rattle.hk_core.specs.Step as table
use Rattle.hk_core.specs.Step.{next, effect_of, found_by, history_after}
use Rattle.hk_core.specs.Begin.{refusal, first_flight, after_begin}
use Rattle.hk_core.specs.Run.{Running, begin, step, act, is_busy, may_begin}
use Rattle.hk_core.specs.View.{names_of}
use Rattle.hk_core.proofs.Places.{begins_first}
use Rattle.hk_core.proofs.Registers.{registers_tested}
use Rattle.hk_core.proofs.Turns.{has_flight}
use Rattle.hk_collect.specs.Pays.{ObjectsWithin}
use Rattle.hk_collect.specs.Used.{Trace, trace_act}
use Rattle.hk_script.specs.declared.walk.Need.{Need}
use Rattle.hk_script.specs.declared.walk.Need.TheVariants as need
use Rattle.hk_script.specs.Runs.{call_words, need_words, taken_by}
use Rattle.hk_dispatch.specs.Ticks.{run_first, run_on, run_by}
use Rattle.hk_dispatch.specs.InStep.{SeatInStep, aside, under_way, MayBegin}
use Rattle.hk_dispatch.proofs.Courses.{by_test}
use Rattle.hk_dispatch.proofs.Tracing.{traced_begin, traced_step}

-- AN ENTRY of a step is one of the call in flight

module _ (g : Geometry) (x : Flight) (old : ℕ) where
  abbrev OfCall : Option Entry → Type 0
  OfCall o = (e : Entry) → o ≡ Some e → e.call ≡ x.call

  none_of_call : OfCall None
  none_of_call e here = absurd (cc)

  some_of_call : (e : Entry) → e.call ≡ x.call → OfCall (Some e)
  some_of_call e same e' here = let is : e ≡ e' = cc in rw (← is) same

  new_entry_call : (shape : Shape) → OfCall (table.new_entry g x shape old)
  unfolding table.new_entry
  new_entry_call shape =
      by_test OfCall (nat_eq x.place 1) _ _ (λ _. by_test OfCall (table.full_to g x.seat shape old) _ _ (λ _. some_of_call _ refl) (λ _. none_of_call)) (λ _.
      by_test OfCall (nat_eq x.place 3) _ _ (λ _. by_test OfCall (not x.full && table.full_to_all g shape old) _ _ (λ _. some_of_call _ refl) (λ _. none_of_call)) (λ _.
      by_test OfCall (nat_eq x.place 6) _ _ (λ _. by_test OfCall x.full _ _ (λ _. none_of_call) (λ _. some_of_call _ refl)) (λ _. none_of_call)))

  effect_call : OfCall (effect_of g x old)
  unfolding table.effect_of table.effect_at table.get_entry table.put_entry table.move_entry table.clear_entry table.load_entry_of table.store_entry
  effect_call = each x.call
    where
      each : (call' : Call) → OfCall (table.effect_at g x old call')
      each (call.Get reg field) = by_test OfCall (nat_eq x.place 2) _ _ (λ _. some_of_call _ refl) (λ _. none_of_call)
      each (call.Put reg field value) = by_test OfCall (nat_eq x.place 2) _ _ (λ _. some_of_call _ refl) (λ _. none_of_call)
      each (call.Load dest reg field) = by_test OfCall (nat_eq x.place 4) _ _ (λ _. some_of_call _ refl) (λ _. none_of_call)
      each (call.Store reg field from) = by_test OfCall (nat_eq x.place 6) _ _ (λ _. some_of_call _ refl) (λ _. none_of_call)
      each (call.Move dest from) = by_test OfCall (nat_eq x.place 2) _ _ (λ _. some_of_call _ refl) (λ _. none_of_call)
      each (call.Clear dest) = by_test OfCall (nat_eq x.place 1) _ _ (λ _. some_of_call _ refl) (λ _. none_of_call)
      each (call.New dest shape) = new_entry_call shape
      each (call.Same a b) = none_of_call
      each (call.IsNull reg) = none_of_call

made_is : (c : Call) → words_made c ≡ call_words c
made_is (call.Get reg field) = refl
made_is (call.Put reg field value) = refl
made_is (call.Load dest reg field) = refl
made_is (call.Store reg field from) = refl
made_is (call.Move dest from) = refl
made_is (call.Clear dest) = refl
made_is (call.New dest shape) = refl
made_is (call.Same a b) = refl
made_is (call.IsNull reg) = refl

-- A BEGIN that may be done

begun_run : (r : Running) (seat : ℕ) (c : Call) → may_begin r.core seat c ≡ true → act r (begin seat c) ≡ record r { core = after_begin r.core seat c }
unfolding act
begun_run r seat c may = rw may refl

may_now : (c : State) (seat : ℕ) (k : Call) → seat < tasks c.geometry → (flight_of c.flights seat).place ≡ 0 → MayBegin c.geometry k → may_begin c seat k ≡ true
may_now c seat k below idle m = and_from _ _ (and_from _ _ (lt-ltb seat (tasks c.geometry) below) (eq-eqb (flight_of c.flights seat).place 0 idle))
    (and_from _ _ (ap not m.question) ((registers_tested c.geometry.registers k).1 m.registers))

-- HISTORIES whose News make objects of at most so many words

module _ (most : ℕ) where
  abbrev pub AreSmall : History → Type 0
  AreSmall h = All (MakesAtMost most) h

  one_more : (h : History) (o : Option Entry) → ((e : Entry) → o ≡ Some e → MakesAtMost most e) → AreSmall h → AreSmall (h ++ option_to_list o)
  one_more h None each small = subst AreSmall (sym (append-nil h)) small
  one_more h (Some e) each small = All-push (MakesAtMost most) h e small (each e refl)

  step_acts : (r : Running) (seat : ℕ) → words_made (flight_of r.core.flights seat).call ≤ most → AreSmall r.history → AreSmall (act r (step seat)).history
  unfolding act history_after
  step_acts r seat few small =
      let x = flight_of r.core.flights seat in
      let found = found_by r.core seat in
      by_test (λ (s : Running). AreSmall s.history) (is_busy r.core seat) (record { core = next r.core seat; history = history_after r.core seat r.history }) r
      (λ busy. one_more r.history (effect_of r.core.geometry x found)
      (λ e here. subst (λ (c : Call). words_made c ≤ most) (sym (effect_call r.core.geometry x found e here)) few) small)
      (λ idle. small)

  begin_acts : (r : Running) (seat : ℕ) (c : Call) → (act r (begin seat c)).history ≡ r.history
  unfolding act
  begin_acts r seat c = by_test (λ (s : Running). s.history ≡ r.history) (may_begin r.core seat c) (record r { core = after_begin r.core seat c }) r (λ may. refl) (λ not'. refl)

  stepped_small : (r : Trace) (seat : ℕ) → words_made (flight_of r.running.core.flights seat).call ≤ most → AreSmall r.running.history → AreSmall (trace_act r (step seat)).running.history
  stepped_small r seat few small = subst (λ (x : Running). AreSmall x.history) (sym (traced_step r seat)) (step_acts r.running seat few small)

  module _ (r : Trace) (seat : ℕ) (c : Call) (sized : IsSized r.running.core) (below : seat < tasks r.running.core.geometry) (may : MayBegin r.running.core.geometry c)
      (few : words_made c ≤ most) (small : AreSmall r.running.history) where
    first_small : (flight_of r.running.core.flights seat).place ≡ 0 → (o : Option Fault) → refusal r.running.core seat c ≡ o → AreSmall (run_first r seat c o).running.history
    unfolding first_flight
    first_small idle (Some fault) e = small
    first_small idle None e =
        let b = trace_act r (begin seat c) in
        let core = r.running.core in
        let is = traced_begin r seat c ∙ begun_run r.running seat c (may_now core seat c below idle may) in
        let start : flight_of (after_begin core seat c).flights seat ≡ first_flight core seat c = begins_first core seat (has_flight core seat sized below) c e in
        let its : (flight_of b.running.core.flights seat).call ≡ c = ap (λ (x : Running). (flight_of x.core.flights seat).call) is ∙ ap (λ (f : Flight). f.call) start in
        stepped_small b seat (subst (λ (k : Call). words_made k ≤ most) (sym its) few)
        (subst AreSmall (sym (ap (λ (x : Running). x.history) (traced_begin r seat c) ∙ begin_acts r.running seat c)) small)

    on_small : (spent : ℕ) → SeatInStep (flight_of r.running.core.flights seat) (Some (need.Heap c)) spent → AreSmall (run_on r seat c spent).running.history
    on_small zero (aside idle w) = first_small idle (refusal r.running.core seat c) refl
    on_small zero (under_way c' e is at some within) = absurd (omega (arith, some))
    on_small (suc spent) (aside idle (inl w)) = absurd (cc)
    on_small (suc spent) (aside idle (inr w)) = absurd (omega (arith, w))
    on_small (suc spent) (under_way c' e is at some within) =
        let same : c' ≡ c = let k : ◌≡◌ {A = Option Need} (Some (need.Heap c)) (Some (need.Heap c')) = e in cc in
        stepped_small r seat (subst (λ (k : Call). words_made k ≤ most) (sym (is ∙ same)) few) small

  -- a tick of a job that wants no more words than that
  module _ (r : Trace) (seat : ℕ) (sized : IsSized r.running.core) (below : seat < tasks r.running.core.geometry) (small : AreSmall r.running.history) where
    pub run_small : (spent : ℕ) (wants : Option Need) → ((c : Call) → wants ≡ Some (need.Heap c) → MayBegin r.running.core.geometry c) → taken_by need_words wants ≤ most
        → SeatInStep (flight_of r.running.core.flights seat) wants spent → AreSmall (run_by r seat spent wants).running.history
    run_small spent (Some (need.Heap c)) may few s = on_small r seat c sized below (may c refl) (subst (λ n. n ≤ most) (sym (made_is c)) few) small spent s
    run_small spent (Some (need.Work n)) may few s = small
    run_small spent (Some need.Local) may few s = small
    run_small spent (Some (need.Out value)) may few s = small
    run_small spent (Some (need.Ask c)) may few s = small
    run_small spent None may few s = small

-- so its objects have at most so many words, where the board has
pub objects_within : (g : Geometry) (history : History) (most : ℕ) → size g.board ≤ most → AreSmall most history → ObjectsWithin g history most
unfolding names_of opening_of
objects_within g history most board small b = objects_small (tasks g) g.registers g.board history most board small b
