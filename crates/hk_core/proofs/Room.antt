-- What the steps of a New do about room, and when a step answers that there was none.
use Rattle.std.proofs.Common.{◌≡◌, ℕ, ◌<◌, ◌≤◌, Bool, true, false, [], ◌∷◌, ◌++◌, length, inl, inr, refl, sym, ◌∙◌, ap, arith, Option, Some, None}
use Rattle.std.proofs.lemmas.Bool.{cases_Bool, cases_eq, and_parts, not-true, eqb-true}
use Rattle.std.specs.Prelude.{nat_eq, not, ◌&&◌, ◌||◌, ◌↔◌, option_to_list, if◌then◌else◌}
use Rattle.hk_words.specs.declared.call.Call.{Call}
use Rattle.hk_words.specs.declared.call.Call.TheVariants as call
use Rattle.hk_words.specs.declared.call.Reply.TheVariants as reply
use Rattle.hk_words.specs.declared.shape.Shape.{Shape}
use Rattle.hk_words.specs.Geometry.{tasks}
use Rattle.hk_words.specs.Layout as layout
use Rattle.hk_words.specs.Row.{word_of}
use Rattle.hk_words.specs.Row.Slot.{W0}
use Rattle.hk_model.specs.Heap.{opening_of}
use Rattle.hk_model.specs.History.{Entry, History, after, is_refused}
use Rattle.hk_model.proofs.Histories.{after-push, after_entry-refused}
use Rattle.hk_model.proofs.Updates.{upd_same}
use Rattle.hk_core.specs.declared.event.Event.{Event}
use Rattle.hk_core.specs.declared.flight.Flight.{Flight}
use Rattle.hk_core.specs.declared.outcome.Step.TheVariants.{Going, Ended}
use Rattle.hk_core.specs.declared.outcome.Outcome.TheVariants.{Done, Full}
use Rattle.hk_core.specs.State.{State}
use Rattle.hk_words.specs.Bounds.{places_of}
use Rattle.hk_core.specs.Step.{full_to, full_to_all, outcome_at, step_of, took_of, effect_of, found_by, next, history_after}
use Rattle.hk_core.specs.View.{Words, flight_at}
use Rattle.hk_core.specs.Flights as f
use Rattle.hk_core.specs.Lawful.{Lawful}
use Rattle.hk_core.specs.Refused.{finds_too_few, refused_entry, TellsRoom, EndsFull}
use Rattle.hk_core.proofs.Next.{DoesPlace, flight_at-next, found_at_place, history_at_place}
use Rattle.hk_core.proofs.kinds.NewLoads.{new_on}
use Rattle.hk_core.proofs.kinds.NewHistory.{made}
use Rattle.hk_core.proofs.kinds.NewTables.{refused_if}
use Rattle.hk_core.proofs.kinds.NewSteps.{NewDoes, new_does_1, new_does_2, new_does_3, new_does_4, new_does_5, new_does_6, new_does_7}
use Rattle.hk_core.proofs.kinds.NewSteps.{new_rest_does_2, new_rest_does_3, new_rest_does_4, new_rest_does_5, new_rest_does_6, new_rest_does_7}
use Rattle.hk_core.proofs.Shared.{refuted}
use Rattle.std.proofs.lemmas.List.{append-nil}

-- the entry of a place that finds too few words, and of one that finds room
refused_where_full : (full : Bool) (seat s dest : ℕ) (shape : Shape) (word : ℕ) → full ≡ true → seat ≡ s
    → refused_if seat dest shape full word ≡ Some (refused_entry s dest shape (layout.w0_words word))
refused_where_full full seat s dest shape word e same = rw (e, same) refl

added_elsewhere : (full : Bool) (seat dest : ℕ) (shape : Shape) (word : ℕ) (added : Entry) → full ≡ false → refused_if seat dest shape full word ≡ Some added → is_refused added ≡ false
added_elsewhere full seat dest shape word added e here = let none : None ≡ Some added = rw e at here in absurd (cc)

none_added : (added : Entry) → None ≡ Some added → is_refused added ≡ false
none_added added e = absurd (cc)

birth_added : (s dest : ℕ) (shape : Shape) (n : ℕ) (added : Entry) → Some (made s dest shape n) ≡ Some added → is_refused added ≡ false
birth_added s dest shape n added e = let same : made s dest shape n ≡ added = cc in rw (← same) refl

-- what a place of a New does about room: its test, the flight and the entry
record PlaceTells (x y : Flight) (few : Bool) (o : Option Entry) (w0 s dest : ℕ) (shape : Shape) : Type 0 where
  full : x.place < 7 → y.full ≡ (x.full || few)
  found : few ≡ true → y.word ≡ w0
  kept : x.full ≡ true → x.place < 7 → y.word ≡ x.word
  entry : few ≡ true → o ≡ Some (refused_entry s dest shape (layout.w0_words w0))
  silent : x.full ≡ true → o ≡ None
  nowhere_else : few ≡ false → (added : Entry) → o ≡ Some added → is_refused added ≡ false

module _ (c : State) (history : History) (h : Lawful c history) (s dest : ℕ) (shape : Shape) (below : s < tasks c.geometry) (is_new : (flight_at c s).call ≡ call.New dest shape) where
  abbrev w0 : ℕ
  w0 = word_of c.geometry c.row W0

  abbrev Tells : Flight → Bool → Option Entry → Type 0
  Tells y few o = PlaceTells (flight_at c s) y few o w0 s dest shape

  tells : (e : Option Event) (y : Flight) (o : Option Entry) (w : Words) (range : ℕ → Option ℕ) (few : Bool) → finds_too_few c (flight_at c s) shape ≡ few
      → NewDoes c history s e y o w range → Tells y few o → TellsRoom c history s dest shape
  unfolding flight_at
  tells e y o w range few is does t =
      let flights : s < length c.flights = let sized = h.sized.flights in omega arith in
      let place : DoesPlace c s e y o = record { event = does.event; flight = does.flight; entry = does.entry } in
      let found = found_at_place c s e y o place in
      let after_it : flight_at (next c s) s ≡ y = ap (λ (flight : ℕ → Flight). flight s) (flight_at-next c s flights) ∙ upd_same (flight_at c) s _ ∙ ap (took_of c.geometry (flight_at c s)) found ∙ does.flight in
      let longer : history_after c s history ≡ history ++ option_to_list o = history_at_place c history s e y o place in
      let adds : effect_of c.geometry (flight_at c s) (found_by c s) ≡ o = ap (effect_of c.geometry (flight_at c s)) found ∙ does.entry in
      let entry : finds_too_few c (flight_at c s) shape ≡ true → history_after c s history ≡ history ++ refused_entry s dest shape (layout.w0_words w0) ∷ [] = λ short.
      longer ∙ ap (λ (k : Option Entry). history ++ option_to_list k) (t.entry (sym is ∙ short)) in
      record {
        full = λ early. ap (λ (v : Flight). v.full) after_it ∙ t.full early ∙ ap (λ (b : Bool). (flight_at c s).full || b) (sym is);
        found = λ short. ap (λ (v : Flight). v.word) after_it ∙ t.found (sym is ∙ short);
        kept = λ full early. ap (λ (v : Flight). v.word) after_it ∙ t.kept full early;
        entry = entry;
        plain = λ short. ap (after (opening_of c.geometry)) (entry short)
            ∙ after-push (opening_of c.geometry) history (refused_entry s dest shape (layout.w0_words w0))
            ∙ after_entry-refused (after (opening_of c.geometry) history) (refused_entry s dest shape (layout.w0_words w0)) refl;
        silent = λ full. longer ∙ ap (λ (k : Option Entry). history ++ option_to_list k) (t.silent full) ∙ append-nil history;
        nowhere_else = λ enough added here. t.nowhere_else (sym is ∙ enough) added (sym adds ∙ here);
      }

  -- a rest of a New that is full, which goes on
  rests_so : (q m : ℕ) → (flight_at c s).full ≡ true → Tells (new_on (flight_at c s) q m) false None
  rests_so q m full = record {
    full = λ early. rw full refl;
    found = λ short. absurd (cc);
    kept = λ e early. refl;
    entry = λ short. absurd (cc);
    silent = λ e. refl;
    nowhere_else = λ e. none_added;
  }

  -- a place of a New that has found room so far, which goes on
  goes_so : (y : Flight) (o : Option Entry) → (flight_at c s).full ≡ false → y.full ≡ (flight_at c s).full → ((added : Entry) → o ≡ Some added → is_refused added ≡ false) → Tells y false o
  goes_so y o room same added = record {
    full = λ early. same ∙ rw room refl;
    found = λ short. absurd (cc);
    kept = λ full. refuted _ room full;
    entry = λ short. absurd (cc);
    silent = λ full. refuted _ room full;
    nowhere_else = λ e. added;
  }

  -- the last place
  ends_so : (y : Flight) → (flight_at c s).place ≡ 7 → Tells y false None
  ends_so y at = record {
    full = λ early. absurd (omega arith);
    found = λ short. absurd (cc);
    kept = λ full early. absurd (omega arith);
    entry = λ short. absurd (cc);
    silent = λ e. refl;
    nowhere_else = λ e. none_added;
  }

  -- a place that looks at W0
  looks_so : (y : Flight) (few : Bool) → (flight_at c s).full ≡ false → y.full ≡ few → y.word ≡ w0 → Tells y few (refused_if (flight_at c s).seat dest shape few w0)
  looks_so y few room full word =
      let seated : (flight_at c s).seat ≡ s = (h.facts.flights_formed s below).seated in
      record {
        full = λ early. rw room full;
        found = λ short. word;
        kept = λ e. refuted _ room e;
        entry = λ short. refused_where_full few (flight_at c s).seat s dest shape w0 short seated;
        silent = λ e. refuted _ room e;
        nowhere_else = λ enough added here. added_elsewhere few (flight_at c s).seat dest shape w0 added enough here;
      }

  pub new_tells : 1 ≤ (flight_at c s).place → TellsRoom c history s dest shape
  new_tells some =
      let x = flight_at c s in
      let g = c.geometry in
      let within : x.place ≤ 7 = rw is_new at ((h.facts.flights_formed s below).in_row) in
      let step : f.IsNewInStep x.place x.full x.raised = rw is_new at (h.facts.news_in_step s below) in
      elim (cases_eq x.place 1) [
        | inl at ↦
            let room : x.full ≡ false = step.not_full_yet (omega arith) in
            tells _ _ _ _ _ (full_to g x.seat shape w0) (rw at refl) (new_does_1 c history h s dest shape below is_new at) (looks_so _ (full_to g x.seat shape w0) room refl refl)
        | inr d1 ↦ elim (cases_eq x.place 2) [
          | inl at ↦ elim (cases_Bool x.full) [
            | inl full ↦ tells _ _ _ _ _ false (rw at refl) (new_rest_does_2 c history h s dest shape below is_new at full) (rests_so 3 x.number full)
            | inr room ↦ tells _ _ _ _ _ false (rw at refl) (new_does_2 c history h s dest shape below is_new at room) (goes_so _ None room refl none_added)
          ]
          | inr d2 ↦ elim (cases_eq x.place 3) [
            | inl at ↦ elim (cases_Bool x.full) [
              | inl full ↦ tells _ _ _ _ _ false (rw (at, full) refl) (new_rest_does_3 c history h s dest shape below is_new at full) (rests_so 4 x.number full)
              | inr room ↦ tells _ _ _ _ _ (full_to_all g shape w0) (rw (at, room) refl) (new_does_3 c history h s dest shape below is_new at room) (looks_so _ (full_to_all g shape w0) room refl refl)
            ]
            | inr d3 ↦ elim (cases_eq x.place 4) [
              | inl at ↦ elim (cases_Bool x.full) [
                | inl full ↦ tells _ _ _ _ _ false (rw at refl) (new_rest_does_4 c history h s dest shape below is_new at full) (rests_so 5 _ full)
                | inr room ↦ tells _ _ _ _ _ false (rw at refl) (new_does_4 c history h s dest shape below is_new at room) (goes_so _ None room refl none_added)
              ]
              | inr d4 ↦ elim (cases_eq x.place 5) [
                | inl at ↦ elim (cases_Bool x.full) [
                  | inl full ↦ tells _ _ _ _ _ false (rw at refl) (new_rest_does_5 c history h s dest shape below is_new at full) (rests_so 6 x.number full)
                  | inr room ↦ tells _ _ _ _ _ false (rw at refl) (new_does_5 c history h s dest shape below is_new at room) (goes_so _ None room refl none_added)
                ]
                | inr d5 ↦ elim (cases_eq x.place 6) [
                  | inl at ↦ elim (cases_Bool x.full) [
                    | inl full ↦ tells _ _ _ _ _ false (rw at refl) (new_rest_does_6 c history h s dest shape below is_new at full) (rests_so 7 x.number full)
                    | inr room ↦ tells _ _ _ _ _ false (rw at refl) (new_does_6 c history h s dest shape below is_new at room) (goes_so _ _ room refl (birth_added s dest shape x.number))
                  ]
                  | inr d6 ↦
                      let at : x.place ≡ 7 = omega arith in
                      elim (cases_Bool (x.full && not x.raised)) [
                        | inl idle' ↦
                            let p = and_parts x.full (not x.raised) idle' in
                            tells _ _ _ _ _ false (rw at refl) (new_rest_does_7 c history h s dest shape below is_new at p.0 (not-true x.raised p.1)) (ends_so _ at)
                        | inr busy ↦ tells _ _ _ _ _ false (rw at refl) (new_does_7 c history h s dest shape below is_new at busy) (ends_so _ at)
                      ]
                ]
              ]
            ]
          ]
        ]
      ]

-- ANSWERS

full_answer : (full : Bool) (word words : ℕ) → (if full then Full (layout.w0_words word) else Done reply.Unit) ≡ Full words → (full ≡ true) × (words ≡ layout.w0_words word)
full_answer true word words e = (refl, let same : words ≡ layout.w0_words word = cc in same)
full_answer false word words e = absurd (cc)

module _ (x : Flight) (words : ℕ) where
  -- only a New's outcome is that there was no room
  by_call : (call' : Call) → x.call ≡ call' → x.place ≡ places_of call' → outcome_at x call' ≡ Full words → EndsFull x words
  by_call (call.Get reg field) e at o = absurd (cc)
  by_call (call.Put reg field value) e at o = absurd (cc)
  by_call (call.Load dest reg field) e at o = absurd (cc)
  by_call (call.Store reg field from) e at o = absurd (cc)
  by_call (call.Move dest from) e at o = absurd (cc)
  by_call (call.Clear dest) e at o = absurd (cc)
  by_call (call.New dest shape) e at o = let p = full_answer x.full x.word words o in record { dest = dest; shape = shape; is_new = e; last = at; full = p.0; found = p.1 }
  by_call (call.Same a b) e at o = absurd (cc)
  by_call (call.IsNull reg) e at o = absurd (cc)

  pub answers_full : (step_of x ≡ Ended (Full words)) ↔ EndsFull x words
  unfolding step_of
  answers_full = (to, from)
    where
      to : (if nat_eq x.place (places_of x.call) then Ended (outcome_at x x.call) else Going) ≡ Ended (Full words) → EndsFull x words
      to e = elim (cases_Bool (nat_eq x.place (places_of x.call))) [
        | inl at ↦
            let o : Ended (outcome_at x x.call) ≡ Ended (Full words) = rw at at e in
            by_call x.call refl (eqb-true x.place (places_of x.call) at) (let same : outcome_at x x.call ≡ Full words = cc in same)
        | inr going ↦ let o : Going ≡ Ended (Full words) = rw going at e in absurd (cc)
      ]

      from : EndsFull x words → (if nat_eq x.place (places_of x.call) then Ended (outcome_at x x.call) else Going) ≡ Ended (Full words)
      from o = let last = o.last in let found = o.found in rw (o.is_new, last, o.full, found) refl
