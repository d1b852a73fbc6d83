-- What is in use after the birth of an object: the new birth is in use, and it is young where its New raised W0 in the present
-- cycle.
use Rattle.std.proofs.Common.{◌≡◌, ◌≢◌, ℕ, ◌+◌, ◌%◌, ◌<◌, ◌≤◌, Bool, true, false, [], ◌∷◌, ◌++◌, inl, inr, refl, sym, ◌∙◌, ap, arith, List, Option, Some}
use Rattle.std.proofs.lemmas.Bool.{cases_eq, eqb-true, ne_eqb, and_parts, and_right, not-true}
use Rattle.std.proofs.lemmas.Bool.Decides.{nat_tests}
use Rattle.std.specs.Prelude.{nat_eq, nat_le, not, ◌&&◌, Contains, if◌then◌else◌}
use Rattle.hk_words.specs.declared.call.Call.{Call}
use Rattle.hk_words.specs.declared.call.Call.TheVariants as call
use Rattle.hk_words.specs.declared.shape.Shape.{Shape}
use Rattle.hk_words.specs.Geometry.{tasks, numbers}
use Rattle.hk_words.specs.Calls.{RegistersFit}
use Rattle.hk_words.specs.Layout as layout
use Rattle.hk_words.specs.Row.{place_at}
use Rattle.hk_words.specs.Shape.{size}
use Rattle.hk_model.specs.Heap.{born, opening_of}
use Rattle.hk_model.specs.History.{History, after, after_entry}
use Rattle.hk_model.proofs.Histories.{after-push, born-heap_after_new}
use Rattle.hk_model.specs.View.{upd}
use Rattle.hk_core.specs.declared.event.Event.{Event}
use Rattle.hk_core.specs.declared.flight.Flight.{Flight}
use Rattle.hk_core.specs.State.{State, flight_of}
use Rattle.hk_core.specs.Event.{fired_if}
use Rattle.hk_core.specs.Step.{event_by, history_after, new_place, new_reference}
use Rattle.hk_core.specs.View.{Words, words_of, names_of, flight_at}
use Rattle.hk_core.specs.Flights as f
use Rattle.hk_core.specs.Lines as l
use Rattle.hk_core.specs.Colours.{spaces_of, shades_of, held_by, IsGood}
use Rattle.hk_core.specs.Lawful.{Lawful}
use Rattle.hk_core.proofs.Next.{history_at_place}
use Rattle.hk_core.proofs.kinds.LoadRead.{names_number}
use Rattle.hk_core.proofs.kinds.NewHeader.{holder_holds}
use Rattle.hk_core.proofs.kinds.NewHistory.{made, is_next, names-born}
use Rattle.hk_core.proofs.kinds.NewSteps.{new_does_6}
use Rattle.hk_core.proofs.kinds.Seats.{kept_means}
use Rattle.hk_core.proofs.kinds.WriteRegister.{writing_words}
use Rattle.hk_collect.specs.Used.{YoungBorn, next_birth, gives_young, stands_claimed}
use Rattle.hk_collect.proofs.UsedCalls.{not_claimed}
use Rattle.hk_collect.proofs.UsedFacts.{claimed_of, MarksUsed, SpotUsed, marks_same, marks_born, marks_born_young, spot_born, spot_register, word_new}

-- a New that has written its header, and found room
pub record IsAboutToBear (x : Flight) : Type 0 where
  pub dest : ℕ
  pub shape : Shape
  pub is_new : x.call ≡ call.New dest shape
  pub at : x.place ≡ 6
  pub room : x.full ≡ false

pub about_to_bear : (x : Flight) → f.has_header x ≡ true → IsAboutToBear x
unfolding f.has_header f.is_new_at
about_to_bear x has = each x.call refl has
  where
    each : (call' : Call) → x.call ≡ call' → (f.is_new_at 6 6 call' x.place && not x.full) ≡ true → IsAboutToBear x
    each (call.Get reg field) e has = absurd (cc)
    each (call.Put reg field value) e has = absurd (cc)
    each (call.Load dest reg field) e has = absurd (cc)
    each (call.Store reg field from) e has = absurd (cc)
    each (call.Move dest from) e has = absurd (cc)
    each (call.Clear dest) e has = absurd (cc)
    each (call.New dest shape) e has =
        let p = and_parts (nat_le 6 x.place && nat_le x.place 6) (not x.full) has in
        record { dest = dest; shape = shape; is_new = e; at = six x.place p.0; room = not-true x.full p.1 }
      where
        six : (p : ℕ) → (nat_le 6 p && nat_le p 6) ≡ true → p ≡ 6
        six p e = grind (arith, nat_tests)
    each (call.Same a b) e has = absurd (cc)
    each (call.IsNull reg) e has = absurd (cc)

module _ (c : State) (history : History) (h : Lawful c history) (s : ℕ) (below : s < tasks c.geometry) (x : IsAboutToBear (flight_at c s)) where
  abbrev pub n : ℕ
  n = (flight_at c s).number

  abbrev pub b : ℕ
  b = next_birth c.geometry history

  abbrev pub now : Words
  now = words_of c.geometry c.row

  abbrev pub borne : ℕ → Option ℕ
  borne = (names_of c.geometry history).bearer

  numbered : f.has_number (flight_at c s) ≡ true
  unfolding f.has_number f.is_new_at
  numbered = rw (x.is_new, x.at, x.room) refl

  -- the number is that of the New's entry, so it isn't grey, and is marked for the cycle of the New
  within : n < numbers c.geometry
  unfolding f.is_making f.is_new_at
  within =
      let own = h.facts.own_entries s below (rw (x.is_new, x.at, x.room) refl) in
      let number = h.facts.number_is_own s below numbered in
      let fits = own.within in
      omega arith

  marked : now.mark n ≡ f.cycle_of (flight_at c s)
  unfolding f.is_making f.is_new_at
  marked =
      let own = h.facts.own_entries s below (rw (x.is_new, x.at, x.room) refl) in
      let number = h.facts.number_is_own s below numbered in
      ap now.mark number ∙ own.is_marked

  placed : now.place n ≡ new_place c.geometry (flight_at c s)
  unfolding f.is_making f.has_header f.is_new_at
  placed =
      let own = h.facts.own_entries s below (rw (x.is_new, x.at, x.room) refl) in
      let number = h.facts.number_is_own s below numbered in
      let header : f.has_header (flight_at c s) ≡ true = rw (x.is_new, x.at, x.room) refl in
      ap now.place number ∙ rw header at own.placed

  room_there : f.words_before (flight_at c s) + size x.shape ≤ c.geometry.alloc
  unfolding f.has_room f.has_raised f.is_new_at f.new_size f.new_size_of
  room_there =
      let y = flight_at c s in
      let step : f.IsNewInStep y.place y.full y.raised = rw x.is_new at (h.facts.news_in_step s below) in
      let raised : y.raised ≡ true = step.raised_by_then (let at = x.at in omega arith) x.room in
      rw x.is_new at ((h.facts.news_found_room s below (rw (x.is_new, x.at, raised, x.room) refl)).words)

  dark : claimed_of c.geometry now n ≡ false
  dark =
      let g = c.geometry in
      let y = flight_at c s in
      elim (cases_eq (now.mark n) now.cycle) [
        | inr other ↦ rw (ne_eqb (now.mark n) now.cycle other) refl
        | inl same ↦
            let cycle : f.cycle_of y ≡ now.cycle = sym marked ∙ same in
            let words = room_there in
            let away = not_claimed g now.cycle (g.live + f.words_before y) (omega arith) (omega arith) in
            rw placed (and_right _ _ (ap (λ k. stands_claimed (spaces_of g now.cycle) (place_at g (k % 2) (g.live + f.words_before y))) cycle ∙ away))
      ]

  -- nothing names it yet
  good_else : (word : ℕ) → IsGood (shades_of c.geometry now (flight_at c) c.spot.line (names_of c.geometry history)).kept (names_of c.geometry history) word
      → layout.reference_number word ≢ n
  good_else word good same =
      let free = (kept_means c.geometry now (flight_at c) c.spot.line (names_of c.geometry history) (layout.reference_number word) good.is_kept).not_held in
      let held = holder_holds c.geometry (flight_at c) s below numbered in
      never (sym free ∙ ap (held_by c.geometry (flight_at c)) same ∙ held)
    where
      never : {A : Type 0} → false ≡ true → A
      never e = absurd (cc)

  register_else : (t r : ℕ) → t < tasks c.geometry → r < c.geometry.registers → now.register t r ≢ 0 → layout.reference_number (now.register t r) ≢ n
  register_else t r seat reg some = elim (h.facts.registers_good t r seat reg) [ inl null ↦ absurd (some null) | inr good ↦ good_else (now.register t r) good ]

  cell_else : l.has_reference c.spot.line ≡ true → c.spot.cell ≢ 0 → layout.reference_number c.spot.cell ≢ n
  cell_else deals some = good_else c.spot.cell (h.facts.cell_good deals)

  names_new : layout.reference_number (new_reference (flight_at c s) x.shape) ≡ n
  names_new = let fits = within in (names_number n x.shape.refs x.shape.nums (new_reference (flight_at c s) x.shape) (omega arith) refl).0

  -- the history, and who bears what, after the step
  reg_fits : x.dest < c.geometry.registers
  reg_fits = let registers : RegistersFit c.geometry.registers (call.New x.dest x.shape) = rw x.is_new at ((h.facts.flights_formed s below).registers (let at = x.at in rw at refl)) in registers.1

  longer : history_after c s history ≡ history ++ made s x.dest x.shape n ∷ []
  longer =
      let does = new_does_6 c history h s x.dest x.shape below x.is_new x.at x.room in
      history_at_place c history s _ _ _ (record { event = does.event; flight = does.flight; entry = does.entry })

  pub bearer_after : (names_of c.geometry (history_after c s history)).bearer ≡ upd borne n (Some b)
  bearer_after =
      ap (λ k. (names_of c.geometry k).bearer) longer
      ∙ ap (λ names. names.bearer) (names-born c.geometry history h.legal s x.dest x.shape n below reg_fits)

  -- the next birth is one more
  pub next_after : next_birth c.geometry (history_after c s history) ≡ b + 1
  unfolding after_entry
  next_after =
      ap (next_birth c.geometry) longer
      ∙ ap born (after-push (opening_of c.geometry) history (made s x.dest x.shape n))
      ∙ born-heap_after_new (after (opening_of c.geometry) history) s x.dest x.shape

  abbrev pub then_words : Words
  then_words = words_of c.geometry (fired_if c.row (event_by c s))

  words_after : then_words ≡ writing_words now s x.dest (new_reference (flight_at c s) x.shape)
  unfolding event_by flight_at
  words_after =
      let does = new_does_6 c history h s x.dest x.shape below x.is_new x.at x.room in
      ap (λ (e : Option Event). words_of c.geometry (fired_if c.row e)) does.event ∙ does.words

  -- the young births after the step
  abbrev pub young_after : List ℕ → List ℕ
  young_after young = if gives_young c s then young ++ b ∷ [] else young

  module _ (used : ℕ → Type 0) (young : List ℕ) (marks : MarksUsed c.geometry now borne used young) (spot : SpotUsed c.geometry now c.spot.line c.spot.cell borne used)
      (is : used b) (all_born : YoungBorn young b) where
    unborn : (m : ℕ) → borne m ≢ Some b
    unborn = (is_next c.geometry history h.legal).unborn

    old : ¬ Contains young b
    old there = let less : b < b = all_born b there in absurd (omega arith)

    marks_now : MarksUsed c.geometry now (upd borne n (Some b)) used (young_after young)
    unfolding flight_at
    marks_now = by_test (gives_young c s) refl
      where
        by_test : (test : Bool) → gives_young c s ≡ test → MarksUsed c.geometry now (upd borne n (Some b)) used (if test then young ++ b ∷ [] else young)
        by_test false e = marks_born c.geometry borne used n b now young dark unborn old marks
        by_test true e =
            let p = and_parts (f.has_header (flight_of c.flights s)) (nat_eq (f.cycle_of (flight_of c.flights s)) now.cycle) e in
            let same : f.cycle_of (flight_at c s) ≡ now.cycle = eqb-true _ _ p.1 in
            marks_born_young c.geometry borne used n b now young dark unborn (marked ∙ same) marks

    pub birth_keeps : MarksUsed c.geometry then_words (names_of c.geometry (history_after c s history)).bearer used (young_after young)
        × SpotUsed c.geometry then_words c.spot.line c.spot.cell (names_of c.geometry (history_after c s history)).bearer used
    birth_keeps =
        let g = c.geometry in
        let v = new_reference (flight_at c s) x.shape in
        let bearer' = upd borne n (Some b) in
        rw bearer_after (
          marks_same g now then_words bearer' used (young_after young) (ap (λ (u : Words). u.mark) words_after) (ap (λ (u : Words). u.place) words_after) (ap (λ (u : Words). u.cycle) words_after) marks_now,
          spot_register g now then_words bearer' used young c.spot.line c.spot.cell s x.dest v (ap (λ (u : Words). u.register) words_after)
              (word_new g borne used n b v names_new is) (spot_born g borne used n b now c.spot.line c.spot.cell register_else cell_else spot),
        )
