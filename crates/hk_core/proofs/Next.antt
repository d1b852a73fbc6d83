-- A step of a seat keeps a lawful state lawful, where all facts hold after it. The places of every call are put together
-- here in one way: a place shows its event, the flight after it and its entry by the tables, what the words say after the
-- event, that the history after it is legal, and that all facts hold.
use Rattle.std.proofs.Common.{◌≡◌, ◌≢◌, ℕ, ◌<◌, true, [], ◌++◌, List, length, length-set, refl, ◌∙◌, ap, arith, Option, Some, None}
use Rattle.std.specs.Prelude.{option_to_list}
use Rattle.hk_words.specs.Geometry.{tasks}
use Rattle.hk_model.specs.View.{upd}
use Rattle.hk_model.specs.Heap.{opening_of}
use Rattle.hk_model.specs.History.{Entry, History, Legal}
use Rattle.hk_core.specs.declared.event.Event.{Event}
use Rattle.hk_core.specs.declared.flight.Flight.{Flight}
use Rattle.hk_core.specs.Event.{fired, fired_if, learnt}
use Rattle.hk_core.specs.State.{State}
use Rattle.hk_core.specs.Step.{event_of, took_of, effect_of, event_by, found_by, next, history_after}
use Rattle.hk_core.specs.View.{Words, words_of, names_of, contents_of, flight_at, begun_at, size_at}
use Rattle.hk_core.specs.Flights as f
use Rattle.hk_core.specs.Inside.{cell_written, IsLeftAlone, kept_in, size_in}
use Rattle.hk_core.specs.Lawful.{FactsOf, Lawful}
use Rattle.hk_core.proofs.Encode.{flight_at-set}
use Rattle.hk_core.specs.Colours.{Covers}
use Rattle.hk_core.proofs.Inside.{inside_through}
use Rattle.hk_core.proofs.kinds.Enter.{object_of}
use Rattle.std.proofs.lemmas.List.{append-nil}

-- what the tables say of a seat's place: its event, the flight after it, and the entry that it adds
pub record DoesPlace (c : State) (s : ℕ) (event' : Option Event) (flight' : Flight) (entry' : Option Entry) : Type 0 where
  pub event : event_of c.geometry (flight_at c s) ≡ event'
  pub flight : took_of c.geometry (flight_at c s) (learnt c.row event') ≡ flight'
  pub entry : effect_of c.geometry (flight_at c s) (learnt c.row event') ≡ entry'

-- an event changes one word, so the row has as many words after it
pub length-fired_if : (row : List ℕ) (e : Option Event) → length (fired_if row e) ≡ length row
unfolding fired_if fired
length-fired_if row None = refl
length-fired_if row (Some e) = length-set row _ _

-- the flights after a step
pub flight_at-next : (c : State) (s : ℕ) → s < length c.flights → flight_at (next c s) ≡ upd (flight_at c) s (took_of c.geometry (flight_at c s) (found_by c s))
unfolding next flight_at
flight_at-next c s below = flight_at-set (record c { row = fired_if c.row (event_by c s) }) s _ below

-- the event, what it finds and the longer history, by the tables
event_at_place : (c : State) (s : ℕ) (e : Option Event) (y : Flight) (o : Option Entry) → DoesPlace c s e y o → event_by c s ≡ e
unfolding event_by flight_at
event_at_place c s e y o does = does.event

pub found_at_place : (c : State) (s : ℕ) (e : Option Event) (y : Flight) (o : Option Entry) → DoesPlace c s e y o → found_by c s ≡ learnt c.row e
unfolding found_by
found_at_place c s e y o does = ap (learnt c.row) (event_at_place c s e y o does)

pub history_at_place : (c : State) (history : History) (s : ℕ) (e : Option Event) (y : Flight) (o : Option Entry) → DoesPlace c s e y o
    → history_after c s history ≡ history ++ option_to_list o
unfolding history_after flight_at
history_at_place c history s e y o does =
    let found = found_at_place c s e y o does in
    ap (λ (k : Option Entry). history ++ option_to_list k) (ap (effect_of c.geometry (flight_at c s)) found ∙ does.entry)

build : (c : State) (history : History) (s : ℕ) (e : Option Event) (w : Words) (range : ℕ → Option ℕ) (longer : History) (flight : ℕ → Flight)
    → event_by c s ≡ e → flight_at (next c s) ≡ flight → history_after c s history ≡ longer → words_of c.geometry (fired_if c.row e) ≡ w
    → Lawful c history → Legal (opening_of c.geometry) longer
    → FactsOf c.geometry w flight (begun_at c) c.spot (names_of c.geometry longer) (contents_of c.geometry longer) range
    → Lawful (next c s) (history_after c s history)
unfolding next begun_at
build c history s e w range longer flight event flights later words h legal facts =
    let row : length (fired_if c.row (event_by c s)) ≡ length c.row = length-fired_if c.row (event_by c s) in
    record {
      sized = record {
        row = row ∙ h.sized.row;
        flights = length-set c.flights s _ ∙ h.sized.flights;
        begun = h.sized.begun;
      };
      legal = rw later legal;
      range = range;
      facts = rw (later, flights, event, words) facts;
    }

-- a step leads to words, and to a lawful state
pub record StepsTo (c : State) (history : History) (s : ℕ) (w : Words) : Type 0 where
  pub lawful : Lawful (next c s) (history_after c s history)
  pub words : words_of c.geometry (next c s).row ≡ w

-- a step of a lawful state is such a one, where the new history is legal and, for some ranges, all facts hold
pub steps_to : (c : State) (history : History) (s : ℕ) (e : Option Event) (y : Flight) (o : Option Entry) (w : Words) (range : ℕ → Option ℕ)
    → Lawful c history → s < tasks c.geometry → DoesPlace c s e y o → words_of c.geometry (fired_if c.row e) ≡ w
    → Legal (opening_of c.geometry) (history ++ option_to_list o)
    → FactsOf c.geometry w (upd (flight_at c) s y) (begun_at c) c.spot (names_of c.geometry (history ++ option_to_list o)) (contents_of c.geometry (history ++ option_to_list o)) range
    → StepsTo c history s w
unfolding next
steps_to c history s e y o w range h below does words legal facts =
    let flights : s < length c.flights = let sized = h.sized.flights in omega arith in
    let event : event_by c s ≡ e = event_at_place c s e y o does in
    let found : found_by c s ≡ learnt c.row e = found_at_place c s e y o does in
    let flight : flight_at (next c s) ≡ upd (flight_at c) s y = flight_at-next c s flights ∙ ap (upd (flight_at c) s) (ap (took_of c.geometry (flight_at c s)) found ∙ does.flight) in
    let longer : history_after c s history ≡ history ++ option_to_list o = history_at_place c history s e y o does in
    record {
      lawful = build c history s e w range (history ++ option_to_list o) (upd (flight_at c) s y) event flight longer words h legal facts;
      words = ap (λ (k : Option Event). words_of c.geometry (fired_if c.row k)) event ∙ words;
    }

-- so it is where the place adds no entry
pub steps_to_silent : (c : State) (history : History) (s : ℕ) (e : Option Event) (y : Flight) (w : Words) (range : ℕ → Option ℕ)
    → Lawful c history → s < tasks c.geometry → DoesPlace c s e y None → words_of c.geometry (fired_if c.row e) ≡ w
    → FactsOf c.geometry w (upd (flight_at c) s y) (begun_at c) c.spot (names_of c.geometry history) (contents_of c.geometry history) range
    → StepsTo c history s w
steps_to_silent c history s e y w range h below does words facts =
    let same : history ++ [] ≡ history = append-nil history in
    steps_to c history s e y None w range h below does words (rw same h.legal) (rw same facts)

-- and where the facts are said of the row after its event, and of the flight that its place leads to
pub steps_on_row : (c : State) (history : History) (s : ℕ) (o : Option Entry) (range : ℕ → Option ℕ)
    → Lawful c history → s < tasks c.geometry → effect_of c.geometry (flight_at c s) (learnt c.row (event_of c.geometry (flight_at c s))) ≡ o
    → Legal (opening_of c.geometry) (history ++ option_to_list o)
    → FactsOf c.geometry (words_of c.geometry (fired_if c.row (event_of c.geometry (flight_at c s))))
    (upd (flight_at c) s (took_of c.geometry (flight_at c s) (learnt c.row (event_of c.geometry (flight_at c s))))) (begun_at c) c.spot
    (names_of c.geometry (history ++ option_to_list o)) (contents_of c.geometry (history ++ option_to_list o)) range
    → StepsTo c history s (words_of c.geometry (fired_if c.row (event_of c.geometry (flight_at c s))))
steps_on_row c history s o range h below entry legal facts =
    steps_to c history s (event_of c.geometry (flight_at c s)) (took_of c.geometry (flight_at c s) (learnt c.row (event_of c.geometry (flight_at c s)))) o _ range h below
    (record { event = refl; flight = refl; entry = entry }) refl legal facts

-- A STEP AND WHAT CALLS ARE INSIDE

-- a step leads to a lawful state, and leaves every object alone that a call is inside
pub record StepsWell (c : State) (history : History) (s : ℕ) : Type 0 where
  pub lawful : Lawful (next c s) (history_after c s history)
  pub alone : (t : ℕ) → t < tasks c.geometry → f.in_object (flight_at c t) ≡ true
      → IsLeftAlone (words_of c.geometry c.row) (words_of c.geometry (next c s).row) (size_at (names_of c.geometry history) (object_of (flight_at c t)))
      (cell_written (flight_at c s)) (object_of (flight_at c t))

-- so does one that changes no place and no word but the cell that it writes
pub steps_well : (c : State) (history : History) (s : ℕ) (w : Words) → StepsTo c history s w → w.place ≡ (words_of c.geometry c.row).place
    → ((p : ℕ) → cell_written (flight_at c s) ≢ Some p → w.cell p ≡ (words_of c.geometry c.row).cell p) → StepsWell c history s
steps_well c history s w step places cells = record {
  lawful = step.lawful;
  alone = λ t below inside. record {
    place = rw step.words (ap (λ (f : ℕ → ℕ). f (object_of (flight_at c t))) places);
    words = λ p covered other. rw step.words (cells p other);
  };
}

-- so does one that changes no place of a kept number and no word of a kept object but the cell that it writes
pub steps_well_kept : (c : State) (history : History) (s : ℕ) (w : Words) → Lawful c history → StepsTo c history s w
    → ((n : ℕ) → kept_in c history n ≡ true → w.place n ≡ (words_of c.geometry c.row).place n)
    → ((n p : ℕ) → kept_in c history n ≡ true → Covers ((words_of c.geometry c.row).place n) (size_in c history n) p → cell_written (flight_at c s) ≢ Some p
    → w.cell p ≡ (words_of c.geometry c.row).cell p)
    → StepsWell c history s
steps_well_kept c history s w h step places cells = record {
  lawful = step.lawful;
  alone = λ t below inside.
      let through = inside_through (flight_at c t) inside in
      let kept : kept_in c history (object_of (flight_at c t)) ≡ true = (h.facts.entered_good t below through.0 through.1).is_kept in
      record {
        place = rw step.words (places (object_of (flight_at c t)) kept);
        words = λ p covered other. rw step.words (cells (object_of (flight_at c t)) p kept covered other);
      };
}
