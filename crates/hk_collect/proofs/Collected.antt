-- An event of the collector keeps a lawful state lawful, for the same history, where all facts hold of the row and the
-- spot after it; and it leaves each object alone that a call is inside, where it changes no word of a kept one.
use Rattle.std.proofs.Common.{◌≡◌, ◌≢◌, ℕ, ◌<◌, true, length, sym, ◌∙◌, ap, subst, Option, Some, None}
use Rattle.hk_words.specs.Geometry.{tasks}
use Rattle.hk_model.proofs.Updates.{upd_other}
use Rattle.hk_model.specs.History.{History}
use Rattle.hk_model.specs.View.{upd}
use Rattle.hk_core.specs.declared.event.Event.{Event}
use Rattle.hk_core.specs.declared.spot.Line.{Line}
use Rattle.hk_core.specs.Event.{fired, fired_if, learnt}
use Rattle.hk_core.specs.State.{State}
use Rattle.hk_core.specs.Collect.{event_at_line, took_at_line, spot_event, spot_took, event_by_collector, found_by_collector, next_collected}
use Rattle.hk_core.specs.View.{Words, words_of, names_of, contents_of, flight_at, begun_at, size_at}
use Rattle.hk_core.specs.Flights as f
use Rattle.hk_core.specs.Colours.{Covers}
use Rattle.hk_core.specs.Inside.{IsLeftAlone, kept_in, size_in}
use Rattle.hk_core.specs.Lawful.{FactsOf, Lawful}
use Rattle.hk_core.proofs.Columns.{fired_if_some}
use Rattle.hk_core.proofs.Inside.{inside_through}
use Rattle.hk_core.proofs.Next.{length-fired_if}
use Rattle.hk_core.proofs.kinds.Enter.{object_of}
use Rattle.hk_collect.proofs.spots.SpotLoads.{took_at}
use Rattle.hk_collect.proofs.spots.SpotLoadsRow.{AfterEvent}

-- the words after an event leave the object alone that a call is inside
abbrev pub Spares : (c : State) → History → Words → Type 0
Spares c history w = (s : ℕ) → s < tasks c.geometry → f.in_object (flight_at c s) ≡ true
    → IsLeftAlone (words_of c.geometry c.row) w (size_at (names_of c.geometry history) (object_of (flight_at c s))) None (object_of (flight_at c s))

-- the event of the collector leads to a lawful state, and leaves every object alone that a call is inside
pub record Collected (c : State) (history : History) : Type 0 where
  pub lawful : Lawful (next_collected c) history
  pub spares : Spares c history (words_of c.geometry (next_collected c).row)

module _ (c : State) (history : History) (h : Lawful c history) where
  abbrev pub After : (range : ℕ → Option ℕ) → Type 0
  After range = AfterEvent c.geometry c.row (flight_at c) (begun_at c) c.spot (names_of c.geometry history) (contents_of c.geometry history) range

  -- a lawful state, from all facts
  pub lawful_after : (range : ℕ → Option ℕ) → After range → Lawful (next_collected c) history
  unfolding next_collected event_by_collector found_by_collector flight_at begun_at
  lawful_after range facts =
      let row : length (fired_if c.row (spot_event c.geometry c.spot)) ≡ length c.row = length-fired_if c.row (spot_event c.geometry c.spot) in
      record {
        sized = record { row = row ∙ h.sized.row; flights = h.sized.flights; begun = h.sized.begun };
        legal = h.legal;
        range = range;
        facts = facts;
      }

  -- and what is spared, from what the words say after the event
  pub collected_row : (range : ℕ → Option ℕ) (w : Words) → After range → words_of c.geometry (fired_if c.row (spot_event c.geometry c.spot)) ≡ w → Spares c history w → Collected c history
  unfolding next_collected event_by_collector
  collected_row range w facts words spares = record {
    lawful = lawful_after range facts;
    spares = λ s below inside. subst (λ (w : Words). IsLeftAlone (words_of c.geometry c.row) w (size_at (names_of c.geometry history) (object_of (flight_at c s))) None (object_of (flight_at c s)))
        (sym words) (spares s below inside);
  }

  -- by what the tables say of a line: the event, what it finds, and the spot after it
  pub collected_at : (ln : Line) → c.spot.line ≡ ln → (e : Event) → event_at_line c.geometry c.spot ln ≡ Some e → (w : Words) → words_of c.geometry (fired c.row e) ≡ w
      → (old : ℕ) → learnt c.row (Some e) ≡ old → (range : ℕ → Option ℕ)
      → FactsOf c.geometry w (flight_at c) (begun_at c) (took_at_line c.geometry c.spot old ln) (names_of c.geometry history) (contents_of c.geometry history) range
      → Spares c history w → Collected c history
  unfolding spot_event
  collected_at ln at e is w words old found range facts spares =
      let event : spot_event c.geometry c.spot ≡ Some e = ap (event_at_line c.geometry c.spot) at ∙ is in
      let row : words_of c.geometry (fired_if c.row (spot_event c.geometry c.spot)) ≡ w = ap (λ (k : Option Event). words_of c.geometry (fired_if c.row k)) event ∙ ap (words_of c.geometry) (fired_if_some c.row e) ∙ words in
      let learns : learnt c.row (spot_event c.geometry c.spot) ≡ old = ap (learnt c.row) event ∙ found in
      let spot : spot_took c.geometry c.spot (learnt c.row (spot_event c.geometry c.spot)) ≡ took_at_line c.geometry c.spot old ln =
      ap (spot_took c.geometry c.spot) learns ∙ took_at c.geometry c.spot ln old at in
      collected_row range w (rw (row, spot) facts) row spares

  -- WHAT IS SPARED

  -- the object that a call is inside is kept
  pub inside_kept : (s : ℕ) → s < tasks c.geometry → f.in_object (flight_at c s) ≡ true → kept_in c history (object_of (flight_at c s)) ≡ true
  inside_kept s below inside = let through = inside_through (flight_at c s) inside in (h.facts.entered_good s below through.0 through.1).is_kept

  -- the same places and the same cells
  pub spares_all : (w : Words) → w.place ≡ (words_of c.geometry c.row).place → w.cell ≡ (words_of c.geometry c.row).cell → Spares c history w
  spares_all w places cells = λ s below inside. record {
    place = ap (λ (column : ℕ → ℕ). column (object_of (flight_at c s))) places;
    words = λ p covered other. ap (λ (column : ℕ → ℕ). column p) cells;
  }

  -- the same places, and another word at a place that lies in no kept object
  pub spares_beside : (w : Words) (q v : ℕ) → w.place ≡ (words_of c.geometry c.row).place → w.cell ≡ upd (words_of c.geometry c.row).cell q v
      → ((n : ℕ) → kept_in c history n ≡ true → ¬ Covers ((words_of c.geometry c.row).place n) (size_in c history n) q) → Spares c history w
  spares_beside w q v places cells beside = λ s below inside.
      let kept = inside_kept s below inside in
      record {
        place = ap (λ (column : ℕ → ℕ). column (object_of (flight_at c s))) places;
        words = λ p covered other. ap (λ (column : ℕ → ℕ). column p) cells
            ∙ upd_other (words_of c.geometry c.row).cell q v p (λ e. beside (object_of (flight_at c s)) kept (rw e at covered));
      }

  -- the same cells, and another place of a number whose object no call is inside
  pub spares_outside : (w : Words) (n p : ℕ) → w.place ≡ upd (words_of c.geometry c.row).place n p → w.cell ≡ (words_of c.geometry c.row).cell
      → ((s : ℕ) → s < tasks c.geometry → f.in_object (flight_at c s) ≡ true → object_of (flight_at c s) ≢ n) → Spares c history w
  spares_outside w n p places cells outside = λ s below inside. record {
    place = ap (λ (column : ℕ → ℕ). column (object_of (flight_at c s))) places ∙ upd_other (words_of c.geometry c.row).place n p (object_of (flight_at c s)) (outside s below inside);
    words = λ q covered other. ap (λ (column : ℕ → ℕ). column q) cells;
  }
