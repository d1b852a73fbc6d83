-- The rows of Load, Store and New, and those of all seven calls together: at each place of a call in flight a step keeps a
-- lawful state lawful, and leaves the objects alone that calls are inside.
use Rattle.std.proofs.Common.{◌≡◌, ◌≢◌, ℕ, ◌<◌, ◌≤◌, true, false, refl, sym, ◌∙◌, ap, Option, Some, None}
use Rattle.std.proofs.lemmas.Bool.{ltb-true}
use Rattle.hk_words.specs.declared.call.Call.{Call}
use Rattle.hk_words.specs.declared.call.Call.TheVariants as call
use Rattle.hk_words.specs.declared.shape.Shape.{Shape}
use Rattle.hk_words.specs.Geometry.{tasks}
use Rattle.hk_words.specs.Calls.{RegistersFit}
use Rattle.hk_words.specs.Layout as layout
use Rattle.hk_words.specs.Row.{register_at, space_at}
use Rattle.hk_model.specs.History.{History, is_question}
use Rattle.hk_model.specs.View.{upd}
use Rattle.hk_model.proofs.Updates.{upd_other}
use Rattle.hk_core.specs.declared.event.Event.{Event}
use Rattle.hk_core.specs.declared.event.Event.TheVariants as event
use Rattle.hk_core.specs.Event.{fired_if, learnt}
use Rattle.hk_core.specs.State.{State}
use Rattle.hk_core.specs.Step.{reference_cell, event_of, took_of, effect_of}
use Rattle.hk_core.specs.View.{Words, words_of, names_of, contents_of, flight_at, begun_at}
use Rattle.hk_core.specs.Flights as f
use Rattle.hk_core.specs.Colours.{shades_of}
use Rattle.hk_core.specs.Lawful.{FactsOf, Lawful}
use Rattle.hk_core.specs.Inside.{cell_written}
use Rattle.hk_core.proofs.Columns.{fired_if_none, words_some}
use Rattle.hk_core.proofs.Next.{StepsTo, StepsWell, steps_to, steps_to_silent, steps_on_row, steps_well, steps_well_kept}
use Rattle.hk_core.proofs.Inside.{shapes_fit, reference_in_spaces}
use Rattle.hk_core.proofs.RowOfLoad.{load_steps}
use Rattle.hk_core.proofs.RowOfStore.{store_steps}
use Rattle.hk_core.proofs.Plain.{get_steps, put_steps, move_steps, clear_steps}
use Rattle.hk_core.proofs.kinds.Words.{words-load, words-write_register, words-write_cell}
use Rattle.hk_core.proofs.kinds.WriteRegister.{writing_words}
use Rattle.hk_core.proofs.kinds.WriteCell.{cell_words, bearers_numbered}
use Rattle.hk_core.proofs.kinds.LoadRead.{loaded, load_knows, load_shows, load_reads_row, load_read_event, load_read_entry, names-loaded, contents-loaded, legal-loaded}
use Rattle.hk_core.proofs.kinds.LoadWrite.{load_writes_row, load_write_event, load_write_entry}
use Rattle.hk_core.proofs.kinds.StoreWrite.{stored, store_knows, store_field_there, store_writes_row, store_write_event, store_write_entry, names-stored, contents-stored, legal-stored}
use Rattle.hk_core.proofs.kinds.StoreWrite.{store_rests_row, store_rest_event, store_rest_entry}
use Rattle.hk_core.proofs.kinds.ReserveSeats.{SparesObjects, bearers_have_fields, range_reserved}
use Rattle.hk_core.proofs.kinds.ReserveSeats.{load_claims_row, load_claims_spare, load_claim_entry, load_reserves_row, load_reserves_spare, load_reserve_entry}
use Rattle.hk_core.proofs.kinds.ReserveSeats.{store_claims_row, store_claims_spare, store_claim_entry, store_reserves_row, store_reserves_spare, store_reserve_entry}
use Rattle.hk_core.proofs.kinds.LinkSeats.{load_links_row, load_links_spare, load_link_entry, store_links_row, store_links_spare, store_link_entry}
use Rattle.hk_core.proofs.kinds.NewSteps.{new_step}

module _ (c : State) (history : History) (s : ℕ) (below : s < tasks c.geometry) (h : Lawful c history) where
  -- the words after the event of the place
  abbrev after_event : Words
  after_event = words_of c.geometry (fired_if c.row (event_of c.geometry (flight_at c s)))

  -- a place that adds no entry, after whose event all facts hold
  silent : (range : ℕ → Option ℕ) → ((old : ℕ) → effect_of c.geometry (flight_at c s) old ≡ None)
      → FactsOf c.geometry after_event
      (upd (flight_at c) s (took_of c.geometry (flight_at c s) (learnt c.row (event_of c.geometry (flight_at c s))))) (begun_at c) c.spot
      (names_of c.geometry history) (contents_of c.geometry history) range
      → StepsTo c history s after_event
  silent range entry facts =
      steps_to_silent c history s (event_of c.geometry (flight_at c s)) _ after_event range h below (record { event = refl; flight = refl; entry = entry _ }) refl facts

  -- a step whose event spares the kept objects
  spared : StepsTo c history s after_event
      → SparesObjects (words_of c.geometry c.row) after_event (shades_of c.geometry (words_of c.geometry c.row) (flight_at c) c.spot.line (names_of c.geometry history))
      → StepsWell c history s
  unfolding shades_of
  spared step spares = steps_well_kept c history s after_event h step (λ n kept. ap (λ (column : ℕ → ℕ). column n) spares.place) (λ n p kept covers other. spares.cells n p kept covers)

  -- a step after which the words say so and so, with the same places and the same cells but the one that is written
  said_after : (w : Words) → StepsTo c history s after_event → after_event ≡ w → w.place ≡ (words_of c.geometry c.row).place
      → ((p : ℕ) → cell_written (flight_at c s) ≢ Some p → w.cell p ≡ (words_of c.geometry c.row).cell p) → StepsWell c history s
  said_after w step same places cells =
      steps_well c history s after_event step (ap (λ (v : Words). v.place) same ∙ places) (λ p other. ap (λ (v : Words). v.cell p) same ∙ cells p other)

  -- the words after an event that the tables name
  after_by : (e : Option Event) (w : Words) → event_of c.geometry (flight_at c s) ≡ e → words_of c.geometry (fired_if c.row e) ≡ w → after_event ≡ w
  after_by e w named words = ap (λ (k : Option Event). words_of c.geometry (fired_if c.row k)) named ∙ words

  -- LOAD

  module _ (dest reg field : ℕ) (is_load : (flight_at c s).call ≡ call.Load dest reg field) where
    load_reads_well : (flight_at c s).place ≡ 4 → StepsWell c history s
    unfolding f.in_object f.in_object_at
    load_reads_well at =
        let g = c.geometry in
        let w = words_of g c.row in
        let x = flight_at c s in
        let names = names_of g history in
        let contents = contents_of g history in
        let formed = h.facts.flights_formed s below in
        let seated : x.seat ≡ s = formed.seated in
        let registers : RegistersFit g.registers (call.Load dest reg field) = rw is_load at (formed.registers (rw at refl)) in
        let fit = shapes_fit g history in
        let inside : f.in_object x ≡ true = rw (is_load, at) refl in
        let there : field < layout.reference_refs x.entered = ltb-true field (layout.reference_refs x.entered) (rw is_load at (h.facts.fields_there s below (rw at refl))) in
        let lies = reference_in_spaces g w (flight_at c) (begun_at c) c.spot names contents h.range h.facts fit s below inside field there in
        let k = load_knows g w (flight_at c) (begun_at c) c.spot names contents h.range s dest reg field below is_load at fit h.facts in
        let shows = load_shows g w (flight_at c) (begun_at c) c.spot names contents h.range s dest reg field below is_load at k h.facts in
        let to : dest < g.registers = registers.0.1 in
        let loads = event.Load (space_at g (reference_cell x field)) in
        said_after w (steps_on_row c history s (Some (loaded s dest reg field)) h.range h below
        (load_read_entry g x dest reg field is_load at _ ∙ ap (λ (seat : ℕ). Some (loaded seat dest reg field)) seated)
        (legal-loaded g history s dest reg field k.birth k.in_register shows.0 h.legal)
        (rw (names-loaded g history s dest reg field k.birth k.in_register shows.0 below to, contents-loaded g history s dest reg field k.birth k.in_register shows.0 below to)
        (load_reads_row g c.row (flight_at c) (begun_at c) c.spot names contents h.range s dest reg field below is_load at lies.within k h.facts)))
        (after_by (Some loads) w (load_read_event g x dest reg field is_load at) (words_some g c.row loads w (words-load g c.row (space_at g (reference_cell x field)))))
        refl (λ p other. refl)

    load_claims_well : (flight_at c s).place ≡ 5 → StepsWell c history s
    load_claims_well at =
        let g = c.geometry in
        let names = names_of g history in
        spared (silent h.range (load_claim_entry g (flight_at c s) dest reg field is_load at)
        (load_claims_row g c.row (flight_at c) (begun_at c) c.spot names (contents_of g history) h.range s dest reg field below is_load at h.sized.row h.facts))
        (load_claims_spare g c.row (flight_at c) (begun_at c) c.spot names (contents_of g history) h.range s dest reg field below is_load at h.sized.row h.facts)

    load_reserves_well : (flight_at c s).place ≡ 6 → StepsWell c history s
    load_reserves_well at =
        let g = c.geometry in
        let names = names_of g history in
        let x = flight_at c s in
        let w = words_of g c.row in
        spared (silent (range_reserved x w.reserved h.range) (load_reserve_entry g x dest reg field is_load at)
        (load_reserves_row g c.row (flight_at c) (begun_at c) c.spot names (contents_of g history) h.range s dest reg field below is_load at h.sized.row (shapes_fit g history) (bearers_have_fields g history) h.facts))
        (load_reserves_spare g c.row x (shades_of g w (flight_at c) c.spot.line names) dest reg field is_load at h.sized.row)

    load_links_well : (flight_at c s).place ≡ 7 → StepsWell c history s
    load_links_well at =
        let g = c.geometry in
        let names = names_of g history in
        spared (silent h.range (load_link_entry g (flight_at c s) dest reg field is_load at)
        (load_links_row g c.row (flight_at c) (begun_at c) c.spot names (contents_of g history) h.range s dest reg field below is_load at h.sized.row (shapes_fit g history) h.facts))
        (load_links_spare g c.row (flight_at c) (begun_at c) c.spot names (contents_of g history) h.range s dest reg field below is_load at h.sized.row (shapes_fit g history) h.facts)

    load_writes_well : (flight_at c s).place ≡ 8 → StepsWell c history s
    load_writes_well at =
        let g = c.geometry in
        let names = names_of g history in
        let x = flight_at c s in
        let w = words_of g c.row in
        let formed = h.facts.flights_formed s below in
        let seated : x.seat ≡ s = formed.seated in
        let registers : RegistersFit g.registers (call.Load dest reg field) = rw is_load at (formed.registers (rw at refl)) in
        let to : dest < g.registers = registers.0.1 in
        let writes = event.Write (register_at g s dest) x.item in
        said_after (writing_words w s dest x.item) (silent h.range (load_write_entry g x dest reg field is_load at)
        (load_writes_row g c.row (flight_at c) (begun_at c) c.spot names (contents_of g history) h.range s dest reg field below is_load at h.sized.row h.facts))
        (after_by (Some writes) (writing_words w s dest x.item) (load_write_event g x dest reg field is_load at ∙ ap (λ (seat : ℕ). Some (event.Write (register_at g seat dest) x.item)) seated)
        (words_some g c.row writes (writing_words w s dest x.item) (words-write_register g c.row h.sized.row s dest x.item below to)))
        refl (λ p other. refl)

    -- so every step of a Load keeps a lawful state lawful
    pub load_steps_well : 1 ≤ (flight_at c s).place → StepsWell c history s
    load_steps_well some =
        load_steps c history s below h dest reg field is_load
        (record { reads = load_reads_well; claims = load_claims_well; reserves = load_reserves_well; links = load_links_well; writes = load_writes_well }) some

  -- STORE

  module _ (reg field from : ℕ) (is_store : (flight_at c s).call ≡ call.Store reg field from) where
    store_rests_well : (flight_at c s).place ≡ 2 → (flight_at c s).item ≡ 0 → StepsWell c history s
    store_rests_well at null =
        let g = c.geometry in
        let names = names_of g history in
        let w = words_of g c.row in
        said_after w (silent h.range (store_rest_entry g (flight_at c s) reg field from is_store at)
        (store_rests_row g c.row (flight_at c) (begun_at c) c.spot names (contents_of g history) h.range s reg field from below is_store at null h.facts))
        (after_by None w (store_rest_event g (flight_at c s) reg field from is_store at null) (ap (words_of g) (fired_if_none c.row)))
        refl (λ p other. refl)

    store_claims_well : (flight_at c s).place ≡ 3 → StepsWell c history s
    store_claims_well at =
        let g = c.geometry in
        let names = names_of g history in
        spared (silent h.range (store_claim_entry g (flight_at c s) reg field from is_store at)
        (store_claims_row g c.row (flight_at c) (begun_at c) c.spot names (contents_of g history) h.range s reg field from below is_store at h.sized.row h.facts))
        (store_claims_spare g c.row (flight_at c) (begun_at c) c.spot names (contents_of g history) h.range s reg field from below is_store at h.sized.row h.facts)

    store_reserves_well : (flight_at c s).place ≡ 4 → StepsWell c history s
    store_reserves_well at =
        let g = c.geometry in
        let names = names_of g history in
        let x = flight_at c s in
        let w = words_of g c.row in
        spared (silent (range_reserved x w.reserved h.range) (store_reserve_entry g x reg field from is_store at)
        (store_reserves_row g c.row (flight_at c) (begun_at c) c.spot names (contents_of g history) h.range s reg field from below is_store at h.sized.row (shapes_fit g history) (bearers_have_fields g history) h.facts))
        (store_reserves_spare g c.row x (shades_of g w (flight_at c) c.spot.line names) reg field from is_store at h.sized.row)

    store_links_well : (flight_at c s).place ≡ 5 → StepsWell c history s
    store_links_well at =
        let g = c.geometry in
        let names = names_of g history in
        spared (silent h.range (store_link_entry g (flight_at c s) reg field from is_store at)
        (store_links_row g c.row (flight_at c) (begun_at c) c.spot names (contents_of g history) h.range s reg field from below is_store at h.sized.row (shapes_fit g history) h.facts))
        (store_links_spare g c.row (flight_at c) (begun_at c) c.spot names (contents_of g history) h.range s reg field from below is_store at h.sized.row (shapes_fit g history) h.facts)

    -- the cell is the one that is written
    written_there : (flight_at c s).place ≡ 6 → (q : ℕ) → cell_written (flight_at c s) ≢ Some q → reference_cell (flight_at c s) field ≢ q
    unfolding cell_written
    written_there at q other same = let there : Some (reference_cell (flight_at c s) field) ≢ Some q = rw (is_store, at) at other in there (ap (λ k. Some k) same)

    store_writes_well : (flight_at c s).place ≡ 6 → StepsWell c history s
    unfolding f.in_object f.in_object_at
    store_writes_well at =
        let g = c.geometry in
        let w = words_of g c.row in
        let x = flight_at c s in
        let names = names_of g history in
        let contents = contents_of g history in
        let formed = h.facts.flights_formed s below in
        let seated : x.seat ≡ s = formed.seated in
        let fit = shapes_fit g history in
        let inside : f.in_object x ≡ true = rw (is_store, at) refl in
        let there : field < layout.reference_refs x.entered = ltb-true field (layout.reference_refs x.entered) (rw is_store at (h.facts.fields_there s below (rw at refl))) in
        let lies = reference_in_spaces g w (flight_at c) (begun_at c) c.spot names contents h.range h.facts fit s below inside field there in
        let k = store_knows g w (flight_at c) (begun_at c) c.spot names contents h.range s reg field from below is_store at fit h.facts in
        let within = store_field_there g w (flight_at c) (begun_at c) c.spot names contents h.range s reg field from below is_store at k h.facts in
        let p = reference_cell x field in
        let writes = event.Write (space_at g p) x.item in
        said_after (cell_words w p x.item) (steps_on_row c history s (Some (stored s reg field from)) h.range h below
        (store_write_entry g x reg field from is_store at _ ∙ ap (λ (seat : ℕ). Some (stored seat reg field from)) seated)
        (legal-stored g history s reg field from k.birth k.in_register within h.legal)
        (rw (names-stored g history s reg field from k.birth k.in_register within, contents-stored g history s reg field from k.birth k.in_register within)
        (store_writes_row g c.row (flight_at c) (begun_at c) c.spot names contents h.range s reg field from below is_store at h.sized.row lies.within fit (bearers_numbered g history) k h.facts)))
        (after_by (Some writes) (cell_words w p x.item) (store_write_event g x reg field from is_store at)
        (words_some g c.row writes (cell_words w p x.item) (words-write_cell g c.row h.sized.row p x.item lies.some lies.within)))
        refl (λ q other. upd_other w.cell p x.item q (λ e. written_there at q other (sym e)))

    -- so every step of a Store keeps a lawful state lawful
    pub store_steps_well : 1 ≤ (flight_at c s).place → StepsWell c history s
    store_steps_well some =
        store_steps c history s below h reg field from is_store
        (record { rests = store_rests_well; claims = store_claims_well; reserves = store_reserves_well; links = store_links_well; writes = store_writes_well }) some

  -- NEW

  -- so does every step of a New
  pub new_steps_well : (dest : ℕ) (shape : Shape) → (flight_at c s).call ≡ call.New dest shape → 1 ≤ (flight_at c s).place → StepsWell c history s
  new_steps_well dest shape is_new some =
      let step = new_step c history h s dest shape below is_new some in
      let does = step.does in
      let to = steps_to c history s step.event step.flight step.entry step.words h.range h below (record { event = does.event; flight = does.flight; entry = does.entry }) does.words does.legal does.facts in
      record {
        lawful = to.lawful;
        alone = λ t within inside. record {
          place = rw to.words (step.places t within inside);
          words = λ p covered other. rw to.words (ap (λ (column : ℕ → ℕ). column p) step.cells);
        };
      }

  -- ALL CALLS

  -- so does every step of a seat in flight: its call is no question
  pub seat_steps : 1 ≤ (flight_at c s).place → StepsWell c history s
  seat_steps some = each (flight_at c s).call refl
    where
      no_question : (call' : Call) → (flight_at c s).call ≡ call' → is_question call' ≡ false
      no_question call' e = rw e at (h.facts.flights_formed s below).no_question

      each : (call' : Call) → (flight_at c s).call ≡ call' → StepsWell c history s
      each (call.Get reg field) e = get_steps c history s below h reg field e some
      each (call.Put reg field value) e = put_steps c history s below h reg field value e some
      each (call.Load dest reg field) e = load_steps_well dest reg field e some
      each (call.Store reg field from) e = store_steps_well reg field from e some
      each (call.Move dest from) e = move_steps c history s below h dest from e some
      each (call.Clear dest) e = clear_steps c history s below h dest e some
      each (call.New dest shape) e = new_steps_well dest shape e some
      each (call.Same a b) e = let none = no_question (call.Same a b) e in absurd (cc)
      each (call.IsNull reg) e = let none = no_question (call.IsNull reg) e in absurd (cc)
