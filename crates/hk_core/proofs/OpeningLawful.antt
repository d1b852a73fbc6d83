-- The opening state is lawful for the empty history.
use Rattle.std.proofs.Common.{◌≡◌, ℕ, List, []}
use Rattle.std.proofs.Math.ListN.{length-replicate}
use Rattle.std.proofs.lemmas.List.FromFn.{length-map-range_with_len}
use Rattle.std.specs.Prelude.{None, map, replicate}
use Rattle.std.specs.List.{range_with_len}
use Rattle.hk_core.specs.declared.flight.Flight.{Flight}
use Rattle.hk_core.specs.declared.spot.Spot.{Spot}
use Rattle.hk_words.specs.declared.geometry.Geometry.{Geometry}
use Rattle.hk_words.specs.Geometry.{tasks, row_length}
use Rattle.hk_words.specs.Row.{slot_at}
use Rattle.hk_model.specs.History.{Legal}
use Rattle.hk_model.specs.Heap.{opening_of}
use Rattle.hk_core.specs.State.{IsSized, idle, opening, opening_row, opening_word, opening_spot}
use Rattle.hk_core.specs.View.{words_of, names_of, contents_of}
use Rattle.hk_core.specs.Lawful.{Lawful, FactsOf}
use Rattle.hk_core.proofs.OpeningTables.{flight_at-opening, begun_at-opening}
use Rattle.hk_core.proofs.OpeningRow.{opened, at_start, words_of-opening}
use Rattle.hk_core.proofs.OpeningHeap.{board_alone}
use Rattle.hk_core.proofs.OpeningFacts.{opening_facts}

-- the parts of the opening state have their lengths
pub opening_sized : (g : Geometry) → IsSized (opening g)
unfolding opening opening_row
opening_sized g = record {
  row = length-map-range_with_len (λ (i : ℕ). opening_word g (slot_at g i)) 0 (row_length g);
  flights = length-map-range_with_len idle 0 (tasks g);
  begun = length-replicate {A = ℕ} (tasks g) 0;
}

legal_start : (g : Geometry) → Legal (opening_of g) []
unfolding Legal
legal_start g = tt

-- the facts of what the opening state is seen as
start_facts : (g : Geometry) → FactsOf g (at_start (words_of g (opening_row g))) idle (λ s. 0) opening_spot (names_of g []) (contents_of g []) (λ x. None)
unfolding at_start
start_facts g =
    let w = words_of g (opening_row g) in
    opening_facts g w.place w.mark w.accessors w.version w.frame_accessors w.frame_cycle w.frame_version w.register w.entry w.cell
    (opened g) (names_of g []) (contents_of g []) (board_alone g)

-- the opening state is lawful for the empty history
pub opening_lawful : (g : Geometry) → Lawful (opening g) []
unfolding opening
opening_lawful g = record {
  sized = opening_sized g;
  legal = legal_start g;
  range = λ x. None;
  facts = rw (words_of-opening g, flight_at-opening g, begun_at-opening g) (start_facts g);
}

-- so is each state that is made of the opening state's parts
pub lawful_parts : (g : Geometry) (row : List ℕ) (flights : List Flight) (begun : List ℕ) (spot : Spot) → row ≡ opening_row g
    → flights ≡ map idle (range_with_len 0 (tasks g)) → begun ≡ replicate (tasks g) 0 → spot ≡ opening_spot
    → Lawful (record { geometry = g; row = row; flights = flights; begun = begun; spot = spot }) []
unfolding opening
lawful_parts g row flights begun spot r f b s = rw (r, f, b, s) (opening_lawful g)
