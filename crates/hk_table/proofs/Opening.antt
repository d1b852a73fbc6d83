-- The table as it is made meets the rule.
use Rattle.std.proofs.Common.{◌≡◌, ℕ, zero, suc, ◌<◌, [], ◌∷◌, length, refl, sym, ◌∙◌, ap, subst, arith}
use Rattle.std.proofs.lemmas.List.FromFn.{get_or-map-range_with_len, length-map-range_with_len}
use Rattle.std.proofs.lemmas.List.{get_or-replicate}
use Rattle.std.specs.Prelude.{slice_index}
use mathlib.Core.Option.{some, some-injective, some-ne-none}
use lib.ListN.{get_elem?}
use Rattle.atomic_table.specs.Table.{opening}
use Rattle.hk_words.specs.declared.geometry.Geometry.{Geometry}
use Rattle.hk_words.specs.Geometry.{tasks, row_length}
use Rattle.hk_words.specs.Row.{register_at, slot_at}
use Rattle.hk_words.specs.Row.Slot.{Register}
use Rattle.hk_words.proofs.RowLaws.{slot_at-index_of, index_below}
use Rattle.hk_core.specs.State as state
use Rattle.hk_core.specs.State.{opening_row, opening_word, opening_register, opening_spot, flight_of, idle}
use Rattle.hk_core.specs.Begin.{register_word}
use Rattle.hk_core.specs.Run.{run, run_from_opening}
use Rattle.hk_model.specs.History.{of_seat}
use Rattle.hk_table.specs.Rule.{fresh, PassFits, Fits, InOneRun, first_view}
use Rattle.hk_table.specs.declared.view.View.{View}

register_open : (g : Geometry) (seat reg : ℕ) → seat < tasks g → reg < g.registers → slice_index (opening_row g) (register_at g seat reg) ≡ opening_register g reg
unfolding opening_row opening_word
register_open g seat reg below there =
    get_or-map-range_with_len (λ index. opening_word g (slot_at g index)) 0 (row_length g) (register_at g seat reg) (register_at g seat reg) 0 (index_below g (Register seat reg) (below, there)) (omega arith)
    ∙ ap (opening_word g) (slot_at-index_of g (Register seat reg) (below, there))

pub fresh_fits : (g : Geometry) (seat : ℕ) → seat < tasks g → PassFits g [] (run_from_opening g []) (fresh g seat)
unfolding run_from_opening run state.opening register_word flight_of of_seat
fresh_fits g seat below = record {
  seat = below;
  stands = record { begins = ([], refl); acts = refl; saw = ([], refl); seen_mine = refl; all_mine = refl };
  flight = get_or-map-range_with_len idle 0 (tasks g) seat seat (idle seat) below (omega arith);
  begun = get_or-replicate (tasks g) seat 0 0 below;
  registers = λ reg there. register_open g seat reg below there ∙ sym (get_or-map-range_with_len (opening_register g) 0 g.registers reg reg 0 there (omega arith));
  count = length-map-range_with_len (opening_register g) 0 g.registers;
}

pub opens_so : (g : Geometry) → InOneRun g (opening (opening_row g) [] (first_view g))
unfolding run_from_opening run state.opening
opens_so g = record {
  log = [];
  seats = tt;
  words = refl;
  views = λ i v at. only i v at;
  apart = λ i j v w differ at at'. absurd (differ (first i v at ∙ sym (first j w at')));
}
  where
    first : (i : ℕ) (v : View) → get_elem? (first_view g ∷ []) i ≡ some v → i ≡ 0
    first zero v at = refl
    first (suc i) v at = absurd (some-ne-none v (sym at))

    only : (i : ℕ) (v : View) → get_elem? (first_view g ∷ []) i ≡ some v → Fits g [] (run_from_opening g []) v.knows
    only zero v at = subst (λ (x : View). Fits g [] (run_from_opening g []) x.knows) (some-injective (first_view g) v at) (
      refl,
      record {
        begins = ([], refl);
        acts = refl;
        spot = refl;
        unmade = λ seat later below. fresh_fits g seat below;
        longest = ([], refl);
        closed = λ k d below. absurd (omega arith);
      },
    )
    only (suc i) v at = absurd (some-ne-none v (sym at))

pub row_length_is : (g : Geometry) → length (opening_row g) ≡ row_length g
unfolding opening_row
row_length_is g = length-map-range_with_len (λ index. opening_word g (slot_at g index)) 0 (row_length g)

-- the collector is at its first spot
pub opening_stands : (g : Geometry) → (run_from_opening g []).core.spot ≡ opening_spot
unfolding run_from_opening run state.opening
opening_stands g = refl
