-- An idle flight is in the middle of nothing.
use Rattle.std.proofs.Common.{◌≡◌, ℕ, zero, suc, ◌≤◌, Bool, false, length, refl, arith, inl, inr}
use Rattle.std.proofs.lemmas.Bool.{cases_lt}
use Rattle.std.proofs.Math.Path.{fun_ext}
use Rattle.std.proofs.Math.ListN.{get_or-eq_default}
use Rattle.std.proofs.lemmas.List.FromFn.{get_or-map-range_with_len, length-map-range_with_len}
use Rattle.std.specs.Prelude.{map}
use Rattle.std.specs.List.{range_with_len}
use Rattle.hk_words.specs.declared.geometry.Geometry.{Geometry}
use Rattle.hk_words.specs.Geometry.{tasks}
use Rattle.hk_model.proofs.Views.{get_or-replicate_same}
use Rattle.hk_core.specs.Counts.{count_below, any_below}
use Rattle.hk_core.specs.State.{idle, flight_of, opening}
use Rattle.hk_core.specs.View.{flight_at, begun_at}
use Rattle.hk_core.specs.Flights as f
use Rattle.hk_core.specs.Colours.{held_by}

-- no number below n passes a test that is always false
pub count_none : (test : ℕ → Bool) → ((k : ℕ) → test k ≡ false) → (n : ℕ) → count_below n test ≡ 0
unfolding count_below
count_none test h zero = refl
count_none test h (suc n) = rw (count_none test h n, h n) refl

pub in_object-idle : (s : ℕ) → f.in_object (idle s) ≡ false
unfolding f.in_object f.in_object_at idle
in_object-idle s = refl

pub is_inside-idle : (n s : ℕ) → f.is_inside (idle s) n ≡ false
unfolding f.is_inside f.in_object f.in_object_at idle
is_inside-idle n s = refl

pub before_object-idle : (s : ℕ) → f.before_object (idle s) ≡ false
unfolding f.before_object f.before_object_at idle
before_object-idle s = refl

pub in_frame-idle : (s : ℕ) → f.in_frame (idle s) ≡ false
unfolding f.in_frame f.in_frame_at idle
in_frame-idle s = refl

pub before_frame-idle : (s : ℕ) → f.before_frame (idle s) ≡ false
unfolding f.before_frame f.before_frame_at idle
before_frame-idle s = refl

pub is_flying-idle : (s : ℕ) → f.is_flying (idle s) ≡ false
unfolding idle
is_flying-idle s = refl

pub register_stays-idle : (s : ℕ) → f.register_stays (idle s) ≡ false
unfolding f.register_stays f.register_stays_at idle
register_stays-idle s = refl

pub has_item-idle : (s : ℕ) → f.has_item (idle s) ≡ false
unfolding f.has_item f.has_item_at idle
has_item-idle s = refl

pub is_load-idle : (s : ℕ) → f.is_load (idle s) ≡ false
unfolding f.is_load f.is_load_at idle
is_load-idle s = refl

pub has_loaded-idle : (s : ℕ) → f.has_loaded (idle s) ≡ false
unfolding f.has_loaded f.is_load_at idle
has_loaded-idle s = refl

pub has_loaded_inside-idle : (s : ℕ) → f.has_loaded_inside (idle s) ≡ false
unfolding f.has_loaded_inside f.is_load_at idle
has_loaded_inside-idle s = refl

pub has_written-idle : (s : ℕ) → f.has_written (idle s) ≡ false
unfolding f.has_written f.is_load_at idle
has_written-idle s = refl

pub holds_back-idle : (s r : ℕ) → f.holds_back (idle s) r ≡ false
unfolding f.holds_back f.holds_back_at idle
holds_back-idle s r = refl

pub has_cycle_inside-idle : (s : ℕ) → f.has_cycle_inside (idle s) ≡ false
unfolding f.has_cycle_inside f.has_cycle_inside_at idle
has_cycle_inside-idle s = refl

pub has_claimed-idle : (s : ℕ) → f.has_claimed (idle s) ≡ false
unfolding f.has_claimed f.has_claimed_at idle
has_claimed-idle s = refl

pub hand_of_flight-idle : (g : Geometry) (s : ℕ) → f.hand_of_flight g (idle s) ≡ f.no_claim
unfolding f.hand_of_flight idle
hand_of_flight-idle g s = refl

pub will_raise-idle : (s : ℕ) → f.will_raise (idle s) ≡ false
unfolding f.will_raise f.is_new_at idle
will_raise-idle s = refl

pub has_raised-idle : (s : ℕ) → f.has_raised (idle s) ≡ false
unfolding f.has_raised f.is_new_at idle
has_raised-idle s = refl

pub has_room-idle : (s : ℕ) → f.has_room (idle s) ≡ false
unfolding f.has_room f.has_raised f.is_new_at idle
has_room-idle s = refl

pub is_making-idle : (s : ℕ) → f.is_making (idle s) ≡ false
unfolding f.is_making f.is_new_at idle
is_making-idle s = refl

pub has_number-idle : (s : ℕ) → f.has_number (idle s) ≡ false
unfolding f.has_number f.is_new_at idle
has_number-idle s = refl

pub holds_number-idle : (n s : ℕ) → f.holds_number n (idle s) ≡ false
unfolding f.holds_number f.has_number f.is_new_at idle
holds_number-idle n s = refl

pub has_cycle_in_frame-idle : (s : ℕ) → f.has_cycle_in_frame (idle s) ≡ false
unfolding f.has_cycle_in_frame f.has_raised f.is_load_at f.is_new_at idle
has_cycle_in_frame-idle s = refl

-- no number is held
pub held_by-idle : (g : Geometry) (n : ℕ) → held_by g idle n ≡ false
unfolding any_below
held_by-idle g n = rw (count_none (λ s. f.holds_number n (idle s)) (holds_number-idle n) (tasks g)) refl

-- every seat of the opening state is idle, and has begun no call
flight_at_opening : (g : Geometry) (s : ℕ) → flight_at (opening g) s ≡ idle s
unfolding flight_at flight_of opening
flight_at_opening g s = elim (cases_lt s (tasks g)) [
  | inl h ↦ get_or-map-range_with_len idle 0 (tasks g) s s (idle s) h (omega arith)
  | inr h ↦
      let beyond : length (map idle (range_with_len 0 (tasks g))) ≤ s = rw (length-map-range_with_len idle 0 (tasks g)) h in
      get_or-eq_default (map idle (range_with_len 0 (tasks g))) (idle s) beyond
]

pub flight_at-opening : (g : Geometry) → flight_at (opening g) ≡ idle
flight_at-opening g = fun_ext (flight_at_opening g)

begun_at_opening : (g : Geometry) (s : ℕ) → begun_at (opening g) s ≡ 0
unfolding begun_at opening
begun_at_opening g s = get_or-replicate_same {A = ℕ} (tasks g) s 0

pub begun_at-opening : (g : Geometry) → begun_at (opening g) ≡ (λ s. 0)
begun_at-opening g = fun_ext (begun_at_opening g)
