-- The plain heap at the start, seen by functions.
use Rattle.std.proofs.Common.{◌≡◌, ◌≢◌, ℕ, zero, suc, ◌-◌, ◌<◌, ◌≤◌, List, [], ◌∷◌, length, refl, arith, replicate, Option, Some, None, inl, inr}
use Rattle.std.proofs.lemmas.Bool.{cases_lt}
use Rattle.std.proofs.lemmas.List.{get_or-replicate}
use Rattle.std.proofs.Math.ListN.{get_or-eq_default, length-replicate}
use Rattle.std.proofs.lemmas.Bool.Decides.{nat_tests}
use Rattle.hk_words.specs.declared.geometry.Geometry.{Geometry}
use Rattle.hk_words.specs.Geometry.{tasks}
use Rattle.hk_model.specs.Heap.{opening, opening_of, made, first_registers, register, refs, nums, link, value, of_object}
use Rattle.hk_model.specs.History.{after, number_of, bearer, numbers, births, last_place}
use Rattle.hk_model.proofs.Views.{get_or-replicate_same}
use Rattle.hk_core.specs.View.{Names, Contents, names_of, contents_of}

-- names and contents with the board alone: it is birth 0 and number 0, and register 0 of each task holds it
pub record HasBoardAlone (g : Geometry) (names : Names) (contents : Contents) : Type 0 where
  pub bearer : names.bearer 0 ≡ Some 0
  pub no_bearer : (n : ℕ) → n ≢ 0 → names.bearer n ≡ None
  pub number : (b : ℕ) → names.number b ≡ 0
  pub refs : names.refs 0 ≡ g.board.refs
  pub nums : names.nums 0 ≡ g.board.nums
  pub board : (s : ℕ) → s < tasks g → contents.register s 0 ≡ Some 0
  pub no_register : (s r : ℕ) → r ≢ 0 → contents.register s r ≡ None
  pub no_link : (b i : ℕ) → contents.link b i ≡ None
  pub no_value : (b i : ℕ) → contents.value b i ≡ 0

bearer_first : bearer [] 0 ≡ Some 0
unfolding bearer last_place numbers births
bearer_first = refl

bearer_other : (n : ℕ) → n ≢ 0 → bearer [] n ≡ None
unfolding bearer last_place numbers births
bearer_other n h = grind (arith, nat_tests)

number_first : (b : ℕ) → number_of [] b ≡ 0
unfolding number_of numbers births
number_first zero = refl
number_first (suc b) = refl

register_first : (g : Geometry) (s : ℕ) → s < tasks g → register (after (opening_of g) []) s 0 ≡ Some 0
unfolding register after opening_of opening first_registers
register_first g s h = rw (get_or-replicate {A = List (Option ℕ)} (tasks g) s (Some 0 ∷ replicate (g.registers - 1) None) [] h) refl

register_other : (g : Geometry) (s r : ℕ) → r ≢ 0 → register (after (opening_of g) []) s r ≡ None
unfolding register after opening_of opening first_registers
register_other g s zero h = absurd (h refl)
register_other g s (suc r) h = elim (cases_lt s (tasks g)) [
  | inl b ↦ rw (get_or-replicate {A = List (Option ℕ)} (tasks g) s (Some 0 ∷ replicate (g.registers - 1) None) [] b) (get_or-replicate_same {A = Option ℕ} (g.registers - 1) r None)
  | inr b ↦
      let own : List (Option ℕ) = Some 0 ∷ replicate (g.registers - 1) None in
      let beyond : length (replicate (tasks g) own) ≤ s = rw (length-replicate {A = List (Option ℕ)} (tasks g) own) b in
      rw (get_or-eq_default (replicate (tasks g) own) [] beyond) refl
]

link_first : (g : Geometry) (b i : ℕ) → link (after (opening_of g) []) b i ≡ None
unfolding link of_object after opening_of opening made
link_first g zero i = get_or-replicate_same {A = Option ℕ} g.board.refs i None
link_first g (suc b) i = refl

value_first : (g : Geometry) (b i : ℕ) → value (after (opening_of g) []) b i ≡ 0
unfolding value of_object after opening_of opening made
value_first g zero i = get_or-replicate_same {A = ℕ} g.board.nums i 0
value_first g (suc b) i = refl

refs_first : (g : Geometry) → refs (after (opening_of g) []) 0 ≡ g.board.refs
unfolding refs of_object after opening_of opening made
refs_first g = refl

nums_first : (g : Geometry) → nums (after (opening_of g) []) 0 ≡ g.board.nums
unfolding nums of_object after opening_of opening made
nums_first g = refl

pub board_alone : (g : Geometry) → HasBoardAlone g (names_of g []) (contents_of g [])
unfolding names_of contents_of
board_alone g = record {
  bearer = bearer_first;
  no_bearer = bearer_other;
  number = number_first;
  refs = refs_first g;
  nums = nums_first g;
  board = register_first g;
  no_register = register_other g;
  no_link = link_first g;
  no_value = value_first g;
}
