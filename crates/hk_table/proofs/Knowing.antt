-- What a seat knows after actions of its own: what the run of the longer log says of it, and all that was seen where it added
-- an entry.
use Rattle.std.proofs.Common.{◌≡◌, ℕ, ◌+◌, List, [], ◌∷◌, ◌++◌, map, length, refl, sym, ◌∙◌, ap, arith, append-nil, append_assoc}
use Rattle.std.proofs.lemmas.List.{length-append}
use Rattle.std.proofs.lemmas.List.Elements.{filter-append}
use Rattle.std.proofs.lemmas.List.FromFn.{get_or-map-range_with_len, length-map-range_with_len}
use Rattle.std.specs.Prelude.{nat_eq, slice_index}
use Rattle.std.specs.List.{range_with_len}
use Rattle.hk_words.specs.declared.geometry.Geometry.{Geometry}
use Rattle.hk_model.specs.History.{History, of_seat}
use Rattle.hk_core.specs.State.{flight_of}
use Rattle.hk_core.specs.Begin.{register_word}
use Rattle.hk_core.specs.Run.{Action, Running, run, run_from_opening}
use Rattle.hk_table.specs.Actions.{Begins}
use Rattle.hk_table.specs.Knows.{PassView}
use Rattle.hk_table.specs.Rule.{PassFits}
use Rattle.hk_table.specs.Deeds.{quiet, acted, Trail}
use Rattle.hk_table.proofs.Alone.{IsAlone}
use Rattle.hk_table.proofs.Keeps.{ActsBy, acts_alone}

-- LISTS

pub nothing_more : {A : Type 0} (xs ys : List A) → xs ≡ xs ++ ys → ys ≡ []
nothing_more {A} xs ys e = empty ys (let l : length xs ≡ length xs + length ys = ap length e ∙ length-append xs ys in omega arith)
  where
    empty : (l : List A) → length l ≡ 0 → l ≡ []
    empty [] e = refl
    empty (x ∷ l) e = absurd (omega arith)

-- a list is empty, or has a last element
pub data Ending {A : Type 0} : List A → Type 0 where
  no_end : Ending []
  ends : (front : List A) (last : A) → Ending (front ++ last ∷ [])

pub ending : {A : Type 0} (l : List A) → Ending l
ending [] = no_end
ending (x ∷ l) = more x l (ending l)
  where
    more : {A : Type 0} (x : A) (l : List A) → Ending l → Ending (x ∷ l)
    more x [] no_end = ends [] x
    more x _ (ends front last) = ends (x ∷ front) last

-- WHAT THE SEAT KNOWS AFTER ITS ACTIONS

module _ (g : Geometry) (log : List Action) (p : PassView) (fits : PassFits g log (run_from_opening g log) p) (acts : List Action) (by' : ActsBy p.seat acts) where
  abbrev before : Running
  before = run_from_opening g log

  abbrev after : Running
  after = run before acts

  abbrev new_registers : List ℕ
  new_registers = map (register_word after.core p.seat) (range_with_len 0 g.registers)

  -- with what it has seen
  abbrev pub knowing : History → PassView
  knowing seen = record {
    seat = p.seat;
    registers = new_registers;
    flight = flight_of after.core.flights p.seat;
    begun = slice_index after.core.begun p.seat;
    log = log ++ acts;
    seen = seen;
    mine = of_seat after.history p.seat;
  }

  fits_so : (seen : History) → Begins after.history seen → of_seat seen p.seat ≡ of_seat after.history p.seat → PassFits g (log ++ acts) after (knowing seen)
  fits_so seen saw own = record {
    seat = fits.seat;
    stands = record { begins = ([], sym (append-nil (log ++ acts))); acts = refl; saw = saw; seen_mine = own; all_mine = refl };
    flight = refl;
    begun = refl;
    registers = λ reg there. sym (get_or-map-range_with_len (register_word after.core p.seat) 0 g.registers reg reg 0 there (omega arith));
    count = length-map-range_with_len (register_word after.core p.seat) 0 g.registers;
  }

  alone : IsAlone g p.seat before after
  alone = acts_alone g p.seat fits.seat acts log by'

  mine_longer : of_seat after.history p.seat ≡ p.mine ++ alone.longer.0
  unfolding of_seat
  mine_longer =
      ap (λ (h : History). of_seat h p.seat) alone.longer.1 ∙ filter-append (λ e. nat_eq e.seat p.seat) before.history alone.longer.0
      ∙ (λ i. fits.stands.all_mine i ++ alone.longer.2 i)

  -- what it knows, and what it adds
  pub record Knowing : Type 0 where
    pub seen : History
    pub so : PassFits g (log ++ acts) after (knowing seen)
    pub more : History
    pub trail : Trail p (knowing seen) more

  knows_so : (more : History) → after.history ≡ before.history ++ more → of_seat after.history p.seat ≡ p.mine ++ more → Ending more → Knowing
  knows_so _ longer mine no_end =
      let same : of_seat after.history p.seat ≡ p.mine = mine ∙ append-nil p.mine in
      let saw = fits.stands.saw in
      record {
        seen = p.seen;
        so = fits_so p.seen (saw.0, longer ∙ append-nil before.history ∙ saw.1) (fits.stands.seen_mine ∙ sym same);
        more = [];
        trail = quiet same refl;
      }
  knows_so _ longer mine (ends front last) =
      let saw = fits.stands.saw in
      record {
        seen = after.history;
        so = fits_so after.history ([], sym (append-nil after.history)) refl;
        more = front ++ last ∷ [];
        trail = acted front last (before.history ++ front) mine (longer ∙ sym (append_assoc before.history front (last ∷ [])))
            (saw.0 ++ front, ap (λ (h : History). h ++ front) saw.1 ∙ append_assoc p.seen saw.0 front);
      }

  pub knows_more : Knowing
  knows_more = knows_so alone.longer.0 alone.longer.1 mine_longer (ending alone.longer.0)
