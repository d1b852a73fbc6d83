-- A Load and a Store that have reserved a place that fits write the link word there; others rest. And this step on the row.
use Rattle.std.proofs.Common.{◌≡◌, ◌≢◌, ℕ, ◌+◌, ◌-◌, ◌*◌, ◌%◌, ◌<◌, ◌≤◌, Bool, true, false, List, length, inl, inr, refl, sym, ◌∙◌, ap, arith, Option, Some, None}
use Rattle.std.proofs.lemmas.Bool.{and_parts, and_from, and_right, cases_Bool, leb-true}
use Rattle.std.specs.Prelude.{◌&&◌}
use Rattle.hk_words.specs.declared.geometry.Geometry.{Geometry}
use Rattle.hk_words.specs.declared.call.Call.{Call}
use Rattle.hk_words.specs.declared.call.Call.TheVariants as call
use Rattle.hk_words.specs.Geometry.{tasks, space_words, row_length}
use Rattle.hk_words.specs.Row.{place_at, space_at}
use Rattle.hk_model.specs.View.{upd}
use Rattle.hk_model.proofs.Updates.{upd_other}
use Rattle.hk_core.specs.declared.event.Event.TheVariants as event
use Rattle.hk_core.specs.declared.flight.Flight.{Flight}
use Rattle.hk_core.specs.declared.spot.Spot.{Spot}
use Rattle.hk_core.specs.Event.{fired_if, learnt}
use Rattle.hk_core.specs.Step.{reference_size, reserved_fits, side_of, link, load_event, load_took, load_entry_of, store_event, store_took, store_entry, event_at, event_of, took_at, took_of, effect_at, effect_of}
use Rattle.hk_core.specs.View.{Words, Names, Contents, words_of}
use Rattle.hk_core.specs.Flights as f
use Rattle.hk_core.specs.Flights.{no_claim, to_link, hand_of_flight}
use Rattle.hk_core.specs.Colours.{spaces_of, Shades, shades_of, Covers, IsGood}
use Rattle.hk_core.specs.Facts.{HoldsRange}
use Rattle.hk_core.specs.Lawful.{Facts, FactsOf, hands_of}
use Rattle.hk_core.proofs.Update.{upd_own}
use Rattle.hk_core.proofs.Columns.{fired_if_some, fired_if_none}
use Rattle.hk_core.proofs.kinds.Words.{words-write_cell}
use Rattle.hk_core.proofs.kinds.Read.{ShapesFit}
use Rattle.hk_core.proofs.kinds.WriteCell.{ShadesMean, shades_mean, cell_words, shades_cell}
use Rattle.hk_core.proofs.kinds.ClaimFlights.{GoesOnInClaim, claim_on, go_on_in_claim, hands_set, hand_of_seat, shades_in_claim}
use Rattle.hk_core.proofs.kinds.ClaimSeats.{load_item_good, store_item_good}
use Rattle.hk_core.proofs.kinds.ClaimWords.{link_place_fits}
use Rattle.hk_core.proofs.kinds.ReserveSeats.{SparesObjects}
use Rattle.hk_core.proofs.kinds.Link.{CanLink, in_no_object, link_facts}

-- the call has still to write the link word
abbrev pub links : Geometry → Flight → Bool
links g x = x.claimer && reserved_fits g x.offset x.item

-- the place of the link word
abbrev pub link_place : Geometry → Flight → ℕ
link_place g x = place_at g (side_of x) x.offset

-- TABLES

-- the tables of a call that links at its place p, if it is the claimer, and is done with its claim at q
pub record LinksAt (call : Call) (p q : ℕ) : Type 0 where
  pub goes_on : GoesOnInClaim call p q
  pub has_claimed : f.has_claimed_at call q ≡ true → f.has_claimed_at call p ≡ true
  pub reserves_before : f.reserves_at call p ≡ false
  pub links_before : f.links_at call p ≡ true
  pub reserves : f.reserves_at call q ≡ false
  pub links : f.links_at call q ≡ false

module _ (g : Geometry) (x : Flight) (q : ℕ) (t : LinksAt x.call x.place q) where
  -- the claim in hand, where there is one, and none after
  hand_before_link : links g x ≡ true → hand_of_flight g x ≡ to_link x.item (f.cycle_of x) x.offset
  unfolding f.hand_of_flight
  hand_before_link e = rw (t.reserves_before, t.links_before, and_right x.claimer false refl, e) refl

  no_hand_before_link : links g x ≡ false → hand_of_flight g x ≡ no_claim
  unfolding f.hand_of_flight
  no_hand_before_link e = rw (t.reserves_before, t.links_before, and_right x.claimer false refl, e) refl

  hand_after_link : hand_of_flight g (claim_on x q x.claimer x.offset) ≡ no_claim
  unfolding f.hand_of_flight
  hand_after_link = rw (t.reserves, t.links, and_right x.claimer false refl) refl

  link_claimed : f.has_claimed (claim_on x q x.claimer x.offset) ≡ true → f.has_claimed x ≡ true
  unfolding f.has_claimed
  link_claimed e = let p = and_parts _ _ e in and_from _ _ (t.has_claimed p.0) p.1

-- the place of the link word is one of the current space, where the claim is of this cycle
link_place_is : (g : Geometry) (c cycle offset : ℕ) → c ≡ cycle → place_at g (c % 2) offset ≡ (spaces_of g cycle).current + offset
link_place_is g c cycle offset e = rw e (at_first ((cycle % 2) * space_words g) offset)
  where
    at_first : (a b : ℕ) → 1 + a + b ≡ 1 + a + 0 + b
    at_first a b = omega arith

-- ALL FACTS

-- what such a call shows of its link
can_link : (g : Geometry) (w : Words) (flight : ℕ → Flight) (begun : ℕ → ℕ) (t : Spot) (names : Names) (contents : Contents) (range : ℕ → Option ℕ) (s q : ℕ)
    → s < tasks g → LinksAt (flight s).call (flight s).place q → links g (flight s) ≡ true
    → ((flight s).item ≢ 0 → IsGood (shades_of g w flight t.line names).kept names (flight s).item)
    → FactsOf g w flight begun t names contents range
    → CanLink g w.cycle (spaces_of g w.cycle) names (hands_of g flight t) s (flight s).item (f.cycle_of (flight s)) (flight s).offset
can_link g w flight begun t names contents range s q below e in_hand item h =
    let x = flight s in
    let holds : hands_of g flight t s ≡ to_link x.item (f.cycle_of x) x.offset = hand_of_seat g t flight s below ∙ hand_before_link g x q e in_hand in
    record { within = omega arith; holds = holds; shows = (item (h.claims_unlinked s x.item (f.cycle_of x) x.offset (omega arith) holds).some).shows; current = refl; live = refl }

-- after the claimer of a good reference has linked
pub links_facts : (g : Geometry) (w : Words) (flight : ℕ → Flight) (begun : ℕ → ℕ) (t : Spot) (names : Names) (contents : Contents) (range : ℕ → Option ℕ) (s q : ℕ)
    → s < tasks g → LinksAt (flight s).call (flight s).place q → links g (flight s) ≡ true
    → ((flight s).item ≢ 0 → IsGood (shades_of g w flight t.line names).kept names (flight s).item) → ShapesFit names
    → FactsOf g w flight begun t names contents range
    → FactsOf g (cell_words w (link_place g (flight s)) (flight s).item) (upd flight s (claim_on (flight s) q (flight s).claimer (flight s).offset)) begun t names contents range
links_facts g w flight begun t names contents range s q below e in_hand item fit h =
    let x = flight s in
    let c = f.cycle_of x in
    let y = claim_on x q x.claimer x.offset in
    let z = spaces_of g w.cycle in
    let sh = shades_of g w flight t.line names in
    let p = z.current + x.offset in
    let words = cell_words w p x.item in
    let m : ShadesMean g w z sh flight t.line names = shades_mean g w flight t.line names in
    let can : CanLink g w.cycle z names (hands_of g flight t) s x.item c x.offset = can_link g w flight begun t names contents range s q below e in_hand item h in
    let held : HoldsRange z w.cycle sh.grey sh.size w.cell range x.item c x.offset = h.claims_unlinked s x.item c x.offset can.within can.holds in
    let linked : Facts g words z sh flight begun (upd (hands_of g flight t) s no_claim) t names contents range =
    link_facts g w z sh flight begun (hands_of g flight t) t names contents range h m fit s x.item c x.offset can in
    let on : Facts g words z sh (upd flight s y) begun (upd (hands_of g flight t) s no_claim) t names contents range =
    go_on_in_claim g words z sh flight begun (upd (hands_of g flight t) s no_claim) t names contents range s q x.claimer x.offset below e.goes_on
    (λ a. h.claims_last s below (link_claimed g x q e a)) linked in
    let hands : hands_of g (upd flight s y) t ≡ upd (hands_of g flight t) s no_claim =
    hands_set g t flight s y below ∙ ap (upd (hands_of g flight t) s) (hand_after_link g x q e) in
    let shades : shades_of g words (upd flight s y) t.line names ≡ sh =
    shades_in_claim g words t.line names flight s q x.claimer x.offset e.goes_on ∙ shades_cell g w p x.item flight t.line names in
    rw (link_place_is g c w.cycle x.offset held.of_cycle) (rw (hands, shades) on)

-- and after a rest in place of the link of a call that isn't the claimer, or whose place doesn't fit
pub links_rests : (g : Geometry) (w : Words) (flight : ℕ → Flight) (begun : ℕ → ℕ) (t : Spot) (names : Names) (contents : Contents) (range : ℕ → Option ℕ) (s q : ℕ)
    → s < tasks g → LinksAt (flight s).call (flight s).place q → links g (flight s) ≡ false
    → FactsOf g w flight begun t names contents range
    → FactsOf g w (upd flight s (claim_on (flight s) q (flight s).claimer (flight s).offset)) begun t names contents range
links_rests g w flight begun t names contents range s q below e none h =
    let x = flight s in
    let y = claim_on x q x.claimer x.offset in
    let z = spaces_of g w.cycle in
    let sh = shades_of g w flight t.line names in
    let on : Facts g w z sh (upd flight s y) begun (hands_of g flight t) t names contents range =
    go_on_in_claim g w z sh flight begun (hands_of g flight t) t names contents range s q x.claimer x.offset below e.goes_on
    (λ a. h.claims_last s below (link_claimed g x q e a)) h in
    let free : no_claim ≡ hands_of g flight t s = sym (hand_of_seat g t flight s below ∙ no_hand_before_link g x q e none) in
    let hands : hands_of g (upd flight s y) t ≡ hands_of g flight t =
    hands_set g t flight s y below ∙ ap (upd (hands_of g flight t) s) (hand_after_link g x q e) ∙ upd_own (hands_of g flight t) s no_claim free in
    let shades : shades_of g w (upd flight s y) t.line names ≡ sh = shades_in_claim g w t.line names flight s q x.claimer x.offset e.goes_on in
    rw (hands, shades) on

-- LOAD AND STORE

pub load_links_at : (dest reg field : ℕ) → LinksAt (call.Load dest reg field) 7 8
unfolding f.in_object_at f.before_object_at f.register_stays_at f.is_load_at f.is_new_at f.in_frame_at f.before_frame_at f.has_cycle_inside_at f.has_claimed_at f.reserves_at f.links_at f.has_item_at f.holds_back_at
load_links_at dest reg field = record {
  goes_on = record {
    goes = record {
      flying = refl;
      in_row = omega arith;
      in_step = λ full raised h. h;
      register_stays = refl;
      is_load = refl;
      will_raise = refl;
      raised_before = refl;
      raised = refl;
      making = refl;
      numbered_before = refl;
      numbered = refl;
    };
    same_object = record { inside = refl; before = refl };
    same_frame = record { inside = refl; before = refl };
    same_item = record { has_item = refl; has_loaded = refl; has_loaded_inside = λ h. h; has_written = refl; holds_back = λ r. refl };
    has_cycle_in_frame = λ h. h;
    has_cycle = λ b h. h;
  };
  has_claimed = λ h. h;
  reserves_before = refl;
  links_before = refl;
  reserves = refl;
  links = refl;
}

pub store_links_at : (reg field from : ℕ) → LinksAt (call.Store reg field from) 5 6
unfolding f.in_object_at f.before_object_at f.register_stays_at f.is_load_at f.is_new_at f.in_frame_at f.before_frame_at f.has_cycle_inside_at f.has_claimed_at f.reserves_at f.links_at f.has_item_at f.holds_back_at
store_links_at reg field from = record {
  goes_on = record {
    goes = record {
      flying = refl;
      in_row = omega arith;
      in_step = λ full raised h. h;
      register_stays = refl;
      is_load = refl;
      will_raise = refl;
      raised_before = refl;
      raised = refl;
      making = refl;
      numbered_before = refl;
      numbered = refl;
    };
    same_object = record { inside = refl; before = refl };
    same_frame = record { inside = refl; before = refl };
    same_item = record { has_item = refl; has_loaded = refl; has_loaded_inside = λ h. h; has_written = refl; holds_back = λ r. refl };
    has_cycle_in_frame = λ h. h;
    has_cycle = λ b h. h;
  };
  has_claimed = λ h. h;
  reserves_before = refl;
  links_before = refl;
  reserves = refl;
  links = refl;
}

-- THE ROW

-- the event of a link, a rest where there is nothing to link, and the flight after it
pub record LinkSteps (g : Geometry) (x : Flight) (q : ℕ) : Type 0 where
  pub event : links g x ≡ true → event_of g x ≡ Some (event.Write (space_at g (link_place g x)) x.item)
  pub rest : links g x ≡ false → event_of g x ≡ None
  pub took : (old : ℕ) → took_of g x old ≡ claim_on x q x.claimer x.offset

-- what the words say after a link
pub words-link : (g : Geometry) (row : List ℕ) → length row ≡ row_length g → (x : Flight) → links g x ≡ true
    → words_of g (fired_if row (Some (event.Write (space_at g (link_place g x)) x.item))) ≡ cell_words (words_of g row) (link_place g x) x.item
words-link g row whole x in_hand =
    let p = link_place g x in
    let fires = event.Write (space_at g p) x.item in
    let fits : x.offset + reference_size x.item ≤ g.live = leb-true (x.offset + reference_size x.item) g.live (and_parts x.claimer (reserved_fits g x.offset x.item) in_hand).1 in
    let within : (0 < p) × (p ≤ 2 * space_words g) = link_place_fits g (f.cycle_of x) x.offset (reference_size x.item) (omega arith) fits in
    ap (words_of g) (fired_if_some row fires) ∙ words-write_cell g row whole p x.item within.0 within.1

-- all facts hold of the row and of the flights after a call has linked or rested
pub links_row : (g : Geometry) (row : List ℕ) (flight : ℕ → Flight) (begun : ℕ → ℕ) (t : Spot) (names : Names) (contents : Contents) (range : ℕ → Option ℕ) (s q : ℕ)
    → s < tasks g → LinksAt (flight s).call (flight s).place q → LinkSteps g (flight s) q → length row ≡ row_length g
    → ((flight s).item ≢ 0 → IsGood (shades_of g (words_of g row) flight t.line names).kept names (flight s).item) → ShapesFit names
    → FactsOf g (words_of g row) flight begun t names contents range
    → FactsOf g (words_of g (fired_if row (event_of g (flight s)))) (upd flight s (took_of g (flight s) (learnt row (event_of g (flight s))))) begun t names contents range
links_row g row flight begun t names contents range s q below e step whole item fit h =
    let x = flight s in
    let w = words_of g row in
    let p = link_place g x in
    elim (cases_Bool (links g x)) [
      | inl in_hand ↦
          let fires = event.Write (space_at g p) x.item in
          let words : words_of g (fired_if row (Some fires)) ≡ cell_words w p x.item = words-link g row whole x in_hand in
          rw (step.event in_hand) (rw (words, step.took (learnt row (Some fires))) (links_facts g w flight begun t names contents range s q below e in_hand item fit h))
      | inr none ↦ rw (step.rest none) (rw (fired_if_none row, step.took (learnt row None)) (links_rests g w flight begun t names contents range s q below e none h))
    ]

-- the word that a link writes is in no kept object
pub links_spare : (g : Geometry) (row : List ℕ) (flight : ℕ → Flight) (begun : ℕ → ℕ) (t : Spot) (names : Names) (contents : Contents) (range : ℕ → Option ℕ) (s q : ℕ)
    → s < tasks g → LinksAt (flight s).call (flight s).place q → LinkSteps g (flight s) q → length row ≡ row_length g
    → ((flight s).item ≢ 0 → IsGood (shades_of g (words_of g row) flight t.line names).kept names (flight s).item) → ShapesFit names
    → FactsOf g (words_of g row) flight begun t names contents range
    → SparesObjects (words_of g row) (words_of g (fired_if row (event_of g (flight s)))) (shades_of g (words_of g row) flight t.line names)
links_spare g row flight begun t names contents range s q below e step whole item fit h =
    let x = flight s in
    let w = words_of g row in
    let z = spaces_of g w.cycle in
    let sh = shades_of g w flight t.line names in
    elim (cases_Bool (links g x)) [
      | inl in_hand ↦
          let can : CanLink g w.cycle z names (hands_of g flight t) s x.item (f.cycle_of x) x.offset = can_link g w flight begun t names contents range s q below e in_hand item h in
          let held : HoldsRange z w.cycle sh.grey sh.size w.cell range x.item (f.cycle_of x) x.offset = h.claims_unlinked s x.item (f.cycle_of x) x.offset can.within can.holds in
          let place : link_place g x ≡ z.current + x.offset = link_place_is g (f.cycle_of x) w.cycle x.offset held.of_cycle in
          let apart : (n i : ℕ) → sh.kept n ≡ true → i < sh.size n → w.place n + i ≢ z.current + x.offset =
          in_no_object g w z sh flight begun (hands_of g flight t) t names contents range h (shades_mean g w flight t.line names) fit s x.item (f.cycle_of x) x.offset can in
          rw (step.event in_hand) (rw (words-link g row whole x in_hand) (record { place = refl; cells = λ n p kept covers. upd_other w.cell (link_place g x) x.item p (outside w sh n p (link_place g x) covers (λ i within. λ same. apart n i kept within (same ∙ place))) }))
      | inr none ↦ rw (step.rest none) (rw (fired_if_none row) (record { place = refl; cells = λ n p kept covers. refl }))
    ]
  where
    outside : (w : Words) (sh : Shades) (n p other : ℕ) → Covers (w.place n) (sh.size n) p → ((i : ℕ) → i < sh.size n → w.place n + i ≢ other) → p ≢ other
    outside w sh n p other covers apart same =
        let after : w.place n ≤ p = covers.after in
        let before : p < w.place n + sh.size n = covers.before in
        apart (p - w.place n) (omega arith) (omega arith)

module _ (g : Geometry) (x : Flight) (dest reg field : ℕ) (is_load : x.call ≡ call.Load dest reg field) (at_7 : x.place ≡ 7) where
  -- the event of a Load's link, and the flight after it; no entry is added
  pub load_link_event : links g x ≡ true → event_of g x ≡ Some (event.Write (space_at g (link_place g x)) x.item)
  unfolding event_of event_at load_event link
  load_link_event in_hand = rw (is_load, at_7, in_hand) refl

  pub load_link_rest : links g x ≡ false → event_of g x ≡ None
  unfolding event_of event_at load_event link
  load_link_rest none = rw (is_load, at_7, none) refl

  pub load_link_took : (old : ℕ) → took_of g x old ≡ claim_on x 8 x.claimer x.offset
  unfolding took_of took_at load_took
  load_link_took old = rw (is_load, at_7) refl

  pub load_link_entry : (old : ℕ) → effect_of g x old ≡ None
  unfolding effect_of effect_at load_entry_of
  load_link_entry old = rw (is_load, at_7) refl

  pub load_link_steps : LinkSteps g x 8
  load_link_steps = record { event = load_link_event; rest = load_link_rest; took = load_link_took }

module _ (g : Geometry) (x : Flight) (reg field from : ℕ) (is_store : x.call ≡ call.Store reg field from) (at_5 : x.place ≡ 5) where
  -- that of a Store's link
  pub store_link_event : links g x ≡ true → event_of g x ≡ Some (event.Write (space_at g (link_place g x)) x.item)
  unfolding event_of event_at store_event link
  store_link_event in_hand = rw (is_store, at_5, in_hand) refl

  pub store_link_rest : links g x ≡ false → event_of g x ≡ None
  unfolding event_of event_at store_event link
  store_link_rest none = rw (is_store, at_5, none) refl

  pub store_link_took : (old : ℕ) → took_of g x old ≡ claim_on x 6 x.claimer x.offset
  unfolding took_of took_at store_took
  store_link_took old = rw (is_store, at_5) refl

  pub store_link_entry : (old : ℕ) → effect_of g x old ≡ None
  unfolding effect_of effect_at store_entry
  store_link_entry old = rw (is_store, at_5) refl

  pub store_link_steps : LinkSteps g x 6
  store_link_steps = record { event = store_link_event; rest = store_link_rest; took = store_link_took }

-- all facts hold of the row and of the flights after a Load, or a Store, has linked or rested
pub load_links_row : (g : Geometry) (row : List ℕ) (flight : ℕ → Flight) (begun : ℕ → ℕ) (t : Spot) (names : Names) (contents : Contents) (range : ℕ → Option ℕ) (s dest reg field : ℕ)
    → s < tasks g → (flight s).call ≡ call.Load dest reg field → (flight s).place ≡ 7 → length row ≡ row_length g → ShapesFit names
    → FactsOf g (words_of g row) flight begun t names contents range
    → FactsOf g (words_of g (fired_if row (event_of g (flight s)))) (upd flight s (took_of g (flight s) (learnt row (event_of g (flight s))))) begun t names contents range
load_links_row g row flight begun t names contents range s dest reg field below is_load at_7 whole fit h =
    links_row g row flight begun t names contents range s 8 below (rw (is_load, at_7) (load_links_at dest reg field)) (load_link_steps g (flight s) dest reg field is_load at_7) whole
    (λ some. load_item_good g (shades_of g (words_of g row) flight t.line names).kept names flight s dest reg field below is_load (rw at_7 refl) some h.loaded_good) fit h

pub store_links_row : (g : Geometry) (row : List ℕ) (flight : ℕ → Flight) (begun : ℕ → ℕ) (t : Spot) (names : Names) (contents : Contents) (range : ℕ → Option ℕ) (s reg field from : ℕ)
    → s < tasks g → (flight s).call ≡ call.Store reg field from → (flight s).place ≡ 5 → length row ≡ row_length g → ShapesFit names
    → FactsOf g (words_of g row) flight begun t names contents range
    → FactsOf g (words_of g (fired_if row (event_of g (flight s)))) (upd flight s (took_of g (flight s) (learnt row (event_of g (flight s))))) begun t names contents range
store_links_row g row flight begun t names contents range s reg field from below is_store at_5 whole fit h =
    links_row g row flight begun t names contents range s 6 below (rw (is_store, at_5) (store_links_at reg field from)) (store_link_steps g (flight s) reg field from is_store at_5) whole
    (λ some. store_item_good g (shades_of g (words_of g row) flight t.line names).kept names (words_of g row).register flight s reg field from below is_store (rw at_5 refl) some h.flights_formed h.copied_stays h.registers_good) fit h

-- and this place leaves every kept object alone
pub load_links_spare : (g : Geometry) (row : List ℕ) (flight : ℕ → Flight) (begun : ℕ → ℕ) (t : Spot) (names : Names) (contents : Contents) (range : ℕ → Option ℕ) (s dest reg field : ℕ)
    → s < tasks g → (flight s).call ≡ call.Load dest reg field → (flight s).place ≡ 7 → length row ≡ row_length g → ShapesFit names
    → FactsOf g (words_of g row) flight begun t names contents range
    → SparesObjects (words_of g row) (words_of g (fired_if row (event_of g (flight s)))) (shades_of g (words_of g row) flight t.line names)
load_links_spare g row flight begun t names contents range s dest reg field below is_load at_7 whole fit h =
    links_spare g row flight begun t names contents range s 8 below (rw (is_load, at_7) (load_links_at dest reg field)) (load_link_steps g (flight s) dest reg field is_load at_7) whole
    (λ some. load_item_good g (shades_of g (words_of g row) flight t.line names).kept names flight s dest reg field below is_load (rw at_7 refl) some h.loaded_good) fit h

pub store_links_spare : (g : Geometry) (row : List ℕ) (flight : ℕ → Flight) (begun : ℕ → ℕ) (t : Spot) (names : Names) (contents : Contents) (range : ℕ → Option ℕ) (s reg field from : ℕ)
    → s < tasks g → (flight s).call ≡ call.Store reg field from → (flight s).place ≡ 5 → length row ≡ row_length g → ShapesFit names
    → FactsOf g (words_of g row) flight begun t names contents range
    → SparesObjects (words_of g row) (words_of g (fired_if row (event_of g (flight s)))) (shades_of g (words_of g row) flight t.line names)
store_links_spare g row flight begun t names contents range s reg field from below is_store at_5 whole fit h =
    links_spare g row flight begun t names contents range s 6 below (rw (is_store, at_5) (store_links_at reg field from)) (store_link_steps g (flight s) reg field from is_store at_5) whole
    (λ some. store_item_good g (shades_of g (words_of g row) flight t.line names).kept names (words_of g row).register flight s reg field from below is_store (rw at_5 refl) some h.flights_formed h.copied_stays h.registers_good) fit h
