-- A Load and a Store that are claimers reserve a place for the object of their reference; those that aren't rest. And the steps
-- of their claim and of their reserve, on the row.
use Rattle.std.proofs.Common.{◌≡◌, ◌≢◌, ℕ, zero, suc, ◌+◌, ◌<◌, ◌≤◌, true, false, List, [], ◌∷◌, length, map, filter, slice_get, length-append, inl, inr, refl, sym, ◌∙◌, ap, arith, Option, Some, None}
use Rattle.std.proofs.lemmas.Bool.{and_parts, and_from, cases_Bool, cases_eq, eq-eqb, ne_eqb}
use Rattle.std.proofs.lemmas.List.Elements.{filter-append}
use Rattle.std.specs.Prelude.{is_some, unwrap_or, option_map, if◌then◌else◌}
use Rattle.hk_words.specs.declared.geometry.Geometry.{Geometry}
use Rattle.hk_words.specs.declared.call.Call.{Call}
use Rattle.hk_words.specs.declared.call.Call.TheVariants as call
use Rattle.hk_words.specs.declared.call.Reply.{Reply}
use Rattle.hk_words.specs.declared.call.Reply.TheVariants as reply
use Rattle.hk_words.specs.Geometry.{tasks, numbers, row_length}
use Rattle.hk_words.specs.Row.{w1_at, mark_at}
use Rattle.hk_words.specs.Row.Slot.{W1, Mark}
use Rattle.hk_model.specs.View.{upd}
use Rattle.hk_model.specs.Heap as heap
use Rattle.hk_model.specs.Heap.{Object, Heap, born, of_object}
use Rattle.hk_model.specs.History.{Entry, History, is_birth, births, after_entry, after, numbers as numbers_given}
use Rattle.hk_model.proofs.Histories.{bearer_is_last, born-heap_after_other, born-heap_after_new}
use Rattle.hk_core.specs.declared.event.Event.TheVariants as event
use Rattle.hk_core.specs.declared.flight.Flight.{Flight}
use Rattle.hk_core.specs.declared.spot.Spot.{Spot}
use Rattle.hk_core.specs.declared.spot.Line.{Line}
use Rattle.hk_core.specs.Event.{fired_if, learnt}
use Rattle.hk_core.specs.Step.{reference_size, claims, claim, reserve, load_event, load_took, load_entry_of, store_event, store_took, store_entry, event_at, event_of, took_at, took_of, effect_at, effect_of}
use Rattle.hk_core.specs.View.{Words, Names, Contents, refs_at, nums_at, size_at, names_of, words_of, decoded}
use Rattle.hk_core.specs.Flights as f
use Rattle.hk_core.specs.Flights.{no_claim, to_reserve, hand_of_flight}
use Rattle.hk_core.specs.Colours.{spaces_of, Shades, shades_of, Covers, IsGood}
use Rattle.hk_core.specs.Facts.{HoldsClaim}
use Rattle.hk_core.specs.Lawful.{Facts, FactsOf, hands_of}
use Rattle.hk_core.proofs.Update.{upd_own}
use Rattle.hk_core.proofs.Columns.{fired_if_some, fired_if_none, old_at, raw_mark, raw_w1, nothing_learnt}
use Rattle.hk_core.proofs.kinds.Seats.{kept_means}
use Rattle.hk_core.proofs.kinds.Read.{ShapesFit}
use Rattle.hk_core.proofs.kinds.WriteCell.{ShadesMean, shades_mean, reference_parts, size_of_reference}
use Rattle.hk_core.proofs.kinds.Claim.{claim_words}
use Rattle.hk_core.proofs.kinds.ClaimFlights.{GoesOnInClaim, claim_on, go_on_in_claim, hands_set, hand_of_seat, shades_in_claim}
use Rattle.hk_core.proofs.kinds.ClaimSeats.{ClaimsAt, claimed_number, claims_facts, claims_rests, load_claims_at, store_claims_at, load_item_good, store_item_good}
use Rattle.hk_core.proofs.kinds.ClaimWords.{words-claim, words-reserve}
use Rattle.hk_core.proofs.kinds.Reserve.{CanReserve, reserve_words, reserve_range, reserve_hand, reserve_facts}

-- THE WORDS OF AN OBJECT

-- each birth that bears a number has a field
abbrev pub BearersHaveFields : Names → Type 0
BearersHaveFields names = (n b : ℕ) → names.bearer n ≡ Some b → 0 < names.refs b + names.nums b

-- so an object that is borne has two words or more
pub two_words : (names : Names) (n : ℕ) → BearersHaveFields names → is_some (names.bearer n) ≡ true → 2 ≤ size_at names n
unfolding size_at refs_at nums_at
two_words names n fields born = by_bearer (names.bearer n) refl born
  where
    by_bearer : (o : Option ℕ) → names.bearer n ≡ o → is_some o ≡ true
        → 2 ≤ 1 + unwrap_or (option_map names.refs (names.bearer n)) 0 + unwrap_or (option_map names.nums (names.bearer n)) 0
    by_bearer None e some = absurd (cc)
    by_bearer (Some b) e some = let field : 0 < names.refs b + names.nums b = fields n b e in rw e (omega arith)

-- each object has a field
fields_of_object : (objects : List Object) (i : ℕ) → i < length objects
    → 0 < unwrap_or (option_map (λ (o : Object). o.shape.refs) (slice_get objects i)) 0 + unwrap_or (option_map (λ (o : Object). o.shape.nums) (slice_get objects i)) 0
fields_of_object [] i below = absurd (omega arith)
fields_of_object (o ∷ objects) zero below = o.shape.some
fields_of_object (o ∷ objects) (suc i) below = fields_of_object objects i (omega arith)

fields_of_birth : (h : Heap) (birth : ℕ) → birth < born h → 0 < heap.refs h birth + heap.nums h birth
unfolding born heap.refs heap.nums of_object
fields_of_birth h birth below = fields_of_object h.objects birth below

one_born : (g : Geometry) → born (heap.opening_of g) ≡ 1
unfolding born heap.opening_of heap.opening
one_born g = refl

-- an entry that is a birth adds an object
object_of_entry : (h : Heap) (seat number : ℕ) (call : Call) (reply : Reply)
    → born h + length (filter is_birth (record { seat = seat; call = call; reply = reply; number = number } ∷ [])) ≤ born (after_entry h (record { seat = seat; call = call; reply = reply; number = number }))
unfolding after_entry
object_of_entry h seat number (call.Get reg field) reply = let e = born-heap_after_other h seat (call.Get reg field) refl in omega arith
object_of_entry h seat number (call.Put reg field v) reply = let e = born-heap_after_other h seat (call.Put reg field v) refl in omega arith
object_of_entry h seat number (call.Load dest reg field) reply = let e = born-heap_after_other h seat (call.Load dest reg field) refl in omega arith
object_of_entry h seat number (call.Store reg field from) reply = let e = born-heap_after_other h seat (call.Store reg field from) refl in omega arith
object_of_entry h seat number (call.Move dest from) reply = let e = born-heap_after_other h seat (call.Move dest from) refl in omega arith
object_of_entry h seat number (call.Clear dest) reply = let e = born-heap_after_other h seat (call.Clear dest) refl in omega arith
object_of_entry h seat number (call.New dest shape) reply.Unit = let e = born-heap_after_new h seat dest shape in omega arith
object_of_entry h seat number (call.New dest shape) (reply.Num v) = let e = born-heap_after_new h seat dest shape in omega arith
object_of_entry h seat number (call.New dest shape) reply.Yes = let e = born-heap_after_new h seat dest shape in omega arith
object_of_entry h seat number (call.New dest shape) reply.No = let e = born-heap_after_new h seat dest shape in omega arith
object_of_entry h seat number (call.New dest shape) reply.Nil = let e = born-heap_after_new h seat dest shape in omega arith
object_of_entry h seat number (call.New dest shape) reply.Field = let e = born-heap_after_new h seat dest shape in omega arith
object_of_entry h seat number (call.New dest shape) reply.Full = omega arith
object_of_entry h seat number (call.Same a b) reply = let e = born-heap_after_other h seat (call.Same a b) refl in omega arith
object_of_entry h seat number (call.IsNull reg) reply = let e = born-heap_after_other h seat (call.IsNull reg) refl in omega arith

-- so each birth has its object
objects_of_births : (start : Heap) (past : History) → born start + length (births past) ≤ born (after start past)
unfolding after births
objects_of_births start [] = omega arith
objects_of_births start (e ∷ later) =
    let one : born start + length (filter is_birth (e ∷ [])) ≤ born (after_entry start e) = object_of_entry start e.seat e.number e.call e.reply in
    let more : born (after_entry start e) + length (filter is_birth later) ≤ born (after (after_entry start e) later) = objects_of_births (after_entry start e) later in
    let parts : length (filter is_birth (e ∷ later)) ≡ length (filter is_birth (e ∷ [])) + length (filter is_birth later) =
    ap length (filter-append is_birth (e ∷ []) later) ∙ length-append (filter is_birth (e ∷ [])) (filter is_birth later) in
    omega arith

length_of_numbers : (entries : List Entry) → length (map (λ (e : Entry). e.number) entries) ≡ length entries
length_of_numbers [] = refl
length_of_numbers (e ∷ entries) = ap suc (length_of_numbers entries)

objects_of_numbers : (g : Geometry) (past : History) → length (numbers_given past) ≤ born (after (heap.opening_of g) past)
unfolding numbers_given
objects_of_numbers g past =
    let one = one_born g in
    let each = objects_of_births (heap.opening_of g) past in
    let same : length (map (λ (e : Entry). e.number) (births past)) ≡ length (births past) = length_of_numbers (births past) in
    omega arith

-- along a history each birth that bears a number has a field
pub bearers_have_fields : (g : Geometry) (past : History) → BearersHaveFields (names_of g past)
unfolding names_of
bearers_have_fields g past n b e =
    let within : b < length (numbers_given past) = ((bearer_is_last past n b).0 e).0 in
    let some = objects_of_numbers g past in
    fields_of_birth (after (heap.opening_of g) past) b (omega arith)

-- TABLES

-- the tables of a call that reserves at its place p, if it is the claimer, and links at q
pub record ReservesAt (call : Call) (p q : ℕ) : Type 0 where
  pub goes_on : GoesOnInClaim call p q
  pub has_claimed : f.has_claimed_at call q ≡ true → f.has_claimed_at call p ≡ true
  pub reserves_before : f.reserves_at call p ≡ true
  pub reserves : f.reserves_at call q ≡ false
  pub links : f.links_at call q ≡ true

module _ (g : Geometry) (x : Flight) (q : ℕ) (t : ReservesAt x.call x.place q) where
  -- the claimer has its claim in hand before, and what is left of it after
  hand_before_reserve : x.claimer ≡ true → hand_of_flight g x ≡ to_reserve x.item (f.cycle_of x)
  unfolding f.hand_of_flight
  hand_before_reserve first = rw (first, t.reserves_before) refl

  hand_after_reserve : (offset : ℕ) → x.claimer ≡ true → hand_of_flight g (claim_on x q x.claimer offset) ≡ reserve_hand g x.item (f.cycle_of x) offset
  unfolding f.hand_of_flight
  hand_after_reserve offset first = rw (first, t.reserves, t.links) refl

  -- another call has none
  no_hand_before_reserve : x.claimer ≡ false → hand_of_flight g x ≡ no_claim
  unfolding f.hand_of_flight
  no_hand_before_reserve late = rw late refl

  no_hand_after_reserve : (offset : ℕ) → x.claimer ≡ false → hand_of_flight g (claim_on x q x.claimer offset) ≡ no_claim
  unfolding f.hand_of_flight
  no_hand_after_reserve offset late = rw late refl

  reserve_claimed : (offset : ℕ) → f.has_claimed (claim_on x q x.claimer offset) ≡ true → f.has_claimed x ≡ true
  unfolding f.has_claimed
  reserve_claimed offset e = let p = and_parts _ _ e in and_from _ _ (t.has_claimed p.0) p.1

-- what many facts read of the words is the same after a reserve
pub shades_reserved : (g : Geometry) (w : Words) (size : ℕ) (flight : ℕ → Flight) (ln : Line) (names : Names) → shades_of g (reserve_words w size) flight ln names ≡ shades_of g w flight ln names
unfolding shades_of
shades_reserved g w size flight ln names = refl

-- ALL FACTS

-- after the claimer of a good reference has reserved
pub reserves_facts : (g : Geometry) (w : Words) (flight : ℕ → Flight) (begun : ℕ → ℕ) (t : Spot) (names : Names) (contents : Contents) (range : ℕ → Option ℕ) (s q : ℕ)
    → s < tasks g → ReservesAt (flight s).call (flight s).place q → (flight s).claimer ≡ true
    → ((flight s).item ≢ 0 → IsGood (shades_of g w flight t.line names).kept names (flight s).item) → ShapesFit names → BearersHaveFields names
    → FactsOf g w flight begun t names contents range
    → FactsOf g (reserve_words w (reference_size (flight s).item)) (upd flight s (claim_on (flight s) q (flight s).claimer w.reserved)) begun t names contents
    (reserve_range range w.reserved (claimed_number (flight s)))
reserves_facts g w flight begun t names contents range s q below e first item fit fields h =
    let x = flight s in
    let n = claimed_number x in
    let c = f.cycle_of x in
    let y = claim_on x q x.claimer w.reserved in
    let z = spaces_of g w.cycle in
    let sh = shades_of g w flight t.line names in
    let words = reserve_words w (reference_size x.item) in
    let ranges = reserve_range range w.reserved n in
    let left = reserve_hand g x.item c w.reserved in
    let m : ShadesMean g w z sh flight t.line names = shades_mean g w flight t.line names in
    let holds : hands_of g flight t s ≡ to_reserve x.item c = hand_of_seat g t flight s below ∙ hand_before_reserve g x q e first in
    let held : HoldsClaim w.cycle sh.grey range x.item c = h.claims_unreserved s x.item c (omega arith) holds in
    let good : IsGood sh.kept names x.item = item held.some in
    let kept = m.kept n good.is_kept in
    let parts = reference_parts g names n x.item kept.within fit good.shows in
    let size : reference_size x.item ≡ sh.size n = size_of_reference names n x.item parts.1 parts.2 ∙ sym (m.size n) in
    let two : 2 ≤ size_at names n = two_words names n fields kept.is_born in
    let same : sh.size n ≡ size_at names n = m.size n in
    let can : CanReserve g z sh (hands_of g flight t) s x.item c n = record {
      within = omega arith;
      holds = holds;
      number = refl;
      is_kept = good.is_kept;
      size = size;
      two = omega arith;
      live = refl;
    } in
    let reserved : Facts g words z sh flight begun (upd (hands_of g flight t) s left) t names contents ranges =
    reserve_facts g w z sh flight begun (hands_of g flight t) t names contents range h m s x.item c n can in
    let on : Facts g words z sh (upd flight s y) begun (upd (hands_of g flight t) s left) t names contents ranges =
    go_on_in_claim g words z sh flight begun (upd (hands_of g flight t) s left) t names contents ranges s q x.claimer w.reserved below e.goes_on
    (λ a. h.claims_last s below (reserve_claimed g x q e w.reserved a)) reserved in
    let hands : hands_of g (upd flight s y) t ≡ upd (hands_of g flight t) s left =
    hands_set g t flight s y below ∙ ap (upd (hands_of g flight t) s) (hand_after_reserve g x q e w.reserved first) in
    let shades : shades_of g words (upd flight s y) t.line names ≡ sh =
    shades_in_claim g words t.line names flight s q x.claimer w.reserved e.goes_on ∙ shades_reserved g w (reference_size x.item) flight t.line names in
    rw (hands, shades) on

-- and after a rest in place of the reserve of a call that isn't the claimer
pub reserves_rests : (g : Geometry) (w : Words) (flight : ℕ → Flight) (begun : ℕ → ℕ) (t : Spot) (names : Names) (contents : Contents) (range : ℕ → Option ℕ) (s q : ℕ)
    → s < tasks g → ReservesAt (flight s).call (flight s).place q → (flight s).claimer ≡ false
    → FactsOf g w flight begun t names contents range
    → FactsOf g w (upd flight s (claim_on (flight s) q (flight s).claimer 0)) begun t names contents range
reserves_rests g w flight begun t names contents range s q below e late h =
    let x = flight s in
    let y = claim_on x q x.claimer 0 in
    let z = spaces_of g w.cycle in
    let sh = shades_of g w flight t.line names in
    let on : Facts g w z sh (upd flight s y) begun (hands_of g flight t) t names contents range =
    go_on_in_claim g w z sh flight begun (hands_of g flight t) t names contents range s q x.claimer 0 below e.goes_on
    (λ a. h.claims_last s below (reserve_claimed g x q e 0 a)) h in
    let free : no_claim ≡ hands_of g flight t s = sym (hand_of_seat g t flight s below ∙ no_hand_before_reserve g x q e late) in
    let hands : hands_of g (upd flight s y) t ≡ hands_of g flight t =
    hands_set g t flight s y below ∙ ap (upd (hands_of g flight t) s) (no_hand_after_reserve g x q e 0 late) ∙ upd_own (hands_of g flight t) s no_claim free in
    let shades : shades_of g w (upd flight s y) t.line names ≡ sh = shades_in_claim g w t.line names flight s q x.claimer 0 e.goes_on in
    rw (hands, shades) on

-- LOAD AND STORE

pub load_reserves_at : (dest reg field : ℕ) → ReservesAt (call.Load dest reg field) 6 7
unfolding f.in_object_at f.before_object_at f.register_stays_at f.is_load_at f.is_new_at f.in_frame_at f.before_frame_at f.has_cycle_inside_at f.has_claimed_at f.reserves_at f.links_at f.has_item_at f.holds_back_at
load_reserves_at dest reg field = record {
  goes_on = record {
    goes = record {
      flying = refl;
      in_row = omega arith;
      in_step = λ full raised h. h;
      register_stays = refl;
      is_load = refl;
      will_raise = refl;
      raised_before = refl;
      raised = refl;
      making = refl;
      numbered_before = refl;
      numbered = refl;
    };
    same_object = record { inside = refl; before = refl };
    same_frame = record { inside = refl; before = refl };
    same_item = record { has_item = refl; has_loaded = refl; has_loaded_inside = λ h. h; has_written = refl; holds_back = λ r. refl };
    has_cycle_in_frame = λ h. h;
    has_cycle = λ b h. h;
  };
  has_claimed = λ h. h;
  reserves_before = refl;
  reserves = refl;
  links = refl;
}

pub store_reserves_at : (reg field from : ℕ) → ReservesAt (call.Store reg field from) 4 5
unfolding f.in_object_at f.before_object_at f.register_stays_at f.is_load_at f.is_new_at f.in_frame_at f.before_frame_at f.has_cycle_inside_at f.has_claimed_at f.reserves_at f.links_at f.has_item_at f.holds_back_at
store_reserves_at reg field from = record {
  goes_on = record {
    goes = record {
      flying = refl;
      in_row = omega arith;
      in_step = λ full raised h. h;
      register_stays = refl;
      is_load = refl;
      will_raise = refl;
      raised_before = refl;
      raised = refl;
      making = refl;
      numbered_before = refl;
      numbered = refl;
    };
    same_object = record { inside = refl; before = refl };
    same_frame = record { inside = refl; before = refl };
    same_item = record { has_item = refl; has_loaded = refl; has_loaded_inside = λ h. h; has_written = refl; holds_back = λ r. refl };
    has_cycle_in_frame = λ h. h;
    has_cycle = λ b h. h;
  };
  has_claimed = λ h. h;
  reserves_before = refl;
  reserves = refl;
  links = refl;
}

-- THE ROW OF A CLAIM

-- words after an event by which each kept number stays at its place, and keeps the words of its object
pub record SparesObjects (before after : Words) (sh : Shades) : Type 0 where
  pub place : after.place ≡ before.place
  pub cells : (n p : ℕ) → sh.kept n ≡ true → Covers (before.place n) (sh.size n) p → after.cell p ≡ before.cell p

-- a claim finds the mark, and a reserve the words reserved
pub found-claim : (g : Geometry) (row : List ℕ) (n c : ℕ) → n < numbers g → learnt row (Some (event.Max (mark_at g n) c)) ≡ (words_of g row).mark n
unfolding words_of decoded learnt
found-claim g row n c within = old_at g row (event.Max (mark_at g n) c) (Mark n) refl ∙ sym (raw_mark g row n within)

pub found-reserve : (g : Geometry) (row : List ℕ) (size : ℕ) → learnt row (Some (event.Add (w1_at g) size)) ≡ (words_of g row).reserved
unfolding words_of decoded learnt
found-reserve g row size = old_at g row (event.Add (w1_at g) size) W1 refl ∙ sym (raw_w1 g row)

-- the event of a claim, a rest where the reference is null, and the flight after it
pub record ClaimSteps (g : Geometry) (x : Flight) (q : ℕ) : Type 0 where
  pub event : x.item ≢ 0 → event_of g x ≡ Some (event.Max (mark_at g (claimed_number x)) (f.cycle_of x))
  pub rest : x.item ≡ 0 → event_of g x ≡ None
  pub took : (old : ℕ) → took_of g x old ≡ claim_on x q (claims x old) x.offset

-- all facts hold of the row and of the flights after a call has claimed or rested
pub claims_row : (g : Geometry) (row : List ℕ) (flight : ℕ → Flight) (begun : ℕ → ℕ) (t : Spot) (names : Names) (contents : Contents) (range : ℕ → Option ℕ) (s q : ℕ)
    → s < tasks g → ClaimsAt (flight s).call (flight s).place q → ClaimSteps g (flight s) q → length row ≡ row_length g
    → ((flight s).item ≢ 0 → IsGood (shades_of g (words_of g row) flight t.line names).kept names (flight s).item)
    → FactsOf g (words_of g row) flight begun t names contents range
    → FactsOf g (words_of g (fired_if row (event_of g (flight s)))) (upd flight s (took_of g (flight s) (learnt row (event_of g (flight s))))) begun t names contents range
claims_row g row flight begun t names contents range s q below e step whole item h =
    let x = flight s in
    let n = claimed_number x in
    let w = words_of g row in
    elim (cases_eq x.item 0) [
      | inl null ↦ rw (step.rest null) (rw (fired_if_none row, nothing_learnt row, step.took 0) (claims_rests g w flight begun t names contents range s q below e null h))
      | inr some ↦
          let fires = event.Max (mark_at g n) (f.cycle_of x) in
          let good : IsGood (shades_of g w flight t.line names).kept names x.item = item some in
          let within : n < numbers g = (kept_means g w flight t.line names n good.is_kept).within in
          let words : words_of g (fired_if row (Some fires)) ≡ claim_words w n (f.cycle_of x) = ap (words_of g) (fired_if_some row fires) ∙ words-claim g row whole n (f.cycle_of x) within in
          let found : learnt row (Some fires) ≡ w.mark n = found-claim g row n (f.cycle_of x) within in
          rw (step.event some) (rw (words, found, step.took (w.mark n)) (claims_facts g w flight begun t names contents range s q below e some good.is_kept h))
    ]

-- a claim leaves every object alone
pub claims_spare : (g : Geometry) (row : List ℕ) (x : Flight) (q : ℕ) (sh : Shades) → ClaimSteps g x q → length row ≡ row_length g
    → (x.item ≢ 0 → claimed_number x < numbers g) → SparesObjects (words_of g row) (words_of g (fired_if row (event_of g x))) sh
claims_spare g row x q sh step whole within = elim (cases_eq x.item 0) [
  | inl null ↦ rw (step.rest null) (rw (fired_if_none row) (record { place = refl; cells = λ n p kept covers. refl }))
  | inr some ↦
      let fires = event.Max (mark_at g (claimed_number x)) (f.cycle_of x) in
      let words : words_of g (fired_if row (Some fires)) ≡ claim_words (words_of g row) (claimed_number x) (f.cycle_of x) =
      ap (words_of g) (fired_if_some row fires) ∙ words-claim g row whole (claimed_number x) (f.cycle_of x) (within some) in
      rw (step.event some) (rw words (record { place = refl; cells = λ n p kept covers. refl }))
]

module _ (g : Geometry) (x : Flight) (dest reg field : ℕ) (is_load : x.call ≡ call.Load dest reg field) (at_5 : x.place ≡ 5) where
  -- the event of a Load's claim, and the flight after it; no entry is added
  pub load_claim_event : x.item ≢ 0 → event_of g x ≡ Some (event.Max (mark_at g (claimed_number x)) (f.cycle_of x))
  unfolding event_of event_at load_event claim
  load_claim_event some = rw (is_load, at_5, ne_eqb x.item 0 some) refl

  pub load_claim_rest : x.item ≡ 0 → event_of g x ≡ None
  unfolding event_of event_at load_event claim
  load_claim_rest null = rw (is_load, at_5, eq-eqb x.item 0 null) refl

  pub load_claim_took : (old : ℕ) → took_of g x old ≡ claim_on x 6 (claims x old) x.offset
  unfolding took_of took_at load_took
  load_claim_took old = rw (is_load, at_5) refl

  pub load_claim_entry : (old : ℕ) → effect_of g x old ≡ None
  unfolding effect_of effect_at load_entry_of
  load_claim_entry old = rw (is_load, at_5) refl

  pub load_claim_steps : ClaimSteps g x 6
  load_claim_steps = record { event = load_claim_event; rest = load_claim_rest; took = load_claim_took }

module _ (g : Geometry) (x : Flight) (reg field from : ℕ) (is_store : x.call ≡ call.Store reg field from) (at_3 : x.place ≡ 3) where
  -- that of a Store's claim
  pub store_claim_event : x.item ≢ 0 → event_of g x ≡ Some (event.Max (mark_at g (claimed_number x)) (f.cycle_of x))
  unfolding event_of event_at store_event claim
  store_claim_event some = rw (is_store, at_3, ne_eqb x.item 0 some) refl

  pub store_claim_rest : x.item ≡ 0 → event_of g x ≡ None
  unfolding event_of event_at store_event claim
  store_claim_rest null = rw (is_store, at_3, eq-eqb x.item 0 null) refl

  pub store_claim_took : (old : ℕ) → took_of g x old ≡ claim_on x 4 (claims x old) x.offset
  unfolding took_of took_at store_took
  store_claim_took old = rw (is_store, at_3) refl

  pub store_claim_entry : (old : ℕ) → effect_of g x old ≡ None
  unfolding effect_of effect_at store_entry
  store_claim_entry old = rw (is_store, at_3) refl

  pub store_claim_steps : ClaimSteps g x 4
  store_claim_steps = record { event = store_claim_event; rest = store_claim_rest; took = store_claim_took }

-- all facts hold of the row and of the flights after a Load, or a Store, has claimed or rested
pub load_claims_row : (g : Geometry) (row : List ℕ) (flight : ℕ → Flight) (begun : ℕ → ℕ) (t : Spot) (names : Names) (contents : Contents) (range : ℕ → Option ℕ) (s dest reg field : ℕ)
    → s < tasks g → (flight s).call ≡ call.Load dest reg field → (flight s).place ≡ 5 → length row ≡ row_length g
    → FactsOf g (words_of g row) flight begun t names contents range
    → FactsOf g (words_of g (fired_if row (event_of g (flight s)))) (upd flight s (took_of g (flight s) (learnt row (event_of g (flight s))))) begun t names contents range
load_claims_row g row flight begun t names contents range s dest reg field below is_load at_5 whole h =
    claims_row g row flight begun t names contents range s 6 below (rw (is_load, at_5) (load_claims_at dest reg field)) (load_claim_steps g (flight s) dest reg field is_load at_5) whole
    (λ some. load_item_good g (shades_of g (words_of g row) flight t.line names).kept names flight s dest reg field below is_load (rw at_5 refl) some h.loaded_good) h

pub store_claims_row : (g : Geometry) (row : List ℕ) (flight : ℕ → Flight) (begun : ℕ → ℕ) (t : Spot) (names : Names) (contents : Contents) (range : ℕ → Option ℕ) (s reg field from : ℕ)
    → s < tasks g → (flight s).call ≡ call.Store reg field from → (flight s).place ≡ 3 → length row ≡ row_length g
    → FactsOf g (words_of g row) flight begun t names contents range
    → FactsOf g (words_of g (fired_if row (event_of g (flight s)))) (upd flight s (took_of g (flight s) (learnt row (event_of g (flight s))))) begun t names contents range
store_claims_row g row flight begun t names contents range s reg field from below is_store at_3 whole h =
    claims_row g row flight begun t names contents range s 4 below (rw (is_store, at_3) (store_claims_at reg field from)) (store_claim_steps g (flight s) reg field from is_store at_3) whole
    (λ some. store_item_good g (shades_of g (words_of g row) flight t.line names).kept names (words_of g row).register flight s reg field from below is_store (rw at_3 refl) some h.flights_formed h.copied_stays h.registers_good) h

-- and this place leaves every kept object alone
pub load_claims_spare : (g : Geometry) (row : List ℕ) (flight : ℕ → Flight) (begun : ℕ → ℕ) (t : Spot) (names : Names) (contents : Contents) (range : ℕ → Option ℕ) (s dest reg field : ℕ)
    → s < tasks g → (flight s).call ≡ call.Load dest reg field → (flight s).place ≡ 5 → length row ≡ row_length g → FactsOf g (words_of g row) flight begun t names contents range
    → SparesObjects (words_of g row) (words_of g (fired_if row (event_of g (flight s)))) (shades_of g (words_of g row) flight t.line names)
load_claims_spare g row flight begun t names contents range s dest reg field below is_load at_5 whole h =
    let sh = shades_of g (words_of g row) flight t.line names in
    claims_spare g row (flight s) 6 sh (load_claim_steps g (flight s) dest reg field is_load at_5) whole
    (λ some. (kept_means g (words_of g row) flight t.line names (claimed_number (flight s))
    (load_item_good g sh.kept names flight s dest reg field below is_load (rw at_5 refl) some h.loaded_good).is_kept).within)

pub store_claims_spare : (g : Geometry) (row : List ℕ) (flight : ℕ → Flight) (begun : ℕ → ℕ) (t : Spot) (names : Names) (contents : Contents) (range : ℕ → Option ℕ) (s reg field from : ℕ)
    → s < tasks g → (flight s).call ≡ call.Store reg field from → (flight s).place ≡ 3 → length row ≡ row_length g → FactsOf g (words_of g row) flight begun t names contents range
    → SparesObjects (words_of g row) (words_of g (fired_if row (event_of g (flight s)))) (shades_of g (words_of g row) flight t.line names)
store_claims_spare g row flight begun t names contents range s reg field from below is_store at_3 whole h =
    let sh = shades_of g (words_of g row) flight t.line names in
    claims_spare g row (flight s) 4 sh (store_claim_steps g (flight s) reg field from is_store at_3) whole
    (λ some. (kept_means g (words_of g row) flight t.line names (claimed_number (flight s))
    (store_item_good g sh.kept names (words_of g row).register flight s reg field from below is_store (rw at_3 refl) some h.flights_formed h.copied_stays h.registers_good).is_kept).within)

-- THE ROW OF A RESERVE

-- the ranges after the place of a reserve: the claimer has one more
abbrev pub range_reserved : Flight → (reserved : ℕ) → (range : ℕ → Option ℕ) → ℕ → Option ℕ
range_reserved x reserved range = if x.claimer then reserve_range range reserved (claimed_number x) else range

range_of_claimer : (x : Flight) (reserved : ℕ) (range : ℕ → Option ℕ) → x.claimer ≡ true → range_reserved x reserved range ≡ reserve_range range reserved (claimed_number x)
range_of_claimer x reserved range first = rw first refl

range_of_other : (x : Flight) (reserved : ℕ) (range : ℕ → Option ℕ) → x.claimer ≡ false → range_reserved x reserved range ≡ range
range_of_other x reserved range late = rw late refl

-- the event of a reserve, a rest where the call isn't the claimer, and the flight after it
pub record ReserveSteps (g : Geometry) (x : Flight) (q : ℕ) : Type 0 where
  pub event : x.claimer ≡ true → event_of g x ≡ Some (event.Add (w1_at g) (reference_size x.item))
  pub rest : x.claimer ≡ false → event_of g x ≡ None
  pub took : (old : ℕ) → took_of g x old ≡ claim_on x q x.claimer old

-- all facts hold of the row and of the flights after a call has reserved or rested
pub reserves_row : (g : Geometry) (row : List ℕ) (flight : ℕ → Flight) (begun : ℕ → ℕ) (t : Spot) (names : Names) (contents : Contents) (range : ℕ → Option ℕ) (s q : ℕ)
    → s < tasks g → ReservesAt (flight s).call (flight s).place q → ReserveSteps g (flight s) q → length row ≡ row_length g
    → ((flight s).item ≢ 0 → IsGood (shades_of g (words_of g row) flight t.line names).kept names (flight s).item) → ShapesFit names → BearersHaveFields names
    → FactsOf g (words_of g row) flight begun t names contents range
    → FactsOf g (words_of g (fired_if row (event_of g (flight s)))) (upd flight s (took_of g (flight s) (learnt row (event_of g (flight s))))) begun t names contents
    (range_reserved (flight s) (words_of g row).reserved range)
reserves_row g row flight begun t names contents range s q below e step whole item fit fields h =
    let x = flight s in
    let w = words_of g row in
    elim (cases_Bool x.claimer) [
      | inl first ↦
          let fires = event.Add (w1_at g) (reference_size x.item) in
          let words : words_of g (fired_if row (Some fires)) ≡ reserve_words w (reference_size x.item) = ap (words_of g) (fired_if_some row fires) ∙ words-reserve g row whole (reference_size x.item) in
          let found : learnt row (Some fires) ≡ w.reserved = found-reserve g row (reference_size x.item) in
          rw (step.event first, range_of_claimer x w.reserved range first) (rw (words, found, step.took w.reserved)
          (reserves_facts g w flight begun t names contents range s q below e first item fit fields h))
      | inr late ↦
          rw (step.rest late, range_of_other x w.reserved range late) (rw (fired_if_none row, nothing_learnt row, step.took 0)
          (reserves_rests g w flight begun t names contents range s q below e late h))
    ]

-- a reserve leaves every object alone
pub reserves_spare : (g : Geometry) (row : List ℕ) (x : Flight) (q : ℕ) (sh : Shades) → ReserveSteps g x q → length row ≡ row_length g
    → SparesObjects (words_of g row) (words_of g (fired_if row (event_of g x))) sh
reserves_spare g row x q sh step whole = elim (cases_Bool x.claimer) [
  | inl first ↦
      let fires = event.Add (w1_at g) (reference_size x.item) in
      let words : words_of g (fired_if row (Some fires)) ≡ reserve_words (words_of g row) (reference_size x.item) =
      ap (words_of g) (fired_if_some row fires) ∙ words-reserve g row whole (reference_size x.item) in
      rw (step.event first) (rw words (record { place = refl; cells = λ n p kept covers. refl }))
  | inr late ↦ rw (step.rest late) (rw (fired_if_none row) (record { place = refl; cells = λ n p kept covers. refl }))
]

module _ (g : Geometry) (x : Flight) (dest reg field : ℕ) (is_load : x.call ≡ call.Load dest reg field) (at_6 : x.place ≡ 6) where
  -- the event of a Load's reserve, and the flight after it; no entry is added
  pub load_reserve_event : x.claimer ≡ true → event_of g x ≡ Some (event.Add (w1_at g) (reference_size x.item))
  unfolding event_of event_at load_event reserve
  load_reserve_event first = rw (is_load, at_6, first) refl

  pub load_reserve_rest : x.claimer ≡ false → event_of g x ≡ None
  unfolding event_of event_at load_event reserve
  load_reserve_rest late = rw (is_load, at_6, late) refl

  pub load_reserve_took : (old : ℕ) → took_of g x old ≡ claim_on x 7 x.claimer old
  unfolding took_of took_at load_took
  load_reserve_took old = rw (is_load, at_6) refl

  pub load_reserve_entry : (old : ℕ) → effect_of g x old ≡ None
  unfolding effect_of effect_at load_entry_of
  load_reserve_entry old = rw (is_load, at_6) refl

  pub load_reserve_steps : ReserveSteps g x 7
  load_reserve_steps = record { event = load_reserve_event; rest = load_reserve_rest; took = load_reserve_took }

module _ (g : Geometry) (x : Flight) (reg field from : ℕ) (is_store : x.call ≡ call.Store reg field from) (at_4 : x.place ≡ 4) where
  -- that of a Store's reserve
  pub store_reserve_event : x.claimer ≡ true → event_of g x ≡ Some (event.Add (w1_at g) (reference_size x.item))
  unfolding event_of event_at store_event reserve
  store_reserve_event first = rw (is_store, at_4, first) refl

  pub store_reserve_rest : x.claimer ≡ false → event_of g x ≡ None
  unfolding event_of event_at store_event reserve
  store_reserve_rest late = rw (is_store, at_4, late) refl

  pub store_reserve_took : (old : ℕ) → took_of g x old ≡ claim_on x 5 x.claimer old
  unfolding took_of took_at store_took
  store_reserve_took old = rw (is_store, at_4) refl

  pub store_reserve_entry : (old : ℕ) → effect_of g x old ≡ None
  unfolding effect_of effect_at store_entry
  store_reserve_entry old = rw (is_store, at_4) refl

  pub store_reserve_steps : ReserveSteps g x 5
  store_reserve_steps = record { event = store_reserve_event; rest = store_reserve_rest; took = store_reserve_took }

-- all facts hold of the row and of the flights after a Load, or a Store, has reserved or rested
pub load_reserves_row : (g : Geometry) (row : List ℕ) (flight : ℕ → Flight) (begun : ℕ → ℕ) (t : Spot) (names : Names) (contents : Contents) (range : ℕ → Option ℕ) (s dest reg field : ℕ)
    → s < tasks g → (flight s).call ≡ call.Load dest reg field → (flight s).place ≡ 6 → length row ≡ row_length g → ShapesFit names → BearersHaveFields names
    → FactsOf g (words_of g row) flight begun t names contents range
    → FactsOf g (words_of g (fired_if row (event_of g (flight s)))) (upd flight s (took_of g (flight s) (learnt row (event_of g (flight s))))) begun t names contents
    (range_reserved (flight s) (words_of g row).reserved range)
load_reserves_row g row flight begun t names contents range s dest reg field below is_load at_6 whole fit fields h =
    reserves_row g row flight begun t names contents range s 7 below (rw (is_load, at_6) (load_reserves_at dest reg field)) (load_reserve_steps g (flight s) dest reg field is_load at_6) whole
    (λ some. load_item_good g (shades_of g (words_of g row) flight t.line names).kept names flight s dest reg field below is_load (rw at_6 refl) some h.loaded_good) fit fields h

pub store_reserves_row : (g : Geometry) (row : List ℕ) (flight : ℕ → Flight) (begun : ℕ → ℕ) (t : Spot) (names : Names) (contents : Contents) (range : ℕ → Option ℕ) (s reg field from : ℕ)
    → s < tasks g → (flight s).call ≡ call.Store reg field from → (flight s).place ≡ 4 → length row ≡ row_length g → ShapesFit names → BearersHaveFields names
    → FactsOf g (words_of g row) flight begun t names contents range
    → FactsOf g (words_of g (fired_if row (event_of g (flight s)))) (upd flight s (took_of g (flight s) (learnt row (event_of g (flight s))))) begun t names contents
    (range_reserved (flight s) (words_of g row).reserved range)
store_reserves_row g row flight begun t names contents range s reg field from below is_store at_4 whole fit fields h =
    reserves_row g row flight begun t names contents range s 5 below (rw (is_store, at_4) (store_reserves_at reg field from)) (store_reserve_steps g (flight s) reg field from is_store at_4) whole
    (λ some. store_item_good g (shades_of g (words_of g row) flight t.line names).kept names (words_of g row).register flight s reg field from below is_store (rw at_4 refl) some h.flights_formed h.copied_stays h.registers_good)
    fit fields h

-- and this place leaves every kept object alone
pub load_reserves_spare : (g : Geometry) (row : List ℕ) (x : Flight) (sh : Shades) (dest reg field : ℕ) → x.call ≡ call.Load dest reg field → x.place ≡ 6 → length row ≡ row_length g
    → SparesObjects (words_of g row) (words_of g (fired_if row (event_of g x))) sh
load_reserves_spare g row x sh dest reg field is_load at_6 whole = reserves_spare g row x 7 sh (load_reserve_steps g x dest reg field is_load at_6) whole

pub store_reserves_spare : (g : Geometry) (row : List ℕ) (x : Flight) (sh : Shades) (reg field from : ℕ) → x.call ≡ call.Store reg field from → x.place ≡ 4 → length row ≡ row_length g
    → SparesObjects (words_of g row) (words_of g (fired_if row (event_of g x))) sh
store_reserves_spare g row x sh reg field from is_store at_4 whole = reserves_spare g row x 5 sh (store_reserve_steps g x reg field from is_store at_4) whole
