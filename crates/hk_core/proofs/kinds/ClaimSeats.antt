-- A Load and a Store claim the object of their reference, and rest where it is null.
use Rattle.std.proofs.Common.{◌≡◌, ◌≢◌, ℕ, ◌<◌, ◌≤◌, Bool, true, false, inl, inr, refl, sym, ◌∙◌, ap, arith, Option}
use Rattle.std.proofs.lemmas.Bool.{both_ways, and_right, ne_eqb, eq-eqb, lt-ltb}
use Rattle.std.specs.Prelude.{max, nat_lt, not, ◌&&◌}
use Rattle.hk_words.specs.declared.geometry.Geometry.{Geometry}
use Rattle.hk_words.specs.declared.call.Call.{Call}
use Rattle.hk_words.specs.declared.call.Call.TheVariants as call
use Rattle.hk_words.specs.Geometry.{tasks}
use Rattle.hk_words.specs.Layout as layout
use Rattle.hk_words.specs.Calls.{RegistersFit}
use Rattle.hk_model.specs.View.{upd}
use Rattle.hk_model.proofs.Updates.{upd_same}
use Rattle.hk_core.specs.declared.flight.Flight.{Flight}
use Rattle.hk_core.specs.declared.spot.Spot.{Spot}
use Rattle.hk_core.specs.declared.spot.Line.{Line}
use Rattle.hk_core.specs.Step.{claims}
use Rattle.hk_core.specs.View.{Words, Names, Contents}
use Rattle.hk_core.specs.Flights as f
use Rattle.hk_core.specs.Flights.{no_claim, hand_of_flight}
use Rattle.hk_core.specs.Colours.{spaces_of, shades_of, IsGood, IsNullOrGood, NamesNoWhite}
use Rattle.hk_core.specs.Facts as fact
use Rattle.hk_core.specs.Lawful.{Facts, FactsOf, hands_of}
use Rattle.hk_core.proofs.Update.{upd_own}
use Rattle.hk_core.proofs.kinds.WriteCell.{ShadesMean, shades_mean}
use Rattle.hk_core.proofs.kinds.Claim.{CanClaim, claim_words, claim_shades, claim_hand, claim_facts, shades_claimed}
use Rattle.hk_core.proofs.kinds.ClaimFlights.{GoesOnInClaim, claim_on, go_on_in_claim, hands_set, hand_of_seat, shades_in_claim}

-- the number of the object that a call claims
abbrev pub claimed_number : Flight → ℕ
claimed_number x = layout.reference_number x.item

-- the tables of a call that claims at its place p, and may reserve at q
pub record ClaimsAt (call : Call) (p q : ℕ) : Type 0 where
  pub goes_on : GoesOnInClaim call p q
  pub has_item : f.has_item_at call p ≡ true
  pub has_cycle : f.has_cycle_inside_at call p false ≡ true
  pub reserves_before : f.reserves_at call p ≡ false
  pub links_before : f.links_at call p ≡ false
  pub reserves : f.reserves_at call q ≡ true
  pub links : f.links_at call q ≡ false

module _ (g : Geometry) (x : Flight) (q : ℕ) (t : ClaimsAt x.call x.place q) where
  -- the call has no claim in hand before
  pub hand_before_claim : hand_of_flight g x ≡ no_claim
  unfolding f.hand_of_flight
  hand_before_claim = rw (t.reserves_before, t.links_before, and_right x.claimer false refl) refl

  -- and has one after it where it is the claimer
  pub hand_after_claim : (first : Bool) (offset : ℕ) → hand_of_flight g (claim_on x q first offset) ≡ claim_hand x.item (f.cycle_of x) first
  unfolding f.hand_of_flight
  hand_after_claim true offset = rw t.reserves refl
  hand_after_claim false offset = refl

  claim_has_item : f.has_item x ≡ true
  unfolding f.has_item
  claim_has_item = t.has_item

  claim_has_cycle : x.item ≢ 0 → f.has_cycle_inside x ≡ true
  unfolding f.has_cycle_inside
  claim_has_cycle some = rw (ne_eqb x.item 0 some) t.has_cycle

-- a reference that isn't null is claimed where the mark is lower
claims_some : (x : Flight) (old : ℕ) → x.item ≢ 0 → claims x old ≡ nat_lt old (f.cycle_of x)
claims_some x old some = rw (ne_eqb x.item 0 some) refl

claims_none : (x : Flight) (old : ℕ) → x.item ≡ 0 → claims x old ≡ false
claims_none x old none = rw (eq-eqb x.item 0 none) refl

white_of : (g : Geometry) (w : Words) (flight : ℕ → Flight) (ln : Line) (names : Names) (n : ℕ) → w.place n ≢ 0 → w.mark n < w.cycle → (shades_of g w flight ln names).white n ≡ true
unfolding shades_of
white_of g w flight ln names n placed low = rw (ne_eqb (w.place n) 0 placed) (lt-ltb _ _ low)

-- in a settled state the reference of a call names no white number
not_settled : (white : ℕ → Bool) (item : ℕ) → item ≢ 0 → white (layout.reference_number item) ≡ true → ¬ NamesNoWhite white item
not_settled white item some is (inl null) = some null
not_settled white item some is (inr dark) = both_ways _ dark is

pub none_claimed : (b c : Bool) → c ≡ true → ¬ ((b && not c) ≡ true)
none_claimed true true e h = absurd (cc)
none_claimed true false e h = absurd (cc)
none_claimed false c e h = absurd (cc)

-- all facts hold after a call has claimed the object of its reference, which is kept
pub claims_facts : (g : Geometry) (w : Words) (flight : ℕ → Flight) (begun : ℕ → ℕ) (t : Spot) (names : Names) (contents : Contents) (range : ℕ → Option ℕ) (s q : ℕ)
    → s < tasks g → ClaimsAt (flight s).call (flight s).place q → (flight s).item ≢ 0 → (shades_of g w flight t.line names).kept (claimed_number (flight s)) ≡ true
    → FactsOf g w flight begun t names contents range
    → FactsOf g (claim_words w (claimed_number (flight s)) (f.cycle_of (flight s))) (upd flight s (claim_on (flight s) q (claims (flight s) (w.mark (claimed_number (flight s)))) (flight s).offset))
    begun t names contents range
claims_facts g w flight begun t names contents range s q below e some kept h =
    let x = flight s in
    let n = claimed_number x in
    let c = f.cycle_of x in
    let first = nat_lt (w.mark n) c in
    let y = claim_on x q first x.offset in
    let z = spaces_of g w.cycle in
    let sh = shades_of g w flight t.line names in
    let words = claim_words w n c in
    let m : ShadesMean g w z sh flight t.line names = shades_mean g w flight t.line names in
    let can : CanClaim g w sh flight t.line n c = record {
      is_kept = kept;
      recent = h.loaded_recent s below (claim_has_cycle g x q e some);
      unsettled = λ low p passes settled. not_settled sh.white x.item some (white_of g w flight t.line names n (m.kept n kept).placed low) (settled.items s below (claim_has_item g x q e));
    } in
    let free : hands_of g flight t s ≡ no_claim = hand_of_seat g t flight s below ∙ hand_before_claim g x q e in
    let claimed : Facts g words z (claim_shades sh n first) flight begun (upd (hands_of g flight t) s (claim_hand x.item c first)) t names contents range =
    claim_facts g w z sh flight begun (hands_of g flight t) t names contents range h m n c can s x.item (omega arith) free some refl in
    let high : c ≤ words.mark n = rw (upd_same w.mark n (max (w.mark n) c)) (omega arith) in
    let on : Facts g words z (claim_shades sh n first) (upd flight s y) begun (upd (hands_of g flight t) s (claim_hand x.item c first)) t names contents range =
    go_on_in_claim g words z (claim_shades sh n first) flight begun (upd (hands_of g flight t) s (claim_hand x.item c first)) t names contents range s q first x.offset below e.goes_on (λ _. high) claimed in
    let hands : hands_of g (upd flight s y) t ≡ upd (hands_of g flight t) s (claim_hand x.item c first) =
    hands_set g t flight s y below ∙ ap (upd (hands_of g flight t) s) (hand_after_claim g x q e first x.offset) in
    let shades : shades_of g words (upd flight s y) t.line names ≡ claim_shades sh n first =
    shades_in_claim g words t.line names flight s q first x.offset e.goes_on ∙ shades_claimed g w flight t.line names n c h.unclaimed_is_old kept can.recent in
    rw (claims_some x (w.mark n) some, hands, shades) on

-- and after a rest in place of the claim of null
pub claims_rests : (g : Geometry) (w : Words) (flight : ℕ → Flight) (begun : ℕ → ℕ) (t : Spot) (names : Names) (contents : Contents) (range : ℕ → Option ℕ) (s q : ℕ)
    → s < tasks g → ClaimsAt (flight s).call (flight s).place q → (flight s).item ≡ 0
    → FactsOf g w flight begun t names contents range
    → FactsOf g w (upd flight s (claim_on (flight s) q (claims (flight s) 0) (flight s).offset)) begun t names contents range
unfolding f.has_claimed
claims_rests g w flight begun t names contents range s q below e none h =
    let x = flight s in
    let y = claim_on x q false x.offset in
    let z = spaces_of g w.cycle in
    let sh = shades_of g w flight t.line names in
    let on : Facts g w z sh (upd flight s y) begun (hands_of g flight t) t names contents range =
    go_on_in_claim g w z sh flight begun (hands_of g flight t) t names contents range s q false x.offset below e.goes_on (λ a. absurd (none_claimed _ _ (eq-eqb x.item 0 none) a)) h in
    let free : no_claim ≡ hands_of g flight t s = sym (hand_of_seat g t flight s below ∙ hand_before_claim g x q e) in
    let hands : hands_of g (upd flight s y) t ≡ hands_of g flight t =
    hands_set g t flight s y below ∙ ap (upd (hands_of g flight t) s) (hand_after_claim g x q e false x.offset) ∙ upd_own (hands_of g flight t) s no_claim free in
    let shades : shades_of g w (upd flight s y) t.line names ≡ sh = shades_in_claim g w t.line names flight s q false x.offset e.goes_on in
    rw (claims_none x 0 none, hands, shades) on

-- LOAD AND STORE

pub load_claims_at : (dest reg field : ℕ) → ClaimsAt (call.Load dest reg field) 5 6
unfolding f.in_object_at f.before_object_at f.register_stays_at f.is_load_at f.is_new_at f.in_frame_at f.before_frame_at f.has_cycle_inside_at f.reserves_at f.links_at f.has_item_at f.holds_back_at
load_claims_at dest reg field = record {
  goes_on = record {
    goes = record {
      flying = refl;
      in_row = omega arith;
      in_step = λ full raised h. h;
      register_stays = refl;
      is_load = refl;
      will_raise = refl;
      raised_before = refl;
      raised = refl;
      making = refl;
      numbered_before = refl;
      numbered = refl;
    };
    same_object = record { inside = refl; before = refl };
    same_frame = record { inside = refl; before = refl };
    same_item = record { has_item = refl; has_loaded = refl; has_loaded_inside = λ h. h; has_written = refl; holds_back = λ r. refl };
    has_cycle_in_frame = λ h. h;
    has_cycle = λ b h. h;
  };
  has_item = refl;
  has_cycle = refl;
  reserves_before = refl;
  links_before = refl;
  reserves = refl;
  links = refl;
}

pub store_claims_at : (reg field from : ℕ) → ClaimsAt (call.Store reg field from) 3 4
unfolding f.in_object_at f.before_object_at f.register_stays_at f.is_load_at f.is_new_at f.in_frame_at f.before_frame_at f.has_cycle_inside_at f.reserves_at f.links_at f.has_item_at f.holds_back_at
store_claims_at reg field from = record {
  goes_on = record {
    goes = record {
      flying = refl;
      in_row = omega arith;
      in_step = λ full raised h. h;
      register_stays = refl;
      is_load = refl;
      will_raise = refl;
      raised_before = refl;
      raised = refl;
      making = refl;
      numbered_before = refl;
      numbered = refl;
    };
    same_object = record { inside = refl; before = refl };
    same_frame = record { inside = refl; before = refl };
    same_item = record { has_item = refl; has_loaded = refl; has_loaded_inside = λ h. h; has_written = refl; holds_back = λ r. refl };
    has_cycle_in_frame = λ h. h;
    has_cycle = λ b h. h;
  };
  has_item = refl;
  has_cycle = refl;
  reserves_before = refl;
  links_before = refl;
  reserves = refl;
  links = refl;
}

-- a good reference that isn't null
good_of : (kept : ℕ → Bool) (names : Names) (item : ℕ) → item ≢ 0 → IsNullOrGood kept names item → IsGood kept names item
good_of kept names item some (inl null) = absurd (some null)
good_of kept names item some (inr good) = good

-- the reference of a Load that has read its cell is good
pub load_item_good : (g : Geometry) (kept : ℕ → Bool) (names : Names) (flight : ℕ → Flight) (s dest reg field : ℕ) → s < tasks g → (flight s).call ≡ call.Load dest reg field
    → f.is_between 5 10 (flight s).place ≡ true → (flight s).item ≢ 0 → fact.LoadedGood g kept names flight → IsGood kept names (flight s).item
unfolding f.has_loaded f.is_load_at
load_item_good g kept names flight s dest reg field below is_load loaded some h = good_of kept names (flight s).item some (h s below (rw is_load loaded))

-- and so is that of a Store in flight
pub store_item_good : (g : Geometry) (kept : ℕ → Bool) (names : Names) (register : ℕ → ℕ → ℕ) (flight : ℕ → Flight) (s reg field from : ℕ) → s < tasks g
    → (flight s).call ≡ call.Store reg field from → f.is_flying (flight s) ≡ true → (flight s).item ≢ 0
    → fact.FlightsFormed g flight → fact.CopiedStays g register flight → fact.RegistersGood g kept names register → IsGood kept names (flight s).item
store_item_good g kept names register flight s reg field from below is_store flying some formed copies good =
    let fit : RegistersFit g.registers (call.Store reg field from) = rw is_store at ((formed s below).registers flying) in
    let stays : (flight s).item ≡ register s from = copies s from below flying (rw is_store refl) in
    good_of kept names (flight s).item some (rw stays (good s from below (register_from g reg field from fit)))
  where
    register_from : (g : Geometry) (reg field from : ℕ) → RegistersFit g.registers (call.Store reg field from) → from < g.registers
    register_from g reg field from fit = fit.1
