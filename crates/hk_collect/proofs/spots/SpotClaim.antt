-- The collector claims the object of the reference that it deals with, reserves a place for it, and links it, as a call does:
-- its claim in hand is the one after those of the seats. Then the register, or the cell, is past: its object was claimed in this
-- cycle.
use Rattle.std.proofs.Common.{◌≡◌, ◌≢◌, ℕ, ◌+◌, ◌*◌, ◌<◌, ◌≤◌, Bool, true, false, inl, inr, refl, sym, ◌∙◌, ap, subst, arith, Option, Some, None}
use Rattle.std.proofs.lemmas.Bool.{cases_eq, ltb-true, eqb-true, or_cases, and_parts}
use Rattle.std.specs.Prelude.{max, nat_eq, nat_lt, ◌&&◌, if◌then◌else◌}
use Rattle.hk_words.specs.declared.geometry.Geometry.{Geometry}
use Rattle.hk_words.specs.Geometry.{tasks, numbers}
use Rattle.hk_words.specs.Layout as layout
use Rattle.hk_words.specs.Row.{place_at}
use Rattle.hk_model.specs.View.{upd}
use Rattle.hk_model.proofs.Updates.{upd_same}
use Rattle.hk_core.specs.declared.flight.Flight.{Flight}
use Rattle.hk_core.specs.declared.spot.Spot.{Spot}
use Rattle.hk_core.specs.declared.spot.Line.{Line}
use Rattle.hk_core.specs.declared.spot.Line.TheVariants as line
use Rattle.hk_core.specs.declared.spot.Stage.{Stage}
use Rattle.hk_core.specs.declared.spot.Stage.TheVariants as stage
use Rattle.hk_core.specs.Collect.{current_space, after_register}
use Rattle.hk_core.specs.Counts.{count_below}
use Rattle.hk_core.specs.Step.{reference_size, reserved_fits}
use Rattle.hk_core.specs.View.{Words, Names, Contents, size_at}
use Rattle.hk_core.specs.Flights as f
use Rattle.hk_core.specs.Flights.{Hand, no_claim, to_reserve, to_link}
use Rattle.hk_core.specs.Lines as l
use Rattle.hk_core.specs.Colours.{Spaces, spaces_of, Shades, shades_of, is_fresh, IsGood, IsNullOrMarked}
use Rattle.hk_core.specs.Facts as fact
use Rattle.hk_core.specs.Lawful.{Facts, FactsOf, hands_of}
use Rattle.hk_core.proofs.Counts.{count_same}
use Rattle.hk_core.proofs.kinds.Read.{ShapesFit}
use Rattle.hk_core.proofs.kinds.WriteCell.{ShadesMean, shades_mean, shades_cell, cell_words, reference_parts, size_of_reference}
use Rattle.hk_core.proofs.kinds.Claim.{CanClaim, claim_words, claim_hand, claim_facts, shades_claimed}
use Rattle.hk_core.proofs.kinds.Reserve.{CanReserve, reserve_words, reserve_range, reserve_hand, reserve_facts}
use Rattle.hk_core.proofs.kinds.ReserveSeats.{BearersHaveFields, two_words, shades_reserved}
use Rattle.hk_core.proofs.kinds.Link.{CanLink, link_facts}
use Rattle.hk_collect.proofs.spots.Spots.{SpotFacts, HandFacts, WorkFacts, GoesMarking, hand_facts, with_spot, with_spot_and_hand, hands_changed, shades_kept, work_facts, marking_on}
use Rattle.hk_collect.proofs.spots.SpotLines.{AtRegister, AtCell, at_register, register_works, frame_trade_works, at_cell, cell_works}
use Rattle.std.proofs.lemmas.Bool.{ltb-false}

-- THE CLAIMS IN HAND

-- facts of claims in hand hold of other claims that are the same up to the collector's
hands_as : (g : Geometry) (w : Words) (z : Spaces) (sh : Shades) (hand other : ℕ → Hand) (range : ℕ → Option ℕ) → ((k : ℕ) → k ≤ tasks g → other k ≡ hand k)
    → HandFacts g w z sh hand range → HandFacts g w z sh other range
hands_as g w z sh hand other range same h = record {
  claims_unreserved = λ k item cycle within e. h.claims_unreserved k item cycle within (sym (same k within) ∙ e);
  claims_unlinked = λ k item cycle offset within e. h.claims_unlinked k item cycle offset within (sym (same k within) ∙ e);
  claims_apart = λ j k a b differ item another p q.
      h.claims_apart j k a b differ item another (ap f.item_in (sym (same j a)) ∙ p) (ap f.item_in (sym (same k b)) ∙ q);
  grey_waits = λ n below e. elim (h.grey_waits n below e) [
    | inl there ↦ inl there
    | inr (k, item, cycle, within, holds, is) ↦ inr (k, item, cycle, within, same k within ∙ holds, is)
  ];
  unlinked_waits = λ x n there fits e. let (k, item, cycle, within, holds) = h.unlinked_waits x n there fits e in (k, item, cycle, within, same k within ∙ holds);
}

few_as : (g : Geometry) (ln : Line) (cycle reserved : ℕ) (mark : ℕ → ℕ) (hand other : ℕ → Hand) → ((k : ℕ) → k ≤ tasks g → other k ≡ hand k)
    → fact.MarksFew g ln cycle reserved mark hand → fact.MarksFew g ln cycle reserved mark other
few_as g ln cycle reserved mark hand other same h e =
    let few : 2 * count_below (numbers g) (λ n. nat_eq (mark n) cycle) ≤ g.alloc + reserved + 2 * count_below (tasks g + 1) (λ k. f.is_to_reserve (hand k)) = h e in
    let count : count_below (tasks g + 1) (λ k. f.is_to_reserve (other k)) ≡ count_below (tasks g + 1) (λ k. f.is_to_reserve (hand k)) =
    count_same (λ k. f.is_to_reserve (other k)) (λ k. f.is_to_reserve (hand k)) (tasks g + 1) (λ k below. ap f.is_to_reserve (same k (omega arith))) in
    omega arith

facts_as : (g : Geometry) (w : Words) (z : Spaces) (sh : Shades) (flight : ℕ → Flight) (begun : ℕ → ℕ) (hand other : ℕ → Hand) (t : Spot)
    (names : Names) (contents : Contents) (range : ℕ → Option ℕ) → ((k : ℕ) → k ≤ tasks g → other k ≡ hand k)
    → Facts g w z sh flight begun hand t names contents range → Facts g w z sh flight begun other t names contents range
facts_as g w z sh flight begun hand other t names contents range same h =
    let few : fact.MarksFew g t.line w.cycle w.reserved w.mark other = few_as g t.line w.cycle w.reserved w.mark hand other same h.marks_few in
    let spot : SpotFacts g w z sh flight other t names range = assumption in
    with_spot_and_hand g w z sh flight begun hand t names contents range h t other spot
    (hands_as g w z sh hand other range same (hand_facts g w z sh flight begun hand t names contents range h))

-- the collector's claim in hand
pub own_hand : (g : Geometry) (flight : ℕ → Flight) (t : Spot) → hands_of g flight t (tasks g) ≡ l.hand_of_spot t
own_hand g flight t = hands_changed g flight t t (tasks g) (omega arith) ∙ upd_same (hands_of g flight t) (tasks g) (l.hand_of_spot t)

-- the spot goes on with another claim in hand
spot_on : (g : Geometry) (w : Words) (flight : ℕ → Flight) (begun : ℕ → ℕ) (t other : Spot) (names : Names) (contents : Contents) (range : ℕ → Option ℕ)
    → Facts g w (spaces_of g w.cycle) (shades_of g w flight t.line names) flight begun (upd (hands_of g flight t) (tasks g) (l.hand_of_spot other)) t names contents range
    → GoesMarking t other → WorkFacts g w (spaces_of g w.cycle) (shades_of g w flight t.line names) flight other names range other.line
    → FactsOf g w flight begun other names contents range
spot_on g w flight begun t other names contents range h goes works =
    let z = spaces_of g w.cycle in
    let sh = shades_of g w flight t.line names in
    let hand = hands_of g flight other in
    let mid : Facts g w z sh flight begun hand t names contents range =
    facts_as g w z sh flight begun (upd (hands_of g flight t) (tasks g) (l.hand_of_spot other)) hand t names contents range (hands_changed g flight t other) h in
    let shades : shades_of g w flight other.line names ≡ sh = shades_kept g w flight t.line other.line names (goes.to ∙ sym goes.from) in
    rw shades (with_spot g w z sh flight begun hand t names contents range mid other (marking_on g w z sh flight begun hand t names contents range mid other goes works))

-- LINES

-- where the collector deals with a reference, it looks for objects, and isn't in the pass
reference_marks : (ln : Line) → l.has_reference ln ≡ true → (l.is_marking ln ≡ true) × (l.passing ln ≡ None)
unfolding l.has_reference l.is_marking l.passing
reference_marks line.Rest e = absurd (cc)
reference_marks (line.Frame s) e = absurd (cc)
reference_marks (line.Register s r stage) e = (refl, refl)
reference_marks (line.FrameTrade s) e = absurd (cc)
reference_marks line.Scan e = absurd (cc)
reference_marks line.Link e = absurd (cc)
reference_marks line.Look e = absurd (cc)
reference_marks (line.Cell i stage) e = (refl, refl)
reference_marks line.ObjectTrade e = absurd (cc)
reference_marks (line.Pass n) e = absurd (cc)
reference_marks (line.PassHead n) e = absurd (cc)
reference_marks (line.Sweep n stage) e = absurd (cc)
reference_marks (line.Clear i) e = absurd (cc)
reference_marks line.Reset e = absurd (cc)

none_passes : {A : Type 0} (o : Option ℕ) (p : ℕ) → o ≡ None → o ≡ Some p → A
none_passes o p none some = absurd (cc)

-- THE THREE EVENTS, FOR ALL FACTS BUT THE SPOT'S

fresh_marked : (cycle : ℕ) (marking : Bool) (mark : ℕ) → is_fresh cycle marking mark ≡ true → max mark cycle ≡ cycle
fresh_marked cycle marking mark fresh = elim (or_cases (nat_eq mark cycle) (marking && nat_eq (mark + 1) cycle) fresh) [
  | inl e ↦ let same : mark ≡ cycle = eqb-true mark cycle e in omega arith
  | inr e ↦ let same : mark + 1 ≡ cycle = eqb-true (mark + 1) cycle (and_parts marking (nat_eq (mark + 1) cycle) e).1 in omega arith
]

module _ (g : Geometry) (w : Words) (flight : ℕ → Flight) (begun : ℕ → ℕ) (t : Spot) (names : Names) (contents : Contents) (range : ℕ → Option ℕ)
    (deals : l.has_reference t.line ≡ true) (h : FactsOf g w flight begun t names contents range) where
  good_cell : IsGood (shades_of g w flight t.line names).kept names t.cell
  good_cell = h.cell_good deals

  can_claim : CanClaim g w (shades_of g w flight t.line names) flight t.line (layout.reference_number t.cell) t.cycle
  can_claim = record {
    is_kept = good_cell.is_kept;
    recent = inl h.spot_knows_cycle;
    unsettled = λ low p e. none_passes (l.passing t.line) p (reference_marks t.line deals).1 e;
  }

  claim_at : l.hand_of_spot t ≡ no_claim
      → Facts g (claim_words w (layout.reference_number t.cell) t.cycle) (spaces_of g w.cycle)
      (shades_of g (claim_words w (layout.reference_number t.cell) t.cycle) flight t.line names) flight begun
      (upd (hands_of g flight t) (tasks g) (claim_hand t.cell t.cycle (nat_lt (w.mark (layout.reference_number t.cell)) t.cycle))) t names contents range
  claim_at free =
      let z = spaces_of g w.cycle in
      let sh = shades_of g w flight t.line names in
      let n = layout.reference_number t.cell in
      rw (shades_claimed g w flight t.line names n t.cycle h.unclaimed_is_old good_cell.is_kept (inl h.spot_knows_cycle))
      (claim_facts g w z sh flight begun (hands_of g flight t) t names contents range h (shades_mean g w flight t.line names) n t.cycle can_claim (tasks g) t.cell (omega arith)
      (own_hand g flight t ∙ free) good_cell.some refl)

  claim_marks : upd w.mark (layout.reference_number t.cell) (max (w.mark (layout.reference_number t.cell)) t.cycle) (layout.reference_number t.cell) ≡ w.cycle
  claim_marks =
      let n = layout.reference_number t.cell in
      let m = shades_mean g w flight t.line names in
      let fresh = (m.kept n good_cell.is_kept).is_fresh in
      upd_same w.mark n (max (w.mark n) t.cycle) ∙ ap (max (w.mark n)) h.spot_knows_cycle ∙ fresh_marked w.cycle (l.is_marking t.line) (w.mark n) fresh

  reserve_at : l.hand_of_spot t ≡ to_reserve t.cell t.cycle → ShapesFit names → BearersHaveFields names
      → Facts g (reserve_words w (reference_size t.cell)) (spaces_of g w.cycle) (shades_of g (reserve_words w (reference_size t.cell)) flight t.line names) flight begun
      (upd (hands_of g flight t) (tasks g) (reserve_hand g t.cell t.cycle w.reserved)) t names contents (reserve_range range w.reserved (layout.reference_number t.cell))
  reserve_at holds fit fields =
      let z = spaces_of g w.cycle in
      let sh = shades_of g w flight t.line names in
      let n = layout.reference_number t.cell in
      let m : ShadesMean g w z sh flight t.line names = shades_mean g w flight t.line names in
      let kept = m.kept n good_cell.is_kept in
      let parts = reference_parts g names n t.cell kept.within fit good_cell.shows in
      let two : 2 ≤ size_at names n = two_words names n fields kept.is_born in
      let same : sh.size n ≡ size_at names n = m.size n in
      let can : CanReserve g z sh (hands_of g flight t) (tasks g) t.cell t.cycle n = record {
        within = omega arith;
        holds = own_hand g flight t ∙ holds;
        number = refl;
        is_kept = good_cell.is_kept;
        size = size_of_reference names n t.cell parts.1 parts.2 ∙ sym same;
        two = omega arith;
        live = refl;
      } in
      rw (shades_reserved g w (reference_size t.cell) flight t.line names)
      (reserve_facts g w z sh flight begun (hands_of g flight t) t names contents range h m (tasks g) t.cell t.cycle n can)

  reserve_marks : l.hand_of_spot t ≡ to_reserve t.cell t.cycle → w.mark (layout.reference_number t.cell) ≡ w.cycle
  reserve_marks holds =
      let m = shades_mean g w flight t.line names in
      (m.grey (layout.reference_number t.cell) (h.claims_unreserved (tasks g) t.cell t.cycle (omega arith) (own_hand g flight t ∙ holds)).is_grey).of_cycle

  link_at : l.hand_of_spot t ≡ to_link t.cell t.cycle t.offset → ShapesFit names
      → Facts g (cell_words w ((spaces_of g w.cycle).current + t.offset) t.cell) (spaces_of g w.cycle)
      (shades_of g (cell_words w ((spaces_of g w.cycle).current + t.offset) t.cell) flight t.line names) flight begun
      (upd (hands_of g flight t) (tasks g) no_claim) t names contents range
  link_at holds fit =
      let z = spaces_of g w.cycle in
      let sh = shades_of g w flight t.line names in
      let can : CanLink g w.cycle z names (hands_of g flight t) (tasks g) t.cell t.cycle t.offset = record {
        within = omega arith;
        holds = own_hand g flight t ∙ holds;
        shows = good_cell.shows;
        current = refl;
        live = refl;
      } in
      rw (shades_cell g w (z.current + t.offset) t.cell flight t.line names)
      (link_facts g w z sh flight begun (hands_of g flight t) t names contents range h (shades_mean g w flight t.line names) fit (tasks g) t.cell t.cycle t.offset can)

  link_marks : l.hand_of_spot t ≡ to_link t.cell t.cycle t.offset → w.mark (layout.reference_number t.cell) ≡ w.cycle
  link_marks holds =
      let m = shades_mean g w flight t.line names in
      (m.grey (layout.reference_number t.cell) (h.claims_unlinked (tasks g) t.cell t.cycle t.offset (omega arith) (own_hand g flight t ∙ holds)).is_grey).of_cycle

-- THE SPOT

-- the spot after one of these events, on a line and with an offset
abbrev pub dealt : Spot → Line → (offset : ℕ) → Spot
dealt t ln offset = record t { line = ln; offset = offset; spent = t.spent + 1 }

-- a stage at which a reference is dealt with, and the next such stage
record IsDealing (stage : Stage) : Type 0 where
  works : l.is_in_work stage ≡ true
  rank : l.stage_rank stage ≤ 3
  loaded : (i : ℕ) → l.loaded_at i stage ≡ Some i

record DealsOn (stage next : Stage) : Type 0 where
  before : IsDealing stage
  after : IsDealing next
  rank : l.stage_rank next ≡ l.stage_rank stage + 1
  of_register : l.IsRegisterStage next
  of_cell : l.IsCellStage next
  unwritten : (i j : ℕ) → l.written_at i next ≢ Some j

at_claim : IsDealing stage.Claim
unfolding l.is_in_work l.stage_rank l.loaded_at
at_claim = record { works = refl; rank = omega arith; loaded = λ i. refl }

at_reserve : IsDealing stage.Reserve
unfolding l.is_in_work l.stage_rank l.loaded_at
at_reserve = record { works = refl; rank = omega arith; loaded = λ i. refl }

at_tie : IsDealing stage.Tie
unfolding l.is_in_work l.stage_rank l.loaded_at
at_tie = record { works = refl; rank = omega arith; loaded = λ i. refl }

claim_on : DealsOn stage.Claim stage.Reserve
unfolding l.stage_rank l.written_at
claim_on = record { before = at_claim; after = at_reserve; rank = refl; of_register = tt; of_cell = tt; unwritten = λ i j e. absurd (cc) }

reserve_on : DealsOn stage.Reserve stage.Tie
unfolding l.stage_rank l.written_at
reserve_on = record { before = at_reserve; after = at_tie; rank = refl; of_register = tt; of_cell = tt; unwritten = λ i j e. absurd (cc) }

pub no_read_work : {A : Type 0} → l.is_in_work stage.Read ≡ true → A
unfolding l.is_in_work
no_read_work e = absurd (cc)

no_write_work : {A : Type 0} → l.is_in_work stage.Write ≡ true → A
unfolding l.is_in_work
no_write_work e = absurd (cc)

pub read_rank : l.stage_rank stage.Read ≡ 0
unfolding l.stage_rank
read_rank = refl

pub write_rank : l.stage_rank stage.Write ≡ 4
unfolding l.stage_rank
write_rank = refl

pub loaded_now : (i : ℕ) → l.loaded_at i stage.Write ≡ Some i
unfolding l.loaded_at
loaded_now i = refl

-- what the collector is in the middle of on the next line
abbrev Goes : Geometry → (z : Spaces) (flight : ℕ → Flight) (t : Spot) (names : Names) (from to : Line) → Type 0
Goes g z flight t names from to = (w : Words) (sh : Shades) (range : ℕ → Option ℕ) (offset : ℕ) → w.mark (layout.reference_number t.cell) ≡ w.cycle
    → WorkFacts g w z sh flight t names range from → WorkFacts g w z sh flight (dealt t to offset) names range to

module _ (g : Geometry) (z : Spaces) (flight : ℕ → Flight) (t : Spot) (names : Names) where
  register_next : (s r : ℕ) (now next : Stage) → DealsOn now next → Goes g z flight t names (line.Register s r now) (line.Register s r next)
  register_next s r now next o w sh range offset marked k =
      let here : AtRegister g w sh t names s r now = at_register g w z sh flight t names range s r now k in
      let spent : t.spent ≤ 1 + 4 * r + l.stage_rank now = here.spent in
      let rank : l.stage_rank next ≡ l.stage_rank now + 1 = o.rank in
      register_works g w z sh flight (dealt t (line.Register s r next) offset) names range s r next (record {
        in_frame = record { at_frame = here.in_frame.at_frame; behind = here.in_frame.behind; passed = here.in_frame.passed };
        register = here.register;
        staged = o.of_register;
        good = λ e. here.good o.before.works;
        in_work = λ e. here.in_work o.before.works;
        spent = omega arith;
      })

  register_past : (s r : ℕ) (now : Stage) → IsDealing now → Goes g z flight t names (line.Register s r now) (after_register g s r)
  register_past s r now o w sh range offset marked k =
      let here : AtRegister g w sh t names s r now = at_register g w z sh flight t names range s r now k in
      by_last here (λ j same below. elim (cases_eq j r) [
        | inl e ↦ elim (here.in_work o.works same) [
          | inl null ↦ inl (ap (w.register s) e ∙ null)
          | inr holds ↦ inr (ap (λ word. w.mark (layout.reference_number word)) (ap (w.register s) e ∙ holds) ∙ marked)
        ]
        | inr d ↦ here.in_frame.passed j same (omega arith)
      ]) (nat_lt (r + 1) g.registers) refl
    where
      by_last : AtRegister g w sh t names s r now → ((j : ℕ) → w.frame_version s ≡ layout.frame_version t.first → j < r + 1 → IsNullOrMarked w.cycle w.mark (w.register s j))
          → (more : Bool) → nat_lt (r + 1) g.registers ≡ more
          → WorkFacts g w z sh flight (dealt t (after_register g s r) offset) names range (if more then line.Register s (r + 1) stage.Read else line.FrameTrade s)
      by_last here past true e =
          let spent : t.spent ≤ 1 + 4 * r + l.stage_rank now = here.spent in
          let rank : l.stage_rank now ≤ 3 = o.rank in
          let none = read_rank in
          register_works g w z sh flight (dealt t (after_register g s r) offset) names range s (r + 1) stage.Read (record {
            in_frame = record { at_frame = here.in_frame.at_frame; behind = here.in_frame.behind; passed = past };
            register = ltb-true _ _ e;
            staged = tt;
            good = λ e. no_read_work e;
            in_work = λ e. no_read_work e;
            spent = omega arith;
          })
      by_last here past false e =
          let last : g.registers ≤ r + 1 = ltb-false (r + 1) g.registers e in
          let below : r < g.registers = here.register in
          let spent : t.spent ≤ 1 + 4 * r + l.stage_rank now = here.spent in
          let rank : l.stage_rank now ≤ 3 = o.rank in
          frame_trade_works g w z sh flight (dealt t (after_register g s r) offset) names range s (record {
            in_frame = record { at_frame = here.in_frame.at_frame; behind = here.in_frame.behind; passed = λ j same below. past j same (omega arith) };
            spent = omega arith;
          })

  cell_next : (i : ℕ) (now next : Stage) → DealsOn now next → Goes g z flight t names (line.Cell i now) (line.Cell i next)
  cell_next i now next o w sh range offset marked k =
      let here : AtCell g w z sh t names range i now = at_cell g w z sh flight t names range i now k in
      let item = here.in_object.at_item in
      let spent : t.spent ≤ 1 + 5 * i + l.stage_rank now = here.spent in
      let rank : l.stage_rank next ≡ l.stage_rank now + 1 = o.rank in
      cell_works g w z sh flight (dealt t (line.Cell i next) offset) names range i next (record {
        in_object = record {
          at_item = record { at_range = record { all_black = item.at_range.all_black; found = item.at_range.found }; some = item.some; linked = item.linked };
          behind = here.in_object.behind;
          passed = here.in_object.passed;
          copied = here.in_object.copied;
        };
        cell = here.cell;
        staged = o.of_cell;
        good = λ e. here.good o.before.works;
        claimed = λ j e. absurd (o.unwritten i j e);
        loaded = λ j e. here.loaded j (o.before.loaded i ∙ sym (o.after.loaded i) ∙ e);
        spent = omega arith;
      })

  cell_past : (i : ℕ) (now : Stage) → IsDealing now → Goes g z flight t names (line.Cell i now) (line.Cell i stage.Write)
  cell_past i now o w sh range offset marked k =
      let here : AtCell g w z sh t names range i now = at_cell g w z sh flight t names range i now k in
      let item = here.in_object.at_item in
      let spent : t.spent ≤ 1 + 5 * i + l.stage_rank now = here.spent in
      let rank : l.stage_rank now ≤ 3 = o.rank in
      let full = write_rank in
      cell_works g w z sh flight (dealt t (line.Cell i stage.Write) offset) names range i stage.Write (record {
        in_object = record {
          at_item = record { at_range = record { all_black = item.at_range.all_black; found = item.at_range.found }; some = item.some; linked = item.linked };
          behind = here.in_object.behind;
          passed = here.in_object.passed;
          copied = here.in_object.copied;
        };
        cell = here.cell;
        staged = tt;
        good = λ e. no_write_work e;
        claimed = λ j e below. inr marked;
        loaded = λ j e. here.loaded j (o.loaded i ∙ sym (loaded_now i) ∙ e);
        spent = omega arith;
      })

-- THE EVENTS

-- what the lines say on which a reference is dealt with, and on which it is past
record Past (g : Geometry) (z : Spaces) (flight : ℕ → Flight) (t : Spot) (names : Names) (from past : Line) : Type 0 where
  reference : l.has_reference from ≡ true
  marks : l.is_marking past ≡ true
  no_hand : (offset : ℕ) → l.hand_of_spot (dealt t past offset) ≡ no_claim
  works : Goes g z flight t names from past

-- and on the next line on which it is dealt with still
record Onward (g : Geometry) (z : Spaces) (flight : ℕ → Flight) (t : Spot) (names : Names) (from next : Line) (hand : ℕ → Hand) : Type 0 where
  marks : l.is_marking next ≡ true
  has_hand : (offset : ℕ) → l.hand_of_spot (dealt t next offset) ≡ hand offset
  works : Goes g z flight t names from next

module _ (g : Geometry) (w : Words) (flight : ℕ → Flight) (begun : ℕ → ℕ) (t : Spot) (names : Names) (contents : Contents) (range : ℕ → Option ℕ) (from : Line) (at : t.line ≡ from)
    (reference : l.has_reference from ≡ true) where
  deals_there : l.has_reference t.line ≡ true
  deals_there = ap l.has_reference at ∙ reference

  -- the spot goes on to a line, with the claim in hand of that line
  deals_on : (to : Line) (offset : ℕ) (mine : Hand) → l.is_marking to ≡ true → l.hand_of_spot (dealt t to offset) ≡ mine → Goes g (spaces_of g w.cycle) flight t names from to
      → w.mark (layout.reference_number t.cell) ≡ w.cycle
      → Facts g w (spaces_of g w.cycle) (shades_of g w flight t.line names) flight begun (upd (hands_of g flight t) (tasks g) mine) t names contents range
      → FactsOf g w flight begun (dealt t to offset) names contents range
  deals_on to offset mine marks hand works marked h =
      let z = spaces_of g w.cycle in
      let sh = shades_of g w flight t.line names in
      let other = dealt t to offset in
      let goes : GoesMarking t other = record { from = (reference_marks t.line deals_there).0; to = marks; cycle = refl; scan = refl; entries = refl } in
      spot_on g w flight begun t other names contents range
      (subst (λ (a : Hand). Facts g w z sh flight begun (upd (hands_of g flight t) (tasks g) a) t names contents range) (sym hand) h) goes
      (works w sh range offset marked (work_facts g w z sh flight begun (upd (hands_of g flight t) (tasks g) mine) t names contents range h from at))

module _ (g : Geometry) (w : Words) (flight : ℕ → Flight) (begun : ℕ → ℕ) (t : Spot) (names : Names) (contents : Contents) (range : ℕ → Option ℕ) (from past : Line) (at : t.line ≡ from)
    (o : Past g (spaces_of g w.cycle) flight t names from past) (h : FactsOf g w flight begun t names contents range) where
  here_deals : l.has_reference t.line ≡ true
  here_deals = deals_there g w flight begun t names contents range from at o.reference

  claims_on : (next : Line) → Onward g (spaces_of g w.cycle) flight t names from next (λ offset. to_reserve t.cell t.cycle) → l.hand_of_spot t ≡ no_claim
      → FactsOf g (claim_words w (layout.reference_number t.cell) t.cycle) flight begun
      (dealt t (if nat_lt (w.mark (layout.reference_number t.cell)) t.cycle then next else past) t.offset) names contents range
  claims_on next on free =
      by_first (nat_lt (w.mark (layout.reference_number t.cell)) t.cycle) (claim_at g w flight begun t names contents range here_deals h free)
    where
      by_first : (first : Bool)
          → Facts g (claim_words w (layout.reference_number t.cell) t.cycle) (spaces_of g w.cycle)
          (shades_of g (claim_words w (layout.reference_number t.cell) t.cycle) flight t.line names) flight begun
          (upd (hands_of g flight t) (tasks g) (if first then to_reserve t.cell t.cycle else no_claim)) t names contents range
          → FactsOf g (claim_words w (layout.reference_number t.cell) t.cycle) flight begun (dealt t (if first then next else past) t.offset) names contents range
      by_first true f =
          deals_on g (claim_words w (layout.reference_number t.cell) t.cycle) flight begun t names contents range from at o.reference next t.offset (to_reserve t.cell t.cycle) on.marks
          (on.has_hand t.offset) on.works (claim_marks g w flight begun t names contents range here_deals h) f
      by_first false f =
          deals_on g (claim_words w (layout.reference_number t.cell) t.cycle) flight begun t names contents range from at o.reference past t.offset no_claim o.marks
          (o.no_hand t.offset) o.works (claim_marks g w flight begun t names contents range here_deals h) f

  reserves_on : (next : Line) → Onward g (spaces_of g w.cycle) flight t names from next (λ offset. to_link t.cell t.cycle offset) → l.hand_of_spot t ≡ to_reserve t.cell t.cycle
      → ShapesFit names → BearersHaveFields names
      → FactsOf g (reserve_words w (reference_size t.cell)) flight begun
      (dealt t (if reserved_fits g w.reserved t.cell then next else past) w.reserved) names contents (reserve_range range w.reserved (layout.reference_number t.cell))
  reserves_on next on holds fit fields =
      by_fit (reserved_fits g w.reserved t.cell) (reserve_at g w flight begun t names contents range here_deals h holds fit fields)
    where
      by_fit : (fits : Bool)
          → Facts g (reserve_words w (reference_size t.cell)) (spaces_of g w.cycle) (shades_of g (reserve_words w (reference_size t.cell)) flight t.line names) flight begun
          (upd (hands_of g flight t) (tasks g) (if fits then to_link t.cell t.cycle w.reserved else no_claim)) t names contents (reserve_range range w.reserved (layout.reference_number t.cell))
          → FactsOf g (reserve_words w (reference_size t.cell)) flight begun (dealt t (if fits then next else past) w.reserved) names contents
          (reserve_range range w.reserved (layout.reference_number t.cell))
      by_fit true f =
          deals_on g (reserve_words w (reference_size t.cell)) flight begun t names contents (reserve_range range w.reserved (layout.reference_number t.cell)) from at o.reference
          next w.reserved (to_link t.cell t.cycle w.reserved) on.marks (on.has_hand w.reserved) on.works (reserve_marks g w flight begun t names contents range here_deals h holds) f
      by_fit false f =
          deals_on g (reserve_words w (reference_size t.cell)) flight begun t names contents (reserve_range range w.reserved (layout.reference_number t.cell)) from at o.reference
          past w.reserved no_claim o.marks (o.no_hand w.reserved) o.works (reserve_marks g w flight begun t names contents range here_deals h holds) f

  links_on : l.hand_of_spot t ≡ to_link t.cell t.cycle t.offset → ShapesFit names
      → FactsOf g (cell_words w (place_at g (current_space t.cycle) t.offset) t.cell) flight begun (dealt t past t.offset) names contents range
  links_on holds fit =
      let p = (spaces_of g w.cycle).current + t.offset in
      let there : p ≡ place_at g (current_space t.cycle) t.offset = link_there g t w.cycle h.spot_knows_cycle in
      subst (λ (p : ℕ). FactsOf g (cell_words w p t.cell) flight begun (dealt t past t.offset) names contents range) there
      (deals_on g (cell_words w p t.cell) flight begun t names contents range from at o.reference past t.offset no_claim o.marks (o.no_hand t.offset) o.works
      (link_marks g w flight begun t names contents range here_deals h holds)
      (link_at g w flight begun t names contents range here_deals h holds fit))
    where
      link_there : (g : Geometry) (t : Spot) (cycle : ℕ) → t.cycle ≡ cycle → (spaces_of g cycle).current + t.offset ≡ place_at g (current_space t.cycle) t.offset
      link_there g t cycle e = rw (← e) (omega arith)

-- AT A REGISTER, AND AT A CELL

past_register_marks : (g : Geometry) (s r : ℕ) → l.is_marking (after_register g s r) ≡ true
unfolding l.is_marking
past_register_marks g s r = by_last (nat_lt (r + 1) g.registers)
  where
    by_last : (more : Bool) → l.is_marking (if more then line.Register s (r + 1) stage.Read else line.FrameTrade s) ≡ true
    by_last true = refl
    by_last false = refl

past_register_hand : (g : Geometry) (t : Spot) (s r offset : ℕ) → l.hand_of_spot (dealt t (after_register g s r) offset) ≡ no_claim
unfolding l.hand_of_spot l.hand_at_line l.hand_at
past_register_hand g t s r offset = by_last (nat_lt (r + 1) g.registers)
  where
    by_last : (more : Bool) → l.hand_at_line (dealt t (after_register g s r) offset) (if more then line.Register s (r + 1) stage.Read else line.FrameTrade s) ≡ no_claim
    by_last true = refl
    by_last false = refl

module _ (g : Geometry) (z : Spaces) (flight : ℕ → Flight) (t : Spot) (names : Names) where
  past_register : (s r : ℕ) (now : Stage) → IsDealing now → Past g z flight t names (line.Register s r now) (after_register g s r)
  unfolding l.has_reference
  past_register s r now o = record { reference = o.works; marks = past_register_marks g s r; no_hand = past_register_hand g t s r; works = register_past g z flight t names s r now o }

  past_cell : (i : ℕ) (now : Stage) → IsDealing now → Past g z flight t names (line.Cell i now) (line.Cell i stage.Write)
  unfolding l.has_reference l.is_marking l.hand_of_spot l.hand_at_line l.hand_at
  past_cell i now o = record { reference = o.works; marks = refl; no_hand = λ offset. refl; works = cell_past g z flight t names i now o }

  on_to_reserve_register : (s r : ℕ) → Onward g z flight t names (line.Register s r stage.Claim) (line.Register s r stage.Reserve) (λ offset. to_reserve t.cell t.cycle)
  unfolding l.is_marking l.hand_of_spot l.hand_at_line l.hand_at
  on_to_reserve_register s r = record { marks = refl; has_hand = λ offset. refl; works = register_next g z flight t names s r stage.Claim stage.Reserve claim_on }

  on_to_tie_register : (s r : ℕ) → Onward g z flight t names (line.Register s r stage.Reserve) (line.Register s r stage.Tie) (λ offset. to_link t.cell t.cycle offset)
  unfolding l.is_marking l.hand_of_spot l.hand_at_line l.hand_at
  on_to_tie_register s r = record { marks = refl; has_hand = λ offset. refl; works = register_next g z flight t names s r stage.Reserve stage.Tie reserve_on }

  on_to_reserve_cell : (i : ℕ) → Onward g z flight t names (line.Cell i stage.Claim) (line.Cell i stage.Reserve) (λ offset. to_reserve t.cell t.cycle)
  unfolding l.is_marking l.hand_of_spot l.hand_at_line l.hand_at
  on_to_reserve_cell i = record { marks = refl; has_hand = λ offset. refl; works = cell_next g z flight t names i stage.Claim stage.Reserve claim_on }

  on_to_tie_cell : (i : ℕ) → Onward g z flight t names (line.Cell i stage.Reserve) (line.Cell i stage.Tie) (λ offset. to_link t.cell t.cycle offset)
  unfolding l.is_marking l.hand_of_spot l.hand_at_line l.hand_at
  on_to_tie_cell i = record { marks = refl; has_hand = λ offset. refl; works = cell_next g z flight t names i stage.Reserve stage.Tie reserve_on }

cell_by : (i : ℕ) (test : Bool) (first second : Stage) → ◌≡◌ {A = Line} (if test then line.Cell i first else line.Cell i second) (line.Cell i (if test then first else second))
cell_by i true first second = refl
cell_by i false first second = refl

-- the claim in hand on each of these lines
pub register_hand : (t : Spot) (s r : ℕ) (now : Stage) → t.line ≡ line.Register s r now → l.hand_of_spot t ≡ l.hand_at t now
unfolding l.hand_of_spot l.hand_at_line
register_hand t s r now e = ap (l.hand_at_line t) e

pub cell_hand : (t : Spot) (i : ℕ) (now : Stage) → t.line ≡ line.Cell i now → l.hand_of_spot t ≡ l.hand_at t now
unfolding l.hand_of_spot l.hand_at_line
cell_hand t i now e = ap (l.hand_at_line t) e

claim_stage : (t : Spot) → l.hand_at t stage.Claim ≡ no_claim
unfolding l.hand_at
claim_stage t = refl

reserve_stage : (t : Spot) → l.hand_at t stage.Reserve ≡ to_reserve t.cell t.cycle
unfolding l.hand_at
reserve_stage t = refl

pub tie_stage : (t : Spot) → l.hand_at t stage.Tie ≡ to_link t.cell t.cycle t.offset
unfolding l.hand_at
tie_stage t = refl

module _ (g : Geometry) (w : Words) (flight : ℕ → Flight) (begun : ℕ → ℕ) (t : Spot) (names : Names) (contents : Contents) (range : ℕ → Option ℕ) where
  -- all facts hold after the collector has claimed the object of a register
  pub register_claims : (s r : ℕ) → t.line ≡ line.Register s r stage.Claim → FactsOf g w flight begun t names contents range
      → FactsOf g (claim_words w (layout.reference_number t.cell) t.cycle) flight begun
      (dealt t (if nat_lt (w.mark (layout.reference_number t.cell)) t.cycle then line.Register s r stage.Reserve else after_register g s r) t.offset) names contents range
  register_claims s r at h =
      let z = spaces_of g w.cycle in
      claims_on g w flight begun t names contents range (line.Register s r stage.Claim) (after_register g s r) at (past_register g z flight t names s r stage.Claim at_claim) h
      (line.Register s r stage.Reserve) (on_to_reserve_register g z flight t names s r) (register_hand t s r stage.Claim at ∙ claim_stage t)

  -- after it has reserved a place for that object
  pub register_reserves : (s r : ℕ) → t.line ≡ line.Register s r stage.Reserve → ShapesFit names → BearersHaveFields names → FactsOf g w flight begun t names contents range
      → FactsOf g (reserve_words w (reference_size t.cell)) flight begun
      (dealt t (if reserved_fits g w.reserved t.cell then line.Register s r stage.Tie else after_register g s r) w.reserved) names contents
      (reserve_range range w.reserved (layout.reference_number t.cell))
  register_reserves s r at fit fields h =
      let z = spaces_of g w.cycle in
      reserves_on g w flight begun t names contents range (line.Register s r stage.Reserve) (after_register g s r) at (past_register g z flight t names s r stage.Reserve at_reserve) h
      (line.Register s r stage.Tie) (on_to_tie_register g z flight t names s r) (register_hand t s r stage.Reserve at ∙ reserve_stage t) fit fields

  -- after it has linked it
  pub register_links : (s r : ℕ) → t.line ≡ line.Register s r stage.Tie → ShapesFit names → FactsOf g w flight begun t names contents range
      → FactsOf g (cell_words w (place_at g (current_space t.cycle) t.offset) t.cell) flight begun (dealt t (after_register g s r) t.offset) names contents range
  register_links s r at fit h =
      links_on g w flight begun t names contents range (line.Register s r stage.Tie) (after_register g s r) at
      (past_register g (spaces_of g w.cycle) flight t names s r stage.Tie at_tie) h (register_hand t s r stage.Tie at ∙ tie_stage t) fit

  -- and the same for the object of a reference cell
  pub cell_claims : (i : ℕ) → t.line ≡ line.Cell i stage.Claim → FactsOf g w flight begun t names contents range
      → FactsOf g (claim_words w (layout.reference_number t.cell) t.cycle) flight begun
      (dealt t (line.Cell i (if nat_lt (w.mark (layout.reference_number t.cell)) t.cycle then stage.Reserve else stage.Write)) t.offset) names contents range
  cell_claims i at h =
      let z = spaces_of g w.cycle in
      let n = layout.reference_number t.cell in
      subst (λ (ln : Line). FactsOf g (claim_words w n t.cycle) flight begun (dealt t ln t.offset) names contents range) (cell_by i (nat_lt (w.mark n) t.cycle) stage.Reserve stage.Write)
      (claims_on g w flight begun t names contents range (line.Cell i stage.Claim) (line.Cell i stage.Write) at (past_cell g z flight t names i stage.Claim at_claim) h
      (line.Cell i stage.Reserve) (on_to_reserve_cell g z flight t names i) (cell_hand t i stage.Claim at ∙ claim_stage t))

  pub cell_reserves : (i : ℕ) → t.line ≡ line.Cell i stage.Reserve → ShapesFit names → BearersHaveFields names → FactsOf g w flight begun t names contents range
      → FactsOf g (reserve_words w (reference_size t.cell)) flight begun
      (dealt t (line.Cell i (if reserved_fits g w.reserved t.cell then stage.Tie else stage.Write)) w.reserved) names contents
      (reserve_range range w.reserved (layout.reference_number t.cell))
  cell_reserves i at fit fields h =
      let z = spaces_of g w.cycle in
      let ranges = reserve_range range w.reserved (layout.reference_number t.cell) in
      subst (λ (ln : Line). FactsOf g (reserve_words w (reference_size t.cell)) flight begun (dealt t ln w.reserved) names contents ranges)
      (cell_by i (reserved_fits g w.reserved t.cell) stage.Tie stage.Write)
      (reserves_on g w flight begun t names contents range (line.Cell i stage.Reserve) (line.Cell i stage.Write) at (past_cell g z flight t names i stage.Reserve at_reserve) h
      (line.Cell i stage.Tie) (on_to_tie_cell g z flight t names i) (cell_hand t i stage.Reserve at ∙ reserve_stage t) fit fields)

  pub cell_links : (i : ℕ) → t.line ≡ line.Cell i stage.Tie → ShapesFit names → FactsOf g w flight begun t names contents range
      → FactsOf g (cell_words w (place_at g (current_space t.cycle) t.offset) t.cell) flight begun (dealt t (line.Cell i stage.Write) t.offset) names contents range
  cell_links i at fit h =
      links_on g w flight begun t names contents range (line.Cell i stage.Tie) (line.Cell i stage.Write) at
      (past_cell g (spaces_of g w.cycle) flight t names i stage.Tie at_tie) h (cell_hand t i stage.Tie at ∙ tie_stage t) fit
