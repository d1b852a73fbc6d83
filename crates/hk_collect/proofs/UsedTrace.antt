-- The facts of a traced run hold in the opening state, and after a step of a seat and an event of the collector.
use Rattle.std.proofs.Common.{◌≡◌, ℕ, ◌+◌, ◌<◌, ◌≤◌, Bool, true, false, inl, inr, refl, sym, ◌∙◌, ap, arith, List, [], ◌∷◌, ◌++◌, length, Option, Some, None}
use Rattle.std.proofs.lemmas.Bool.{cases_Bool, cases_eq, and_left, and_right, ne_eqb}
use Rattle.std.proofs.lemmas.List.Elements.{Contains-push_cases}
use Rattle.std.specs.Prelude.{nat_eq, not, Contains, option_to_list, if◌then◌else◌}
use Rattle.hk_words.specs.declared.geometry.Geometry.{Geometry}
use Rattle.hk_words.specs.Geometry.{tasks, numbers, list_length}
use Rattle.hk_words.specs.Layout as layout
use Rattle.hk_words.specs.Row.{w0_at}
use Rattle.hk_model.specs.Heap.{born, opening_of}
use Rattle.hk_model.specs.History.{Entry, History, after}
use Rattle.hk_model.specs.History as histories
use Rattle.hk_model.proofs.Heaps.{born-opening}
use Rattle.hk_model.proofs.Lasting.{lasts_longer}
use Rattle.hk_model.proofs.Histories.{after-push, length-numbers_born}
use Rattle.hk_core.specs.declared.event.Event.TheVariants as event
use Rattle.hk_core.specs.declared.spot.Spot.{Spot}
use Rattle.hk_core.specs.declared.spot.Line.TheVariants as line
use Rattle.hk_core.specs.Collect as table
use Rattle.hk_core.specs.Collect.{last_cycle, next_collected, work_by_collector, event_by_collector, found_by_collector}
use Rattle.hk_core.specs.Event.{fired_if}
use Rattle.hk_core.specs.State.{State, opening, opening_spot, flight_of}
use Rattle.hk_core.specs.Step.{event_by, effect_of, found_by, next, history_after}
use Rattle.hk_core.specs.View.{contents_of, Words, words_of, names_of, flight_at}
use Rattle.hk_core.specs.Flights as f
use Rattle.hk_core.specs.Lines as l
use Rattle.hk_core.specs.Colours.{spaces_of, shades_of}
use Rattle.hk_core.specs.Lawful.{Lawful}
use Rattle.hk_core.proofs.Seven.{seat_steps}
use Rattle.hk_core.proofs.kinds.Effects.{is_heap}
use Rattle.hk_collect.proofs.spots.SpotFlip.{flipped_spot}
use Rattle.hk_core.proofs.OpeningRow.{opened}
use Rattle.hk_core.proofs.OpeningHeap.{board_alone}
use Rattle.hk_core.specs.Reach.{in_register}
use Rattle.hk_core.specs.State.{opening_row}
use Rattle.hk_collect.specs.Used.{Closed, UsedSince, YoungBorn, next_birth, gives_young, is_flip}
use Rattle.hk_collect.proofs.UsedBirth.{about_to_bear, birth_keeps, next_after}
use Rattle.hk_collect.proofs.UsedCalls.{step_keeps}
use Rattle.hk_collect.proofs.UsedFacts.{claimed_of, MarksUsed, SpotUsed, spot_same}
use Rattle.hk_collect.proofs.UsedHeap.{closed_here, closed_entry}
use Rattle.hk_collect.proofs.UsedMarks.{collector_keeps, zero_not_claimed}
use Rattle.hk_collect.proofs.UsedRows.{Agrees, agrees_fired, beside_w0}
use Rattle.hk_collect.proofs.UsedSpot.{spot_stands}
use Rattle.hk_collect.proofs.UsedTables.{bears_effect, numbers_effect, line_cycle, no_flip, rest_flips, rests_or_not}
use Rattle.hk_core.proofs.Shared.{never}
use Rattle.std.proofs.lemmas.List.{append-nil}

-- the facts of a traced run, of what the row and the spot say
pub record Uses (g : Geometry) (w : Words) (t : Spot) (history at_flip : History) (young : List ℕ) : Type 0 where
  pub closed : Closed (after (opening_of g) history) (UsedSince g at_flip)
  pub marks : MarksUsed g w (names_of g history).bearer (UsedSince g at_flip) young
  pub spot : SpotUsed g w t.line t.cell (names_of g history).bearer (UsedSince g at_flip)
  pub all_born : YoungBorn young (next_birth g history)
  pub later : next_birth g at_flip ≤ next_birth g history

abbrev pub UsesOf : State → (history at_flip : History) → List ℕ → Type 0
UsesOf c history at_flip young = Uses c.geometry (words_of c.geometry c.row) c.spot history at_flip young

-- HISTORIES

-- the plain heap after one entry more, or none
closed_longer : (g : Geometry) (history : History) (used : ℕ → Type 0) (o : Option Entry) → used (next_birth g history) → Closed (after (opening_of g) history) used
    → Closed (after (opening_of g) (history ++ option_to_list o)) used
closed_longer g history used None is h = rw (append-nil history) h
closed_longer g history used (Some e) is h = rw (after-push (opening_of g) history e) (closed_entry (after (opening_of g) history) used e is h)

next_rises : (g : Geometry) (history : History) (o : Option Entry) → next_birth g history ≤ next_birth g (history ++ option_to_list o)
next_rises g history o = (lasts_longer (opening_of g) history (option_to_list o)).births

-- THE OPENING STATE

nothing_there : (b : ℕ) → Contains [] b → ⊥
nothing_there b there = absurd (omega (arith, there.1))

-- where the collector rests nothing is grey and nothing is in work, so all facts hold from now on
uses_at_rest : (g : Geometry) (w : Words) (t : Spot) (history : History) → ((n : ℕ) → n < numbers g → claimed_of g w n ≡ true → (b : ℕ) × ((names_of g history).bearer n ≡ Some b) × UsedSince g history b)
    → l.frame_attempt g t.line ≡ None → l.has_reference t.line ≡ false → Uses g w t history history []
uses_at_rest g w t history claimed no_attempt no_reference = record {
  closed = closed_here g (after (opening_of g) history) (is_heap g history);
  marks = record {
    grey = λ n within is. let found = claimed n within is in (found.0, found.1, found.2, λ there. absurd (nothing_there found.0 there));
    young_marked = λ n b bears there. absurd (nothing_there b there);
  };
  spot = record {
    attempt = λ s passed r at seat reg. let e : None ≡ Some (s, passed) = sym no_attempt ∙ at in absurd (cc);
    in_work = λ deals. never (sym no_reference ∙ deals);
  };
  all_born = λ b there. absurd (nothing_there b there);
  later = omega arith;
}

-- at the start the board alone has a place, and it can be reached
opening_claimed : (g : Geometry) (n : ℕ) → claimed_of g (words_of g (opening_row g)) n ≡ true → (b : ℕ) × ((names_of g []).bearer n ≡ Some b) × UsedSince g [] b
unfolding contents_of
opening_claimed g n claimed = elim (cases_eq n 0) [
  | inl board ↦ (0, ap (names_of g []).bearer board ∙ (board_alone g).bearer, inl (in_register 0 0 (omega (arith, g.tasks_some)) (omega (arith, g.registers_some)) ((board_alone g).board 0 (omega (arith, g.tasks_some)))))
  | inr other ↦
      let w = words_of g (opening_row g) in
      let unplaced : w.place n ≡ 0 = (opened g).no_place n other in
      never (sym (rw unplaced (and_right (nat_eq (w.mark n) w.cycle) _ (zero_not_claimed (spaces_of g w.cycle) (omega arith) (omega arith)))) ∙ claimed)
]

pub uses_opening : (g : Geometry) → UsesOf (opening g) [] [] []
unfolding opening opening_spot l.frame_attempt l.has_reference l.is_marking shades_of
uses_opening g =
    uses_at_rest g (words_of g (opening g).row) (opening g).spot [] (λ n within. opening_claimed g n) refl refl

-- A STEP OF A SEAT

pub one_at_start : (g : Geometry) → born (opening_of g) ≡ 1
unfolding opening_of
one_at_start g = born-opening (tasks g) g.registers g.board

module _ (c : State) (history at_flip : History) (young : List ℕ) (h : Lawful c history) (o : UsesOf c history at_flip young)
    (s : ℕ) (below : s < tasks c.geometry) (some : 1 ≤ (flight_at c s).place) where
  abbrev used : ℕ → Type 0
  used = UsedSince c.geometry at_flip

  next_used : used (next_birth c.geometry history)
  next_used = inr o.later

  pub after_it : Lawful (next c s) (history_after c s history)
  after_it = (seat_steps c history s below h some).lawful

  pub same_cycle : (words_of c.geometry (fired_if c.row (event_by c s))).cycle ≡ (words_of c.geometry c.row).cycle
  unfolding next
  same_cycle = sym (after_it.facts.spot_knows_cycle) ∙ h.facts.spot_knows_cycle

  closed_after : Closed (after (opening_of c.geometry) (history_after c s history)) used
  unfolding history_after
  closed_after = closed_longer c.geometry history used (effect_of c.geometry (flight_of c.flights s) (found_by c s)) next_used o.closed

  pub next_later : next_birth c.geometry history ≤ next_birth c.geometry (history_after c s history)
  unfolding history_after
  next_later = next_rises c.geometry history (effect_of c.geometry (flight_of c.flights s) (found_by c s))

  bears_same : f.has_header (flight_at c s) ≡ false → (names_of c.geometry (history_after c s history)).bearer ≡ (names_of c.geometry history).bearer
  unfolding names_of history_after flight_at
  bears_same none = bears_effect c.geometry history (flight_of c.flights s) (found_by c s) none

  -- a step that makes no object makes no birth
  pub next_same : f.has_header (flight_at c s) ≡ false → next_birth c.geometry (history_after c s history) ≡ next_birth c.geometry history
  unfolding next history_after flight_at
  next_same none =
      let same : length (histories.numbers (history_after c s history)) ≡ length (histories.numbers history) =
      ap length (numbers_effect c.geometry history (flight_of c.flights s) (found_by c s) none) in
      let now = length-numbers_born (opening_of c.geometry) (history_after c s history) (one_at_start c.geometry) after_it.legal in
      let before = length-numbers_born (opening_of c.geometry) history (one_at_start c.geometry) h.legal in
      omega (arith, same, now, before)

  -- the young births after the step
  abbrev pub young_then : List ℕ
  young_then = if gives_young c s then young ++ next_birth c.geometry history ∷ [] else young

  pub no_young : f.has_header (flight_at c s) ≡ false → young_then ≡ young
  unfolding flight_at
  no_young none =
      let off : gives_young c s ≡ false = and_left (f.has_header (flight_of c.flights s)) _ none in
      ap (λ (b : Bool). if b then young ++ next_birth c.geometry history ∷ [] else young) off

  uses_other : f.has_header (flight_at c s) ≡ false → UsesOf (next c s) (history_after c s history) at_flip young
  unfolding next
  uses_other none =
      let g = c.geometry in
      let kept = step_keeps c history h used o.closed s below young o.marks o.spot none same_cycle in
      let next' = next_later in
      let later = o.later in
      record {
        closed = closed_after;
        marks = rw (bears_same none) kept.0;
        spot = rw (bears_same none) kept.1;
        all_born = λ b there. let before : b < next_birth g history = o.all_born b there in omega arith;
        later = omega arith;
      }

  uses_birth : f.has_header (flight_at c s) ≡ true → UsesOf (next c s) (history_after c s history) at_flip young_then
  unfolding next
  uses_birth has =
      let g = c.geometry in
      let x = about_to_bear (flight_at c s) has in
      let kept = birth_keeps c history h s below x used young o.marks o.spot next_used o.all_born in
      let next' = next_later in
      let later = o.later in
      record {
        closed = closed_after;
        marks = kept.0;
        spot = kept.1;
        all_born = born_then (gives_young c s) (next_after c history h s below x);
        later = omega arith;
      }
    where
      born_then : (test : Bool) → next_birth c.geometry (history_after c s history) ≡ next_birth c.geometry history + 1
          → YoungBorn (if test then young ++ next_birth c.geometry history ∷ [] else young) (next_birth c.geometry (history_after c s history))
      born_then false e b there = let before : b < next_birth c.geometry history = o.all_born b there in omega arith
      born_then true e b there = elim (Contains-push_cases young (next_birth c.geometry history) b there) [
        | inl old ↦ let before : b < next_birth c.geometry history = o.all_born b old in omega arith
        | inr same ↦ omega arith
      ]

  pub uses_step : UsesOf (next c s) (history_after c s history) at_flip young_then
  uses_step = elim (cases_Bool (f.has_header (flight_at c s))) [
    | inl has ↦ uses_birth has
    | inr none ↦ rw (no_young none) (uses_other none)
  ]

-- AN EVENT OF THE COLLECTOR

module _ (c : State) (history at_flip : History) (young : List ℕ) (h : Lawful c history) (after_it : Lawful (next_collected c) history) (o : UsesOf c history at_flip young) where
  -- the flip is made at rest, where there is another cycle
  not_rest : is_flip (work_by_collector c) ≡ false → c.spot.line ≡ line.Rest → nat_eq c.spot.cycle last_cycle ≡ true
  unfolding work_by_collector table.spot_work
  not_rest none at = by_worn (nat_eq c.spot.cycle last_cycle) (sym (rest_flips c.geometry c.spot (found_by_collector c)) ∙ ap (λ ln. is_flip (table.work_at_line c.geometry c.spot (found_by_collector c) ln)) (sym at) ∙ none)
    where
      by_worn : (worn : Bool) → not worn ≡ false → worn ≡ true
      by_worn true e = refl
      by_worn false e = absurd (cc)

  spot_cycle : is_flip (work_by_collector c) ≡ false → (next_collected c).spot.cycle ≡ c.spot.cycle
  unfolding next_collected table.spot_took
  spot_cycle none = line_cycle c.geometry c.spot c.spot.line (found_by_collector c) (not_rest none)

  pub same_cycle_then : is_flip (work_by_collector c) ≡ false → (words_of c.geometry (fired_if c.row (event_by_collector c))).cycle ≡ (words_of c.geometry c.row).cycle
  unfolding next_collected
  same_cycle_then none = sym (after_it.facts.spot_knows_cycle) ∙ spot_cycle none ∙ h.facts.spot_knows_cycle

  pub uses_collect : is_flip (work_by_collector c) ≡ false → UsesOf (next_collected c) history at_flip young
  unfolding next_collected
  uses_collect none =
      let g = c.geometry in
      let used = UsedSince g at_flip in
      let bearer' = (names_of g history).bearer in
      let kept = collector_keeps c history h used young o.marks o.spot in
      record {
        closed = o.closed;
        marks = kept.0 (same_cycle_then none);
        spot = spot_same g (words_of g c.row) (words_of g (fired_if c.row (event_by_collector c))) bearer' used young _ _ kept.1
            (spot_stands c history h used o.closed young o.marks o.spot (not_rest none));
        all_born = o.all_born;
        later = o.later;
      }

  -- THE FLIP

  module _ (flips : is_flip (work_by_collector c) ≡ true) where
    at_rest : c.spot.line ≡ line.Rest
    unfolding work_by_collector table.spot_work
    at_rest = elim (rests_or_not c.geometry c.spot c.spot.line) [
      | inl at ↦ at
      | inr other ↦ never (sym (no_flip c.geometry c.spot c.spot.line (found_by_collector c) other) ∙ flips)
    ]

    early : nat_eq c.spot.cycle last_cycle ≡ false
    unfolding work_by_collector table.spot_work
    early = by_worn (nat_eq c.spot.cycle last_cycle)
        (sym (rest_flips c.geometry c.spot (found_by_collector c)) ∙ ap (λ ln. is_flip (table.work_at_line c.geometry c.spot (found_by_collector c) ln)) (sym at_rest) ∙ flips)
      where
        by_worn : (worn : Bool) → not worn ≡ true → worn ≡ false
        by_worn true e = absurd (cc)
        by_worn false e = refl

    spot_flipped : (next_collected c).spot ≡ flipped_spot c.spot
    unfolding next_collected table.spot_took table.took_at_line table.rest_took
    spot_flipped = ap (table.took_at_line c.geometry c.spot (found_by_collector c)) at_rest ∙ rw early refl

    event_is : event_by_collector c ≡ Some (event.Swap (w0_at c.geometry) (layout.pack_w0 0 0 (c.spot.cycle + 1)))
    unfolding event_by_collector table.spot_event table.event_at_line table.rest_event
    event_is = ap (table.event_at_line c.geometry c.spot) at_rest ∙ rw early refl

    agrees : Agrees (words_of c.geometry c.row) (words_of c.geometry (fired_if c.row (event_by_collector c)))
    agrees = rw event_is (agrees_fired c.geometry c.row (event.Swap (w0_at c.geometry) (layout.pack_w0 0 0 (c.spot.cycle + 1))) (beside_w0 c.geometry))

    cycle_then : (words_of c.geometry (fired_if c.row (event_by_collector c))).cycle ≡ (words_of c.geometry c.row).cycle + 1
    unfolding next_collected
    cycle_then = sym (after_it.facts.spot_knows_cycle) ∙ ap (λ (u : Spot). u.cycle) spot_flipped ∙ ap (λ k. k + 1) h.facts.spot_knows_cycle

    -- a number that is marked for the next cycle has no place yet
    dark : (n : ℕ) → n < numbers c.geometry → claimed_of c.geometry (words_of c.geometry (fired_if c.row (event_by_collector c))) n ≡ false
    unfolding l.marked l.emptied
    dark n within =
        let g = c.geometry in
        let w = words_of g c.row in
        let w' = words_of g (fired_if c.row (event_by_collector c)) in
        let marked : w'.mark n ≡ w.mark n = ap (λ f. f n) agrees.mark in
        let cycle = cycle_then in
        elim (cases_eq (w.mark n) (w.cycle + 1)) [
          | inr other ↦ rw (ne_eqb (w'.mark n) w'.cycle (λ same. other (sym marked ∙ same ∙ cycle))) refl
          | inl same ↦
              let all_marked : l.marked g c.spot c.spot.line ≡ list_length g = ap (l.marked g c.spot) at_rest in
              let all_emptied : l.emptied g c.spot c.spot.line ≡ list_length g = ap (l.emptied g c.spot) at_rest in
              let found = h.facts.marks_above_are_written n within (omega arith) in
              let below : found.0 < l.marked g c.spot c.spot.line = found.1 in
              let empty = h.facts.written_empty found.0 (omega arith) in
              let unplaced : w.place n ≡ 0 = ap w.place (sym found.2) ∙ empty.no_place in
              let there : w'.place n ≡ 0 = ap (λ f. f n) agrees.place ∙ unplaced in
              rw there (and_right _ _ (zero_not_claimed (spaces_of g w'.cycle) (omega arith) (omega arith)))
        ]

    pub uses_flip : UsesOf (next_collected c) history history []
    unfolding next_collected l.frame_attempt l.has_reference
    uses_flip =
        let g = c.geometry in
        uses_at_rest g (words_of g (fired_if c.row (event_by_collector c))) (next_collected c).spot history (λ n within claimed. never (sym (dark n within) ∙ claimed))
        (ap (λ (u : Spot). l.frame_attempt g u.line) spot_flipped) (ap (λ (u : Spot). l.has_reference u.line) spot_flipped)
