-- A begin and a step of a seat keep a calm state calm. While the pass goes on, a calm state is settled. Then a claim is of a
-- number that was claimed before, a new header shows a place of the current space, and no other event of a seat changes the
-- place of a number or its mark.
use Rattle.std.proofs.Common.{◌≡◌, ◌≢◌, ℕ, ◌+◌, ◌<◌, ◌≤◌, Bool, true, false, List, inl, inr, refl, sym, ◌∙◌, ap, arith, Option, Some, None}
use Rattle.std.proofs.lemmas.Bool.{cases_Bool, cases_eq, cases_lt, eqb-true, eqb-false, ne_eqb, and_parts, leb-true, ltb-true}
use Rattle.std.proofs.lemmas.Bool.Decides.{nat_tests}
use Rattle.std.specs.Prelude.{nat_eq, nat_lt, nat_le, not, max, ◌&&◌, if◌then◌else◌}
use Rattle.hk_words.specs.declared.geometry.Geometry.{Geometry}
use Rattle.hk_words.specs.declared.call.Call.{Call}
use Rattle.hk_words.specs.declared.call.Call.TheVariants as call
use Rattle.hk_words.specs.declared.shape.Shape.{Shape}
use Rattle.hk_words.specs.Geometry.{tasks, numbers, frames_from}
use Rattle.hk_words.specs.Layout as layout
use Rattle.hk_words.specs.Row.{w0_at, header_at, mark_at}
use Rattle.hk_words.specs.Shape.{size}
use Rattle.hk_model.specs.History.{History}
use Rattle.hk_model.specs.View.{upd}
use Rattle.hk_model.proofs.Updates.{upd_same, upd_other}
use Rattle.hk_core.specs.declared.event.Event.{Event}
use Rattle.hk_core.specs.declared.event.Event.TheVariants as event
use Rattle.hk_core.specs.declared.flight.Flight.{Flight}
use Rattle.hk_core.specs.declared.spot.Line.TheVariants as line
use Rattle.hk_core.specs.declared.outcome.Fault.{Fault}
use Rattle.hk_core.specs.Event as events
use Rattle.hk_core.specs.Event.{fired_if}
use Rattle.hk_core.specs.State.{State}
use Rattle.hk_core.specs.Begin.{refusal, accepted, begun_or, after_begin}
use Rattle.hk_core.specs.Step as table
use Rattle.hk_core.specs.Step.{next, event_by, new_place, reserved_fits}
use Rattle.hk_core.specs.View.{Words, words_of, decoded, names_of, flight_at}
use Rattle.hk_core.specs.Flights as f
use Rattle.hk_core.specs.Lines as l
use Rattle.hk_core.specs.Colours.{spaces_of, is_within, white_by, shades_of}
use Rattle.hk_core.specs.Facts.{IsSettled, IsRecent, own_entry}
use Rattle.hk_core.specs.Lawful.{Lawful}
use Rattle.hk_core.proofs.Columns.{raw_w0, raw_header, raw_mark, fired_if_none, words_some}
use Rattle.hk_core.proofs.kinds.Seats.{kept_means}
use Rattle.hk_core.proofs.kinds.Enter.{object_of, entering_words}
use Rattle.hk_core.proofs.kinds.Leave.{leaving_words}
use Rattle.hk_core.proofs.kinds.Words.{words-load, words-enter_object, words-leave_object, room_in_object, some_in_object}
use Rattle.hk_core.proofs.kinds.Claim.{claim_words}
use Rattle.hk_core.proofs.kinds.ClaimWords.{words-claim, words-reserve}
use Rattle.hk_core.proofs.kinds.Reserve.{reserve_words}
use Rattle.hk_core.proofs.kinds.NewRaise.{raised_words}
use Rattle.hk_core.proofs.kinds.NewWords.{headed_words, words-raise, words-new_header, used_fits, objects_fit, new_place_fits}
use Rattle.hk_core.proofs.kinds.WriteCell.{shades_mean}
use Rattle.hk_collect.specs.Runs.{is_grey_by}
use Rattle.hk_collect.specs.Measure.{IsCalm, KeepsCalm, SeatsKeepCalm}
use Rattle.hk_collect.proofs.MeasureAttempts.{word_kept}
use Rattle.hk_collect.proofs.MeasureBounds.{fits_at}

-- WORDS THAT STAY CALM

-- no number becomes grey, and one that was claimed in this cycle stays so
pub record Calmly (g : Geometry) (w w' : Words) : Type 0 where
  pub grey : (n : ℕ) → n < numbers g → is_grey_by g w n ≡ false → is_grey_by g w' n ≡ false
  pub claimed : (n : ℕ) → n < numbers g → w.mark n ≡ w.cycle → w'.mark n ≡ w'.cycle

-- a number is grey by the cycle, its mark and its place
grey_from : Geometry → (cycle mark place : ℕ) → Bool
grey_from g cycle mark place = nat_eq mark cycle && is_within (spaces_of g cycle) (spaces_of g cycle).old place

same_grey : (g : Geometry) (w w' : Words) (n : ℕ) → w'.cycle ≡ w.cycle → w'.mark n ≡ w.mark n → w'.place n ≡ w.place n → is_grey_by g w' n ≡ is_grey_by g w n
unfolding grey_from
same_grey g w w' n cycle mark place =
    let same : grey_from g w'.cycle (w'.mark n) (w'.place n) ≡ grey_from g w.cycle (w.mark n) (w.place n) = rw (cycle, mark, place) refl in
    same

-- so it is where the cycle, and the mark and the place of each number are kept
calm_each : (g : Geometry) (w w' : Words) → w'.cycle ≡ w.cycle → ((n : ℕ) → n < numbers g → w'.mark n ≡ w.mark n) → ((n : ℕ) → n < numbers g → w'.place n ≡ w.place n) → Calmly g w w'
calm_each g w w' cycle marks places = record {
  grey = λ n within light. same_grey g w w' n cycle (marks n within) (places n within) ∙ light;
  claimed = λ n within of_cycle. marks n within ∙ of_cycle ∙ sym cycle;
}

calm_same : (g : Geometry) (w w' : Words) → w'.cycle ≡ w.cycle → w'.mark ≡ w.mark → w'.place ≡ w.place → Calmly g w w'
calm_same g w w' cycle marks places = calm_each g w w' cycle (λ n within. ap (λ (column : ℕ → ℕ). column n) marks) (λ n within. ap (λ (column : ℕ → ℕ). column n) places)

below_light : (g : Geometry) (w : Words) (n : ℕ) → w.place n < (spaces_of g w.cycle).old → is_grey_by g w n ≡ false
below_light g w n below = elim (cases_Bool (is_grey_by g w n)) [
  | inl grey ↦
      let parts = and_parts (nat_eq (w.mark n) w.cycle) _ grey in
      let inside = and_parts (nat_le (spaces_of g w.cycle).old (w.place n)) _ parts.1 in
      let after : (spaces_of g w.cycle).old ≤ w.place n = leb-true _ _ inside.0 in
      absurd (omega arith)
  | inr light ↦ light
]

above_light : (g : Geometry) (w : Words) (n : ℕ) → (spaces_of g w.cycle).old + (g.live + g.alloc) ≤ w.place n → is_grey_by g w n ≡ false
above_light g w n above = elim (cases_Bool (is_grey_by g w n)) [
  | inl grey ↦
      let parts = and_parts (nat_eq (w.mark n) w.cycle) _ grey in
      let inside = and_parts (nat_le (spaces_of g w.cycle).old (w.place n)) _ parts.1 in
      let before : w.place n < (spaces_of g w.cycle).old + (g.live + g.alloc) = ltb-true _ _ inside.1 in
      absurd (omega arith)
  | inr light ↦ light
]

-- EVENTS

-- the words after an event that may be left out
abbrev CalmAfter : Geometry → List ℕ → Option Event → Type 0
CalmAfter g row e = Calmly g (words_of g row) (words_of g (fired_if row e))

by_test : (P : Option Event → Type 0) (test : Bool) (a b : Option Event) → (test ≡ true → P a) → (test ≡ false → P b) → P (if test then a else b)
by_test P true a b yes' no' = yes' refl
by_test P false a b yes' no' = no' refl

module _ (g : Geometry) (row : List ℕ) where
  -- an event after which the words say so and so
  calm_words : (e : Event) (w' : Words) → words_of g (events.fired row e) ≡ w' → Calmly g (words_of g row) w' → CalmAfter g row (Some e)
  calm_words e w' words calm = rw (words_some g row e w' words) calm

  rests_calmly : CalmAfter g row None
  rests_calmly = rw (fired_if_none row) (calm_same g (words_of g row) (words_of g row) refl refl refl)

  loads_calmly : (word : ℕ) → CalmAfter g row (Some (event.Load word))
  loads_calmly word = calm_words (event.Load word) (words_of g row) (words-load g row word) (calm_same g (words_of g row) (words_of g row) refl refl refl)

  -- an event on a word after the marks
  beyond_calmly : (e : Event) → frames_from g ≤ events.word_of e → CalmAfter g row (Some e)
  unfolding words_of decoded
  beyond_calmly e beyond = calm_each g (words_of g row) (words_of g (fired_if row (Some e)))
      (ap layout.w0_cycle (raw_w0 g (fired_if row (Some e)) ∙ word_kept row e (w0_at g) 0 (λ same. absurd (omega arith)) ∙ sym (raw_w0 g row)))
      (λ n within. raw_mark g (fired_if row (Some e)) n within ∙ word_kept row e (mark_at g n) 0 (λ same. absurd (omega arith)) ∙ sym (raw_mark g row n within))
      (λ n within. ap layout.header_place (raw_header g (fired_if row (Some e)) n within ∙ word_kept row e (header_at g n) 0 (λ same. absurd (omega arith)) ∙ sym (raw_header g row n within)))

-- A SEAT

new_sized : (x : Flight) (dest : ℕ) (shape : Shape) → x.call ≡ call.New dest shape → f.new_size x ≡ size shape
unfolding f.new_size f.new_size_of
new_sized x dest shape is_new = rw is_new refl

module _ (c : State) (history : History) (s : ℕ) (below : s < tasks c.geometry) (h : Lawful c history)
    (settled : IsSettled c.geometry (words_of c.geometry c.row).cycle (shades_of c.geometry (words_of c.geometry c.row) (flight_at c) c.spot.line (names_of c.geometry history)).white
    (shades_of c.geometry (words_of c.geometry c.row) (flight_at c) c.spot.line (names_of c.geometry history)).grey (words_of c.geometry c.row).register (flight_at c)) where
  abbrev Calms : Option Event → Type 0
  Calms e = CalmAfter c.geometry c.row e

  rests : Calms None
  rests = rests_calmly c.geometry c.row

  -- entering and leaving an object
  entered_within : f.is_through (flight_at c s).call ≡ true → f.is_flying (flight_at c s) ≡ true → object_of (flight_at c s) < numbers c.geometry
  entered_within through flying =
      (kept_means c.geometry (words_of c.geometry c.row) (flight_at c) c.spot.line (names_of c.geometry history) (object_of (flight_at c s)) (h.facts.entered_good s below through flying).is_kept).within

  enters : f.is_through (flight_at c s).call ≡ true → f.is_flying (flight_at c s) ≡ true → f.in_object (flight_at c s) ≡ false → Calms (table.enter_object c.geometry (flight_at c s))
  unfolding table.enter_object f.is_inside
  enters through flying outside =
      let g = c.geometry in
      let w = words_of g c.row in
      let n = object_of (flight_at c s) in
      let fits : n < numbers g = entered_within through flying in
      let few = room_in_object g w.accessors (flight_at c) s n below fits (rw outside refl) h.facts.accessors_counted in
      calm_words g c.row (event.Add (header_at g n) layout.entering) (entering_words w n) (words-enter_object g c.row h.sized.row n fits few) (calm_same g w (entering_words w n) refl refl refl)

  leaves : f.is_through (flight_at c s).call ≡ true → f.is_flying (flight_at c s) ≡ true → f.in_object (flight_at c s) ≡ true → Calms (table.leave_object c.geometry (flight_at c s))
  unfolding table.leave_object f.is_inside
  leaves through flying inside =
      let g = c.geometry in
      let w = words_of g c.row in
      let n = object_of (flight_at c s) in
      let fits : n < numbers g = entered_within through flying in
      let some = some_in_object g w.accessors (flight_at c) s n below fits (rw inside (same n)) h.facts.accessors_counted in
      calm_words g c.row (event.Sub (header_at g n) layout.leaving) (leaving_words w n) (words-leave_object g c.row h.sized.row n fits some) (calm_same g w (leaving_words w n) refl refl refl)
    where
      same : (n : ℕ) → nat_eq n n ≡ true
      same n = grind (arith, nat_tests)

  -- events on frames, registers and cells, and loads
  enters_frame : Calms (table.enter_frame c.geometry (flight_at c s))
  unfolding table.enter_frame
  enters_frame = beyond_calmly c.geometry c.row _ (omega arith)

  leaves_frame : Calms (table.leave_frame c.geometry (flight_at c s))
  unfolding table.leave_frame
  leaves_frame = beyond_calmly c.geometry c.row _ (omega arith)

  reads : (p : ℕ) → Calms (table.read_cell c.geometry p)
  unfolding table.read_cell
  reads p = loads_calmly c.geometry c.row _

  writes : (p v : ℕ) → Calms (table.write_cell c.geometry p v)
  unfolding table.write_cell
  writes p v = beyond_calmly c.geometry c.row _ (omega arith)

  writes_register : (reg v : ℕ) → Calms (table.write_register c.geometry (flight_at c s) reg v)
  unfolding table.write_register
  writes_register reg v = beyond_calmly c.geometry c.row _ (omega arith)

  loads_w0 : Calms (table.load_w0 c.geometry)
  unfolding table.load_w0
  loads_w0 = loads_calmly c.geometry c.row _

  loads_entry : Calms (table.load_entry c.geometry (flight_at c s))
  unfolding table.load_entry
  loads_entry = loads_calmly c.geometry c.row _

  reserves : Calms (table.reserve c.geometry (flight_at c s))
  unfolding table.reserve
  reserves =
      let g = c.geometry in
      let w = words_of g c.row in
      let words = table.reference_size (flight_at c s).item in
      by_test Calms (flight_at c s).claimer _ _
      (λ claimer. calm_words g c.row _ (reserve_words w words) (words-reserve g c.row h.sized.row words) (calm_same g w (reserve_words w words) refl refl refl))
      (λ other. rests)

  links : Calms (table.link c.geometry (flight_at c s))
  unfolding table.link
  links = by_test Calms ((flight_at c s).claimer && reserved_fits c.geometry (flight_at c s).offset (flight_at c s).item) _ _
      (λ fits. beyond_calmly c.geometry c.row _ (omega arith)) (λ other. rests)

  -- A claim. A number that has a place was claimed before, as the state is settled, so its mark stays.
  claim_at : (n cycle : ℕ) → n < numbers c.geometry → cycle ≤ (words_of c.geometry c.row).cycle
      → white_by (words_of c.geometry c.row).cycle (words_of c.geometry c.row).place (words_of c.geometry c.row).mark n ≡ false
      → Calmly c.geometry (words_of c.geometry c.row) (claim_words (words_of c.geometry c.row) n cycle)
  claim_at n cycle within past dark =
      let g = c.geometry in
      let w = words_of g c.row in
      let w' = claim_words w n cycle in
      elim (cases_lt (w.mark n) w.cycle) [
        | inl unclaimed ↦
            let nowhere : w.place n ≡ 0 = no_place (w.place n) (w.mark n) w.cycle unclaimed dark in
            record {
              grey = λ k inside light. elim (cases_eq k n) [
                | inl here ↦ let none : w'.place k ≡ 0 = ap w.place here ∙ nowhere in below_light g w' k (omega arith)
                | inr other ↦ same_grey g w w' k refl (upd_other w.mark n (max (w.mark n) cycle) k other) refl ∙ light
              ];
              claimed = λ k inside of_cycle. elim (cases_eq k n) [
                | inl here ↦ let mark : w.mark n ≡ w.cycle = ap w.mark (sym here) ∙ of_cycle in absurd (omega arith)
                | inr other ↦ upd_other w.mark n (max (w.mark n) cycle) k other ∙ of_cycle
              ];
            }
        | inr claimed ↦ calm_each g w w' refl (λ k inside. elim (cases_eq k n) [
          | inl here ↦
              let most : max (w.mark n) cycle ≡ w.mark n = omega arith in
              ap (upd w.mark n (max (w.mark n) cycle)) here ∙ upd_same w.mark n (max (w.mark n) cycle) ∙ most ∙ ap w.mark (sym here)
          | inr other ↦ upd_other w.mark n (max (w.mark n) cycle) k other
        ]) (λ k inside. refl)
      ]
    where
      no_place : (place mark cycle : ℕ) → mark < cycle → (not (nat_eq place 0) && nat_lt mark cycle) ≡ false → place ≡ 0
      no_place place mark cycle below dark = grind (arith, nat_tests)

  claims : f.has_item (flight_at c s) ≡ true → ((flight_at c s).item ≢ 0 → f.has_cycle_inside (flight_at c s) ≡ true) → Calms (table.claim c.geometry (flight_at c s))
  unfolding table.claim shades_of
  claims item inside =
      let g = c.geometry in
      let w = words_of g c.row in
      let x = flight_at c s in
      let n = layout.reference_number x.item in
      by_test Calms (nat_eq x.item 0) _ _ (λ null. rests)
      (λ some. elim (cases_lt n (numbers g)) [
        | inl within ↦
            let past : IsRecent w.cycle (f.cycle_of x) = h.facts.loaded_recent s below (inside (eqb-false x.item 0 some)) in
            let dark : white_by w.cycle w.place w.mark n ≡ false = elim (settled.items s below item) [
              | inl null ↦ absurd (eqb-false x.item 0 some null)
              | inr dark ↦ dark
            ] in
            calm_words g c.row (event.Max (mark_at g n) (f.cycle_of x)) (claim_words w n (f.cycle_of x)) (words-claim g c.row h.sized.row n (f.cycle_of x) within)
            (claim_at n (f.cycle_of x) within (recent w.cycle (f.cycle_of x) past) dark)
        | inr beyond ↦ beyond_calmly g c.row (event.Max (mark_at g n) (f.cycle_of x)) (omega arith)
      ])
    where
      recent : (cycle past : ℕ) → IsRecent cycle past → past ≤ cycle
      recent cycle past (inl now) = omega arith
      recent cycle past (inr before) = omega arith

  -- A New that found room raises W0 and writes a header. Its place is in the current space, as it raised W0 in this cycle.
  module _ (dest : ℕ) (shape : Shape) (is_new : (flight_at c s).call ≡ call.New dest shape) (room : (flight_at c s).full ≡ false) where
    new_raises : (flight_at c s).place ≡ 3 → Calms (table.raise c.geometry shape)
    unfolding table.raise f.will_raise f.is_new_at
    new_raises at =
        let g = c.geometry in
        let w = words_of g c.row in
        let x = flight_at c s in
        let will : f.will_raise x ≡ true = rw (is_new, at, room) refl in
        let used = used_fits g w.used (flight_at c) s shape below will h.facts.used_stays_bounded in
        let objects = objects_fit g w.objects (flight_at c) s below will h.facts.objects_stay_bounded in
        calm_words g c.row (event.Add (w0_at g) (layout.raise_by (size shape))) (raised_words w (size shape)) (words-raise g c.row h.sized.row (size shape) used objects)
        (calm_same g w (raised_words w (size shape)) refl refl refl)

    has_raised : (flight_at c s).place ≡ 5 → f.has_raised (flight_at c s) ≡ true
    unfolding f.has_raised f.is_new_at
    has_raised at =
        let x = flight_at c s in
        let step : f.IsNewInStep x.place x.full x.raised = rw is_new at (h.facts.news_in_step s below) in
        let raised : x.raised ≡ true = step.raised_by_then (omega arith) room in
        rw (is_new, at, raised) refl

    new_writes_header : (flight_at c s).place ≡ 5 → Calms (table.write_header c.geometry (flight_at c s))
    unfolding table.write_header f.is_making f.has_number f.is_new_at f.has_room
    new_writes_header at =
        let g = c.geometry in
        let w = words_of g c.row in
        let x = flight_at c s in
        let z = spaces_of g w.cycle in
        let n = x.number in
        let raised = has_raised at in
        let own = h.facts.own_entries s below (rw (is_new, at, room) refl) in
        let number : n ≡ own_entry w.entry x = h.facts.number_is_own s below (rw (is_new, at, room) refl) in
        let within : n < numbers g = rw number own.within in
        let found = h.facts.news_found_room s below (rw (raised, room) refl) in
        let words : f.words_before x + f.new_size x ≤ g.alloc = found.words in
        let few : f.words_before x < g.alloc = words_below in
        let now : f.cycle_of x ≡ w.cycle = settled.none_late s below raised in
        let place = new_place g x in
        let stands : place ≡ z.current + (g.live + f.words_before x) = rw now (omega arith) in
        let w' = headed_words w n place in
        calm_words g c.row (event.Write (header_at g n) (layout.pack_header 0 place 0)) w' (words-new_header g c.row h.sized.row n place within (new_place_fits g x few))
        (record {
          grey = λ k inside light. elim (cases_eq k n) [
            | inl here ↦
                let at_new : w'.place k ≡ place = ap (upd w.place n place) here ∙ upd_same w.place n place in
                elim (shades_mean g w (flight_at c) c.spot.line (names_of c.geometry history)).spaces [
                  | inl before ↦ above_light g w' k (omega arith)
                  | inr after ↦ below_light g w' k (omega arith)
                ]
            | inr other ↦ same_grey g w w' k refl refl (upd_other w.place n place k other) ∙ light
          ];
          claimed = λ k inside of_cycle. of_cycle;
        })
      where
        words_below : f.words_before (flight_at c s) < c.geometry.alloc
        words_below =
            let found = h.facts.news_found_room s below (rw (has_raised at, room) refl) in
            let words : f.words_before (flight_at c s) + f.new_size (flight_at c s) ≤ c.geometry.alloc = found.words in
            let size : f.new_size (flight_at c s) ≡ size shape = new_sized (flight_at c s) dest shape is_new in
            let some = shape.some in
            omega arith

  -- THE CALLS

  get_calm : (reg field : ℕ) → (flight_at c s).call ≡ call.Get reg field → Calms (table.get_event c.geometry (flight_at c s) field)
  unfolding table.get_event f.is_through f.in_object f.in_object_at
  get_calm reg field is_get =
      let x = flight_at c s in
      by_test Calms (nat_eq x.place 1) _ _ (λ e. let at = eqb-true x.place 1 e in enters (rw is_get refl) (rw at refl) (rw (is_get, at) refl))
      (λ _. by_test Calms (nat_eq x.place 2) _ _ (λ e. reads _)
      (λ _. by_test Calms (nat_eq x.place 3) _ _ (λ e. let at = eqb-true x.place 3 e in leaves (rw is_get refl) (rw at refl) (rw (is_get, at) refl))
      (λ _. rests)))

  put_calm : (reg field value : ℕ) → (flight_at c s).call ≡ call.Put reg field value → Calms (table.put_event c.geometry (flight_at c s) field value)
  unfolding table.put_event f.is_through f.in_object f.in_object_at
  put_calm reg field value is_put =
      let x = flight_at c s in
      by_test Calms (nat_eq x.place 1) _ _ (λ e. let at = eqb-true x.place 1 e in enters (rw is_put refl) (rw at refl) (rw (is_put, at) refl))
      (λ _. by_test Calms (nat_eq x.place 2) _ _ (λ e. writes _ value)
      (λ _. by_test Calms (nat_eq x.place 3) _ _ (λ e. let at = eqb-true x.place 3 e in leaves (rw is_put refl) (rw at refl) (rw (is_put, at) refl))
      (λ _. rests)))

  move_calm : (dest : ℕ) → Calms (table.move_event c.geometry (flight_at c s) dest)
  unfolding table.move_event
  move_calm dest =
      let x = flight_at c s in
      by_test Calms (nat_eq x.place 1) _ _ (λ e. enters_frame)
      (λ _. by_test Calms (nat_eq x.place 2) _ _ (λ e. writes_register dest x.item)
      (λ _. by_test Calms (nat_eq x.place 3) _ _ (λ e. leaves_frame)
      (λ _. rests)))

  clear_calm : (dest : ℕ) → Calms (table.clear_event c.geometry (flight_at c s) dest)
  unfolding table.clear_event
  clear_calm dest = by_test Calms (nat_eq (flight_at c s).place 1) _ _ (λ e. writes_register dest 0) (λ _. rests)

  load_calm : (dest reg field : ℕ) → (flight_at c s).call ≡ call.Load dest reg field → Calms (table.load_event c.geometry (flight_at c s) dest field)
  unfolding table.load_event f.is_through f.in_object f.in_object_at f.has_item f.has_item_at f.has_cycle_inside f.has_cycle_inside_at
  load_calm dest reg field is_load =
      let x = flight_at c s in
      by_test Calms (nat_eq x.place 1) _ _ (λ e. enters_frame)
      (λ _. by_test Calms (nat_eq x.place 2) _ _ (λ e. let at = eqb-true x.place 2 e in enters (rw is_load refl) (rw at refl) (rw (is_load, at) refl))
      (λ _. by_test Calms (nat_eq x.place 3) _ _ (λ e. loads_w0)
      (λ _. by_test Calms (nat_eq x.place 4) _ _ (λ e. reads _)
      (λ _. by_test Calms (nat_eq x.place 5) _ _ (λ e. let at = eqb-true x.place 5 e in claims (rw (is_load, at) refl) (λ some. rw (is_load, at) refl))
      (λ _. by_test Calms (nat_eq x.place 6) _ _ (λ e. reserves)
      (λ _. by_test Calms (nat_eq x.place 7) _ _ (λ e. links)
      (λ _. by_test Calms (nat_eq x.place 8) _ _ (λ e. writes_register dest x.item)
      (λ _. by_test Calms (nat_eq x.place 9) _ _ (λ e. let at = eqb-true x.place 9 e in leaves (rw is_load refl) (rw at refl) (rw (is_load, at) refl))
      (λ _. by_test Calms (nat_eq x.place 10) _ _ (λ e. leaves_frame)
      (λ _. rests))))))))))

  store_calm : (reg field from : ℕ) → (flight_at c s).call ≡ call.Store reg field from → Calms (table.store_event c.geometry (flight_at c s) field)
  unfolding table.store_event f.is_through f.in_object f.in_object_at f.has_item f.has_item_at f.has_cycle_inside f.has_cycle_inside_at
  store_calm reg field from is_store =
      let x = flight_at c s in
      by_test Calms (nat_eq x.place 1) _ _ (λ e. let at = eqb-true x.place 1 e in enters (rw is_store refl) (rw at refl) (rw (is_store, at) refl))
      (λ _. by_test Calms (nat_eq x.place 2) _ _ (λ e. by_test Calms (nat_eq x.item 0) _ _ (λ null. rests) (λ some. loads_w0))
      (λ _. by_test Calms (nat_eq x.place 3) _ _ (λ e. let at = eqb-true x.place 3 e in claims (rw (is_store, at) refl) (λ some. rw (is_store, at, ne_eqb x.item 0 some) refl))
      (λ _. by_test Calms (nat_eq x.place 4) _ _ (λ e. reserves)
      (λ _. by_test Calms (nat_eq x.place 5) _ _ (λ e. links)
      (λ _. by_test Calms (nat_eq x.place 6) _ _ (λ e. writes _ x.item)
      (λ _. by_test Calms (nat_eq x.place 7) _ _ (λ e. let at = eqb-true x.place 7 e in leaves (rw is_store refl) (rw at refl) (rw (is_store, at) refl))
      (λ _. rests)))))))

  new_calm : (dest : ℕ) (shape : Shape) → (flight_at c s).call ≡ call.New dest shape → Calms (table.new_event c.geometry (flight_at c s) dest shape)
  unfolding table.new_event
  new_calm dest shape is_new =
      let x = flight_at c s in
      by_test Calms (nat_eq x.place 1) _ _ (λ e. loads_w0)
      (λ _. by_test Calms (nat_eq x.place 2) _ _ (λ e. by_test Calms x.full _ _ (λ full. rests) (λ room. enters_frame))
      (λ _. by_test Calms (nat_eq x.place 3) _ _ (λ e. by_test Calms x.full _ _ (λ full. rests) (λ room. new_raises dest shape is_new room (eqb-true x.place 3 e)))
      (λ _. by_test Calms (nat_eq x.place 4) _ _ (λ e. by_test Calms x.full _ _ (λ full. rests) (λ room. loads_entry))
      (λ _. by_test Calms (nat_eq x.place 5) _ _ (λ e. by_test Calms x.full _ _ (λ full. rests) (λ room. new_writes_header dest shape is_new room (eqb-true x.place 5 e)))
      (λ _. by_test Calms (nat_eq x.place 6) _ _ (λ e. by_test Calms x.full _ _ (λ full. rests) (λ room. writes_register dest (table.new_reference x shape)))
      (λ _. by_test Calms (nat_eq x.place 7) _ _ (λ e. by_test Calms (x.full && not x.raised) _ _ (λ full. rests) (λ busy. leaves_frame))
      (λ _. rests)))))))

  event_calm : Calms (event_by c s)
  unfolding event_by table.event_of table.event_at flight_at
  event_calm = each (flight_at c s).call refl
    where
      each : (call : Call) → (flight_at c s).call ≡ call → Calms (table.event_at c.geometry (flight_at c s) call)
      each (call.Get reg field) e = get_calm reg field e
      each (call.Put reg field value) e = put_calm reg field value e
      each (call.Load dest reg field) e = load_calm dest reg field e
      each (call.Store reg field from) e = store_calm reg field from e
      each (call.Move dest from) e = move_calm dest
      each (call.Clear dest) e = clear_calm dest
      each (call.New dest shape) e = new_calm dest shape e
      each (call.Same a b) e = rests
      each (call.IsNull reg) e = rests

-- THE LAW

-- a calm state is settled while the pass goes on
settled_in_pass : (c : State) (history : History) (passed : ℕ) → Lawful c history → IsCalm c → l.passing c.spot.line ≡ Some passed
    → IsSettled c.geometry (words_of c.geometry c.row).cycle (shades_of c.geometry (words_of c.geometry c.row) (flight_at c) c.spot.line (names_of c.geometry history)).white
    (shades_of c.geometry (words_of c.geometry c.row) (flight_at c) c.spot.line (names_of c.geometry history)).grey (words_of c.geometry c.row).register (flight_at c)
unfolding shades_of
settled_in_pass c history passed h calm at = elim (h.facts.pass_meets_grey passed at) [
  | inl found ↦ absurd (let e = sym (calm.none_grey passed found.0 at found.2) ∙ found.3 in cc)
  | inr settled ↦ settled
]

step_keeps_calm : (c : State) (history : History) (s : ℕ) → s < tasks c.geometry → Lawful c history → KeepsCalm c (next c s)
unfolding next l.passing
step_keeps_calm c history s below h = record {
  spot = refl;
  calm = λ calm. record {
    none_grey = λ passed number at within. (event_calm c history s below h (settled_in_pass c history passed h calm at)).grey number within (calm.none_grey passed number at within);
    head_claimed = λ number at.
        (event_calm c history s below h (settled_in_pass c history number h calm (ap l.passing at))).claimed number (fits_at c history h (line.PassHead number) at) (calm.head_claimed number at);
  };
}

begin_keeps_calm : (c : State) (s : ℕ) (call : Call) → KeepsCalm c (after_begin c s call)
unfolding after_begin accepted
begin_keeps_calm c s call = by_refusal (refusal c s call)
  where
    by_refusal : (o : Option Fault) → KeepsCalm c (begun_or o (accepted c s call) c)
    by_refusal None = record { spot = refl; calm = λ calm. record { none_grey = calm.none_grey; head_claimed = calm.head_claimed } }
    by_refusal (Some fault) = record { spot = refl; calm = λ calm. calm }

pub seats_keep_calm : SeatsKeepCalm
seats_keep_calm = record {
  begin = begin_keeps_calm;
  step = λ c history seat below flying h. step_keeps_calm c history seat below h;
}
