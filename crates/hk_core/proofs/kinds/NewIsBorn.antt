-- A New that found room writes its register: the object is born. The plain heap has one more birth then, and its number,
-- which is held no more, is kept.
use Rattle.std.proofs.Common.{◌≡◌, ◌≢◌, ℕ, zero, suc, ◌+◌, ◌<◌, ◌≤◌, Bool, true, false, inl, inr, refl, sym, ◌∙◌, ap, arith, subst, Option, Some, None}
use Rattle.std.proofs.lemmas.Bool.{both_ways, cases_Bool, and_parts, and_from, and_right, leb-true, le-leb, le-ltb, lt-ltb, eq-eqb, ne_eqb, not_from_false, or_left, or_right}
use Rattle.std.specs.Prelude.{nat_eq, nat_le, nat_lt, is_some, not, ◌&&◌}
use Rattle.hk_words.specs.declared.geometry.Geometry.{Geometry}
use Rattle.hk_words.specs.declared.shape.Shape.{Shape}
use Rattle.hk_words.specs.declared.call.Call.{Call}
use Rattle.hk_words.specs.declared.call.Call.TheVariants as call
use Rattle.hk_words.specs.Geometry.{tasks, numbers}
use Rattle.hk_words.specs.Layout as layout
use Rattle.hk_words.specs.Shape.{size}
use Rattle.hk_model.specs.View.{upd, upd2}
use Rattle.hk_model.proofs.Updates.{upd_same, upd_other, is_upd, upd2_same, upd2_other}
use Rattle.hk_core.specs.declared.flight.Flight.{Flight}
use Rattle.hk_core.specs.declared.spot.Spot.{Spot}
use Rattle.hk_core.specs.declared.spot.Line.{Line}
use Rattle.hk_core.specs.Begin.{copied}
use Rattle.hk_core.specs.Counts.{count_below, any_below}
use Rattle.hk_core.specs.Step.{new_place, new_reference}
use Rattle.hk_core.specs.View.{Words, Names, Contents, shown, size_at, reference_at}
use Rattle.hk_core.specs.Flights as f
use Rattle.hk_core.specs.Flights.{Hand, IsNewInStep}
use Rattle.hk_core.specs.Lines as l
use Rattle.hk_core.specs.Colours.{Spaces, spaces_of, Shades, shades_of, held_by, kept_by, is_fresh, Apart, IsGood, IsNullOrGood, IsKeptBirth, IsNullOrKept, NamesNoWhite}
use Rattle.hk_core.specs.Facts as fact
use Rattle.hk_core.specs.Facts.{IsOwn, FoundRoom, IsRecent, IsSettled}
use Rattle.hk_core.specs.Lawful.{Facts, FactsOf, hands_of}
use Rattle.hk_core.proofs.Update.{upd_cases, upd2_cases}
use Rattle.hk_core.proofs.Counts.{count_kept}
use Rattle.hk_core.proofs.kinds.Seats.{FlightsFacts, facts_of_flight, pass_upd, hands_upd}
use Rattle.hk_core.proofs.kinds.Frame.{work_in_attempt}
use Rattle.hk_core.proofs.kinds.WriteRegister.{writing_words, writing_contents, HasWritten}
use Rattle.hk_core.proofs.kinds.NewFlight.{MakingFacts, GoesQuietly, quiet_facts, well_of, new_hand, new_has_number, new_has_header, new_has_size, new_is_making, new_holds_back, new_stays, new_has_written, new_cycle_in_frame}
use Rattle.hk_core.proofs.kinds.NewLoads.{new_on}
use Rattle.hk_core.proofs.kinds.NewEntry.{HasMade, made_is_making, made_raised, made_room, made_in_frame, on_counts, on_raising, on_facts, on_settles, held_elsewhere, holds_not}
use Rattle.hk_core.proofs.kinds.NewRaise.{SpacesMean, spaces_mean}
use Rattle.hk_core.proofs.kinds.NewHeader.{holder_holds, held_not_kept, number_of_reference}
use Rattle.hk_core.proofs.kinds.NewBorn.{born_names, born_shades, IsNextBirth, IsReady, born_facts, reference_here, size_same, size_here, shown_here}
use Rattle.hk_core.proofs.Shared.{refuted}

-- A REGISTER IS WRITTEN BY A CALL THAT NEEDS NO REGISTER ANY MORE

module _ (g : Geometry) (w : Words) (z : Spaces) (sh : Shades) (flight : ℕ → Flight) (begun : ℕ → ℕ) (hand : ℕ → Hand) (t : Spot)
    (names : Names) (contents : Contents) (range : ℕ → Option ℕ) (s r v : ℕ) (p : Option ℕ) where
  -- what the write shows
  pub record WritesOwn : Type 0 where
    pub has_written : HasWritten (flight s) v
    pub shows : v ≡ shown names p
    pub good : IsNullOrGood sh.kept names v
    pub bears : IsNullOrKept sh.kept names p
    pub dark : sh.black_frame s ≡ true → NamesNoWhite sh.white v
    pub dark_when_settled : IsSettled g w.cycle sh.white sh.grey w.register flight → NamesNoWhite sh.white v
    pub inside : 0 < w.frame_accessors s

  pub own_register_facts : WritesOwn → Facts g w z sh flight begun hand t names contents range
      → Facts g (writing_words w s r v) z sh flight begun hand t names (writing_contents contents s r p) range
  own_register_facts o h =
      let register = upd2 w.register s r v in
      let plain = upd2 contents.register s r p in
      let shows : fact.RegistersShown g names (upd2 w.register s r v) (upd2 contents.register s r p) flight = λ u k a c.
      elim (upd2_cases w.register s r v u k) [
        | inl (i, j, q) ↦ rw (i, j) (rw (upd2_same w.register s r v, upd2_same contents.register s r p, o.has_written.free r) o.shows)
        | inr (d, q) ↦ rw (q, upd2_other contents.register s r p u k d) (h.registers_shown u k a c)
      ] in
      let good : fact.RegistersGood g sh.kept names (upd2 w.register s r v) = λ u k a c.
      elim (upd2_cases w.register s r v u k) [ inl (i, j, q) ↦ rw q o.good | inr (d, q) ↦ rw q (h.registers_good u k a c) ] in
      let bears : fact.RegistersKept g sh.kept names (upd2 contents.register s r p) = λ u k a c.
      elim (upd2_cases contents.register s r p u k) [ inl (i, j, q) ↦ rw q o.bears | inr (d, q) ↦ rw q (h.registers_kept u k a c) ] in
      let stays : fact.EnteredStays g (upd2 w.register s r v) flight = λ u k a e enters.
      elim (upd2_cases w.register s r v u k) [
        | inl (i, j, q) ↦ refuted (f.register_stays (flight s)) o.has_written.stays (ap (λ (m : ℕ). f.register_stays (flight m)) (sym i) ∙ e)
        | inr (d, q) ↦ rw q (h.entered_stays u k a e enters)
      ] in
      let loaded : fact.LoadedStays g (upd2 w.register s r v) flight = λ u k a e aims.
      elim (upd2_cases w.register s r v u k) [
        | inl (i, j, q) ↦ refuted (f.has_written (flight s)) o.has_written.written (ap (λ (m : ℕ). f.has_written (flight m)) (sym i) ∙ e)
        | inr (d, q) ↦ rw q (h.loaded_stays u k a e aims)
      ] in
      let copies : fact.CopiedStays g (upd2 w.register s r v) flight = λ u k a e from.
      elim (upd2_cases w.register s r v u k) [
        | inl (i, j, q) ↦
            ap (λ (m : ℕ). (flight m).item) i
            ∙ o.has_written.copies (ap (λ (m : ℕ). f.is_flying (flight m)) (sym i) ∙ e) k (ap (λ (m : ℕ). copied (flight m).call) (sym i) ∙ from) ∙ sym q
        | inr (d, q) ↦ rw q (h.copied_stays u k a e from)
      ] in
      let dark : fact.BlackFrameHasNoWhite g sh.white sh.black_frame (upd2 w.register s r v) = λ u k a c black.
      elim (upd2_cases w.register s r v u k) [
        | inl (i, j, q) ↦ rw q (o.dark (ap sh.black_frame (sym i) ∙ black))
        | inr (d, q) ↦ rw q (h.black_frame_has_no_white u k a c black)
      ] in
      let settling : IsSettled g w.cycle sh.white sh.grey w.register flight → IsSettled g w.cycle sh.white sh.grey (upd2 w.register s r v) flight = λ e. record {
        none_grey = e.none_grey;
        none_late = e.none_late;
        registers = λ u k a c. elim (upd2_cases w.register s r v u k) [ inl (i, j, q) ↦ rw q (o.dark_when_settled e) | inr (d, q) ↦ rw q (e.registers u k a c) ];
        entered = e.entered;
        items = e.items;
      } in
      let passes : fact.PassMeetsGrey g t.line sh.grey (IsSettled g w.cycle sh.white sh.grey (upd2 w.register s r v) flight) = pass_upd g t.line sh.grey _ _ settling h.pass_meets_grey in
      let sweeps : fact.SettledFromSweep t.line (IsSettled g w.cycle sh.white sh.grey (upd2 w.register s r v) flight) = λ e. settling (h.settled_from_sweep e) in
      let passed_registers : fact.RegistersPassed g t.line w.cycle t.first w.frame_version (upd2 w.register s r v) w.mark = λ u passed k a same c.
      elim (upd2_cases w.register s r v u k) [
        | inl (i, j, q) ↦ attempted u i ((h.frame_attempt_behind u passed a).same_accessors same) o.inside
        | inr (d, q) ↦ rw q (h.registers_passed u passed k a same c)
      ] in
      let work : fact.RegisterInWork t.line t.first t.cell w.frame_version (upd2 w.register s r v) = λ u k a same.
      elim (upd2_cases w.register s r v u k) [
        | inl (i, j, q) ↦ attempted u i ((h.frame_attempt_behind u k (work_in_attempt g t.line u k a)).same_accessors same) o.inside
        | inr (d, q) ↦ rw q (h.register_in_work u k a same)
      ] in
      assumption
    where
      attempted : {A : Type 0} (u : ℕ) → u ≡ s → w.frame_accessors u ≡ 0 → 0 < w.frame_accessors s → A
      attempted u i none some = let same : w.frame_accessors u ≡ w.frame_accessors s = ap w.frame_accessors i in absurd (omega arith)

-- THE NUMBER IS HELD NO MORE

count_none : (p : ℕ → Bool) (n : ℕ) → ((k : ℕ) → k < n → p k ≡ false) → count_below n p ≡ 0
unfolding count_below
count_none p zero none = refl
count_none p (suc n) none = rw (count_none p n (λ k b. none k (omega arith)), none n (omega arith)) refl

none_holds : (g : Geometry) (flight : ℕ → Flight) (n : ℕ) → ((u : ℕ) → u < tasks g → f.holds_number n (flight u) ≡ false) → held_by g flight n ≡ false
unfolding any_below
none_holds g flight n none = rw (count_none (λ u. f.holds_number n (flight u)) (tasks g) none) refl

-- a New that has a number speaks for it
numbered_at : (call : Call) (place : ℕ) → f.is_new_at 5 6 call place ≡ true → f.is_new_at 4 6 call place ≡ true
unfolding f.is_new_at
numbered_at (call.Get reg field) place e = e
numbered_at (call.Put reg field value) place e = e
numbered_at (call.Load dest reg field) place e = e
numbered_at (call.Store reg field from) place e = e
numbered_at (call.Move dest from) place e = e
numbered_at (call.Clear dest) place e = e
numbered_at (call.New dest shape) place e =
    let p = and_parts (nat_le 5 place) (nat_le place 6) e in let low : 5 ≤ place = leb-true 5 place p.0 in and_from _ _ (le-leb 4 place (omega arith)) p.1
numbered_at (call.Same a b) place e = e
numbered_at (call.IsNull reg) place e = e

numbered_makes : (v : Flight) → f.has_number v ≡ true → f.is_making v ≡ true
unfolding f.has_number f.is_making
numbered_makes v e = let p = and_parts (f.is_new_at 5 6 v.call v.place) (not v.full) e in and_from _ _ (numbered_at v.call v.place p.0) p.1

module _ (g : Geometry) (w : Words) (flight : ℕ → Flight) (s : ℕ) (y : Flight) (below : s < tasks g) (numbered : f.has_number (flight s) ≡ true) (over : f.has_number y ≡ false)
    (number_is_own : fact.NumberIsOwn g w.entry flight) (distinct : fact.OwnEntriesDistinct g w.entry flight) where
  held_no_more : held_by g (upd flight s y) (flight s).number ≡ false
  held_no_more = none_holds g (upd flight s y) (flight s).number (λ u b. elim (upd_cases flight s y u) [
    | inl (e, q) ↦ rw q (holds_not y (flight s).number (λ i. refuted _ over i))
    | inr (d, q) ↦ rw q (holds_not (flight u) (flight s).number (λ i same.
        distinct u s b below d (numbered_makes (flight u) i) (numbered_makes (flight s) numbered) (sym (number_is_own u b i) ∙ same ∙ number_is_own s below numbered)))
  ])

  held_of_others : (m : ℕ) → m ≢ (flight s).number → held_by g (upd flight s y) m ≡ held_by g flight m
  held_of_others m differ = held_elsewhere g flight s y m (holds_not y m (λ e. refuted _ over e) ∙ sym (holds_not (flight s) m (λ e same. differ (sym same))))

-- THE NEW BIRTH

kept_from : (g : Geometry) (cycle : ℕ) (marking : Bool) (held : ℕ → Bool) (bearer : ℕ → Option ℕ) (place mark : ℕ → ℕ) (n : ℕ) → n < numbers g → is_some (bearer n) ≡ true
    → held n ≡ false → place n ≢ 0 → is_fresh cycle marking (mark n) ≡ true → kept_by g cycle marking held bearer place mark n ≡ true
kept_from g cycle marking held bearer place mark n within borne free placed fresh =
    and_from _ _ (and_from _ _ (lt-ltb n (numbers g) within) (and_from _ _ borne (not_from_false (held n) free)))
    (and_from _ _ (not_from_false (nat_eq (place n) 0) (ne_eqb (place n) 0 placed)) fresh)

-- a number of the cycle is fresh, and one of the cycle before too as long as the collector looks for objects
fresh_now : (cycle : ℕ) (marking : Bool) (mark : ℕ) → mark ≡ cycle → is_fresh cycle marking mark ≡ true
fresh_now cycle marking mark e = or_left (nat_eq mark cycle) (marking && nat_eq (mark + 1) cycle) (eq-eqb mark cycle e)

fresh_before : (cycle : ℕ) (marking : Bool) (mark : ℕ) → marking ≡ true → mark + 1 ≡ cycle → is_fresh cycle marking mark ≡ true
fresh_before cycle marking mark looks e = or_right (nat_eq mark cycle) (marking && nat_eq (mark + 1) cycle) (and_from _ _ looks (eq-eqb (mark + 1) cycle e))

module _ (g : Geometry) (w : Words) (z : Spaces) (sh : Shades) (flight : ℕ → Flight) (begun : ℕ → ℕ) (hand : ℕ → Hand) (t : Spot)
    (names : Names) (contents : Contents) (range : ℕ → Option ℕ) (s dest : ℕ) (shape : Shape) (b : ℕ)
    (below : s < tasks g) (is_new : (flight s).call ≡ call.New dest shape) (at_6 : (flight s).place ≡ 6) (not_full : (flight s).full ≡ false)
    (next : IsNextBirth names contents b) (mean : SpacesMean g w.cycle z) (not_kept : sh.kept (flight s).number ≡ false)
    (white_there : w.mark (flight s).number ≡ w.cycle → sh.white (flight s).number ≡ false)
    (h : Facts g w z sh flight begun hand t names contents range) where
  -- the number, the flight and the flights after the write, the reference, and the names and shades after the birth
  abbrev n : ℕ
  n = (flight s).number

  abbrev y : Flight
  y = new_on (flight s) 7 n

  abbrev flight' : ℕ → Flight
  flight' = upd flight s y

  abbrev v : ℕ
  v = new_reference (flight s) shape

  abbrev names' : Names
  names' = born_names names n b shape

  abbrev sh' : Shades
  sh' = born_shades sh n shape

  pub has_made : HasMade (flight s) dest shape
  has_made =
      let step : IsNewInStep (flight s).place (flight s).full (flight s).raised = rw is_new at (h.news_in_step s below) in
      record { is_new = is_new; not_full = not_full; raised = step.raised_by_then (omega arith) not_full; from = omega arith; to = omega arith }

  its_making : f.is_making (flight s) ≡ true
  its_making = made_is_making (flight s) dest shape has_made (omega arith)

  pub its_numbered : f.has_number (flight s) ≡ true
  its_numbered = new_has_number (flight s) dest shape is_new ∙ rw (at_6, not_full) refl

  its_number : n ≡ fact.own_entry w.entry (flight s)
  its_number = h.number_is_own s below its_numbered

  pub its_own : IsOwn g w.accessors w.place w.version w.mark (flight s) n
  its_own = subst (λ k. IsOwn g w.accessors w.place w.version w.mark (flight s) k) (sym its_number) (h.own_entries s below its_making)

  its_header : f.has_header (flight s) ≡ true
  its_header = new_has_header (flight s) dest shape is_new ∙ rw (at_6, not_full) refl

  its_place : w.place n ≡ new_place g (flight s)
  its_place = its_own.placed ∙ rw its_header refl

  its_size : f.new_size (flight s) ≡ size shape
  its_size = new_has_size (flight s) dest shape is_new

  its_room : FoundRoom g w.cycle w.used (flight s)
  its_room = h.news_found_room s below (made_room (flight s) dest shape has_made)

  its_cycle : IsRecent w.cycle (f.cycle_of (flight s))
  its_cycle = h.news_recent s below (made_raised (flight s) dest shape has_made)

  pub its_place_some : w.place n ≢ 0
  its_place_some e =
      let place = its_place in
      let current = mean.some_current in
      let old = mean.some_old in
      elim (mean.stands (flight s) its_cycle) [
        | inl o ↦ let at : new_place g (flight s) ≡ z.current + (z.live + f.words_before (flight s)) = o.stands in omega arith
        | inr o ↦ let at : new_place g (flight s) ≡ z.old + (z.live + f.words_before (flight s)) = o.stands in omega arith
      ]

  -- it may still be reached
  pub its_fresh : is_fresh w.cycle (l.is_marking t.line) (w.mark n) ≡ true
  its_fresh =
      let marked : w.mark n ≡ f.cycle_of (flight s) = its_own.is_marked in
      elim its_cycle [
        | inl e ↦ fresh_now w.cycle (l.is_marking t.line) (w.mark n) (marked ∙ e)
        | inr e ↦ elim (cases_Bool (l.is_marking t.line)) [
          | inl looks ↦ fresh_before w.cycle (l.is_marking t.line) (w.mark n) looks (omega arith)
          | inr done ↦
              let late : f.cycle_of (flight s) ≡ w.cycle = (h.settled_from_sweep done).none_late s below (made_raised (flight s) dest shape has_made) in
              absurd (omega arith)
        ]
      ]

  over : f.is_making y ≡ false
  over = new_is_making y dest shape is_new

  over_number : f.has_number y ≡ false
  over_number = new_has_number y dest shape is_new

  apart_from_news : (u : ℕ) → u < tasks g → f.is_making (flight' u) ≡ true → Apart (w.place n) (size shape) (new_place g (flight' u)) (f.new_size (flight' u))
  apart_from_news u b making =
      let place = its_place in
      let words = its_size in
      elim (upd_cases flight s y u) [
        | inl (e, q) ↦ refuted (f.is_making y) over (ap f.is_making (sym q) ∙ making)
        | inr (d, q) ↦ rw q (elim (h.news_apart s u below b (λ e. d (sym e)) its_making (ap f.is_making (sym q) ∙ making)) [ inl a ↦ inl (omega arith) | inr a ↦ inr (omega arith) ])
      ]

  ready : IsReady g w z sh flight' shape n
  ready =
      let place = its_place in
      let words = its_size in
      let fits : f.words_before (flight s) + f.new_size (flight s) ≤ g.alloc = its_room.words in
      let alloc = mean.alloc in
      let marked : w.mark n ≡ f.cycle_of (flight s) = its_own.is_marked in
      record {
        not_kept = not_kept;
        clean = λ i few. let here : w.place n + i ≡ new_place g (flight s) + i = omega arith in ap w.cell here ∙ h.news_clean s i below its_making (omega arith);
        one_space = elim (mean.stands (flight s) its_cycle) [
          | inl o ↦
              let at : new_place g (flight s) ≡ z.current + (z.live + f.words_before (flight s)) = o.stands in
              inr (record { after = omega arith; before = omega arith })
          | inr o ↦
              let at : new_place g (flight s) ≡ z.old + (z.live + f.words_before (flight s)) = o.stands in
              inl (record { after = omega arith; before = omega arith })
        ];
        apart = λ m kept. elim (h.objects_apart_from_new s m below its_making kept) [ inl a ↦ inl (omega arith) | inr a ↦ inr (omega arith) ];
        apart_from_new = apart_from_news;
        unclaimed = λ late. elim (mean.stands (flight s) its_cycle) [
          | inl o ↦ let now : f.cycle_of (flight s) ≡ w.cycle = o.of_cycle in absurd (omega arith)
          | inr o ↦
              let at : new_place g (flight s) ≡ z.old + (z.live + f.words_before (flight s)) = o.stands in
              record { after = omega arith; before = omega arith }
        ];
        below_used = λ current. elim (mean.stands (flight s) its_cycle) [
          | inl o ↦
              let at : new_place g (flight s) ≡ z.current + (z.live + f.words_before (flight s)) = o.stands in
              let counted : f.words_before (flight s) + f.new_size (flight s) ≤ w.used = its_room.counted o.of_cycle in
              omega arith
          | inr o ↦
              let at : new_place g (flight s) ≡ z.old + (z.live + f.words_before (flight s)) = o.stands in
              let after : z.current ≤ w.place n = current.after in
              let before : w.place n + size shape ≤ z.current + (z.live + z.alloc) = current.before in
              elim mean.apart [ inl c ↦ absurd (omega arith) | inr c ↦ absurd (omega arith) ]
        ];
        not_moved = λ x stands. elim (mean.stands (flight s) its_cycle) [
          | inl o ↦ let at : new_place g (flight s) ≡ z.current + (z.live + f.words_before (flight s)) = o.stands in omega arith
          | inr o ↦
              let at : new_place g (flight s) ≡ z.old + (z.live + f.words_before (flight s)) = o.stands in
              elim mean.apart [ inl c ↦ absurd (omega arith) | inr c ↦ omega arith ]
        ];
      }

  -- the flight after it
  quietly : GoesQuietly g w z sh flight begun hand t names contents range s y
  unfolding f.new_size
  quietly =
      let makes : MakingFacts g w sh flight = assumption in
      let flies : FlightsFacts g w sh names contents.register flight = assumption in
      let o = well_of g w sh flight makes s below in
      let raising : f.will_raise y ≡ f.will_raise (flight s) = on_raising (flight s) 7 n dest shape has_made (omega arith) (omega arith) (omega arith) in
      record {
        counts = on_counts (flight s) 7 n dest shape has_made (omega arith) (omega arith) (omega arith);
        used = rw (count_kept f.will_raise flight s y (tasks g) raising) h.used_stays_bounded;
        objects = rw (count_kept f.will_raise flight s y (tasks g) raising) h.objects_stay_bounded;
        well = record {
          apart_from_kept = λ k e. refuted _ over e;
          own = λ e. refuted _ over e;
          unread = λ j e. refuted _ over e;
          number = λ e. refuted _ over_number e;
          room = λ e. let r = o.room (made_room (flight s) dest shape has_made) in record { words = r.words; entry = r.entry; counted = r.counted };
          clean = λ i e. refuted _ over e;
          recent = λ e. o.recent (made_raised (flight s) dest shape has_made);
        };
        apart = λ u b d e. refuted _ over e;
        facts = on_facts g w sh names contents.register s (flight s) 7 n dest shape has_made (omega arith) (omega arith) (facts_of_flight g w sh names contents.register flight flies s below);
        settles = on_settles g w.cycle sh.white sh.grey w.register flight s 7 n dest shape below has_made;
      }

  -- THE REFERENCE OF THE NEW OBJECT

  v_shows : v ≡ reference_at names' n
  v_shows = sym (reference_here names n b shape next.unborn)

  v_number : layout.reference_number v ≡ n
  v_number = number_of_reference g names' n v its_own.within v_shows

  v_good : IsGood sh'.kept names' v
  v_good = record {
    some = λ e. absurd (omega arith);
    is_kept = ap sh'.kept v_number ∙ upd_same sh.kept n true;
    shows = v_shows ∙ ap (reference_at names') (sym v_number);
  }

  b_number : names'.number b ≡ n
  b_number = upd_same names.number b n

  b_kept : IsKeptBirth sh'.kept names' b
  b_kept = record {
    is_kept = ap sh'.kept b_number ∙ upd_same sh.kept n true;
    bears = ap names'.bearer b_number ∙ upd_same names.bearer n (Some b);
  }

  -- it names no white number, unless the New is late
  v_dark : f.cycle_of (flight s) ≡ w.cycle → NamesNoWhite sh.white v
  v_dark now = inr (ap sh.white v_number ∙ white_there (its_own.is_marked ∙ now))

  writes : WritesOwn g w z sh' flight' begun hand t names' contents range s dest v (Some b)
  writes = record {
    has_written = subst (λ q. HasWritten q v) (sym (upd_same flight s y)) (record {
      stays = new_stays y dest shape is_new;
      written = new_has_written y dest shape is_new;
      free = new_holds_back y dest shape is_new;
      copies = λ flying k from. nothing_copied k (rw is_new at from);
    });
    shows = sym (shown_here names n b shape next.unborn);
    good = inr v_good;
    bears = inr (b, refl, b_kept);
    dark = λ black. elim its_cycle [
      | inl e ↦ v_dark e
      | inr e ↦ absurd (both_ways _ (h.late_in_no_black_frame s below (new_cycle_in_frame (flight s) dest shape is_new ∙ made_raised (flight s) dest shape has_made) (omega arith)) black)
    ];
    dark_when_settled = λ o.
        v_dark (ap f.cycle_of (sym (upd_same flight s y)) ∙ o.none_late s below (ap f.has_raised (upd_same flight s y) ∙ made_raised y dest shape has_made_still));
    inside = let one : w.frame_accessors s ≡ 1 = h.frame_accessors_counted s below ∙ rw (made_in_frame (flight s) dest shape has_made) refl in omega arith;
  }
    where
      nothing_copied : {A : Type 0} (k : ℕ) → ◌≡◌ {A = Option ℕ} None (Some k) → A
      nothing_copied k e = absurd (cc)

      has_made_still : HasMade y dest shape
      has_made_still = record { is_new = has_made.is_new; not_full = has_made.not_full; raised = has_made.raised; from = omega arith; to = omega arith }

  pub birth_facts : Facts g (writing_words w s dest v) z sh' flight' begun hand t names' (writing_contents contents s dest (Some b)) range
  birth_facts =
      own_register_facts g w z sh' flight' begun hand t names' contents range s dest v (Some b) writes
      (born_facts g w z sh flight' begun hand t names contents range n b shape next ready (quiet_facts g w z sh flight begun hand t names contents range s y below quietly h))

-- ALL FACTS

module _ (g : Geometry) (w : Words) (flight : ℕ → Flight) (s : ℕ) (y : Flight) (ln : Line) (names : Names) (n b dest v : ℕ) (shape : Shape)
    (unborn : (m : ℕ) → names.bearer m ≢ Some b) (held_else : (m : ℕ) → m ≢ n → held_by g (upd flight s y) m ≡ held_by g flight m)
    (here : kept_by g w.cycle (l.is_marking ln) (held_by g (upd flight s y)) (born_names names n b shape).bearer w.place w.mark n ≡ true) where
  kept_born : kept_by g w.cycle (l.is_marking ln) (held_by g (upd flight s y)) (born_names names n b shape).bearer w.place w.mark
      ≡ upd (kept_by g w.cycle (l.is_marking ln) (held_by g flight) names.bearer w.place w.mark) n true
  kept_born = is_upd {A = Bool} (kept_by g w.cycle (l.is_marking ln) (held_by g (upd flight s y)) (born_names names n b shape).bearer w.place w.mark)
      (kept_by g w.cycle (l.is_marking ln) (held_by g flight) names.bearer w.place w.mark) n true here
      (λ m d. rw (held_else m d, upd_other names.bearer n (Some b) m d) refl)

  size_born : size_at (born_names names n b shape) ≡ upd (size_at names) n (size shape)
  size_born = is_upd {A = ℕ} (size_at (born_names names n b shape)) (size_at names) n (size shape) (size_here names n b shape unborn) (λ m d. size_same names n b shape unborn m d)

  -- the shades after the birth
  shades_born : shades_of g (writing_words w s dest v) (upd flight s y) ln (born_names names n b shape) ≡ born_shades (shades_of g w flight ln names) n shape
  unfolding shades_of
  shades_born = λ i. record {
    white = (shades_of g w flight ln names).white;
    grey = (shades_of g w flight ln names).grey;
    black = (shades_of g w flight ln names).black;
    black_frame = (shades_of g w flight ln names).black_frame;
    kept = kept_born i;
    size = size_born i;
  }

white_when_marked : (g : Geometry) (w : Words) (flight : ℕ → Flight) (ln : Line) (names : Names) (n : ℕ) → w.mark n ≡ w.cycle → (shades_of g w flight ln names).white n ≡ false
unfolding shades_of
white_when_marked g w flight ln names n e = and_right (not (nat_eq (w.place n) 0)) (nat_lt (w.mark n) w.cycle) (le-ltb (w.mark n) w.cycle (omega arith))

not_kept_when_held : (g : Geometry) (w : Words) (flight : ℕ → Flight) (ln : Line) (names : Names) (n : ℕ) → held_by g flight n ≡ true → (shades_of g w flight ln names).kept n ≡ false
unfolding shades_of
not_kept_when_held g w flight ln names n e = held_not_kept g w.cycle (l.is_marking ln) (held_by g flight) names.bearer w.place w.mark n e

-- all facts hold after a New that found room has written its register, for the plain heap after the birth
pub new_is_born : (g : Geometry) (w : Words) (flight : ℕ → Flight) (begun : ℕ → ℕ) (t : Spot) (names : Names) (contents : Contents) (range : ℕ → Option ℕ) (s dest : ℕ) (shape : Shape) (b : ℕ)
    → s < tasks g → (flight s).call ≡ call.New dest shape → (flight s).place ≡ 6 → (flight s).full ≡ false → IsNextBirth names contents b
    → FactsOf g w flight begun t names contents range
    → FactsOf g (writing_words w s dest (new_reference (flight s) shape)) (upd flight s (new_on (flight s) 7 (flight s).number)) begun t
    (born_names names (flight s).number b shape) (writing_contents contents s dest (Some b)) range
new_is_born g w flight begun t names contents range s dest shape b below is_new at_6 not_full next h =
    let x = flight s in
    let n = x.number in
    let y = new_on x 7 n in
    let v = new_reference x shape in
    let z = spaces_of g w.cycle in
    let sh = shades_of g w flight t.line names in
    let hand = hands_of g flight t in
    let mean = spaces_mean g w.cycle in
    let numbered : f.has_number x ≡ true = new_has_number x dest shape is_new ∙ rw (at_6, not_full) refl in
    let over : f.has_number y ≡ false = new_has_number y dest shape is_new in
    let not_kept : sh.kept n ≡ false = not_kept_when_held g w flight t.line names n (holder_holds g flight s below numbered) in
    let white : w.mark n ≡ w.cycle → sh.white n ≡ false = white_when_marked g w flight t.line names n in
    let own : IsOwn g w.accessors w.place w.version w.mark x n = its_own g w z sh flight begun hand t names contents range s dest shape b below is_new at_6 not_full next mean not_kept white h in
    let here : kept_by g w.cycle (l.is_marking t.line) (held_by g (upd flight s y)) (born_names names n b shape).bearer w.place w.mark n ≡ true =
    kept_from g w.cycle (l.is_marking t.line) (held_by g (upd flight s y)) (born_names names n b shape).bearer w.place w.mark n own.within
    (ap is_some (upd_same names.bearer n (Some b)))
    (held_no_more g w flight s y below numbered over h.number_is_own h.own_entries_distinct)
    (its_place_some g w z sh flight begun hand t names contents range s dest shape b below is_new at_6 not_full next mean not_kept white h)
    (its_fresh g w z sh flight begun hand t names contents range s dest shape b below is_new at_6 not_full next mean not_kept white h) in
    let hands : hands_of g (upd flight s y) t ≡ hand = hands_upd g t flight s y (new_hand y dest shape is_new g ∙ sym (new_hand x dest shape is_new g)) in
    let shades : shades_of g (writing_words w s dest v) (upd flight s y) t.line (born_names names n b shape) ≡ born_shades sh n shape =
    shades_born g w flight s y t.line names n b dest v shape next.unborn (held_of_others g w flight s y below numbered over h.number_is_own h.own_entries_distinct) here in
    rw (hands, shades) (birth_facts g w z sh flight begun hand t names contents range s dest shape b below is_new at_6 not_full next mean not_kept white h)
