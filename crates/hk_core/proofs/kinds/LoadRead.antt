-- A Load reads its reference cell. No word changes; it is the Load's effect, so the register of the plain heap changes,
-- and the flight holds back the word of that register until it has written it.
use Rattle.std.proofs.Common.{◌≡◌, ◌≢◌, ◌⊎◌, ℕ, ◌+◌, ◌*◌, ◌^◌, ◌<◌, ◌≤◌, Bool, true, false, List, [], ◌∷◌, ◌++◌, inl, inr, refl, sym, ◌∙◌, ap, arith, Option, Some, None}
use Rattle.std.proofs.lemmas.Bool.{cases_eq, and_from, and_right, not_from_false, or_cases, eq-eqb, eqb-true, ne_eqb, lt-ltb, ltb-true, le-ltb, le-leb, and_parts}
use Rattle.std.specs.Prelude.{nat_eq}
use Rattle.hk_words.specs.declared.geometry.Geometry.{Geometry}
use Rattle.hk_words.specs.declared.call.Call.TheVariants as call
use Rattle.hk_words.specs.declared.call.Reply.TheVariants as reply
use Rattle.hk_words.specs.Geometry.{tasks, space_words}
use Rattle.hk_words.specs.Calls.{RegistersFit}
use Rattle.hk_words.specs.Layout as layout
use Rattle.hk_words.specs.Row.{space_at}
use Rattle.hk_words.specs.Row.Slot.{Space}
use Rattle.hk_model.specs.View.{upd, upd2, view_of}
use Rattle.hk_model.specs.Heap as heap
use Rattle.hk_model.specs.Heap.{opening_of}
use Rattle.hk_model.specs.History.{Entry, History, Legal, after, after_entry}
use Rattle.hk_model.proofs.Effects.{view_of-load}
use Rattle.hk_model.proofs.Histories.{after-push, Legal-push, number_of-push_other, bearer-push_other}
use Rattle.hk_model.proofs.Replies.{reply_of-load}
use Rattle.hk_model.proofs.Updates.{upd2_same, upd2_other}
use Rattle.hk_core.specs.declared.event.Event.TheVariants as event
use Rattle.hk_core.specs.declared.flight.Flight.{Flight}
use Rattle.hk_core.specs.declared.spot.Spot.{Spot}
use Rattle.hk_core.specs.declared.spot.Line.{Line}
use Rattle.hk_core.specs.Begin.{copied, has_field}
use Rattle.hk_core.specs.Event.{fired_if, learnt}
use Rattle.hk_words.specs.Bounds.{places_of}
use Rattle.hk_core.specs.Step.{reference_cell, read_cell, load_event, load_took, load_entry_of, event_at, event_of, took_at, took_of, effect_at, effect_of}
use Rattle.hk_core.specs.View.{Words, Names, Contents, shown, refs_at, nums_at, size_at, reference_at, words_of, decoded, names_of, contents_of}
use Rattle.hk_core.specs.Flights as f
use Rattle.hk_core.specs.Flights.{Hand, hand_of_flight}
use Rattle.hk_core.specs.Lines as l
use Rattle.hk_core.specs.Colours.{Spaces, spaces_of, Shades, shades_of, held_by, is_fresh, IsNullOrGood, IsKeptBirth, IsNullOrKept, NamesNoWhite}
use Rattle.hk_core.specs.Facts as fact
use Rattle.hk_core.specs.Facts.{IsSettled}
use Rattle.hk_core.specs.Lawful.{Facts, FactsOf, hands_of}
use Rattle.hk_core.proofs.Update.{upd_cases, upd2_cases}
use Rattle.hk_core.proofs.Columns.{old_at, raw_space, fired_if_some}
use Rattle.hk_core.proofs.kinds.Seats.{FlightFacts, FlightsFacts, NewsFacts, CallsFacts, KeptMeans, MakesNothing, kept_means, facts_of_flight, facts_of_flights, news_upd, settled_upd, pass_upd}
use Rattle.hk_core.proofs.kinds.Seats.{hands_upd, shades_upd, counted_kept, versions_kept, frames_counted_kept, frame_versions_kept}
use Rattle.hk_core.proofs.kinds.Enter.{object_of}
use Rattle.hk_core.proofs.kinds.Read.{Knows, ShapesFit, read_on, object_known}
use Rattle.hk_core.proofs.kinds.Words.{words-load}
use Rattle.hk_core.proofs.kinds.WriteCell.{ShadesMean, shades_mean}
use Rattle.hk_core.proofs.kinds.WriteRegister.{writing_contents}
use Rattle.hk_core.proofs.kinds.Effects.{with_register_seen, is_heap}
use Rattle.hk_core.proofs.Shared.{few_numbers, refuted}

-- COLOURS

-- what it takes that a number is white, that it isn't, and that it is black
pub record ColoursMean (w : Words) (z : Spaces) (sh : Shades) : Type 0 where
  pub is_white : (n : ℕ) → w.place n ≢ 0 → w.mark n < w.cycle → sh.white n ≡ true
  pub not_white : (n : ℕ) → w.cycle ≤ w.mark n → sh.white n ≡ false
  pub is_black : (n : ℕ) → w.mark n ≡ w.cycle → z.current ≤ w.place n → w.place n < z.current + (z.live + z.alloc) → sh.black n ≡ true

pub colours_mean : (g : Geometry) (w : Words) (flight : ℕ → Flight) (ln : Line) (names : Names) → ColoursMean w (spaces_of g w.cycle) (shades_of g w flight ln names)
unfolding shades_of
colours_mean g w flight ln names = record {
  is_white = λ n placed below. and_from _ _ (not_from_false _ (ne_eqb (w.place n) 0 placed)) (lt-ltb (w.mark n) w.cycle below);
  not_white = λ n marked. and_right _ _ (le-ltb (w.mark n) w.cycle marked);
  is_black = λ n marked after before. and_from _ _ (eq-eqb (w.mark n) w.cycle marked) (and_from _ _ (le-leb _ _ after) (lt-ltb _ _ before));
}

-- the mark of a kept number is that of the cycle, or of the one before
fresh_mark : (cycle : ℕ) (marking : Bool) (mark : ℕ) → is_fresh cycle marking mark ≡ true → (mark ≡ cycle) ⊎ (mark + 1 ≡ cycle)
fresh_mark cycle marking mark fresh = elim (or_cases (nat_eq mark cycle) _ fresh) [
  | inl e ↦ inl (eqb-true mark cycle e)
  | inr e ↦ inr (eqb-true (mark + 1) cycle (and_parts _ _ e).1)
]

-- REFERENCES

-- the reference of a birth names its number, and isn't null
pub names_number : (number refs nums word : ℕ) → number + 1 < 2 ^ 20 → word ≡ layout.pack_reference number refs nums
    → (layout.reference_number word ≡ number) × (word ≢ 0)
names_number number refs nums word few e = (rw e (omega arith), λ null. let same : 0 ≡ layout.pack_reference number refs nums = sym null ∙ e in omega arith)

pub reference_borne : (names : Names) (n b : ℕ) → names.bearer n ≡ Some b → reference_at names n ≡ layout.pack_reference n (names.refs b) (names.nums b)
unfolding reference_at refs_at nums_at
reference_borne names n b e = rw e refl

pub shown_none : (names : Names) (plain : Option ℕ) → plain ≡ None → shown names plain ≡ 0
unfolding shown
shown_none names plain e = rw e refl

pub shown_birth : (names : Names) (plain : Option ℕ) (b : ℕ) → plain ≡ Some b → shown names plain ≡ layout.pack_reference (names.number b) (names.refs b) (names.nums b)
unfolding shown
shown_birth names plain b e = rw e refl

module _ (g : Geometry) (w : Words) (held : ℕ → Bool) (ln : Line) (names : Names) (sh : Shades) (means : KeptMeans g w held ln names sh) where
  -- the reference of a kept birth names its number
  pub kept_number : (b word : ℕ) → IsKeptBirth sh.kept names b → word ≡ layout.pack_reference (names.number b) (names.refs b) (names.nums b)
      → (layout.reference_number word ≡ names.number b) × (word ≢ 0)
  kept_number b word birth e = names_number (names.number b) (names.refs b) (names.nums b) word (few_numbers g (names.number b) (means (names.number b) birth.is_kept).within) e

  -- the word that shows null or a kept birth is null or good
  pub shown_good : (plain : Option ℕ) (word : ℕ) → IsNullOrKept sh.kept names plain → word ≡ shown names plain → IsNullOrGood sh.kept names word
  shown_good plain word (inl none) e = inl (e ∙ shown_none names plain none)
  shown_good plain word (inr found) e =
      let b = found.0 in
      let birth : IsKeptBirth sh.kept names b = found.2 in
      let packed = e ∙ shown_birth names plain b found.1 in
      let number = kept_number b word birth packed in
      inr (record {
        some = number.1;
        is_kept = rw number.0 birth.is_kept;
        shows = packed ∙ rw number.0 (sym (reference_borne names (names.number b) b birth.bears));
      })

  -- where it names a birth whose number isn't white, it names no white number
  pub shown_dark : (plain : Option ℕ) (word : ℕ) → IsNullOrKept sh.kept names plain → word ≡ shown names plain
      → ((child : ℕ) → plain ≡ Some child → sh.white (names.number child) ≡ false) → NamesNoWhite sh.white word
  shown_dark plain word (inl none) e dark = inl (e ∙ shown_none names plain none)
  shown_dark plain word (inr found) e dark =
      let number = kept_number found.0 word found.2 (e ∙ shown_birth names plain found.0 found.1) in
      inr (rw number.0 (dark found.0 found.1))

-- an object has words
pub some_words : (names : Names) (size : ℕ → ℕ) (n : ℕ) → size n ≡ size_at names n → 0 < size n
unfolding size_at
some_words names size n e = omega arith

-- a kept number that isn't white is black, where no number is grey
pub settled_black : (g : Geometry) (w : Words) (z : Spaces) (sh : Shades) (flight : ℕ → Flight) (ln : Line) (names : Names) (n : ℕ)
    → ShadesMean g w z sh flight ln names → ColoursMean w z sh → fact.ObjectsInOneSpace z sh.kept w.place sh.size → sh.kept n ≡ true
    → 0 < sh.size n → sh.grey n ≡ false → sh.white n ≡ false → sh.black n ≡ true
settled_black g w z sh flight ln names n m c in_one kept some not_grey not_white =
    let k = m.kept n kept in
    elim (fresh_mark w.cycle (l.is_marking ln) (w.mark n) k.is_fresh) [
      | inl marked ↦ elim (in_one n kept) [
        | inl old ↦
            let after : z.old ≤ w.place n = old.after in
            let before : w.place n + sh.size n ≤ z.old + (z.live + z.alloc) = old.before in
            refuted (sh.grey n) not_grey (m.is_grey n (record { of_cycle = marked; after = after; before = omega arith }))
        | inr new ↦
            let after : z.current ≤ w.place n = new.after in
            let before : w.place n + sh.size n ≤ z.current + (z.live + z.alloc) = new.before in
            c.is_black n marked after (omega arith)
      ]
      | inr late ↦ refuted (sh.white n) not_white (c.is_white n k.placed (omega arith))
    ]

-- THE FLIGHT

module _ (x : Flight) (dest reg field v : ℕ) (is_load : x.call ≡ call.Load dest reg field) (at_4 : x.place ≡ 4) where
  reads_nothing_made : MakesNothing (read_on x 5 v)
  unfolding f.has_raised f.has_room f.is_making f.has_number f.is_new_at
  reads_nothing_made = record { not_raised = rw is_load refl; no_room = rw is_load refl; not_making = rw is_load refl; no_number = rw is_load refl }

  reads_raising : f.will_raise (read_on x 5 v) ≡ f.will_raise x
  unfolding f.will_raise f.is_new_at
  reads_raising = rw is_load refl

  reads_without_number : f.has_number x ≡ false
  unfolding f.has_number f.is_new_at
  reads_without_number = rw is_load refl

  reads_inside : (m : ℕ) → f.is_inside (read_on x 5 v) m ≡ f.is_inside x m
  unfolding f.is_inside f.in_object f.in_object_at
  reads_inside m = rw (is_load, at_4) refl

  reads_before_object : f.before_object (read_on x 5 v) ≡ f.before_object x
  unfolding f.before_object f.before_object_at
  reads_before_object = rw (is_load, at_4) refl

  reads_in_frame : f.in_frame (read_on x 5 v) ≡ f.in_frame x
  unfolding f.in_frame f.in_frame_at
  reads_in_frame = rw (is_load, at_4) refl

  reads_before_frame : f.before_frame (read_on x 5 v) ≡ f.before_frame x
  unfolding f.before_frame f.before_frame_at
  reads_before_frame = rw (is_load, at_4) refl

  reads_hand : (g : Geometry) → hand_of_flight g (read_on x 5 v) ≡ hand_of_flight g x
  unfolding f.hand_of_flight f.reserves_at f.links_at
  reads_hand g = rw (is_load, at_4, and_right x.claimer false refl) refl

  reads_flying : f.is_flying x ≡ true
  reads_flying = rw at_4 refl

  reads_through : f.is_through x.call ≡ true
  unfolding f.is_through
  reads_through = rw is_load refl

  reads_in_object : f.in_object x ≡ true
  unfolding f.in_object f.in_object_at
  reads_in_object = rw (is_load, at_4) refl

  reads_stays : f.register_stays x ≡ true
  unfolding f.register_stays f.register_stays_at
  reads_stays = rw (is_load, at_4) refl

  reads_has_cycle : f.has_cycle_inside x ≡ true
  unfolding f.has_cycle_inside f.has_cycle_inside_at
  reads_has_cycle = rw (is_load, at_4) refl

  reads_has_cycle_in_frame : f.has_cycle_in_frame x ≡ true
  unfolding f.has_cycle_in_frame f.is_load_at
  reads_has_cycle_in_frame = rw (is_load, at_4) refl

  reads_is_load : f.is_load x ≡ true
  unfolding f.is_load f.is_load_at
  reads_is_load = rw (is_load, at_4) refl

  -- before the read the flight holds back nothing, and after it the register that it will write
  held_back_before : (k : ℕ) → f.holds_back x k ≡ false
  unfolding f.holds_back f.holds_back_at
  held_back_before k = rw (is_load, at_4) refl

  held_back_after : (k : ℕ) → f.holds_back (read_on x 5 v) k ≡ nat_eq dest k
  unfolding f.holds_back f.holds_back_at
  held_back_after k = rw is_load refl

  not_written_yet : f.has_written (read_on x 5 v) ≡ false
  unfolding f.has_written f.is_load_at
  not_written_yet = rw is_load refl

  not_claimed_yet : f.has_claimed (read_on x 5 v) ≡ false
  unfolding f.has_claimed f.has_claimed_at
  not_claimed_yet = rw is_load refl

  reads_field : has_field x.call x.entered ≡ true → field < layout.reference_refs x.entered
  reads_field e = ltb-true field (layout.reference_refs x.entered) (rw is_load at e)

  reads_in_row : 5 ≤ places_of x.call
  reads_in_row = rw is_load (omega arith)

  reads_in_step : f.IsInStepAt x.call x.place x.full x.raised → f.IsInStepAt x.call 5 x.full x.raised
  reads_in_step h = rw is_load (rw is_load at h)

  copies_nothing : {A : Type 0} (k : ℕ) → copied x.call ≡ Some k → A
  copies_nothing k e = let none : None ≡ Some k = rw is_load at e in absurd (cc)

  -- the facts of the flight after the read
  read_facts : (g : Geometry) (w : Words) (sh : Shades) (names : Names) (plain : ℕ → ℕ → Option ℕ) (p : Option ℕ) (s : ℕ) → v ≡ shown names p → IsNullOrGood sh.kept names v
      → (sh.black (object_of x) ≡ true → NamesNoWhite sh.white v)
      → FlightFacts g w sh names plain s x → FlightFacts g w sh names (upd2 plain s dest p) s (read_on x 5 v)
  read_facts g w sh names plain p s shows good dark o = record {
    registers_shown = λ k h. elim (cases_eq k dest) [
      | inl e ↦ rw (held_back_after k, eq-eqb dest k (sym e)) (shows ∙ ap (shown names) (sym (ap (upd2 plain s dest p s) e ∙ upd2_same plain s dest p)))
      | inr d ↦ rw (held_back_after k, ne_eqb dest k (λ e. d (sym e)))
          ((rw (held_back_before k) at (o.registers_shown k h)) ∙ ap (shown names) (sym (upd2_other plain s dest p s k (inr d))))
    ];
    entered_good = λ a b. o.entered_good a reads_flying;
    loaded_good = λ h. good;
    formed = record { seated = o.formed.seated; in_row = reads_in_row; registers = λ h. o.formed.registers reads_flying; no_question = o.formed.no_question; entered_null = o.formed.entered_null };
    in_step = reads_in_step o.in_step;
    field_there = λ h. o.field_there reads_flying;
    entered_stays = λ r h. o.entered_stays r reads_stays;
    place_known = λ h. o.place_known reads_in_object;
    loaded_recent = λ h. o.loaded_recent reads_has_cycle;
    loaded_stays = λ r h. refuted _ not_written_yet h;
    copied_stays = λ r h e. copies_nothing r e;
    claims_last = λ h. refuted _ not_claimed_yet h;
    late_in_no_black_object = λ h. o.late_in_no_black_object reads_has_cycle;
    late_in_no_black_frame = λ h. o.late_in_no_black_frame reads_has_cycle_in_frame;
    loaded_white = λ h. dark;
    entered_white = λ h. o.entered_white reads_is_load;
  }

-- a flight of another seat, after a register of the plain heap has changed
flight_elsewhere : (g : Geometry) (w : Words) (sh : Shades) (names : Names) (plain : ℕ → ℕ → Option ℕ) (s r : ℕ) (p : Option ℕ) (t : ℕ) (x : Flight) → t ≢ s
    → FlightFacts g w sh names plain t x → FlightFacts g w sh names (upd2 plain s r p) t x
flight_elsewhere g w sh names plain s r p t x d o = record {
  registers_shown = λ k b. rw (upd2_other plain s r p t k (inl d)) (o.registers_shown k b);
  entered_good = o.entered_good;
  loaded_good = o.loaded_good;
  formed = o.formed;
  in_step = o.in_step;
  field_there = o.field_there;
  entered_stays = o.entered_stays;
  place_known = o.place_known;
  loaded_recent = o.loaded_recent;
  loaded_stays = o.loaded_stays;
  copied_stays = o.copied_stays;
  claims_last = o.claims_last;
  late_in_no_black_object = o.late_in_no_black_object;
  late_in_no_black_frame = o.late_in_no_black_frame;
  loaded_white = o.loaded_white;
  entered_white = o.entered_white;
}

flights_read : (g : Geometry) (w : Words) (sh : Shades) (names : Names) (plain : ℕ → ℕ → Option ℕ) (flight : ℕ → Flight) (s r : ℕ) (p : Option ℕ) (y : Flight)
    → FlightsFacts g w sh names plain flight → FlightFacts g w sh names (upd2 plain s r p) s y
    → FlightsFacts g w sh names (upd2 plain s r p) (upd flight s y)
flights_read g w sh names plain flight s r p y h mine =
    facts_of_flights g w sh names (upd2 plain s r p) (upd flight s y) (λ t b.
    elim (upd_cases flight s y t) [
      | inl (e, u) ↦ rw (u, e) mine
      | inr (d, u) ↦ rw u (flight_elsewhere g w sh names plain s r p t (flight t) d (facts_of_flight g w sh names plain flight h t b))
    ])

-- ALL FACTS

module _ (g : Geometry) (w : Words) (z : Spaces) (sh : Shades) (flight : ℕ → Flight) (begun : ℕ → ℕ) (hand : ℕ → Hand) (t : Spot)
    (names : Names) (contents : Contents) (range : ℕ → Option ℕ) (s dest reg field v : ℕ) (p : Option ℕ) where
  pub load_read_facts : s < tasks g → (flight s).call ≡ call.Load dest reg field → (flight s).place ≡ 4
      → v ≡ shown names p → IsNullOrGood sh.kept names v → IsNullOrKept sh.kept names p → (sh.black (object_of (flight s)) ≡ true → NamesNoWhite sh.white v)
      → (IsSettled g w.cycle sh.white sh.grey w.register flight → NamesNoWhite sh.white v)
      → Facts g w z sh flight begun hand t names contents range
      → Facts g w z sh (upd flight s (read_on (flight s) 5 v)) begun hand t names (writing_contents contents s dest p) range
  load_read_facts below is_load at_4 shows good bears dark dark_when_settled h =
      let x = flight s in
      let y = read_on x 5 v in
      let nothing : MakesNothing y = reads_nothing_made x dest reg field v is_load at_4 in
      let between : CallsFacts g w sh t.line names contents flight = assumption in
      let news : NewsFacts g w sh (upd flight s y) = news_upd g w sh flight s y nothing (reads_raising x dest reg field v is_load at_4) between.news in
      let mine : FlightFacts g w sh names (upd2 contents.register s dest p) s y =
      read_facts x dest reg field v is_load at_4 g w sh names contents.register p s shows good dark (facts_of_flight g w sh names contents.register flight between.flights s below) in
      let flights : FlightsFacts g w sh names (upd2 contents.register s dest p) (upd flight s y) = flights_read g w sh names contents.register flight s dest p y between.flights mine in
      let counted : fact.AccessorsCounted g w.accessors (upd flight s y) = counted_kept g flight s y w.accessors (reads_inside x dest reg field v is_load at_4) h.accessors_counted in
      let versions : fact.VersionsBounded g w.version (upd flight s y) begun = versions_kept g flight s y w.version begun (reads_before_object x dest reg field v is_load at_4) h.versions_bounded in
      let frames : fact.FrameAccessorsCounted g w.frame_accessors (upd flight s y) = frames_counted_kept g flight s y w.frame_accessors below (reads_in_frame x dest reg field v is_load at_4) h.frame_accessors_counted in
      let frame_versions : fact.FrameVersionsBounded g w.frame_version (upd flight s y) begun = frame_versions_kept g flight s y w.frame_version begun (reads_before_frame x dest reg field v is_load at_4) h.frame_versions_bounded in
      let kept : fact.RegistersKept g sh.kept names (upd2 contents.register s dest p) = λ u k a b.
      elim (upd2_cases contents.register s dest p u k) [ inl (i, j, q) ↦ rw q bears | inr (d, q) ↦ rw q (h.registers_kept u k a b) ] in
      let settles : IsSettled g w.cycle sh.white sh.grey w.register flight → IsSettled g w.cycle sh.white sh.grey w.register (upd flight s y) = λ o.
      settled_upd g w sh flight s y nothing (λ e. o.entered s below (reads_flying x dest reg field v is_load at_4)) (λ e. dark_when_settled o) o in
      let passes : fact.PassMeetsGrey g t.line sh.grey (IsSettled g w.cycle sh.white sh.grey w.register (upd flight s y)) = pass_upd g t.line sh.grey _ _ settles h.pass_meets_grey in
      let sweeps : fact.SettledFromSweep t.line (IsSettled g w.cycle sh.white sh.grey w.register (upd flight s y)) = λ m. settles (h.settled_from_sweep m) in
      assumption

-- WHAT THE CELL SHOWS

-- a reference cell of the object that a call is inside shows the plain heap's
pub reference_read : (w : Words) (sh : Shades) (names : Names) (plain link : ℕ → ℕ → Option ℕ) (s reg field : ℕ) (x : Flight) (k : Knows w sh names plain s reg x)
    → fact.LinksShown sh.kept names w.place w.cell link → field < layout.reference_refs x.entered
    → (field < names.refs k.birth) × (w.cell (reference_cell x field) ≡ shown names (link k.birth field))
reference_read w sh names plain link s reg field x k shows there =
    let n = object_of x in
    let within : field < names.refs k.birth = let e = k.refs in omega arith in
    let cell : w.cell (w.place n + 1 + field) ≡ shown names (link k.birth field) = shows n k.birth k.is_kept k.bears field within in
    (within, rw k.stands cell)

-- what a Load knows of its object as it reads the cell
pub load_knows : (g : Geometry) (w : Words) (flight : ℕ → Flight) (begun : ℕ → ℕ) (t : Spot) (names : Names) (contents : Contents) (range : ℕ → Option ℕ) (s dest reg field : ℕ)
    → s < tasks g → (flight s).call ≡ call.Load dest reg field → (flight s).place ≡ 4 → ShapesFit names → FactsOf g w flight begun t names contents range
    → Knows w (shades_of g w flight t.line names) names contents.register s reg (flight s)
load_knows g w flight begun t names contents range s dest reg field below is_load at_4 fit h =
    let x = flight s in
    let sh = shades_of g w flight t.line names in
    let between : CallsFacts g w sh t.line names contents flight = assumption in
    let o : FlightFacts g w sh names contents.register s x = facts_of_flight g w sh names contents.register flight between.flights s below in
    let registers : RegistersFit g.registers (call.Load dest reg field) = rw is_load at (o.formed.registers (reads_flying x dest reg field 0 is_load at_4)) in
    object_known g w sh (held_by g flight) t.line names contents.register s reg x (kept_means g w flight t.line names) o fit
    (reads_through x dest reg field 0 is_load at_4) (reads_flying x dest reg field 0 is_load at_4) (reads_in_object x dest reg field 0 is_load at_4)
    (reads_stays x dest reg field 0 is_load at_4) (held_back_before x dest reg field 0 is_load at_4 reg) (rw is_load refl) registers.1
    (h.registers_kept s reg below registers.1)

-- the reference field is one of the object, and its word shows what the plain heap has there
pub load_shows : (g : Geometry) (w : Words) (flight : ℕ → Flight) (begun : ℕ → ℕ) (t : Spot) (names : Names) (contents : Contents) (range : ℕ → Option ℕ) (s dest reg field : ℕ)
    → s < tasks g → (flight s).call ≡ call.Load dest reg field → (flight s).place ≡ 4
    → (k : Knows w (shades_of g w flight t.line names) names contents.register s reg (flight s)) → FactsOf g w flight begun t names contents range
    → (field < names.refs k.birth) × (w.cell (reference_cell (flight s) field) ≡ shown names (contents.link k.birth field))
load_shows g w flight begun t names contents range s dest reg field below is_load at_4 k h =
    let x = flight s in
    reference_read w (shades_of g w flight t.line names) names contents.register contents.link s reg field x k h.links_shown
    (reads_field x dest reg field 0 is_load at_4 (h.fields_there s below (reads_flying x dest reg field 0 is_load at_4)))

-- all facts hold after a Load has read its cell, for the plain heap after the Load
pub load_reads : (g : Geometry) (w : Words) (flight : ℕ → Flight) (begun : ℕ → ℕ) (t : Spot) (names : Names) (contents : Contents) (range : ℕ → Option ℕ) (s dest reg field : ℕ)
    → s < tasks g → (flight s).call ≡ call.Load dest reg field → (flight s).place ≡ 4
    → (k : Knows w (shades_of g w flight t.line names) names contents.register s reg (flight s)) → FactsOf g w flight begun t names contents range
    → FactsOf g w (upd flight s (read_on (flight s) 5 (w.cell (reference_cell (flight s) field)))) begun t names
    (writing_contents contents s dest (contents.link k.birth field)) range
load_reads g w flight begun t names contents range s dest reg field below is_load at_4 k h =
    let x = flight s in
    let v = w.cell (reference_cell x field) in
    let y = read_on x 5 v in
    let n = object_of x in
    let p = contents.link k.birth field in
    let z = spaces_of g w.cycle in
    let sh = shades_of g w flight t.line names in
    let m = shades_mean g w flight t.line names in
    let means : KeptMeans g w (held_by g flight) t.line names sh = kept_means g w flight t.line names in
    let reads = load_shows g w flight begun t names contents range s dest reg field below is_load at_4 k h in
    let bears : IsNullOrKept sh.kept names p = h.links_kept n k.birth k.is_kept k.bears field reads.0 in
    let good : IsNullOrGood sh.kept names v = shown_good g w (held_by g flight) t.line names sh means p v bears reads.1 in
    let dark : sh.black n ≡ true → NamesNoWhite sh.white v = λ black.
    shown_dark g w (held_by g flight) t.line names sh means p v bears reads.1 (λ child e. h.black_leads_to_no_white n k.birth k.is_kept black k.bears field child reads.0 e) in
    let flying : f.is_flying x ≡ true = reads_flying x dest reg field v is_load at_4 in
    let settled : IsSettled g w.cycle sh.white sh.grey w.register flight → NamesNoWhite sh.white v = λ o.
    elim (o.entered s below flying) [
      | inl null ↦ absurd ((h.entered_good s below (reads_through x dest reg field v is_load at_4) flying).some null)
      | inr light ↦ dark (settled_black g w z sh flight t.line names n m (colours_mean g w flight t.line names) h.objects_in_one_space k.is_kept
          (some_words names sh.size n (m.size n)) (o.none_grey n (means n k.is_kept).within) light)
    ] in
    let hands : hands_of g (upd flight s y) t ≡ hands_of g flight t = hands_upd g t flight s y (reads_hand x dest reg field v is_load at_4 g) in
    let shades : shades_of g w (upd flight s y) t.line names ≡ shades_of g w flight t.line names =
    shades_upd g w t.line names flight s y (reads_without_number x dest reg field v is_load at_4) ((reads_nothing_made x dest reg field v is_load at_4).no_number) in
    rw (hands, shades)
    (load_read_facts g w z sh flight begun (hands_of g flight t) t names contents range s dest reg field v p below is_load at_4 reads.1 good bears dark settled h)

-- THE ROW

-- a load of a word of the spaces finds what the column of cells says
pub found-cell : (g : Geometry) (row : List ℕ) (p : ℕ) → 0 < p → p ≤ 2 * space_words g → learnt row (Some (event.Load (space_at g p))) ≡ (words_of g row).cell p
unfolding words_of decoded learnt
found-cell g row p some within = old_at g row (event.Load (space_at g p)) (Space p) refl ∙ sym (raw_space g row p some within)

-- the entry of a Load
abbrev pub loaded : (seat dest reg field : ℕ) → Entry
loaded seat dest reg field = record { seat = seat; call = call.Load dest reg field; reply = reply.Unit; number = 0 }

module _ (g : Geometry) (x : Flight) (dest reg field : ℕ) (is_load : x.call ≡ call.Load dest reg field) (at_4 : x.place ≡ 4) where
  -- the event of the place, the flight after it, and the entry that it adds
  pub load_read_event : event_of g x ≡ Some (event.Load (space_at g (reference_cell x field)))
  unfolding event_of event_at load_event read_cell
  load_read_event = rw (is_load, at_4) refl

  pub load_read_took : (old : ℕ) → took_of g x old ≡ read_on x 5 old
  unfolding took_of took_at load_took
  load_read_took old = rw (is_load, at_4) refl

  pub load_read_entry : (old : ℕ) → effect_of g x old ≡ Some (loaded x.seat dest reg field)
  unfolding effect_of effect_at load_entry_of
  load_read_entry old = rw (is_load, at_4) refl

-- all facts hold of the row and of the flights after a Load has read its cell
pub load_reads_row : (g : Geometry) (row : List ℕ) (flight : ℕ → Flight) (begun : ℕ → ℕ) (t : Spot) (names : Names) (contents : Contents) (range : ℕ → Option ℕ) (s dest reg field : ℕ)
    → s < tasks g → (flight s).call ≡ call.Load dest reg field → (flight s).place ≡ 4 → reference_cell (flight s) field ≤ 2 * space_words g
    → (k : Knows (words_of g row) (shades_of g (words_of g row) flight t.line names) names contents.register s reg (flight s))
    → FactsOf g (words_of g row) flight begun t names contents range
    → FactsOf g (words_of g (fired_if row (event_of g (flight s)))) (upd flight s (took_of g (flight s) (learnt row (event_of g (flight s))))) begun t names
    (writing_contents contents s dest (contents.link k.birth field)) range
load_reads_row g row flight begun t names contents range s dest reg field below is_load at_4 within k h =
    let x = flight s in
    let p = reference_cell x field in
    let e = event.Load (space_at g p) in
    let words : words_of g (fired_if row (Some e)) ≡ words_of g row = ap (words_of g) (fired_if_some row e) ∙ words-load g row (space_at g p) in
    let found : learnt row (Some e) ≡ (words_of g row).cell p = found-cell g row p (omega arith) within in
    rw (load_read_event g x dest reg field is_load at_4) (rw (words, found, load_read_took g x dest reg field is_load at_4 ((words_of g row).cell p))
    (load_reads g (words_of g row) flight begun t names contents range s dest reg field below is_load at_4 k h))

-- THE HISTORY

module _ (g : Geometry) (history : History) (seat dest reg field birth : ℕ) (in_register : (contents_of g history).register seat reg ≡ Some birth)
    (within : field < (names_of g history).refs birth) where
  -- the view of the plain heap after the Load
  seen-loaded : seat < tasks g → dest < g.registers → view_of (after (opening_of g) (history ++ loaded seat dest reg field ∷ []))
      ≡ with_register_seen (view_of (after (opening_of g) history)) seat dest (heap.link (after (opening_of g) history) birth field)
  unfolding after_entry view_of contents_of names_of
  seen-loaded s d =
      ap view_of (after-push (opening_of g) history (loaded seat dest reg field))
      ∙ view_of-load (tasks g) g.registers (after (opening_of g) history) seat dest reg field birth (is_heap g history) s d in_register within

  -- a Load leaves the births as they are
  pub names-loaded : seat < tasks g → dest < g.registers → names_of g (history ++ loaded seat dest reg field ∷ []) ≡ names_of g history
  unfolding names_of view_of
  names-loaded s d =
      let seen = seen-loaded s d in
      λ i. record {
        bearer = bearer-push_other history (loaded seat dest reg field) refl i;
        number = number_of-push_other history (loaded seat dest reg field) refl i;
        refs = (seen i).refs;
        nums = (seen i).nums;
      }

  -- and changes one register
  pub contents-loaded : seat < tasks g → dest < g.registers
      → contents_of g (history ++ loaded seat dest reg field ∷ []) ≡ writing_contents (contents_of g history) seat dest ((contents_of g history).link birth field)
  unfolding contents_of view_of
  contents-loaded s d =
      let seen = seen-loaded s d in
      λ i. record { register = (seen i).register; link = (seen i).link; value = (seen i).value }

  -- its entry is legal
  pub legal-loaded : Legal (opening_of g) history → Legal (opening_of g) (history ++ loaded seat dest reg field ∷ [])
  unfolding contents_of names_of
  legal-loaded legal =
      let answer : reply.Unit ≡ _ = sym (reply_of-load (after (opening_of g) history) seat dest reg field birth in_register within) in
      Legal-push (opening_of g) history (loaded seat dest reg field) legal (refl, inl (answer, (λ e. absurd (cc)), (λ e. absurd (cc))))
