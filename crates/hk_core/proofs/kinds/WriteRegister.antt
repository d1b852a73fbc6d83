-- A call writes a register as its effect: the register word and the register of the plain heap change together.
use Rattle.std.proofs.Common.{◌≡◌, ◌≢◌, ◌⊎◌, ℕ, ◌<◌, Bool, true, false, inl, inr, refl, sym, ◌∙◌, ap, arith, Option, Some, None}
use Rattle.hk_words.specs.declared.geometry.Geometry.{Geometry}
use Rattle.hk_words.specs.declared.call.Call.TheVariants as call
use Rattle.hk_words.specs.Geometry.{tasks}
use Rattle.hk_model.specs.View.{upd, upd2}
use Rattle.hk_model.proofs.Updates.{upd2_other}
use Rattle.hk_core.specs.declared.flight.Flight.{Flight}
use Rattle.hk_core.specs.declared.spot.Spot.{Spot}
use Rattle.hk_core.specs.declared.spot.Line.{Line}
use Rattle.hk_core.specs.Begin.{copied}
use Rattle.hk_core.specs.State.{idle}
use Rattle.hk_core.specs.View.{Words, Names, Contents, shown}
use Rattle.hk_core.specs.Flights as f
use Rattle.hk_core.specs.Flights.{Hand}
use Rattle.hk_core.specs.Colours.{Spaces, spaces_of, Shades, shades_of, IsNullOrGood, IsNullOrKept, NamesNoWhite, IsNullOrMarked}
use Rattle.hk_core.specs.Facts as fact
use Rattle.hk_core.specs.Facts.{IsSettled}
use Rattle.hk_core.specs.Lawful.{Facts, FactsOf, hands_of}
use Rattle.hk_core.proofs.Update.{upd_cases, upd2_cases}
use Rattle.hk_core.proofs.kinds.Seats.{FlightFacts, FlightsFacts, NewsFacts, CallsFacts, Changes, facts_of_flight, facts_of_flights, news_upd, settled_upd, pass_upd, counted_kept, versions_kept, frames_counted_kept, frame_versions_kept}
use Rattle.hk_core.proofs.kinds.Seats.{Ends, ends_so, ends_hand, ends_without_number, idle_makes_nothing, GoesOn, SameObject, SameFrame, SameClaim, SameItem, moved_on, hands_upd, shades_upd, goes_making_nothing, goes_without_number, goes_hand, goes_so, goes_is_inside, goes_before_object, goes_in_frame, goes_before_frame}
use Rattle.hk_core.proofs.kinds.Frame.{work_in_attempt}
use Rattle.hk_core.proofs.Shared.{refuted}

-- the words, and the contents of the plain heap, after a register was written
abbrev pub writing_words : Words → (s r v : ℕ) → Words
writing_words w s r v = record w { register = upd2 w.register s r v }

abbrev pub writing_contents : Contents → (s r : ℕ) → Option ℕ → Contents
writing_contents c s r p = record c { register = upd2 c.register s r p }

-- THE FLIGHTS

-- a flight of another seat
flight_elsewhere : (g : Geometry) (w : Words) (sh : Shades) (names : Names) (plain : ℕ → ℕ → Option ℕ) (s r v : ℕ) (p : Option ℕ) (t : ℕ) (x : Flight) → t ≢ s
    → FlightFacts g w sh names plain t x → FlightFacts g (writing_words w s r v) sh names (upd2 plain s r p) t x
flight_elsewhere g w sh names plain s r v p t x d o = record {
  registers_shown = λ k b. rw (upd2_other w.register s r v t k (inl d), upd2_other plain s r p t k (inl d)) (o.registers_shown k b);
  entered_good = o.entered_good;
  loaded_good = o.loaded_good;
  formed = o.formed;
  in_step = o.in_step;
  field_there = o.field_there;
  entered_stays = λ k a e. o.entered_stays k a e ∙ sym (upd2_other w.register s r v t k (inl d));
  place_known = o.place_known;
  loaded_recent = o.loaded_recent;
  loaded_stays = λ k a e. upd2_other w.register s r v t k (inl d) ∙ o.loaded_stays k a e;
  copied_stays = λ k a e. o.copied_stays k a e ∙ sym (upd2_other w.register s r v t k (inl d));
  claims_last = o.claims_last;
  late_in_no_black_object = o.late_in_no_black_object;
  late_in_no_black_frame = o.late_in_no_black_frame;
  loaded_white = o.loaded_white;
  entered_white = o.entered_white;
}

-- what a flight shows that has written the register with v: it needs no register any more, but the one from which it copied
pub record HasWritten (y : Flight) (v : ℕ) : Type 0 where
  pub stays : f.register_stays y ≡ false
  pub written : f.has_written y ≡ false
  pub free : (k : ℕ) → f.holds_back y k ≡ false
  pub copies : f.is_flying y ≡ true → (k : ℕ) → copied y.call ≡ Some k → y.item ≡ v

differ : {A : Type 0} (a b c d : ℕ) → (a ≢ b) ⊎ (c ≢ d) → a ≡ b → c ≡ d → A
differ a b c d (inl x) i j = absurd (x i)
differ a b c d (inr x) i j = absurd (x j)

-- the flight itself, in the written words
flight_here : (g : Geometry) (w : Words) (sh : Shades) (names : Names) (plain : ℕ → ℕ → Option ℕ) (s r v : ℕ) (p : Option ℕ) (y : Flight) → HasWritten y v → v ≡ shown names p
    → FlightFacts g w sh names plain s y → FlightFacts g (writing_words w s r v) sh names (upd2 plain s r p) s y
flight_here g w sh names plain s r v p y t shows o = record {
  registers_shown = λ k b. rw (t.free k) (here k (rw (t.free k) at (o.registers_shown k b)));
  entered_good = o.entered_good;
  loaded_good = o.loaded_good;
  formed = o.formed;
  in_step = o.in_step;
  field_there = o.field_there;
  entered_stays = λ k a e. refuted (f.register_stays y) t.stays a;
  place_known = o.place_known;
  loaded_recent = o.loaded_recent;
  loaded_stays = λ k a e. refuted (f.has_written y) t.written a;
  copied_stays = λ k a e. elim (upd2_cases w.register s r v s k) [
    | inl (i, j, u) ↦ t.copies a k e ∙ sym u
    | inr (d, u) ↦ o.copied_stays k a e ∙ sym u
  ];
  claims_last = o.claims_last;
  late_in_no_black_object = o.late_in_no_black_object;
  late_in_no_black_frame = o.late_in_no_black_frame;
  loaded_white = o.loaded_white;
  entered_white = o.entered_white;
}
  where
    here : (k : ℕ) → w.register s k ≡ shown names (plain s k) → upd2 w.register s r v s k ≡ shown names (upd2 plain s r p s k)
    here k before = elim (upd2_cases w.register s r v s k) [
      | inl (i, j, u) ↦ elim (upd2_cases plain s r p s k) [
        | inl (_, _, z) ↦ u ∙ shows ∙ ap (shown names) (sym z)
        | inr (d, z) ↦ differ s s k r d i j
      ]
      | inr (d, u) ↦ elim (upd2_cases plain s r p s k) [
        | inl (i, j, z) ↦ differ s s k r d i j
        | inr (_, z) ↦ u ∙ before ∙ ap (shown names) (sym z)
      ]
    ]

flights_write : (g : Geometry) (w : Words) (sh : Shades) (names : Names) (plain : ℕ → ℕ → Option ℕ) (flight : ℕ → Flight) (s r v : ℕ) (p : Option ℕ) (y : Flight)
    → FlightsFacts g w sh names plain flight → FlightFacts g (writing_words w s r v) sh names (upd2 plain s r p) s y
    → FlightsFacts g (writing_words w s r v) sh names (upd2 plain s r p) (upd flight s y)
flights_write g w sh names plain flight s r v p y h mine =
    facts_of_flights g (writing_words w s r v) sh names (upd2 plain s r p) (upd flight s y) (λ t b.
    elim (upd_cases flight s y t) [
      | inl (e, u) ↦ rw (u, e) mine
      | inr (d, u) ↦ rw u (flight_elsewhere g w sh names plain s r v p t (flight t) d (facts_of_flight g w sh names plain flight h t b))
    ])

-- a settled state stays so where the register gets no white number
pub settled_write : (g : Geometry) (cycle : ℕ) (white grey : ℕ → Bool) (register : ℕ → ℕ → ℕ) (flight : ℕ → Flight) (s r v : ℕ) → NamesNoWhite white v
    → IsSettled g cycle white grey register flight → IsSettled g cycle white grey (upd2 register s r v) flight
settled_write g cycle white grey register flight s r v dark h = record {
  none_grey = h.none_grey;
  none_late = h.none_late;
  registers = λ t k b c. elim (upd2_cases register s r v t k) [ inl (i, j, u) ↦ rw u dark | inr (d, u) ↦ rw u (h.registers t k b c) ];
  entered = h.entered;
  items = h.items;
}

-- ALL FACTS

module _ (g : Geometry) (w : Words) (z : Spaces) (sh : Shades) (flight : ℕ → Flight) (begun : ℕ → ℕ) (hand : ℕ → Hand) (t : Spot)
    (names : Names) (contents : Contents) (range : ℕ → Option ℕ) (s r v : ℕ) (p : Option ℕ) (y : Flight) where
  -- what a write of a register by a call shows: the word is what the plain heap's register gets, it is null or good, and
  -- names no white number where the frame is black, or the state settled; it is null, or the call is inside its frame
  pub record WritesRegister : Type 0 where
    pub inside : (m : ℕ) → f.is_inside y m ≡ f.is_inside (flight s) m
    pub before_object : f.before_object y ≡ f.before_object (flight s)
    pub in_frame : f.in_frame y ≡ f.in_frame (flight s)
    pub before_frame : f.before_frame y ≡ f.before_frame (flight s)
    pub has_written : HasWritten y v
    pub shows : v ≡ shown names p
    pub good : IsNullOrGood sh.kept names v
    pub bears : IsNullOrKept sh.kept names p
    pub dark : sh.black_frame s ≡ true → NamesNoWhite sh.white v
    pub dark_when_settled : IsSettled g w.cycle sh.white sh.grey w.register flight → NamesNoWhite sh.white v
    pub in_attempt : (v ≡ 0) ⊎ (0 < w.frame_accessors s)

  pub write_register_facts : s < tasks g → WritesRegister
      → (CallsFacts g w sh t.line names contents flight → Changes g w sh names contents flight s y)
      → Facts g w z sh flight begun hand t names contents range
      → Facts g (writing_words w s r v) z sh (upd flight s y) begun hand t names (writing_contents contents s r p) range
  write_register_facts below e change h =
      let calls : CallsFacts g w sh t.line names contents flight = assumption in
      let c = change calls in
      let counted : fact.AccessorsCounted g w.accessors (upd flight s y) = counted_kept g flight s y w.accessors e.inside h.accessors_counted in
      let versions : fact.VersionsBounded g w.version (upd flight s y) begun = versions_kept g flight s y w.version begun e.before_object h.versions_bounded in
      let frames : fact.FrameAccessorsCounted g w.frame_accessors (upd flight s y) = frames_counted_kept g flight s y w.frame_accessors below e.in_frame h.frame_accessors_counted in
      let frame_versions : fact.FrameVersionsBounded g w.frame_version (upd flight s y) begun = frame_versions_kept g flight s y w.frame_version begun e.before_frame h.frame_versions_bounded in
      let news : NewsFacts g w sh (upd flight s y) = news_upd g w sh flight s y c.nothing c.raising calls.news in
      let flights : FlightsFacts g (writing_words w s r v) sh names (upd2 contents.register s r p) (upd flight s y) =
      flights_write g w sh names contents.register flight s r v p y calls.flights
      (flight_here g w sh names contents.register s r v p y e.has_written e.shows c.facts) in
      let settles : IsSettled g w.cycle sh.white sh.grey w.register flight → IsSettled g w.cycle sh.white sh.grey (upd2 w.register s r v) (upd flight s y) = λ o.
      settled_write g w.cycle sh.white sh.grey w.register (upd flight s y) s r v (e.dark_when_settled o)
      (settled_upd g w sh flight s y c.nothing (c.entered o) (c.item o) o) in
      let passes : fact.PassMeetsGrey g t.line sh.grey (IsSettled g w.cycle sh.white sh.grey (upd2 w.register s r v) (upd flight s y)) =
      pass_upd g t.line sh.grey _ _ settles h.pass_meets_grey in
      let sweeps : fact.SettledFromSweep t.line (IsSettled g w.cycle sh.white sh.grey (upd2 w.register s r v) (upd flight s y)) = λ m. settles (h.settled_from_sweep m) in
      let good : fact.RegistersGood g sh.kept names (upd2 w.register s r v) = λ u k a b.
      elim (upd2_cases w.register s r v u k) [ inl (i, j, q) ↦ rw q e.good | inr (d, q) ↦ rw q (h.registers_good u k a b) ] in
      let bears : fact.RegistersKept g sh.kept names (upd2 contents.register s r p) = λ u k a b.
      elim (upd2_cases contents.register s r p u k) [ inl (i, j, q) ↦ rw q e.bears | inr (d, q) ↦ rw q (h.registers_kept u k a b) ] in
      let dark : fact.BlackFrameHasNoWhite g sh.white sh.black_frame (upd2 w.register s r v) = λ u k a b black.
      elim (upd2_cases w.register s r v u k) [
        | inl (i, j, q) ↦ rw q (e.dark (ap sh.black_frame (sym i) ∙ black))
        | inr (d, q) ↦ rw q (h.black_frame_has_no_white u k a b black)
      ] in
      let passed_registers : fact.RegistersPassed g t.line w.cycle t.first w.frame_version (upd2 w.register s r v) w.mark = λ u passed k a same b.
      elim (upd2_cases w.register s r v u k) [
        | inl (i, j, q) ↦ rw q (attempted (IsNullOrMarked w.cycle w.mark v) (λ null. inl null) u i ((h.frame_attempt_behind u passed a).same_accessors same) e.in_attempt)
        | inr (d, q) ↦ rw q (h.registers_passed u passed k a same b)
      ] in
      let work : fact.RegisterInWork t.line t.first t.cell w.frame_version (upd2 w.register s r v) = λ u k a same.
      elim (upd2_cases w.register s r v u k) [
        | inl (i, j, q) ↦ rw q (attempted ((v ≡ 0) ⊎ (v ≡ t.cell)) (λ null. inl null) u i ((h.frame_attempt_behind u k (work_in_attempt g t.line u k a)).same_accessors same) e.in_attempt)
        | inr (d, q) ↦ rw q (h.register_in_work u k a same)
      ] in
      assumption
    where
      attempted : (P : Type 0) → (v ≡ 0 → P) → (u : ℕ) → u ≡ s → w.frame_accessors u ≡ 0 → (v ≡ 0) ⊎ (0 < w.frame_accessors s) → P
      attempted P null u i none (inl e) = null e
      attempted P null u i none (inr some) = let same : w.frame_accessors u ≡ w.frame_accessors s = ap w.frame_accessors i in absurd (omega arith)

-- what many facts read of the words is the same after the write
pub shades_write : (g : Geometry) (w : Words) (s r v : ℕ) (flight : ℕ → Flight) (ln : Line) (names : Names) → shades_of g (writing_words w s r v) flight ln names ≡ shades_of g w flight ln names
unfolding shades_of
shades_write g w s r v flight ln names = refl

-- MOVE

module _ (x : Flight) (dest from : ℕ) (is_move : x.call ≡ call.Move dest from) (at_2 : x.place ≡ 2) where
  -- a Move goes on from its second place to its third
  move_goes : GoesOn x.call x.place 3
  unfolding f.register_stays_at f.is_load_at f.is_new_at
  move_goes = rw (is_move, at_2) (record {
    flying = refl;
    in_row = omega arith;
    in_step = λ full raised h. h;
    register_stays = refl;
    is_load = refl;
    will_raise = refl;
    raised_before = refl;
    raised = refl;
    making = refl;
    numbered_before = refl;
    numbered = refl;
  })

  move_object : SameObject x.call x.place 3
  unfolding f.in_object_at f.before_object_at
  move_object = rw (is_move, at_2) (record { inside = refl; before = refl })

  move_frame : SameFrame x.call x.place 3
  unfolding f.in_frame_at f.before_frame_at
  move_frame = rw (is_move, at_2) (record { inside = refl; before = refl })

  move_claim : SameClaim x.call x.place 3
  unfolding f.is_load_at f.has_cycle_inside_at f.has_claimed_at f.reserves_at f.links_at
  move_claim = rw (is_move, at_2) (record { has_cycle_in_frame = λ h. h; has_cycle = λ b h. h; has_claimed = λ h. h; reserves = refl; links = refl })

  move_item : SameItem x.call x.place 3
  unfolding f.has_item_at f.is_load_at f.holds_back_at
  move_item = rw (is_move, at_2) (record { has_item = refl; has_loaded = refl; has_loaded_inside = λ h. h; has_written = refl; holds_back = λ r. refl })

  move_has_written : HasWritten (moved_on x 3 x.at) x.item
  unfolding f.register_stays f.register_stays_at f.has_written f.is_load_at f.holds_back f.holds_back_at
  move_has_written = record { stays = rw is_move refl; written = rw is_move refl; free = λ k. rw is_move refl; copies = λ _ k _. refl }

  move_in_no_object : f.in_object (moved_on x 3 x.at) ≡ false
  unfolding f.in_object f.in_object_at
  move_in_no_object = rw is_move refl

  move_inside : f.is_resting x ≡ false → f.in_frame x ≡ true
  unfolding f.in_frame f.in_frame_at
  move_inside busy = rw (is_move, at_2, busy) refl

  move_holds_nothing_back : (k : ℕ) → f.holds_back x k ≡ false
  unfolding f.holds_back f.holds_back_at
  move_holds_nothing_back k = rw is_move refl

  move_copies : copied x.call ≡ Some from
  move_copies = rw is_move refl

-- all facts hold after a Move has written its register, for the plain heap after the Move
pub move_writes : (g : Geometry) (w : Words) (flight : ℕ → Flight) (begun : ℕ → ℕ) (t : Spot) (names : Names) (contents : Contents) (range : ℕ → Option ℕ) (s dest from : ℕ)
    → s < tasks g → from < g.registers → (flight s).call ≡ call.Move dest from → (flight s).place ≡ 2 → f.is_resting (flight s) ≡ false
    → FactsOf g w flight begun t names contents range
    → FactsOf g (writing_words w s dest (flight s).item) (upd flight s (moved_on (flight s) 3 (flight s).at)) begun t names
    (writing_contents contents s dest (contents.register s from)) range
move_writes g w flight begun t names contents range s dest from below reg is_move at_2 busy h =
    let x = flight s in
    let y = moved_on x 3 x.at in
    let z = spaces_of g w.cycle in
    let sh = shades_of g w flight t.line names in
    let goes = move_goes x dest from is_move at_2 in
    let flying : f.is_flying x ≡ true = goes.flying in
    let stays : x.item ≡ w.register s from = h.copied_stays s from below flying (move_copies x dest from is_move at_2) in
    let plain : w.register s from ≡ shown names (contents.register s from) = rw (move_holds_nothing_back x dest from is_move at_2 from) at (h.registers_shown s from below reg) in
    let one : w.frame_accessors s ≡ 1 = h.frame_accessors_counted s below ∙ rw (move_inside x dest from is_move at_2 busy) refl in
    let writes : WritesRegister g w z sh flight begun (hands_of g flight t) t names contents range s dest x.item (contents.register s from) y = record {
      inside = goes_is_inside x 3 x.at goes (move_object x dest from is_move at_2);
      before_object = goes_before_object x 3 x.at goes (move_object x dest from is_move at_2);
      in_frame = goes_in_frame x 3 x.at goes (move_frame x dest from is_move at_2);
      before_frame = goes_before_frame x 3 x.at goes (move_frame x dest from is_move at_2);
      has_written = move_has_written x dest from is_move at_2;
      shows = stays ∙ plain;
      good = rw stays (h.registers_good s from below reg);
      bears = h.registers_kept s from below reg;
      dark = λ black. rw stays (h.black_frame_has_no_white s from below reg black);
      dark_when_settled = λ o. rw stays (o.registers s from below reg);
      in_attempt = inr (omega arith);
    } in
    let hands : hands_of g (upd flight s y) t ≡ hands_of g flight t = hands_upd g t flight s y (goes_hand x 3 x.at goes g (move_claim x dest from is_move at_2)) in
    let shades : shades_of g (writing_words w s dest x.item) (upd flight s y) t.line names ≡ shades_of g (writing_words w s dest x.item) flight t.line names =
    shades_upd g (writing_words w s dest x.item) t.line names flight s y (goes_without_number x 3 x.at goes) ((goes_making_nothing x 3 x.at goes).no_number) in
    rw (hands, shades, shades_write g w s dest x.item flight t.line names)
    (write_register_facts g w z sh flight begun (hands_of g flight t) t names contents range s dest x.item (contents.register s from) y below writes
    (λ b. goes_so x 3 x.at goes g w sh t.line names contents flight s below refl (move_claim x dest from is_move at_2) (move_item x dest from is_move at_2)
    (λ i. refuted _ (move_in_no_object x dest from is_move at_2) i) b) h)

-- CLEAR

-- the tables of a Clear at its one place
module _ (x : Flight) (dest : ℕ) (is_clear : x.call ≡ call.Clear dest) where
  clear_ends : Ends x.call x.place
  unfolding f.before_object_at f.before_frame_at f.reserves_at f.links_at f.holds_back_at f.is_new_at
  clear_ends = rw is_clear (record { before_object = refl; before_frame = refl; reserves = refl; links = refl; holds_back = λ r. refl; will_raise = refl; numbered = refl })

  clear_inside : (m : ℕ) → f.is_inside (idle x.seat) m ≡ f.is_inside x m
  unfolding f.is_inside f.in_object f.in_object_at idle
  clear_inside m = rw is_clear refl

  clear_before_object : f.before_object (idle x.seat) ≡ f.before_object x
  unfolding f.before_object f.before_object_at idle
  clear_before_object = rw is_clear refl

  clear_in_frame : f.in_frame (idle x.seat) ≡ f.in_frame x
  unfolding f.in_frame f.in_frame_at idle
  clear_in_frame = rw is_clear refl

  clear_before_frame : f.before_frame (idle x.seat) ≡ f.before_frame x
  unfolding f.before_frame f.before_frame_at idle
  clear_before_frame = rw is_clear refl

idle_has_written : (seat v : ℕ) → HasWritten (idle seat) v
unfolding f.register_stays f.register_stays_at f.has_written f.is_load_at f.holds_back f.holds_back_at idle
idle_has_written seat v = record { stays = refl; written = refl; free = λ k. refl; copies = λ flying. absurd (cc) }

null_shown : (names : Names) → 0 ≡ shown names None
unfolding shown
null_shown names = refl

-- all facts hold after a Clear has written its register and has ended, for the plain heap after the Clear
pub clear_writes : (g : Geometry) (w : Words) (flight : ℕ → Flight) (begun : ℕ → ℕ) (t : Spot) (names : Names) (contents : Contents) (range : ℕ → Option ℕ) (s dest : ℕ)
    → s < tasks g → (flight s).call ≡ call.Clear dest → FactsOf g w flight begun t names contents range
    → FactsOf g (writing_words w s dest 0) (upd flight s (idle (flight s).seat)) begun t names (writing_contents contents s dest None) range
clear_writes g w flight begun t names contents range s dest below is_clear h =
    let x = flight s in
    let y = idle x.seat in
    let z = spaces_of g w.cycle in
    let sh = shades_of g w flight t.line names in
    let ends = clear_ends x dest is_clear in
    let writes : WritesRegister g w z sh flight begun (hands_of g flight t) t names contents range s dest 0 None y = record {
      inside = clear_inside x dest is_clear;
      before_object = clear_before_object x dest is_clear;
      in_frame = clear_in_frame x dest is_clear;
      before_frame = clear_before_frame x dest is_clear;
      has_written = idle_has_written x.seat 0;
      shows = null_shown names;
      good = inl refl;
      bears = inl refl;
      dark = λ black. inl refl;
      dark_when_settled = λ o. inl refl;
      in_attempt = inl refl;
    } in
    let hands : hands_of g (upd flight s y) t ≡ hands_of g flight t = hands_upd g t flight s y (ends_hand x ends g) in
    let shades : shades_of g (writing_words w s dest 0) (upd flight s y) t.line names ≡ shades_of g (writing_words w s dest 0) flight t.line names =
    shades_upd g (writing_words w s dest 0) t.line names flight s y (ends_without_number x ends) ((idle_makes_nothing x.seat).no_number) in
    rw (hands, shades, shades_write g w s dest 0 flight t.line names)
    (write_register_facts g w z sh flight begun (hands_of g flight t) t names contents range s dest 0 None y below writes
    (λ b. ends_so x ends g w sh t.line names contents flight s below refl b) h)
