-- A Store writes its reference into a cell of the object that it is inside: the word and the cell of the plain heap
-- change together. And a Store of null rests where it would load W0.
use Rattle.std.proofs.Common.{◌≡◌, ◌≢◌, ℕ, ◌+◌, ◌*◌, ◌<◌, ◌≤◌, Bool, true, false, List, length, [], ◌∷◌, ◌++◌, inl, inr, refl, sym, ◌∙◌, ap, arith, Option, Some, None}
use Rattle.std.proofs.lemmas.Bool.{cases_eq, and_right, not_from_false, eq-eqb, ne_eqb, ltb-true}
use Rattle.hk_words.specs.declared.geometry.Geometry.{Geometry}
use Rattle.hk_words.specs.declared.call.Call.TheVariants as call
use Rattle.hk_words.specs.declared.call.Reply.TheVariants as reply
use Rattle.hk_words.specs.Geometry.{tasks, space_words, row_length}
use Rattle.hk_words.specs.Calls.{RegistersFit}
use Rattle.hk_words.specs.Layout as layout
use Rattle.hk_words.specs.Row.{space_at}
use Rattle.hk_model.specs.View.{upd, upd2, view_of}
use Rattle.hk_model.specs.Heap as heap
use Rattle.hk_model.specs.Heap.{opening_of}
use Rattle.hk_model.specs.History.{Entry, History, Legal, after, after_entry}
use Rattle.hk_model.proofs.Effects.{view_of-store}
use Rattle.hk_model.proofs.Histories.{after-push, Legal-push, number_of-push_other, bearer-push_other}
use Rattle.hk_model.proofs.Replies.{reply_of-store}
use Rattle.hk_model.proofs.Updates.{upd_same, upd_other, upd2_same, upd2_other}
use Rattle.hk_core.specs.declared.event.Event.TheVariants as event
use Rattle.hk_core.specs.declared.flight.Flight.{Flight}
use Rattle.hk_core.specs.declared.spot.Spot.{Spot}
use Rattle.hk_core.specs.declared.spot.Line.{Line}
use Rattle.hk_core.specs.Begin.{copied, has_field}
use Rattle.hk_core.specs.Event.{fired_if, learnt}
use Rattle.hk_core.specs.Step.{reference_cell, write_cell, store_event, store_took, store_entry, event_at, event_of, took_at, took_of, effect_at, effect_of}
use Rattle.hk_core.specs.View.{Words, Names, Contents, shown, words_of, names_of, contents_of}
use Rattle.hk_core.specs.Flights as f
use Rattle.hk_core.specs.Flights.{Hand, hand_of_flight}
use Rattle.hk_core.specs.Colours.{Spaces, spaces_of, Shades, shades_of, held_by, IsKeptBirth, IsNullOrKept}
use Rattle.hk_core.specs.Facts as fact
use Rattle.hk_core.specs.Lawful.{Facts, FactsOf, hands_of}
use Rattle.hk_core.proofs.Update.{upd2_cases}
use Rattle.hk_core.proofs.Columns.{fired_if_some, fired_if_none, nothing_learnt}
use Rattle.hk_core.proofs.kinds.Seats.{FlightFacts, CallsFacts, Changes, MakesNothing, KeptMeans, GoesOn, SameObject, SameFrame, SameClaim, SameItem, moved_on, kept_means, calls_upd, facts_of_flight, counted_kept, versions_kept, frames_counted_kept, frame_versions_kept}
use Rattle.hk_core.proofs.kinds.Seats.{hands_upd, shades_upd, goes_making_nothing, goes_without_number, goes_hand, goes_so, goes_is_inside, goes_before_object, goes_in_frame, goes_before_frame, goes_in_object}
use Rattle.hk_core.proofs.kinds.Enter.{object_of}
use Rattle.hk_core.proofs.kinds.Words.{some_in_object, words-write_cell}
use Rattle.hk_core.proofs.kinds.Read.{Knows, ShapesFit, object_known}
use Rattle.hk_core.proofs.kinds.WriteCell.{ShadesMean, WritesInside, CellFacts, BearersNumbered, shades_mean, cells_write, cell_words, shades_cell}
use Rattle.hk_core.proofs.kinds.Effects.{is_heap}
use Rattle.hk_core.proofs.kinds.LoadCycle.{loaded_on}
use Rattle.hk_core.proofs.kinds.LoadRead.{colours_mean, kept_number, shown_birth}
use Rattle.hk_core.proofs.kinds.LoadWrite.{claimed_not_white}
use Rattle.hk_core.proofs.Shared.{refuted, size_borne, one_value}

-- THE PLAIN HEAP

-- its contents after a reference cell was written
abbrev pub link_contents : Contents → (birth field : ℕ) → Option ℕ → Contents
link_contents c birth field p = record c { link = upd2 c.link birth field p }

module _ (g : Geometry) (w : Words) (z : Spaces) (sh : Shades) (flight : ℕ → Flight) (t : Spot) (names : Names) (contents : Contents)
    (apart : fact.ObjectsApart sh.kept w.place sh.size) (m : ShadesMean g w z sh flight t.line names) (n birth field v : ℕ) (p : Option ℕ)
    (o : WritesInside w sh n (w.place n + 1 + field)) (bears : names.bearer n ≡ Some birth) (there : field < names.refs birth) where
  -- the written word is none of another object
  in_no_other : (k j : ℕ) → sh.kept k ≡ true → k ≢ n → j < sh.size k → w.place k + j ≢ w.place n + 1 + field
  in_no_other k j kept differ below e =
      let before : w.place n + 1 + field < w.place n + sh.size n = o.before in
      elim (apart k n kept o.is_kept differ) [ inl a ↦ omega arith | inr a ↦ omega arith ]

  -- after the write of a reference cell the number cells show what they did
  values_write_reference : fact.ValuesShown sh.kept names w.place w.cell contents.value → fact.ValuesShown sh.kept names w.place (upd w.cell (w.place n + 1 + field) v) contents.value
  values_write_reference h k b kept borne i below =
      let size : sh.size k ≡ 1 + names.refs b + names.nums b = m.size k ∙ size_borne names k b borne in
      let differ : w.place k + 1 + names.refs b + i ≢ w.place n + 1 + field = elim (cases_eq k n) [
        | inl e ↦
            let same : b ≡ birth = one_value (names.bearer n) b birth (ap names.bearer (sym e) ∙ borne) bears in
            let refs : names.refs b ≡ names.refs birth = ap names.refs same in
            let stands : w.place k ≡ w.place n = ap w.place e in
            λ q. omega arith
        | inr d ↦ λ q. in_no_other k (1 + names.refs b + i) kept d (omega arith) (omega arith)
      ] in
      upd_other w.cell (w.place n + 1 + field) v (w.place k + 1 + names.refs b + i) differ ∙ h k b kept borne i below

  -- and the reference cells show the changed reference
  links_write_reference : BearersNumbered names → v ≡ shown names p → fact.LinksShown sh.kept names w.place w.cell contents.link
      → fact.LinksShown sh.kept names w.place (upd w.cell (w.place n + 1 + field) v) (upd2 contents.link birth field p)
  links_write_reference numbered reads h k b kept borne i below =
      let place = w.place n + 1 + field in
      let size : sh.size k ≡ 1 + names.refs b + names.nums b = m.size k ∙ size_borne names k b borne in
      let shows : w.cell (w.place k + 1 + i) ≡ shown names (contents.link b i) = h k b kept borne i below in
      elim (cases_eq k n) [
        | inl e ↦
            let same : b ≡ birth = one_value (names.bearer n) b birth (ap names.bearer (sym e) ∙ borne) bears in
            let stands : w.place k ≡ w.place n = ap w.place e in
            elim (cases_eq i field) [
              | inl f ↦
                  let here : w.place k + 1 + i ≡ place = omega arith in
                  ap (upd w.cell place v) here ∙ upd_same w.cell place v ∙ reads ∙ ap (shown names) (sym (upd2_same contents.link birth field p)) ∙ sym (rw (same, f) refl)
              | inr d ↦
                  upd_other w.cell place v (w.place k + 1 + i) (λ q. d (omega arith)) ∙ shows ∙ ap (shown names) (sym (upd2_other contents.link birth field p b i (inr d)))
            ]
        | inr d ↦
            let other : b ≢ birth = λ same. d (sym (numbered k b borne) ∙ ap names.number same ∙ numbered n birth bears) in
            upd_other w.cell place v (w.place k + 1 + i) (λ q. in_no_other k (1 + i) kept d (omega arith) (omega arith))
            ∙ shows ∙ ap (shown names) (sym (upd2_other contents.link birth field p b i (inl other)))
      ]

-- ALL FACTS

module _ (g : Geometry) (w : Words) (z : Spaces) (sh : Shades) (flight : ℕ → Flight) (begun : ℕ → ℕ) (hand : ℕ → Hand) (t : Spot)
    (names : Names) (contents : Contents) (range : ℕ → Option ℕ) (s q n birth field v : ℕ) (p : Option ℕ) where
  -- for a call that goes on to its next place: the word shows what the plain heap gets, null or a kept birth, and no white
  -- one where the object is black
  pub write_reference_facts : s < tasks g → GoesOn (flight s).call (flight s).place q → SameObject (flight s).call (flight s).place q
      → SameFrame (flight s).call (flight s).place q → SameClaim (flight s).call (flight s).place q → SameItem (flight s).call (flight s).place q
      → ShadesMean g w z sh flight t.line names → ShapesFit names → BearersNumbered names
      → WritesInside w sh n (w.place n + 1 + field) → names.bearer n ≡ Some birth → field < names.refs birth
      → v ≡ shown names p → IsNullOrKept sh.kept names p → (sh.black n ≡ true → (child : ℕ) → p ≡ Some child → sh.white (names.number child) ≡ false)
      → Facts g w z sh flight begun hand t names contents range
      → Facts g (cell_words w (w.place n + 1 + field) v) z sh (upd flight s (moved_on (flight s) q (flight s).at)) begun hand t names
      (link_contents contents birth field p) range
  write_reference_facts below goes object frame claim item m fit numbered o bears there reads kept dark h =
      let x = flight s in
      let y = moved_on x q x.at in
      let place = w.place n + 1 + field in
      let words = cell_words w place v in
      let plain = link_contents contents birth field p in
      let counted : fact.AccessorsCounted g w.accessors (upd flight s y) = counted_kept g flight s y w.accessors (goes_is_inside x q x.at goes object) h.accessors_counted in
      let versions : fact.VersionsBounded g w.version (upd flight s y) begun = versions_kept g flight s y w.version begun (goes_before_object x q x.at goes object) h.versions_bounded in
      let frames : fact.FrameAccessorsCounted g w.frame_accessors (upd flight s y) = frames_counted_kept g flight s y w.frame_accessors below (goes_in_frame x q x.at goes frame) h.frame_accessors_counted in
      let frame_versions : fact.FrameVersionsBounded g w.frame_version (upd flight s y) begun = frame_versions_kept g flight s y w.frame_version begun (goes_before_frame x q x.at goes frame) h.frame_versions_bounded in
      let cells : CellFacts g w z sh flight hand t names range (upd w.cell place v) = cells_write g w z sh flight begun hand t names contents range h m fit n place v o in
      let shown_links : fact.LinksShown sh.kept names w.place (upd w.cell place v) (upd2 contents.link birth field p) =
      links_write_reference g w z sh flight t names contents h.objects_apart m n birth field v p o bears there numbered reads h.links_shown in
      let values : fact.ValuesShown sh.kept names w.place (upd w.cell place v) contents.value =
      values_write_reference g w z sh flight t names contents h.objects_apart m n birth field v p o bears there h.values_shown in
      let kept_links : fact.LinksKept sh.kept names (upd2 contents.link birth field p) = λ k b a borne i within.
      elim (upd2_cases contents.link birth field p b i) [ inl (_, _, u) ↦ rw u kept | inr (_, u) ↦ rw u (h.links_kept k b a borne i within) ] in
      let colours : fact.BlackLeadsToNoWhite sh.white sh.black sh.kept names (upd2 contents.link birth field p) = λ k b a black borne i child within leads.
      elim (upd2_cases contents.link birth field p b i) [
        | inl (e, _, u) ↦
            let same : n ≡ k = sym (numbered n birth bears) ∙ ap names.number (sym e) ∙ numbered k b borne in
            dark (ap sh.black same ∙ black) child (sym u ∙ leads)
        | inr (_, u) ↦ h.black_leads_to_no_white k b a black borne i child within (sym u ∙ leads)
      ] in
      let clean : fact.NewsClean g (upd w.cell place v) flight = cells.news_clean in
      let between : CallsFacts g words sh t.line names plain flight = assumption in
      let known : f.in_object y ≡ true → x.at ≡ w.place (layout.reference_number x.entered) = λ i. h.place_known s below (sym (goes_in_object x q x.at goes object) ∙ i) in
      let calls : CallsFacts g words sh t.line names plain (upd flight s y) =
      calls_upd g words sh t.line names plain flight s y (goes_so x q x.at goes g words sh t.line names plain flight s below refl claim item known between) between in
      assumption

-- STORE

module _ (x : Flight) (reg field from : ℕ) (is_store : x.call ≡ call.Store reg field from) (at_6 : x.place ≡ 6) where
  -- a Store goes on from its sixth place to its seventh
  store_goes : GoesOn x.call x.place 7
  unfolding f.register_stays_at f.is_load_at f.is_new_at
  store_goes = rw (is_store, at_6) (record {
    flying = refl;
    in_row = omega arith;
    in_step = λ full raised h. h;
    register_stays = refl;
    is_load = refl;
    will_raise = refl;
    raised_before = refl;
    raised = refl;
    making = refl;
    numbered_before = refl;
    numbered = refl;
  })

  store_object : SameObject x.call x.place 7
  unfolding f.in_object_at f.before_object_at
  store_object = rw (is_store, at_6) (record { inside = refl; before = refl })

  store_frame : SameFrame x.call x.place 7
  unfolding f.in_frame_at f.before_frame_at
  store_frame = rw (is_store, at_6) (record { inside = refl; before = refl })

  store_claim : SameClaim x.call x.place 7
  unfolding f.is_load_at f.has_cycle_inside_at f.has_claimed_at f.reserves_at f.links_at
  store_claim = rw (is_store, at_6) (record { has_cycle_in_frame = λ h. h; has_cycle = λ b h. h; has_claimed = λ h. h; reserves = refl; links = refl })

  store_item : SameItem x.call x.place 7
  unfolding f.has_item_at f.is_load_at f.holds_back_at
  store_item = rw (is_store, at_6) (record { has_item = refl; has_loaded = refl; has_loaded_inside = λ h. h; has_written = refl; holds_back = λ r. refl })

  store_inside : f.is_inside x (object_of x) ≡ true
  unfolding f.is_inside f.in_object f.in_object_at
  store_inside = rw (is_store, at_6) (eq-eqb (object_of x) (object_of x) refl)

  store_field : has_field x.call x.entered ≡ true → field < layout.reference_refs x.entered
  store_field e = ltb-true field (layout.reference_refs x.entered) (rw is_store at e)

  store_through : f.is_through x.call ≡ true
  unfolding f.is_through
  store_through = rw is_store refl

  store_in_object : f.in_object x ≡ true
  unfolding f.in_object f.in_object_at
  store_in_object = rw (is_store, at_6) refl

  store_stays : f.register_stays x ≡ true
  unfolding f.register_stays f.register_stays_at
  store_stays = rw (is_store, at_6) refl

  store_holds_nothing_back : (k : ℕ) → f.holds_back x k ≡ false
  unfolding f.holds_back f.holds_back_at
  store_holds_nothing_back k = rw is_store refl

  store_copies : copied x.call ≡ Some from
  store_copies = rw is_store refl

  -- unless it writes null, it has loaded W0, and has claimed what it writes
  store_has_cycle : x.item ≢ 0 → f.has_cycle_inside x ≡ true
  unfolding f.has_cycle_inside f.has_cycle_inside_at
  store_has_cycle some = rw (is_store, at_6) (not_from_false _ (ne_eqb x.item 0 some))

  store_claimed : x.item ≢ 0 → f.has_claimed x ≡ true
  unfolding f.has_claimed f.has_claimed_at
  store_claimed some = rw (is_store, at_6) (not_from_false _ (ne_eqb x.item 0 some))

-- what a Store knows of its object as it writes the cell
pub store_knows : (g : Geometry) (w : Words) (flight : ℕ → Flight) (begun : ℕ → ℕ) (t : Spot) (names : Names) (contents : Contents) (range : ℕ → Option ℕ) (s reg field from : ℕ)
    → s < tasks g → (flight s).call ≡ call.Store reg field from → (flight s).place ≡ 6 → ShapesFit names → FactsOf g w flight begun t names contents range
    → Knows w (shades_of g w flight t.line names) names contents.register s reg (flight s)
store_knows g w flight begun t names contents range s reg field from below is_store at_6 fit h =
    let x = flight s in
    let sh = shades_of g w flight t.line names in
    let between : CallsFacts g w sh t.line names contents flight = assumption in
    let o : FlightFacts g w sh names contents.register s x = facts_of_flight g w sh names contents.register flight between.flights s below in
    let flying : f.is_flying x ≡ true = (store_goes x reg field from is_store at_6).flying in
    let registers : RegistersFit g.registers (call.Store reg field from) = rw is_store at (o.formed.registers flying) in
    object_known g w sh (held_by g flight) t.line names contents.register s reg x (kept_means g w flight t.line names) o fit
    (store_through x reg field from is_store at_6) flying (store_in_object x reg field from is_store at_6)
    (store_stays x reg field from is_store at_6) (store_holds_nothing_back x reg field from is_store at_6 reg) (rw is_store refl) registers.0
    (h.registers_kept s reg below registers.0)

-- the reference field is one of the object
pub store_field_there : (g : Geometry) (w : Words) (flight : ℕ → Flight) (begun : ℕ → ℕ) (t : Spot) (names : Names) (contents : Contents) (range : ℕ → Option ℕ) (s reg field from : ℕ)
    → s < tasks g → (flight s).call ≡ call.Store reg field from → (flight s).place ≡ 6
    → (k : Knows w (shades_of g w flight t.line names) names contents.register s reg (flight s)) → FactsOf g w flight begun t names contents range
    → field < names.refs k.birth
store_field_there g w flight begun t names contents range s reg field from below is_store at_6 k h =
    let refs = k.refs in
    let there = store_field (flight s) reg field from is_store at_6 (h.fields_there s below (store_goes (flight s) reg field from is_store at_6).flying) in
    omega arith

-- all facts hold after a Store has written its cell, for the plain heap after the Store
pub store_writes : (g : Geometry) (w : Words) (flight : ℕ → Flight) (begun : ℕ → ℕ) (t : Spot) (names : Names) (contents : Contents) (range : ℕ → Option ℕ) (s reg field from : ℕ)
    → s < tasks g → (flight s).call ≡ call.Store reg field from → (flight s).place ≡ 6 → ShapesFit names → BearersNumbered names
    → (k : Knows w (shades_of g w flight t.line names) names contents.register s reg (flight s)) → FactsOf g w flight begun t names contents range
    → FactsOf g (cell_words w (reference_cell (flight s) field) (flight s).item) (upd flight s (moved_on (flight s) 7 (flight s).at)) begun t names
    (link_contents contents k.birth field (contents.register s from)) range
store_writes g w flight begun t names contents range s reg field from below is_store at_6 fit numbered k h =
    let x = flight s in
    let y = moved_on x 7 x.at in
    let n = object_of x in
    let v = x.item in
    let stored = contents.register s from in
    let z = spaces_of g w.cycle in
    let sh = shades_of g w flight t.line names in
    let p = w.place n + 1 + field in
    let goes = store_goes x reg field from is_store at_6 in
    let flying : f.is_flying x ≡ true = goes.flying in
    let claim = store_claim x reg field from is_store at_6 in
    let m = shades_mean g w flight t.line names in
    let means : KeptMeans g w (held_by g flight) t.line names sh = kept_means g w flight t.line names in
    let there : field < names.refs k.birth = store_field_there g w flight begun t names contents range s reg field from below is_store at_6 k h in
    let size : sh.size n ≡ 1 + names.refs k.birth + names.nums k.birth = m.size n ∙ size_borne names n k.birth k.bears in
    let o : WritesInside w sh n p = record {
      is_kept = k.is_kept;
      after = omega arith;
      before = omega arith;
      inside = some_in_object g w.accessors flight s n below (means n k.is_kept).within (store_inside x reg field from is_store at_6) h.accessors_counted;
    } in
    let registers : RegistersFit g.registers (call.Store reg field from) = rw is_store at ((h.flights_formed s below).registers flying) in
    let word : w.register s from ≡ shown names stored = rw (store_holds_nothing_back x reg field from is_store at_6 from) at (h.registers_shown s from below registers.1) in
    let reads : v ≡ shown names stored = h.copied_stays s from below flying (store_copies x reg field from is_store at_6) ∙ word in
    let kept : IsNullOrKept sh.kept names stored = h.registers_kept s from below registers.1 in
    let dark : sh.black n ≡ true → (child : ℕ) → stored ≡ Some child → sh.white (names.number child) ≡ false = λ black child e.
    let birth : IsKeptBirth sh.kept names child = kept_child sh.kept names stored child e kept in
    let number = kept_number g w (held_by g flight) t.line names sh means child v birth (reads ∙ shown_birth names stored child e) in
    ap sh.white (sym number.0) ∙ claimed_not_white w z sh x (colours_mean g w flight t.line names)
    (λ late. refuted (sh.black n) (h.late_in_no_black_object s below (store_has_cycle x reg field from is_store at_6 number.1) late) black)
    (h.claims_last s below (store_claimed x reg field from is_store at_6 number.1)) in
    let stands : x.at ≡ w.place n = k.stands in
    let place : reference_cell x field ≡ p = omega arith in
    let hands : hands_of g (upd flight s y) t ≡ hands_of g flight t = hands_upd g t flight s y (goes_hand x 7 x.at goes g claim) in
    let shades : shades_of g (cell_words w p v) (upd flight s y) t.line names ≡ shades_of g (cell_words w p v) flight t.line names =
    shades_upd g (cell_words w p v) t.line names flight s y (goes_without_number x 7 x.at goes) ((goes_making_nothing x 7 x.at goes).no_number) in
    rw place (rw (hands, shades, shades_cell g w p v flight t.line names)
    (write_reference_facts g w z sh flight begun (hands_of g flight t) t names contents range s 7 n k.birth field v stored below goes (store_object x reg field from is_store at_6)
    (store_frame x reg field from is_store at_6) claim (store_item x reg field from is_store at_6) m fit numbered o k.bears there reads kept dark h))
  where
    kept_child : (kept : ℕ → Bool) (names : Names) (plain : Option ℕ) (child : ℕ) → plain ≡ Some child → IsNullOrKept kept names plain → IsKeptBirth kept names child
    kept_child kept names plain child e (inl none) = absurd (cc)
    kept_child kept names plain child e (inr found) = let same : found.0 ≡ child = cc in rw (← same) found.2

-- THE ROW

-- the entry of a Store
abbrev pub stored : (seat reg field from : ℕ) → Entry
stored seat reg field from = record { seat = seat; call = call.Store reg field from; reply = reply.Unit; number = 0 }

module _ (g : Geometry) (x : Flight) (reg field from : ℕ) (is_store : x.call ≡ call.Store reg field from) (at_6 : x.place ≡ 6) where
  -- the event of the place, the flight after it, and the entry that it adds
  pub store_write_event : event_of g x ≡ Some (event.Write (space_at g (reference_cell x field)) x.item)
  unfolding event_of event_at store_event write_cell
  store_write_event = rw (is_store, at_6) refl

  pub store_write_took : (old : ℕ) → took_of g x old ≡ moved_on x 7 x.at
  unfolding took_of took_at store_took
  store_write_took old = rw (is_store, at_6) refl

  pub store_write_entry : (old : ℕ) → effect_of g x old ≡ Some (stored x.seat reg field from)
  unfolding effect_of effect_at store_entry
  store_write_entry old = rw (is_store, at_6) refl

-- all facts hold of the row and of the flights after a Store has written its cell
pub store_writes_row : (g : Geometry) (row : List ℕ) (flight : ℕ → Flight) (begun : ℕ → ℕ) (t : Spot) (names : Names) (contents : Contents) (range : ℕ → Option ℕ) (s reg field from : ℕ)
    → s < tasks g → (flight s).call ≡ call.Store reg field from → (flight s).place ≡ 6 → length row ≡ row_length g → reference_cell (flight s) field ≤ 2 * space_words g
    → ShapesFit names → BearersNumbered names
    → (k : Knows (words_of g row) (shades_of g (words_of g row) flight t.line names) names contents.register s reg (flight s))
    → FactsOf g (words_of g row) flight begun t names contents range
    → FactsOf g (words_of g (fired_if row (event_of g (flight s)))) (upd flight s (took_of g (flight s) (learnt row (event_of g (flight s))))) begun t names
    (link_contents contents k.birth field (contents.register s from)) range
store_writes_row g row flight begun t names contents range s reg field from below is_store at_6 whole within fit numbered k h =
    let x = flight s in
    let p = reference_cell x field in
    let e = event.Write (space_at g p) x.item in
    let words : words_of g (fired_if row (Some e)) ≡ cell_words (words_of g row) p x.item =
    ap (words_of g) (fired_if_some row e) ∙ words-write_cell g row whole p x.item (omega arith) within in
    rw (store_write_event g x reg field from is_store at_6) (rw (words, store_write_took g x reg field from is_store at_6 (learnt row (Some e)))
    (store_writes g (words_of g row) flight begun t names contents range s reg field from below is_store at_6 fit numbered k h))

-- THE HISTORY

module _ (g : Geometry) (history : History) (seat reg field from birth : ℕ) (in_register : (contents_of g history).register seat reg ≡ Some birth)
    (within : field < (names_of g history).refs birth) where
  -- the view of the plain heap after the Store
  seen-stored : view_of (after (opening_of g) (history ++ stored seat reg field from ∷ []))
      ≡ record (view_of (after (opening_of g) history)) { link = upd2 (heap.link (after (opening_of g) history)) birth field (heap.register (after (opening_of g) history) seat from) }
  unfolding after_entry contents_of names_of
  seen-stored =
      ap view_of (after-push (opening_of g) history (stored seat reg field from))
      ∙ view_of-store (tasks g) g.registers (after (opening_of g) history) seat reg field from birth (is_heap g history) in_register within

  -- a Store leaves the births as they are
  pub names-stored : names_of g (history ++ stored seat reg field from ∷ []) ≡ names_of g history
  unfolding names_of view_of
  names-stored = λ i. record {
    bearer = bearer-push_other history (stored seat reg field from) refl i;
    number = number_of-push_other history (stored seat reg field from) refl i;
    refs = (seen-stored i).refs;
    nums = (seen-stored i).nums;
  }

  -- and changes one reference cell
  pub contents-stored : contents_of g (history ++ stored seat reg field from ∷ []) ≡ link_contents (contents_of g history) birth field ((contents_of g history).register seat from)
  unfolding contents_of view_of
  contents-stored = λ i. record { register = (seen-stored i).register; link = (seen-stored i).link; value = (seen-stored i).value }

  -- its entry is legal
  pub legal-stored : Legal (opening_of g) history → Legal (opening_of g) (history ++ stored seat reg field from ∷ [])
  unfolding contents_of names_of
  legal-stored legal =
      let answer : reply.Unit ≡ _ = sym (reply_of-store (after (opening_of g) history) seat reg field from birth in_register within) in
      Legal-push (opening_of g) history (stored seat reg field from) legal (refl, inl (answer, (λ e. absurd (cc)), (λ e. absurd (cc))))

-- A STORE OF NULL

-- it loads no W0 at its second place: a rest learns 0
module _ (x : Flight) (reg field from : ℕ) (is_store : x.call ≡ call.Store reg field from) (at_2 : x.place ≡ 2) where
  rest_goes : GoesOn x.call x.place 3
  unfolding f.register_stays_at f.is_load_at f.is_new_at
  rest_goes = rw (is_store, at_2) (record {
    flying = refl;
    in_row = omega arith;
    in_step = λ full raised h. h;
    register_stays = refl;
    is_load = refl;
    will_raise = refl;
    raised_before = refl;
    raised = refl;
    making = refl;
    numbered_before = refl;
    numbered = refl;
  })

  rest_nothing_made : MakesNothing (loaded_on x 3 0)
  unfolding f.has_raised f.has_room f.is_making f.has_number f.is_new_at
  rest_nothing_made = record { not_raised = rw is_store refl; no_room = rw is_store refl; not_making = rw is_store refl; no_number = rw is_store refl }

  rest_raising : f.will_raise (loaded_on x 3 0) ≡ f.will_raise x
  unfolding f.will_raise f.is_new_at
  rest_raising = rw is_store refl

  rest_inside : (m : ℕ) → f.is_inside (loaded_on x 3 0) m ≡ f.is_inside x m
  unfolding f.is_inside f.in_object f.in_object_at
  rest_inside m = rw (is_store, at_2) refl

  rest_before_object : f.before_object (loaded_on x 3 0) ≡ f.before_object x
  unfolding f.before_object f.before_object_at
  rest_before_object = rw (is_store, at_2) refl

  rest_in_frame : f.in_frame (loaded_on x 3 0) ≡ f.in_frame x
  unfolding f.in_frame f.in_frame_at
  rest_in_frame = rw is_store refl

  rest_before_frame : f.before_frame (loaded_on x 3 0) ≡ f.before_frame x
  unfolding f.before_frame f.before_frame_at
  rest_before_frame = rw is_store refl

  rest_hand : (g : Geometry) → hand_of_flight g (loaded_on x 3 0) ≡ hand_of_flight g x
  unfolding f.hand_of_flight f.reserves_at f.links_at
  rest_hand g = rw (is_store, at_2, and_right x.claimer false refl) refl

  rest_in_object : f.in_object x ≡ true
  unfolding f.in_object f.in_object_at
  rest_in_object = rw (is_store, at_2) refl

  rest_stays : f.register_stays x ≡ true
  unfolding f.register_stays f.register_stays_at
  rest_stays = rw (is_store, at_2) refl

  rest_has_item : f.has_item x ≡ true
  unfolding f.has_item f.has_item_at
  rest_has_item = rw (is_store, at_2) refl

  rest_holds_nothing_back : (k : ℕ) → f.holds_back x k ≡ false
  unfolding f.holds_back f.holds_back_at
  rest_holds_nothing_back k = rw is_store refl

  rested_holds_nothing_back : (k : ℕ) → f.holds_back (loaded_on x 3 0) k ≡ false
  unfolding f.holds_back f.holds_back_at
  rested_holds_nothing_back k = rw is_store refl

  -- so it has no cycle, and it has claimed and loaded nothing
  rested_has_no_cycle : x.item ≡ 0 → f.has_cycle_inside (loaded_on x 3 0) ≡ false
  unfolding f.has_cycle_inside f.has_cycle_inside_at
  rested_has_no_cycle null = rw (is_store, null) refl

  rested_has_no_cycle_in_frame : f.has_cycle_in_frame (loaded_on x 3 0) ≡ false
  unfolding f.has_cycle_in_frame f.is_load_at f.has_raised f.is_new_at
  rested_has_no_cycle_in_frame = rw is_store refl

  rested_has_not_claimed : f.has_claimed (loaded_on x 3 0) ≡ false
  unfolding f.has_claimed f.has_claimed_at
  rested_has_not_claimed = rw is_store refl

  rested_has_not_loaded : f.has_loaded (loaded_on x 3 0) ≡ false
  unfolding f.has_loaded f.is_load_at
  rested_has_not_loaded = rw is_store refl

  rested_has_not_loaded_inside : f.has_loaded_inside (loaded_on x 3 0) ≡ false
  unfolding f.has_loaded_inside f.is_load_at
  rested_has_not_loaded_inside = rw is_store refl

  rested_has_not_written : f.has_written (loaded_on x 3 0) ≡ false
  unfolding f.has_written f.is_load_at
  rested_has_not_written = rw is_store refl

  rested_is_no_load : f.is_load (loaded_on x 3 0) ≡ false
  unfolding f.is_load f.is_load_at
  rested_is_no_load = rw is_store refl

  -- the facts of the flight after the rest
  rest_facts : (g : Geometry) (w : Words) (sh : Shades) (names : Names) (plain : ℕ → ℕ → Option ℕ) (s : ℕ) → x.item ≡ 0
      → FlightFacts g w sh names plain s x → FlightFacts g w sh names plain s (loaded_on x 3 0)
  rest_facts g w sh names plain s null o = record {
    registers_shown = λ r h. rw (rested_holds_nothing_back r) (rw (rest_holds_nothing_back r) at (o.registers_shown r h));
    entered_good = λ a b. o.entered_good a rest_goes.flying;
    loaded_good = λ h. refuted _ rested_has_not_loaded h;
    formed = record { seated = o.formed.seated; in_row = rest_goes.in_row; registers = λ h. o.formed.registers rest_goes.flying; no_question = o.formed.no_question; entered_null = o.formed.entered_null };
    in_step = rest_goes.in_step x.full x.raised o.in_step;
    field_there = λ h. o.field_there rest_goes.flying;
    entered_stays = λ r h. o.entered_stays r rest_stays;
    place_known = λ h. o.place_known rest_in_object;
    loaded_recent = λ h. refuted _ (rested_has_no_cycle null) h;
    loaded_stays = λ r h. refuted _ rested_has_not_written h;
    copied_stays = λ r h. o.copied_stays r rest_goes.flying;
    claims_last = λ h. refuted _ rested_has_not_claimed h;
    late_in_no_black_object = λ h. refuted _ (rested_has_no_cycle null) h;
    late_in_no_black_frame = λ h. refuted _ rested_has_no_cycle_in_frame h;
    loaded_white = λ h. refuted _ rested_has_not_loaded_inside h;
    entered_white = λ h. refuted _ rested_is_no_load h;
  }

  rest_so : (g : Geometry) (w : Words) (sh : Shades) (ln : Line) (names : Names) (contents : Contents) (flight : ℕ → Flight) (s : ℕ) → s < tasks g → flight s ≡ x → x.item ≡ 0
      → CallsFacts g w sh ln names contents flight → Changes g w sh names contents flight s (loaded_on x 3 0)
  rest_so g w sh ln names contents flight s below here null h = record {
    nothing = rest_nothing_made;
    raising = rw here rest_raising;
    facts = rest_facts g w sh names contents.register s null (rw (← here) (facts_of_flight g w sh names contents.register flight h.flights s below));
    entered = λ o e. rw (← here) (o.entered s below (rw here rest_goes.flying));
    item = λ o e. rw (← here) (o.items s below (rw here rest_has_item));
  }

module _ (g : Geometry) (w : Words) (z : Spaces) (sh : Shades) (flight : ℕ → Flight) (begun : ℕ → ℕ) (hand : ℕ → Hand) (t : Spot)
    (names : Names) (contents : Contents) (range : ℕ → Option ℕ) (s reg field from : ℕ) where
  pub store_rest_facts : s < tasks g → (flight s).call ≡ call.Store reg field from → (flight s).place ≡ 2 → (flight s).item ≡ 0
      → Facts g w z sh flight begun hand t names contents range
      → Facts g w z sh (upd flight s (loaded_on (flight s) 3 0)) begun hand t names contents range
  store_rest_facts below is_store at_2 null h =
      let x = flight s in
      let y = loaded_on x 3 0 in
      let counted : fact.AccessorsCounted g w.accessors (upd flight s y) = counted_kept g flight s y w.accessors (rest_inside x reg field from is_store at_2) h.accessors_counted in
      let versions : fact.VersionsBounded g w.version (upd flight s y) begun = versions_kept g flight s y w.version begun (rest_before_object x reg field from is_store at_2) h.versions_bounded in
      let frames : fact.FrameAccessorsCounted g w.frame_accessors (upd flight s y) = frames_counted_kept g flight s y w.frame_accessors below (rest_in_frame x reg field from is_store at_2) h.frame_accessors_counted in
      let frame_versions : fact.FrameVersionsBounded g w.frame_version (upd flight s y) begun = frame_versions_kept g flight s y w.frame_version begun (rest_before_frame x reg field from is_store at_2) h.frame_versions_bounded in
      let between : CallsFacts g w sh t.line names contents flight = assumption in
      let calls : CallsFacts g w sh t.line names contents (upd flight s y) =
      calls_upd g w sh t.line names contents flight s y (rest_so x reg field from is_store at_2 g w sh t.line names contents flight s below refl null between) between in
      assumption

-- all facts hold after a Store of null has rested where it would load W0; no word changes
pub store_rests : (g : Geometry) (w : Words) (flight : ℕ → Flight) (begun : ℕ → ℕ) (t : Spot) (names : Names) (contents : Contents) (range : ℕ → Option ℕ) (s reg field from : ℕ)
    → s < tasks g → (flight s).call ≡ call.Store reg field from → (flight s).place ≡ 2 → (flight s).item ≡ 0 → FactsOf g w flight begun t names contents range
    → FactsOf g w (upd flight s (loaded_on (flight s) 3 0)) begun t names contents range
store_rests g w flight begun t names contents range s reg field from below is_store at_2 null h =
    let x = flight s in
    let y = loaded_on x 3 0 in
    let goes = rest_goes x reg field from is_store at_2 in
    let hands : hands_of g (upd flight s y) t ≡ hands_of g flight t = hands_upd g t flight s y (rest_hand x reg field from is_store at_2 g) in
    let shades : shades_of g w (upd flight s y) t.line names ≡ shades_of g w flight t.line names =
    shades_upd g w t.line names flight s y (goes_without_number x 3 x.at goes) ((rest_nothing_made x reg field from is_store at_2).no_number) in
    rw (hands, shades)
    (store_rest_facts g w (spaces_of g w.cycle) (shades_of g w flight t.line names) flight begun (hands_of g flight t) t names contents range s reg field from below is_store at_2 null h)

module _ (g : Geometry) (x : Flight) (reg field from : ℕ) (is_store : x.call ≡ call.Store reg field from) (at_2 : x.place ≡ 2) where
  -- the place is a rest, and this is the flight after it; no entry is added
  pub store_rest_event : x.item ≡ 0 → event_of g x ≡ None
  unfolding event_of event_at store_event
  store_rest_event null = rw (is_store, at_2, null) refl

  pub store_rest_took : (old : ℕ) → took_of g x old ≡ loaded_on x 3 old
  unfolding took_of took_at store_took
  store_rest_took old = rw (is_store, at_2) refl

  pub store_rest_entry : (old : ℕ) → effect_of g x old ≡ None
  unfolding effect_of effect_at store_entry
  store_rest_entry old = rw (is_store, at_2) refl

-- all facts hold of the row and of the flights after a Store of null has rested
pub store_rests_row : (g : Geometry) (row : List ℕ) (flight : ℕ → Flight) (begun : ℕ → ℕ) (t : Spot) (names : Names) (contents : Contents) (range : ℕ → Option ℕ) (s reg field from : ℕ)
    → s < tasks g → (flight s).call ≡ call.Store reg field from → (flight s).place ≡ 2 → (flight s).item ≡ 0
    → FactsOf g (words_of g row) flight begun t names contents range
    → FactsOf g (words_of g (fired_if row (event_of g (flight s)))) (upd flight s (took_of g (flight s) (learnt row (event_of g (flight s))))) begun t names contents range
store_rests_row g row flight begun t names contents range s reg field from below is_store at_2 null h =
    let x = flight s in
    rw (store_rest_event g x reg field from is_store at_2 null) (rw (fired_if_none row, nothing_learnt row, store_rest_took g x reg field from is_store at_2 0)
    (store_rests g (words_of g row) flight begun t names contents range s reg field from below is_store at_2 null h))
