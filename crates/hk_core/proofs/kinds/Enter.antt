-- A call enters its object: the header has one more accessor and a greater version, and the call knows the place.
use Rattle.std.proofs.Common.{◌≡◌, ◌≢◌, ℕ, ◌+◌, ◌<◌, ◌≤◌, true, false, inl, inr, refl, sym, ◌∙◌, ap, arith, Option, Some}
use Rattle.std.proofs.lemmas.Bool.{eq-eqb, ne_eqb}
use Rattle.std.specs.Prelude.{nat_eq}
use Rattle.hk_words.specs.declared.geometry.Geometry.{Geometry}
use Rattle.hk_words.specs.declared.call.Call.{Call}
use Rattle.hk_words.specs.declared.call.Call.TheVariants as call
use Rattle.hk_words.specs.Geometry.{tasks}
use Rattle.hk_words.specs.Layout as layout
use Rattle.hk_model.specs.View.{upd}
use Rattle.hk_model.proofs.Updates.{upd_other}
use Rattle.hk_core.specs.declared.flight.Flight.{Flight}
use Rattle.hk_core.specs.declared.spot.Spot.{Spot}
use Rattle.hk_core.specs.declared.spot.Line.{Line}
use Rattle.hk_core.specs.declared.spot.Line.TheVariants as line
use Rattle.hk_core.specs.declared.spot.Stage.TheVariants as stage
use Rattle.hk_core.specs.Collect.{current_space, next_list}
use Rattle.hk_core.specs.Counts.{count_below, sum_below}
use Rattle.hk_core.specs.View.{Words, Names, Contents}
use Rattle.hk_core.specs.Flights as f
use Rattle.hk_core.specs.Flights.{Hand}
use Rattle.hk_core.specs.Lines as l
use Rattle.hk_core.specs.Colours.{Spaces, spaces_of, Shades, shades_of, held_by, IsGood}
use Rattle.hk_core.specs.Facts as fact
use Rattle.hk_core.specs.Facts.{HasNoHeader, IsOwn, ObjectBehind}
use Rattle.hk_core.specs.Lawful.{Facts, FactsOf, hands_of}
use Rattle.hk_core.proofs.Update.{upd_cases}
use Rattle.hk_core.proofs.Counts.{count_more, count_less, count_kept}
use Rattle.hk_core.proofs.kinds.Seats.{NewsFacts, CallsFacts, KeptMeans, GoesOn, SameFrame, SameClaim, SameItem, moved_on}
use Rattle.hk_core.proofs.kinds.Seats.{calls_upd, frames_counted_kept, frame_versions_kept, hands_upd, shades_upd, kept_means, own_not_kept, headless_not_kept, goes_making_nothing, goes_without_number, goes_hand, goes_so}

-- WHAT CHANGES

-- the number of the object that a call goes through
abbrev pub object_of : Flight → ℕ
object_of x = layout.reference_number x.entered

-- the words after a call has entered the object of a number
abbrev pub entering_words : Words → ℕ → Words
entering_words w n = record w { accessors = upd w.accessors n (w.accessors n + 1); version = upd w.version n (w.version n + 1) }

-- the tables of a call that enters its object at its place p, and is inside at q
pub record EntersObject (call : Call) (p q : ℕ) : Type 0 where
  pub through : f.is_through call ≡ true
  pub outside : f.in_object_at call p ≡ false
  pub inside : f.in_object_at call q ≡ true
  pub before : f.before_object_at call p ≡ true
  pub after : f.before_object_at call q ≡ false
  pub goes : GoesOn call p q
  pub same_frame : SameFrame call p q
  pub same_claim : SameClaim call p q
  pub same_item : SameItem call p q

-- THE COUNTS

-- one more call is inside the object of a number
pub counted_enter : (g : Geometry) (accessors : ℕ → ℕ) (flight : ℕ → Flight) (s : ℕ) (y : Flight) (n : ℕ) → s < tasks g
    → ((m : ℕ) → f.is_inside (flight s) m ≡ false) → ((m : ℕ) → f.is_inside y m ≡ nat_eq n m)
    → fact.AccessorsCounted g accessors flight → fact.AccessorsCounted g (upd accessors n (accessors n + 1)) (upd flight s y)
counted_enter g accessors flight s y n below was now h m fits =
    let before : accessors m ≡ count_below (tasks g) (λ t. f.is_inside (flight t) m) = h m fits in
    elim (upd_cases accessors n (accessors n + 1) m) [
      | inl (e, u) ↦
          let more : count_below (tasks g) (λ t. f.is_inside (upd flight s y t) m) ≡ count_below (tasks g) (λ t. f.is_inside (flight t) m) + 1 =
          count_more (λ x. f.is_inside x m) flight s y (tasks g) below (was m) (now m ∙ eq-eqb n m (sym e)) in
          let same : accessors m ≡ accessors n = ap accessors e in
          omega arith
      | inr (d, u) ↦
          let as_many : count_below (tasks g) (λ t. f.is_inside (upd flight s y t) m) ≡ count_below (tasks g) (λ t. f.is_inside (flight t) m) =
          count_kept (λ x. f.is_inside x m) flight s y (tasks g) (now m ∙ ne_eqb n m (λ e. d (sym e)) ∙ sym (was m)) in
          omega arith
    ]

-- a call that had still to enter an object has entered it
pub versions_enter : (g : Geometry) (version : ℕ → ℕ) (flight : ℕ → Flight) (begun : ℕ → ℕ) (s : ℕ) (y : Flight) (n : ℕ) → s < tasks g
    → f.before_object (flight s) ≡ true → f.before_object y ≡ false
    → fact.VersionsBounded g version flight begun → fact.VersionsBounded g (upd version n (version n + 1)) (upd flight s y) begun
versions_enter g version flight begun s y n below was now h m fits =
    let before : version m + count_below (tasks g) (λ t. f.before_object (flight t)) ≤ sum_below (tasks g) begun = h m fits in
    let less : count_below (tasks g) (λ t. f.before_object (upd flight s y t)) + 1 ≡ count_below (tasks g) (λ t. f.before_object (flight t)) =
    count_less f.before_object flight s y (tasks g) below was now in
    elim (upd_cases version n (version n + 1) m) [
      | inl (e, u) ↦ let same : version m ≡ version n = ap version e in omega arith
      | inr (d, u) ↦ omega arith
    ]

-- THE HEADER

-- a number without a header isn't the one that was entered
headless_enter : (accessors place version : ℕ → ℕ) (n m : ℕ) → m ≢ n → HasNoHeader accessors place version m
    → HasNoHeader (upd accessors n (accessors n + 1)) place (upd version n (version n + 1)) m
headless_enter accessors place version n m d o = record {
  no_accessors = upd_other accessors n (accessors n + 1) m d ∙ o.no_accessors;
  no_place = o.no_place;
  no_version = upd_other version n (version n + 1) m d ∙ o.no_version;
}

own_enter : (g : Geometry) (accessors place version mark : ℕ → ℕ) (x : Flight) (n m : ℕ) → m ≢ n → IsOwn g accessors place version mark x m
    → IsOwn g (upd accessors n (accessors n + 1)) place (upd version n (version n + 1)) mark x m
own_enter g accessors place version mark x n m d o = record {
  within = o.within;
  is_marked = o.is_marked;
  no_accessors = upd_other accessors n (accessors n + 1) m d ∙ o.no_accessors;
  no_version = upd_other version n (version n + 1) m d ∙ o.no_version;
  placed = o.placed;
}

-- an attempt on the object is void, since the version is greater than that of the header that it loaded
behind_enter : (first : ℕ) (accessors place version : ℕ → ℕ) (n m : ℕ) → ObjectBehind first accessors place version m
    → ObjectBehind first (upd accessors n (accessors n + 1)) place (upd version n (version n + 1)) m
behind_enter first accessors place version n m o =
    let behind : layout.header_version first ≤ version m = o.behind in
    elim (upd_cases version n (version n + 1) m) [
      | inl (e, u) ↦
          let same : version m ≡ version n = ap version e in
          record { nobody = o.nobody; placed = o.placed; behind = omega arith; same_accessors = λ v. absurd (omega arith) }
      | inr (d, u) ↦
          record { nobody = o.nobody; placed = o.placed; behind = omega arith; same_accessors = λ v. upd_other accessors n (accessors n + 1) m d ∙ o.same_accessors (sym u ∙ v) }
    ]

-- so a header that is the loaded one is that of another number
pub version_before : (loaded : ℕ) (version : ℕ → ℕ) (n m : ℕ) → loaded ≤ version m → upd version n (version n + 1) m ≡ loaded → version m ≡ loaded
version_before loaded version n m behind same =
    elim (upd_cases version n (version n + 1) m) [
      | inl (e, u) ↦ let p : version m ≡ version n = ap version e in absurd (omega arith)
      | inr (d, u) ↦ sym u ∙ same
    ]

-- a cell that was loaded is one of an attempt
loaded_in_attempt : (t : Spot) (ln : Line) (i : ℕ) → l.cell_loaded ln ≡ Some i → l.object_attempt t ln ≡ Some i
unfolding l.cell_loaded l.object_attempt l.loaded_at
loaded_in_attempt t line.Rest i e = absurd (cc)
loaded_in_attempt t (line.Frame s) i e = absurd (cc)
loaded_in_attempt t (line.Register s r stage) i e = absurd (cc)
loaded_in_attempt t (line.FrameTrade s) i e = absurd (cc)
loaded_in_attempt t line.Scan i e = absurd (cc)
loaded_in_attempt t line.Link i e = absurd (cc)
loaded_in_attempt t line.Look i e = absurd (cc)
loaded_in_attempt t (line.Cell j stage.Read) i e = absurd (cc)
loaded_in_attempt t (line.Cell j stage.Claim) i e = e
loaded_in_attempt t (line.Cell j stage.Reserve) i e = e
loaded_in_attempt t (line.Cell j stage.Tie) i e = e
loaded_in_attempt t (line.Cell j stage.Write) i e = e
loaded_in_attempt t (line.Cell j stage.Mark) i e = absurd (cc)
loaded_in_attempt t (line.Cell j stage.Empty) i e = absurd (cc)
loaded_in_attempt t line.ObjectTrade i e = absurd (cc)
loaded_in_attempt t (line.Pass n) i e = absurd (cc)
loaded_in_attempt t (line.PassHead n) i e = absurd (cc)
loaded_in_attempt t (line.Sweep n stage) i e = absurd (cc)
loaded_in_attempt t (line.Clear j) i e = absurd (cc)
loaded_in_attempt t line.Reset i e = absurd (cc)

-- THE FLIGHT

module _ (x : Flight) (q at : ℕ) (t : EntersObject x.call x.place q) where
  enters_from_outside : (m : ℕ) → f.is_inside x m ≡ false
  unfolding f.is_inside f.in_object
  enters_from_outside m = rw t.outside refl

  enters_to_inside : (m : ℕ) → f.is_inside (moved_on x q at) m ≡ nat_eq (object_of x) m
  unfolding f.is_inside f.in_object
  enters_to_inside m = rw t.inside refl

  enters_from_before : f.before_object x ≡ true
  unfolding f.before_object
  enters_from_before = t.before

  enters_past_before : f.before_object (moved_on x q at) ≡ false
  unfolding f.before_object
  enters_past_before = t.after

  enters_same_frame : f.in_frame (moved_on x q at) ≡ f.in_frame x
  unfolding f.in_frame
  enters_same_frame = rw t.same_frame.inside refl

  enters_before_frame : f.before_frame (moved_on x q at) ≡ f.before_frame x
  unfolding f.before_frame
  enters_before_frame = rw t.same_frame.before refl

-- ALL FACTS

module _ (g : Geometry) (w : Words) (z : Spaces) (sh : Shades) (flight : ℕ → Flight) (begun : ℕ → ℕ) (hand : ℕ → Hand) (t : Spot)
    (names : Names) (contents : Contents) (range : ℕ → Option ℕ) (s q : ℕ) where
  pub enter_object_facts : s < tasks g → EntersObject (flight s).call (flight s).place q → KeptMeans g w (held_by g flight) t.line names sh
      → Facts g w z sh flight begun hand t names contents range
      → Facts g (entering_words w (object_of (flight s))) z sh (upd flight s (moved_on (flight s) q (w.place (object_of (flight s))))) begun hand t names contents range
  enter_object_facts below e means h =
      let x = flight s in
      let n = object_of x in
      let y = moved_on x q (w.place n) in
      let good : IsGood sh.kept names x.entered = h.entered_good s below e.through e.goes.flying in
      let counted : fact.AccessorsCounted g (upd w.accessors n (w.accessors n + 1)) (upd flight s y) =
      counted_enter g w.accessors flight s y n below (enters_from_outside x q (w.place n) e) (enters_to_inside x q (w.place n) e) h.accessors_counted in
      let versions : fact.VersionsBounded g (upd w.version n (w.version n + 1)) (upd flight s y) begun =
      versions_enter g w.version flight begun s y n below (enters_from_before x q (w.place n) e) (enters_past_before x q (w.place n) e) h.versions_bounded in
      let frames : fact.FrameAccessorsCounted g w.frame_accessors (upd flight s y) =
      frames_counted_kept g flight s y w.frame_accessors below (enters_same_frame x q (w.place n) e) h.frame_accessors_counted in
      let frame_versions : fact.FrameVersionsBounded g w.frame_version (upd flight s y) begun =
      frame_versions_kept g flight s y w.frame_version begun (enters_before_frame x q (w.place n) e) h.frame_versions_bounded in
      let news : NewsFacts g w sh flight = assumption in
      let own : fact.OwnEntries g (upd w.accessors n (w.accessors n + 1)) w.place (upd w.version n (w.version n + 1)) w.mark w.entry flight =
      λ u b making. own_enter g w.accessors w.place w.version w.mark (flight u) n (fact.own_entry w.entry (flight u))
      (own_not_kept g w sh names t.line flight means news u n b making good.is_kept) (h.own_entries u b making) in
      let between : CallsFacts g (entering_words w n) sh t.line names contents flight = assumption in
      let calls : CallsFacts g (entering_words w n) sh t.line names contents (upd flight s y) =
      calls_upd g (entering_words w n) sh t.line names contents flight s y
      (goes_so x q (w.place n) e.goes g (entering_words w n) sh t.line names contents flight s below refl e.same_claim e.same_item (λ _. refl) between) between in
      let unread : fact.UnreadFree g w.cycle w.objects (upd w.accessors n (w.accessors n + 1)) w.place (upd w.version n (w.version n + 1)) w.mark (w.entry (current_space w.cycle)) = λ j a b.
      let o = h.unread_free j a b in
      record {
        within = o.within;
        is_marked = o.is_marked;
        no_header = headless_enter w.accessors w.place w.version n (w.entry (current_space w.cycle) j)
            (headless_not_kept g w sh names t.line flight means n (w.entry (current_space w.cycle) j) good.is_kept o.no_header.no_place) o.no_header;
      } in
      let written : fact.WrittenEmpty (l.emptied g t t.line) (upd w.accessors n (w.accessors n + 1)) w.place (upd w.version n (w.version n + 1)) (w.entry (next_list w.cycle)) = λ j b.
      let o = h.written_empty j b in
      headless_enter w.accessors w.place w.version n (w.entry (next_list w.cycle) j)
      (headless_not_kept g w sh names t.line flight means n (w.entry (next_list w.cycle) j) good.is_kept o.no_place) o in
      let attempt : fact.ObjectAttemptBehind t t.line t.first t.item (upd w.accessors n (w.accessors n + 1)) w.place (upd w.version n (w.version n + 1)) = λ passed a.
      behind_enter t.first w.accessors w.place w.version n (layout.reference_number t.item) (h.object_attempt_behind passed a) in
      let passed_cells : fact.CellsPassed t t.line w.cycle t.first t.item (upd w.version n (w.version n + 1)) w.mark w.cell = λ passed i a v.
      h.cells_passed passed i a (version_before _ w.version n (layout.reference_number t.item) (h.object_attempt_behind passed a).behind v) in
      let copied_cells : fact.CellsCopied z t t.line t.scan t.first t.item (upd w.version n (w.version n + 1)) w.cell = λ passed i a v.
      h.cells_copied passed i a (version_before _ w.version n (layout.reference_number t.item) (h.object_attempt_behind passed a).behind v) in
      let loaded : fact.CellLoaded t.line t.first t.item t.cell (upd w.version n (w.version n + 1)) w.cell = λ i a v.
      h.cell_loaded i a (version_before _ w.version n (layout.reference_number t.item) (h.object_attempt_behind i (loaded_in_attempt t t.line i a)).behind v) in
      assumption

-- what many facts read of the words is the same after the entering
shades_enter : (g : Geometry) (w : Words) (n : ℕ) (flight : ℕ → Flight) (ln : Line) (names : Names) → shades_of g (entering_words w n) flight ln names ≡ shades_of g w flight ln names
unfolding shades_of
shades_enter g w n flight ln names = refl

-- all facts hold after a call has entered its object
pub enter_object : (g : Geometry) (w : Words) (flight : ℕ → Flight) (begun : ℕ → ℕ) (t : Spot) (names : Names) (contents : Contents) (range : ℕ → Option ℕ) (s q : ℕ)
    → s < tasks g → EntersObject (flight s).call (flight s).place q → FactsOf g w flight begun t names contents range
    → FactsOf g (entering_words w (object_of (flight s))) (upd flight s (moved_on (flight s) q (w.place (object_of (flight s))))) begun t names contents range
enter_object g w flight begun t names contents range s q below e h =
    let x = flight s in
    let n = object_of x in
    let y = moved_on x q (w.place n) in
    let hands : hands_of g (upd flight s y) t ≡ hands_of g flight t = hands_upd g t flight s y (goes_hand x q (w.place n) e.goes g e.same_claim) in
    let shades : shades_of g (entering_words w n) (upd flight s y) t.line names ≡ shades_of g (entering_words w n) flight t.line names =
    shades_upd g (entering_words w n) t.line names flight s y (goes_without_number x q (w.place n) e.goes) ((goes_making_nothing x q (w.place n) e.goes).no_number) in
    rw (hands, shades, shades_enter g w n flight t.line names)
    (enter_object_facts g w (spaces_of g w.cycle) (shades_of g w flight t.line names) flight begun (hands_of g flight t) t names contents range s q below e
    (kept_means g w flight t.line names) h)

-- the calls that enter an object
pub get_enters : (reg field : ℕ) → EntersObject (call.Get reg field) 1 2
unfolding f.is_through f.in_object_at f.before_object_at f.register_stays_at f.is_load_at f.is_new_at f.in_frame_at f.before_frame_at f.has_cycle_inside_at f.has_claimed_at f.reserves_at f.links_at f.has_item_at f.holds_back_at
get_enters reg field = record {
  through = refl;
  outside = refl;
  inside = refl;
  before = refl;
  after = refl;
  goes = record {
    flying = refl;
    in_row = omega arith;
    in_step = λ full raised h. h;
    register_stays = refl;
    is_load = refl;
    will_raise = refl;
    raised_before = refl;
    raised = refl;
    making = refl;
    numbered_before = refl;
    numbered = refl;
  };
  same_frame = record { inside = refl; before = refl };
  same_claim = record { has_cycle_in_frame = λ h. h; has_cycle = λ b h. h; has_claimed = λ h. h; reserves = refl; links = refl };
  same_item = record { has_item = refl; has_loaded = refl; has_loaded_inside = λ h. h; has_written = refl; holds_back = λ r. refl };
}

pub put_enters : (reg field value : ℕ) → EntersObject (call.Put reg field value) 1 2
unfolding f.is_through f.in_object_at f.before_object_at f.register_stays_at f.is_load_at f.is_new_at f.in_frame_at f.before_frame_at f.has_cycle_inside_at f.has_claimed_at f.reserves_at f.links_at f.has_item_at f.holds_back_at
put_enters reg field value = record {
  through = refl;
  outside = refl;
  inside = refl;
  before = refl;
  after = refl;
  goes = record {
    flying = refl;
    in_row = omega arith;
    in_step = λ full raised h. h;
    register_stays = refl;
    is_load = refl;
    will_raise = refl;
    raised_before = refl;
    raised = refl;
    making = refl;
    numbered_before = refl;
    numbered = refl;
  };
  same_frame = record { inside = refl; before = refl };
  same_claim = record { has_cycle_in_frame = λ h. h; has_cycle = λ b h. h; has_claimed = λ h. h; reserves = refl; links = refl };
  same_item = record { has_item = refl; has_loaded = refl; has_loaded_inside = λ h. h; has_written = refl; holds_back = λ r. refl };
}

pub store_enters : (reg field from : ℕ) → EntersObject (call.Store reg field from) 1 2
unfolding f.is_through f.in_object_at f.before_object_at f.register_stays_at f.is_load_at f.is_new_at f.in_frame_at f.before_frame_at f.has_cycle_inside_at f.has_claimed_at f.reserves_at f.links_at f.has_item_at f.holds_back_at
store_enters reg field from = record {
  through = refl;
  outside = refl;
  inside = refl;
  before = refl;
  after = refl;
  goes = record {
    flying = refl;
    in_row = omega arith;
    in_step = λ full raised h. h;
    register_stays = refl;
    is_load = refl;
    will_raise = refl;
    raised_before = refl;
    raised = refl;
    making = refl;
    numbered_before = refl;
    numbered = refl;
  };
  same_frame = record { inside = refl; before = refl };
  same_claim = record { has_cycle_in_frame = λ h. h; has_cycle = λ b h. h; has_claimed = λ h. h; reserves = refl; links = refl };
  same_item = record { has_item = refl; has_loaded = refl; has_loaded_inside = λ h. h; has_written = refl; holds_back = λ r. refl };
}

pub load_enters : (dest reg field : ℕ) → EntersObject (call.Load dest reg field) 2 3
unfolding f.is_through f.in_object_at f.before_object_at f.register_stays_at f.is_load_at f.is_new_at f.in_frame_at f.before_frame_at f.has_cycle_inside_at f.has_claimed_at f.reserves_at f.links_at f.has_item_at f.holds_back_at
load_enters dest reg field = record {
  through = refl;
  outside = refl;
  inside = refl;
  before = refl;
  after = refl;
  goes = record {
    flying = refl;
    in_row = omega arith;
    in_step = λ full raised h. h;
    register_stays = refl;
    is_load = refl;
    will_raise = refl;
    raised_before = refl;
    raised = refl;
    making = refl;
    numbered_before = refl;
    numbered = refl;
  };
  same_frame = record { inside = refl; before = refl };
  same_claim = record { has_cycle_in_frame = λ h. h; has_cycle = λ b h. h; has_claimed = λ h. h; reserves = refl; links = refl };
  same_item = record { has_item = refl; has_loaded = refl; has_loaded_inside = λ h. h; has_written = refl; holds_back = λ r. refl };
}
