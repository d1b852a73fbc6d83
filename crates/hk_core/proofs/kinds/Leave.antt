-- A call leaves its object: the header has one accessor less.
use Rattle.std.proofs.Common.{◌≡◌, ◌≢◌, ℕ, ◌+◌, ◌-◌, ◌<◌, true, false, inl, inr, refl, sym, ◌∙◌, ap, arith, Option}
use Rattle.std.proofs.lemmas.Bool.{both_ways, eq-eqb, ne_eqb}
use Rattle.std.specs.Prelude.{nat_eq, nat_le}
use Rattle.hk_words.specs.declared.geometry.Geometry.{Geometry}
use Rattle.hk_words.specs.declared.call.Call.{Call}
use Rattle.hk_words.specs.declared.call.Call.TheVariants as call
use Rattle.hk_words.specs.Geometry.{tasks}
use Rattle.hk_words.specs.Layout as layout
use Rattle.hk_model.specs.View.{upd}
use Rattle.hk_model.proofs.Updates.{upd_other}
use Rattle.hk_core.specs.declared.flight.Flight.{Flight}
use Rattle.hk_core.specs.declared.spot.Spot.{Spot}
use Rattle.hk_core.specs.declared.spot.Line.{Line}
use Rattle.hk_core.specs.State.{idle}
use Rattle.hk_core.specs.Collect.{current_space, next_list}
use Rattle.hk_core.specs.Counts.{count_below}
use Rattle.hk_core.specs.View.{Words, Names, Contents}
use Rattle.hk_core.specs.Flights as f
use Rattle.hk_core.specs.Flights.{Hand}
use Rattle.hk_core.specs.Lines as l
use Rattle.hk_core.specs.Colours.{Spaces, spaces_of, Shades, shades_of, held_by, IsGood}
use Rattle.hk_core.specs.Facts as fact
use Rattle.hk_core.specs.Facts.{HasNoHeader, IsOwn, ObjectBehind}
use Rattle.hk_core.specs.Lawful.{Facts, FactsOf, hands_of}
use Rattle.hk_core.proofs.Update.{upd_cases}
use Rattle.hk_core.proofs.Counts.{count_less, count_kept}
use Rattle.hk_core.proofs.kinds.Seats.{NewsFacts, CallsFacts, Changes, KeptMeans, GoesOn, SameFrame, SameClaim, SameItem, Ends, moved_on, calls_upd, versions_kept, frames_counted_kept, frame_versions_kept}
use Rattle.hk_core.proofs.kinds.Seats.{hands_upd, shades_upd, kept_means, own_not_kept, headless_not_kept, goes_making_nothing, goes_without_number, goes_hand, goes_so, ends_so, ends_hand, ends_without_number, idle_makes_nothing}
use Rattle.hk_core.proofs.kinds.Enter.{object_of}

-- the words after a call has left the object of a number
abbrev pub leaving_words : Words → ℕ → Words
leaving_words w n = record w { accessors = upd w.accessors n (w.accessors n - 1) }

-- one call less is inside the object of a number
pub counted_leave : (g : Geometry) (accessors : ℕ → ℕ) (flight : ℕ → Flight) (s : ℕ) (y : Flight) (n : ℕ) → s < tasks g
    → ((m : ℕ) → f.is_inside (flight s) m ≡ nat_eq n m) → ((m : ℕ) → f.is_inside y m ≡ false)
    → fact.AccessorsCounted g accessors flight → fact.AccessorsCounted g (upd accessors n (accessors n - 1)) (upd flight s y)
counted_leave g accessors flight s y n below was now h m fits =
    let before : accessors m ≡ count_below (tasks g) (λ t. f.is_inside (flight t) m) = h m fits in
    elim (upd_cases accessors n (accessors n - 1) m) [
      | inl (e, u) ↦
          let less : count_below (tasks g) (λ t. f.is_inside (upd flight s y t) m) + 1 ≡ count_below (tasks g) (λ t. f.is_inside (flight t) m) =
          count_less (λ x. f.is_inside x m) flight s y (tasks g) below (was m ∙ eq-eqb n m (sym e)) (now m) in
          let same : accessors m ≡ accessors n = ap accessors e in
          omega arith
      | inr (d, u) ↦
          let as_many : count_below (tasks g) (λ t. f.is_inside (upd flight s y t) m) ≡ count_below (tasks g) (λ t. f.is_inside (flight t) m) =
          count_kept (λ x. f.is_inside x m) flight s y (tasks g) (now m ∙ sym (was m ∙ ne_eqb n m (λ e. d (sym e)))) in
          omega arith
    ]

headless_leave : (accessors place version : ℕ → ℕ) (n m : ℕ) → m ≢ n → HasNoHeader accessors place version m → HasNoHeader (upd accessors n (accessors n - 1)) place version m
headless_leave accessors place version n m d o = record {
  no_accessors = upd_other accessors n (accessors n - 1) m d ∙ o.no_accessors;
  no_place = o.no_place;
  no_version = o.no_version;
}

own_leave : (g : Geometry) (accessors place version mark : ℕ → ℕ) (x : Flight) (n m : ℕ) → m ≢ n → IsOwn g accessors place version mark x m
    → IsOwn g (upd accessors n (accessors n - 1)) place version mark x m
own_leave g accessors place version mark x n m d o = record {
  within = o.within;
  is_marked = o.is_marked;
  no_accessors = upd_other accessors n (accessors n - 1) m d ∙ o.no_accessors;
  no_version = o.no_version;
  placed = o.placed;
}

behind_leave : (first : ℕ) (accessors place version : ℕ → ℕ) (n m : ℕ) → ObjectBehind first accessors place version m
    → ObjectBehind first (upd accessors n (accessors n - 1)) place version m
behind_leave first accessors place version n m o = record {
  nobody = o.nobody;
  placed = o.placed;
  behind = o.behind;
  same_accessors = λ v.
      let none : accessors m ≡ 0 = o.same_accessors v in
      elim (upd_cases accessors n (accessors n - 1) m) [
        | inl (e, u) ↦ let same : accessors m ≡ accessors n = ap accessors e in omega arith
        | inr (d, u) ↦ u ∙ none
      ];
}

module _ (g : Geometry) (w : Words) (z : Spaces) (sh : Shades) (flight : ℕ → Flight) (begun : ℕ → ℕ) (hand : ℕ → Hand) (t : Spot)
    (names : Names) (contents : Contents) (range : ℕ → Option ℕ) (s : ℕ) (y : Flight) where
  -- what a flight shows that leaves the object
  pub record LeavesObject : Type 0 where
    pub through : f.is_through (flight s).call ≡ true
    pub flying : f.is_flying (flight s) ≡ true
    pub was_inside : (m : ℕ) → f.is_inside (flight s) m ≡ nat_eq (object_of (flight s)) m
    pub now_outside : (m : ℕ) → f.is_inside y m ≡ false
    pub before_object : f.before_object y ≡ f.before_object (flight s)
    pub in_frame : f.in_frame y ≡ f.in_frame (flight s)
    pub before_frame : f.before_frame y ≡ f.before_frame (flight s)

  pub leave_object_facts : s < tasks g → LeavesObject → KeptMeans g w (held_by g flight) t.line names sh
      → (CallsFacts g (leaving_words w (object_of (flight s))) sh t.line names contents flight → Changes g (leaving_words w (object_of (flight s))) sh names contents flight s y)
      → Facts g w z sh flight begun hand t names contents range
      → Facts g (leaving_words w (object_of (flight s))) z sh (upd flight s y) begun hand t names contents range
  leave_object_facts below e means change h =
      let n = object_of (flight s) in
      let good : IsGood sh.kept names (flight s).entered = h.entered_good s below e.through e.flying in
      let counted : fact.AccessorsCounted g (upd w.accessors n (w.accessors n - 1)) (upd flight s y) =
      counted_leave g w.accessors flight s y n below e.was_inside e.now_outside h.accessors_counted in
      let versions : fact.VersionsBounded g w.version (upd flight s y) begun = versions_kept g flight s y w.version begun e.before_object h.versions_bounded in
      let frames : fact.FrameAccessorsCounted g w.frame_accessors (upd flight s y) = frames_counted_kept g flight s y w.frame_accessors below e.in_frame h.frame_accessors_counted in
      let frame_versions : fact.FrameVersionsBounded g w.frame_version (upd flight s y) begun = frame_versions_kept g flight s y w.frame_version begun e.before_frame h.frame_versions_bounded in
      let news : NewsFacts g w sh flight = assumption in
      let own : fact.OwnEntries g (upd w.accessors n (w.accessors n - 1)) w.place w.version w.mark w.entry flight =
      λ u b making. own_leave g w.accessors w.place w.version w.mark (flight u) n (fact.own_entry w.entry (flight u))
      (own_not_kept g w sh names t.line flight means news u n b making good.is_kept) (h.own_entries u b making) in
      let between : CallsFacts g (leaving_words w n) sh t.line names contents flight = assumption in
      let calls : CallsFacts g (leaving_words w n) sh t.line names contents (upd flight s y) =
      calls_upd g (leaving_words w n) sh t.line names contents flight s y (change between) between in
      let unread : fact.UnreadFree g w.cycle w.objects (upd w.accessors n (w.accessors n - 1)) w.place w.version w.mark (w.entry (current_space w.cycle)) = λ j a b.
      let o = h.unread_free j a b in
      record {
        within = o.within;
        is_marked = o.is_marked;
        no_header = headless_leave w.accessors w.place w.version n (w.entry (current_space w.cycle) j)
            (headless_not_kept g w sh names t.line flight means n (w.entry (current_space w.cycle) j) good.is_kept o.no_header.no_place) o.no_header;
      } in
      let written : fact.WrittenEmpty (l.emptied g t t.line) (upd w.accessors n (w.accessors n - 1)) w.place w.version (w.entry (next_list w.cycle)) = λ j b.
      let o = h.written_empty j b in
      headless_leave w.accessors w.place w.version n (w.entry (next_list w.cycle) j)
      (headless_not_kept g w sh names t.line flight means n (w.entry (next_list w.cycle) j) good.is_kept o.no_place) o in
      let attempt : fact.ObjectAttemptBehind t t.line t.first t.item (upd w.accessors n (w.accessors n - 1)) w.place w.version = λ passed a.
      behind_leave t.first w.accessors w.place w.version n (layout.reference_number t.item) (h.object_attempt_behind passed a) in
      assumption

-- what many facts read of the words is the same after the leaving
shades_leave : (g : Geometry) (w : Words) (n : ℕ) (flight : ℕ → Flight) (ln : Line) (names : Names) → shades_of g (leaving_words w n) flight ln names ≡ shades_of g w flight ln names
unfolding shades_of
shades_leave g w n flight ln names = refl

-- A CALL THAT ENDS AS IT LEAVES THE OBJECT

-- the tables of a call that leaves its object at its last place
pub record EndsInObject (call : Call) (p : ℕ) : Type 0 where
  pub through : f.is_through call ≡ true
  pub flying : nat_le 1 p ≡ true
  pub inside : f.in_object_at call p ≡ true
  pub no_frame : f.in_frame_at call p ≡ false
  pub ends : Ends call p

ends_in_object : (flight : ℕ → Flight) (s : ℕ) (g : Geometry) (w : Words) (z : Spaces) (sh : Shades) (begun : ℕ → ℕ) (hand : ℕ → Hand) (t : Spot) (names : Names) (contents : Contents) (range : ℕ → Option ℕ)
    → EndsInObject (flight s).call (flight s).place
    → LeavesObject g w z sh flight begun hand t names contents range s (idle (flight s).seat)
unfolding f.is_inside f.in_object f.in_object_at f.before_object f.before_object_at f.in_frame f.in_frame_at f.before_frame f.before_frame_at idle
ends_in_object flight s g w z sh begun hand t names contents range e = record {
  through = e.through;
  flying = e.flying;
  was_inside = λ m. rw e.inside refl;
  now_outside = λ m. refl;
  before_object = sym e.ends.before_object;
  in_frame = rw e.no_frame refl;
  before_frame = rw e.ends.before_frame refl;
}

-- all facts hold after a call has left its object and has ended
pub leave_object_last : (g : Geometry) (w : Words) (flight : ℕ → Flight) (begun : ℕ → ℕ) (t : Spot) (names : Names) (contents : Contents) (range : ℕ → Option ℕ) (s : ℕ)
    → s < tasks g → EndsInObject (flight s).call (flight s).place → FactsOf g w flight begun t names contents range
    → FactsOf g (leaving_words w (object_of (flight s))) (upd flight s (idle (flight s).seat)) begun t names contents range
leave_object_last g w flight begun t names contents range s below e h =
    let x = flight s in
    let n = object_of x in
    let y = idle x.seat in
    let z = spaces_of g w.cycle in
    let sh = shades_of g w flight t.line names in
    let hands : hands_of g (upd flight s y) t ≡ hands_of g flight t = hands_upd g t flight s y (ends_hand x e.ends g) in
    let shades : shades_of g (leaving_words w n) (upd flight s y) t.line names ≡ shades_of g (leaving_words w n) flight t.line names =
    shades_upd g (leaving_words w n) t.line names flight s y (ends_without_number x e.ends) ((idle_makes_nothing x.seat).no_number) in
    rw (hands, shades, shades_leave g w n flight t.line names)
    (leave_object_facts g w z sh flight begun (hands_of g flight t) t names contents range s y below
    (ends_in_object flight s g w z sh begun (hands_of g flight t) t names contents range e)
    (kept_means g w flight t.line names)
    (λ b. ends_so x e.ends g (leaving_words w n) sh t.line names contents flight s below refl b) h)

-- A LOAD, WHICH GOES ON

-- the tables of a call that leaves its object and goes on
pub record LeavesAndGoesOn (call : Call) (p q : ℕ) : Type 0 where
  pub through : f.is_through call ≡ true
  pub inside : f.in_object_at call p ≡ true
  pub outside : f.in_object_at call q ≡ false
  pub before : f.before_object_at call q ≡ f.before_object_at call p
  pub goes : GoesOn call p q
  pub same_frame : SameFrame call p q
  pub same_claim : SameClaim call p q
  pub same_item : SameItem call p q

leaves_and_goes_on : (flight : ℕ → Flight) (s q at : ℕ) (g : Geometry) (w : Words) (z : Spaces) (sh : Shades) (begun : ℕ → ℕ) (hand : ℕ → Hand) (t : Spot) (names : Names) (contents : Contents) (range : ℕ → Option ℕ)
    → LeavesAndGoesOn (flight s).call (flight s).place q
    → LeavesObject g w z sh flight begun hand t names contents range s (moved_on (flight s) q at)
unfolding f.is_inside f.in_object f.before_object f.in_frame f.before_frame
leaves_and_goes_on flight s q at g w z sh begun hand t names contents range e = record {
  through = e.through;
  flying = e.goes.flying;
  was_inside = λ m. rw e.inside refl;
  now_outside = λ m. rw e.outside refl;
  before_object = e.before;
  in_frame = rw e.same_frame.inside refl;
  before_frame = rw e.same_frame.before refl;
}

outside_knows_nothing : (x : Flight) (q at : ℕ) {A : Type 0} → f.in_object_at x.call q ≡ false → f.in_object (moved_on x q at) ≡ true → A
unfolding f.in_object
outside_knows_nothing x q at out e = absurd (both_ways (f.in_object_at x.call q) out e)

-- all facts hold after a call has left its object and goes on
pub leave_object : (g : Geometry) (w : Words) (flight : ℕ → Flight) (begun : ℕ → ℕ) (t : Spot) (names : Names) (contents : Contents) (range : ℕ → Option ℕ) (s q : ℕ)
    → s < tasks g → LeavesAndGoesOn (flight s).call (flight s).place q → FactsOf g w flight begun t names contents range
    → FactsOf g (leaving_words w (object_of (flight s))) (upd flight s (moved_on (flight s) q (flight s).at)) begun t names contents range
leave_object g w flight begun t names contents range s q below e h =
    let x = flight s in
    let n = object_of x in
    let y = moved_on x q x.at in
    let z = spaces_of g w.cycle in
    let sh = shades_of g w flight t.line names in
    let hands : hands_of g (upd flight s y) t ≡ hands_of g flight t = hands_upd g t flight s y (goes_hand x q x.at e.goes g e.same_claim) in
    let shades : shades_of g (leaving_words w n) (upd flight s y) t.line names ≡ shades_of g (leaving_words w n) flight t.line names =
    shades_upd g (leaving_words w n) t.line names flight s y (goes_without_number x q x.at e.goes) ((goes_making_nothing x q x.at e.goes).no_number) in
    rw (hands, shades, shades_leave g w n flight t.line names)
    (leave_object_facts g w z sh flight begun (hands_of g flight t) t names contents range s y below
    (leaves_and_goes_on flight s q x.at g w z sh begun (hands_of g flight t) t names contents range e)
    (kept_means g w flight t.line names)
    (λ b. goes_so x q x.at e.goes g (leaving_words w n) sh t.line names contents flight s below refl e.same_claim e.same_item
    (outside_knows_nothing x q x.at e.outside) b) h)

-- the calls that leave an object
pub get_leaves : (reg field : ℕ) → EndsInObject (call.Get reg field) 3
unfolding f.is_through f.in_object_at f.in_frame_at f.before_object_at f.before_frame_at f.reserves_at f.links_at f.holds_back_at f.is_new_at
get_leaves reg field = record {
  through = refl;
  flying = refl;
  inside = refl;
  no_frame = refl;
  ends = record { before_object = refl; before_frame = refl; reserves = refl; links = refl; holds_back = λ r. refl; will_raise = refl; numbered = refl };
}

pub put_leaves : (reg field value : ℕ) → EndsInObject (call.Put reg field value) 3
unfolding f.is_through f.in_object_at f.in_frame_at f.before_object_at f.before_frame_at f.reserves_at f.links_at f.holds_back_at f.is_new_at
put_leaves reg field value = record {
  through = refl;
  flying = refl;
  inside = refl;
  no_frame = refl;
  ends = record { before_object = refl; before_frame = refl; reserves = refl; links = refl; holds_back = λ r. refl; will_raise = refl; numbered = refl };
}

pub store_leaves : (reg field from : ℕ) → EndsInObject (call.Store reg field from) 7
unfolding f.is_through f.in_object_at f.in_frame_at f.before_object_at f.before_frame_at f.reserves_at f.links_at f.holds_back_at f.is_new_at
store_leaves reg field from = record {
  through = refl;
  flying = refl;
  inside = refl;
  no_frame = refl;
  ends = record { before_object = refl; before_frame = refl; reserves = refl; links = refl; holds_back = λ r. refl; will_raise = refl; numbered = refl };
}

pub load_leaves : (dest reg field : ℕ) → LeavesAndGoesOn (call.Load dest reg field) 9 10
unfolding f.is_through f.in_object_at f.before_object_at f.register_stays_at f.is_load_at f.is_new_at f.in_frame_at f.before_frame_at f.has_cycle_inside_at f.has_claimed_at f.reserves_at f.links_at f.has_item_at f.holds_back_at
load_leaves dest reg field = record {
  through = refl;
  inside = refl;
  outside = refl;
  before = refl;
  goes = record {
    flying = refl;
    in_row = omega arith;
    in_step = λ full raised h. h;
    register_stays = refl;
    is_load = refl;
    will_raise = refl;
    raised_before = refl;
    raised = refl;
    making = refl;
    numbered_before = refl;
    numbered = refl;
  };
  same_frame = record { inside = refl; before = refl };
  same_claim = record { has_cycle_in_frame = λ h. h; has_cycle = λ b h. absurd (cc); has_claimed = λ h. absurd (cc); reserves = refl; links = refl };
  same_item = record { has_item = refl; has_loaded = refl; has_loaded_inside = λ h. absurd (cc); has_written = refl; holds_back = λ r. refl };
}
