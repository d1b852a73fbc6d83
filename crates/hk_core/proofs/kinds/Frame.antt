-- A call enters the frame of its seat: the frame word has one accessor more and a greater version. And it leaves it: the
-- frame word has one accessor less, and the call has ended.
use Rattle.std.proofs.Common.{◌≡◌, ℕ, ◌+◌, ◌-◌, ◌<◌, ◌≤◌, true, false, inl, inr, refl, sym, ◌∙◌, ap, arith, Option, Some}
use Rattle.std.specs.Prelude.{if◌then◌else◌}
use Rattle.hk_words.specs.declared.geometry.Geometry.{Geometry}
use Rattle.hk_words.specs.declared.shape.Shape.{Shape}
use Rattle.hk_words.specs.declared.call.Call.{Call}
use Rattle.hk_words.specs.declared.call.Call.TheVariants as call
use Rattle.hk_words.specs.Geometry.{tasks}
use Rattle.hk_words.specs.Layout as layout
use Rattle.hk_model.specs.View.{upd}
use Rattle.hk_model.proofs.Updates.{upd_same, upd_other}
use Rattle.hk_core.specs.declared.flight.Flight.{Flight}
use Rattle.hk_core.specs.declared.spot.Spot.{Spot}
use Rattle.hk_core.specs.declared.spot.Line.{Line}
use Rattle.hk_core.specs.declared.spot.Line.TheVariants as line
use Rattle.hk_core.specs.declared.spot.Stage.TheVariants as stage
use Rattle.hk_core.specs.State.{idle}
use Rattle.hk_core.specs.Counts.{count_below, sum_below}
use Rattle.hk_core.specs.View.{Words, Names, Contents}
use Rattle.hk_core.specs.Flights as f
use Rattle.hk_core.specs.Flights.{Hand}
use Rattle.hk_core.specs.Lines as l
use Rattle.hk_core.specs.Colours.{Spaces, spaces_of, Shades, shades_of}
use Rattle.hk_core.specs.Facts as fact
use Rattle.hk_core.specs.Facts.{FrameBehind}
use Rattle.hk_core.specs.Lawful.{Facts, FactsOf, hands_of}
use Rattle.hk_core.proofs.Update.{upd_cases}
use Rattle.hk_core.proofs.Counts.{count_less}
use Rattle.hk_core.proofs.kinds.Seats.{CallsFacts, GoesOn, SameObject, SameClaim, SameItem, Ends, moved_on, calls_upd, counted_kept, versions_kept, frame_versions_kept}
use Rattle.hk_core.proofs.kinds.Seats.{hands_upd, shades_upd, goes_making_nothing, goes_without_number, goes_hand, goes_so, goes_in_object, goes_is_inside, goes_before_object, ends_so, ends_hand, ends_without_number, idle_makes_nothing}
use Rattle.hk_core.proofs.kinds.Enter.{version_before}

-- ENTERING

-- the words after a call has entered the frame of a seat
abbrev pub entering_frame_words : Words → ℕ → Words
entering_frame_words w s = record w { frame_accessors = upd w.frame_accessors s (w.frame_accessors s + 1); frame_version = upd w.frame_version s (w.frame_version s + 1) }

-- the tables of a call that enters its frame at its place p, and is inside at q
pub record EntersFrame (call : Call) (p q : ℕ) : Type 0 where
  pub outside : f.in_frame_at call p ≡ false
  pub inside : f.in_frame_at call q ≡ true
  pub before : f.before_frame_at call p ≡ true
  pub after : f.before_frame_at call q ≡ false
  pub goes : GoesOn call p q
  pub same_object : SameObject call p q
  pub same_claim : SameClaim call p q
  pub same_item : SameItem call p q

module _ (x : Flight) (q : ℕ) (t : EntersFrame x.call x.place q) (busy : f.is_resting x ≡ false) where
  frame_from_outside : f.in_frame x ≡ false
  unfolding f.in_frame
  frame_from_outside = rw t.outside refl

  frame_to_inside : f.in_frame (moved_on x q x.at) ≡ true
  unfolding f.in_frame
  frame_to_inside = rw (t.inside, busy) refl

  frame_from_before : f.before_frame x ≡ true
  unfolding f.before_frame
  frame_from_before = rw (t.before, busy) refl

  frame_past_before : f.before_frame (moved_on x q x.at) ≡ false
  unfolding f.before_frame
  frame_past_before = rw t.after refl

-- a seat's call is inside its frame
frames_enter : (g : Geometry) (frame_accessors : ℕ → ℕ) (flight : ℕ → Flight) (s : ℕ) (y : Flight) → s < tasks g → f.in_frame (flight s) ≡ false → f.in_frame y ≡ true
    → fact.FrameAccessorsCounted g frame_accessors flight → fact.FrameAccessorsCounted g (upd frame_accessors s (frame_accessors s + 1)) (upd flight s y)
frames_enter g frame_accessors flight s y below was now h t b =
    elim (upd_cases frame_accessors s (frame_accessors s + 1) t) [
      | inl (e, u) ↦
          let none : frame_accessors s ≡ 0 = h s below ∙ rw was refl in
          let k : upd flight s y t ≡ y = ap (upd flight s y) e ∙ upd_same flight s y in
          rw (u, k, now, none) refl
      | inr (d, u) ↦ u ∙ h t b ∙ ap (λ (x : Flight). if f.in_frame x then 1 else 0) (sym (upd_other flight s y t d))
    ]

frame_versions_enter : (g : Geometry) (frame_version : ℕ → ℕ) (flight : ℕ → Flight) (begun : ℕ → ℕ) (s : ℕ) (y : Flight) → s < tasks g
    → f.before_frame (flight s) ≡ true → f.before_frame y ≡ false
    → fact.FrameVersionsBounded g frame_version flight begun → fact.FrameVersionsBounded g (upd frame_version s (frame_version s + 1)) (upd flight s y) begun
frame_versions_enter g frame_version flight begun s y below was now h t b =
    let before : frame_version t + count_below (tasks g) (λ u. f.before_frame (flight u)) ≤ sum_below (tasks g) begun = h t b in
    let less : count_below (tasks g) (λ u. f.before_frame (upd flight s y u)) + 1 ≡ count_below (tasks g) (λ u. f.before_frame (flight u)) =
    count_less f.before_frame flight s y (tasks g) below was now in
    elim (upd_cases frame_version s (frame_version s + 1) t) [
      | inl (e, u) ↦ let same : frame_version t ≡ frame_version s = ap frame_version e in omega arith
      | inr (d, u) ↦ omega arith
    ]

-- an attempt on the frame is void
behind_enter_frame : (first : ℕ) (accessors cycle version : ℕ → ℕ) (n m : ℕ) → FrameBehind first accessors cycle version m
    → FrameBehind first (upd accessors n (accessors n + 1)) cycle (upd version n (version n + 1)) m
behind_enter_frame first accessors cycle version n m o =
    let behind : layout.frame_version first ≤ version m = o.behind in
    elim (upd_cases version n (version n + 1) m) [
      | inl (e, u) ↦
          let same : version m ≡ version n = ap version e in
          record { nobody = o.nobody; behind = omega arith; same_accessors = λ v. absurd (omega arith); same_cycle = λ v. absurd (omega arith) }
      | inr (d, u) ↦
          record { nobody = o.nobody; behind = omega arith; same_accessors = λ v. upd_other accessors n (accessors n + 1) m d ∙ o.same_accessors (sym u ∙ v); same_cycle = λ v. o.same_cycle (sym u ∙ v) }
    ]

-- a register in work is one of an attempt
pub work_in_attempt : (g : Geometry) (ln : Line) (s r : ℕ) → l.register_in_work ln ≡ Some (s, r) → l.frame_attempt g ln ≡ Some (s, r)
unfolding l.register_in_work l.frame_attempt l.is_in_work
work_in_attempt g line.Rest s r e = absurd (cc)
work_in_attempt g (line.Frame u) s r e = absurd (cc)
work_in_attempt g (line.Register u k stage.Read) s r e = absurd (cc)
work_in_attempt g (line.Register u k stage.Claim) s r e = e
work_in_attempt g (line.Register u k stage.Reserve) s r e = e
work_in_attempt g (line.Register u k stage.Tie) s r e = e
work_in_attempt g (line.Register u k stage.Write) s r e = absurd (cc)
work_in_attempt g (line.Register u k stage.Mark) s r e = absurd (cc)
work_in_attempt g (line.Register u k stage.Empty) s r e = absurd (cc)
work_in_attempt g (line.FrameTrade u) s r e = absurd (cc)
work_in_attempt g line.Scan s r e = absurd (cc)
work_in_attempt g line.Link s r e = absurd (cc)
work_in_attempt g line.Look s r e = absurd (cc)
work_in_attempt g (line.Cell i stage) s r e = absurd (cc)
work_in_attempt g line.ObjectTrade s r e = absurd (cc)
work_in_attempt g (line.Pass n) s r e = absurd (cc)
work_in_attempt g (line.PassHead n) s r e = absurd (cc)
work_in_attempt g (line.Sweep n stage) s r e = absurd (cc)
work_in_attempt g (line.Clear i) s r e = absurd (cc)
work_in_attempt g line.Reset s r e = absurd (cc)

module _ (g : Geometry) (w : Words) (z : Spaces) (sh : Shades) (flight : ℕ → Flight) (begun : ℕ → ℕ) (hand : ℕ → Hand) (t : Spot)
    (names : Names) (contents : Contents) (range : ℕ → Option ℕ) (s q : ℕ) where
  pub enter_frame_facts : s < tasks g → EntersFrame (flight s).call (flight s).place q → f.is_resting (flight s) ≡ false
      → Facts g w z sh flight begun hand t names contents range
      → Facts g (entering_frame_words w s) z sh (upd flight s (moved_on (flight s) q (flight s).at)) begun hand t names contents range
  enter_frame_facts below e busy h =
      let x = flight s in
      let y = moved_on x q x.at in
      let counted : fact.AccessorsCounted g w.accessors (upd flight s y) = counted_kept g flight s y w.accessors (goes_is_inside x q x.at e.goes e.same_object) h.accessors_counted in
      let versions : fact.VersionsBounded g w.version (upd flight s y) begun = versions_kept g flight s y w.version begun (goes_before_object x q x.at e.goes e.same_object) h.versions_bounded in
      let frames : fact.FrameAccessorsCounted g (upd w.frame_accessors s (w.frame_accessors s + 1)) (upd flight s y) =
      frames_enter g w.frame_accessors flight s y below (frame_from_outside x q e busy) (frame_to_inside x q e busy) h.frame_accessors_counted in
      let frame_versions : fact.FrameVersionsBounded g (upd w.frame_version s (w.frame_version s + 1)) (upd flight s y) begun =
      frame_versions_enter g w.frame_version flight begun s y below (frame_from_before x q e busy) (frame_past_before x q e busy) h.frame_versions_bounded in
      let between : CallsFacts g (entering_frame_words w s) sh t.line names contents flight = assumption in
      let calls : CallsFacts g (entering_frame_words w s) sh t.line names contents (upd flight s y) =
      calls_upd g (entering_frame_words w s) sh t.line names contents flight s y
      (goes_so x q x.at e.goes g (entering_frame_words w s) sh t.line names contents flight s below refl e.same_claim e.same_item
      (λ i. h.place_known s below (sym (goes_in_object x q x.at e.goes e.same_object) ∙ i)) between) between in
      let attempt : fact.FrameAttemptBehind g t.line t.first (upd w.frame_accessors s (w.frame_accessors s + 1)) w.frame_cycle (upd w.frame_version s (w.frame_version s + 1)) = λ u passed a.
      behind_enter_frame t.first w.frame_accessors w.frame_cycle w.frame_version s u (h.frame_attempt_behind u passed a) in
      let passed_registers : fact.RegistersPassed g t.line w.cycle t.first (upd w.frame_version s (w.frame_version s + 1)) w.register w.mark = λ u passed r a v.
      h.registers_passed u passed r a (version_before _ w.frame_version s u (h.frame_attempt_behind u passed a).behind v) in
      let work : fact.RegisterInWork t.line t.first t.cell (upd w.frame_version s (w.frame_version s + 1)) w.register = λ u r a v.
      h.register_in_work u r a (version_before _ w.frame_version s u (h.frame_attempt_behind u r (work_in_attempt g t.line u r a)).behind v) in
      assumption

shades_enter_frame : (g : Geometry) (w : Words) (s : ℕ) (flight : ℕ → Flight) (ln : Line) (names : Names) → shades_of g (entering_frame_words w s) flight ln names ≡ shades_of g w flight ln names
unfolding shades_of
shades_enter_frame g w s flight ln names = refl

-- all facts hold after a call has entered its frame
pub enter_frame : (g : Geometry) (w : Words) (flight : ℕ → Flight) (begun : ℕ → ℕ) (t : Spot) (names : Names) (contents : Contents) (range : ℕ → Option ℕ) (s q : ℕ)
    → s < tasks g → EntersFrame (flight s).call (flight s).place q → f.is_resting (flight s) ≡ false → FactsOf g w flight begun t names contents range
    → FactsOf g (entering_frame_words w s) (upd flight s (moved_on (flight s) q (flight s).at)) begun t names contents range
enter_frame g w flight begun t names contents range s q below e busy h =
    let x = flight s in
    let y = moved_on x q x.at in
    let hands : hands_of g (upd flight s y) t ≡ hands_of g flight t = hands_upd g t flight s y (goes_hand x q x.at e.goes g e.same_claim) in
    let shades : shades_of g (entering_frame_words w s) (upd flight s y) t.line names ≡ shades_of g (entering_frame_words w s) flight t.line names =
    shades_upd g (entering_frame_words w s) t.line names flight s y (goes_without_number x q x.at e.goes) ((goes_making_nothing x q x.at e.goes).no_number) in
    rw (hands, shades, shades_enter_frame g w s flight t.line names)
    (enter_frame_facts g w (spaces_of g w.cycle) (shades_of g w flight t.line names) flight begun (hands_of g flight t) t names contents range s q below e busy h)

-- LEAVING

-- the words after a call has left the frame of a seat
abbrev pub leaving_frame_words : Words → ℕ → Words
leaving_frame_words w s = record w { frame_accessors = upd w.frame_accessors s (w.frame_accessors s - 1) }

-- the tables of a call that leaves its frame at its last place
pub record EndsInFrame (call : Call) (p : ℕ) : Type 0 where
  pub inside : f.in_frame_at call p ≡ true
  pub no_object : f.in_object_at call p ≡ false
  pub ends : Ends call p

module _ (x : Flight) (t : EndsInFrame x.call x.place) where
  ends_from_inside : f.is_resting x ≡ false → f.in_frame x ≡ true
  unfolding f.in_frame
  ends_from_inside busy = rw (t.inside, busy) refl

  ends_outside : f.in_frame (idle x.seat) ≡ false
  unfolding f.in_frame f.in_frame_at idle
  ends_outside = refl

  ends_in_no_object : (m : ℕ) → f.is_inside (idle x.seat) m ≡ f.is_inside x m
  unfolding f.is_inside f.in_object f.in_object_at idle
  ends_in_no_object m = rw t.no_object refl

  ends_before_object : f.before_object (idle x.seat) ≡ f.before_object x
  unfolding f.before_object f.before_object_at idle
  ends_before_object = sym t.ends.before_object

  ends_before_frame : f.before_frame (idle x.seat) ≡ f.before_frame x
  unfolding f.before_frame f.before_frame_at idle
  ends_before_frame = rw t.ends.before_frame refl

-- a seat's call is outside its frame
frames_leave : (g : Geometry) (frame_accessors : ℕ → ℕ) (flight : ℕ → Flight) (s : ℕ) (y : Flight) → s < tasks g → f.in_frame (flight s) ≡ true → f.in_frame y ≡ false
    → fact.FrameAccessorsCounted g frame_accessors flight → fact.FrameAccessorsCounted g (upd frame_accessors s (frame_accessors s - 1)) (upd flight s y)
frames_leave g frame_accessors flight s y below was now h t b =
    elim (upd_cases frame_accessors s (frame_accessors s - 1) t) [
      | inl (e, u) ↦
          let one : frame_accessors s ≡ 1 = h s below ∙ rw was refl in
          let k : upd flight s y t ≡ y = ap (upd flight s y) e ∙ upd_same flight s y in
          rw (u, k, now, one) refl
      | inr (d, u) ↦ u ∙ h t b ∙ ap (λ (x : Flight). if f.in_frame x then 1 else 0) (sym (upd_other flight s y t d))
    ]

behind_leave_frame : (first : ℕ) (accessors cycle version : ℕ → ℕ) (n m : ℕ) → FrameBehind first accessors cycle version m
    → FrameBehind first (upd accessors n (accessors n - 1)) cycle version m
behind_leave_frame first accessors cycle version n m o = record {
  nobody = o.nobody;
  behind = o.behind;
  same_accessors = λ v.
      let none : accessors m ≡ 0 = o.same_accessors v in
      elim (upd_cases accessors n (accessors n - 1) m) [
        | inl (e, u) ↦ let same : accessors m ≡ accessors n = ap accessors e in omega arith
        | inr (d, u) ↦ u ∙ none
      ];
  same_cycle = o.same_cycle;
}

module _ (g : Geometry) (w : Words) (z : Spaces) (sh : Shades) (flight : ℕ → Flight) (begun : ℕ → ℕ) (hand : ℕ → Hand) (t : Spot)
    (names : Names) (contents : Contents) (range : ℕ → Option ℕ) (s : ℕ) where
  pub leave_frame_facts : s < tasks g → EndsInFrame (flight s).call (flight s).place → f.is_resting (flight s) ≡ false
      → Facts g w z sh flight begun hand t names contents range
      → Facts g (leaving_frame_words w s) z sh (upd flight s (idle (flight s).seat)) begun hand t names contents range
  leave_frame_facts below e busy h =
      let x = flight s in
      let y = idle x.seat in
      let counted : fact.AccessorsCounted g w.accessors (upd flight s y) = counted_kept g flight s y w.accessors (ends_in_no_object x e) h.accessors_counted in
      let versions : fact.VersionsBounded g w.version (upd flight s y) begun = versions_kept g flight s y w.version begun (ends_before_object x e) h.versions_bounded in
      let frames : fact.FrameAccessorsCounted g (upd w.frame_accessors s (w.frame_accessors s - 1)) (upd flight s y) =
      frames_leave g w.frame_accessors flight s y below (ends_from_inside x e busy) (ends_outside x e) h.frame_accessors_counted in
      let frame_versions : fact.FrameVersionsBounded g w.frame_version (upd flight s y) begun = frame_versions_kept g flight s y w.frame_version begun (ends_before_frame x e) h.frame_versions_bounded in
      let between : CallsFacts g (leaving_frame_words w s) sh t.line names contents flight = assumption in
      let calls : CallsFacts g (leaving_frame_words w s) sh t.line names contents (upd flight s y) =
      calls_upd g (leaving_frame_words w s) sh t.line names contents flight s y
      (ends_so x e.ends g (leaving_frame_words w s) sh t.line names contents flight s below refl between) between in
      let attempt : fact.FrameAttemptBehind g t.line t.first (upd w.frame_accessors s (w.frame_accessors s - 1)) w.frame_cycle w.frame_version = λ u passed a.
      behind_leave_frame t.first w.frame_accessors w.frame_cycle w.frame_version s u (h.frame_attempt_behind u passed a) in
      assumption

shades_leave_frame : (g : Geometry) (w : Words) (s : ℕ) (flight : ℕ → Flight) (ln : Line) (names : Names) → shades_of g (leaving_frame_words w s) flight ln names ≡ shades_of g w flight ln names
unfolding shades_of
shades_leave_frame g w s flight ln names = refl

-- all facts hold after a call has left its frame and has ended
pub leave_frame : (g : Geometry) (w : Words) (flight : ℕ → Flight) (begun : ℕ → ℕ) (t : Spot) (names : Names) (contents : Contents) (range : ℕ → Option ℕ) (s : ℕ)
    → s < tasks g → EndsInFrame (flight s).call (flight s).place → f.is_resting (flight s) ≡ false → FactsOf g w flight begun t names contents range
    → FactsOf g (leaving_frame_words w s) (upd flight s (idle (flight s).seat)) begun t names contents range
leave_frame g w flight begun t names contents range s below e busy h =
    let x = flight s in
    let y = idle x.seat in
    let hands : hands_of g (upd flight s y) t ≡ hands_of g flight t = hands_upd g t flight s y (ends_hand x e.ends g) in
    let shades : shades_of g (leaving_frame_words w s) (upd flight s y) t.line names ≡ shades_of g (leaving_frame_words w s) flight t.line names =
    shades_upd g (leaving_frame_words w s) t.line names flight s y (ends_without_number x e.ends) ((idle_makes_nothing x.seat).no_number) in
    rw (hands, shades, shades_leave_frame g w s flight t.line names)
    (leave_frame_facts g w (spaces_of g w.cycle) (shades_of g w flight t.line names) flight begun (hands_of g flight t) t names contents range s below e busy h)

-- THE CALLS

pub move_enters : (dest from : ℕ) → EntersFrame (call.Move dest from) 1 2
unfolding f.in_object_at f.before_object_at f.register_stays_at f.is_load_at f.is_new_at f.in_frame_at f.before_frame_at f.has_cycle_inside_at f.has_claimed_at f.reserves_at f.links_at f.has_item_at f.holds_back_at
move_enters dest from = record {
  outside = refl;
  inside = refl;
  before = refl;
  after = refl;
  goes = record {
    flying = refl;
    in_row = omega arith;
    in_step = λ full raised h. h;
    register_stays = refl;
    is_load = refl;
    will_raise = refl;
    raised_before = refl;
    raised = refl;
    making = refl;
    numbered_before = refl;
    numbered = refl;
  };
  same_object = record { inside = refl; before = refl };
  same_claim = record { has_cycle_in_frame = λ h. h; has_cycle = λ b h. h; has_claimed = λ h. h; reserves = refl; links = refl };
  same_item = record { has_item = refl; has_loaded = refl; has_loaded_inside = λ h. h; has_written = refl; holds_back = λ r. refl };
}

pub load_enters_frame : (dest reg field : ℕ) → EntersFrame (call.Load dest reg field) 1 2
unfolding f.in_object_at f.before_object_at f.register_stays_at f.is_load_at f.is_new_at f.in_frame_at f.before_frame_at f.has_cycle_inside_at f.has_claimed_at f.reserves_at f.links_at f.has_item_at f.holds_back_at
load_enters_frame dest reg field = record {
  outside = refl;
  inside = refl;
  before = refl;
  after = refl;
  goes = record {
    flying = refl;
    in_row = omega arith;
    in_step = λ full raised h. h;
    register_stays = refl;
    is_load = refl;
    will_raise = refl;
    raised_before = refl;
    raised = refl;
    making = refl;
    numbered_before = refl;
    numbered = refl;
  };
  same_object = record { inside = refl; before = refl };
  same_claim = record { has_cycle_in_frame = λ h. h; has_cycle = λ b h. h; has_claimed = λ h. h; reserves = refl; links = refl };
  same_item = record { has_item = refl; has_loaded = refl; has_loaded_inside = λ h. h; has_written = refl; holds_back = λ r. refl };
}

-- a New enters it at its second place, unless it found too few words
pub new_enters_frame : (dest : ℕ) (shape : Shape) → EntersFrame (call.New dest shape) 2 3
unfolding f.in_object_at f.before_object_at f.register_stays_at f.is_load_at f.is_new_at f.in_frame_at f.before_frame_at f.has_cycle_inside_at f.has_claimed_at f.reserves_at f.links_at f.has_item_at f.holds_back_at
new_enters_frame dest shape = record {
  outside = refl;
  inside = refl;
  before = refl;
  after = refl;
  goes = record {
    flying = refl;
    in_row = omega arith;
    in_step = λ full raised h. record { not_full_yet = λ b. absurd (omega arith); not_raised_yet = λ b. h.not_raised_yet (omega arith); raised_by_then = λ b. absurd (omega arith) };
    register_stays = refl;
    is_load = refl;
    will_raise = refl;
    raised_before = refl;
    raised = refl;
    making = refl;
    numbered_before = refl;
    numbered = refl;
  };
  same_object = record { inside = refl; before = refl };
  same_claim = record { has_cycle_in_frame = λ h. h; has_cycle = λ b h. h; has_claimed = λ h. h; reserves = refl; links = refl };
  same_item = record { has_item = refl; has_loaded = refl; has_loaded_inside = λ h. h; has_written = refl; holds_back = λ r. refl };
}

pub move_leaves : (dest from : ℕ) → EndsInFrame (call.Move dest from) 3
unfolding f.in_object_at f.in_frame_at f.before_object_at f.before_frame_at f.reserves_at f.links_at f.holds_back_at f.is_new_at
move_leaves dest from = record {
  inside = refl;
  no_object = refl;
  ends = record { before_object = refl; before_frame = refl; reserves = refl; links = refl; holds_back = λ r. refl; will_raise = refl; numbered = refl };
}

pub load_leaves_frame : (dest reg field : ℕ) → EndsInFrame (call.Load dest reg field) 10
unfolding f.in_object_at f.in_frame_at f.before_object_at f.before_frame_at f.reserves_at f.links_at f.holds_back_at f.is_new_at
load_leaves_frame dest reg field = record {
  inside = refl;
  no_object = refl;
  ends = record { before_object = refl; before_frame = refl; reserves = refl; links = refl; holds_back = λ r. refl; will_raise = refl; numbered = refl };
}

pub new_leaves_frame : (dest : ℕ) (shape : Shape) → EndsInFrame (call.New dest shape) 7
unfolding f.in_object_at f.in_frame_at f.before_object_at f.before_frame_at f.reserves_at f.links_at f.holds_back_at f.is_new_at
new_leaves_frame dest shape = record {
  inside = refl;
  no_object = refl;
  ends = record { before_object = refl; before_frame = refl; reserves = refl; links = refl; holds_back = λ r. refl; will_raise = refl; numbered = refl };
}
