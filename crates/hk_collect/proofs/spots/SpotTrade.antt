-- The collector exchanges the frame word that its attempt has loaded for the same word with this cycle. Where the frame word
-- is still that one, no call was inside the frame since, so the registers are what the collector has gone past: null, or
-- claimed in this cycle. So the frame may be black.
use Rattle.std.proofs.Common.{◌≡◌, ◌⊎◌, ℕ, ◌+◌, ◌<◌, ◌≤◌, Bool, true, false, inl, inr, refl, sym, ◌∙◌, ap, arith, Option, Some, None}
use Rattle.std.proofs.lemmas.Bool.{both_ways, cases_eq, and_parts, and_from, or_cases, eq-eqb, ltb-true}
use Rattle.std.proofs.lemmas.Bool.Decides.{nat_tests}
use Rattle.std.specs.Prelude.{nat_eq, nat_lt, nat_le, not, ◌&&◌, ◌||◌, if◌then◌else◌}
use Rattle.hk_words.specs.declared.geometry.Geometry.{Geometry}
use Rattle.hk_words.specs.declared.call.Call.{Call}
use Rattle.hk_words.specs.declared.call.Call.TheVariants as call
use Rattle.hk_words.specs.Calls.{entered, RegistersFit}
use Rattle.hk_words.specs.Geometry.{tasks}
use Rattle.hk_words.specs.Layout as layout
use Rattle.hk_model.specs.View.{upd}
use Rattle.hk_model.proofs.Updates.{upd_same, upd_other, is_upd}
use Rattle.hk_core.specs.declared.flight.Flight.{Flight}
use Rattle.hk_core.specs.declared.spot.Spot.{Spot}
use Rattle.hk_core.specs.declared.spot.Line.{Line}
use Rattle.hk_core.specs.declared.spot.Line.TheVariants as line
use Rattle.hk_core.specs.Collect.{after_frame}
use Rattle.hk_core.specs.View.{Words, Names, Contents}
use Rattle.hk_core.specs.Flights as f
use Rattle.hk_core.specs.Flights.{Hand}
use Rattle.hk_core.specs.Lines as l
use Rattle.hk_core.specs.Colours.{Spaces, spaces_of, Shades, shades_of, black_frame_by, NamesNoWhite, IsNullOrMarked}
use Rattle.hk_core.specs.Facts as fact
use Rattle.hk_core.specs.Lawful.{Facts, FactsOf, hands_of}
use Rattle.hk_core.proofs.Update.{upd_cases}
use Rattle.hk_core.proofs.kinds.LoadRead.{ColoursMean, colours_mean}
use Rattle.hk_collect.proofs.spots.Spots.{WorkFacts, GoesMarking, work_facts, marking_on, on_spot}
use Rattle.hk_collect.proofs.spots.SpotLines.{AtFrame, AtFrameTrade, at_frame, frame_works, at_frame_trade, scan_works}
use Rattle.std.proofs.lemmas.Bool.{ltb-false}

-- CALLS INSIDE THE FRAME

-- a call that has a cycle in its frame is inside it
cycle_inside : (x : Flight) → f.IsInStep x → f.has_cycle_in_frame x ≡ true → f.in_frame x ≡ true
unfolding f.has_cycle_in_frame f.has_raised f.in_frame f.is_load_at f.is_new_at f.in_frame_at
cycle_inside x step e = by_call x.call x.place x.full x.raised step e
  where
    not_resting : (full raised : Bool) → (full ≡ false) ⊎ (raised ≡ true) → not (full && not raised) ≡ true
    not_resting true true h = refl
    not_resting true false (inl h) = absurd (cc)
    not_resting true false (inr h) = absurd (cc)
    not_resting false raised h = refl

    wider_load : (n : ℕ) → (nat_le 4 n && nat_le n 10) ≡ true → (nat_le 2 n && nat_le n 10) ≡ true
    wider_load n h = grind (arith, nat_tests)

    wider_new : (n : ℕ) → (nat_le 4 n && nat_le n 7) ≡ true → (nat_le 3 n && nat_le n 7) ≡ true
    wider_new n h = grind (arith, nat_tests)

    by_call : (call : Call) (place : ℕ) (full raised : Bool) → f.IsInStepAt call place full raised
        → (f.is_load_at 4 10 call place || (f.is_new_at 4 7 call place && raised)) ≡ true → (f.in_frame_at call place && not (full && not raised)) ≡ true
    by_call (call.Get reg field) place full raised step e = absurd (cc)
    by_call (call.Put reg field value) place full raised step e = absurd (cc)
    by_call (call.Load dest reg field) place full raised step e = elim (or_cases _ false e) [
      | inl a ↦ and_from _ _ (wider_load place a) (not_resting full raised (inl step.not_full))
      | inr a ↦ absurd (cc)
    ]
    by_call (call.Store reg field from) place full raised step e = absurd (cc)
    by_call (call.Move dest from) place full raised step e = absurd (cc)
    by_call (call.Clear dest) place full raised step e = absurd (cc)
    by_call (call.New dest shape) place full raised step e = let p = and_parts _ _ e in and_from _ _ (wider_new place p.0) (not_resting full raised (inr p.1))
    by_call (call.Same a b) place full raised step e = absurd (cc)
    by_call (call.IsNull reg) place full raised step e = absurd (cc)

-- a Load that isn't inside its frame has its object in a register of its seat
pub record HasRegister (registers : ℕ) (call : Call) (place : ℕ) : Type 0 where
  pub register : ℕ
  pub fits : register < registers
  pub stays : f.register_stays_at call place ≡ true
  pub is_entered : entered call ≡ Some register

load_outside : (registers : ℕ) (x : Flight) → f.IsInStep x → (f.is_flying x ≡ true → RegistersFit registers x.call) → f.is_load x ≡ true → f.in_frame x ≡ false
    → HasRegister registers x.call x.place
unfolding f.is_load f.is_load_at f.in_frame f.in_frame_at f.register_stays_at
load_outside registers x step fit loads outside = by_call x.call x.place x.full x.raised step fit loads outside
  where
    first_place : (n : ℕ) → (nat_le 1 n && nat_le n 10) ≡ true → (nat_le 2 n && nat_le n 10) ≡ false → n ≡ 1
    first_place n a b = grind (arith, nat_tests)

    outer : (a full raised : Bool) → full ≡ false → (a && not (full && not raised)) ≡ false → a ≡ false
    outer true true raised e h = absurd (cc)
    outer true false raised e h = h
    outer false full raised e h = refl

    by_call : (c : Call) (place : ℕ) (full raised : Bool) → f.IsInStepAt c place full raised → (nat_le 1 place ≡ true → RegistersFit registers c)
        → f.is_load_at 1 10 c place ≡ true → (f.in_frame_at c place && not (full && not raised)) ≡ false → HasRegister registers c place
    by_call (call.Get reg field) place full raised step fit loads outside = absurd (cc)
    by_call (call.Put reg field value) place full raised step fit loads outside = absurd (cc)
    by_call (call.Load dest reg field) place full raised step fit loads outside =
        let first : place ≡ 1 = first_place place loads (outer _ full raised step.not_full outside) in
        record { register = reg; fits = (fit (and_parts _ _ loads).0).1; stays = rw first refl; is_entered = refl }
    by_call (call.Store reg field from) place full raised step fit loads outside = absurd (cc)
    by_call (call.Move dest from) place full raised step fit loads outside = absurd (cc)
    by_call (call.Clear dest) place full raised step fit loads outside = absurd (cc)
    by_call (call.New dest shape) place full raised step fit loads outside = absurd (cc)
    by_call (call.Same a b) place full raised step fit loads outside = absurd (cc)
    by_call (call.IsNull reg) place full raised step fit loads outside = absurd (cc)

stays_at : (x : Flight) → f.register_stays_at x.call x.place ≡ true → f.register_stays x ≡ true
unfolding f.register_stays
stays_at x e = e

-- THE FRAME IS BLACK

-- the words after a frame was blackened, and what many facts read then
abbrev pub blackened_words : Words → ℕ → Words
blackened_words w s = record w { frame_cycle = upd w.frame_cycle s w.cycle }

abbrev pub blackened : Shades → ℕ → Shades
blackened sh s = record sh { black_frame = upd sh.black_frame s true }

-- what blackening a frame asks: the collector is at the frame, no call is inside it, and its registers are null or claimed
pub record CanBlacken (g : Geometry) (w : Words) (flight : ℕ → Flight) (t : Spot) (s : ℕ) : Type 0 where
  pub at : t.line ≡ line.Frame s
  pub seat : s < tasks g
  pub nobody : f.in_frame (flight s) ≡ false
  pub registers : (r : ℕ) → r < g.registers → IsNullOrMarked w.cycle w.mark (w.register s r)

no_attempt : {A : Type 0} (g : Geometry) (s : ℕ) (p : ℕ × ℕ) (ln : Line) → ln ≡ line.Frame s → l.frame_attempt g ln ≡ Some p → A
unfolding l.frame_attempt
no_attempt g s p ln e h = let none : None ≡ Some p = sym (ap (l.frame_attempt g) e) ∙ h in absurd (cc)

module _ (g : Geometry) (w : Words) (z : Spaces) (sh : Shades) (flight : ℕ → Flight) (begun : ℕ → ℕ) (hand : ℕ → Hand) (t : Spot)
    (names : Names) (contents : Contents) (range : ℕ → Option ℕ) (h : Facts g w z sh flight begun hand t names contents range)
    (c : ColoursMean w z sh) (s : ℕ) (o : CanBlacken g w flight t s) where
  dark : (word : ℕ) → IsNullOrMarked w.cycle w.mark word → NamesNoWhite sh.white word
  dark word (inl null) = inl null
  dark word (inr marked) = inr (c.not_white (layout.reference_number word) (omega arith))

  dark_as : (word other : ℕ) → word ≡ other → NamesNoWhite sh.white other → NamesNoWhite sh.white word
  dark_as word other e o = rw e o

  blacken_not_ahead : fact.FramesNotAhead g w.cycle (upd w.frame_cycle s w.cycle)
  blacken_not_ahead k below = elim (upd_cases w.frame_cycle s w.cycle k) [
    | inl (e, u) ↦ omega arith
    | inr (d, u) ↦ let old : w.frame_cycle k ≤ w.cycle = h.frames_not_ahead k below in omega arith
  ]

  blacken_registers : fact.BlackFrameHasNoWhite g sh.white (upd sh.black_frame s true) w.register
  blacken_registers k r a b black = elim (upd_cases sh.black_frame s true k) [
    | inl (e, u) ↦ rw e (dark (w.register s r) (o.registers r b))
    | inr (d, u) ↦ h.black_frame_has_no_white k r a b (sym u ∙ black)
  ]

  blacken_late : fact.LateInNoBlackFrame g w.cycle (upd sh.black_frame s true) flight
  blacken_late k a inside late = elim (upd_cases sh.black_frame s true k) [
    | inl (e, u) ↦ absurd (both_ways _ o.nobody (ap (λ j. f.in_frame (flight j)) (sym e) ∙ cycle_inside (flight k) (h.news_in_step k a) inside))
    | inr (d, u) ↦ u ∙ h.late_in_no_black_frame k a inside late
  ]

  blacken_entered : fact.EnteredWhiteInNoBlackFrame g sh.white (upd sh.black_frame s true) flight
  blacken_entered k a loads black = elim (upd_cases sh.black_frame s true k) [
    | inl (e, u) ↦
        let at : HasRegister g.registers (flight k).call (flight k).place =
        load_outside g.registers (flight k) (h.news_in_step k a) (h.flights_formed k a).registers loads (ap (λ j. f.in_frame (flight j)) e ∙ o.nobody) in
        let same : (flight k).entered ≡ w.register s at.register = h.entered_stays k at.register a (stays_at (flight k) at.stays) at.is_entered ∙ ap (λ j. w.register j at.register) e in
        dark_as (flight k).entered (w.register s at.register) same (dark (w.register s at.register) (o.registers at.register at.fits))
    | inr (d, u) ↦ h.entered_white_in_no_black_frame k a loads (sym u ∙ black)
  ]

  blacken_done : fact.FramesBlackened g (upd sh.black_frame s true) t.line
  blacken_done k below = elim (upd_cases sh.black_frame s true k) [
    | inl (e, u) ↦ u
    | inr (d, u) ↦ u ∙ h.frames_blackened k below
  ]

  blacken_behind : fact.FrameAttemptBehind g t.line t.first w.frame_accessors (upd w.frame_cycle s w.cycle) w.frame_version
  blacken_behind k passed e = no_attempt g s (k, passed) t.line o.at e

  -- all facts hold after it was blackened
  pub blacken_facts : Facts g (blackened_words w s) z (blackened sh s) flight begun hand t names contents range
  blacken_facts =
      let a = blacken_not_ahead in
      let b = blacken_registers in
      let d = blacken_late in
      let e = blacken_entered in
      let i = blacken_done in
      let j = blacken_behind in
      assumption

shades_blackened : (g : Geometry) (w : Words) (s : ℕ) (flight : ℕ → Flight) (ln : Line) (names : Names)
    → shades_of g (blackened_words w s) flight ln names ≡ blackened (shades_of g w flight ln names) s
unfolding shades_of
shades_blackened g w s flight ln names =
    let black : black_frame_by w.cycle (upd w.frame_cycle s w.cycle) ≡ upd (black_frame_by w.cycle w.frame_cycle) s true =
    is_upd {A = Bool} (black_frame_by w.cycle (upd w.frame_cycle s w.cycle)) (black_frame_by w.cycle w.frame_cycle) s true here (λ k d. rw (upd_other w.frame_cycle s w.cycle k d) refl) in
    ap (λ (b : ℕ → Bool). record (shades_of g w flight ln names) { black_frame = b }) black
  where
    here : nat_eq (upd w.frame_cycle s w.cycle s) w.cycle ≡ true
    here = rw (upd_same w.frame_cycle s w.cycle) (eq-eqb w.cycle w.cycle refl)

-- THE EXCHANGE

frame_marks : (ln : Line) (s : ℕ) → ln ≡ line.Frame s → l.is_marking ln ≡ true
unfolding l.is_marking
frame_marks ln s e = ap l.is_marking e

trade_marks : (ln : Line) (s : ℕ) → ln ≡ line.FrameTrade s → l.is_marking ln ≡ true
unfolding l.is_marking
trade_marks ln s e = ap l.is_marking e

trade_hand : (t : Spot) (s : ℕ) → t.line ≡ line.FrameTrade s → l.hand_of_spot (record t { line = line.Frame s }) ≡ l.hand_of_spot t
unfolding l.hand_of_spot l.hand_at_line
trade_hand t s e = sym (ap (l.hand_at_line t) e)

after_hand : (g : Geometry) (t : Spot) (s : ℕ) → t.line ≡ line.Frame s → l.hand_of_spot (record t { line = after_frame g s }) ≡ l.hand_of_spot t
unfolding l.hand_of_spot l.hand_at_line
after_hand g t s e = by_last (nat_lt (s + 1) (tasks g)) ∙ sym (ap (l.hand_at_line t) e)
  where
    by_last : (more : Bool) → l.hand_at_line (record t { line = if more then line.Frame (s + 1) else line.Scan }) (if more then line.Frame (s + 1) else line.Scan) ≡ l.hand_at_line t (line.Frame s)
    by_last true = refl
    by_last false = refl

after_marks : (g : Geometry) (s : ℕ) → l.is_marking (after_frame g s) ≡ true
unfolding l.is_marking
after_marks g s = by_last (nat_lt (s + 1) (tasks g))
  where
    by_last : (more : Bool) → l.is_marking (if more then line.Frame (s + 1) else line.Scan) ≡ true
    by_last true = refl
    by_last false = refl

-- the seat of a frame word that stands as it was loaded has no call inside its frame
nobody_inside : (inside : Bool) (accessors : ℕ) → accessors ≡ (if inside then 1 else 0) → accessors ≡ 0 → inside ≡ false
nobody_inside true accessors e none = absurd (omega arith)
nobody_inside false accessors e none = refl

module _ (g : Geometry) (w : Words) (flight : ℕ → Flight) (begun : ℕ → ℕ) (t : Spot) (names : Names) (contents : Contents) (range : ℕ → Option ℕ) (s : ℕ) where
  -- where another word is there, the attempt was in vain
  pub frame_trade_lost : t.line ≡ line.FrameTrade s → FactsOf g w flight begun t names contents range
      → FactsOf g w flight begun (record t { line = line.Frame s }) names contents range
  frame_trade_lost at h =
      let z = spaces_of g w.cycle in
      let sh = shades_of g w flight t.line names in
      let hand = hands_of g flight t in
      let other = record t { line = line.Frame s } in
      let here : AtFrameTrade g w sh t s = at_frame_trade g w z sh flight t names range s (work_facts g w z sh flight begun hand t names contents range h (line.FrameTrade s) at) in
      let goes : GoesMarking t other = record { from = trade_marks t.line s at; to = frame_marks (line.Frame s) s refl; cycle = refl; scan = refl; entries = refl } in
      let works : WorkFacts g w z sh flight other names range (line.Frame s) = frame_works g w z sh flight other names range s here.in_frame.at_frame in
      on_spot g w flight begun t other names contents range (trade_hand t s at) (goes.to ∙ sym goes.from) h
      (marking_on g w z sh flight begun hand t names contents range h other goes works)

  -- from a frame that is black the collector goes on
  frame_left : t.line ≡ line.Frame s → (shades_of g w flight t.line names).black_frame s ≡ true → FactsOf g w flight begun t names contents range
      → FactsOf g w flight begun (record t { line = after_frame g s }) names contents range
  frame_left at black h =
      let z = spaces_of g w.cycle in
      let sh = shades_of g w flight t.line names in
      let hand = hands_of g flight t in
      let other = record t { line = after_frame g s } in
      let here : AtFrame g sh s = at_frame g w z sh flight t names range s (work_facts g w z sh flight begun hand t names contents range h (line.Frame s) at) in
      let done : (k : ℕ) → k < s + 1 → sh.black_frame k ≡ true = λ k below. elim (cases_eq k s) [
        | inl e ↦ ap sh.black_frame e ∙ black
        | inr d ↦ here.blackened k (omega arith)
      ] in
      let goes : GoesMarking t other = record { from = frame_marks t.line s at; to = after_marks g s; cycle = refl; scan = refl; entries = refl } in
      let works : WorkFacts g w z sh flight other names range (after_frame g s) = by_last z sh other here.seat done (nat_lt (s + 1) (tasks g)) refl in
      on_spot g w flight begun t other names contents range (after_hand g t s at) (goes.to ∙ sym goes.from) h
      (marking_on g w z sh flight begun hand t names contents range h other goes works)
    where
      by_last : (z : Spaces) (sh : Shades) (other : Spot) → s < tasks g → ((k : ℕ) → k < s + 1 → sh.black_frame k ≡ true) → (more : Bool) → nat_lt (s + 1) (tasks g) ≡ more
          → WorkFacts g w z sh flight other names range (if more then line.Frame (s + 1) else line.Scan)
      by_last z sh other seat done true e = frame_works g w z sh flight other names range (s + 1) (record { seat = ltb-true _ _ e; blackened = done })
      by_last z sh other seat done false e = let last : tasks g ≤ s + 1 = ltb-false (s + 1) (tasks g) e in scan_works g w z sh flight other names range (λ k below. done k (omega arith))

-- all facts hold after the exchange of a frame word that is the one that the attempt loaded: the frame is black
pub frame_traded : (g : Geometry) (w : Words) (flight : ℕ → Flight) (begun : ℕ → ℕ) (t : Spot) (names : Names) (contents : Contents) (range : ℕ → Option ℕ) (s : ℕ)
    → t.line ≡ line.FrameTrade s → w.frame_version s ≡ layout.frame_version t.first → FactsOf g w flight begun t names contents range
    → FactsOf g (blackened_words w s) flight begun (record t { line = after_frame g s }) names contents range
frame_traded g w flight begun t names contents range s at same h =
    let z = spaces_of g w.cycle in
    let sh = shades_of g w flight t.line names in
    let here : AtFrameTrade g w sh t s =
    at_frame_trade g w z sh flight t names range s (work_facts g w z sh flight begun (hands_of g flight t) t names contents range h (line.FrameTrade s) at) in
    let seat : s < tasks g = here.in_frame.at_frame.seat in
    let between = record t { line = line.Frame s } in
    let mid : FactsOf g w flight begun between names contents range = frame_trade_lost g w flight begun t names contents range s at h in
    let can : CanBlacken g w flight between s = record {
      at = refl;
      seat = seat;
      nobody = nobody_inside (f.in_frame (flight s)) (w.frame_accessors s) (h.frame_accessors_counted s seat) (here.in_frame.behind.same_accessors same);
      registers = λ r below. here.in_frame.passed r same below;
    } in
    let black : Facts g (blackened_words w s) z (blackened (shades_of g w flight (line.Frame s) names) s) flight begun (hands_of g flight between) between names contents range =
    blacken_facts g w z (shades_of g w flight (line.Frame s) names) flight begun (hands_of g flight between) between names contents range mid
    (colours_mean g w flight (line.Frame s) names) s can in
    let shades = shades_blackened g w s flight (line.Frame s) names in
    frame_left g (blackened_words w s) flight begun between names contents range s refl
    (ap (λ (a : Shades). a.black_frame s) shades ∙ upd_same (shades_of g w flight (line.Frame s) names).black_frame s true)
    (rw shades black)
