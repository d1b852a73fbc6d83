-- A call begins: an idle seat has the call's first flight, which knows nothing but registers, and has begun one more call.
use Rattle.std.proofs.Common.{◌≡◌, ◌≢◌, ℕ, ◌+◌, ◌<◌, ◌≤◌, Bool, true, false, inl, inr, refl, sym, ◌∙◌, arith, Option, Some, None, length, length-set}
use Rattle.std.proofs.lemmas.Bool.{and_right}
use Rattle.std.specs.Prelude.{is_some, option_map, unwrap_or, nat_le, nat_eq, not, ◌&&◌, if◌then◌else◌}
use Rattle.std.proofs.lemmas.Bool.Decides.{nat_tests}
use Rattle.hk_words.specs.declared.geometry.Geometry.{Geometry}
use Rattle.hk_words.specs.declared.call.Call.{Call}
use Rattle.hk_words.specs.declared.call.Call.TheVariants as call
use Rattle.hk_words.specs.Geometry.{tasks}
use Rattle.hk_words.specs.Calls.{entered, RegistersFit}
use Rattle.hk_model.specs.View.{upd}
use Rattle.hk_model.specs.History.{is_question, History}
use Rattle.hk_core.specs.declared.flight.Flight.{Flight}
use Rattle.hk_core.specs.declared.spot.Spot.{Spot}
use Rattle.hk_core.specs.declared.outcome.Fault.TheVariants.{Spent, Nil, Field}
use Rattle.hk_core.specs.declared.outcome.Fault.{Fault}
use Rattle.hk_core.specs.Begin.{most_calls, copied, has_field, register_word, entered_word, copied_word, refusal, first_flight, accepted, after_begin, begun_or}
use Rattle.hk_words.specs.Bounds.{places_of}
use Rattle.hk_core.specs.Counts.{count_below, sum_below}
use Rattle.hk_core.specs.View.{Words, Names, Contents, words_of, decoded, flight_at, begun_at, names_of, contents_of}
use Rattle.hk_core.specs.Flights as f
use Rattle.hk_core.specs.Flights.{Hand, hand_of_flight}
use Rattle.hk_core.specs.Colours.{Spaces, spaces_of, Shades, shades_of, IsGood, IsNullOrGood, NamesNoWhite}
use Rattle.hk_core.specs.Facts as fact
use Rattle.hk_core.specs.Lawful.{Facts, FactsOf, hands_of, Lawful}
use Rattle.hk_core.specs.State.{State}
use Rattle.hk_core.proofs.Update.{each_upd}
use Rattle.hk_core.proofs.Counts.{one_if, count-upd_in, sum-upd_in, one_at_most}
use Rattle.hk_core.proofs.Columns.{raw_register}
use Rattle.hk_core.proofs.Encode.{flight_at-set, begun_at-set}
use Rattle.hk_core.proofs.kinds.Seats.{FlightFacts, CallsFacts, Changes, MakesNothing, calls_upd, facts_of_flight, counted_kept, frames_counted_kept, hands_upd, shades_upd}
use Rattle.hk_core.proofs.Shared.{refuted}

-- THE FIRST FLIGHT

-- the word of a register, and 0 for none
abbrev pub word_in : (ℕ → ℕ) → Option ℕ → ℕ
word_in register reg = unwrap_or (option_map register reg) 0

-- the flight of a call that begins, for the registers of its seat
abbrev pub first_of : (ℕ → ℕ) → ℕ → Call → Flight
first_of register seat call = record {
  seat = seat;
  call = call;
  place = 1;
  entered = word_in register (entered call);
  at = 0;
  word = 0;
  item = word_in register (copied call);
  claimer = false;
  offset = 0;
  number = 0;
  full = false;
  raised = false;
}

-- what is true of null and of each register that is read is true of the word
word_true : (P : ℕ → Type 0) (register : ℕ → ℕ) (reg : Option ℕ) → P 0 → ((r : ℕ) → reg ≡ Some r → P (register r)) → P (word_in register reg)
word_true P register None null each = null
word_true P register (Some r) null each = each r refl

entered_fits : (n : ℕ) (call : Call) → RegistersFit n call → (r : ℕ) → entered call ≡ Some r → r < n
entered_fits n (call.Get reg field) fit r e = let same : reg ≡ r = cc in rw (← same) fit
entered_fits n (call.Put reg field value) fit r e = let same : reg ≡ r = cc in rw (← same) fit
entered_fits n (call.Load dest reg field) fit r e = let same : reg ≡ r = cc in rw (← same) fit.1
entered_fits n (call.Store reg field from) fit r e = let same : reg ≡ r = cc in rw (← same) fit.0
entered_fits n (call.Move dest from) fit r e = absurd (cc)
entered_fits n (call.Clear dest) fit r e = absurd (cc)
entered_fits n (call.New dest shape) fit r e = absurd (cc)
entered_fits n (call.Same a b) fit r e = absurd (cc)
entered_fits n (call.IsNull reg) fit r e = absurd (cc)

copied_fits : (n : ℕ) (call : Call) → RegistersFit n call → (r : ℕ) → copied call ≡ Some r → r < n
copied_fits n (call.Get reg field) fit r e = absurd (cc)
copied_fits n (call.Put reg field value) fit r e = absurd (cc)
copied_fits n (call.Load dest reg field) fit r e = absurd (cc)
copied_fits n (call.Store reg field from) fit r e = let same : from ≡ r = cc in rw (← same) fit.1
copied_fits n (call.Move dest from) fit r e = let same : from ≡ r = cc in rw (← same) fit.1
copied_fits n (call.Clear dest) fit r e = absurd (cc)
copied_fits n (call.New dest shape) fit r e = absurd (cc)
copied_fits n (call.Same a b) fit r e = absurd (cc)
copied_fits n (call.IsNull reg) fit r e = absurd (cc)

through_enters : (call : Call) → f.is_through call ≡ true → (r : ℕ) × (entered call ≡ Some r)
unfolding f.is_through
through_enters (call.Get reg field) e = (reg, refl)
through_enters (call.Put reg field value) e = (reg, refl)
through_enters (call.Load dest reg field) e = (reg, refl)
through_enters (call.Store reg field from) e = (reg, refl)
through_enters (call.Move dest from) e = absurd (cc)
through_enters (call.Clear dest) e = absurd (cc)
through_enters (call.New dest shape) e = absurd (cc)
through_enters (call.Same a b) e = absurd (cc)
through_enters (call.IsNull reg) e = absurd (cc)

-- TABLES. Before its first place and at it, a call is in the middle of nothing.

pub record IsAtStart (call : Call) (p : ℕ) : Type 0 where
  pub in_object : f.in_object_at call p ≡ false
  pub in_frame : f.in_frame_at call p ≡ false
  pub has_cycle : (is_null : Bool) → f.has_cycle_inside_at call p is_null ≡ false
  pub has_cycle_in_frame : f.is_load_at 4 10 call p ≡ false
  pub has_claimed : f.has_claimed_at call p ≡ false
  pub reserves : f.reserves_at call p ≡ false
  pub links : f.links_at call p ≡ false
  pub has_loaded : f.is_load_at 5 10 call p ≡ false
  pub has_loaded_inside : f.is_load_at 5 9 call p ≡ false
  pub has_written : f.is_load_at 9 10 call p ≡ false
  pub holds_back : (reg : ℕ) → f.holds_back_at call p reg ≡ false
  pub will_raise : f.is_new_at 2 3 call p ≡ false
  pub raised : f.is_new_at 4 7 call p ≡ false
  pub making : f.is_new_at 4 6 call p ≡ false
  pub numbered : f.is_new_at 5 6 call p ≡ false

at_0 : (call : Call) → IsAtStart call 0
unfolding f.in_object_at f.in_frame_at f.has_cycle_inside_at f.is_load_at f.has_claimed_at f.reserves_at f.links_at f.holds_back_at f.is_new_at
at_0 (call.Get reg field) = search
at_0 (call.Put reg field value) = search
at_0 (call.Load dest reg field) = search
at_0 (call.Store reg field from) = search
at_0 (call.Move dest from) = search
at_0 (call.Clear dest) = search
at_0 (call.New dest shape) = search
at_0 (call.Same a b) = search
at_0 (call.IsNull reg) = search

at_1 : (call : Call) → IsAtStart call 1
unfolding f.in_object_at f.in_frame_at f.has_cycle_inside_at f.is_load_at f.has_claimed_at f.reserves_at f.links_at f.holds_back_at f.is_new_at
at_1 (call.Get reg field) = search
at_1 (call.Put reg field value) = search
at_1 (call.Load dest reg field) = search
at_1 (call.Store reg field from) = search
at_1 (call.Move dest from) = search
at_1 (call.Clear dest) = search
at_1 (call.New dest shape) = search
at_1 (call.Same a b) = search
at_1 (call.IsNull reg) = search

-- one that is no question has a first place, and is in step there
has_first_place : (call : Call) → is_question call ≡ false → 1 ≤ places_of call
has_first_place (call.Get reg field) e = omega arith
has_first_place (call.Put reg field value) e = omega arith
has_first_place (call.Load dest reg field) e = omega arith
has_first_place (call.Store reg field from) e = omega arith
has_first_place (call.Move dest from) e = omega arith
has_first_place (call.Clear dest) e = omega arith
has_first_place (call.New dest shape) e = omega arith
has_first_place (call.Same a b) e = absurd (cc)
has_first_place (call.IsNull reg) e = absurd (cc)

in_step_first : (call : Call) → f.IsInStepAt call 1 false false
in_step_first (call.Get reg field) = record { not_full = refl; not_raised = refl }
in_step_first (call.Put reg field value) = record { not_full = refl; not_raised = refl }
in_step_first (call.Load dest reg field) = record { not_full = refl; not_raised = refl }
in_step_first (call.Store reg field from) = record { not_full = refl; not_raised = refl }
in_step_first (call.Move dest from) = record { not_full = refl; not_raised = refl }
in_step_first (call.Clear dest) = record { not_full = refl; not_raised = refl }
in_step_first (call.New dest shape) = record { not_full_yet = λ h. refl; not_raised_yet = λ h. refl; raised_by_then = λ h. absurd (omega arith) }
in_step_first (call.Same a b) = record { not_full = refl; not_raised = refl }
in_step_first (call.IsNull reg) = record { not_full = refl; not_raised = refl }

-- THE IDLE FLIGHT

module _ (x : Flight) (o : IsAtStart x.call x.place) where
  start_inside : (m : ℕ) → f.is_inside x m ≡ false
  unfolding f.is_inside f.in_object
  start_inside m = rw o.in_object refl

  start_in_frame : f.in_frame x ≡ false
  unfolding f.in_frame
  start_in_frame = rw o.in_frame refl

  start_raises_nothing : f.will_raise x ≡ false
  unfolding f.will_raise
  start_raises_nothing = rw o.will_raise refl

  start_nothing_made : MakesNothing x
  unfolding f.has_raised f.has_room f.is_making f.has_number
  start_nothing_made = record { not_raised = rw o.raised refl; no_room = rw o.raised refl; not_making = rw o.making refl; no_number = rw o.numbered refl }

  start_hand : (g : Geometry) → hand_of_flight g x ≡ f.no_claim
  unfolding f.hand_of_flight
  start_hand g = rw (o.reserves, o.links, and_right x.claimer false refl) refl

-- an idle flight is before its first place
idle_start : (x : Flight) → x.place ≡ 0 → IsAtStart x.call x.place
idle_start x idle = rw idle (at_0 x.call)

-- WHAT A BEGIN NEEDS

-- the call is no question, its registers are there, and it isn't refused: the seat can begin one more call, the entered
-- register isn't null, and the object has the field
pub record CanBegin (g : Geometry) (register : ℕ → ℕ) (begun : ℕ) (call : Call) : Type 0 where
  pub no_question : is_question call ≡ false
  pub registers : RegistersFit g.registers call
  pub not_spent : begun < most_calls
  pub not_null : is_some (entered call) ≡ true → word_in register (entered call) ≢ 0
  pub has_field : has_field call (word_in register (entered call)) ≡ true

-- a reference that isn't null is good
is_good : (kept : ℕ → Bool) (names : Names) (word : ℕ) → word ≢ 0 → IsNullOrGood kept names word → IsGood kept names word
is_good kept names word some (inl null) = absurd (some null)
is_good kept names word some (inr good) = good

-- so the entered reference is
good_first : (g : Geometry) (kept : ℕ → Bool) (names : Names) (register : ℕ → ℕ) (begun : ℕ) (call : Call) → CanBegin g register begun call
    → ((r : ℕ) → r < g.registers → IsNullOrGood kept names (register r)) → f.is_through call ≡ true → IsGood kept names (word_in register (entered call))
good_first g kept names register begun call can good through =
    let enters = through_enters call through in
    let some : is_some (entered call) ≡ true = rw enters.1 refl in
    is_good kept names (word_in register (entered call)) (can.not_null some)
    (word_true (λ word. IsNullOrGood kept names word) register (entered call) (inl refl) (λ r e. good r (entered_fits g.registers call can.registers r e)))

-- THE FACTS OF THE FIRST FLIGHT

-- a call that goes through no object enters no register
enters_none : (c : Call) → f.is_through c ≡ false → entered c ≡ None
unfolding f.is_through
enters_none (call.Get reg field) e = absurd (cc)
enters_none (call.Put reg field value) e = absurd (cc)
enters_none (call.Load dest reg field) e = absurd (cc)
enters_none (call.Store reg field from) e = absurd (cc)
enters_none (call.Move dest from) e = refl
enters_none (call.Clear dest) e = refl
enters_none (call.New dest shape) e = refl
enters_none (call.Same a b) e = refl
enters_none (call.IsNull reg) e = refl

module _ (g : Geometry) (w : Words) (sh : Shades) (names : Names) (s begun : ℕ) (call : Call) (can : CanBegin g (w.register s) begun call) where
  -- what is true of null and of each register of the seat is true of the entered word, and of the copied one
  entered_true : (P : ℕ → Type 0) → P 0 → ((r : ℕ) → r < g.registers → P (w.register s r)) → P (word_in (w.register s) (entered call))
  entered_true P null each = word_true P (w.register s) (entered call) null (λ r e. each r (entered_fits g.registers call can.registers r e))

  copied_true : (P : ℕ → Type 0) → P 0 → ((r : ℕ) → r < g.registers → P (w.register s r)) → P (word_in (w.register s) (copied call))
  copied_true P null each = word_true P (w.register s) (copied call) null (λ r e. each r (copied_fits g.registers call can.registers r e))

  first_shown : (x : Flight) (r v : ℕ) → IsAtStart x.call x.place → fact.shown_in x r (w.register s r) ≡ v → fact.shown_in (first_of (w.register s) s call) r (w.register s r) ≡ v
  unfolding f.holds_back
  first_shown x r v o h = rw ((at_1 call).holds_back r) (rw (o.holds_back r) at h)

  first_facts : (plain : ℕ → ℕ → Option ℕ) (x : Flight) → IsAtStart x.call x.place
      → ((r : ℕ) → r < g.registers → IsNullOrGood sh.kept names (w.register s r))
      → (sh.black_frame s ≡ true → (r : ℕ) → r < g.registers → NamesNoWhite sh.white (w.register s r))
      → FlightFacts g w sh names plain s x → FlightFacts g w sh names plain s (first_of (w.register s) s call)
  unfolding f.has_loaded f.in_object f.has_cycle_inside f.has_written f.has_claimed f.has_cycle_in_frame f.has_raised f.has_loaded_inside
  first_facts plain x start good dark o =
      let t : IsAtStart call 1 = at_1 call in
      record {
        registers_shown = λ r h. first_shown x r _ start (o.registers_shown r h);
        entered_good = λ a b. good_first g sh.kept names (w.register s) begun call can good a;
        loaded_good = λ h. refuted _ t.has_loaded h;
        formed = record { seated = refl; in_row = has_first_place call can.no_question; registers = λ h. can.registers; no_question = can.no_question; entered_null = λ h. rw (enters_none call h) refl };
        in_step = in_step_first call;
        field_there = λ h. can.has_field;
        entered_stays = λ r h e. rw e refl;
        place_known = λ h. refuted _ t.in_object h;
        loaded_recent = λ h. refuted _ (t.has_cycle _) h;
        loaded_stays = λ r h e. refuted _ t.has_written h;
        copied_stays = λ r h e. rw e refl;
        claims_last = λ h. refuted _ (rw t.has_claimed refl) h;
        late_in_no_black_object = λ h. refuted _ (t.has_cycle _) h;
        late_in_no_black_frame = λ h. refuted _ (rw (t.has_cycle_in_frame, t.raised) refl) h;
        loaded_white = λ h. refuted _ t.has_loaded_inside h;
        entered_white = λ h black. entered_true (λ word. NamesNoWhite sh.white word) (inl refl) (dark black);
      }

-- THE COUNTS

-- one more call begun makes up for one that has still to enter
bounded_begin : (before : Flight → Bool) (flight : ℕ → Flight) (begun : ℕ → ℕ) (s n version : ℕ) (y : Flight) → s < n
    → version + count_below n (λ t. before (flight t)) ≤ sum_below n begun
    → version + count_below n (λ t. before (upd flight s y t)) ≤ sum_below n (upd begun s (begun s + 1))
bounded_begin before flight begun s n version y below h =
    let count : count_below n (λ t. before (upd flight s y t)) + one_if (before (flight s)) ≡ count_below n (λ t. before (flight t)) + one_if (before y) = count-upd_in before flight s y n below in
    let sum : sum_below n (upd begun s (begun s + 1)) + begun s ≡ sum_below n begun + (begun s + 1) = sum-upd_in (λ k. k) begun s (begun s + 1) n below in
    let one : one_if (before y) ≤ 1 = one_at_most (before y) in
    omega arith

-- ALL FACTS

module _ (g : Geometry) (w : Words) (z : Spaces) (sh : Shades) (flight : ℕ → Flight) (begun : ℕ → ℕ) (hand : ℕ → Hand) (t : Spot)
    (names : Names) (contents : Contents) (range : ℕ → Option ℕ) (s : ℕ) (call : Call) where
  -- the flight changes so
  begin_so : s < tasks g → (flight s).place ≡ 0 → CanBegin g (w.register s) (begun s) call
      → Facts g w z sh flight begun hand t names contents range → CallsFacts g w sh t.line names contents flight
      → Changes g w sh names contents flight s (first_of (w.register s) s call)
  begin_so below idle can h calls =
      let x = flight s in
      let y = first_of (w.register s) s call in
      let start = idle_start x idle in
      record {
        nothing = start_nothing_made y (at_1 call);
        raising = start_raises_nothing y (at_1 call) ∙ sym (start_raises_nothing x start);
        facts = first_facts g w sh names s (begun s) call can contents.register x start (λ r b. h.registers_good s r below b) (λ black r b. h.black_frame_has_no_white s r below b black)
            (facts_of_flight g w sh names contents.register flight calls.flights s below);
        entered = λ o flying. entered_true g w sh names s (begun s) call can (λ word. NamesNoWhite sh.white word) (inl refl) (λ r b. o.registers s r below b);
        item = λ o has. copied_true g w sh names s (begun s) call can (λ word. NamesNoWhite sh.white word) (inl refl) (λ r b. o.registers s r below b);
      }

  begin_all_facts : s < tasks g → (flight s).place ≡ 0 → CanBegin g (w.register s) (begun s) call
      → Facts g w z sh flight begun hand t names contents range
      → Facts g w z sh (upd flight s (first_of (w.register s) s call)) (upd begun s (begun s + 1)) hand t names contents range
  begin_all_facts below idle can h =
      let x = flight s in
      let y = first_of (w.register s) s call in
      let start = idle_start x idle in
      let few : fact.BegunBounded g (upd begun s (begun s + 1)) = each_upd (λ t n. n ≤ most_calls) begun s (begun s + 1) (tasks g) h.begun_bounded (let n = can.not_spent in omega arith) in
      let counted : fact.AccessorsCounted g w.accessors (upd flight s y) =
      counted_kept g flight s y w.accessors (λ m. start_inside y (at_1 call) m ∙ sym (start_inside x start m)) h.accessors_counted in
      let versions : fact.VersionsBounded g w.version (upd flight s y) (upd begun s (begun s + 1)) = λ n b.
      bounded_begin f.before_object flight begun s (tasks g) (w.version n) y below (h.versions_bounded n b) in
      let frames : fact.FrameAccessorsCounted g w.frame_accessors (upd flight s y) =
      frames_counted_kept g flight s y w.frame_accessors below (start_in_frame y (at_1 call) ∙ sym (start_in_frame x start)) h.frame_accessors_counted in
      let frame_versions : fact.FrameVersionsBounded g w.frame_version (upd flight s y) (upd begun s (begun s + 1)) = λ u b.
      bounded_begin f.before_frame flight begun s (tasks g) (w.frame_version u) y below (h.frame_versions_bounded u b) in
      let between : CallsFacts g w sh t.line names contents flight = assumption in
      let calls : CallsFacts g w sh t.line names contents (upd flight s y) =
      calls_upd g w sh t.line names contents flight s y (begin_so below idle can h between) between in
      assumption

-- all facts hold after a call has begun, for the plain heap as it was
pub begin_facts : (g : Geometry) (w : Words) (flight : ℕ → Flight) (begun : ℕ → ℕ) (t : Spot) (names : Names) (contents : Contents) (range : ℕ → Option ℕ) (s : ℕ) (call : Call)
    → s < tasks g → (flight s).place ≡ 0 → CanBegin g (w.register s) (begun s) call → FactsOf g w flight begun t names contents range
    → FactsOf g w (upd flight s (first_of (w.register s) s call)) (upd begun s (begun s + 1)) t names contents range
begin_facts g w flight begun t names contents range s call below idle can h =
    let x = flight s in
    let y = first_of (w.register s) s call in
    let start = idle_start x idle in
    let hands : hands_of g (upd flight s y) t ≡ hands_of g flight t = hands_upd g t flight s y (start_hand y (at_1 call) g ∙ sym (start_hand x start g)) in
    let shades : shades_of g w (upd flight s y) t.line names ≡ shades_of g w flight t.line names =
    shades_upd g w t.line names flight s y (start_nothing_made x start).no_number (start_nothing_made y (at_1 call)).no_number in
    rw (hands, shades)
    (begin_all_facts g w (spaces_of g w.cycle) (shades_of g w flight t.line names) flight begun (hands_of g flight t) t names contents range s call below idle can h)

-- THE STATE

-- a register of the state, as the words say it
words_register : (c : State) (s r : ℕ) → s < tasks c.geometry → r < c.geometry.registers → (words_of c.geometry c.row).register s r ≡ register_word c s r
unfolding words_of decoded register_word
words_register c s r seat reg = raw_register c.geometry c.row s r seat reg

word_same : (a b : ℕ → ℕ) (reg : Option ℕ) → ((r : ℕ) → reg ≡ Some r → a r ≡ b r) → word_in a reg ≡ word_in b reg
word_same a b None same = refl
word_same a b (Some r) same = same r refl

module _ (c : State) (s : ℕ) (call : Call) (below : s < tasks c.geometry) (fit : RegistersFit c.geometry.registers call) where
  entered_same : entered_word c s call ≡ word_in ((words_of c.geometry c.row).register s) (entered call)
  unfolding entered_word
  entered_same = word_same (register_word c s) ((words_of c.geometry c.row).register s) (entered call)
      (λ r e. sym (words_register c s r below (entered_fits c.geometry.registers call fit r e)))

  copied_same : copied_word c s call ≡ word_in ((words_of c.geometry c.row).register s) (copied call)
  unfolding copied_word
  copied_same = word_same (register_word c s) ((words_of c.geometry c.row).register s) (copied call)
      (λ r e. sym (words_register c s r below (copied_fits c.geometry.registers call fit r e)))

  -- the first flight of a state is that for the registers of the seat
  pub first_flight-first : first_flight c s call ≡ first_of ((words_of c.geometry c.row).register s) s call
  unfolding first_flight
  first_flight-first = rw (entered_same, copied_same) refl

  -- a call that isn't refused can begin
  pub accepted_can : is_question call ≡ false → refusal c s call ≡ None → CanBegin c.geometry ((words_of c.geometry c.row).register s) (begun_at c s) call
  unfolding refusal begun_at
  accepted_can no_question e =
      let tests = none_refused _ _ _ e in
      record {
        no_question = no_question;
        registers = fit;
        not_spent = below_most _ _ tests.0;
        not_null = λ some. rw (← entered_same) (not_zero _ _ tests.1 some);
        has_field = rw (← entered_same) (not_not _ tests.2);
      }
    where
      none_refused : (a b d : Bool) → (if a then Some Spent else if b then Some Nil else if d then Some Field else None) ≡ None → (a ≡ false) × (b ≡ false) × (d ≡ false)
      none_refused true b d e = absurd (cc)
      none_refused false true d e = absurd (cc)
      none_refused false false true e = absurd (cc)
      none_refused false false false e = (refl, refl, refl)

      below_most : (m n : ℕ) → nat_le m n ≡ false → n < m
      below_most m n e = grind (arith, nat_tests)

      not_zero : (some : Bool) (word : ℕ) → (some && nat_eq word 0) ≡ false → some ≡ true → word ≢ 0
      not_zero true word e h = grind (arith, nat_tests)
      not_zero false word e h = absurd (cc)

      not_not : (b : Bool) → not b ≡ false → b ≡ true
      not_not true e = refl
      not_not false e = absurd (cc)

-- the flights and the begun calls after a begin
pub flight_at-accepted : (c : State) (s : ℕ) (call : Call) → s < length c.flights → flight_at (accepted c s call) ≡ upd (flight_at c) s (first_flight c s call)
unfolding accepted flight_at
flight_at-accepted c s call below = flight_at-set c s (first_flight c s call) below

pub begun_at-accepted : (c : State) (s : ℕ) (call : Call) → s < length c.begun → begun_at (accepted c s call) ≡ upd (begun_at c) s (begun_at c s + 1)
unfolding accepted begun_at
begun_at-accepted c s call below = begun_at-set c s (begun_at c s + 1) below

-- a state in which a call has begun is lawful for the same history
pub lawful_begin : (c : State) (history : History) (s : ℕ) (call : Call) → s < tasks c.geometry → (flight_at c s).place ≡ 0 → is_question call ≡ false
    → RegistersFit c.geometry.registers call → refusal c s call ≡ None → Lawful c history → Lawful (accepted c s call) history
unfolding accepted begun_at
lawful_begin c history s call below idle no_question fit not_refused h =
    let g = c.geometry in
    let w = words_of g c.row in
    let first = first_flight c s call in
    let flights : s < length c.flights = let e = h.sized.flights in omega arith in
    let begun : s < length c.begun = let e = h.sized.begun in omega arith in
    let facts : FactsOf g w (upd (flight_at c) s (first_of (w.register s) s call)) (upd (begun_at c) s (begun_at c s + 1)) c.spot (names_of g history) (contents_of g history) h.range =
    begin_facts g w (flight_at c) (begun_at c) c.spot (names_of g history) (contents_of g history) h.range s call below idle (accepted_can c s call below fit no_question not_refused) h.facts in
    record {
      sized = record {
        row = h.sized.row;
        flights = length-set c.flights s first ∙ h.sized.flights;
        begun = length-set c.begun s (begun_at c s + 1) ∙ h.sized.begun;
      };
      legal = h.legal;
      range = h.range;
      facts = rw (flight_at-accepted c s call flights, begun_at-accepted c s call begun, first_flight-first c s call below fit) facts;
    }

-- so is the state after any begin, also after one that is refused
pub lawful_after_begin : (c : State) (history : History) (s : ℕ) (call : Call) → s < tasks c.geometry → (flight_at c s).place ≡ 0 → is_question call ≡ false
    → RegistersFit c.geometry.registers call → Lawful c history → Lawful (after_begin c s call) history
unfolding after_begin
lawful_after_begin c history s call below idle no_question fit h = either (refusal c s call) (λ e. lawful_begin c history s call below idle no_question fit e h)
  where
    either : (refused : Option Fault) → (refused ≡ None → Lawful (accepted c s call) history) → Lawful (begun_or refused (accepted c s call) c) history
    either None accepts = accepts refl
    either (Some fault) accepts = h
