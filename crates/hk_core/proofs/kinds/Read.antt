-- A Get reads the cell of its field. No word changes; the reply is what the plain heap answers.
use Rattle.std.proofs.Common.{◌≡◌, ◌≢◌, ℕ, ◌+◌, ◌^◌, ◌<◌, Bool, true, false, [], ◌∷◌, ◌++◌, inl, inr, refl, sym, ◌∙◌, ap, arith, Option, Some, None}
use Rattle.std.proofs.lemmas.Bool.{and_right}
use Rattle.std.specs.Prelude.{nat_eq, ◌&&◌}
use Rattle.hk_words.specs.declared.geometry.Geometry.{Geometry}
use Rattle.hk_words.specs.declared.call.Call.{Call}
use Rattle.hk_words.specs.declared.call.Call.TheVariants as call
use Rattle.hk_words.specs.declared.call.Reply.TheVariants as reply
use Rattle.hk_words.specs.Geometry.{tasks, numbers}
use Rattle.hk_words.specs.Calls.{entered}
use Rattle.hk_words.specs.Layout as layout
use Rattle.hk_model.specs.View.{upd}
use Rattle.hk_model.specs.Heap as heap
use Rattle.hk_model.specs.History.{Entry, History, Legal, after, after_entry}
use Rattle.hk_model.proofs.Histories.{after-push, Legal-push, number_of-push_other, bearer-push_other}
use Rattle.hk_model.proofs.Replies.{reply_of-get, heap_after-get}
use Rattle.hk_core.specs.declared.flight.Flight.{Flight}
use Rattle.hk_core.specs.declared.spot.Spot.{Spot}
use Rattle.hk_core.specs.declared.spot.Line.{Line}
use Rattle.hk_core.specs.Begin.{copied}
use Rattle.hk_core.specs.Step.{number_cell}
use Rattle.hk_core.specs.View.{Words, Names, Contents, shown, names_of, contents_of}
use Rattle.hk_core.specs.Flights as f
use Rattle.hk_core.specs.Flights.{Hand, hand_of_flight}
use Rattle.hk_core.specs.Colours.{Spaces, spaces_of, Shades, shades_of, IsNullOrKept, IsKeptBirth}
use Rattle.hk_core.specs.Facts as fact
use Rattle.hk_core.specs.Lawful.{Facts, FactsOf, hands_of}
use Rattle.hk_core.proofs.kinds.Seats.{CallsFacts, FlightFacts, Changes, KeptMeans, GoesOn, SameObject, SameFrame, MakesNothing, calls_upd, facts_of_flight, counted_kept, versions_kept, frames_counted_kept, frame_versions_kept}
use Rattle.hk_core.proofs.kinds.Seats.{hands_upd, shades_upd, goes_without_number}
use Rattle.hk_core.proofs.kinds.Enter.{object_of}
use Rattle.hk_core.proofs.Shared.{refuted}

-- THE FLIGHT

-- a flight that goes on to another place with what it has read
abbrev pub read_on : Flight → (q item : ℕ) → Flight
read_on x q item = record x { place = q; item = item }

-- the tables of a call that reads a number at its place p: `item` is no reference before or after
pub record ReadsNumber (call : Call) (p q : ℕ) : Type 0 where
  pub goes : GoesOn call p q
  pub same_object : SameObject call p q
  pub same_frame : SameFrame call p q
  pub has_cycle : (is_null : Bool) → f.has_cycle_inside_at call q is_null ≡ false
  pub has_cycle_in_frame : f.is_load_at 4 10 call q ≡ false
  pub has_claimed : f.has_claimed_at call q ≡ false
  pub reserves_before : f.reserves_at call p ≡ false
  pub reserves : f.reserves_at call q ≡ false
  pub links_before : f.links_at call p ≡ false
  pub links : f.links_at call q ≡ false
  pub has_item : f.has_item_at call q ≡ false
  pub has_loaded : f.is_load_at 5 10 call q ≡ false
  pub has_loaded_inside : f.is_load_at 5 9 call q ≡ false
  pub has_written : f.is_load_at 9 10 call q ≡ false
  pub held_back : (reg : ℕ) → f.holds_back_at call p reg ≡ false
  pub holds_back : (reg : ℕ) → f.holds_back_at call q reg ≡ false
  pub copies : copied call ≡ None

pub none_in : {A : Type 0} (b c : Bool) → b ≡ false → (b && c) ≡ true → A
none_in true c e h = absurd (cc)
none_in false c e h = absurd (cc)

copies_none : {A : Type 0} (o : Option ℕ) (r : ℕ) → o ≡ None → o ≡ Some r → A
copies_none o r e h = absurd (cc)

module _ (x : Flight) (q item : ℕ) (t : ReadsNumber x.call x.place q) where
  reads_nothing_made : MakesNothing (read_on x q item)
  unfolding f.has_raised f.has_room f.is_making f.has_number
  reads_nothing_made = record {
    not_raised = rw t.goes.raised refl;
    no_room = rw t.goes.raised refl;
    not_making = rw t.goes.making refl;
    no_number = rw t.goes.numbered refl;
  }

  reads_raising : f.will_raise (read_on x q item) ≡ f.will_raise x
  unfolding f.will_raise
  reads_raising = rw t.goes.will_raise refl

  reads_inside : (m : ℕ) → f.is_inside (read_on x q item) m ≡ f.is_inside x m
  unfolding f.is_inside f.in_object
  reads_inside m = rw t.same_object.inside refl

  reads_before_object : f.before_object (read_on x q item) ≡ f.before_object x
  unfolding f.before_object
  reads_before_object = t.same_object.before

  reads_in_frame : f.in_frame (read_on x q item) ≡ f.in_frame x
  unfolding f.in_frame
  reads_in_frame = rw t.same_frame.inside refl

  reads_before_frame : f.before_frame (read_on x q item) ≡ f.before_frame x
  unfolding f.before_frame
  reads_before_frame = rw t.same_frame.before refl

  reads_hand : (g : Geometry) → hand_of_flight g (read_on x q item) ≡ hand_of_flight g x
  unfolding f.hand_of_flight
  reads_hand g = rw (t.reserves, t.links, t.reserves_before, t.links_before, and_right x.claimer false refl) refl

  reads_facts : (g : Geometry) (w : Words) (sh : Shades) (names : Names) (plain : ℕ → ℕ → Option ℕ) (s : ℕ)
      → FlightFacts g w sh names plain s x → FlightFacts g w sh names plain s (read_on x q item)
  unfolding f.holds_back f.has_loaded f.register_stays f.has_cycle_inside f.has_written f.has_claimed f.has_cycle_in_frame f.has_raised f.has_loaded_inside f.is_load f.in_object
  reads_facts g w sh names plain s o = record {
    registers_shown = λ r h. rw (t.holds_back r) (rw (t.held_back r) at (o.registers_shown r h));
    entered_good = λ a b. o.entered_good a t.goes.flying;
    loaded_good = λ h. refuted _ t.has_loaded h;
    formed = record { seated = o.formed.seated; in_row = t.goes.in_row; registers = λ h. o.formed.registers t.goes.flying; no_question = o.formed.no_question; entered_null = o.formed.entered_null };
    in_step = t.goes.in_step x.full x.raised o.in_step;
    field_there = λ h. o.field_there t.goes.flying;
    entered_stays = λ r h. o.entered_stays r (sym t.goes.register_stays ∙ h);
    place_known = λ h. o.place_known (sym t.same_object.inside ∙ h);
    loaded_recent = λ h. refuted _ (t.has_cycle (nat_eq item 0)) h;
    loaded_stays = λ r h. refuted _ t.has_written h;
    copied_stays = λ r h e. copies_none _ r t.copies e;
    claims_last = λ h. none_in _ _ t.has_claimed h;
    late_in_no_black_object = λ h. refuted _ (t.has_cycle (nat_eq item 0)) h;
    late_in_no_black_frame = λ h. refuted _ (rw (t.has_cycle_in_frame, t.goes.raised) refl) h;
    loaded_white = λ h. refuted _ t.has_loaded_inside h;
    entered_white = λ h. o.entered_white (sym t.goes.is_load ∙ h);
  }

  reads_so : (g : Geometry) (w : Words) (sh : Shades) (ln : Line) (names : Names) (contents : Contents) (flight : ℕ → Flight) (s : ℕ) → s < tasks g → flight s ≡ x
      → CallsFacts g w sh ln names contents flight → Changes g w sh names contents flight s (read_on x q item)
  unfolding f.has_item
  reads_so g w sh ln names contents flight s below here h = record {
    nothing = reads_nothing_made;
    raising = rw here reads_raising;
    facts = reads_facts g w sh names contents.register s (rw (← here) (facts_of_flight g w sh names contents.register flight h.flights s below));
    entered = λ o e. rw (← here) (o.entered s below (rw here t.goes.flying));
    item = λ o e. refuted _ t.has_item e;
  }

-- ALL FACTS

module _ (g : Geometry) (w : Words) (z : Spaces) (sh : Shades) (flight : ℕ → Flight) (begun : ℕ → ℕ) (hand : ℕ → Hand) (t : Spot)
    (names : Names) (contents : Contents) (range : ℕ → Option ℕ) (s q item : ℕ) where
  pub read_number_facts : s < tasks g → ReadsNumber (flight s).call (flight s).place q
      → Facts g w z sh flight begun hand t names contents range
      → Facts g w z sh (upd flight s (read_on (flight s) q item)) begun hand t names contents range
  read_number_facts below e h =
      let x = flight s in
      let y = read_on x q item in
      let counted : fact.AccessorsCounted g w.accessors (upd flight s y) = counted_kept g flight s y w.accessors (reads_inside x q item e) h.accessors_counted in
      let versions : fact.VersionsBounded g w.version (upd flight s y) begun = versions_kept g flight s y w.version begun (reads_before_object x q item e) h.versions_bounded in
      let frames : fact.FrameAccessorsCounted g w.frame_accessors (upd flight s y) = frames_counted_kept g flight s y w.frame_accessors below (reads_in_frame x q item e) h.frame_accessors_counted in
      let frame_versions : fact.FrameVersionsBounded g w.frame_version (upd flight s y) begun = frame_versions_kept g flight s y w.frame_version begun (reads_before_frame x q item e) h.frame_versions_bounded in
      let between : CallsFacts g w sh t.line names contents flight = assumption in
      let calls : CallsFacts g w sh t.line names contents (upd flight s y) =
      calls_upd g w sh t.line names contents flight s y (reads_so x q item e g w sh t.line names contents flight s below refl between) between in
      assumption

-- all facts hold after a call has read a number, for the plain heap as it was
pub read_number : (g : Geometry) (w : Words) (flight : ℕ → Flight) (begun : ℕ → ℕ) (t : Spot) (names : Names) (contents : Contents) (range : ℕ → Option ℕ) (s q item : ℕ)
    → s < tasks g → ReadsNumber (flight s).call (flight s).place q → FactsOf g w flight begun t names contents range
    → FactsOf g w (upd flight s (read_on (flight s) q item)) begun t names contents range
read_number g w flight begun t names contents range s q item below e h =
    let x = flight s in
    let y = read_on x q item in
    let hands : hands_of g (upd flight s y) t ≡ hands_of g flight t = hands_upd g t flight s y (reads_hand x q item e g) in
    let shades : shades_of g w (upd flight s y) t.line names ≡ shades_of g w flight t.line names =
    shades_upd g w t.line names flight s y (goes_without_number x q x.at e.goes) ((reads_nothing_made x q item e).no_number) in
    rw (hands, shades)
    (read_number_facts g w (spaces_of g w.cycle) (shades_of g w flight t.line names) flight begun (hands_of g flight t) t names contents range s q item below e h)

-- a Get reads a number at its second place
pub get_reads : (reg field : ℕ) → ReadsNumber (call.Get reg field) 2 3
unfolding f.in_object_at f.before_object_at f.register_stays_at f.is_load_at f.is_new_at f.in_frame_at f.before_frame_at f.has_cycle_inside_at f.has_claimed_at f.reserves_at f.links_at f.has_item_at f.holds_back_at
get_reads reg field = record {
  goes = record {
    flying = refl;
    in_row = omega arith;
    in_step = λ full raised h. h;
    register_stays = refl;
    is_load = refl;
    will_raise = refl;
    raised_before = refl;
    raised = refl;
    making = refl;
    numbered_before = refl;
    numbered = refl;
  };
  same_object = record { inside = refl; before = refl };
  same_frame = record { inside = refl; before = refl };
  has_cycle = λ b. refl;
  has_cycle_in_frame = refl;
  has_claimed = refl;
  reserves_before = refl;
  reserves = refl;
  links_before = refl;
  links = refl;
  has_item = refl;
  has_loaded = refl;
  has_loaded_inside = refl;
  has_written = refl;
  held_back = λ r. refl;
  holds_back = λ r. refl;
  copies = refl;
}

-- WHAT A CALL INSIDE AN OBJECT KNOWS

-- each birth has a shape whose parts a reference can hold
abbrev pub ShapesFit : Names → Type 0
ShapesFit names = (b : ℕ) → (names.refs b < 2 ^ 8) × (names.nums b < 2 ^ 8)

-- the object that a call is inside is that of a birth, which the plain register holds and which bears the number
pub record Knows (w : Words) (sh : Shades) (names : Names) (plain : ℕ → ℕ → Option ℕ) (s reg : ℕ) (x : Flight) : Type 0 where
  pub birth : ℕ
  pub in_register : plain s reg ≡ Some birth
  pub is_kept : sh.kept (object_of x) ≡ true
  pub bears : names.bearer (object_of x) ≡ Some birth
  pub refs : layout.reference_refs x.entered ≡ names.refs birth
  pub nums : layout.reference_nums x.entered ≡ names.nums birth
  pub stands : x.at ≡ w.place (object_of x)

number_of_shown : (number refs nums word : ℕ) → number + 1 < 2 ^ 20 → word ≡ layout.pack_reference number refs nums → layout.reference_number word ≡ number
number_of_shown number refs nums word a e = rw e (omega arith)

refs_of_shown : (number refs nums word : ℕ) → number + 1 < 2 ^ 20 → refs < 2 ^ 8 → nums < 2 ^ 8 → word ≡ layout.pack_reference number refs nums → layout.reference_refs word ≡ refs
refs_of_shown number refs nums word a b c e = rw e (omega arith)

nums_of_shown : (number refs nums word : ℕ) → number + 1 < 2 ^ 20 → refs < 2 ^ 8 → nums < 2 ^ 8 → word ≡ layout.pack_reference number refs nums → layout.reference_nums word ≡ nums
nums_of_shown number refs nums word a b c e = rw e (omega arith)

-- a number of the geometry fits a reference
numbers_fit : (g : Geometry) (n : ℕ) → n < numbers g → n + 1 < 2 ^ 20
numbers_fit g n h = omega arith

-- no reference shows null
shown_some : (names : Names) (word : ℕ) (plain : Option ℕ) → word ≢ 0 → word ≡ shown names plain → (birth : ℕ) × (plain ≡ Some birth) × (word ≡ layout.pack_reference (names.number birth) (names.refs birth) (names.nums birth))
unfolding shown
shown_some names word None some e = absurd (some e)
shown_some names word (Some birth) some e = (birth, refl, e)

kept_birth : (kept : ℕ → Bool) (names : Names) (plain : Option ℕ) (birth : ℕ) → plain ≡ Some birth → IsNullOrKept kept names plain → IsKeptBirth kept names birth
kept_birth kept names plain birth e (inl none) = absurd (cc)
kept_birth kept names plain birth e (inr found) = let same : found.0 ≡ birth = cc in rw (← same) found.2

pub object_known : (g : Geometry) (w : Words) (sh : Shades) (held : ℕ → Bool) (ln : Line) (names : Names) (plain : ℕ → ℕ → Option ℕ) (s reg : ℕ) (x : Flight)
    → KeptMeans g w held ln names sh → FlightFacts g w sh names plain s x → ShapesFit names
    → f.is_through x.call ≡ true → f.is_flying x ≡ true → f.in_object x ≡ true → f.register_stays x ≡ true → f.holds_back x reg ≡ false
    → entered x.call ≡ Some reg → reg < g.registers → IsNullOrKept sh.kept names (plain s reg)
    → Knows w sh names plain s reg x
object_known g w sh held ln names plain s reg x means o fit through flying inside stays free enters reg_fits plain_kept =
    let good = o.entered_good through flying in
    let shown_word : w.register s reg ≡ shown names (plain s reg) = rw free at (o.registers_shown reg reg_fits) in
    let shows : x.entered ≡ shown names (plain s reg) = o.entered_stays reg stays enters ∙ shown_word in
    let found = shown_some names x.entered (plain s reg) good.some shows in
    let b = found.0 in
    let birth : IsKeptBirth sh.kept names b = kept_birth sh.kept names (plain s reg) b found.1 plain_kept in
    let few : names.number b + 1 < 2 ^ 20 = numbers_fit g (names.number b) (means (names.number b) birth.is_kept).within in
    let number : object_of x ≡ names.number b = number_of_shown (names.number b) (names.refs b) (names.nums b) x.entered few found.2 in
    record {
      birth = b;
      in_register = found.1;
      is_kept = good.is_kept;
      bears = ap names.bearer number ∙ birth.bears;
      refs = refs_of_shown (names.number b) (names.refs b) (names.nums b) x.entered few (fit b).0 (fit b).1 found.2;
      nums = nums_of_shown (names.number b) (names.refs b) (names.nums b) x.entered few (fit b).0 (fit b).1 found.2;
      stands = o.place_known inside;
    }

-- the cell of a number field of that object is the plain heap's
pub number_read : (w : Words) (sh : Shades) (names : Names) (plain : ℕ → ℕ → Option ℕ) (value : ℕ → ℕ → ℕ) (s reg field : ℕ) (x : Flight) (k : Knows w sh names plain s reg x)
    → fact.ValuesShown sh.kept names w.place w.cell value → field < layout.reference_nums x.entered
    → (field < names.nums k.birth) × (w.cell (number_cell x field) ≡ value k.birth field)
number_read w sh names plain value s reg field x k shows there =
    let n = object_of x in
    let within : field < names.nums k.birth = let e = k.nums in omega arith in
    let cell : w.cell (w.place n + 1 + names.refs k.birth + field) ≡ value k.birth field = shows n k.birth k.is_kept k.bears field within in
    (within, rw (k.stands, k.refs) cell)

-- THE HISTORY

-- the entry of a Get
abbrev pub got : (seat reg field value : ℕ) → Entry
got seat reg field value = record { seat = seat; call = call.Get reg field; reply = reply.Num value; number = 0 }

after-got : (start : heap.Heap) (history : History) (seat reg field value : ℕ) → after start (history ++ got seat reg field value ∷ []) ≡ after start history
unfolding after_entry
after-got start history seat reg field value = after-push start history (got seat reg field value) ∙ heap_after-get (after start history) seat reg field

-- a Get leaves the plain heap as it is
pub names-got : (g : Geometry) (history : History) (seat reg field value : ℕ) → names_of g (history ++ got seat reg field value ∷ []) ≡ names_of g history
unfolding names_of
names-got g history seat reg field value =
    let same = after-got (heap.opening_of g) history seat reg field value in
    λ i. record {
      bearer = bearer-push_other history (got seat reg field value) refl i;
      number = number_of-push_other history (got seat reg field value) refl i;
      refs = heap.refs (same i);
      nums = heap.nums (same i);
    }

pub contents-got : (g : Geometry) (history : History) (seat reg field value : ℕ) → contents_of g (history ++ got seat reg field value ∷ []) ≡ contents_of g history
unfolding contents_of
contents-got g history seat reg field value =
    let same = after-got (heap.opening_of g) history seat reg field value in
    λ i. record { register = heap.register (same i); link = heap.link (same i); value = heap.value (same i) }

-- and its entry is legal where it answers what the plain heap does
pub legal-got : (g : Geometry) (history : History) (seat reg field value birth : ℕ) → (contents_of g history).register seat reg ≡ Some birth
    → field < (names_of g history).nums birth → value ≡ (contents_of g history).value birth field
    → Legal (heap.opening_of g) history → Legal (heap.opening_of g) (history ++ got seat reg field value ∷ [])
unfolding contents_of names_of
legal-got g history seat reg field value birth in_register within answers legal =
    let h = after (heap.opening_of g) history in
    let answer : reply.Num value ≡ _ = ap reply.Num answers ∙ sym (reply_of-get h seat reg field birth in_register within) in
    Legal-push (heap.opening_of g) history (got seat reg field value) legal (refl, inl (answer, (λ e. absurd (cc)), (λ e. absurd (cc))))
