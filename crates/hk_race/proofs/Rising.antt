-- The words that are reserved never grow fewer while seats act: none of their events but an addition is about W1.
use Rattle.std.proofs.Common.{◌≡◌, ℕ, zero, suc, ◌≤◌, Bool, true, false, List, [], ◌∷◌, ◌++◌, refl, sym, ap, subst, arith, Option, Some, None, max}
use Rattle.std.specs.Prelude.{nat_eq, not, ◌&&◌, slice_index, slice_set, if◌then◌else◌}
use Rattle.hk_words.specs.declared.geometry.Geometry.{Geometry}
use Rattle.hk_words.specs.declared.call.Call.{Call}
use Rattle.hk_words.specs.declared.call.Call.TheVariants as call
use Rattle.hk_words.specs.declared.shape.Shape.{Shape}
use Rattle.hk_words.specs.Layout as layout
use Rattle.hk_words.specs.Row.{W1, word_of}
use Rattle.hk_core.specs.declared.event.Event.{Event}
use Rattle.hk_core.specs.declared.event.Event.TheVariants as event
use Rattle.hk_core.specs.declared.flight.Flight.{Flight}
use Rattle.hk_core.specs.declared.outcome.Fault.{Fault}
use Rattle.hk_core.specs.Event as events
use Rattle.hk_core.specs.Event.{word_after, old_of, fired, fired_if}
use Rattle.hk_core.specs.Begin.{refusal, accepted, begun_or, after_begin}
use Rattle.hk_core.specs.Collect.{event_by_collector, next_collected}
use Rattle.hk_core.specs.Run.{Action, begin, step, collect, Running, may_begin, is_busy, act, run, run_from_opening}
use Rattle.hk_core.specs.State.{State, flight_of}
use Rattle.hk_core.specs.Step as table
use Rattle.hk_core.specs.Step.{next}
use Rattle.hk_collect.specs.Works.{FindsLiveOver}
use Rattle.hk_table.specs.Actions.{is_collect, collects}
use Rattle.hk_table.proofs.Keeps.{run_more}

-- A WORD OF THE ROW
same_words : (n : ℕ) → n ≤ n
same_words n = omega arith

set_rises : (row : List ℕ) (at v i : ℕ) → (at ≡ i → slice_index row i ≤ v) → slice_index row i ≤ slice_index (slice_set row at v) i
set_rises [] at v i up = same_words _
set_rises (x ∷ row) zero v zero up = up refl
set_rises (x ∷ row) zero v (suc i) up = same_words _
set_rises (x ∷ row) (suc at) v zero up = same_words _
set_rises (x ∷ row) (suc at) v (suc i) up = set_rises row at v i (λ e. up (ap suc e))

no_less : (a b : ℕ) → a ≤ max a b
no_less a b = omega arith

-- an event on W1 leaves no fewer words there
abbrev pub Rises : Option Event → Type 0
Rises None = Unit {0}
Rises (Some e) = events.word_of e ≡ 1 → (old : ℕ) → old ≤ word_after e old

fired_rises : (row : List ℕ) (e : Event) → Rises (Some e) → slice_index row 1 ≤ slice_index (fired row e) 1
unfolding fired old_of
fired_rises row e rises =
    let old = slice_index row (events.word_of e) in
    set_rises row (events.word_of e) (word_after e old) 1 (λ at. subst (λ (n : ℕ). slice_index row n ≤ word_after e old) at (rises at old))

row_rises : (row : List ℕ) (o : Option Event) → Rises o → slice_index row 1 ≤ slice_index (fired_if row o) 1
unfolding fired_if
row_rises row None rises = same_words _
row_rises row (Some e) rises = fired_rises row e rises

-- THE EVENTS OF A SEAT
module _ (g : Geometry) (x : Flight) where
  by_test : (test : Bool) (a b : Option Event) → Rises a → Rises b → Rises (if test then a else b)
  by_test true a b first second = first
  by_test false a b first second = second

  loads : (word : ℕ) → Rises (Some (event.Load word))
  loads word at old = same_words old

  adds : (word v : ℕ) → Rises (Some (event.Add word v))
  adds word v at old = omega arith

  claims : Rises (table.claim g x)
  unfolding table.claim
  claims = by_test (nat_eq x.item 0) None (Some (event.Max _ _)) tt (λ at old. no_less old _)

  enters : Rises (table.enter_object g x)
  unfolding table.enter_object
  enters = adds _ _

  leaves : Rises (table.leave_object g x)
  unfolding table.leave_object
  leaves at old = absurd (omega (arith, at))

  enters_frame : Rises (table.enter_frame g x)
  unfolding table.enter_frame
  enters_frame = adds _ _

  leaves_frame : Rises (table.leave_frame g x)
  unfolding table.leave_frame
  leaves_frame at old = absurd (omega (arith, at))

  reads_cell : (p : ℕ) → Rises (table.read_cell g p)
  unfolding table.read_cell
  reads_cell p = loads _

  writes_cell : (p v : ℕ) → Rises (table.write_cell g p v)
  unfolding table.write_cell
  writes_cell p v at old = absurd (omega (arith, at))

  loads_w0 : Rises (table.load_w0 g)
  unfolding table.load_w0
  loads_w0 = loads _

  writes_register : (r v : ℕ) → Rises (table.write_register g x r v)
  unfolding table.write_register
  writes_register r v at old = absurd (omega (arith, at))

  links : Rises (table.link g x)
  unfolding table.link
  links = by_test (x.claimer && table.reserved_fits g x.offset x.item) (Some (event.Write _ x.item)) None (λ at old. absurd (omega (arith, at))) tt

  reserves : Rises (table.reserve g x)
  unfolding table.reserve
  reserves = by_test x.claimer (Some (event.Add _ _)) None (adds _ _) tt

  raises : (shape : Shape) → Rises (table.raise g shape)
  unfolding table.raise
  raises shape = adds _ _

  loads_entry : Rises (table.load_entry g x)
  unfolding table.load_entry
  loads_entry = loads _

  writes_header : Rises (table.write_header g x)
  unfolding table.write_header
  writes_header at old = absurd (omega (arith, at))

  load_rises : (dest field : ℕ) → Rises (table.load_event g x dest field)
  unfolding table.load_event
  load_rises dest field =
      by_test (nat_eq x.place 1) _ _ enters_frame
      (by_test (nat_eq x.place 2) _ _ enters
      (by_test (nat_eq x.place 3) _ _ loads_w0
      (by_test (nat_eq x.place 4) _ _ (reads_cell (table.reference_cell x field))
      (by_test (nat_eq x.place 5) _ _ claims
      (by_test (nat_eq x.place 6) _ _ reserves
      (by_test (nat_eq x.place 7) _ _ links
      (by_test (nat_eq x.place 8) _ _ (writes_register dest x.item)
      (by_test (nat_eq x.place 9) _ _ leaves
      (by_test (nat_eq x.place 10) _ _ leaves_frame tt)))))))))

  store_rises : (field : ℕ) → Rises (table.store_event g x field)
  unfolding table.store_event
  store_rises field =
      by_test (nat_eq x.place 1) _ _ enters
      (by_test (nat_eq x.place 2) _ _ (by_test (nat_eq x.item 0) _ _ tt loads_w0)
      (by_test (nat_eq x.place 3) _ _ claims
      (by_test (nat_eq x.place 4) _ _ reserves
      (by_test (nat_eq x.place 5) _ _ links
      (by_test (nat_eq x.place 6) _ _ (writes_cell (table.reference_cell x field) x.item)
      (by_test (nat_eq x.place 7) _ _ leaves tt))))))

  new_rises : (dest : ℕ) (shape : Shape) → Rises (table.new_event g x dest shape)
  unfolding table.new_event
  new_rises dest shape =
      by_test (nat_eq x.place 1) _ _ loads_w0
      (by_test (nat_eq x.place 2) _ _ (by_test x.full _ _ tt enters_frame)
      (by_test (nat_eq x.place 3) _ _ (by_test x.full _ _ tt (raises shape))
      (by_test (nat_eq x.place 4) _ _ (by_test x.full _ _ tt loads_entry)
      (by_test (nat_eq x.place 5) _ _ (by_test x.full _ _ tt writes_header)
      (by_test (nat_eq x.place 6) _ _ (by_test x.full _ _ tt (writes_register dest (table.new_reference x shape)))
      (by_test (nat_eq x.place 7) _ _ (by_test (x.full && not x.raised) _ _ tt leaves_frame) tt))))))

  event_rises : (c : Call) → Rises (table.event_at g x c)
  unfolding table.event_at table.get_event table.put_event table.move_event table.clear_event
  event_rises (call.Get reg field) =
      by_test (nat_eq x.place 1) _ _ enters (by_test (nat_eq x.place 2) _ _ (reads_cell (table.number_cell x field)) (by_test (nat_eq x.place 3) _ _ leaves tt))
  event_rises (call.Put reg field value) =
      by_test (nat_eq x.place 1) _ _ enters (by_test (nat_eq x.place 2) _ _ (writes_cell (table.number_cell x field) value) (by_test (nat_eq x.place 3) _ _ leaves tt))
  event_rises (call.Load dest reg field) = load_rises dest field
  event_rises (call.Store reg field from) = store_rises field
  event_rises (call.Move dest from) =
      by_test (nat_eq x.place 1) _ _ enters_frame (by_test (nat_eq x.place 2) _ _ (writes_register dest x.item) (by_test (nat_eq x.place 3) _ _ leaves_frame tt))
  event_rises (call.Clear dest) = by_test (nat_eq x.place 1) _ _ (writes_register dest 0) tt
  event_rises (call.New dest shape) = new_rises dest shape
  event_rises (call.Same a b) = tt
  event_rises (call.IsNull reg) = tt

  call_rises : Rises (table.event_of g x)
  unfolding table.event_of
  call_rises = event_rises x.call

-- THE ACTIONS OF SEATS
abbrev reserved : Running → ℕ
reserved r = slice_index r.core.row 1

begun_row : (c : State) (seat : ℕ) (c' : Call) → (after_begin c seat c').row ≡ c.row
unfolding after_begin accepted
begun_row c seat c' = either (refusal c seat c')
  where
    either : (refused : Option Fault) → (begun_or refused (accepted c seat c') c).row ≡ c.row
    either None = refl
    either (Some fault) = refl

one_of : (test : Bool) (r a b : Running) → reserved r ≤ reserved a → reserved r ≤ reserved b → reserved r ≤ reserved (if test then a else b)
one_of true r a b first second = first
one_of false r a b first second = second

act_rises : (r : Running) (a : Action) → is_collect a ≡ false → reserved r ≤ reserved (act r a)
unfolding act next table.event_by
act_rises r (begin seat c) seats =
    one_of (may_begin r.core seat c) r _ _ (subst (λ (row : List ℕ). slice_index r.core.row 1 ≤ slice_index row 1) (sym (begun_row r.core seat c)) (same_words _)) (same_words _)
act_rises r (step seat) seats =
    one_of (is_busy r.core seat) r _ _ (row_rises r.core.row _ (call_rises r.core.geometry (flight_of r.core.flights seat))) (same_words _)
act_rises r collect seats = absurd (cc)

then_more : (a b c : ℕ) → a ≤ b → b ≤ c → a ≤ c
then_more a b c p q = omega (arith, p, q)

rises_over : (r : Running) (later : List Action) → collects later ≡ [] → reserved r ≤ reserved (run r later)
unfolding run
rises_over r [] none = same_words _
rises_over r (begin seat c ∷ later) none = then_more _ _ _ (act_rises r (begin seat c) refl) (rises_over (act r (begin seat c)) later none)
rises_over r (step seat ∷ later) none = then_more _ _ _ (act_rises r (step seat) refl) (rises_over (act r (step seat)) later none)
rises_over r (collect ∷ later) none = absurd (cc)

-- while the seats alone act the words that are reserved grow no fewer
pub reserved_later : (g : Geometry) (log later : List Action) → collects later ≡ []
    → word_of g (run_from_opening g log).core.row W1 ≤ word_of g (run_from_opening g (log ++ later)).core.row W1
reserved_later g log later none = subst (λ (r : Running). reserved (run_from_opening g log) ≤ reserved r) (sym (run_more g log later)) (rises_over (run_from_opening g log) later none)

-- an event that finds too many words reserved leaves them there
found_stays : (r : Running) (words : ℕ) → FindsLiveOver r.core words → words ≤ reserved (act r collect)
unfolding act next_collected
found_stays r words finds =
    let rises : Rises (event_by_collector r.core) = subst Rises (sym finds.loads) (λ at old. same_words old) in
    let up = row_rises r.core.row (event_by_collector r.core) rises in
    omega (arith, up, finds.reserved)

pub found_reserved : (g : Geometry) (log : List Action) (words : ℕ) → FindsLiveOver (run_from_opening g log).core words
    → words ≤ word_of g (run_from_opening g (log ++ collect ∷ [])).core.row W1
unfolding run
found_reserved g log words finds = subst (λ (r : Running). words ≤ reserved r) (sym (run_more g log (collect ∷ []))) (found_stays (run_from_opening g log) words finds)
