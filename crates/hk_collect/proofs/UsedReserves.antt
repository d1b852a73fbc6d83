-- Who adds to W1: a call that holds a claim and has still to reserve, and the collector where it does. No other event does so.
use Rattle.std.proofs.Common.{◌≡◌, ◌≢◌, ℕ, ◌+◌, Bool, true, false, refl, sym, ap, arith, Option, Some, None}
use Rattle.std.proofs.lemmas.Bool.{eqb-true}
use Rattle.std.specs.Prelude.{nat_eq, not, ◌&&◌, if◌then◌else◌}
use Rattle.hk_words.specs.declared.geometry.Geometry.{Geometry}
use Rattle.hk_words.specs.declared.call.Call.{Call}
use Rattle.hk_words.specs.declared.call.Call.TheVariants as call
use Rattle.hk_words.specs.declared.shape.Shape.{Shape}
use Rattle.hk_words.specs.Layout as layout
use Rattle.hk_words.specs.Row.{w0_at, w1_at, header_at, frame_at}
use Rattle.hk_core.specs.declared.event.Event.{Event}
use Rattle.hk_core.specs.declared.event.Event.TheVariants as event
use Rattle.hk_core.specs.declared.flight.Flight.{Flight}
use Rattle.hk_core.specs.declared.spot.Spot.{Spot}
use Rattle.hk_core.specs.declared.spot.Line.{Line}
use Rattle.hk_core.specs.declared.spot.Line.TheVariants as line
use Rattle.hk_core.specs.declared.spot.Stage.{Stage}
use Rattle.hk_core.specs.declared.spot.Stage.TheVariants as stage
use Rattle.hk_core.specs.Collect as collects
use Rattle.hk_core.specs.Flights as f
use Rattle.hk_core.specs.Flights.{to_reserve, hand_of_flight}
use Rattle.hk_core.specs.Lines as l
use Rattle.hk_core.specs.Step as table
use Rattle.hk_core.specs.Step.{reference_size}

module _ (g : Geometry) (x : Flight) where
  -- an event that adds to W1 is that of a claim in hand that has still to reserve
  abbrev pub Reserves : Option Event → Type 0
  Reserves e = (words : ℕ) → e ≡ Some (event.Add (w1_at g) words) → (words ≡ reference_size x.item) × (hand_of_flight g x ≡ to_reserve x.item (layout.w0_cycle x.word))

  by_test : (test : Bool) (a b : Option Event) → (test ≡ true → Reserves a) → (test ≡ false → Reserves b) → Reserves (if test then a else b)
  by_test true a b yes' no' = yes' refl
  by_test false a b yes' no' = no' refl

  rests : Reserves None
  rests words e = absurd (cc)

  loads : (word : ℕ) → Reserves (Some (event.Load word))
  loads word words e = absurd (cc)

  writes : (word v : ℕ) → Reserves (Some (event.Write word v))
  writes word v words e = absurd (cc)

  subtracts : (word v : ℕ) → Reserves (Some (event.Sub word v))
  subtracts word v words e = absurd (cc)

  raises_mark : (word v : ℕ) → Reserves (Some (event.Max word v))
  raises_mark word v words e = absurd (cc)

  adds_elsewhere : (word v : ℕ) → word ≢ w1_at g → Reserves (Some (event.Add word v))
  adds_elsewhere word v other words e = let same : word ≡ w1_at g = cc in absurd (other same)

  enters : Reserves (table.enter_object g x)
  unfolding table.enter_object
  enters = adds_elsewhere (header_at g (layout.reference_number x.entered)) layout.entering (λ e. absurd (omega arith))

  leaves : Reserves (table.leave_object g x)
  unfolding table.leave_object
  leaves = subtracts _ _

  enters_frame : Reserves (table.enter_frame g x)
  unfolding table.enter_frame
  enters_frame = adds_elsewhere (frame_at g x.seat) layout.entering (λ e. absurd (omega arith))

  leaves_frame : Reserves (table.leave_frame g x)
  unfolding table.leave_frame
  leaves_frame = subtracts _ _

  reads_cell : (p : ℕ) → Reserves (table.read_cell g p)
  unfolding table.read_cell
  reads_cell p = loads _

  writes_cell : (p v : ℕ) → Reserves (table.write_cell g p v)
  unfolding table.write_cell
  writes_cell p v = writes _ _

  loads_w0 : Reserves (table.load_w0 g)
  unfolding table.load_w0
  loads_w0 = loads _

  writes_register : (r v : ℕ) → Reserves (table.write_register g x r v)
  unfolding table.write_register
  writes_register r v = writes _ _

  claims : Reserves (table.claim g x)
  unfolding table.claim
  claims = by_test (nat_eq x.item 0) None (Some (event.Max _ _)) (λ _. rests) (λ _. raises_mark _ _)

  links : Reserves (table.link g x)
  unfolding table.link
  links = by_test (x.claimer && table.reserved_fits g x.offset x.item) (Some (event.Write _ x.item)) None (λ _. writes _ _) (λ _. rests)

  raises : (shape : Shape) → Reserves (table.raise g shape)
  unfolding table.raise
  raises shape = adds_elsewhere (w0_at g) _ (λ e. absurd (omega arith))

  loads_entry : Reserves (table.load_entry g x)
  unfolding table.load_entry
  loads_entry = loads _

  writes_header : Reserves (table.write_header g x)
  unfolding table.write_header
  writes_header = writes _ _

  reserves : f.reserves_at x.call x.place ≡ true → Reserves (table.reserve g x)
  unfolding table.reserve hand_of_flight
  reserves here = by_test x.claimer (Some (event.Add (w1_at g) (reference_size x.item))) None
      (λ claimer words e. (let same : reference_size x.item ≡ words = cc in sym same, rw (claimer, here) refl)) (λ _. rests)

  -- the calls
  load_reserves : (dest reg field : ℕ) → x.call ≡ call.Load dest reg field → Reserves (table.load_event g x dest field)
  unfolding table.load_event f.reserves_at
  load_reserves dest reg field is_load =
      by_test (nat_eq x.place 1) _ _ (λ e. enters_frame)
      (λ _. by_test (nat_eq x.place 2) _ _ (λ e. enters)
      (λ _. by_test (nat_eq x.place 3) _ _ (λ e. loads_w0)
      (λ _. by_test (nat_eq x.place 4) _ _ (λ e. reads_cell (table.reference_cell x field))
      (λ _. by_test (nat_eq x.place 5) _ _ (λ e. claims)
      (λ _. by_test (nat_eq x.place 6) _ _ (λ e. let at = eqb-true x.place 6 e in reserves (rw (is_load, at) refl))
      (λ _. by_test (nat_eq x.place 7) _ _ (λ e. links)
      (λ _. by_test (nat_eq x.place 8) _ _ (λ e. writes_register dest x.item)
      (λ _. by_test (nat_eq x.place 9) _ _ (λ e. leaves)
      (λ _. by_test (nat_eq x.place 10) _ _ (λ e. leaves_frame)
      (λ _. rests))))))))))

  store_reserves : (reg field from : ℕ) → x.call ≡ call.Store reg field from → Reserves (table.store_event g x field)
  unfolding table.store_event f.reserves_at
  store_reserves reg field from is_store =
      by_test (nat_eq x.place 1) _ _ (λ e. enters)
      (λ _. by_test (nat_eq x.place 2) _ _ (λ e. by_test (nat_eq x.item 0) _ _ (λ null. rests) (λ some. loads_w0))
      (λ _. by_test (nat_eq x.place 3) _ _ (λ e. claims)
      (λ _. by_test (nat_eq x.place 4) _ _ (λ e. let at = eqb-true x.place 4 e in reserves (rw (is_store, at) refl))
      (λ _. by_test (nat_eq x.place 5) _ _ (λ e. links)
      (λ _. by_test (nat_eq x.place 6) _ _ (λ e. writes_cell (table.reference_cell x field) x.item)
      (λ _. by_test (nat_eq x.place 7) _ _ (λ e. leaves)
      (λ _. rests)))))))

  new_reserves : (dest : ℕ) (shape : Shape) → Reserves (table.new_event g x dest shape)
  unfolding table.new_event
  new_reserves dest shape =
      by_test (nat_eq x.place 1) _ _ (λ e. loads_w0)
      (λ _. by_test (nat_eq x.place 2) _ _ (λ e. by_test x.full _ _ (λ full. rests) (λ found. enters_frame))
      (λ _. by_test (nat_eq x.place 3) _ _ (λ e. by_test x.full _ _ (λ full. rests) (λ found. raises shape))
      (λ _. by_test (nat_eq x.place 4) _ _ (λ e. by_test x.full _ _ (λ full. rests) (λ found. loads_entry))
      (λ _. by_test (nat_eq x.place 5) _ _ (λ e. by_test x.full _ _ (λ full. rests) (λ found. writes_header))
      (λ _. by_test (nat_eq x.place 6) _ _ (λ e. by_test x.full _ _ (λ full. rests) (λ found. writes_register dest (table.new_reference x shape)))
      (λ _. by_test (nat_eq x.place 7) _ _ (λ e. by_test (x.full && not x.raised) _ _ (λ full. rests) (λ busy. leaves_frame))
      (λ _. rests)))))))

  pub call_reserves : Reserves (table.event_of g x)
  unfolding table.event_of table.event_at table.get_event table.put_event table.move_event table.clear_event
  call_reserves = each x.call refl
    where
      each : (call' : Call) → x.call ≡ call' → Reserves (table.event_at g x call')
      each (call.Get reg field) e =
          by_test (nat_eq x.place 1) _ _ (λ e. enters) (λ _. by_test (nat_eq x.place 2) _ _ (λ e. reads_cell (table.number_cell x field))
          (λ _. by_test (nat_eq x.place 3) _ _ (λ e. leaves) (λ _. rests)))
      each (call.Put reg field value) e =
          by_test (nat_eq x.place 1) _ _ (λ e. enters) (λ _. by_test (nat_eq x.place 2) _ _ (λ e. writes_cell (table.number_cell x field) value)
          (λ _. by_test (nat_eq x.place 3) _ _ (λ e. leaves) (λ _. rests)))
      each (call.Load dest reg field) e = load_reserves dest reg field e
      each (call.Store reg field from) e = store_reserves reg field from e
      each (call.Move dest from) e =
          by_test (nat_eq x.place 1) _ _ (λ e. enters_frame) (λ _. by_test (nat_eq x.place 2) _ _ (λ e. writes_register dest x.item)
          (λ _. by_test (nat_eq x.place 3) _ _ (λ e. leaves_frame) (λ _. rests)))
      each (call.Clear dest) e = by_test (nat_eq x.place 1) _ _ (λ e. writes_register dest 0) (λ _. rests)
      each (call.New dest shape) e = new_reserves dest shape
      each (call.Same a b) e = rests
      each (call.IsNull reg) e = rests

module _ (g : Geometry) (t : Spot) where
  abbrev pub ReservesAtSpot : Option Event → Type 0
  ReservesAtSpot e = (words : ℕ) → e ≡ Some (event.Add (w1_at g) words) → (words ≡ reference_size t.cell) × (l.hand_of_spot t ≡ to_reserve t.cell t.cycle)

  spot_rests : ReservesAtSpot None
  spot_rests words e = absurd (cc)

  spot_loads : (word : ℕ) → ReservesAtSpot (Some (event.Load word))
  spot_loads word words e = absurd (cc)

  spot_writes : (word v : ℕ) → ReservesAtSpot (Some (event.Write word v))
  spot_writes word v words e = absurd (cc)

  spot_swaps : (word v : ℕ) → ReservesAtSpot (Some (event.Swap word v))
  spot_swaps word v words e = absurd (cc)

  spot_trades : (word current new : ℕ) → ReservesAtSpot (Some (event.Trade word current new))
  spot_trades word current new words e = absurd (cc)

  spot_claims : ReservesAtSpot (collects.claim_cell g t)
  unfolding collects.claim_cell
  spot_claims words e = absurd (cc)

  spot_links : ReservesAtSpot (collects.link_cell g t)
  unfolding collects.link_cell
  spot_links = spot_writes _ _

  spot_reserves : l.hand_of_spot t ≡ to_reserve t.cell t.cycle → ReservesAtSpot (collects.reserve_cell g t)
  unfolding collects.reserve_cell
  spot_reserves holds words e = (let same : reference_size t.cell ≡ words = cc in sym same, holds)

  register_reserves : (s r : ℕ) (st : Stage) → t.line ≡ line.Register s r st → ReservesAtSpot (collects.register_event g t s r st)
  unfolding collects.register_event l.hand_of_spot l.hand_at_line l.hand_at
  register_reserves s r stage.Read at = spot_loads _
  register_reserves s r stage.Claim at = spot_claims
  register_reserves s r stage.Reserve at = spot_reserves (ap (l.hand_at_line t) at)
  register_reserves s r stage.Tie at = spot_links
  register_reserves s r stage.Write at = spot_rests
  register_reserves s r stage.Mark at = spot_rests
  register_reserves s r stage.Empty at = spot_rests

  cell_reserves : (i : ℕ) (st : Stage) → t.line ≡ line.Cell i st → ReservesAtSpot (collects.cell_event g t i st)
  unfolding collects.cell_event l.hand_of_spot l.hand_at_line l.hand_at
  cell_reserves i stage.Read at = spot_loads _
  cell_reserves i stage.Claim at = spot_claims
  cell_reserves i stage.Reserve at = spot_reserves (ap (l.hand_at_line t) at)
  cell_reserves i stage.Tie at = spot_links
  cell_reserves i stage.Write at = spot_writes _ _
  cell_reserves i stage.Mark at = spot_rests
  cell_reserves i stage.Empty at = spot_rests

  sweep_reserves : (n : ℕ) (st : Stage) → ReservesAtSpot (collects.sweep_event g t n st)
  unfolding collects.sweep_event
  sweep_reserves n stage.Read = spot_loads _
  sweep_reserves n stage.Claim = spot_rests
  sweep_reserves n stage.Reserve = spot_rests
  sweep_reserves n stage.Tie = spot_rests
  sweep_reserves n stage.Write = spot_writes _ _
  sweep_reserves n stage.Mark = spot_writes _ _
  sweep_reserves n stage.Empty = spot_writes _ _

  pub line_reserves : (ln : Line) → t.line ≡ ln → ReservesAtSpot (collects.event_at_line g t ln)
  unfolding collects.event_at_line collects.rest_event collects.frame_event collects.frame_trade_event collects.scan_event collects.link_event collects.look_event collects.object_trade_event collects.pass_event collects.pass_head_event collects.clear_event collects.reset_event
  line_reserves line.Rest at = by_worn (nat_eq t.cycle collects.last_cycle)
    where
      by_worn : (worn : Bool) → ReservesAtSpot (if worn then None else Some (event.Swap (w0_at g) (layout.pack_w0 0 0 (t.cycle + 1))))
      by_worn true = spot_rests
      by_worn false = spot_swaps _ _
  line_reserves (line.Frame s) at = spot_loads _
  line_reserves (line.Register s r st) at = register_reserves s r st at
  line_reserves (line.FrameTrade s) at = spot_trades _ _ _
  line_reserves line.Scan at = spot_loads _
  line_reserves line.Link at = spot_loads _
  line_reserves line.Look at = spot_loads _
  line_reserves (line.Cell i st) at = cell_reserves i st at
  line_reserves line.ObjectTrade at = spot_trades _ _ _
  line_reserves (line.Pass n) at = spot_loads _
  line_reserves (line.PassHead n) at = spot_loads _
  line_reserves (line.Sweep n st) at = sweep_reserves n st
  line_reserves (line.Clear i) at = spot_writes _ _
  line_reserves line.Reset at = spot_writes _ _
