-- Which steps take words, and what the collector does to the count of the words used.
use Rattle.std.proofs.Common.{◌≡◌, ◌≢◌, ℕ, ◌+◌, ◌<◌, true, false, List, inl, inr, refl, sym, subst, ◌∙◌, ap, arith, Option, Some, None, get_or-set_other}
use Rattle.std.proofs.lemmas.Bool.{cases_Bool, eqb-true}
use Rattle.std.specs.Prelude.{nat_eq, not, ◌&&◌, if◌then◌else◌}
use Rattle.hk_words.specs.declared.geometry.Geometry.{Geometry}
use Rattle.hk_words.specs.declared.call.Call.{Call}
use Rattle.hk_words.specs.declared.call.Call.TheVariants as call
use Rattle.hk_words.specs.declared.shape.Shape.{Shape}
use Rattle.hk_words.specs.Geometry.{tasks}
use Rattle.hk_words.specs.Layout as layout
use Rattle.hk_words.specs.Row.{word_of, w0_at, mark_at, register_at}
use Rattle.hk_words.specs.Row.Slot.{W0}
use Rattle.hk_words.specs.Shape.{size}
use Rattle.hk_model.specs.History.{History}
use Rattle.hk_core.specs.declared.event.Event.{Event}
use Rattle.hk_core.specs.declared.event.Event.TheVariants as event
use Rattle.hk_core.specs.declared.flight.Flight.{Flight}
use Rattle.hk_core.specs.declared.outcome.Fault.{Fault}
use Rattle.hk_core.specs.declared.spot.Line.{Line}
use Rattle.hk_core.specs.declared.spot.Line.TheVariants as line
use Rattle.hk_core.specs.declared.spot.Stage.{Stage}
use Rattle.hk_core.specs.declared.spot.Stage.TheVariants as stage
use Rattle.hk_core.specs.declared.spot.Work.TheVariants.{Flipped}
use Rattle.hk_core.specs.Event as events
use Rattle.hk_core.specs.Event.{fired, fired_if}
use Rattle.hk_core.specs.State.{State}
use Rattle.hk_core.specs.Step as table
use Rattle.hk_core.specs.Step.{next, event_by}
use Rattle.hk_core.specs.Begin.{refusal, accepted, after_begin, begun_or}
use Rattle.hk_core.specs.Collect as collect
use Rattle.hk_core.specs.Collect.{last_cycle, next_collected, work_by_collector, event_by_collector, event_at_line}
use Rattle.hk_core.specs.View.{Words, words_of, decoded, raw, flight_at}
use Rattle.hk_core.specs.Flights as f
use Rattle.hk_core.specs.Lawful.{Lawful}
use Rattle.hk_core.proofs.Columns.{fired_kept, fired_if_none, fired_if_some}
use Rattle.hk_core.proofs.kinds.NewWords.{words-raise, used_fits, objects_fit}
use Rattle.hk_collect.specs.Taken.{Takes, taken_at, BeginsTakeNone, StepsTake, EventsTakeNone, FlipsBeginCycles}
use Rattle.hk_collect.specs.Works.{Flips}
use Rattle.hk_collect.proofs.spots.SpotWords.{words-flip}
use Rattle.hk_collect.proofs.Causes.{has_causes}
use Rattle.hk_collect.proofs.MeasureAttempts.{event_at}
use Rattle.hk_collect.proofs.Small.{by_test}

-- WORDS AND ROWS

module _ (g : Geometry) (row : List ℕ) where
  -- so many words more are used in another row, in the same cycle
  record TakesIn (v : List ℕ) (words : ℕ) : Type 0 where
    used : layout.w0_words (word_of g v W0) ≡ layout.w0_words (word_of g row W0) + words
    cycle : layout.w0_cycle (word_of g v W0) ≡ layout.w0_cycle (word_of g row W0)

  abbrev TakesBy : ℕ → Option Event → Type 0
  TakesBy words e = TakesIn (fired_if row e) words

  same_w0 : (v : List ℕ) → word_of g v W0 ≡ word_of g row W0 → TakesIn v 0
  same_w0 v e = record { used = let u = ap layout.w0_words e in omega arith; cycle = ap layout.w0_cycle e }

  -- an event at another word, a load, and a rest
  elsewhere : (e : Event) → (w0_at g ≡ events.word_of e → ⊥) → TakesBy 0 (Some e)
  unfolding fired_if fired
  elsewhere e other = same_w0 (fired_if row (Some e)) (get_or-set_other row (events.word_of e) (w0_at g) (events.word_after e (events.old_of row e)) 0 other)

  loads : (word : ℕ) → TakesBy 0 (Some (event.Load word))
  loads word = same_w0 (fired_if row (Some (event.Load word))) (ap (λ (r : List ℕ). word_of g r W0) (fired_if_some row (event.Load word) ∙ fired_kept row (event.Load word) refl))

  rests : TakesBy 0 None
  rests = same_w0 (fired_if row None) (ap (λ (r : List ℕ). word_of g r W0) (fired_if_none row))

-- the raise of W0
raise_takes : (c : State) (history : History) (s : ℕ) → s < tasks c.geometry → Lawful c history
    → (dest : ℕ) (shape : Shape) → (flight_at c s).call ≡ call.New dest shape → (flight_at c s).place ≡ 3 → (flight_at c s).full ≡ false
    → TakesBy c.geometry c.row (size shape) (table.raise c.geometry shape)
unfolding table.raise f.will_raise f.is_new_at fired_if words_of decoded raw
raise_takes c history s below h dest shape is_new at room =
    let g = c.geometry in
    let w = words_of g c.row in
    let will : f.will_raise (flight_at c s) ≡ true = rw (is_new, at, room) refl in
    let used = used_fits g w.used (flight_at c) s shape below will h.facts.used_stays_bounded in
    let objects = objects_fit g w.objects (flight_at c) s below will h.facts.objects_stay_bounded in
    let after' = words-raise g c.row h.sized.row (size shape) used objects in
    record { used = ap (λ (u : Words). u.used) after'; cycle = ap (λ (u : Words). u.cycle) after' }

-- SEATS

module _ (g : Geometry) (row : List ℕ) (x : Flight)
    (raises : (dest : ℕ) (shape : Shape) → x.call ≡ call.New dest shape → x.place ≡ 3 → x.full ≡ false → TakesBy g row (size shape) (table.raise g shape)) where
  abbrev Rests : Option Event → Type 0
  Rests = TakesBy g row 0

  -- every event but the raise of W0 is elsewhere, a load or a rest
  enters_object : Rests (table.enter_object g x)
  unfolding table.enter_object
  enters_object = elsewhere g row _ (λ e. omega (arith, e))

  leaves_object : Rests (table.leave_object g x)
  unfolding table.leave_object
  leaves_object = elsewhere g row _ (λ e. omega (arith, e))

  enters_frame : Rests (table.enter_frame g x)
  unfolding table.enter_frame
  enters_frame = elsewhere g row _ (λ e. omega (arith, e))

  leaves_frame : Rests (table.leave_frame g x)
  unfolding table.leave_frame
  leaves_frame = elsewhere g row _ (λ e. omega (arith, e))

  reads : (p : ℕ) → Rests (table.read_cell g p)
  unfolding table.read_cell
  reads p = loads g row _

  writes : (p v : ℕ) → Rests (table.write_cell g p v)
  unfolding table.write_cell
  writes p v = elsewhere g row _ (λ e. omega (arith, e))

  writes_register : (reg v : ℕ) → Rests (table.write_register g x reg v)
  unfolding table.write_register
  writes_register reg v = elsewhere g row _ (λ e. omega (arith, e))

  loads_w0 : Rests (table.load_w0 g)
  unfolding table.load_w0
  loads_w0 = loads g row _

  loads_entry : Rests (table.load_entry g x)
  unfolding table.load_entry
  loads_entry = loads g row _

  claims : Rests (table.claim g x)
  unfolding table.claim
  claims = by_test Rests (nat_eq x.item 0) _ _ (λ null. rests g row) (λ some. elsewhere g row _ (λ e. omega (arith, e)))

  reserves : Rests (table.reserve g x)
  unfolding table.reserve
  reserves = by_test Rests x.claimer _ _ (λ yes'. elsewhere g row _ (λ e. omega (arith, e))) (λ other. rests g row)

  links : Rests (table.link g x)
  unfolding table.link
  links = by_test Rests (x.claimer && table.reserved_fits g x.offset x.item) _ _
      (λ fits. elsewhere g row _ (λ e. omega (arith, e))) (λ other. rests g row)

  writes_header : Rests (table.write_header g x)
  unfolding table.write_header
  writes_header = elsewhere g row _ (λ e. omega (arith, e))

  get_takes : (field : ℕ) → Rests (table.get_event g x field)
  unfolding table.get_event
  get_takes field =
      by_test Rests (nat_eq x.place 1) _ _ (λ e. enters_object)
      (λ _. by_test Rests (nat_eq x.place 2) _ _ (λ e. reads _)
      (λ _. by_test Rests (nat_eq x.place 3) _ _ (λ e. leaves_object) (λ _. rests g row)))

  put_takes : (field value : ℕ) → Rests (table.put_event g x field value)
  unfolding table.put_event
  put_takes field value =
      by_test Rests (nat_eq x.place 1) _ _ (λ e. enters_object)
      (λ _. by_test Rests (nat_eq x.place 2) _ _ (λ e. writes _ value)
      (λ _. by_test Rests (nat_eq x.place 3) _ _ (λ e. leaves_object) (λ _. rests g row)))

  move_takes : (dest : ℕ) → Rests (table.move_event g x dest)
  unfolding table.move_event
  move_takes dest =
      by_test Rests (nat_eq x.place 1) _ _ (λ e. enters_frame)
      (λ _. by_test Rests (nat_eq x.place 2) _ _ (λ e. writes_register dest x.item)
      (λ _. by_test Rests (nat_eq x.place 3) _ _ (λ e. leaves_frame) (λ _. rests g row)))

  clear_takes : (dest : ℕ) → Rests (table.clear_event g x dest)
  unfolding table.clear_event
  clear_takes dest = by_test Rests (nat_eq x.place 1) _ _ (λ e. writes_register dest 0) (λ _. rests g row)

  load_takes : (dest field : ℕ) → Rests (table.load_event g x dest field)
  unfolding table.load_event
  load_takes dest field =
      by_test Rests (nat_eq x.place 1) _ _ (λ e. enters_frame)
      (λ _. by_test Rests (nat_eq x.place 2) _ _ (λ e. enters_object)
      (λ _. by_test Rests (nat_eq x.place 3) _ _ (λ e. loads_w0)
      (λ _. by_test Rests (nat_eq x.place 4) _ _ (λ e. reads _)
      (λ _. by_test Rests (nat_eq x.place 5) _ _ (λ e. claims)
      (λ _. by_test Rests (nat_eq x.place 6) _ _ (λ e. reserves)
      (λ _. by_test Rests (nat_eq x.place 7) _ _ (λ e. links)
      (λ _. by_test Rests (nat_eq x.place 8) _ _ (λ e. writes_register dest x.item)
      (λ _. by_test Rests (nat_eq x.place 9) _ _ (λ e. leaves_object)
      (λ _. by_test Rests (nat_eq x.place 10) _ _ (λ e. leaves_frame) (λ _. rests g row))))))))))

  store_takes : (field : ℕ) → Rests (table.store_event g x field)
  unfolding table.store_event
  store_takes field =
      by_test Rests (nat_eq x.place 1) _ _ (λ e. enters_object)
      (λ _. by_test Rests (nat_eq x.place 2) _ _ (λ e. by_test Rests (nat_eq x.item 0) _ _ (λ null. rests g row) (λ some. loads_w0))
      (λ _. by_test Rests (nat_eq x.place 3) _ _ (λ e. claims)
      (λ _. by_test Rests (nat_eq x.place 4) _ _ (λ e. reserves)
      (λ _. by_test Rests (nat_eq x.place 5) _ _ (λ e. links)
      (λ _. by_test Rests (nat_eq x.place 6) _ _ (λ e. writes _ x.item)
      (λ _. by_test Rests (nat_eq x.place 7) _ _ (λ e. leaves_object) (λ _. rests g row)))))))

  -- a New takes its words at its third place, where it isn't full
  new_takes : (dest : ℕ) (shape : Shape) → x.call ≡ call.New dest shape
      → TakesBy g row (if nat_eq x.place 3 && not x.full then size shape else 0) (table.new_event g x dest shape)
  unfolding table.new_event
  new_takes dest shape is_new = elim (cases_Bool (nat_eq x.place 3)) [
    | inl third ↦ at_third third
    | inr other ↦ subst (λ n. TakesBy g row n (table.new_event g x dest shape)) (sym (none other)) (elsewhen other)
  ]
    where
      none : nat_eq x.place 3 ≡ false → (if nat_eq x.place 3 && not x.full then size shape else 0) ≡ 0
      none other = rw other refl

      at_third : nat_eq x.place 3 ≡ true
          → TakesBy g row (if nat_eq x.place 3 && not x.full then size shape else 0) (table.new_event g x dest shape)
      at_third third =
          let at : x.place ≡ 3 = eqb-true x.place 3 third in
          elim (cases_Bool x.full) [
            | inl full ↦ rw (at, full) (rests g row)
            | inr room ↦ rw (at, room) (raises dest shape is_new at room)
          ]

      elsewhen : nat_eq x.place 3 ≡ false → Rests (table.new_event g x dest shape)
      elsewhen other =
          by_test Rests (nat_eq x.place 1) _ _ (λ e. loads_w0)
          (λ _. by_test Rests (nat_eq x.place 2) _ _ (λ e. by_test Rests x.full _ _ (λ full. rests g row) (λ room. enters_frame))
          (λ _. by_test Rests (nat_eq x.place 3) _ _ (λ e. absurd (let b : true ≡ false = sym e ∙ other in cc))
          (λ _. by_test Rests (nat_eq x.place 4) _ _ (λ e. by_test Rests x.full _ _ (λ full. rests g row) (λ room. loads_entry))
          (λ _. by_test Rests (nat_eq x.place 5) _ _ (λ e. by_test Rests x.full _ _ (λ full. rests g row) (λ room. writes_header))
          (λ _. by_test Rests (nat_eq x.place 6) _ _ (λ e. by_test Rests x.full _ _ (λ full. rests g row) (λ room. writes_register dest (table.new_reference x shape)))
          (λ _. by_test Rests (nat_eq x.place 7) _ _ (λ e. by_test Rests (x.full && not x.raised) _ _ (λ full. rests g row) (λ busy. leaves_frame))
          (λ _. rests g row)))))))

  call_takes : (k : Call) → x.call ≡ k → TakesBy g row (taken_at x k) (table.event_at g x k)
  unfolding table.event_at taken_at
  call_takes (call.Get reg field) e = get_takes field
  call_takes (call.Put reg field value) e = put_takes field value
  call_takes (call.Load dest reg field) e = load_takes dest field
  call_takes (call.Store reg field from) e = store_takes field
  call_takes (call.Move dest from) e = move_takes dest
  call_takes (call.Clear dest) e = clear_takes dest
  call_takes (call.New dest shape) e = new_takes dest shape e
  call_takes (call.Same a b) e = rests g row
  call_takes (call.IsNull reg) e = rests g row

-- the law of seats
pub steps_take : StepsTake
unfolding next event_by table.event_of flight_at
steps_take c history s below h =
    let o = call_takes c.geometry c.row (flight_at c s) raises (flight_at c s).call refl in
    record { used = o.used; cycle = o.cycle }
  where
    raises : (dest : ℕ) (shape : Shape) → (flight_at c s).call ≡ call.New dest shape → (flight_at c s).place ≡ 3 → (flight_at c s).full ≡ false
        → TakesBy c.geometry c.row (size shape) (table.raise c.geometry shape)
    raises = raise_takes c history s below h

pub begins_take_none : BeginsTakeNone
unfolding after_begin accepted
begins_take_none c seat call' = by_fault (refusal c seat call')
  where
    by_fault : (fault : Option Fault) → Takes c (begun_or fault (accepted c seat call') c) 0
    by_fault None = record { used = omega arith; cycle = refl }
    by_fault (Some fault) = record { used = omega arith; cycle = refl }

-- THE COLLECTOR

module _ (c : State) where
  abbrev Kept : Option Event → Type 0
  Kept = TakesBy c.geometry c.row 0

  still : Kept None
  still = rests c.geometry c.row

  at_other_word : (e : Event) → (w0_at c.geometry ≡ events.word_of e → ⊥) → Kept (Some e)
  at_other_word = elsewhere c.geometry c.row

  at_load : (word : ℕ) → Kept (Some (event.Load word))
  at_load = loads c.geometry c.row

  claims_cell : Kept (collect.claim_cell c.geometry c.spot)
  unfolding collect.claim_cell
  claims_cell = at_other_word _ (λ e. omega (arith, e))

  reserves_cell : Kept (collect.reserve_cell c.geometry c.spot)
  unfolding collect.reserve_cell
  reserves_cell = at_other_word _ (λ e. omega (arith, e))

  links_cell : Kept (collect.link_cell c.geometry c.spot)
  unfolding collect.link_cell
  links_cell = at_other_word _ (λ e. omega (arith, e))

  register_kept : (s r : ℕ) (st : Stage) → Kept (collect.register_event c.geometry c.spot s r st)
  unfolding collect.register_event
  register_kept s r stage.Read = at_load (register_at c.geometry s r)
  register_kept s r stage.Claim = claims_cell
  register_kept s r stage.Reserve = reserves_cell
  register_kept s r stage.Tie = links_cell
  register_kept s r stage.Write = still
  register_kept s r stage.Mark = still
  register_kept s r stage.Empty = still

  cell_kept : (i : ℕ) (st : Stage) → Kept (collect.cell_event c.geometry c.spot i st)
  unfolding collect.cell_event
  cell_kept i stage.Read = at_load _
  cell_kept i stage.Claim = claims_cell
  cell_kept i stage.Reserve = reserves_cell
  cell_kept i stage.Tie = links_cell
  cell_kept i stage.Write = at_other_word _ (λ e. omega (arith, e))
  cell_kept i stage.Mark = still
  cell_kept i stage.Empty = still

  sweep_kept : (n : ℕ) (st : Stage) → Kept (collect.sweep_event c.geometry c.spot n st)
  unfolding collect.sweep_event
  sweep_kept n stage.Read = at_load (mark_at c.geometry n)
  sweep_kept n stage.Claim = still
  sweep_kept n stage.Reserve = still
  sweep_kept n stage.Tie = still
  sweep_kept n stage.Write = at_other_word _ (λ e. omega (arith, e))
  sweep_kept n stage.Mark = at_other_word _ (λ e. omega (arith, e))
  sweep_kept n stage.Empty = at_other_word _ (λ e. omega (arith, e))

  -- at Rest there is the flip, or no event
  rest_kept : c.spot.line ≡ line.Rest → work_by_collector c ≢ Flipped → Kept (collect.rest_event c.geometry c.spot)
  unfolding collect.rest_event event_at_line
  rest_kept at other = elim (cases_Bool (nat_eq c.spot.cycle last_cycle)) [
    | inl last ↦ rw last still
    | inr more ↦ absurd (other ((has_causes c).flipped.1 (record { rests = at; swaps = event_at c line.Rest at ∙ rw more refl })))
  ]

  line_kept : (ln : Line) → c.spot.line ≡ ln → work_by_collector c ≢ Flipped → Kept (event_at_line c.geometry c.spot ln)
  unfolding event_at_line collect.frame_event collect.frame_trade_event collect.scan_event collect.link_event collect.look_event collect.object_trade_event collect.pass_event collect.pass_head_event collect.clear_event collect.reset_event
  line_kept line.Rest at other = rest_kept at other
  line_kept (line.Frame s) at other = at_load _
  line_kept (line.Register s r st) at other = register_kept s r st
  line_kept (line.FrameTrade s) at other = at_other_word _ (λ e. omega (arith, e))
  line_kept line.Scan at other = at_load _
  line_kept line.Link at other = at_load _
  line_kept line.Look at other = at_load _
  line_kept (line.Cell i st) at other = cell_kept i st
  line_kept line.ObjectTrade at other = at_other_word _ (λ e. omega (arith, e))
  line_kept (line.Pass n) at other = at_load _
  line_kept (line.PassHead n) at other = at_load _
  line_kept (line.Sweep n st) at other = sweep_kept n st
  line_kept (line.Clear i) at other = at_other_word _ (λ e. omega (arith, e))
  line_kept line.Reset at other = at_other_word _ (λ e. omega (arith, e))

-- the laws of the collector
pub events_take_none : EventsTakeNone
unfolding next_collected event_by_collector collect.spot_event
events_take_none c history h other = let o = line_kept c c.spot.line refl other in record { used = o.used; cycle = o.cycle }

pub flips_begin_cycles : FlipsBeginCycles
unfolding next_collected fired_if words_of decoded raw
flips_begin_cycles c history h flips =
    let o : Flips c = (has_causes c).flipped.0 flips in
    let after' = ap (λ (e : Option Event). words_of c.geometry (fired_if c.row e)) o.swaps ∙ words-flip c.geometry c.row h.sized.row (c.spot.cycle + 1) in
    let knows = h.facts.spot_knows_cycle in
    record { used = ap (λ (u : Words). u.used) after'; cycle = ap (λ (u : Words). u.cycle) after' ∙ ap (λ n. n + 1) knows }
