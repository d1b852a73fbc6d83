-- Attempts of the collector. Its own events in an attempt are on other words than the one that the attempt loaded, so that
-- word is untouched as long as no task took a step; and the exchange that finds it isn't lost.
use Rattle.std.proofs.Common.{◌≡◌, ◌≢◌, ℕ, ◌+◌, ◌-◌, ◌*◌, ◌<◌, ◌≤◌, Bool, true, false, List, inl, inr, refl, sym, ◌∙◌, ap, arith, Option, Some, get_or, get_or-set_other}
use Rattle.std.proofs.lemmas.Bool.{cases_Bool, eqb-false}
use Rattle.std.specs.Prelude.{max, nat_eq, nat_lt, if◌then◌else◌}
use Rattle.hk_words.specs.declared.geometry.Geometry.{Geometry}
use Rattle.hk_words.specs.Geometry.{tasks, numbers}
use Rattle.hk_words.specs.Layout as layout
use Rattle.hk_words.specs.Row.{w1_at, header_at, mark_at, frame_at, register_at, space_at, place_at}
use Rattle.hk_model.specs.History.{History}
use Rattle.hk_core.specs.declared.event.Event.{Event}
use Rattle.hk_core.specs.declared.event.Event.TheVariants as event
use Rattle.hk_core.specs.declared.spot.Spot.{Spot}
use Rattle.hk_core.specs.declared.spot.Line.{Line}
use Rattle.hk_core.specs.declared.spot.Line.TheVariants as line
use Rattle.hk_core.specs.declared.spot.Stage.{Stage}
use Rattle.hk_core.specs.declared.spot.Stage.TheVariants as stage
use Rattle.hk_core.specs.declared.spot.Work.{Work}
use Rattle.hk_core.specs.declared.spot.Work.TheVariants.{Useful, Lost}
use Rattle.hk_core.specs.Event as events
use Rattle.hk_core.specs.Event.{fired, fired_if, learnt, old_of, word_after}
use Rattle.hk_core.specs.State.{State}
use Rattle.hk_core.specs.Step.{reference_size, reserved_fits}
use Rattle.hk_core.specs.Collect as table
use Rattle.hk_core.specs.Collect.{spot_event, event_at_line, spot_took, took_at_line, spot_work, work_at_line, event_by_collector, found_by_collector, next_collected, work_by_collector, moved_number}
use Rattle.hk_core.specs.View.{words_of, names_of, contents_of, flight_at, begun_at}
use Rattle.hk_core.specs.Lines as l
use Rattle.hk_core.specs.Colours.{spaces_of, shades_of}
use Rattle.hk_core.specs.Lawful.{Lawful}
use Rattle.hk_core.proofs.Columns.{fired_kept}
use Rattle.hk_core.proofs.Inside.{shapes_fit}
use Rattle.hk_core.proofs.kinds.Seats.{kept_means}
use Rattle.hk_collect.proofs.spots.SpotLines.{AtRegister, AtCell, at_register, at_cell}
use Rattle.hk_collect.proofs.spots.SpotLoads.{work_at, took_at}
use Rattle.hk_collect.proofs.spots.SpotLoadsCells.{IsItem, item_known}
use Rattle.hk_words.specs.Bounds.{frame_events, object_events}
use Rattle.hk_collect.specs.Runs.{in_attempt}
use Rattle.hk_collect.specs.Measure.{FrameUntouched, ObjectUntouched, UntouchedAt, IsUntouched, ClosesAttempt, useful_after, least_useful, CountsAttempt}
use Rattle.hk_core.proofs.Shared.{never_false}

-- THE EVENT AND THE SPOT AT A LINE

pub event_at : (c : State) (ln : Line) → c.spot.line ≡ ln → event_by_collector c ≡ event_at_line c.geometry c.spot ln
unfolding event_by_collector spot_event
event_at c ln at = ap (event_at_line c.geometry c.spot) at

pub found_at : (c : State) (ln : Line) → c.spot.line ≡ ln → found_by_collector c ≡ learnt c.row (event_at_line c.geometry c.spot ln)
unfolding found_by_collector
found_at c ln at = ap (learnt c.row) (event_at c ln at)

-- the state after an event, and what the event did, where the event and what it finds are known
pub after_at : (c : State) (ln : Line) (e : Option Event) → c.spot.line ≡ ln → event_at_line c.geometry c.spot ln ≡ e
    → next_collected c ≡ record c { row = fired_if c.row e; spot = took_at_line c.geometry c.spot (learnt c.row e) ln }
unfolding next_collected
after_at c ln e at is =
    let events : event_by_collector c ≡ e = event_at c ln at ∙ is in
    let found : found_by_collector c ≡ learnt c.row e = found_at c ln at ∙ ap (learnt c.row) is in
    let spot : spot_took c.geometry c.spot (found_by_collector c) ≡ took_at_line c.geometry c.spot (learnt c.row e) ln =
    ap (spot_took c.geometry c.spot) found ∙ took_at c.geometry c.spot ln (learnt c.row e) at in
    λ i. record c { row = fired_if c.row (events i); spot = spot i }

pub work_after : (c : State) (ln : Line) (e : Option Event) → c.spot.line ≡ ln → event_at_line c.geometry c.spot ln ≡ e
    → work_by_collector c ≡ work_at_line c.geometry c.spot (learnt c.row e) ln
unfolding work_by_collector spot_work
work_after c ln e at is =
    let found : found_by_collector c ≡ learnt c.row e = found_at c ln at ∙ ap (learnt c.row) is in
    rw (found, at) refl

-- OUTSIDE AN ATTEMPT

pub outside_at : (c : State) (ln : Line) → in_attempt ln ≡ false → UntouchedAt c ln
unfolding in_attempt UntouchedAt
outside_at c line.Rest e = tt
outside_at c (line.Frame s) e = tt
outside_at c (line.Register s r stage) e = never_false e
outside_at c (line.FrameTrade s) e = never_false e
outside_at c line.Scan e = tt
outside_at c line.Link e = tt
outside_at c line.Look e = tt
outside_at c (line.Cell i stage) e = never_false e
outside_at c line.ObjectTrade e = never_false e
outside_at c (line.Pass n) e = tt
outside_at c (line.PassHead n) e = tt
outside_at c (line.Sweep n stage) e = tt
outside_at c (line.Clear i) e = tt
outside_at c line.Reset e = tt

-- a line that depends on a test is outside where both are
outside_if : (test : Bool) (a b : Line) → in_attempt a ≡ false → in_attempt b ≡ false → in_attempt (if test then a else b) ≡ false
outside_if true a b one other = one
outside_if false a b one other = other

outside_spot : (test : Bool) (a b : Spot) → in_attempt a.line ≡ false → in_attempt b.line ≡ false → in_attempt (if test then a else b).line ≡ false
outside_spot true a b one other = one
outside_spot false a b one other = other

-- after the event of a line that neither begins an attempt nor goes on with one, none is open
module _ (g : Geometry) (t : Spot) (old : ℕ) where
  rest_outside : t.line ≡ line.Rest → in_attempt (took_at_line g t old line.Rest).line ≡ false
  unfolding took_at_line table.rest_took in_attempt
  rest_outside at = outside_spot (nat_eq t.cycle table.last_cycle) _ _ (rw at refl) refl

  pub frame_trade_outside : (s : ℕ) → in_attempt (took_at_line g t old (line.FrameTrade s)).line ≡ false
  unfolding took_at_line table.frame_trade_took in_attempt
  frame_trade_outside s = outside_if (nat_eq old t.first) _ _ (outside_if (nat_lt (s + 1) (tasks g)) _ _ refl refl) refl

  scan_outside : t.line ≡ line.Scan → in_attempt (took_at_line g t old line.Scan).line ≡ false
  unfolding took_at_line table.scan_took in_attempt
  scan_outside at = outside_spot (nat_lt g.live old) _ _ (rw at refl) (outside_if (nat_lt t.scan old) _ _ refl refl)

  link_outside : in_attempt (took_at_line g t old line.Link).line ≡ false
  unfolding took_at_line table.link_took in_attempt
  link_outside = outside_spot (nat_eq old 0) _ _ refl refl

  pub object_trade_outside : in_attempt (took_at_line g t old line.ObjectTrade).line ≡ false
  unfolding took_at_line table.object_trade_took in_attempt
  object_trade_outside = outside_spot (nat_eq old t.first) _ _ refl refl

  after_pass_outside : (n : ℕ) → in_attempt (table.after_pass g n) ≡ false
  unfolding in_attempt
  after_pass_outside n = outside_if (nat_lt (n + 1) (numbers g)) _ _ refl refl

  pass_outside : (n : ℕ) → in_attempt (took_at_line g t old (line.Pass n)).line ≡ false
  unfolding took_at_line table.pass_took in_attempt
  pass_outside n = outside_if (nat_eq old t.cycle) _ _ refl (after_pass_outside n)

  pass_head_outside : (n : ℕ) → in_attempt (took_at_line g t old (line.PassHead n)).line ≡ false
  unfolding took_at_line table.pass_head_took in_attempt
  pass_head_outside n = outside_if (table.is_old g t old) _ _ refl (after_pass_outside n)

  sweep_outside : (n : ℕ) (stage : Stage) → t.line ≡ line.Sweep n stage → in_attempt (took_at_line g t old (line.Sweep n stage)).line ≡ false
  unfolding took_at_line table.sweep_took in_attempt
  sweep_outside n stage.Read at = outside_if (nat_lt old t.cycle) _ _ refl refl
  sweep_outside n stage.Claim at = rw at refl
  sweep_outside n stage.Reserve at = rw at refl
  sweep_outside n stage.Tie at = rw at refl
  sweep_outside n stage.Write at = refl
  sweep_outside n stage.Mark at = refl
  sweep_outside n stage.Empty at = outside_if (nat_lt t.entries _) _ _ refl refl

  clear_outside : (i : ℕ) → in_attempt (took_at_line g t old (line.Clear i)).line ≡ false
  unfolding took_at_line table.clear_took in_attempt
  clear_outside i = outside_if (nat_lt (i + 1) _) _ _ refl refl

  reset_outside : in_attempt (took_at_line g t old line.Reset).line ≡ false
  unfolding took_at_line in_attempt
  reset_outside = refl

-- THE WORD OF AN ATTEMPT

-- an event leaves each word of the row that it isn't about
pub word_kept : (row : List ℕ) (e : Event) (index v : ℕ) → index ≢ events.word_of e → get_or (fired_if row (Some e)) index v ≡ get_or row index v
unfolding fired_if fired
word_kept row e index v other = get_or-set_other row (events.word_of e) index (word_after e (old_of row e)) v other

-- and a load leaves the row as it is
pub load_kept : (row : List ℕ) (word : ℕ) → fired_if row (Some (event.Load word)) ≡ row
unfolding fired_if
load_kept row word = fired_kept row (event.Load word) refl

-- a load learns the word
pub load_finds : (row : List ℕ) (word : ℕ) → learnt row (Some (event.Load word)) ≡ get_or row word 0
unfolding learnt old_of
load_finds row word = refl

-- an exchange too
pub trade_finds : (row : List ℕ) (word current new : ℕ) → learnt row (Some (event.Trade word current new)) ≡ get_or row word 0
unfolding learnt old_of
trade_finds row word current new = refl

-- the word of the attempt after an event, where it is untouched after the event at its line
then_untouched : (c : State) (ln : Line) (e : Option Event) → c.spot.line ≡ ln → event_at_line c.geometry c.spot ln ≡ e
    → IsUntouched (record c { row = fired_if c.row e; spot = took_at_line c.geometry c.spot (learnt c.row e) ln }) → IsUntouched (next_collected c)
then_untouched c ln e at is h = rw (after_at c ln e at is) h

-- FRAMES

after_register_untouched : (c : State) (g : Geometry) (s r : ℕ) → FrameUntouched c s → UntouchedAt c (table.after_register g s r)
unfolding UntouchedAt
after_register_untouched c g s r same = by_test (nat_lt (r + 1) g.registers)
  where
    by_test : (more : Bool) → UntouchedAt c (if more then line.Register s (r + 1) stage.Read else line.FrameTrade s)
    by_test true = same
    by_test false = same

or_after_register : (c : State) (g : Geometry) (test : Bool) (s r : ℕ) (stage : Stage) → FrameUntouched c s → UntouchedAt c (if test then line.Register s r stage else table.after_register g s r)
unfolding UntouchedAt
or_after_register c g true s r stage same = same
or_after_register c g false s r stage same = after_register_untouched c g s r same

after_register_or : (c : State) (g : Geometry) (test : Bool) (s r : ℕ) (stage : Stage) → FrameUntouched c s → UntouchedAt c (if test then table.after_register g s r else line.Register s r stage)
unfolding UntouchedAt
after_register_or c g true s r stage same = after_register_untouched c g s r same
after_register_or c g false s r stage same = same

-- the load of a frame word opens an attempt on it, or a call is inside
frame_opens : (c : State) (s : ℕ) → c.spot.line ≡ line.Frame s → IsUntouched (next_collected c)
unfolding event_at_line table.frame_event took_at_line table.frame_took UntouchedAt
frame_opens c s at =
    then_untouched c (line.Frame s) (Some loads) at refl (by_test (nat_lt 0 (layout.frame_accessors (learnt c.row (Some loads)))))
  where
    loads : Event
    loads = event.Load (frame_at c.geometry s)

    by_test : (busy : Bool) → IsUntouched (record c {
      row = fired_if c.row (Some loads);
      spot = if busy then c.spot else record (c.spot) { line = line.Register s 0 stage.Read; first = learnt c.row (Some loads); spent = 1 };
    })
    by_test true = rw at tt
    by_test false = ap (λ (row : List ℕ). get_or row (frame_at c.geometry s) 0) (load_kept c.row (frame_at c.geometry s)) ∙ sym (load_finds c.row (frame_at c.geometry s))

-- the events of a register
module _ (c : State) (history : History) (h : Lawful c history) (s r : ℕ) where
  pub register_knows : (stage : Stage) → c.spot.line ≡ line.Register s r stage
      → AtRegister c.geometry (words_of c.geometry c.row) (shades_of c.geometry (words_of c.geometry c.row) (flight_at c) c.spot.line (names_of c.geometry history)) c.spot (names_of c.geometry history) s r stage
  register_knows stage at =
      let g = c.geometry in
      let w = words_of g c.row in
      let names = names_of g history in
      at_register g w (spaces_of g w.cycle) (shades_of g w (flight_at c) c.spot.line names) (flight_at c) c.spot names h.range s r stage
      (work_at g w (flight_at c) (begun_at c) c.spot names (contents_of g history) h.range (line.Register s r stage) at h.facts)

  register_keeps : (stage : Stage) → c.spot.line ≡ line.Register s r stage → FrameUntouched c s → IsUntouched (next_collected c)
  unfolding event_at_line table.register_event table.claim_cell table.reserve_cell table.link_cell took_at_line table.register_took l.is_in_work
  register_keeps stage.Read at same =
      let loads = event.Load (register_at c.geometry s r) in
      let kept = ap (λ (row : List ℕ). get_or row (frame_at c.geometry s) 0) (load_kept c.row (register_at c.geometry s r)) ∙ same in
      then_untouched c (line.Register s r stage.Read) (Some loads) at refl
      (after_register_or _ c.geometry (nat_eq (learnt c.row (Some loads)) 0) s r stage.Claim kept)
  register_keeps stage.Claim at same =
      let g = c.geometry in
      let n = layout.reference_number c.spot.cell in
      let o = register_knows stage.Claim at in
      let seat : s < tasks g = o.in_frame.at_frame.seat in
      let within : n < numbers g = (kept_means g (words_of g c.row) (flight_at c) c.spot.line (names_of g history) n (o.good refl).is_kept).within in
      let claims = event.Max (mark_at g n) c.spot.cycle in
      let kept = word_kept c.row claims (frame_at g s) 0 (λ e. absurd (omega arith)) ∙ same in
      then_untouched c (line.Register s r stage.Claim) (Some claims) at refl
      (or_after_register _ g (nat_lt (learnt c.row (Some claims)) c.spot.cycle) s r stage.Reserve kept)
  register_keeps stage.Reserve at same =
      let g = c.geometry in
      let reserves = event.Add (w1_at g) (reference_size c.spot.cell) in
      let kept = word_kept c.row reserves (frame_at g s) 0 (λ e. absurd (omega arith)) ∙ same in
      then_untouched c (line.Register s r stage.Reserve) (Some reserves) at refl
      (or_after_register _ g (reserved_fits g (learnt c.row (Some reserves)) c.spot.cell) s r stage.Tie kept)
  register_keeps stage.Tie at same =
      let g = c.geometry in
      let o = register_knows stage.Tie at in
      let seat : s < tasks g = o.in_frame.at_frame.seat in
      let place = place_at g (table.current_space c.spot.cycle) c.spot.offset in
      let links = event.Write (space_at g place) c.spot.cell in
      let kept = word_kept c.row links (frame_at g s) 0 (λ e. absurd (omega arith)) ∙ same in
      then_untouched c (line.Register s r stage.Tie) (Some links) at refl (after_register_untouched _ g s r kept)
  register_keeps stage.Write at same = absurd (register_knows stage.Write at).staged
  register_keeps stage.Mark at same = absurd (register_knows stage.Mark at).staged
  register_keeps stage.Empty at same = absurd (register_knows stage.Empty at).staged

-- OBJECTS

-- the load of a header opens an attempt on its object, or a call is inside
object_opens : (c : State) → c.spot.line ≡ line.Look → IsUntouched (next_collected c)
unfolding event_at_line table.look_event took_at_line table.look_took UntouchedAt
object_opens c at =
    then_untouched c line.Look (Some loads) at refl (by_test (nat_lt 0 (layout.header_accessors (learnt c.row (Some loads)))))
  where
    loads : Event
    loads = event.Load (header_at c.geometry (moved_number c.spot))

    by_test : (busy : Bool) → IsUntouched (record c {
      row = fired_if c.row (Some loads);
      spot = if busy then c.spot else record (c.spot) { line = line.Cell 0 stage.Read; first = learnt c.row (Some loads); spent = 1 };
    })
    by_test true = rw at tt
    by_test false = ap (λ (row : List ℕ). get_or row (header_at c.geometry (moved_number c.spot)) 0) (load_kept c.row (header_at c.geometry (moved_number c.spot)))
        ∙ sym (load_finds c.row (header_at c.geometry (moved_number c.spot)))

after_cell_untouched : (c : State) (t : Spot) (i : ℕ) → ObjectUntouched c → UntouchedAt c (table.after_cell t i)
unfolding UntouchedAt
after_cell_untouched c t i same = by_test (nat_lt (i + 2) (reference_size t.item))
  where
    by_test : (more : Bool) → UntouchedAt c (if more then line.Cell (i + 1) stage.Read else line.ObjectTrade)
    by_test true = same
    by_test false = same

-- the events of a cell
module _ (c : State) (history : History) (h : Lawful c history) (i : ℕ) where
  pub cell_knows : (stage : Stage) → c.spot.line ≡ line.Cell i stage
      → AtCell c.geometry (words_of c.geometry c.row) (spaces_of c.geometry (words_of c.geometry c.row).cycle)
      (shades_of c.geometry (words_of c.geometry c.row) (flight_at c) c.spot.line (names_of c.geometry history)) c.spot (names_of c.geometry history) h.range i stage
  cell_knows stage at =
      let g = c.geometry in
      let w = words_of g c.row in
      let names = names_of g history in
      at_cell g w (spaces_of g w.cycle) (shades_of g w (flight_at c) c.spot.line names) (flight_at c) c.spot names h.range i stage
      (work_at g w (flight_at c) (begun_at c) c.spot names (contents_of g history) h.range (line.Cell i stage) at h.facts)

  -- the object that is moved is one of the numbers
  pub item_within : (stage : Stage) → c.spot.line ≡ line.Cell i stage → moved_number c.spot < numbers c.geometry
  item_within stage at =
      let g = c.geometry in
      let w = words_of g c.row in
      let names = names_of g history in
      let known : IsItem (shades_of g w (flight_at c) c.spot.line names) names c.spot.item = item_known g w (flight_at c) (begun_at c) c.spot names (contents_of g history) h.range h.facts (shapes_fit g history)
      (cell_knows stage at).in_object.at_item in
      (kept_means g w (flight_at c) c.spot.line names (moved_number c.spot) known.is_kept).within

  cell_keeps : (stage : Stage) → c.spot.line ≡ line.Cell i stage → ObjectUntouched c → IsUntouched (next_collected c)
  unfolding event_at_line table.cell_event table.claim_cell table.reserve_cell table.link_cell took_at_line table.cell_took l.is_in_work UntouchedAt
  cell_keeps stage.Read at same =
      let place = table.moved_from c.spot + 1 + i in
      let loads = event.Load (space_at c.geometry place) in
      let kept = ap (λ (row : List ℕ). get_or row (header_at c.geometry (moved_number c.spot)) 0) (load_kept c.row (space_at c.geometry place)) ∙ same in
      then_untouched c (line.Cell i stage.Read) (Some loads) at refl kept
  cell_keeps stage.Claim at same =
      let g = c.geometry in
      let n = layout.reference_number c.spot.cell in
      let item = item_within stage.Claim at in
      let claims = event.Max (mark_at g n) c.spot.cycle in
      let kept = word_kept c.row claims (header_at g (moved_number c.spot)) 0 (λ e. absurd (omega arith)) ∙ same in
      then_untouched c (line.Cell i stage.Claim) (Some claims) at refl kept
  cell_keeps stage.Reserve at same =
      let g = c.geometry in
      let reserves = event.Add (w1_at g) (reference_size c.spot.cell) in
      let kept = word_kept c.row reserves (header_at g (moved_number c.spot)) 0 (λ e. absurd (omega arith)) ∙ same in
      then_untouched c (line.Cell i stage.Reserve) (Some reserves) at refl kept
  cell_keeps stage.Tie at same =
      let g = c.geometry in
      let item = item_within stage.Tie at in
      let place = place_at g (table.current_space c.spot.cycle) c.spot.offset in
      let links = event.Write (space_at g place) c.spot.cell in
      let kept = word_kept c.row links (header_at g (moved_number c.spot)) 0 (λ e. absurd (omega arith)) ∙ same in
      then_untouched c (line.Cell i stage.Tie) (Some links) at refl kept
  cell_keeps stage.Write at same =
      let g = c.geometry in
      let item = item_within stage.Write at in
      let place = table.moved_to g c.spot + 1 + i in
      let writes = event.Write (space_at g place) c.spot.cell in
      let kept = word_kept c.row writes (header_at g (moved_number c.spot)) 0 (λ e. absurd (omega arith)) ∙ same in
      then_untouched c (line.Cell i stage.Write) (Some writes) at refl
      (after_cell_untouched (record c { row = fired_if c.row (Some writes); spot = took_at_line g c.spot (learnt c.row (Some writes)) (line.Cell i stage.Write) }) c.spot i kept)
  cell_keeps stage.Mark at same = absurd (cell_knows stage.Mark at).staged
  cell_keeps stage.Empty at same = absurd (cell_knows stage.Empty at).staged

in_frame : (c : State) (s r : ℕ) (stage : Stage) → UntouchedAt c (line.Register s r stage) → FrameUntouched c s
unfolding UntouchedAt
in_frame c s r stage same = same

in_object : (c : State) (i : ℕ) (stage : Stage) → UntouchedAt c (line.Cell i stage) → ObjectUntouched c
unfolding UntouchedAt
in_object c i stage same = same

-- THE LAWS

pub untouched_outside : (c : State) → in_attempt c.spot.line ≡ false → IsUntouched c
untouched_outside c = outside_at c c.spot.line

-- where no attempt is open after the event
closed_after : (c : State) (ln : Line) → c.spot.line ≡ ln → in_attempt (took_at_line c.geometry c.spot (learnt c.row (event_at_line c.geometry c.spot ln)) ln).line ≡ false
    → in_attempt (next_collected c).spot.line ≡ false
closed_after c ln at e = rw (after_at c ln (event_at_line c.geometry c.spot ln) at refl) e

pub event_keeps_untouched : (c : State) (history : History) → Lawful c history → IsUntouched c → IsUntouched (next_collected c)
event_keeps_untouched c history h untouched = each c.spot.line refl untouched
  where
    closed : (ln : Line) → c.spot.line ≡ ln → in_attempt (took_at_line c.geometry c.spot (learnt c.row (event_at_line c.geometry c.spot ln)) ln).line ≡ false → IsUntouched (next_collected c)
    closed ln at e = untouched_outside (next_collected c) (closed_after c ln at e)

    each : (ln : Line) → c.spot.line ≡ ln → UntouchedAt c ln → IsUntouched (next_collected c)
    each line.Rest at same = closed line.Rest at (rest_outside c.geometry c.spot _ at)
    each (line.Frame s) at same = frame_opens c s at
    each (line.Register s r stage) at same = register_keeps c history h s r stage at (in_frame c s r stage same)
    each (line.FrameTrade s) at same = closed (line.FrameTrade s) at (frame_trade_outside c.geometry c.spot _ s)
    each line.Scan at same = closed line.Scan at (scan_outside c.geometry c.spot _ at)
    each line.Link at same = closed line.Link at (link_outside c.geometry c.spot _)
    each line.Look at same = object_opens c at
    each (line.Cell i stage) at same = cell_keeps c history h i stage at (in_object c i stage same)
    each line.ObjectTrade at same = closed line.ObjectTrade at (object_trade_outside c.geometry c.spot _)
    each (line.Pass n) at same = closed (line.Pass n) at (pass_outside c.geometry c.spot _ n)
    each (line.PassHead n) at same = closed (line.PassHead n) at (pass_head_outside c.geometry c.spot _ n)
    each (line.Sweep n stage) at same = closed (line.Sweep n stage) at (sweep_outside c.geometry c.spot _ n stage at)
    each (line.Clear i) at same = closed (line.Clear i) at (clear_outside c.geometry c.spot _ i)
    each line.Reset at same = closed line.Reset at (reset_outside c.geometry c.spot _)

-- THE EXCHANGES

-- an exchange that finds the loaded word is useful, and no other event is lost
if_lost : (test : Bool) (events lost : ℕ) → (if test then Useful else Lost events) ≡ Lost lost → (test ≡ false) × (lost ≡ events)
if_lost true events lost e = absurd (cc)
if_lost false events lost e = (refl, (let same : events ≡ lost = cc in sym same))

never_lost : (test : Bool) (a b : Work) (lost : ℕ) → a ≢ Lost lost → b ≢ Lost lost → (if test then a else b) ≢ Lost lost
never_lost true a b lost first second = first
never_lost false a b lost first second = second

-- what a loss says: it is at the exchange of a frame word or of a header, which finds another word, and its events are
-- those that the attempt has spent and the exchange
pub data IsLoss (g : Geometry) (t : Spot) (old lost : ℕ) : Line → Type 0 where
  of_frame : (s : ℕ) → nat_eq old t.first ≡ false → lost ≡ t.spent + 1 → IsLoss g t old lost (line.FrameTrade s)
  of_object : nat_eq old t.first ≡ false → lost ≡ t.spent + 1 → IsLoss g t old lost line.ObjectTrade

loss_at : (g : Geometry) (t : Spot) (old lost : ℕ) (ln : Line) → work_at_line g t old ln ≡ Lost lost → IsLoss g t old lost ln
unfolding work_at_line table.rest_work table.frame_work table.frame_trade_work table.scan_work table.link_work table.look_work table.object_trade_work table.pass_head_work
loss_at g t old lost line.Rest e = absurd (never_lost (nat_eq t.cycle table.last_cycle) _ _ lost (λ e. cc) (λ e. cc) e)
loss_at g t old lost (line.Frame s) e = absurd (never_lost (nat_lt 0 (layout.frame_accessors old)) _ _ lost (λ e. cc) (λ e. cc) e)
loss_at g t old lost (line.Register s r stage) e = absurd (cc)
loss_at g t old lost (line.FrameTrade s) e = let o = if_lost (nat_eq old t.first) (t.spent + 1) lost e in of_frame s o.0 o.1
loss_at g t old lost line.Scan e = absurd (never_lost (nat_lt g.live old) _ _ lost (λ e. cc) (λ e. cc) e)
loss_at g t old lost line.Link e = absurd (never_lost (nat_eq old 0) _ _ lost (λ e. cc) (λ e. cc) e)
loss_at g t old lost line.Look e = absurd (never_lost (nat_lt 0 (layout.header_accessors old)) _ _ lost (λ e. cc) (λ e. cc) e)
loss_at g t old lost (line.Cell i stage) e = absurd (cc)
loss_at g t old lost line.ObjectTrade e = let o = if_lost (nat_eq old t.first) (t.spent + 1) lost e in of_object o.0 o.1
loss_at g t old lost (line.Pass n) e = absurd (cc)
loss_at g t old lost (line.PassHead n) e = absurd (never_lost (table.is_old g t old) _ _ lost (λ e. cc) (λ e. cc) e)
loss_at g t old lost (line.Sweep n stage) e = absurd (cc)
loss_at g t old lost (line.Clear i) e = absurd (cc)
loss_at g t old lost line.Reset e = absurd (cc)

-- the loss of a state
loss_of : (c : State) (lost : ℕ) → work_by_collector c ≡ Lost lost → IsLoss c.geometry c.spot (found_by_collector c) lost c.spot.line
unfolding work_by_collector spot_work
loss_of c lost e = loss_at c.geometry c.spot (found_by_collector c) lost c.spot.line e

pub attempt_succeeds : (c : State) (lost : ℕ) → IsUntouched c → work_by_collector c ≢ Lost lost
unfolding UntouchedAt event_at_line table.frame_trade_event table.object_trade_event
attempt_succeeds c lost untouched e = each c.spot.line refl untouched (loss_of c lost e)
  where
    refuse : nat_eq (found_by_collector c) c.spot.first ≡ false → found_by_collector c ≡ c.spot.first → ⊥
    refuse other same = eqb-false (found_by_collector c) c.spot.first other same

    each : (ln : Line) → c.spot.line ≡ ln → UntouchedAt c ln → IsLoss c.geometry c.spot (found_by_collector c) lost ln → ⊥
    each _ at same (of_frame s other _) = refuse other (found_at c (line.FrameTrade s) at ∙ trade_finds c.row (frame_at c.geometry s) c.spot.first _ ∙ same)
    each _ at same (of_object other _) = refuse other (found_at c line.ObjectTrade at ∙ trade_finds c.row (header_at c.geometry (moved_number c.spot)) c.spot.first _ ∙ same)

pub lost_closes_attempt : (c : State) (lost : ℕ) → work_by_collector c ≡ Lost lost → ClosesAttempt c
unfolding in_attempt
lost_closes_attempt c lost e = each c.spot.line refl (loss_of c lost e)
  where
    each : (ln : Line) → c.spot.line ≡ ln → IsLoss c.geometry c.spot (found_by_collector c) lost ln → ClosesAttempt c
    each _ at (of_frame s other _) = record { was_open = rw at (refl); is_closed = closed_after c (line.FrameTrade s) at (frame_trade_outside c.geometry c.spot _ s) }
    each _ at (of_object other _) = record { was_open = rw at (refl); is_closed = closed_after c line.ObjectTrade at (object_trade_outside c.geometry c.spot _) }

pub lost_is_bounded : (c : State) (history : History) (lost : ℕ) → Lawful c history → work_by_collector c ≡ Lost lost
    → lost ≤ max (frame_events c.geometry.registers) (object_events (reference_size c.spot.item))
unfolding l.most_spent
lost_is_bounded c history lost h e = each c.spot.line refl (loss_of c lost e)
  where
    each : (ln : Line) → c.spot.line ≡ ln → IsLoss c.geometry c.spot (found_by_collector c) lost ln → lost ≤ max (frame_events c.geometry.registers) (object_events (reference_size c.spot.item))
    each _ at (of_frame s other spent) =
        let few : c.spot.spent ≤ 1 + 4 * c.geometry.registers = h.facts.spent_bounded (1 + 4 * c.geometry.registers) (rw at refl) in
        omega arith
    each _ at (of_object other spent) =
        let few : c.spot.spent ≤ 1 + 5 * (reference_size c.spot.item - 1) = h.facts.spent_bounded (1 + 5 * (reference_size c.spot.item - 1)) (rw at refl) in
        omega arith

-- THE EVENTS OF AN OPEN ATTEMPT

spent_least : (t : Spot) → least_useful t ≤ t.spent
spent_least t = elim (cases_Bool (in_attempt t.line)) [ inl inside ↦ rw inside (omega arith) | inr outside ↦ rw outside (omega arith) ]

spent_inside : (t : Spot) → in_attempt t.line ≡ true → least_useful t ≡ t.spent
spent_inside t inside = rw inside refl

none_outside : (t : Spot) (n : ℕ) → in_attempt t.line ≡ false → least_useful t ≤ n
none_outside t n outside = rw outside (omega arith)

module _ (g : Geometry) (t : Spot) (old : ℕ) where
  register_spends : (s r : ℕ) (stage : Stage) → (took_at_line g t old (line.Register s r stage)).spent ≤ t.spent + 1
  unfolding took_at_line table.register_took
  register_spends s r stage.Read = omega arith
  register_spends s r stage.Claim = omega arith
  register_spends s r stage.Reserve = omega arith
  register_spends s r stage.Tie = omega arith
  register_spends s r stage.Write = omega arith
  register_spends s r stage.Mark = omega arith
  register_spends s r stage.Empty = omega arith

  cell_spends : (i : ℕ) (stage : Stage) → (took_at_line g t old (line.Cell i stage)).spent ≤ t.spent + 1
  unfolding took_at_line table.cell_took
  cell_spends i stage.Read = omega arith
  cell_spends i stage.Claim = omega arith
  cell_spends i stage.Reserve = omega arith
  cell_spends i stage.Tie = omega arith
  cell_spends i stage.Write = omega arith
  cell_spends i stage.Mark = omega arith
  cell_spends i stage.Empty = omega arith

  -- the first event of an attempt is useful
  frame_opens_with : (s useful : ℕ) → t.line ≡ line.Frame s → least_useful (took_at_line g t old (line.Frame s)) ≤ useful_after (work_at_line g t old (line.Frame s)) useful
  unfolding took_at_line table.frame_took work_at_line table.frame_work in_attempt
  frame_opens_with s useful at = elim (cases_Bool (nat_lt 0 (layout.frame_accessors old))) [
    | inl busy ↦ rw busy (rw at (omega arith))
    | inr free ↦ rw free (omega arith)
  ]

  object_opens_with : (useful : ℕ) → t.line ≡ line.Look → least_useful (took_at_line g t old line.Look) ≤ useful_after (work_at_line g t old line.Look) useful
  unfolding took_at_line table.look_took work_at_line table.look_work in_attempt
  object_opens_with useful at = elim (cases_Bool (nat_lt 0 (layout.header_accessors old))) [
    | inl busy ↦ rw busy (rw at (omega arith))
    | inr free ↦ rw free (omega arith)
  ]

-- a loss: its events, and that the attempt is open
loss_events : (c : State) (lost : ℕ) → work_by_collector c ≡ Lost lost → (work_by_collector c ≡ Lost lost) × (lost ≡ c.spot.spent + 1) × (in_attempt c.spot.line ≡ true)
unfolding in_attempt
loss_events c lost e = each c.spot.line refl (loss_of c lost e)
  where
    each : (ln : Line) → c.spot.line ≡ ln → IsLoss c.geometry c.spot (found_by_collector c) lost ln → (work_by_collector c ≡ Lost lost) × (lost ≡ c.spot.spent + 1) × (in_attempt c.spot.line ≡ true)
    each _ at (of_frame s other spent) = (e, spent, (rw at refl))
    each _ at (of_object other spent) = (e, spent, (rw at refl))

pub attempts_are_counted : (c : State) (useful : ℕ) → least_useful c.spot ≤ useful → CountsAttempt c useful
unfolding in_attempt work_at_line
attempts_are_counted c useful few = record {
  least = each c.spot.line refl;
  taken_away = λ lost e. taken (loss_events c lost e);
}
  where
    after : (ln : Line) → c.spot.line ≡ ln
        → least_useful (took_at_line c.geometry c.spot (learnt c.row (event_at_line c.geometry c.spot ln)) ln) ≤ useful_after (work_at_line c.geometry c.spot (learnt c.row (event_at_line c.geometry c.spot ln)) ln) useful
        → least_useful (next_collected c).spot ≤ useful_after (work_by_collector c) useful
    after ln at least = rw (after_at c ln (event_at_line c.geometry c.spot ln) at refl, work_after c ln (event_at_line c.geometry c.spot ln) at refl) least

    closed : (ln : Line) → c.spot.line ≡ ln → in_attempt (took_at_line c.geometry c.spot (learnt c.row (event_at_line c.geometry c.spot ln)) ln).line ≡ false
        → least_useful (next_collected c).spot ≤ useful_after (work_by_collector c) useful
    closed ln at e = none_outside (next_collected c).spot _ (closed_after c ln at e)

    -- one more event of an open attempt
    further : (useful' : ℕ) (next : Spot) → next.spent ≤ c.spot.spent + 1 → least_useful c.spot ≡ c.spot.spent → useful' ≡ useful + 1 → least_useful next ≤ useful'
    further useful' next more inside same = let least = spent_least next in omega arith

    each : (ln : Line) → c.spot.line ≡ ln → least_useful (next_collected c).spot ≤ useful_after (work_by_collector c) useful
    each line.Rest at = closed line.Rest at (rest_outside c.geometry c.spot _ at)
    each (line.Frame s) at = after (line.Frame s) at (frame_opens_with c.geometry c.spot _ s useful at)
    each (line.Register s r stage) at = after (line.Register s r stage) at
        (further (useful + 1) (took_at_line c.geometry c.spot (learnt c.row (event_at_line c.geometry c.spot (line.Register s r stage))) (line.Register s r stage)) (register_spends c.geometry c.spot _ s r stage) (spent_inside c.spot (ap in_attempt at)) refl)
    each (line.FrameTrade s) at = closed (line.FrameTrade s) at (frame_trade_outside c.geometry c.spot _ s)
    each line.Scan at = closed line.Scan at (scan_outside c.geometry c.spot _ at)
    each line.Link at = closed line.Link at (link_outside c.geometry c.spot _)
    each line.Look at = after line.Look at (object_opens_with c.geometry c.spot _ useful at)
    each (line.Cell i stage) at = after (line.Cell i stage) at
        (further (useful + 1) (took_at_line c.geometry c.spot (learnt c.row (event_at_line c.geometry c.spot (line.Cell i stage))) (line.Cell i stage)) (cell_spends c.geometry c.spot _ i stage) (spent_inside c.spot (ap in_attempt at)) refl)
    each line.ObjectTrade at = closed line.ObjectTrade at (object_trade_outside c.geometry c.spot _)
    each (line.Pass n) at = closed (line.Pass n) at (pass_outside c.geometry c.spot _ n)
    each (line.PassHead n) at = closed (line.PassHead n) at (pass_head_outside c.geometry c.spot _ n)
    each (line.Sweep n stage) at = closed (line.Sweep n stage) at (sweep_outside c.geometry c.spot _ n stage at)
    each (line.Clear i) at = closed (line.Clear i) at (clear_outside c.geometry c.spot _ i)
    each line.Reset at = closed line.Reset at (reset_outside c.geometry c.spot _)

    taken : {lost : ℕ} → (work_by_collector c ≡ Lost lost) × (lost ≡ c.spot.spent + 1) × (in_attempt c.spot.line ≡ true) → useful_after (work_by_collector c) useful + lost ≡ useful + 1
    taken o =
        let inside : least_useful c.spot ≡ c.spot.spent = spent_inside c.spot o.2 in
        let spent = o.1 in
        rw o.0 (omega arith)
