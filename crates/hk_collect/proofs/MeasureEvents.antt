-- With no call in mid-course each event of the collector keeps to the measure, and keeps a calm state calm.
use Rattle.std.proofs.Common.{◌≡◌, ◌≢◌, ℕ, ◌+◌, ◌-◌, ◌*◌, ◌<◌, ◌≤◌, Bool, true, false, inl, inr, refl, sym, ◌∙◌, ap, arith, Option, Some, None}
use Rattle.std.proofs.lemmas.Bool.{cases_Bool, ltb-false, eqb-true, le-leb, lt-ltb, and_parts, and_from, leb-true, ltb-true, eq-eqb}
use Rattle.std.specs.Prelude.{nat_eq, nat_lt, nat_le, if◌then◌else◌}
use Rattle.hk_words.specs.declared.geometry.Geometry.{Geometry}
use Rattle.hk_words.specs.Geometry.{tasks, numbers, list_length, space_words}
use Rattle.hk_words.specs.Layout as layout
use Rattle.hk_words.specs.Row.{w1_at, header_at, mark_at, place_at}
use Rattle.hk_model.specs.History.{History}
use Rattle.hk_core.specs.declared.event.Event.TheVariants as event
use Rattle.hk_core.specs.declared.spot.Spot.{Spot}
use Rattle.hk_core.specs.declared.spot.Line.{Line}
use Rattle.hk_core.specs.declared.spot.Line.TheVariants as line
use Rattle.hk_core.specs.declared.spot.Stage.{Stage}
use Rattle.hk_core.specs.declared.spot.Stage.TheVariants as stage
use Rattle.hk_core.specs.Event.{fired_if, learnt}
use Rattle.hk_core.specs.State.{State, opening, opening_spot}
use Rattle.hk_core.specs.Step.{reference_size}
use Rattle.hk_core.specs.Collect as table
use Rattle.hk_core.specs.Collect.{current_space, old_space, event_at_line, took_at_line, work_at_line, work_by_collector, moved_number, moved_to}
use Rattle.hk_core.specs.View.{words_of, decoded, names_of, contents_of, flight_at, begun_at}
use Rattle.hk_core.specs.Lines as l
use Rattle.hk_core.specs.Colours.{spaces_of, shades_of}
use Rattle.hk_core.specs.Lawful.{Lawful}
use Rattle.hk_core.proofs.Columns.{raw_header, raw_frame}
use Rattle.hk_core.proofs.Inside.{shapes_fit}
use Rattle.hk_core.proofs.kinds.Seats.{kept_means}
use Rattle.hk_core.proofs.kinds.LoadRead.{found-cell, some_words}
use Rattle.hk_core.proofs.kinds.WriteCell.{shades_mean}
use Rattle.hk_collect.proofs.spots.SpotLines.{AtRange, AtItem, at_link, at_look}
use Rattle.hk_collect.proofs.spots.SpotLoads.{work_at}
use Rattle.hk_collect.proofs.spots.SpotLoadsCells.{IsItem, item_known}
use Rattle.hk_collect.proofs.spots.SpotLoadsRow.{found-reserved, found-frame, found-header, found-mark, space_ends}
use Rattle.hk_collect.specs.Measure.{most_useful_at, most_useful, NoneInFlight, IsCalm, KeepsMeasure}
use Rattle.hk_collect.specs.Runs.{is_grey}
use Rattle.hk_collect.proofs.MeasureAttempts.{after_at, work_after, load_kept, register_knows, cell_knows}
use Rattle.hk_collect.proofs.MeasureBounds.{scan_fits, fits_at, spent_at, entries_few}
use Rattle.hk_collect.proofs.MeasureLines.{Counts, rest_counts, frame_counts, register_counts, frame_trade_counts, scan_counts, link_counts, look_counts, cell_counts, object_trade_counts, pass_counts, pass_head_counts, sweep_counts, clear_counts, reset_counts}
use Rattle.hk_collect.proofs.MeasureCalm.{nobody_in_frame, nobody_in_object, linked, none_grey}

-- WHERE THE PASS COMES NEXT

-- the pass begins at the scan, and goes on at its own lines
passing_if : (test : Bool) (a b : Line) → l.passing a ≡ None → l.passing b ≡ None → l.passing (if test then a else b) ≡ None
passing_if true a b one other = one
passing_if false a b one other = other

passing_spot : (test : Bool) (a b : Spot) → l.passing a.line ≡ None → l.passing b.line ≡ None → l.passing (if test then a else b).line ≡ None
passing_spot true a b one other = one
passing_spot false a b one other = other

-- the number whose header is loaded next
head_of : Line → Option ℕ
head_of line.Rest = None
head_of (line.Frame s) = None
head_of (line.Register s r stage) = None
head_of (line.FrameTrade s) = None
head_of line.Scan = None
head_of line.Link = None
head_of line.Look = None
head_of (line.Cell i stage) = None
head_of line.ObjectTrade = None
head_of (line.Pass n) = None
head_of (line.PassHead n) = Some n
head_of (line.Sweep n stage) = None
head_of (line.Clear i) = None
head_of line.Reset = None

head_if : (test : Bool) (a b : Line) → head_of a ≡ None → head_of b ≡ None → head_of (if test then a else b) ≡ None
head_if true a b one other = one
head_if false a b one other = other

no_head : {A : Type 0} (ln : Line) (number : ℕ) → head_of ln ≡ None → ln ≡ line.PassHead number → A
unfolding head_of
no_head ln number none at = absurd (let e = sym none ∙ ap head_of at in cc)

head_after_pass : (g : Geometry) (n : ℕ) → head_of (table.after_pass g n) ≡ None
unfolding head_of
head_after_pass g n = head_if (nat_lt (n + 1) (numbers g)) _ _ refl refl

no_pass : (c : State) → l.passing c.spot.line ≡ None → IsCalm c
unfolding l.passing
no_pass c none = record {
  none_grey = λ passed number at within. absurd (let e = sym none ∙ at in cc);
  head_claimed = λ number at. absurd (let e = sym none ∙ ap l.passing at in cc);
}

to_line : {a b x : ℕ} → a ≡ b → x ≤ a → x ≤ b
to_line same few = omega arith

module _ (g : Geometry) (t : Spot) (old : ℕ) where
  after_rest : t.line ≡ line.Rest → l.passing (took_at_line g t old line.Rest).line ≡ None
  unfolding took_at_line table.rest_took l.passing
  after_rest at = passing_spot (nat_eq t.cycle table.last_cycle) _ _ (rw at refl) refl

  after_frame : (s : ℕ) → t.line ≡ line.Frame s → l.passing (took_at_line g t old (line.Frame s)).line ≡ None
  unfolding took_at_line table.frame_took l.passing
  after_frame s at = passing_spot (nat_lt 0 (layout.frame_accessors old)) _ _ (rw at refl) refl

  next_register : (s r : ℕ) → l.passing (table.after_register g s r) ≡ None
  unfolding l.passing
  next_register s r = passing_if (nat_lt (r + 1) g.registers) _ _ refl refl

  after_register : (s r : ℕ) (stage : Stage) → t.line ≡ line.Register s r stage → l.passing (took_at_line g t old (line.Register s r stage)).line ≡ None
  unfolding took_at_line table.register_took l.passing
  after_register s r stage.Read at = passing_if (nat_eq old 0) _ _ (next_register s r) refl
  after_register s r stage.Claim at = passing_if (nat_lt old t.cycle) _ _ refl (next_register s r)
  after_register s r stage.Reserve at = passing_if (table_fits) _ _ refl (next_register s r)
    where
      table_fits : Bool
      table_fits = nat_le (old + reference_size t.cell) g.live
  after_register s r stage.Tie at = next_register s r
  after_register s r stage.Write at = rw at refl
  after_register s r stage.Mark at = rw at refl
  after_register s r stage.Empty at = rw at refl

  after_frame_trade : (s : ℕ) → l.passing (took_at_line g t old (line.FrameTrade s)).line ≡ None
  unfolding took_at_line table.frame_trade_took l.passing
  after_frame_trade s = passing_if (nat_eq old t.first) _ _ (passing_if (nat_lt (s + 1) (tasks g)) _ _ refl refl) refl

  after_link : l.passing (took_at_line g t old line.Link).line ≡ None
  unfolding took_at_line table.link_took l.passing
  after_link = passing_spot (nat_eq old 0) _ _ refl refl

  after_look : t.line ≡ line.Look → l.passing (took_at_line g t old line.Look).line ≡ None
  unfolding took_at_line table.look_took l.passing
  after_look at = passing_spot (nat_lt 0 (layout.header_accessors old)) _ _ (rw at refl) refl

  after_cell : (i : ℕ) (stage : Stage) → t.line ≡ line.Cell i stage → l.passing (took_at_line g t old (line.Cell i stage)).line ≡ None
  unfolding took_at_line table.cell_took l.passing
  after_cell i stage.Read at = refl
  after_cell i stage.Claim at = refl
  after_cell i stage.Reserve at = refl
  after_cell i stage.Tie at = refl
  after_cell i stage.Write at = passing_if (nat_lt (i + 2) (reference_size t.item)) _ _ refl refl
  after_cell i stage.Mark at = rw at refl
  after_cell i stage.Empty at = rw at refl

  after_object_trade : l.passing (took_at_line g t old line.ObjectTrade).line ≡ None
  unfolding took_at_line table.object_trade_took l.passing
  after_object_trade = passing_spot (nat_eq old t.first) _ _ refl refl

  after_sweep : (n : ℕ) (stage : Stage) → t.line ≡ line.Sweep n stage → l.passing (took_at_line g t old (line.Sweep n stage)).line ≡ None
  unfolding took_at_line table.sweep_took l.passing
  after_sweep n stage.Read at = passing_if (nat_lt old t.cycle) _ _ refl refl
  after_sweep n stage.Claim at = rw at refl
  after_sweep n stage.Reserve at = rw at refl
  after_sweep n stage.Tie at = rw at refl
  after_sweep n stage.Write at = refl
  after_sweep n stage.Mark at = refl
  after_sweep n stage.Empty at = passing_if (nat_lt t.entries (list_length g)) _ _ refl refl

  after_clear : (i : ℕ) → l.passing (took_at_line g t old (line.Clear i)).line ≡ None
  unfolding took_at_line table.clear_took l.passing
  after_clear i = passing_if (nat_lt (i + 1) (space_words g)) _ _ refl refl

  after_reset : l.passing (took_at_line g t old line.Reset).line ≡ None
  unfolding took_at_line l.passing
  after_reset = refl

  head_after_scan : t.line ≡ line.Scan → head_of (took_at_line g t old line.Scan).line ≡ None
  unfolding took_at_line table.scan_took head_of
  head_after_scan at = elim (cases_Bool (nat_lt g.live old)) [
    | inl over ↦ rw over (rw at refl)
    | inr fits ↦ rw fits (head_if (nat_lt t.scan old) _ _ refl refl)
  ]

  head_after_head : (n : ℕ) → head_of (took_at_line g t old (line.PassHead n)).line ≡ None
  unfolding took_at_line table.pass_head_took head_of
  head_after_head n = head_if (table.is_old g t old) _ _ refl (head_after_pass g n)

-- ONE EVENT

module _ (c : State) (history : History) (useful : ℕ) (h : Lawful c history) (calm : IsCalm c) (none : NoneInFlight c) (few : useful ≤ most_useful c.geometry c.spot) where
  -- the event of a line, what it finds, and so the measure
  abbrev found : Line → ℕ
  found ln = learnt c.row (event_at_line c.geometry c.spot ln)

  few_at : (ln : Line) → c.spot.line ≡ ln → useful ≤ most_useful_at c.geometry c.spot ln
  unfolding most_useful
  few_at ln at = to_line (ap (most_useful_at c.geometry c.spot) at) few

  keeps_at : (ln : Line) → c.spot.line ≡ ln → Counts c.geometry c.spot (found ln) ln useful
      → IsCalm (record c { row = fired_if c.row (event_at_line c.geometry c.spot ln); spot = took_at_line c.geometry c.spot (found ln) ln }) → KeepsMeasure c useful
  keeps_at ln at o next =
      let after = after_at c ln (event_at_line c.geometry c.spot ln) at refl in
      let work : work_by_collector c ≡ work_at_line c.geometry c.spot (found ln) ln = work_after c ln (event_at_line c.geometry c.spot ln) at refl in
      record {
        measured = rw (work, after) o.measured;
        calm = rw after next;
        waits_for_nobody = rw work o.waits_for_nobody;
      }

  -- where the pass doesn't come next
  keeps_elsewhere : (ln : Line) → c.spot.line ≡ ln → Counts c.geometry c.spot (found ln) ln useful → l.passing (took_at_line c.geometry c.spot (found ln) ln).line ≡ None → KeepsMeasure c useful
  keeps_elsewhere ln at o quiet =
      keeps_at ln at o (no_pass (record c { row = fired_if c.row (event_at_line c.geometry c.spot ln); spot = took_at_line c.geometry c.spot (found ln) ln }) quiet)

  -- an idle frame, and an idle object
  free_frame : (s : ℕ) → c.spot.line ≡ line.Frame s → layout.frame_accessors (found (line.Frame s)) ≡ 0
  unfolding event_at_line table.frame_event words_of decoded
  free_frame s at =
      let below : s < tasks c.geometry = fits_at c history h (line.Frame s) at in
      ap layout.frame_accessors (found-frame c.geometry c.row s ∙ sym (raw_frame c.geometry c.row s below)) ∙ nobody_in_frame c history h none s below

  -- the link word at the scan offset is there
  link_there : c.spot.line ≡ line.Link → found line.Link ≢ 0
  unfolding event_at_line table.link_event l.hand_of_spot l.hand_at_line
  link_there at missing =
      let g = c.geometry in
      let w = words_of g c.row in
      let names = names_of g history in
      let sh = shades_of g w (flight_at c) c.spot.line names in
      let z = spaces_of g w.cycle in
      let o : AtRange g z sh c.spot h.range = at_link g w z sh (flight_at c) c.spot names h.range (work_at g w (flight_at c) (begun_at c) c.spot names (contents_of g history) h.range line.Link at h.facts) in
      let n = o.found.0 in
      let fits : c.spot.scan + sh.size n ≤ g.live = o.found.2 in
      let size : 0 < sh.size n = some_words names sh.size n ((shades_mean g w (flight_at c) c.spot.line names).size n) in
      let ends : place_at g (current_space c.spot.cycle) 0 + (g.live + g.alloc) ≤ 1 + 2 * space_words g = space_ends g c.spot.cycle in
      let finds = found-cell g c.row (moved_to g c.spot) (omega arith) (omega arith) in
      let same : c.spot.cycle ≡ w.cycle = h.facts.spot_knows_cycle in
      let place : moved_to g c.spot ≡ z.current + c.spot.scan = rw same (omega arith) in
      linked c history h none (ap (l.hand_at_line c.spot) at) c.spot.scan n o.found.1 fits (ap w.cell (sym place) ∙ sym finds ∙ missing)

  free_object : c.spot.line ≡ line.Look → layout.header_accessors (found line.Look) ≡ 0
  unfolding event_at_line table.look_event words_of decoded
  free_object at =
      let g = c.geometry in
      let n = moved_number c.spot in
      let within : n < numbers g = item_within_at_look at in
      ap layout.header_accessors (found-header g c.row n ∙ sym (raw_header g c.row n within)) ∙ nobody_in_object c history h none n within
    where
      item_within_at_look : c.spot.line ≡ line.Look → moved_number c.spot < numbers c.geometry
      item_within_at_look at =
          let g = c.geometry in
          let w = words_of g c.row in
          let names = names_of g history in
          let sh = shades_of g w (flight_at c) c.spot.line names in
          let z = spaces_of g w.cycle in
          let o : AtItem g w z sh c.spot h.range = at_look g w z sh (flight_at c) c.spot names h.range (work_at g w (flight_at c) (begun_at c) c.spot names (contents_of g history) h.range line.Look at h.facts) in
          let known : IsItem sh names c.spot.item = item_known g w (flight_at c) (begun_at c) c.spot names (contents_of g history) h.range h.facts (shapes_fit g history) o in
          (kept_means g w (flight_at c) c.spot.line names (moved_number c.spot) known.is_kept).within

  -- THE SCAN AND THE PASS

  -- a load changes no word, so a number is grey after it where it was before
  calm_after_load : (word : ℕ) (spot : Spot) → ((passed number : ℕ) → l.passing spot.line ≡ Some passed → number < numbers c.geometry → is_grey c number ≡ false)
      → ((number : ℕ) → spot.line ≡ line.PassHead number → (words_of c.geometry c.row).mark number ≡ (words_of c.geometry c.row).cycle)
      → IsCalm (record c { row = fired_if c.row (Some (event.Load word)); spot = spot })
  calm_after_load word spot grey claimed = rw (load_kept c.row word) (record { none_grey = grey; head_claimed = claimed })

  passes : (n : ℕ) → c.spot.line ≡ line.Pass n → l.passing c.spot.line ≡ Some n
  unfolding l.passing
  passes n at = ap l.passing at

  passes_head : (n : ℕ) → c.spot.line ≡ line.PassHead n → l.passing c.spot.line ≡ Some n
  unfolding l.passing
  passes_head n at = ap l.passing at

  -- where the pass begins, no number is grey
  scanned_calm : c.spot.line ≡ line.Scan → (passed number : ℕ) → l.passing (took_at_line c.geometry c.spot (found line.Scan) line.Scan).line ≡ Some passed → number < numbers c.geometry
      → is_grey c number ≡ false
  unfolding event_at_line table.scan_event took_at_line table.scan_took l.passing l.is_resting l.hand_of_spot l.hand_at_line
  scanned_calm at passed number begins within =
      let g = c.geometry in
      let w = words_of g c.row in
      let finds : found line.Scan ≡ w.reserved = found-reserved g c.row in
      elim (cases_Bool (nat_lt g.live (found line.Scan))) [
        | inl over ↦ absurd (let e = sym (ap l.passing at) ∙ (rw over at begins) in cc)
        | inr fits ↦ elim (cases_Bool (nat_lt c.spot.scan (found line.Scan))) [
          | inl ahead ↦ absurd (let e = rw (fits, ahead) at begins in cc)
          | inr ends ↦
              let scanned : found line.Scan ≤ c.spot.scan = ltb-false c.spot.scan (found line.Scan) ends in
              none_grey c history h none (ap (l.hand_at_line c.spot) at) (ap l.is_resting at) (omega arith) number within
        ]
      ]

  -- a header is loaded next only of a number that was claimed
  head_after_mark : (n : ℕ) → c.spot.line ≡ line.Pass n → (number : ℕ) → (took_at_line c.geometry c.spot (found (line.Pass n)) (line.Pass n)).line ≡ line.PassHead number
      → (words_of c.geometry c.row).mark number ≡ (words_of c.geometry c.row).cycle
  unfolding event_at_line table.pass_event took_at_line table.pass_took
  head_after_mark n at number head =
      let g = c.geometry in
      let w = words_of g c.row in
      let within : n < numbers g = fits_at c history h (line.Pass n) at in
      let finds : found (line.Pass n) ≡ w.mark n = found-mark g c.row n within in
      elim (cases_Bool (nat_eq (found (line.Pass n)) c.spot.cycle)) [
        | inl claimed ↦
            let here : n ≡ number = same_head n number (rw claimed at head) in
            let is : found (line.Pass n) ≡ c.spot.cycle = eqb-true (found (line.Pass n)) c.spot.cycle claimed in
            ap w.mark (sym here) ∙ sym finds ∙ is ∙ h.facts.spot_knows_cycle
        | inr other ↦ no_head (table.after_pass g n) number (head_after_pass g n) (rw other at head)
      ]
    where
      same_head : (n number : ℕ) → line.PassHead n ≡ line.PassHead number → n ≡ number
      same_head n number e = cc

  -- the number whose header is loaded stands in the current space
  head_moved : (n : ℕ) → c.spot.line ≡ line.PassHead n → table.is_old c.geometry c.spot (found (line.PassHead n)) ≡ false
  unfolding event_at_line table.pass_head_event words_of decoded l.passing
  head_moved n at =
      let g = c.geometry in
      let w = words_of g c.row in
      let z = spaces_of g w.cycle in
      let old = found (line.PassHead n) in
      let within : n < numbers g = fits_at c history h (line.PassHead n) at in
      let place : layout.header_place old ≡ w.place n = ap layout.header_place (found-header g c.row n ∙ sym (raw_header g c.row n within)) in
      let same : c.spot.cycle ≡ w.cycle = h.facts.spot_knows_cycle in
      let claimed : w.mark n ≡ w.cycle = calm.head_claimed n at in
      let light : is_grey c n ≡ false = calm.none_grey n n (ap l.passing at) within in
      elim (cases_Bool (table.is_old g c.spot old)) [
        | inl stays ↦
            let parts = and_parts (nat_le (place_at g (old_space c.spot.cycle) 0) (layout.header_place old)) _ stays in
            let after : place_at g (old_space c.spot.cycle) 0 ≤ layout.header_place old = leb-true _ _ parts.0 in
            let before : layout.header_place old < place_at g (old_space c.spot.cycle) (space_words g) = ltb-true _ _ parts.1 in
            let first : place_at g (old_space c.spot.cycle) 0 ≡ z.old = ap (λ cycle. place_at g (old_space cycle) 0) same in
            let end : place_at g (old_space c.spot.cycle) (space_words g) ≡ z.old + (z.live + z.alloc) = ap (λ cycle. place_at g (old_space cycle) (space_words g)) same ∙ ends g (old_space w.cycle) in
            let grey : is_grey c n ≡ true = and_from _ _ (eq-eqb (w.mark n) w.cycle claimed)
            (and_from _ _ (le-leb z.old (w.place n) (omega arith)) (lt-ltb (w.place n) (z.old + (z.live + z.alloc)) (omega arith))) in
            absurd (let e = sym grey ∙ light in cc)
        | inr moved ↦ moved
      ]
    where
      ends : (g : Geometry) (space : ℕ) → place_at g space (space_words g) ≡ place_at g space 0 + (g.live + g.alloc)
      ends g space = omega arith

  frame_spent : (s : ℕ) → c.spot.line ≡ line.FrameTrade s → c.spot.spent ≤ 1 + 4 * c.geometry.registers
  unfolding l.most_spent
  frame_spent s at = spent_at c history h (line.FrameTrade s) (1 + 4 * c.geometry.registers) at refl

  object_spent : c.spot.line ≡ line.ObjectTrade → c.spot.spent ≤ 1 + 5 * (reference_size c.spot.item - 1)
  unfolding l.most_spent
  object_spent at = spent_at c history h line.ObjectTrade (1 + 5 * (reference_size c.spot.item - 1)) at refl

  -- the scan: the pass begins where all that is reserved was scanned
  scan_keeps : c.spot.line ≡ line.Scan → KeepsMeasure c useful
  unfolding event_at_line table.scan_event l.is_resting l.hand_of_spot l.hand_at_line
  scan_keeps at =
      keeps_at line.Scan at (scan_counts c.geometry c.spot _ useful at (scan_fits c history h line.Scan at refl) (few_at line.Scan at))
      (calm_after_load (w1_at c.geometry) (took_at_line c.geometry c.spot (found line.Scan) line.Scan) (pass_begins at) (no_header at))
    where
      pass_begins : c.spot.line ≡ line.Scan → (passed number : ℕ) → l.passing (took_at_line c.geometry c.spot (found line.Scan) line.Scan).line ≡ Some passed → number < numbers c.geometry
          → is_grey c number ≡ false
      pass_begins at passed number begins within = scanned_calm at passed number begins within

      no_header : c.spot.line ≡ line.Scan → (number : ℕ) → (took_at_line c.geometry c.spot (found line.Scan) line.Scan).line ≡ line.PassHead number
          → (words_of c.geometry c.row).mark number ≡ (words_of c.geometry c.row).cycle
      no_header at number head = no_head _ number (head_after_scan c.geometry c.spot (found line.Scan) at) head

  pass_keeps : (n : ℕ) → c.spot.line ≡ line.Pass n → KeepsMeasure c useful
  unfolding event_at_line table.pass_event
  pass_keeps n at =
      keeps_at (line.Pass n) at (pass_counts c.geometry c.spot _ useful n (fits_at c history h (line.Pass n) at) (few_at (line.Pass n) at))
      (calm_after_load (mark_at c.geometry n) (took_at_line c.geometry c.spot (found (line.Pass n)) (line.Pass n))
      (λ passed number begins within. calm.none_grey n number (passes n at) within) (head_after_mark n at))

  pass_head_keeps : (n : ℕ) → c.spot.line ≡ line.PassHead n → KeepsMeasure c useful
  unfolding event_at_line table.pass_head_event
  pass_head_keeps n at =
      keeps_at (line.PassHead n) at (pass_head_counts c.geometry c.spot _ useful n (fits_at c history h (line.PassHead n) at) (head_moved n at) (few_at (line.PassHead n) at))
      (calm_after_load (header_at c.geometry n) (took_at_line c.geometry c.spot (found (line.PassHead n)) (line.PassHead n))
      (λ passed number begins within. calm.none_grey n number (passes_head n at) within)
      (λ number head. no_head _ number (head_after_head c.geometry c.spot (found (line.PassHead n)) n) head))

  -- EACH LINE

  by_line : (ln : Line) → c.spot.line ≡ ln → KeepsMeasure c useful
  by_line line.Rest at = keeps_elsewhere line.Rest at (rest_counts c.geometry c.spot _ useful at (few_at line.Rest at)) (after_rest c.geometry c.spot _ at)
  by_line (line.Frame s) at = keeps_elsewhere (line.Frame s) at (frame_counts c.geometry c.spot _ useful s (free_frame s at) (few_at (line.Frame s) at)) (after_frame c.geometry c.spot _ s at)
  by_line (line.Register s r stage) at =
      keeps_elsewhere (line.Register s r stage) at (register_counts c.geometry c.spot _ useful s r stage (register_knows c history h s r stage at).staged (few_at (line.Register s r stage) at))
      (after_register c.geometry c.spot _ s r stage at)
  by_line (line.FrameTrade s) at =
      keeps_elsewhere (line.FrameTrade s) at
      (frame_trade_counts c.geometry c.spot _ useful s (fits_at c history h (line.FrameTrade s) at) (frame_spent s at) (few_at (line.FrameTrade s) at))
      (after_frame_trade c.geometry c.spot _ s)
  by_line line.Scan at = scan_keeps at
  by_line line.Link at = keeps_elsewhere line.Link at (link_counts c.geometry c.spot _ useful (link_there at) (few_at line.Link at)) (after_link c.geometry c.spot _)
  by_line line.Look at = keeps_elsewhere line.Look at (look_counts c.geometry c.spot _ useful (free_object at) (few_at line.Look at)) (after_look c.geometry c.spot _ at)
  by_line (line.Cell i stage) at =
      keeps_elsewhere (line.Cell i stage) at (cell_counts c.geometry c.spot _ useful i stage (cell_knows c history h i stage at).staged (few_at (line.Cell i stage) at))
      (after_cell c.geometry c.spot _ i stage at)
  by_line line.ObjectTrade at =
      keeps_elsewhere line.ObjectTrade at (object_trade_counts c.geometry c.spot _ useful (object_spent at) (few_at line.ObjectTrade at)) (after_object_trade c.geometry c.spot _)
  by_line (line.Pass n) at = pass_keeps n at
  by_line (line.PassHead n) at = pass_head_keeps n at
  by_line (line.Sweep n stage) at =
      keeps_elsewhere (line.Sweep n stage) at
      (sweep_counts c.geometry c.spot _ useful n stage (fits_at c history h (line.Sweep n stage) at).0 (fits_at c history h (line.Sweep n stage) at).1 (entries_few c history h n stage at) (few_at (line.Sweep n stage) at))
      (after_sweep c.geometry c.spot _ n stage at)
  by_line (line.Clear i) at =
      keeps_elsewhere (line.Clear i) at (clear_counts c.geometry c.spot _ useful i (fits_at c history h (line.Clear i) at) (few_at (line.Clear i) at)) (after_clear c.geometry c.spot _ i)
  by_line line.Reset at = keeps_elsewhere line.Reset at (reset_counts c.geometry c.spot _ useful (few_at line.Reset at)) (after_reset c.geometry c.spot _)

  pub collector_is_measured : KeepsMeasure c useful
  collector_is_measured = by_line c.spot.line refl

-- the opening state is calm: the collector rests
pub opening_is_calm : (g : Geometry) → IsCalm (opening g)
unfolding opening opening_spot l.passing
opening_is_calm g = no_pass (opening g) refl
