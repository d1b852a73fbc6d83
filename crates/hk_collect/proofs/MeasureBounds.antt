-- In a lawful state the bound of the spot is at most that of a whole cycle.
use Rattle.std.proofs.Common.{◌≡◌, ℕ, ◌+◌, ◌-◌, ◌*◌, ◌/◌, ◌<◌, ◌≤◌, true, false, inl, inr, refl, sym, ◌∙◌, ap, arith, Some}
use Rattle.std.proofs.lemmas.Nat.{mul-le}
use Rattle.hk_words.specs.Geometry.{tasks, list_length, space_words}
use Rattle.hk_model.specs.History.{History}
use Rattle.hk_core.specs.declared.spot.Line.{Line}
use Rattle.hk_core.specs.declared.spot.Line.TheVariants as line
use Rattle.hk_core.specs.declared.spot.Stage.{Stage}
use Rattle.hk_core.specs.declared.spot.Stage.TheVariants as stage
use Rattle.hk_core.specs.State.{State}
use Rattle.hk_core.specs.Step.{reference_size}
use Rattle.hk_core.specs.Collect.{next_list}
use Rattle.hk_core.specs.View.{words_of, names_of, contents_of, flight_at, begun_at, size_at, reference_at}
use Rattle.hk_core.specs.Lines as l
use Rattle.hk_core.specs.Colours.{spaces_of, shades_of}
use Rattle.hk_core.specs.Lawful.{Lawful}
use Rattle.hk_core.proofs.Inside.{shapes_fit}
use Rattle.hk_core.proofs.kinds.Seats.{kept_means}
use Rattle.hk_core.proofs.kinds.WriteCell.{reference_parts, size_of_reference, shades_mean}
use Rattle.hk_collect.proofs.spots.SpotLines.{AtItem, at_object_trade}
use Rattle.hk_collect.proofs.spots.SpotLoads.{work_at}
use Rattle.hk_words.specs.Bounds.{frame_events}
use Rattle.hk_collect.specs.Measure.{most_for_sweep, most_in_sweep, most_useful_at, most_useful, cycle_bound, MovesBirth}
use Rattle.hk_collect.proofs.MeasureAttempts.{register_knows, cell_knows}
use Rattle.hk_core.proofs.Shared.{size_borne}
use Rattle.hk_collect.proofs.Small.{a_birth}

-- NUMBERS

-- the attempts on frames: so many for the frames that are done, and one for the next
pub frames_step : (events s : ℕ) → events * (s + 1) ≡ events * s + events
frames_step events s = omega arith

pub frames_within : (events s seats : ℕ) → s < seats → events * s + events ≤ events * seats
frames_within events s seats below =
    let most : events * (s + 1) ≤ events * seats = mul-le events (s + 1) events seats (omega arith) (omega arith) in
    let step = frames_step events s in
    omega arith

register_bound : (events registers s seats r spent live alloc : ℕ) → events ≡ 2 + 4 * registers → s < seats → r < registers → spent ≤ 1 + 4 * r + 3
    → 1 + events * s + spent ≤ 3 + events * seats + 9 * live + 7 * alloc
register_bound events registers s seats r spent live alloc is below within few =
    let most = frames_within events s seats below in
    omega arith

trade_bound : (events registers s seats spent live alloc : ℕ) → events ≡ 2 + 4 * registers → s < seats → spent ≤ 1 + 4 * registers
    → 1 + events * s + spent ≤ 3 + events * seats + 9 * live + 7 * alloc
trade_bound events registers s seats spent live alloc is below few =
    let most = frames_within events s seats below in
    omega arith

cell_bound : (frames scan spent words live alloc : ℕ) → 0 < words → scan + words ≤ live → spent ≤ 1 + 5 * (words - 1)
    → 1 + frames + 5 * scan + 2 + spent ≤ 3 + frames + 9 * live + 7 * alloc
cell_bound frames scan spent words live alloc some fits few = omega arith

scan_within : (frames scan live alloc : ℕ) → scan ≤ live → 1 + frames + 5 * scan + 2 ≤ 3 + frames + 9 * live + 7 * alloc
scan_within frames scan live alloc fits = omega arith

pass_within : (frames n live alloc : ℕ) → n < live / 2 + alloc → 1 + (1 + frames + 5 * live) + 2 * n + 1 ≤ 3 + frames + 9 * live + 7 * alloc
pass_within frames n live alloc below = omega arith

sweep_within : (frames n entries live alloc : ℕ) → n < live / 2 + alloc → entries ≤ alloc / 2
    → 1 + (1 + frames + 5 * live) + 2 * (live / 2 + alloc) + n + 3 * entries + 1 ≤ 3 + frames + 9 * live + 7 * alloc
sweep_within frames n entries live alloc below few = omega arith

clear_within : (frames i live alloc : ℕ) → i ≤ live + alloc
    → 1 + (1 + frames + 5 * live) + 2 * (live / 2 + alloc) + (live / 2 + alloc) + 3 * (alloc / 2) + i + 1 ≤ 3 + frames + 9 * live + 7 * alloc
clear_within frames i live alloc few = omega arith

-- THE SIZE OF THE OBJECT THAT IS MOVED

module _ (c : State) (history : History) (h : Lawful c history) where
  -- the range at the scan offset has the words of the object that is moved, and fits
  pub item_fits : AtItem c.geometry (words_of c.geometry c.row) (spaces_of c.geometry (words_of c.geometry c.row).cycle)
      (shades_of c.geometry (words_of c.geometry c.row) (flight_at c) c.spot.line (names_of c.geometry history)) c.spot h.range
      → c.spot.scan + reference_size c.spot.item ≤ c.geometry.live
  item_fits o =
      let g = c.geometry in
      let w = words_of g c.row in
      let names = names_of g history in
      let sh = shades_of g w (flight_at c) c.spot.line names in
      let found = o.at_range.found in
      let k = found.0 in
      let kept : sh.kept k ≡ true = (h.facts.ranges_above_grey c.spot.scan k found.1 (omega arith)).0 in
      let shows : c.spot.item ≡ reference_at names k = elim (h.facts.ranges_linked c.spot.scan k found.1 found.2) [
        | inl unlinked ↦ absurd (o.some (sym o.linked ∙ unlinked))
        | inr linked ↦ sym o.linked ∙ linked
      ] in
      let parts = reference_parts g names k c.spot.item (kept_means g w (flight_at c) c.spot.line names k kept).within (shapes_fit g history) shows in
      let size : reference_size c.spot.item ≡ size_at names k = size_of_reference names k c.spot.item parts.1 parts.2 in
      let same : sh.size k ≡ size_at names k = (shades_mean g w (flight_at c) c.spot.line names).size k in
      let fits : c.spot.scan + sh.size k ≤ g.live = found.2 in
      omega arith

-- THE LAW

rank_of_register : (stage : Stage) → l.IsRegisterStage stage → l.stage_rank stage ≤ 3
unfolding l.stage_rank
rank_of_register stage.Read o = omega arith
rank_of_register stage.Claim o = omega arith
rank_of_register stage.Reserve o = omega arith
rank_of_register stage.Tie o = omega arith
rank_of_register stage.Write o = absurd o
rank_of_register stage.Mark o = omega arith
rank_of_register stage.Empty o = omega arith

rank_of_cell : (stage : Stage) → l.stage_rank stage ≤ 4
unfolding l.stage_rank
rank_of_cell stage.Read = omega arith
rank_of_cell stage.Claim = omega arith
rank_of_cell stage.Reserve = omega arith
rank_of_cell stage.Tie = omega arith
rank_of_cell stage.Write = omega arith
rank_of_cell stage.Mark = omega arith
rank_of_cell stage.Empty = omega arith

module _ (c : State) (history : History) (h : Lawful c history) where
  -- the scan offset fits on a line on which the collector doesn't rest
  pub scan_fits : (ln : Line) → c.spot.line ≡ ln → l.is_resting ln ≡ false → c.spot.scan ≤ c.geometry.live
  scan_fits ln at busy = (h.facts.scan_bounded (ap l.is_resting at ∙ busy)).1

  pub fits_at : (ln : Line) → c.spot.line ≡ ln → l.LineFits c.geometry c.spot ln
  fits_at ln at = rw at at h.facts.spot_formed

  pub in_step_at : (ln : Line) → c.spot.line ≡ ln
      → l.InStep (list_length c.geometry) (words_of c.geometry c.row).cycle c.spot.entries (words_of c.geometry c.row).mark ((words_of c.geometry c.row).entry (next_list (words_of c.geometry c.row).cycle)) ln
  in_step_at ln at = rw at at h.facts.sweep_in_step

  pub spent_at : (ln : Line) (most : ℕ) → c.spot.line ≡ ln → l.most_spent c.geometry c.spot ln ≡ Some most → c.spot.spent ≤ most
  spent_at ln most at is = h.facts.spent_bounded most (ap (l.most_spent c.geometry c.spot) at ∙ is)

  -- the entries of the sweep
  pub entries_few : (n : ℕ) (stage : Stage) → c.spot.line ≡ line.Sweep n stage → c.spot.entries ≤ list_length c.geometry
  entries_few n stage.Read at = let few : c.spot.entries < list_length c.geometry = in_step_at (line.Sweep n stage.Read) at in omega arith
  entries_few n stage.Claim at = absurd (fits_at (line.Sweep n stage.Claim) at).1
  entries_few n stage.Reserve at = absurd (fits_at (line.Sweep n stage.Reserve) at).1
  entries_few n stage.Tie at = absurd (fits_at (line.Sweep n stage.Tie) at).1
  entries_few n stage.Write at = let few : c.spot.entries < list_length c.geometry = (in_step_at (line.Sweep n stage.Write) at).0 in omega arith
  entries_few n stage.Mark at = (in_step_at (line.Sweep n stage.Mark) at).1
  entries_few n stage.Empty at = (in_step_at (line.Sweep n stage.Empty) at).1

  sweep_bounded : (n : ℕ) (stage : Stage) → most_in_sweep c.geometry c.spot n stage ≤ most_for_sweep c.geometry n c.spot.entries + 1
  unfolding most_in_sweep
  sweep_bounded n stage.Read = omega arith
  sweep_bounded n stage.Claim = omega arith
  sweep_bounded n stage.Reserve = omega arith
  sweep_bounded n stage.Tie = omega arith
  sweep_bounded n stage.Write = omega arith
  sweep_bounded n stage.Mark = omega arith
  sweep_bounded n stage.Empty = omega arith

  item_at_cell : (i : ℕ) (stage : Stage) → c.spot.line ≡ line.Cell i stage → c.spot.scan + reference_size c.spot.item ≤ c.geometry.live
  item_at_cell i stage at = item_fits c history h (cell_knows c history h i stage at).in_object.at_item

  item_at_trade : c.spot.line ≡ line.ObjectTrade → c.spot.scan + reference_size c.spot.item ≤ c.geometry.live
  item_at_trade at =
      let g = c.geometry in
      let w = words_of g c.row in
      let names = names_of g history in
      item_fits c history h (at_object_trade g w (spaces_of g w.cycle) (shades_of g w (flight_at c) c.spot.line names) (flight_at c) c.spot names h.range
      (work_at g w (flight_at c) (begun_at c) c.spot names (contents_of g history) h.range line.ObjectTrade at h.facts)).in_object.at_item

  bound_at : (ln : Line) → c.spot.line ≡ ln → most_useful_at c.geometry c.spot ln ≤ cycle_bound c.geometry
  unfolding most_useful_at l.is_resting l.most_spent
  bound_at line.Rest at = clear_within (frame_events c.geometry.registers * tasks c.geometry) (c.geometry.live + c.geometry.alloc) c.geometry.live c.geometry.alloc (omega arith)
  bound_at (line.Frame s) at =
      let below : s < tasks c.geometry = fits_at (line.Frame s) at in
      let most = frames_within (frame_events c.geometry.registers) s (tasks c.geometry) below in
      omega arith
  bound_at (line.Register s r stage) at =
      let o = register_knows c history h s r stage at in
      let below : s < tasks c.geometry = o.in_frame.at_frame.seat in
      let within : r < c.geometry.registers = o.register in
      let spent : c.spot.spent ≤ 1 + 4 * r + l.stage_rank stage = o.spent in
      let rank = rank_of_register stage o.staged in
      register_bound (frame_events c.geometry.registers) c.geometry.registers s (tasks c.geometry) r c.spot.spent c.geometry.live c.geometry.alloc refl below within (omega arith)
  bound_at (line.FrameTrade s) at =
      let below : s < tasks c.geometry = fits_at (line.FrameTrade s) at in
      trade_bound (frame_events c.geometry.registers) c.geometry.registers s (tasks c.geometry) c.spot.spent c.geometry.live c.geometry.alloc refl below
      (spent_at (line.FrameTrade s) (1 + 4 * c.geometry.registers) at refl)
  bound_at line.Scan at =
      let most = scan_within (frame_events c.geometry.registers * tasks c.geometry) c.spot.scan c.geometry.live c.geometry.alloc (scan_fits line.Scan at refl) in
      omega arith
  bound_at line.Link at =
      let most = scan_within (frame_events c.geometry.registers * tasks c.geometry) c.spot.scan c.geometry.live c.geometry.alloc (scan_fits line.Link at refl) in
      omega arith
  bound_at line.Look at = scan_within (frame_events c.geometry.registers * tasks c.geometry) c.spot.scan c.geometry.live c.geometry.alloc (scan_fits line.Look at refl)
  bound_at (line.Cell i stage) at =
      let o = cell_knows c history h i stage at in
      let cell : i + 1 < reference_size c.spot.item = o.cell in
      let spent : c.spot.spent ≤ 1 + 5 * i + l.stage_rank stage = o.spent in
      let rank = rank_of_cell stage in
      cell_bound (frame_events c.geometry.registers * tasks c.geometry) c.spot.scan c.spot.spent (reference_size c.spot.item) c.geometry.live c.geometry.alloc (omega arith) (item_at_cell i stage at) (omega arith)
  bound_at line.ObjectTrade at =
      cell_bound (frame_events c.geometry.registers * tasks c.geometry) c.spot.scan c.spot.spent (reference_size c.spot.item) c.geometry.live c.geometry.alloc (omega arith) (item_at_trade at)
      (spent_at line.ObjectTrade (1 + 5 * (reference_size c.spot.item - 1)) at refl)
  bound_at (line.Pass n) at =
      let most = pass_within (frame_events c.geometry.registers * tasks c.geometry) n c.geometry.live c.geometry.alloc (fits_at (line.Pass n) at) in
      omega arith
  bound_at (line.PassHead n) at = pass_within (frame_events c.geometry.registers * tasks c.geometry) n c.geometry.live c.geometry.alloc (fits_at (line.PassHead n) at)
  bound_at (line.Sweep n stage) at =
      let most = sweep_within (frame_events c.geometry.registers * tasks c.geometry) n c.spot.entries c.geometry.live c.geometry.alloc (fits_at (line.Sweep n stage) at).0 (entries_few n stage at) in
      let more = sweep_bounded n stage in
      omega arith
  bound_at (line.Clear i) at =
      let below : i < space_words c.geometry = fits_at (line.Clear i) at in
      let most = clear_within (frame_events c.geometry.registers * tasks c.geometry) i c.geometry.live c.geometry.alloc (omega arith) in
      omega arith
  bound_at line.Reset at =
      let most = clear_within (frame_events c.geometry.registers * tasks c.geometry) (c.geometry.live + c.geometry.alloc) c.geometry.live c.geometry.alloc (omega arith) in
      omega arith

  pub bound_is_cycle : most_useful c.geometry c.spot ≤ cycle_bound c.geometry
  unfolding most_useful
  bound_is_cycle = bound_at c.spot.line refl

-- THE OBJECT THAT IS MOVED IS A BIRTH

-- what is said of a line on which there is such an object
item_line : (ln : Line) → l.has_item ln ≡ true → l.is_at_range ln ≡ true
unfolding l.has_item l.is_at_range
item_line line.Rest e = absurd (cc)
item_line (line.Frame s) e = absurd (cc)
item_line (line.Register s r stage) e = absurd (cc)
item_line (line.FrameTrade s) e = absurd (cc)
item_line line.Scan e = absurd (cc)
item_line line.Link e = absurd (cc)
item_line line.Look e = refl
item_line (line.Cell i stage) e = refl
item_line line.ObjectTrade e = refl
item_line (line.Pass n) e = absurd (cc)
item_line (line.PassHead n) e = absurd (cc)
item_line (line.Sweep n stage) e = absurd (cc)
item_line (line.Clear i) e = absurd (cc)
item_line line.Reset e = absurd (cc)

pub objects_are_births : (c : State) (history : History) → Lawful c history → l.has_item c.spot.line ≡ true → (birth : ℕ) × MovesBirth c history birth
objects_are_births c history h item =
    let g = c.geometry in
    let w = words_of g c.row in
    let names = names_of g history in
    let sh = shades_of g w (flight_at c) c.spot.line names in
    let found = h.facts.scan_at_range (item_line c.spot.line item) in
    let link = h.facts.item_is_linked item in
    let k = found.0 in
    let kept : sh.kept k ≡ true = (h.facts.ranges_above_grey c.spot.scan k found.1 (omega arith)).0 in
    let shows : c.spot.item ≡ reference_at names k = elim (h.facts.ranges_linked c.spot.scan k found.1 found.2) [
      | inl unlinked ↦ absurd (link.0 (sym link.1 ∙ unlinked))
      | inr linked ↦ sym link.1 ∙ linked
    ] in
    let means = kept_means g w (flight_at c) c.spot.line names k kept in
    let parts = reference_parts g names k c.spot.item means.within (shapes_fit g history) shows in
    let born = a_birth (names.bearer k) means.is_born in (
      born.0,
      record {
        bears = ap names.bearer parts.0 ∙ born.1;
        words = size_of_reference names k c.spot.item parts.1 parts.2 ∙ size_borne names k born.0 born.1;
      },
    )
