-- In a lawful state the collector's spot fits, and its event may be fired.
use Rattle.std.proofs.Common.{◌≡◌, ℕ, zero, suc, ◌+◌, ◌-◌, ◌*◌, ◌^◌, ◌<◌, ◌≤◌, Bool, true, false, inl, inr, refl, ◌∙◌, ap, subst, arith, Option, Some, None}
use Rattle.std.specs.Prelude.{slice_get, unwrap_or, option_map, nat_eq, if◌then◌else◌}
use Rattle.hk_words.specs.declared.geometry.Geometry.{Geometry}
use Rattle.hk_words.specs.Geometry.{tasks, list_length, space_words}
use Rattle.hk_words.specs.Layout as layout
use Rattle.hk_words.specs.Row.{w0_at, place_at}
use Rattle.hk_model.specs.Heap as heap
use Rattle.hk_model.specs.Heap.{Heap, Object, of_object}
use Rattle.hk_model.specs.History.{History, after}
use Rattle.hk_core.specs.declared.event.Event.TheVariants as event
use Rattle.hk_core.specs.declared.spot.Spot.{Spot}
use Rattle.hk_core.specs.declared.spot.Line.{Line}
use Rattle.hk_core.specs.declared.spot.Line.TheVariants as line
use Rattle.hk_core.specs.declared.spot.Stage.{Stage}
use Rattle.hk_core.specs.declared.spot.Stage.TheVariants as stage
use Rattle.hk_core.specs.Event.{CanFireIf}
use Rattle.hk_core.specs.State.{State}
use Rattle.hk_core.specs.Step.{reference_size}
use Rattle.hk_core.specs.Collect as table
use Rattle.hk_core.specs.Collect.{last_cycle, current_space, old_space, next_list, moved_from, moved_to, moved_number, spot_event, event_at_line, event_by_collector}
use Rattle.hk_core.specs.Fits.{NamesNumber}
use Rattle.hk_core.specs.Lines as l
use Rattle.hk_core.specs.View.{words_of, names_of, contents_of, flight_at, begun_at, size_at, refs_at, nums_at}
use Rattle.hk_core.specs.Colours.{spaces_of, Shades, shades_of, IsGood}
use Rattle.hk_core.specs.Flights.{to_link}
use Rattle.hk_core.specs.Lawful.{Lawful, hands_of}
use Rattle.hk_core.proofs.Fires.{can_read_cell, can_write_cell, can_write_header, can_claim, can_reserve}
use Rattle.hk_core.proofs.Inside.{shapes_fit, good_sound, LiesInSpaces}
use Rattle.hk_core.proofs.Reserved.{reserved_small}
use Rattle.hk_core.proofs.kinds.WriteCell.{shades_mean}
use Rattle.hk_core.proofs.kinds.LoadRead.{some_words}
use Rattle.hk_collect.proofs.spots.Spots.{WorkFacts, work_facts}
use Rattle.hk_collect.proofs.spots.SpotLines.{AtRegister, AtFrameTrade, AtRange, AtItem, AtCell, AtObjectTrade, at_register, at_frame_trade, at_link, at_look, at_cell, at_object_trade}
use Rattle.hk_collect.proofs.spots.SpotLoadsCells.{IsItem, item_known}
use Rattle.hk_collect.proofs.spots.SpotLoadsRow.{space_ends}
use Rattle.hk_collect.proofs.spots.SpotCopy.{moving, item_shows}
use Rattle.hk_collect.proofs.spots.SpotWords.{can_swap_w0, can_load_w1, can_write_w1, can_load_header, can_trade_header, can_load_mark, can_write_mark, can_load_frame, can_trade_frame, can_load_register, can_write_entry}
use Rattle.hk_collect.specs.SpotFits.{SpotFits, LineFits, RegisterFits, CellFits, SweepFits, FewSpent}
use Rattle.hk_collect.proofs.spots.SpotClaim.{own_hand}

-- SHAPES

-- each birth of a history has few fields
few_in : (h : Heap) (b : ℕ) → heap.refs h b + heap.nums h b ≤ 254
unfolding heap.refs heap.nums of_object
few_in h b = each (slice_get h.objects b)
  where
    each : (o : Option Object) → unwrap_or (option_map (λ (o : Object). o.shape.refs) o) 0 + unwrap_or (option_map (λ (o : Object). o.shape.nums) o) 0 ≤ 254
    each None = omega arith
    each (Some o) = o.shape.few

pub few_words : (c : State) (history : History) (n : ℕ) → size_at (names_of c.geometry history) n ≤ 255
unfolding size_at refs_at nums_at names_of
few_words c history n = each ((names_of c.geometry history).bearer n)
  where
    each : (o : Option ℕ) → 1 + unwrap_or (option_map (names_of c.geometry history).refs o) 0 + unwrap_or (option_map (names_of c.geometry history).nums o) 0 ≤ 255
    each None = omega arith
    each (Some b) = let few = few_in (after (heap.opening_of c.geometry) history) b in omega arith

-- PLACES

-- a place of one of the two spaces
pub in_space : (g : Geometry) (space offset : ℕ) → space < 2 → offset < space_words g → LiesInSpaces g (place_at g space offset)
in_space g zero offset two below = record { some = omega arith; within = omega arith }
in_space g (suc zero) offset two below = record { some = omega arith; within = omega arith }
in_space g (suc (suc n)) offset two below = absurd (omega arith)

-- THE SPOT

-- the claim in hand of a stage at which a link word is to be written
pub register_hand : (t : Spot) (s r : ℕ) → t.line ≡ line.Register s r stage.Tie → l.hand_of_spot t ≡ to_link t.cell t.cycle t.offset
unfolding l.hand_of_spot l.hand_at_line l.hand_at
register_hand t s r e = ap (l.hand_at_line t) e

pub cell_hand : (t : Spot) (i : ℕ) → t.line ≡ line.Cell i stage.Tie → l.hand_of_spot t ≡ to_link t.cell t.cycle t.offset
unfolding l.hand_of_spot l.hand_at_line l.hand_at
cell_hand t i e = ap (l.hand_at_line t) e

module _ (c : State) (history : History) (h : Lawful c history) where
  -- a good reference names a number
  names_number : (word : ℕ) → IsGood (shades_of c.geometry (words_of c.geometry c.row) (flight_at c) c.spot.line (names_of c.geometry history)).kept (names_of c.geometry history) word
      → NamesNumber c.geometry word
  names_number word good =
      let sound = good_sound c.geometry (words_of c.geometry c.row) (flight_at c) c.spot.line (names_of c.geometry history) word (shapes_fit c.geometry history) good in
      record { some = sound.some; within = sound.within }

  work : (ln : Line) → c.spot.line ≡ ln
      → WorkFacts c.geometry (words_of c.geometry c.row) (spaces_of c.geometry (words_of c.geometry c.row).cycle)
      (shades_of c.geometry (words_of c.geometry c.row) (flight_at c) c.spot.line (names_of c.geometry history)) (flight_at c) c.spot (names_of c.geometry history) h.range ln
  work ln at = work_facts c.geometry (words_of c.geometry c.row) (spaces_of c.geometry (words_of c.geometry c.row).cycle)
      (shades_of c.geometry (words_of c.geometry c.row) (flight_at c) c.spot.line (names_of c.geometry history)) (flight_at c) (begun_at c) (hands_of c.geometry (flight_at c) c.spot) c.spot
      (names_of c.geometry history) (contents_of c.geometry history) h.range h.facts ln at

  abbrev its_shades : Shades
  its_shades = shades_of c.geometry (words_of c.geometry c.row) (flight_at c) c.spot.line (names_of c.geometry history)

  pub here_register : (s r : ℕ) (stage : Stage) → c.spot.line ≡ line.Register s r stage
      → AtRegister c.geometry (words_of c.geometry c.row) its_shades c.spot (names_of c.geometry history) s r stage
  here_register s r stage at = at_register c.geometry (words_of c.geometry c.row) (spaces_of c.geometry (words_of c.geometry c.row).cycle) its_shades (flight_at c) c.spot
      (names_of c.geometry history) h.range s r stage (work (line.Register s r stage) at)

  pub here_frame_trade : (s : ℕ) → c.spot.line ≡ line.FrameTrade s → AtFrameTrade c.geometry (words_of c.geometry c.row) its_shades c.spot s
  here_frame_trade s at = at_frame_trade c.geometry (words_of c.geometry c.row) (spaces_of c.geometry (words_of c.geometry c.row).cycle) its_shades (flight_at c) c.spot
      (names_of c.geometry history) h.range s (work (line.FrameTrade s) at)

  pub here_link : c.spot.line ≡ line.Link → AtRange c.geometry (spaces_of c.geometry (words_of c.geometry c.row).cycle) its_shades c.spot h.range
  here_link at = at_link c.geometry (words_of c.geometry c.row) (spaces_of c.geometry (words_of c.geometry c.row).cycle) its_shades (flight_at c) c.spot
      (names_of c.geometry history) h.range (work line.Link at)

  pub here_look : c.spot.line ≡ line.Look → AtItem c.geometry (words_of c.geometry c.row) (spaces_of c.geometry (words_of c.geometry c.row).cycle) its_shades c.spot h.range
  here_look at = at_look c.geometry (words_of c.geometry c.row) (spaces_of c.geometry (words_of c.geometry c.row).cycle) its_shades (flight_at c) c.spot
      (names_of c.geometry history) h.range (work line.Look at)

  pub here_cell : (i : ℕ) (stage : Stage) → c.spot.line ≡ line.Cell i stage
      → AtCell c.geometry (words_of c.geometry c.row) (spaces_of c.geometry (words_of c.geometry c.row).cycle) its_shades c.spot (names_of c.geometry history) h.range i stage
  here_cell i stage at = at_cell c.geometry (words_of c.geometry c.row) (spaces_of c.geometry (words_of c.geometry c.row).cycle) its_shades (flight_at c) c.spot
      (names_of c.geometry history) h.range i stage (work (line.Cell i stage) at)

  pub here_object_trade : c.spot.line ≡ line.ObjectTrade
      → AtObjectTrade c.geometry (words_of c.geometry c.row) (spaces_of c.geometry (words_of c.geometry c.row).cycle) its_shades c.spot h.range
  here_object_trade at = at_object_trade c.geometry (words_of c.geometry c.row) (spaces_of c.geometry (words_of c.geometry c.row).cycle) its_shades (flight_at c) c.spot
      (names_of c.geometry history) h.range (work line.ObjectTrade at)

  -- the range at the scan offset, and the object that is moved
  range_there : AtRange c.geometry (spaces_of c.geometry (words_of c.geometry c.row).cycle) its_shades c.spot h.range → c.spot.scan < c.geometry.live
  range_there o =
      let n = o.found.0 in
      let some : 0 < its_shades.size n = some_words (names_of c.geometry history) its_shades.size n ((shades_mean c.geometry (words_of c.geometry c.row) (flight_at c) c.spot.line (names_of c.geometry history)).size n) in
      let fits : c.spot.scan + its_shades.size n ≤ c.geometry.live = o.found.2 in
      omega arith

  item_there : AtItem c.geometry (words_of c.geometry c.row) (spaces_of c.geometry (words_of c.geometry c.row).cycle) its_shades c.spot h.range → IsItem its_shades (names_of c.geometry history) c.spot.item
  item_there o = item_known c.geometry (words_of c.geometry c.row) (flight_at c) (begun_at c) c.spot (names_of c.geometry history) (contents_of c.geometry history) h.range h.facts
      (shapes_fit c.geometry history) o

  -- the claim in hand to link has an offset in the space
  offset_there : l.hand_of_spot c.spot ≡ to_link c.spot.cell c.spot.cycle c.spot.offset → c.spot.offset < c.geometry.live
  offset_there holds =
      let hand : hands_of c.geometry (flight_at c) c.spot (tasks c.geometry) ≡ to_link c.spot.cell c.spot.cycle c.spot.offset = own_hand c.geometry (flight_at c) c.spot ∙ holds in
      let o = h.facts.claims_unlinked (tasks c.geometry) c.spot.cell c.spot.cycle c.spot.offset (omega arith) hand in
      let n = layout.reference_number c.spot.cell in
      let some : 0 < its_shades.size n = some_words (names_of c.geometry history) its_shades.size n ((shades_mean c.geometry (words_of c.geometry c.row) (flight_at c) c.spot.line (names_of c.geometry history)).size n) in
      let fits : c.spot.offset + its_shades.size n ≤ c.geometry.live = o.fits in
      omega arith

  -- what a reference that the collector deals with names, and the object that is moved
  pub cell_names : l.has_reference c.spot.line ≡ true → NamesNumber c.geometry c.spot.cell
  cell_names deals = names_number c.spot.cell (h.facts.cell_good deals)

  pub item_names : l.is_marking c.spot.line ≡ true → AtItem c.geometry (words_of c.geometry c.row) (spaces_of c.geometry (words_of c.geometry c.row).cycle) its_shades c.spot h.range
      → NamesNumber c.geometry c.spot.item
  item_names marks o =
      let g = c.geometry in
      let w = words_of g c.row in
      let names = names_of g history in
      names_number c.spot.item (record {
        some = o.some;
        is_kept = (item_there o).is_kept;
        shows = item_shows g w (spaces_of g w.cycle) its_shades (flight_at c) (begun_at c) (hands_of g (flight_at c) c.spot) c.spot names (contents_of g history) h.range h.facts
            (shades_mean g w (flight_at c) c.spot.line names) (shapes_fit g history) marks o;
      })

  -- its words are few
  item_few : AtItem c.geometry (words_of c.geometry c.row) (spaces_of c.geometry (words_of c.geometry c.row).cycle) its_shades c.spot h.range → reference_size c.spot.item ≤ 255
  item_few o =
      let same : reference_size c.spot.item ≡ size_at (names_of c.geometry history) (layout.reference_number c.spot.item) = (item_there o).size in
      let few = few_words c history (layout.reference_number c.spot.item) in
      omega arith

  -- and lie in the range at the scan offset
  pub item_range : AtItem c.geometry (words_of c.geometry c.row) (spaces_of c.geometry (words_of c.geometry c.row).cycle) its_shades c.spot h.range → l.is_marking c.spot.line ≡ true
      → c.spot.scan + reference_size c.spot.item ≤ c.geometry.live
  item_range o marks =
      let g = c.geometry in
      let w = words_of g c.row in
      let names = names_of g history in
      let m = moving g w (spaces_of g w.cycle) its_shades (flight_at c) (begun_at c) (hands_of g (flight_at c) c.spot) c.spot names (contents_of g history) h.range h.facts
      (shades_mean g w (flight_at c) c.spot.line names) (shapes_fit g history) marks o in
      let size : reference_size c.spot.item ≡ its_shades.size (layout.reference_number c.spot.item) = m.size in
      let fits : c.spot.scan + its_shades.size (layout.reference_number c.spot.item) ≤ g.live = m.fits in
      omega arith

  -- a cell of its old place is a word of the spaces
  pub old_cell : AtItem c.geometry (words_of c.geometry c.row) (spaces_of c.geometry (words_of c.geometry c.row).cycle) its_shades c.spot h.range
      → moved_from c.spot ≡ (words_of c.geometry c.row).place (layout.reference_number c.spot.item) → (i : ℕ) → i + 1 < reference_size c.spot.item
      → LiesInSpaces c.geometry (moved_from c.spot + 1 + i)
  old_cell o placed i below =
      let g = c.geometry in
      let w = words_of g c.row in
      let names = names_of g history in
      let n = layout.reference_number c.spot.item in
      let known : IsItem its_shades names c.spot.item = item_there o in
      let size : reference_size c.spot.item ≡ size_at names n = known.size in
      let same : its_shades.size n ≡ size_at names n = (shades_mean g w (flight_at c) c.spot.line names).size n in
      elim (h.facts.objects_in_one_space n known.is_kept) [
        | inl old ↦
            let before : w.place n + its_shades.size n ≤ place_at g (old_space w.cycle) 0 + (g.live + g.alloc) = old.before in
            let ends : place_at g (old_space w.cycle) 0 + (g.live + g.alloc) ≤ 1 + 2 * space_words g = space_ends g (w.cycle + 1) in
            record { some = omega arith; within = omega arith }
        | inr new ↦
            let before : w.place n + its_shades.size n ≤ place_at g (current_space w.cycle) 0 + (g.live + g.alloc) = new.before in
            let ends : place_at g (current_space w.cycle) 0 + (g.live + g.alloc) ≤ 1 + 2 * space_words g = space_ends g w.cycle in
            record { some = omega arith; within = omega arith }
      ]

  -- THE LINES

  deals_at : (ln : Line) → c.spot.line ≡ ln → l.has_reference ln ≡ true → l.has_reference c.spot.line ≡ true
  deals_at ln at e = ap l.has_reference at ∙ e

  pub marks_at : (ln : Line) → c.spot.line ≡ ln → l.is_marking ln ≡ true → l.is_marking c.spot.line ≡ true
  marks_at ln at e = ap l.is_marking at ∙ e

  rank_small : (stage : Stage) → l.stage_rank stage ≤ 4
  unfolding l.stage_rank
  rank_small stage.Read = omega arith
  rank_small stage.Claim = omega arith
  rank_small stage.Reserve = omega arith
  rank_small stage.Tie = omega arith
  rank_small stage.Write = omega arith
  rank_small stage.Mark = omega arith
  rank_small stage.Empty = omega arith

  register_few : (s r : ℕ) (stage : Stage) → c.spot.line ≡ line.Register s r stage → FewSpent c.spot
  register_few s r stage at =
      let o = here_register s r stage at in
      let spent : c.spot.spent ≤ 1 + 4 * r + l.stage_rank stage = o.spent in
      let rank = rank_small stage in
      let below : r < c.geometry.registers = o.register in
      let few = c.geometry.registers_few in
      omega arith

  cell_few : (i : ℕ) (stage : Stage) → c.spot.line ≡ line.Cell i stage → FewSpent c.spot
  cell_few i stage at =
      let o = here_cell i stage at in
      let spent : c.spot.spent ≤ 1 + 5 * i + l.stage_rank stage = o.spent in
      let rank = rank_small stage in
      let below : i + 1 < reference_size c.spot.item = o.cell in
      let few : reference_size c.spot.item ≤ 255 = item_few o.in_object.at_item in
      omega arith

  register_fits : (s r : ℕ) (stage : Stage) → c.spot.line ≡ line.Register s r stage → RegisterFits c.geometry c.spot stage
  unfolding l.has_reference l.is_in_work
  register_fits s r stage.Read at = tt
  register_fits s r stage.Claim at = cell_names (deals_at (line.Register s r stage.Claim) at refl)
  register_fits s r stage.Reserve at = tt
  register_fits s r stage.Tie at = let o = offset_there (register_hand c.spot s r at) in omega arith
  register_fits s r stage.Write at = tt
  register_fits s r stage.Mark at = tt
  register_fits s r stage.Empty at = tt

  cell_fits : (i : ℕ) (stage : Stage) → c.spot.line ≡ line.Cell i stage → CellFits c.geometry c.spot i stage
  unfolding l.has_reference l.is_in_work l.is_marking
  cell_fits i stage.Read at = let o = here_cell i stage.Read at in (old_cell o.in_object.at_item o.in_object.behind.placed i o.cell).within
  cell_fits i stage.Claim at = cell_names (deals_at (line.Cell i stage.Claim) at refl)
  cell_fits i stage.Reserve at = tt
  cell_fits i stage.Tie at = let o = offset_there (cell_hand c.spot i at) in omega arith
  cell_fits i stage.Write at =
      let o = here_cell i stage.Write at in
      let below : i + 1 < reference_size c.spot.item = o.cell in
      let range = item_range o.in_object.at_item (marks_at (line.Cell i stage.Write) at refl) in
      omega arith
  cell_fits i stage.Mark at = tt
  cell_fits i stage.Empty at = tt

  pub formed : (ln : Line) → c.spot.line ≡ ln → l.LineFits c.geometry c.spot ln
  formed ln at = (work ln at).line_fits

  pub in_step : (ln : Line) → c.spot.line ≡ ln → l.InStep (list_length c.geometry) (words_of c.geometry c.row).cycle c.spot.entries (words_of c.geometry c.row).mark
      ((words_of c.geometry c.row).entry (next_list (words_of c.geometry c.row).cycle)) ln
  in_step ln at = subst (λ (ln : Line). l.InStep (list_length c.geometry) (words_of c.geometry c.row).cycle c.spot.entries (words_of c.geometry c.row).mark
      ((words_of c.geometry c.row).entry (next_list (words_of c.geometry c.row).cycle)) ln) at h.facts.sweep_in_step

  sweep_fits : (n : ℕ) (stage : Stage) → c.spot.line ≡ line.Sweep n stage → SweepFits c.geometry c.spot stage
  sweep_fits n stage.Read at = tt
  sweep_fits n stage.Claim at = tt
  sweep_fits n stage.Reserve at = tt
  sweep_fits n stage.Tie at = tt
  sweep_fits n stage.Write at = (in_step (line.Sweep n stage.Write) at).0
  sweep_fits n stage.Mark at = tt
  sweep_fits n stage.Empty at = tt

  line_fits : (ln : Line) → c.spot.line ≡ ln → LineFits c.geometry c.spot ln
  unfolding l.is_marking
  line_fits line.Rest at = tt
  line_fits (line.Frame s) at = formed (line.Frame s) at
  line_fits (line.Register s r stage) at = let o = formed (line.Register s r stage) at in ((o.0, o.1), register_fits s r stage at, register_few s r stage at)
  line_fits (line.FrameTrade s) at =
      let o = here_frame_trade s at in
      let spent : c.spot.spent ≤ 1 + 4 * c.geometry.registers = o.spent in
      let few = c.geometry.registers_few in
      (formed (line.FrameTrade s) at, omega arith)
  line_fits line.Scan at = tt
  line_fits line.Link at = let o = range_there (here_link at) in omega arith
  line_fits line.Look at = item_names (marks_at line.Look at refl) (here_look at)
  line_fits (line.Cell i stage) at =
      let o = here_cell i stage at in
      let few : reference_size c.spot.item ≤ 255 = item_few o.in_object.at_item in
      (o.cell, omega arith, cell_fits i stage at, cell_few i stage at)
  line_fits line.ObjectTrade at =
      let o = here_object_trade at in
      let spent : c.spot.spent ≤ 1 + 5 * (reference_size c.spot.item - 1) = o.spent in
      let few : reference_size c.spot.item ≤ 255 = item_few o.in_object.at_item in
      let there = range_there o.in_object.at_item.at_range in
      (item_names (marks_at line.ObjectTrade at refl) o.in_object.at_item, omega arith, omega arith)
  line_fits (line.Pass n) at = formed (line.Pass n) at
  line_fits (line.PassHead n) at = formed (line.PassHead n) at
  line_fits (line.Sweep n stage) at = ((formed (line.Sweep n stage) at).0, sweep_fits n stage at)
  line_fits (line.Clear i) at = formed (line.Clear i) at
  line_fits line.Reset at = tt

  -- the spot fits
  pub spot_fits : SpotFits c.geometry c.spot
  spot_fits = record {
    cycle = rw h.facts.spot_knows_cycle h.facts.cycle_fits;
    line = line_fits c.spot.line refl;
  }

  -- THE EVENT

  reserve_fires : CanFireIf c.row (table.reserve_cell c.geometry c.spot)
  unfolding table.reserve_cell
  reserve_fires =
      let few : reference_size c.spot.cell < 2 ^ 10 = omega arith in
      let small : (words_of c.geometry c.row).reserved < 2 ^ 60 = reserved_small c history h in
      can_reserve c.geometry c.row h.sized.row (reference_size c.spot.cell) (omega arith)

  claim_fires : NamesNumber c.geometry c.spot.cell → CanFireIf c.row (table.claim_cell c.geometry c.spot)
  unfolding table.claim_cell
  claim_fires names = can_claim c.geometry c.row h.sized.row (layout.reference_number c.spot.cell) c.spot.cycle names.within

  pub link_there : l.hand_of_spot c.spot ≡ to_link c.spot.cell c.spot.cycle c.spot.offset → LiesInSpaces c.geometry (place_at c.geometry (current_space c.spot.cycle) c.spot.offset)
  link_there holds = let o = offset_there holds in in_space c.geometry (current_space c.spot.cycle) c.spot.offset (omega arith) (omega arith)

  link_fires : c.spot.offset < space_words c.geometry → CanFireIf c.row (table.link_cell c.geometry c.spot)
  unfolding table.link_cell
  link_fires there =
      let p = place_at c.geometry (current_space c.spot.cycle) c.spot.offset in
      let o = in_space c.geometry (current_space c.spot.cycle) c.spot.offset (omega arith) there in
      can_write_cell c.geometry c.row h.sized.row p c.spot.cell o.some o.within

  rest_fires : CanFireIf c.row (table.rest_event c.geometry c.spot)
  unfolding table.rest_event
  rest_fires = by_test (nat_eq c.spot.cycle last_cycle)
    where
      by_test : (worn : Bool) → CanFireIf c.row (if worn then None else Some (event.Swap (w0_at c.geometry) (layout.pack_w0 0 0 (c.spot.cycle + 1))))
      by_test true = tt
      by_test false = can_swap_w0 c.geometry c.row h.sized.row (layout.pack_w0 0 0 (c.spot.cycle + 1))

  register_fires : (s r : ℕ) (stage : Stage) → c.spot.line ≡ line.Register s r stage → CanFireIf c.row (table.register_event c.geometry c.spot s r stage)
  unfolding table.register_event
  register_fires s r stage.Read at = let o = formed (line.Register s r stage.Read) at in can_load_register c.geometry c.row h.sized.row s r o.0 o.1
  register_fires s r stage.Claim at = claim_fires (register_fits s r stage.Claim at)
  register_fires s r stage.Reserve at = reserve_fires
  register_fires s r stage.Tie at = link_fires (register_fits s r stage.Tie at)
  register_fires s r stage.Write at = tt
  register_fires s r stage.Mark at = tt
  register_fires s r stage.Empty at = tt

  cell_fires : (i : ℕ) (stage : Stage) → c.spot.line ≡ line.Cell i stage → CanFireIf c.row (table.cell_event c.geometry c.spot i stage)
  unfolding table.cell_event
  cell_fires i stage.Read at =
      let o = here_cell i stage.Read at in
      let lies = old_cell o.in_object.at_item o.in_object.behind.placed i o.cell in
      can_read_cell c.geometry c.row h.sized.row (moved_from c.spot + 1 + i) lies.some lies.within
  cell_fires i stage.Claim at = claim_fires (cell_fits i stage.Claim at)
  cell_fires i stage.Reserve at = reserve_fires
  cell_fires i stage.Tie at = link_fires (cell_fits i stage.Tie at)
  cell_fires i stage.Write at =
      let there : c.spot.scan + 1 + i < space_words c.geometry = cell_fits i stage.Write at in
      let o = in_space c.geometry (current_space c.spot.cycle) (c.spot.scan + 1 + i) (omega arith) there in
      let same : place_at c.geometry (current_space c.spot.cycle) (c.spot.scan + 1 + i) ≡ moved_to c.geometry c.spot + 1 + i = omega arith in
      can_write_cell c.geometry c.row h.sized.row (moved_to c.geometry c.spot + 1 + i) c.spot.cell (rw same at o.some) (rw same at o.within)
  cell_fires i stage.Mark at = tt
  cell_fires i stage.Empty at = tt

  sweep_fires : (n : ℕ) (stage : Stage) → c.spot.line ≡ line.Sweep n stage → CanFireIf c.row (table.sweep_event c.geometry c.spot n stage)
  unfolding table.sweep_event
  sweep_fires n stage.Read at = can_load_mark c.geometry c.row h.sized.row n (formed (line.Sweep n stage.Read) at).0
  sweep_fires n stage.Claim at = tt
  sweep_fires n stage.Reserve at = tt
  sweep_fires n stage.Tie at = tt
  sweep_fires n stage.Write at = can_write_entry c.geometry c.row h.sized.row (next_list c.spot.cycle) c.spot.entries n (omega arith) (sweep_fits n stage.Write at)
  sweep_fires n stage.Mark at = can_write_mark c.geometry c.row h.sized.row n (c.spot.cycle + 1) (formed (line.Sweep n stage.Mark) at).0
  sweep_fires n stage.Empty at = can_write_header c.geometry c.row h.sized.row n 0 (formed (line.Sweep n stage.Empty) at).0

  line_fires : (ln : Line) → c.spot.line ≡ ln → CanFireIf c.row (event_at_line c.geometry c.spot ln)
  unfolding event_at_line table.frame_event table.frame_trade_event table.scan_event table.link_event table.look_event table.object_trade_event table.pass_event table.pass_head_event table.clear_event table.reset_event
  line_fires line.Rest at = rest_fires
  line_fires (line.Frame s) at = can_load_frame c.geometry c.row h.sized.row s (formed (line.Frame s) at)
  line_fires (line.Register s r stage) at = register_fires s r stage at
  line_fires (line.FrameTrade s) at = can_trade_frame c.geometry c.row h.sized.row s c.spot.first _ (formed (line.FrameTrade s) at)
  line_fires line.Scan at = can_load_w1 c.geometry c.row h.sized.row
  line_fires line.Link at =
      let there = range_there (here_link at) in
      let o = in_space c.geometry (current_space c.spot.cycle) c.spot.scan (omega arith) (omega arith) in
      can_read_cell c.geometry c.row h.sized.row (moved_to c.geometry c.spot) o.some o.within
  line_fires line.Look at = can_load_header c.geometry c.row h.sized.row (moved_number c.spot) (line_fits line.Look at).within
  line_fires (line.Cell i stage) at = cell_fires i stage at
  line_fires line.ObjectTrade at = can_trade_header c.geometry c.row h.sized.row (moved_number c.spot) c.spot.first _ (line_fits line.ObjectTrade at).0.within
  line_fires (line.Pass n) at = can_load_mark c.geometry c.row h.sized.row n (formed (line.Pass n) at)
  line_fires (line.PassHead n) at = can_load_header c.geometry c.row h.sized.row n (formed (line.PassHead n) at)
  line_fires (line.Sweep n stage) at = sweep_fires n stage at
  line_fires (line.Clear i) at =
      let o = in_space c.geometry (old_space c.spot.cycle) i (omega arith) (formed (line.Clear i) at) in
      can_write_cell c.geometry c.row h.sized.row (place_at c.geometry (old_space c.spot.cycle) i) 0 o.some o.within
  line_fires line.Reset at = can_write_w1 c.geometry c.row h.sized.row 0

  -- the event may be fired
  pub event_fires : CanFireIf c.row (event_by_collector c)
  unfolding event_by_collector spot_event
  event_fires = line_fires c.spot.line refl
