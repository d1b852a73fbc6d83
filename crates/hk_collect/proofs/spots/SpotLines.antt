-- What the collector is in the middle of, line by line. For each line on which it looks for objects, one record says what
-- WorkFacts say there; a function goes from WorkFacts to the record, and one back. An event takes the record of its line,
-- and gives the record of the next one.
use Rattle.std.proofs.Common.{◌≡◌, ◌≢◌, ◌⊎◌, ℕ, ◌+◌, ◌-◌, ◌*◌, ◌<◌, ◌≤◌, Bool, true, false, refl, ap, subst, arith, Option, Some, None}
use Rattle.std.specs.Prelude.{if◌then◌else◌}
use Rattle.hk_words.specs.declared.geometry.Geometry.{Geometry}
use Rattle.hk_words.specs.Geometry.{tasks, numbers}
use Rattle.hk_words.specs.Layout as layout
use Rattle.hk_core.specs.declared.flight.Flight.{Flight}
use Rattle.hk_core.specs.declared.spot.Spot.{Spot}
use Rattle.hk_core.specs.declared.spot.Line.TheVariants as line
use Rattle.hk_core.specs.declared.spot.Stage.{Stage}
use Rattle.hk_core.specs.Step.{reference_size}
use Rattle.hk_core.specs.View.{Words, Names}
use Rattle.hk_core.specs.Lines as l
use Rattle.hk_core.specs.Colours.{Spaces, Shades, IsGood, IsNullOrMarked}
use Rattle.hk_core.specs.Facts.{FrameBehind, ObjectBehind, IsSettled}
use Rattle.hk_collect.proofs.spots.Spots.{WorkFacts}
use Rattle.hk_core.proofs.Shared.{never, never_some}

-- THE RECORDS

-- at a frame: those before it are black
pub record AtFrame (g : Geometry) (sh : Shades) (s : ℕ) : Type 0 where
  pub seat : s < tasks g
  pub blackened : (k : ℕ) → k < s → sh.black_frame k ≡ true

-- an open attempt on a frame, which has gone past so many of its registers
pub record InFrame (g : Geometry) (w : Words) (sh : Shades) (t : Spot) (s gone : ℕ) : Type 0 where
  pub at_frame : AtFrame g sh s
  pub behind : FrameBehind t.first w.frame_accessors w.frame_cycle w.frame_version s
  pub passed : (r : ℕ) → w.frame_version s ≡ layout.frame_version t.first → r < gone → IsNullOrMarked w.cycle w.mark (w.register s r)

-- at a register of it
pub record AtRegister (g : Geometry) (w : Words) (sh : Shades) (t : Spot) (names : Names) (s r : ℕ) (stage : Stage) : Type 0 where
  pub in_frame : InFrame g w sh t s r
  pub register : r < g.registers
  pub staged : l.IsRegisterStage stage
  pub good : l.is_in_work stage ≡ true → IsGood sh.kept names t.cell
  pub in_work : l.is_in_work stage ≡ true → w.frame_version s ≡ layout.frame_version t.first → (w.register s r ≡ 0) ⊎ (w.register s r ≡ t.cell)
  pub spent : t.spent ≤ 1 + 4 * r + l.stage_rank stage

pub record AtFrameTrade (g : Geometry) (w : Words) (sh : Shades) (t : Spot) (s : ℕ) : Type 0 where
  pub in_frame : InFrame g w sh t s g.registers
  pub spent : t.spent ≤ 1 + 4 * g.registers

-- past all frames
abbrev pub AllBlack : Geometry → Shades → Type 0
AllBlack g sh = (k : ℕ) → k < tasks g → sh.black_frame k ≡ true

-- at the range at the scan offset
pub record AtRange (g : Geometry) (z : Spaces) (sh : Shades) (t : Spot) (range : ℕ → Option ℕ) : Type 0 where
  pub all_black : AllBlack g sh
  pub found : (n : ℕ) × (range t.scan ≡ Some n) × (t.scan + sh.size n ≤ z.live)

-- at the object that its link word names
pub record AtItem (g : Geometry) (w : Words) (z : Spaces) (sh : Shades) (t : Spot) (range : ℕ → Option ℕ) : Type 0 where
  pub at_range : AtRange g z sh t range
  pub some : t.item ≢ 0
  pub linked : w.cell (z.current + t.scan) ≡ t.item

-- an open attempt on it, which has gone past so many of its cells
pub record InObject (g : Geometry) (w : Words) (z : Spaces) (sh : Shades) (t : Spot) (range : ℕ → Option ℕ) (gone : ℕ) : Type 0 where
  pub at_item : AtItem g w z sh t range
  pub behind : ObjectBehind t.first w.accessors w.place w.version (layout.reference_number t.item)
  pub passed : (i : ℕ) → w.version (layout.reference_number t.item) ≡ layout.header_version t.first → i < gone → i < layout.reference_refs t.item
      → IsNullOrMarked w.cycle w.mark (w.cell (layout.header_place t.first + 1 + i))
  pub copied : (i : ℕ) → w.version (layout.reference_number t.item) ≡ layout.header_version t.first → i < gone
      → w.cell (z.current + t.scan + 1 + i) ≡ w.cell (layout.header_place t.first + 1 + i)

-- at a cell of it
pub record AtCell (g : Geometry) (w : Words) (z : Spaces) (sh : Shades) (t : Spot) (names : Names) (range : ℕ → Option ℕ) (i : ℕ) (stage : Stage) : Type 0 where
  pub in_object : InObject g w z sh t range i
  pub cell : i + 1 < reference_size t.item
  pub staged : l.IsCellStage stage
  pub good : l.is_in_work stage ≡ true → IsGood sh.kept names t.cell
  pub claimed : (j : ℕ) → l.written_at i stage ≡ Some j → j < layout.reference_refs t.item → IsNullOrMarked w.cycle w.mark t.cell
  pub loaded : (j : ℕ) → l.loaded_at i stage ≡ Some j → w.version (layout.reference_number t.item) ≡ layout.header_version t.first
      → t.cell ≡ w.cell (layout.header_place t.first + 1 + j)
  pub spent : t.spent ≤ 1 + 5 * i + l.stage_rank stage

pub record AtObjectTrade (g : Geometry) (w : Words) (z : Spaces) (sh : Shades) (t : Spot) (range : ℕ → Option ℕ) : Type 0 where
  pub in_object : InObject g w z sh t range (reference_size t.item - 1)
  pub spent : t.spent ≤ 1 + 5 * (reference_size t.item - 1)

-- at a number of the pass, before its mark or its header is loaded
pub record AtPass (g : Geometry) (w : Words) (sh : Shades) (flight : ℕ → Flight) (n : ℕ) : Type 0 where
  pub all_black : AllBlack g sh
  pub number : n < numbers g
  pub meets : ((m : ℕ) × (n ≤ m) × (m < numbers g) × (sh.grey m ≡ true)) ⊎ IsSettled g w.cycle sh.white sh.grey w.register flight

-- FROM WORKFACTS, AND BACK

is_some : {B : Type 0} (P : B → Type 0) (x y : B) → Some x ≡ Some y → P x → P y
is_some P x y e p = let same : x ≡ y = cc in subst P same p

is_most : (x y n : ℕ) → Some x ≡ Some y → n ≤ x → n ≤ y
is_most x y n e h = let same : x ≡ y = cc in omega arith

-- of an attempt on a frame: its seat and the registers gone past
attempt_at : (s r k passed : ℕ) → ◌≡◌ {A = Option (ℕ × ℕ)} (Some (s, r)) (Some (k, passed)) → (s ≡ k) × (r ≡ passed)
attempt_at s r k passed e = let same : ◌≡◌ {A = ℕ × ℕ} (s, r) (k, passed) = cc in (ap (λ (x : ℕ × ℕ). x.0) same, ap (λ (x : ℕ × ℕ). x.1) same)

module _ (g : Geometry) (w : Words) (z : Spaces) (sh : Shades) (flight : ℕ → Flight) (t : Spot) (names : Names) (range : ℕ → Option ℕ) where
  pub at_frame : (s : ℕ) → WorkFacts g w z sh flight t names range (line.Frame s) → AtFrame g sh s
  unfolding l.frames_done
  at_frame s h = record { seat = h.line_fits; blackened = h.frames_blackened }

  pub frame_works : (s : ℕ) → AtFrame g sh s → WorkFacts g w z sh flight t names range (line.Frame s)
  unfolding l.has_reference l.frames_done l.frame_attempt l.register_in_work l.cell_to_write l.is_at_range l.has_item l.object_attempt l.cell_loaded l.passing l.most_spent
  frame_works s o = record {
    cell_good = λ e. never e;
    line_fits = o.seat;
    frames_blackened = o.blackened;
    frame_attempt_behind = λ k p e. never_some e;
    registers_passed = λ k p r e. never_some e;
    register_in_work = λ k r e. never_some e;
    cell_claimed = λ i e. never_some e;
    scan_at_range = λ e. never e;
    item_is_linked = λ e. never e;
    object_attempt_behind = λ p e. never_some e;
    cells_passed = λ p i e. never_some e;
    cells_copied = λ p i e. never_some e;
    cell_loaded = λ i e. never_some e;
    pass_meets_grey = λ n e. never_some e;
    spent_bounded = λ m e. never_some e;
  }

  pub at_register : (s r : ℕ) (stage : Stage) → WorkFacts g w z sh flight t names range (line.Register s r stage) → AtRegister g w sh t names s r stage
  unfolding l.has_reference l.frames_done l.frame_attempt l.register_in_work l.most_spent
  at_register s r stage h = record {
    in_frame = record {
      at_frame = record { seat = h.line_fits.0; blackened = h.frames_blackened };
      behind = h.frame_attempt_behind s r refl;
      passed = λ k same below. h.registers_passed s r k refl same below;
    };
    register = h.line_fits.1;
    staged = h.line_fits.2;
    good = h.cell_good;
    in_work = λ works. h.register_in_work s r (rw works refl);
    spent = h.spent_bounded _ refl;
  }

  pub register_works : (s r : ℕ) (stage : Stage) → AtRegister g w sh t names s r stage → WorkFacts g w z sh flight t names range (line.Register s r stage)
  unfolding l.has_reference l.frames_done l.frame_attempt l.register_in_work l.cell_to_write l.is_at_range l.has_item l.object_attempt l.cell_loaded l.passing l.most_spent
  register_works s r stage o = record {
    cell_good = o.good;
    line_fits = (o.in_frame.at_frame.seat, o.register, o.staged);
    frames_blackened = o.in_frame.at_frame.blackened;
    frame_attempt_behind = λ k p e. let same = attempt_at s r k p e in
        subst (λ k. FrameBehind t.first w.frame_accessors w.frame_cycle w.frame_version k) same.0 o.in_frame.behind;
    registers_passed = λ k p q e. let same = attempt_at s r k p e in
        subst (λ k. w.frame_version k ≡ layout.frame_version t.first → q < p → IsNullOrMarked w.cycle w.mark (w.register k q)) same.0
        (subst (λ p. w.frame_version s ≡ layout.frame_version t.first → q < p → IsNullOrMarked w.cycle w.mark (w.register s q)) same.1 (o.in_frame.passed q));
    register_in_work = λ k q e. by_stage (l.is_in_work stage) refl k q e;
    cell_claimed = λ i e. never_some e;
    scan_at_range = λ e. never e;
    item_is_linked = λ e. never e;
    object_attempt_behind = λ p e. never_some e;
    cells_passed = λ p i e. never_some e;
    cells_copied = λ p i e. never_some e;
    cell_loaded = λ i e. never_some e;
    pass_meets_grey = λ n e. never_some e;
    spent_bounded = λ m e. is_most _ m t.spent e o.spent;
  }
    where
      by_stage : (works : Bool) → l.is_in_work stage ≡ works → (k q : ℕ) → ◌≡◌ {A = Option (ℕ × ℕ)} (if works then Some (s, r) else None) (Some (k, q))
          → w.frame_version k ≡ layout.frame_version t.first → (w.register k q ≡ 0) ⊎ (w.register k q ≡ t.cell)
      by_stage true works k q e =
          let same = attempt_at s r k q e in
          subst (λ k. w.frame_version k ≡ layout.frame_version t.first → (w.register k q ≡ 0) ⊎ (w.register k q ≡ t.cell)) same.0
          (subst (λ q. w.frame_version s ≡ layout.frame_version t.first → (w.register s q ≡ 0) ⊎ (w.register s q ≡ t.cell)) same.1 (o.in_work works))
      by_stage false works k q e = never_some e

  pub at_frame_trade : (s : ℕ) → WorkFacts g w z sh flight t names range (line.FrameTrade s) → AtFrameTrade g w sh t s
  unfolding l.frames_done l.frame_attempt l.most_spent
  at_frame_trade s h = record {
    in_frame = record {
      at_frame = record { seat = h.line_fits; blackened = h.frames_blackened };
      behind = h.frame_attempt_behind s g.registers refl;
      passed = λ k same below. h.registers_passed s g.registers k refl same below;
    };
    spent = h.spent_bounded _ refl;
  }

  pub frame_trade_works : (s : ℕ) → AtFrameTrade g w sh t s → WorkFacts g w z sh flight t names range (line.FrameTrade s)
  unfolding l.has_reference l.frames_done l.frame_attempt l.register_in_work l.cell_to_write l.is_at_range l.has_item l.object_attempt l.cell_loaded l.passing l.most_spent
  frame_trade_works s o = record {
    cell_good = λ e. never e;
    line_fits = o.in_frame.at_frame.seat;
    frames_blackened = o.in_frame.at_frame.blackened;
    frame_attempt_behind = λ k p e. let same = attempt_at s g.registers k p e in
        subst (λ k. FrameBehind t.first w.frame_accessors w.frame_cycle w.frame_version k) same.0 o.in_frame.behind;
    registers_passed = λ k p q e. let same = attempt_at s g.registers k p e in
        subst (λ k. w.frame_version k ≡ layout.frame_version t.first → q < p → IsNullOrMarked w.cycle w.mark (w.register k q)) same.0
        (subst (λ p. w.frame_version s ≡ layout.frame_version t.first → q < p → IsNullOrMarked w.cycle w.mark (w.register s q)) same.1 (o.in_frame.passed q));
    register_in_work = λ k r e. never_some e;
    cell_claimed = λ i e. never_some e;
    scan_at_range = λ e. never e;
    item_is_linked = λ e. never e;
    object_attempt_behind = λ p e. never_some e;
    cells_passed = λ p i e. never_some e;
    cells_copied = λ p i e. never_some e;
    cell_loaded = λ i e. never_some e;
    pass_meets_grey = λ n e. never_some e;
    spent_bounded = λ m e. is_most _ m t.spent e o.spent;
  }

  pub at_scan : WorkFacts g w z sh flight t names range line.Scan → AllBlack g sh
  unfolding l.frames_done
  at_scan h = h.frames_blackened

  pub scan_works : AllBlack g sh → WorkFacts g w z sh flight t names range line.Scan
  unfolding l.has_reference l.frames_done l.frame_attempt l.register_in_work l.cell_to_write l.is_at_range l.has_item l.object_attempt l.cell_loaded l.passing l.most_spent
  scan_works o = record {
    cell_good = λ e. never e;
    line_fits = tt;
    frames_blackened = o;
    frame_attempt_behind = λ k p e. never_some e;
    registers_passed = λ k p r e. never_some e;
    register_in_work = λ k r e. never_some e;
    cell_claimed = λ i e. never_some e;
    scan_at_range = λ e. never e;
    item_is_linked = λ e. never e;
    object_attempt_behind = λ p e. never_some e;
    cells_passed = λ p i e. never_some e;
    cells_copied = λ p i e. never_some e;
    cell_loaded = λ i e. never_some e;
    pass_meets_grey = λ n e. never_some e;
    spent_bounded = λ m e. never_some e;
  }

  pub at_link : WorkFacts g w z sh flight t names range line.Link → AtRange g z sh t range
  unfolding l.frames_done l.is_at_range
  at_link h = record { all_black = h.frames_blackened; found = h.scan_at_range refl }

  pub link_works : AtRange g z sh t range → WorkFacts g w z sh flight t names range line.Link
  unfolding l.has_reference l.frames_done l.frame_attempt l.register_in_work l.cell_to_write l.is_at_range l.has_item l.object_attempt l.cell_loaded l.passing l.most_spent
  link_works o = record {
    cell_good = λ e. never e;
    line_fits = tt;
    frames_blackened = o.all_black;
    frame_attempt_behind = λ k p e. never_some e;
    registers_passed = λ k p r e. never_some e;
    register_in_work = λ k r e. never_some e;
    cell_claimed = λ i e. never_some e;
    scan_at_range = λ e. o.found;
    item_is_linked = λ e. never e;
    object_attempt_behind = λ p e. never_some e;
    cells_passed = λ p i e. never_some e;
    cells_copied = λ p i e. never_some e;
    cell_loaded = λ i e. never_some e;
    pass_meets_grey = λ n e. never_some e;
    spent_bounded = λ m e. never_some e;
  }

  pub at_look : WorkFacts g w z sh flight t names range line.Look → AtItem g w z sh t range
  unfolding l.frames_done l.is_at_range l.has_item
  at_look h = record { at_range = record { all_black = h.frames_blackened; found = h.scan_at_range refl }; some = (h.item_is_linked refl).0; linked = (h.item_is_linked refl).1 }

  pub look_works : AtItem g w z sh t range → WorkFacts g w z sh flight t names range line.Look
  unfolding l.has_reference l.frames_done l.frame_attempt l.register_in_work l.cell_to_write l.is_at_range l.has_item l.object_attempt l.cell_loaded l.passing l.most_spent
  look_works o = record {
    cell_good = λ e. never e;
    line_fits = tt;
    frames_blackened = o.at_range.all_black;
    frame_attempt_behind = λ k p e. never_some e;
    registers_passed = λ k p r e. never_some e;
    register_in_work = λ k r e. never_some e;
    cell_claimed = λ i e. never_some e;
    scan_at_range = λ e. o.at_range.found;
    item_is_linked = λ e. (o.some, o.linked);
    object_attempt_behind = λ p e. never_some e;
    cells_passed = λ p i e. never_some e;
    cells_copied = λ p i e. never_some e;
    cell_loaded = λ i e. never_some e;
    pass_meets_grey = λ n e. never_some e;
    spent_bounded = λ m e. never_some e;
  }

  pub at_cell : (i : ℕ) (stage : Stage) → WorkFacts g w z sh flight t names range (line.Cell i stage) → AtCell g w z sh t names range i stage
  unfolding l.has_reference l.frames_done l.cell_to_write l.is_at_range l.has_item l.object_attempt l.cell_loaded l.most_spent
  at_cell i stage h = record {
    in_object = record {
      at_item = record { at_range = record { all_black = h.frames_blackened; found = h.scan_at_range refl }; some = (h.item_is_linked refl).0; linked = (h.item_is_linked refl).1 };
      behind = h.object_attempt_behind i refl;
      passed = λ j same below. h.cells_passed i j refl same below;
      copied = λ j same below. h.cells_copied i j refl same below;
    };
    cell = h.line_fits.0;
    staged = h.line_fits.1;
    good = h.cell_good;
    claimed = h.cell_claimed;
    loaded = h.cell_loaded;
    spent = h.spent_bounded _ refl;
  }

  pub cell_works : (i : ℕ) (stage : Stage) → AtCell g w z sh t names range i stage → WorkFacts g w z sh flight t names range (line.Cell i stage)
  unfolding l.has_reference l.frames_done l.frame_attempt l.register_in_work l.cell_to_write l.is_at_range l.has_item l.object_attempt l.cell_loaded l.passing l.most_spent
  cell_works i stage o = record {
    cell_good = o.good;
    line_fits = (o.cell, o.staged);
    frames_blackened = o.in_object.at_item.at_range.all_black;
    frame_attempt_behind = λ k p e. never_some e;
    registers_passed = λ k p r e. never_some e;
    register_in_work = λ k r e. never_some e;
    cell_claimed = o.claimed;
    scan_at_range = λ e. o.in_object.at_item.at_range.found;
    item_is_linked = λ e. (o.in_object.at_item.some, o.in_object.at_item.linked);
    object_attempt_behind = λ p e. o.in_object.behind;
    cells_passed = λ p j e. is_some (λ p. w.version (layout.reference_number t.item) ≡ layout.header_version t.first → j < p → j < layout.reference_refs t.item
        → IsNullOrMarked w.cycle w.mark (w.cell (layout.header_place t.first + 1 + j))) i p e (o.in_object.passed j);
    cells_copied = λ p j e. is_some (λ p. w.version (layout.reference_number t.item) ≡ layout.header_version t.first → j < p
        → w.cell (z.current + t.scan + 1 + j) ≡ w.cell (layout.header_place t.first + 1 + j)) i p e (o.in_object.copied j);
    cell_loaded = o.loaded;
    pass_meets_grey = λ n e. never_some e;
    spent_bounded = λ m e. is_most _ m t.spent e o.spent;
  }

  pub at_object_trade : WorkFacts g w z sh flight t names range line.ObjectTrade → AtObjectTrade g w z sh t range
  unfolding l.frames_done l.is_at_range l.has_item l.object_attempt l.most_spent
  at_object_trade h = record {
    in_object = record {
      at_item = record { at_range = record { all_black = h.frames_blackened; found = h.scan_at_range refl }; some = (h.item_is_linked refl).0; linked = (h.item_is_linked refl).1 };
      behind = h.object_attempt_behind _ refl;
      passed = λ j same below. h.cells_passed _ j refl same below;
      copied = λ j same below. h.cells_copied _ j refl same below;
    };
    spent = h.spent_bounded _ refl;
  }

  pub object_trade_works : AtObjectTrade g w z sh t range → WorkFacts g w z sh flight t names range line.ObjectTrade
  unfolding l.has_reference l.frames_done l.frame_attempt l.register_in_work l.cell_to_write l.is_at_range l.has_item l.object_attempt l.cell_loaded l.passing l.most_spent
  object_trade_works o = record {
    cell_good = λ e. never e;
    line_fits = tt;
    frames_blackened = o.in_object.at_item.at_range.all_black;
    frame_attempt_behind = λ k p e. never_some e;
    registers_passed = λ k p r e. never_some e;
    register_in_work = λ k r e. never_some e;
    cell_claimed = λ i e. never_some e;
    scan_at_range = λ e. o.in_object.at_item.at_range.found;
    item_is_linked = λ e. (o.in_object.at_item.some, o.in_object.at_item.linked);
    object_attempt_behind = λ p e. o.in_object.behind;
    cells_passed = λ p j e. is_some (λ p. w.version (layout.reference_number t.item) ≡ layout.header_version t.first → j < p → j < layout.reference_refs t.item
        → IsNullOrMarked w.cycle w.mark (w.cell (layout.header_place t.first + 1 + j))) (reference_size t.item - 1) p e (o.in_object.passed j);
    cells_copied = λ p j e. is_some (λ p. w.version (layout.reference_number t.item) ≡ layout.header_version t.first → j < p
        → w.cell (z.current + t.scan + 1 + j) ≡ w.cell (layout.header_place t.first + 1 + j)) (reference_size t.item - 1) p e (o.in_object.copied j);
    cell_loaded = λ i e. never_some e;
    pass_meets_grey = λ n e. never_some e;
    spent_bounded = λ m e. is_most _ m t.spent e o.spent;
  }

  pub at_pass : (n : ℕ) → WorkFacts g w z sh flight t names range (line.Pass n) → AtPass g w sh flight n
  unfolding l.frames_done l.passing
  at_pass n h = record { all_black = h.frames_blackened; number = h.line_fits; meets = h.pass_meets_grey n refl }

  pub pass_works : (n : ℕ) → AtPass g w sh flight n → WorkFacts g w z sh flight t names range (line.Pass n)
  unfolding l.has_reference l.frames_done l.frame_attempt l.register_in_work l.cell_to_write l.is_at_range l.has_item l.object_attempt l.cell_loaded l.passing l.most_spent
  pass_works n o = record {
    cell_good = λ e. never e;
    line_fits = o.number;
    frames_blackened = o.all_black;
    frame_attempt_behind = λ k p e. never_some e;
    registers_passed = λ k p r e. never_some e;
    register_in_work = λ k r e. never_some e;
    cell_claimed = λ i e. never_some e;
    scan_at_range = λ e. never e;
    item_is_linked = λ e. never e;
    object_attempt_behind = λ p e. never_some e;
    cells_passed = λ p i e. never_some e;
    cells_copied = λ p i e. never_some e;
    cell_loaded = λ i e. never_some e;
    pass_meets_grey = λ m e. is_some (λ n. ((m : ℕ) × (n ≤ m) × (m < numbers g) × (sh.grey m ≡ true)) ⊎ IsSettled g w.cycle sh.white sh.grey w.register flight) n m e o.meets;
    spent_bounded = λ m e. never_some e;
  }

  pub at_pass_head : (n : ℕ) → WorkFacts g w z sh flight t names range (line.PassHead n) → AtPass g w sh flight n
  unfolding l.frames_done l.passing
  at_pass_head n h = record { all_black = h.frames_blackened; number = h.line_fits; meets = h.pass_meets_grey n refl }

  pub pass_head_works : (n : ℕ) → AtPass g w sh flight n → WorkFacts g w z sh flight t names range (line.PassHead n)
  unfolding l.has_reference l.frames_done l.frame_attempt l.register_in_work l.cell_to_write l.is_at_range l.has_item l.object_attempt l.cell_loaded l.passing l.most_spent
  pass_head_works n o = record {
    cell_good = λ e. never e;
    line_fits = o.number;
    frames_blackened = o.all_black;
    frame_attempt_behind = λ k p e. never_some e;
    registers_passed = λ k p r e. never_some e;
    register_in_work = λ k r e. never_some e;
    cell_claimed = λ i e. never_some e;
    scan_at_range = λ e. never e;
    item_is_linked = λ e. never e;
    object_attempt_behind = λ p e. never_some e;
    cells_passed = λ p i e. never_some e;
    cells_copied = λ p i e. never_some e;
    cell_loaded = λ i e. never_some e;
    pass_meets_grey = λ m e. is_some (λ n. ((m : ℕ) × (n ≤ m) × (m < numbers g) × (sh.grey m ≡ true)) ⊎ IsSettled g w.cycle sh.white sh.grey w.register flight) n m e o.meets;
    spent_bounded = λ m e. never_some e;
  }
