-- The measure, line by line: with what an event may find where no call is in mid-course, it keeps to the bound of the spot.
use Rattle.std.proofs.Common.{◌≡◌, ◌≢◌, ℕ, ◌+◌, ◌-◌, ◌*◌, ◌<◌, ◌≤◌, Bool, true, false, inl, inr, refl, ap, arith}
use Rattle.std.proofs.lemmas.Bool.{cases_Bool, ltb-false, ne_eqb, le-ltb}
use Rattle.std.specs.Prelude.{nat_eq, nat_lt, if◌then◌else◌}
use Rattle.hk_words.specs.declared.geometry.Geometry.{Geometry}
use Rattle.hk_words.specs.Geometry.{tasks, numbers, list_length, space_words}
use Rattle.hk_words.specs.Layout as layout
use Rattle.hk_core.specs.declared.spot.Spot.{Spot}
use Rattle.hk_core.specs.declared.spot.Line.{Line}
use Rattle.hk_core.specs.declared.spot.Line.TheVariants as line
use Rattle.hk_core.specs.declared.spot.Stage.{Stage}
use Rattle.hk_core.specs.declared.spot.Stage.TheVariants as stage
use Rattle.hk_core.specs.Step.{reference_size, reserved_fits}
use Rattle.hk_core.specs.Collect as table
use Rattle.hk_core.specs.Collect.{took_at_line, work_at_line}
use Rattle.hk_core.specs.Lines as l
use Rattle.hk_words.specs.Bounds.{frame_events}
use Rattle.hk_collect.specs.Measure.{most_for_frames, most_for_scan, most_for_pass, most_in_sweep, most_useful_at, most_useful, useful_after, WaitsForNobody}
use Rattle.hk_collect.proofs.MeasureBounds.{frames_step}

-- an event that finds `old` keeps to the measure, and waits for nobody
pub record Counts (g : Geometry) (t : Spot) (old : ℕ) (ln : Line) (useful : ℕ) : Type 0 where
  pub measured : useful_after (work_at_line g t old ln) useful ≤ most_useful g (took_at_line g t old ln)
  pub waits_for_nobody : WaitsForNobody (work_at_line g t old ln)

-- the bound of the line after a register, of a test, and of the line after a cell
register_next : (g : Geometry) (t : Spot) (s r : ℕ) → most_useful_at g t (table.after_register g s r) ≡ most_for_frames g s + t.spent
unfolding most_useful_at
register_next g t s r = elim (cases_Bool (nat_lt (r + 1) g.registers)) [ inl more ↦ rw more refl | inr last ↦ rw last refl ]

register_or : (g : Geometry) (t : Spot) (test : Bool) (s r : ℕ) (stage : Stage) → most_useful_at g t (if test then line.Register s r stage else table.after_register g s r) ≡ most_for_frames g s + t.spent
unfolding most_useful_at
register_or g t true s r stage = refl
register_or g t false s r stage = register_next g t s r

or_register : (g : Geometry) (t : Spot) (test : Bool) (s r : ℕ) (stage : Stage) → most_useful_at g t (if test then table.after_register g s r else line.Register s r stage) ≡ most_for_frames g s + t.spent
unfolding most_useful_at
or_register g t true s r stage = register_next g t s r
or_register g t false s r stage = refl

cell_next : (g : Geometry) (t other : Spot) (i : ℕ) → most_useful_at g other (table.after_cell t i) ≡ most_for_scan g other.scan + 2 + other.spent
unfolding most_useful_at
cell_next g t other i = elim (cases_Bool (nat_lt (i + 2) (reference_size t.item))) [ inl more ↦ rw more refl | inr last ↦ rw last refl ]

at_most : {a b k : ℕ} → b ≡ k → a ≤ k → a ≤ b
at_most same few = omega arith

-- a frame is done; an attempt begins anew, without the events that it had spent; an object is done; the pass begins
done_frame : (events registers s spent useful : ℕ) → events ≡ 2 + 4 * registers → spent ≤ 1 + 4 * registers → useful ≤ 1 + events * s + spent
    → useful + 1 ≤ 1 + events * (s + 1)
done_frame events registers s spent useful is few most = let step = frames_step events s in omega arith

lost_again : (before spent useful : ℕ) → useful ≤ before + spent → useful + 1 - (spent + 1) ≤ before
lost_again before spent useful few = omega arith

done_object : (frames scan words spent useful : ℕ) → 0 < words → spent ≤ 1 + 5 * (words - 1) → useful ≤ 1 + frames + 5 * scan + 2 + spent
    → useful + 1 ≤ 1 + frames + 5 * (scan + words)
done_object frames scan words spent useful some few most = omega arith

pass_begins : (frames scan live useful : ℕ) → scan ≤ live → useful ≤ 1 + frames + 5 * scan → useful + 1 ≤ 1 + (1 + frames + 5 * live) + 2 * 0
pass_begins frames scan live useful fits few = omega arith

module _ (g : Geometry) (t : Spot) (old useful : ℕ) where
  pub rest_counts : t.line ≡ line.Rest → useful ≤ most_useful_at g t line.Rest → Counts g t old line.Rest useful
  unfolding took_at_line table.rest_took work_at_line table.rest_work most_useful most_useful_at
  rest_counts at few = elim (cases_Bool (nat_eq t.cycle table.last_cycle)) [
    | inl worn ↦ record { measured = rw worn (rw at few); waits_for_nobody = rw worn tt }
    | inr more ↦ record { measured = rw more (omega arith); waits_for_nobody = rw more tt }
  ]

  pub frame_counts : (s : ℕ) → layout.frame_accessors old ≡ 0 → useful ≤ most_useful_at g t (line.Frame s) → Counts g t old (line.Frame s) useful
  unfolding took_at_line table.frame_took work_at_line table.frame_work most_useful most_useful_at
  frame_counts s nobody few =
      let free : nat_lt 0 (layout.frame_accessors old) ≡ false = le-ltb 0 (layout.frame_accessors old) (omega arith) in
      record { measured = rw free (omega arith); waits_for_nobody = rw free tt }

  pub register_counts : (s r : ℕ) (stage : Stage) → l.IsRegisterStage stage → useful ≤ most_useful_at g t (line.Register s r stage)
      → Counts g t old (line.Register s r stage) useful
  unfolding took_at_line table.register_took work_at_line most_useful most_useful_at
  register_counts s r stage.Read o few =
      let next : Spot = took_at_line g t old (line.Register s r stage.Read) in
      record { measured = at_most (or_register g next (nat_eq old 0) s r stage.Claim) (omega arith); waits_for_nobody = tt }
  register_counts s r stage.Claim o few =
      let next : Spot = took_at_line g t old (line.Register s r stage.Claim) in
      record { measured = at_most (register_or g next (nat_lt old t.cycle) s r stage.Reserve) (omega arith); waits_for_nobody = tt }
  register_counts s r stage.Reserve o few =
      let next : Spot = took_at_line g t old (line.Register s r stage.Reserve) in
      record { measured = at_most (register_or g next (reserved_fits g old t.cell) s r stage.Tie) (omega arith); waits_for_nobody = tt }
  register_counts s r stage.Tie o few =
      let next : Spot = took_at_line g t old (line.Register s r stage.Tie) in
      record { measured = at_most (register_next g next s r) (omega arith); waits_for_nobody = tt }
  register_counts s r stage.Write o few = absurd o
  register_counts s r stage.Mark o few = absurd o
  register_counts s r stage.Empty o few = absurd o

  -- after an exchange that finds the loaded word the next frame, or the scan; after another one the frame again
  pub frame_trade_counts : (s : ℕ) → s < tasks g → t.spent ≤ 1 + 4 * g.registers → useful ≤ most_useful_at g t (line.FrameTrade s) → Counts g t old (line.FrameTrade s) useful
  unfolding took_at_line table.frame_trade_took work_at_line table.frame_trade_work most_useful most_useful_at
  frame_trade_counts s below spent few = elim (cases_Bool (nat_eq old t.first)) [
    | inl found ↦ elim (cases_Bool (nat_lt (s + 1) (tasks g))) [
      | inl more ↦ record { measured = rw (found, more) (done_frame (frame_events g.registers) g.registers s t.spent useful refl spent few); waits_for_nobody = rw found tt }
      | inr last ↦
          let end : tasks g ≡ s + 1 = let most : tasks g ≤ s + 1 = ltb-false (s + 1) (tasks g) last in omega arith in
          let done = done_frame (frame_events g.registers) g.registers s t.spent useful refl spent few in
          let same : frame_events g.registers * tasks g ≡ frame_events g.registers * (s + 1) = ap (λ k. frame_events g.registers * k) end in
          record { measured = rw (found, last) (omega arith); waits_for_nobody = rw found tt }
    ]
    | inr other ↦ record { measured = rw other (lost_again (most_for_frames g s) t.spent useful few); waits_for_nobody = rw other tt }
  ]

  pub scan_counts : t.line ≡ line.Scan → t.scan ≤ g.live → useful ≤ most_useful_at g t line.Scan → Counts g t old line.Scan useful
  unfolding took_at_line table.scan_took work_at_line table.scan_work most_useful most_useful_at
  scan_counts at fits few = elim (cases_Bool (nat_lt g.live old)) [
    | inl over ↦ record { measured = rw over (rw at few); waits_for_nobody = rw over tt }
    | inr within ↦ elim (cases_Bool (nat_lt t.scan old)) [
      | inl ahead ↦ record { measured = rw (within, ahead) (omega arith); waits_for_nobody = rw within tt }
      | inr ends ↦ record { measured = rw (within, ends) (pass_begins (frame_events g.registers * tasks g) t.scan g.live useful fits few); waits_for_nobody = rw within tt }
    ]
  ]

  pub link_counts : old ≢ 0 → useful ≤ most_useful_at g t line.Link → Counts g t old line.Link useful
  unfolding took_at_line table.link_took work_at_line table.link_work most_useful most_useful_at
  link_counts some few =
      let linked : nat_eq old 0 ≡ false = ne_eqb old 0 some in
      record { measured = rw linked (omega arith); waits_for_nobody = rw linked tt }

  pub look_counts : layout.header_accessors old ≡ 0 → useful ≤ most_useful_at g t line.Look → Counts g t old line.Look useful
  unfolding took_at_line table.look_took work_at_line table.look_work most_useful most_useful_at
  look_counts nobody few =
      let free : nat_lt 0 (layout.header_accessors old) ≡ false = le-ltb 0 (layout.header_accessors old) (omega arith) in
      record { measured = rw free (omega arith); waits_for_nobody = rw free tt }

  pub cell_counts : (i : ℕ) (stage : Stage) → l.IsCellStage stage → useful ≤ most_useful_at g t (line.Cell i stage) → Counts g t old (line.Cell i stage) useful
  unfolding took_at_line table.cell_took work_at_line most_useful most_useful_at
  cell_counts i stage.Read o few = record { measured = omega arith; waits_for_nobody = tt }
  cell_counts i stage.Claim o few = record { measured = omega arith; waits_for_nobody = tt }
  cell_counts i stage.Reserve o few = record { measured = omega arith; waits_for_nobody = tt }
  cell_counts i stage.Tie o few = record { measured = omega arith; waits_for_nobody = tt }
  cell_counts i stage.Write o few =
      let next : Spot = took_at_line g t old (line.Cell i stage.Write) in
      record { measured = at_most (cell_next g t next i) (omega arith); waits_for_nobody = tt }
  cell_counts i stage.Mark o few = absurd o
  cell_counts i stage.Empty o few = absurd o

  pub object_trade_counts : t.spent ≤ 1 + 5 * (reference_size t.item - 1) → useful ≤ most_useful_at g t line.ObjectTrade → Counts g t old line.ObjectTrade useful
  unfolding took_at_line table.object_trade_took work_at_line table.object_trade_work most_useful most_useful_at
  object_trade_counts spent few = elim (cases_Bool (nat_eq old t.first)) [
    | inl found ↦ record { measured = rw found (done_object (frame_events g.registers * tasks g) t.scan (reference_size t.item) t.spent useful (omega arith) spent few); waits_for_nobody = rw found tt }
    | inr other ↦ record { measured = rw other (lost_again (most_for_scan g t.scan + 2) t.spent useful few); waits_for_nobody = rw other tt }
  ]

  -- after a number the next one, or the sweep, which has no entry yet
  pass_next : (n bound : ℕ) (next : Spot) → n < numbers g → bound ≤ most_for_pass g (n + 1) → bound ≤ most_useful_at g next (table.after_pass g n)
  unfolding most_useful_at most_in_sweep
  pass_next n bound next below few = elim (cases_Bool (nat_lt (n + 1) (numbers g))) [
    | inl more ↦ rw more few
    | inr last ↦ let most : numbers g ≤ n + 1 = ltb-false (n + 1) (numbers g) last in rw last (omega arith)
  ]

  pub pass_counts : (n : ℕ) → n < numbers g → useful ≤ most_useful_at g t (line.Pass n) → Counts g t old (line.Pass n) useful
  unfolding took_at_line table.pass_took work_at_line most_useful most_useful_at
  pass_counts n below few = elim (cases_Bool (nat_eq old t.cycle)) [
    | inl claimed ↦ record { measured = rw claimed (omega arith); waits_for_nobody = tt }
    | inr other ↦ record { measured = rw other (pass_next n (useful + 1) (record t { line = table.after_pass g n }) below (omega arith)); waits_for_nobody = tt }
  ]

  pub pass_head_counts : (n : ℕ) → n < numbers g → table.is_old g t old ≡ false → useful ≤ most_useful_at g t (line.PassHead n) → Counts g t old (line.PassHead n) useful
  unfolding took_at_line table.pass_head_took work_at_line table.pass_head_work most_useful most_useful_at
  pass_head_counts n below moved few = record {
    measured = rw moved (pass_next n (useful + 1) (record t { line = table.after_pass g n }) below (omega arith));
    waits_for_nobody = rw moved tt;
  }

  pub sweep_counts : (n : ℕ) (stage : Stage) → n < numbers g → l.IsSweepStage stage → t.entries ≤ list_length g → useful ≤ most_useful_at g t (line.Sweep n stage)
      → Counts g t old (line.Sweep n stage) useful
  unfolding took_at_line table.sweep_took work_at_line most_useful most_useful_at most_in_sweep
  sweep_counts n stage.Read below o full few = elim (cases_Bool (nat_lt old t.cycle)) [
    | inl unclaimed ↦ record { measured = rw unclaimed (omega arith); waits_for_nobody = tt }
    | inr claimed ↦ record { measured = rw claimed (omega arith); waits_for_nobody = tt }
  ]
  sweep_counts n stage.Claim below o full few = absurd o
  sweep_counts n stage.Reserve below o full few = absurd o
  sweep_counts n stage.Tie below o full few = absurd o
  sweep_counts n stage.Write below o full few = record { measured = omega arith; waits_for_nobody = tt }
  sweep_counts n stage.Mark below o full few = record { measured = omega arith; waits_for_nobody = tt }
  sweep_counts n stage.Empty below o full few = elim (cases_Bool (nat_lt t.entries (list_length g))) [
    | inl room ↦ record { measured = rw room (omega arith); waits_for_nobody = tt }
    | inr none ↦ record { measured = rw none (omega arith); waits_for_nobody = tt }
  ]

  pub clear_counts : (i : ℕ) → i < space_words g → useful ≤ most_useful_at g t (line.Clear i) → Counts g t old (line.Clear i) useful
  unfolding took_at_line table.clear_took work_at_line most_useful most_useful_at
  clear_counts i below few = elim (cases_Bool (nat_lt (i + 1) (space_words g))) [
    | inl more ↦ record { measured = rw more (omega arith); waits_for_nobody = tt }
    | inr last ↦
        let most : space_words g ≤ i + 1 = ltb-false (i + 1) (space_words g) last in
        record { measured = rw last (omega arith); waits_for_nobody = tt }
  ]

  pub reset_counts : useful ≤ most_useful_at g t line.Reset → Counts g t old line.Reset useful
  unfolding took_at_line work_at_line most_useful most_useful_at
  reset_counts few = record { measured = omega arith; waits_for_nobody = tt }
