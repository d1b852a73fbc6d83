-- The collector's cycle is the next one exactly after a flip.
use Rattle.std.proofs.Common.{◌≡◌, ◌≢◌, ℕ, ◌+◌, Bool, true, false, refl, ap, arith}
use Rattle.std.specs.Prelude.{nat_eq, if◌then◌else◌}
use Rattle.hk_words.specs.declared.geometry.Geometry.{Geometry}
use Rattle.hk_core.specs.declared.spot.Spot.{Spot}
use Rattle.hk_core.specs.declared.spot.Line.{Line}
use Rattle.hk_core.specs.declared.spot.Line.TheVariants as line
use Rattle.hk_core.specs.declared.spot.Work.TheVariants.{Flipped, Worn}
use Rattle.hk_core.specs.Collect as table
use Rattle.hk_core.specs.Collect.{last_cycle, spot_took, spot_work}
use Rattle.hk_collect.proofs.UsedTables.{line_cycle, no_flip}
use Rattle.hk_keeper.specs.Collected.{flips}

module _ (g : Geometry) (t : Spot) (old : ℕ) where
  rest_cycle : (test : Bool) (u : Spot) → u.cycle ≡ t.cycle + 1 → (if test then t else u).cycle ≡ t.cycle + flips (if test then Worn else Flipped)
  rest_cycle true u next = omega arith
  rest_cycle false u next = next

  other_cycle : (ln : Line) → ln ≢ line.Rest → (table.took_at_line g t old ln).cycle ≡ t.cycle + flips (table.work_at_line g t old ln)
  other_cycle ln other =
      let none : flips (table.work_at_line g t old ln) ≡ 0 = ap (λ (b : Bool). if b then 1 else 0) (no_flip g t ln old other) in
      let same = line_cycle g t ln old (λ rests. absurd (other rests)) in
      omega arith

  at_line : (ln : Line) → (table.took_at_line g t old ln).cycle ≡ t.cycle + flips (table.work_at_line g t old ln)
  unfolding table.took_at_line table.work_at_line table.rest_took table.rest_work
  at_line line.Rest = rest_cycle (nat_eq t.cycle last_cycle) (record { line = line.Frame 0; cycle = t.cycle + 1; scan = 0; entries = 0; first = 0; item = 0; cell = 0; offset = 0; spent = 0 }) refl
  at_line (line.Frame s) = other_cycle (line.Frame s) (λ e. absurd (cc))
  at_line (line.Register s r st) = other_cycle (line.Register s r st) (λ e. absurd (cc))
  at_line (line.FrameTrade s) = other_cycle (line.FrameTrade s) (λ e. absurd (cc))
  at_line line.Scan = other_cycle line.Scan (λ e. absurd (cc))
  at_line line.Link = other_cycle line.Link (λ e. absurd (cc))
  at_line line.Look = other_cycle line.Look (λ e. absurd (cc))
  at_line (line.Cell i st) = other_cycle (line.Cell i st) (λ e. absurd (cc))
  at_line line.ObjectTrade = other_cycle line.ObjectTrade (λ e. absurd (cc))
  at_line (line.Pass n) = other_cycle (line.Pass n) (λ e. absurd (cc))
  at_line (line.PassHead n) = other_cycle (line.PassHead n) (λ e. absurd (cc))
  at_line (line.Sweep n st) = other_cycle (line.Sweep n st) (λ e. absurd (cc))
  at_line (line.Clear i) = other_cycle (line.Clear i) (λ e. absurd (cc))
  at_line line.Reset = other_cycle line.Reset (λ e. absurd (cc))

  pub cycle_after : (spot_took g t old).cycle ≡ t.cycle + flips (spot_work g t old)
  unfolding spot_took spot_work
  cycle_after = at_line t.line
