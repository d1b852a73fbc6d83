-- A cycle takes at least as many events as a space has words, since each is cleared. So a run has few cycles.
use Rattle.std.proofs.Common.{◌≡◌, ◌≢◌, ℕ, ◌+◌, ◌-◌, ◌*◌, ◌^◌, ◌<◌, ◌≤◌, Bool, true, false, inl, inr, refl, sym, ◌∙◌, ap, arith}
use Rattle.std.proofs.lemmas.Bool.{cases_lt, lt-ltb}
use Rattle.std.proofs.lemmas.Nat.{mul-le}
use Rattle.std.specs.Prelude.{nat_eq, nat_lt, if◌then◌else◌}
use Rattle.hk_words.specs.declared.geometry.Geometry.{Geometry}
use Rattle.hk_words.specs.Geometry.{tasks, numbers, space_words, list_length}
use Rattle.hk_core.specs.declared.spot.Spot.{Spot}
use Rattle.hk_core.specs.declared.spot.Line.{Line}
use Rattle.hk_core.specs.declared.spot.Line.TheVariants as line
use Rattle.hk_core.specs.declared.spot.Stage.{Stage}
use Rattle.hk_core.specs.declared.spot.Stage.TheVariants as stage
use Rattle.hk_core.specs.State.{opening, opening_spot}
use Rattle.hk_core.specs.Collect as table
use Rattle.hk_core.specs.Collect.{next_collected, took_at_line, spot_took, found_by_collector, last_cycle}
use Rattle.hk_core.specs.Step.{reference_size, reserved_fits}
use Rattle.hk_core.specs.Lines as l
use Rattle.hk_core.specs.Lines.{cleared}
use Rattle.hk_collect.specs.Cycles.{IsWorked, OpeningIsWorked, EventWorks, WornIsLate, FewEventsNeverWear}
use Rattle.hk_collect.proofs.Causes.{has_causes}
use Rattle.hk_collect.proofs.Small.{by_test}

module _ (g : Geometry) (t : Spot) (old events : ℕ) where
  abbrev Goes : Spot → Type 0
  Goes u = (u.cycle ≡ t.cycle) × (cleared g u.line ≤ cleared g t.line + 1)

  abbrev Few : Line → Type 0
  Few ln = cleared g ln ≤ cleared g t.line + 1

  if_few : (test : Bool) (a b : Line) → Few a → Few b → Few (if test then a else b)
  if_few test a b x y = by_test Few test a b (λ _. x) (λ _. y)

  after_register : (s r : ℕ) → Few (table.after_register g s r)
  unfolding cleared
  after_register s r = if_few (nat_lt (r + 1) g.registers) (line.Register s (r + 1) stage.Read) (line.FrameTrade s) (omega arith) (omega arith)

  after_pass : (n : ℕ) → Few (table.after_pass g n)
  unfolding cleared
  after_pass n = if_few (nat_lt (n + 1) (numbers g)) (line.Pass (n + 1)) (line.Sweep 0 stage.Read) (omega arith) (omega arith)

  after_cell : (i : ℕ) → Few (table.after_cell t i)
  unfolding cleared
  after_cell i = if_few (nat_lt (i + 2) (reference_size t.item)) (line.Cell (i + 1) stage.Read) line.ObjectTrade (omega arith) (omega arith)

  register_goes : (s r : ℕ) (st : Stage) → t.line ≡ line.Register s r st → Goes (took_at_line g t old (line.Register s r st))
  unfolding took_at_line table.register_took cleared
  register_goes s r stage.Read at = (refl, if_few (nat_eq old 0) (table.after_register g s r) (line.Register s r stage.Claim) (after_register s r) (omega arith))
  register_goes s r stage.Claim at = (refl, if_few (nat_lt old t.cycle) (line.Register s r stage.Reserve) (table.after_register g s r) (omega arith) (after_register s r))
  register_goes s r stage.Reserve at = (refl, if_few (reserved_fits g old t.cell) (line.Register s r stage.Tie) (table.after_register g s r) (omega arith) (after_register s r))
  register_goes s r stage.Tie at = (refl, after_register s r)
  register_goes s r stage.Write at = (refl, omega arith)
  register_goes s r stage.Mark at = (refl, omega arith)
  register_goes s r stage.Empty at = (refl, omega arith)

  cell_goes : (i : ℕ) (st : Stage) → t.line ≡ line.Cell i st → Goes (took_at_line g t old (line.Cell i st))
  unfolding took_at_line table.cell_took cleared
  cell_goes i stage.Read at = (refl, omega arith)
  cell_goes i stage.Claim at = (refl, omega arith)
  cell_goes i stage.Reserve at = (refl, omega arith)
  cell_goes i stage.Tie at = (refl, omega arith)
  cell_goes i stage.Write at = (refl, after_cell i)
  cell_goes i stage.Mark at = (refl, omega arith)
  cell_goes i stage.Empty at = (refl, omega arith)

  sweep_goes : (n : ℕ) (st : Stage) → t.line ≡ line.Sweep n st → Goes (took_at_line g t old (line.Sweep n st))
  unfolding took_at_line table.sweep_took cleared
  sweep_goes n stage.Read at = (refl, if_few (nat_lt old t.cycle) (line.Sweep n stage.Write) (line.Sweep (n + 1) stage.Read) (omega arith) (omega arith))
  sweep_goes n stage.Claim at = (refl, omega arith)
  sweep_goes n stage.Reserve at = (refl, omega arith)
  sweep_goes n stage.Tie at = (refl, omega arith)
  sweep_goes n stage.Write at = (refl, omega arith)
  sweep_goes n stage.Mark at = (refl, omega arith)
  sweep_goes n stage.Empty at = (refl, if_few (nat_lt t.entries (list_length g)) (line.Sweep (n + 1) stage.Read) (line.Clear 0) (omega arith) (omega arith))

  clear_goes : (i : ℕ) → t.line ≡ line.Clear i → i < space_words g → Goes (took_at_line g t old (line.Clear i))
  unfolding took_at_line table.clear_took cleared
  clear_goes i at below =
      let here : cleared g t.line ≡ i = ap (cleared g) at in (
        refl,
        by_test (λ (ln : Line). cleared g ln ≤ cleared g t.line + 1) (nat_lt (i + 1) (space_words g)) _ _ (λ e. omega (arith, here))
            (λ e. let last : space_words g ≤ i + 1 = not_below (i + 1) (space_words g) e in omega (arith, here)),
      )
    where
      not_below : (a b : ℕ) → nat_lt a b ≡ false → b ≤ a
      not_below a b e = elim (cases_lt a b) [ inl less ↦ absurd (let x : true ≡ false = sym (lt-ltb a b less) ∙ e in cc) | inr more ↦ more ]

  line_goes : (ln : Line) → t.line ≡ ln → l.LineFits g t ln → (ln ≢ line.Rest) → Goes (took_at_line g t old ln)
  unfolding took_at_line table.frame_took table.frame_trade_took table.scan_took table.link_took table.look_took table.object_trade_took table.pass_took table.pass_head_took cleared
  line_goes line.Rest at fits other = absurd (other refl)
  line_goes (line.Frame s) at fits other = by_test Goes (nat_lt 0 _) _ _ (λ e. (refl, omega arith)) (λ e. (refl, omega arith))
  line_goes (line.Register s r st) at fits other = register_goes s r st at
  line_goes (line.FrameTrade s) at fits other = (refl, if_few (nat_eq old t.first) (table.after_frame g s) (line.Frame s) (if_few (nat_lt (s + 1) (tasks g)) (line.Frame (s + 1)) line.Scan (omega arith) (omega arith)) (omega arith))
  line_goes line.Scan at fits other = by_test Goes (nat_lt g.live old) _ _ (λ e. (refl, omega arith)) (λ e. (refl, if_few (nat_lt t.scan old) line.Link (line.Pass 0) (omega arith) (omega arith)))
  line_goes line.Link at fits other = by_test Goes (nat_eq old 0) _ _ (λ e. (refl, omega arith)) (λ e. (refl, omega arith))
  line_goes line.Look at fits other = by_test Goes (nat_lt 0 _) _ _ (λ e. (refl, omega arith)) (λ e. (refl, omega arith))
  line_goes (line.Cell i st) at fits other = cell_goes i st at
  line_goes line.ObjectTrade at fits other = by_test Goes (nat_eq old t.first) _ _ (λ e. (refl, omega arith)) (λ e. (refl, omega arith))
  line_goes (line.Pass n) at fits other = (refl, if_few (nat_eq old t.cycle) (line.PassHead n) (table.after_pass g n) (omega arith) (after_pass n))
  line_goes (line.PassHead n) at fits other = (refl, if_few (table.is_old g t old) line.Scan (table.after_pass g n) (omega arith) (after_pass n))
  line_goes (line.Sweep n st) at fits other = sweep_goes n st at
  line_goes (line.Clear i) at fits other = clear_goes i at fits
  line_goes line.Reset at fits other = (refl, let here : cleared g t.line ≡ space_words g = ap (cleared g) at in omega (arith, here))

  -- the flip
  rest_goes : t.line ≡ line.Rest → IsWorked g t events → IsWorked g (took_at_line g t old line.Rest) (events + 1)
  unfolding took_at_line table.rest_took cleared
  rest_goes at w =
      let here : cleared g t.line ≡ space_words g = ap (cleared g) at in
      by_test (λ (u : Spot). IsWorked g u (events + 1)) (nat_eq t.cycle last_cycle) _ _ (λ e. omega (arith, w)) (λ e. omega (arith, w, here))

  next : (u : Spot) → Goes u → IsWorked g t events → IsWorked g u (events + 1)
  next u goes w = let same = ap (λ n. n * space_words g) goes.0 in let few = goes.1 in omega (arith, w)

  spot_goes : (ln : Line) → t.line ≡ ln → l.LineFits g t ln → IsWorked g t events → IsWorked g (took_at_line g t old ln) (events + 1)
  spot_goes line.Rest at fits w = rest_goes at w
  spot_goes (line.Frame s) at fits w = next (took_at_line g t old (line.Frame s)) (line_goes (line.Frame s) at fits (λ e. cc)) w
  spot_goes (line.Register s r st) at fits w = next (took_at_line g t old (line.Register s r st)) (line_goes (line.Register s r st) at fits (λ e. cc)) w
  spot_goes (line.FrameTrade s) at fits w = next (took_at_line g t old (line.FrameTrade s)) (line_goes (line.FrameTrade s) at fits (λ e. cc)) w
  spot_goes line.Scan at fits w = next (took_at_line g t old line.Scan) (line_goes line.Scan at fits (λ e. cc)) w
  spot_goes line.Link at fits w = next (took_at_line g t old line.Link) (line_goes line.Link at fits (λ e. cc)) w
  spot_goes line.Look at fits w = next (took_at_line g t old line.Look) (line_goes line.Look at fits (λ e. cc)) w
  spot_goes (line.Cell i st) at fits w = next (took_at_line g t old (line.Cell i st)) (line_goes (line.Cell i st) at fits (λ e. cc)) w
  spot_goes line.ObjectTrade at fits w = next (took_at_line g t old line.ObjectTrade) (line_goes line.ObjectTrade at fits (λ e. cc)) w
  spot_goes (line.Pass n) at fits w = next (took_at_line g t old (line.Pass n)) (line_goes (line.Pass n) at fits (λ e. cc)) w
  spot_goes (line.PassHead n) at fits w = next (took_at_line g t old (line.PassHead n)) (line_goes (line.PassHead n) at fits (λ e. cc)) w
  spot_goes (line.Sweep n st) at fits w = next (took_at_line g t old (line.Sweep n st)) (line_goes (line.Sweep n st) at fits (λ e. cc)) w
  spot_goes (line.Clear i) at fits w = next (took_at_line g t old (line.Clear i)) (line_goes (line.Clear i) at fits (λ e. cc)) w
  spot_goes line.Reset at fits w = next (took_at_line g t old line.Reset) (line_goes line.Reset at fits (λ e. cc)) w

-- THE LAWS

pub opening_is_worked : OpeningIsWorked
unfolding opening opening_spot cleared
opening_is_worked g = omega arith

pub event_works : EventWorks
unfolding next_collected spot_took
event_works c history events h w = spot_goes c.geometry c.spot (found_by_collector c) events c.spot.line refl h.facts.spot_formed w

pub worn_is_late : WornIsLate
unfolding cleared
worn_is_late c history events h w few worn =
    let g = c.geometry in
    let o = (has_causes c).worn.0 worn in
    let all : cleared g c.spot.line ≡ space_words g = ap (cleared g) o.rests in
    let last : c.spot.cycle * space_words g ≡ (2 ^ 20 - 1) * space_words g = ap (λ n. n * space_words g) o.last in
    omega (arith, w, few, all, last)

pub few_events_never_wear : FewEventsNeverWear
few_events_never_wear c history events h w few =
    let g = c.geometry in
    let some : 18 ≤ space_words g = let fits = g.board_fits in let even = g.live_even in let enough = g.alloc_enough in omega arith in
    worn_is_late c history events h w (let most : (2 ^ 20 - 2) * 18 ≤ (2 ^ 20 - 2) * space_words g = mul-le (2 ^ 20 - 2) 18 (2 ^ 20 - 2) (space_words g) (omega arith) some in omega (arith, few))
