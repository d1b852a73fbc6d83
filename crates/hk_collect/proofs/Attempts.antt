-- The tables count the events of an attempt, and the pass comes to a header only after the mark of its number.
use Rattle.std.proofs.Common.{◌≡◌, ℕ, ◌+◌, Bool, true, false, refl, sym, ◌∙◌, ap}
use Rattle.std.proofs.lemmas.Bool.{eqb-true, eq-eqb}
use Rattle.std.specs.Prelude.{◌↔◌, nat_eq, nat_lt, if◌then◌else◌}
use Rattle.hk_words.specs.declared.geometry.Geometry.{Geometry}
use Rattle.hk_words.specs.Geometry.{tasks, numbers, list_length, space_words}
use Rattle.hk_words.specs.Layout.{frame_accessors, header_accessors}
use Rattle.hk_core.specs.declared.spot.Spot.{Spot}
use Rattle.hk_core.specs.declared.spot.Line.{Line}
use Rattle.hk_core.specs.declared.spot.Line.TheVariants as line
use Rattle.hk_core.specs.declared.spot.Stage.TheVariants as stage
use Rattle.hk_core.specs.Collect as table
use Rattle.hk_core.specs.Collect.{last_cycle, is_old, spot_took, took_at_line}
use Rattle.hk_core.specs.Lines as l
use Rattle.hk_core.specs.Step.{reference_size, reserved_fits}
use Rattle.hk_collect.proofs.spots.SpotLoads.{took_at}
use Rattle.hk_collect.specs.Runs.{in_attempt}
use Rattle.hk_core.proofs.Shared.{refuted}

-- a choice has what both have
pick : {A : Type 0} (P : A → Type 0) (test : Bool) (a b : A) → P a → P b → P (if test then a else b)
pick P true a b x y = x
pick P false a b x y = y

-- AN ATTEMPT BEGINS

module _ (g : Geometry) (t : Spot) (old : ℕ) where
  abbrev First : Spot → Type 0
  First x = in_attempt x.line ≡ true → x.spent ≡ 1

  begins_at : (ln : Line) → t.line ≡ ln → in_attempt ln ≡ false → First (took_at_line g t old ln)
  unfolding in_attempt took_at_line table.rest_took table.frame_took table.scan_took table.link_took table.look_took table.pass_took table.pass_head_took table.sweep_took table.clear_took
  begins_at line.Rest at out =
      pick First (nat_eq t.cycle last_cycle) t _ (λ on. refuted (in_attempt t.line) (ap in_attempt at) on) (λ on. refuted false refl on)
  begins_at (line.Frame seat) at out =
      pick First (nat_lt 0 (frame_accessors old)) t _ (λ on. refuted (in_attempt t.line) (ap in_attempt at) on) (λ on. refl)
  begins_at (line.Register seat reg stage) at out = refuted true out refl
  begins_at (line.FrameTrade seat) at out = refuted true out refl
  begins_at line.Scan at out =
      pick First (nat_lt g.live old) t _ (λ on. refuted (in_attempt t.line) (ap in_attempt at) on)
      (pick (λ (ln : Line). in_attempt ln ≡ true → t.spent ≡ 1) (nat_lt t.scan old) line.Link (line.Pass 0) (λ on. refuted false refl on) (λ on. refuted false refl on))
  begins_at line.Link at out = pick First (nat_eq old 0) _ _ (λ on. refuted false refl on) (λ on. refuted false refl on)
  begins_at line.Look at out =
      pick First (nat_lt 0 (header_accessors old)) t _ (λ on. refuted (in_attempt t.line) (ap in_attempt at) on) (λ on. refl)
  begins_at (line.Cell index stage) at out = refuted true out refl
  begins_at line.ObjectTrade at out = refuted true out refl
  begins_at (line.Pass number) at out =
      pick (λ (ln : Line). in_attempt ln ≡ true → t.spent ≡ 1) (nat_eq old t.cycle) (line.PassHead number) _ (λ on. refuted false refl on)
      (pick (λ (ln : Line). in_attempt ln ≡ true → t.spent ≡ 1) (nat_lt (number + 1) (numbers g)) (line.Pass (number + 1)) (line.Sweep 0 stage.Read) (λ on. refuted false refl on) (λ on. refuted false refl on))
  begins_at (line.PassHead number) at out =
      pick (λ (ln : Line). in_attempt ln ≡ true → t.spent ≡ 1) (is_old g t old) line.Scan _ (λ on. refuted false refl on)
      (pick (λ (ln : Line). in_attempt ln ≡ true → t.spent ≡ 1) (nat_lt (number + 1) (numbers g)) (line.Pass (number + 1)) (line.Sweep 0 stage.Read) (λ on. refuted false refl on) (λ on. refuted false refl on))
  begins_at (line.Sweep number stage.Read) at out =
      pick (λ (ln : Line). in_attempt ln ≡ true → t.spent ≡ 1) (nat_lt old t.cycle) (line.Sweep number stage.Write) (line.Sweep (number + 1) stage.Read) (λ on. refuted false refl on) (λ on. refuted false refl on)
  begins_at (line.Sweep number stage.Claim) at out = λ on. refuted (in_attempt t.line) (ap in_attempt at) on
  begins_at (line.Sweep number stage.Reserve) at out = λ on. refuted (in_attempt t.line) (ap in_attempt at) on
  begins_at (line.Sweep number stage.Tie) at out = λ on. refuted (in_attempt t.line) (ap in_attempt at) on
  begins_at (line.Sweep number stage.Write) at out = λ on. refuted false refl on
  begins_at (line.Sweep number stage.Mark) at out = λ on. refuted false refl on
  begins_at (line.Sweep number stage.Empty) at out =
      pick (λ (ln : Line). in_attempt ln ≡ true → t.spent ≡ 1) (nat_lt t.entries (list_length g)) (line.Sweep (number + 1) stage.Read) (line.Clear 0) (λ on. refuted false refl on) (λ on. refuted false refl on)
  begins_at (line.Clear word) at out =
      pick (λ (ln : Line). in_attempt ln ≡ true → t.spent ≡ 1) (nat_lt (word + 1) (space_words g)) (line.Clear (word + 1)) line.Reset (λ on. refuted false refl on) (λ on. refuted false refl on)
  begins_at line.Reset at out = λ on. refuted false refl on

  pub attempt_begins : in_attempt t.line ≡ false → in_attempt (spot_took g t old).line ≡ true → (spot_took g t old).spent ≡ 1
  unfolding spot_took
  attempt_begins out on = begins_at t.line refl out on

  -- AN ATTEMPT GOES ON

  goes_at : (ln : Line) → t.line ≡ ln → l.LineFits g t ln → in_attempt ln ≡ true → in_attempt (took_at_line g t old ln).line ≡ true → (took_at_line g t old ln).spent ≡ t.spent + 1
  unfolding in_attempt took_at_line table.register_took table.frame_trade_took table.cell_took table.object_trade_took
  goes_at line.Rest at fits out on = refuted false refl out
  goes_at (line.Frame seat) at fits out on = refuted false refl out
  goes_at (line.Register seat reg stage.Read) at fits out on = refl
  goes_at (line.Register seat reg stage.Claim) at fits out on = refl
  goes_at (line.Register seat reg stage.Reserve) at fits out on = refl
  goes_at (line.Register seat reg stage.Tie) at fits out on = refl
  goes_at (line.Register seat reg stage.Write) at fits out on = absurd fits.2
  goes_at (line.Register seat reg stage.Mark) at fits out on = absurd fits.2
  goes_at (line.Register seat reg stage.Empty) at fits out on = absurd fits.2
  goes_at (line.FrameTrade seat) at fits out on = over on
    where
      over : in_attempt (if nat_eq old t.first then (if nat_lt (seat + 1) (tasks g) then line.Frame (seat + 1) else line.Scan) else line.Frame seat) ≡ true → t.spent ≡ t.spent + 1
      over = pick (λ (ln : Line). in_attempt ln ≡ true → t.spent ≡ t.spent + 1) (nat_eq old t.first) _ (line.Frame seat)
          (pick (λ (ln : Line). in_attempt ln ≡ true → t.spent ≡ t.spent + 1) (nat_lt (seat + 1) (tasks g)) (line.Frame (seat + 1)) line.Scan (λ on. refuted false refl on) (λ on. refuted false refl on))
          (λ on. refuted false refl on)
  goes_at line.Scan at fits out on = refuted false refl out
  goes_at line.Link at fits out on = refuted false refl out
  goes_at line.Look at fits out on = refuted false refl out
  goes_at (line.Cell index stage.Read) at fits out on = refl
  goes_at (line.Cell index stage.Claim) at fits out on = refl
  goes_at (line.Cell index stage.Reserve) at fits out on = refl
  goes_at (line.Cell index stage.Tie) at fits out on = refl
  goes_at (line.Cell index stage.Write) at fits out on = refl
  goes_at (line.Cell index stage.Mark) at fits out on = absurd fits.1
  goes_at (line.Cell index stage.Empty) at fits out on = absurd fits.1
  goes_at line.ObjectTrade at fits out on =
      pick (λ (x : Spot). in_attempt x.line ≡ true → x.spent ≡ t.spent + 1) (nat_eq old t.first) (record t { line = line.Scan; scan = t.scan + reference_size t.item }) (record t { line = line.Look })
      (λ on. refuted false refl on) (λ on. refuted false refl on) on
  goes_at (line.Pass number) at fits out on = refuted false refl out
  goes_at (line.PassHead number) at fits out on = refuted false refl out
  goes_at (line.Sweep number stage) at fits out on = refuted false refl out
  goes_at (line.Clear word) at fits out on = refuted false refl out
  goes_at line.Reset at fits out on = refuted false refl out

  pub attempt_goes_on : l.LineFits g t t.line → in_attempt t.line ≡ true → in_attempt (spot_took g t old).line ≡ true → (spot_took g t old).spent ≡ t.spent + 1
  unfolding spot_took
  attempt_goes_on fits out on = goes_at t.line refl fits out on

  -- THE PASS

  module _ (number : ℕ) where
    abbrev AfterMark : Line → Type 0
    AfterMark ln = ln ≡ line.PassHead number → (t.line ≡ line.Pass number) × (old ≡ t.cycle)

    -- the spot that stays on a line other than the header's
    stays_off : (ln : Line) → t.line ≡ ln → (ln ≡ line.PassHead number → ⊥) → AfterMark t.line
    stays_off ln at other = λ e. absurd (other (sym at ∙ e))

    after_pass_off : (n : ℕ) → AfterMark (table.after_pass g n)
    after_pass_off n = pick AfterMark (nat_lt (n + 1) (numbers g)) (line.Pass (n + 1)) (line.Sweep 0 stage.Read) (λ e. absurd (cc)) (λ e. absurd (cc))

    after_register_off : (s r : ℕ) → AfterMark (table.after_register g s r)
    after_register_off s r = pick AfterMark (nat_lt (r + 1) g.registers) (line.Register s (r + 1) stage.Read) (line.FrameTrade s) (λ e. absurd (cc)) (λ e. absurd (cc))

    after_frame_off : (s : ℕ) → AfterMark (table.after_frame g s)
    after_frame_off s = pick AfterMark (nat_lt (s + 1) (tasks g)) (line.Frame (s + 1)) line.Scan (λ e. absurd (cc)) (λ e. absurd (cc))

    after_cell_off : (i : ℕ) → AfterMark (table.after_cell t i)
    after_cell_off i = pick AfterMark (nat_lt (i + 2) (reference_size t.item)) (line.Cell (i + 1) stage.Read) line.ObjectTrade (λ e. absurd (cc)) (λ e. absurd (cc))

    mark_found : (n : ℕ) → t.line ≡ line.Pass n → (test : Bool) → nat_eq old t.cycle ≡ test → AfterMark (if test then line.PassHead n else table.after_pass g n)
    mark_found n at true same = λ e. let one : n ≡ number = cc in (at ∙ ap line.Pass one, eqb-true old t.cycle same)
    mark_found n at false other = after_pass_off n

    came_at : (ln : Line) → t.line ≡ ln → AfterMark (took_at_line g t old ln).line
    unfolding took_at_line table.rest_took table.frame_took table.register_took table.frame_trade_took table.scan_took table.link_took table.look_took table.cell_took table.object_trade_took table.pass_took table.pass_head_took table.sweep_took table.clear_took
    came_at line.Rest at = pick (λ (x : Spot). AfterMark x.line) (nat_eq t.cycle last_cycle) t _ (stays_off line.Rest at (λ e. cc)) (λ e. absurd (cc))
    came_at (line.Frame seat) at = pick (λ (x : Spot). AfterMark x.line) (nat_lt 0 (frame_accessors old)) t _ (stays_off (line.Frame seat) at (λ e. cc)) (λ e. absurd (cc))
    came_at (line.Register seat reg stage.Read) at = pick AfterMark (nat_eq old 0) _ (line.Register seat reg stage.Claim) (after_register_off seat reg) (λ e. absurd (cc))
    came_at (line.Register seat reg stage.Claim) at = pick AfterMark (nat_lt old t.cycle) (line.Register seat reg stage.Reserve) _ (λ e. absurd (cc)) (after_register_off seat reg)
    came_at (line.Register seat reg stage.Reserve) at = pick AfterMark (reserved_fits g old t.cell) (line.Register seat reg stage.Tie) _ (λ e. absurd (cc)) (after_register_off seat reg)
    came_at (line.Register seat reg stage.Tie) at = after_register_off seat reg
    came_at (line.Register seat reg stage.Write) at = stays_off (line.Register seat reg stage.Write) at (λ e. cc)
    came_at (line.Register seat reg stage.Mark) at = stays_off (line.Register seat reg stage.Mark) at (λ e. cc)
    came_at (line.Register seat reg stage.Empty) at = stays_off (line.Register seat reg stage.Empty) at (λ e. cc)
    came_at (line.FrameTrade seat) at = pick AfterMark (nat_eq old t.first) _ (line.Frame seat) (after_frame_off seat) (λ e. absurd (cc))
    came_at line.Scan at =
        pick (λ (x : Spot). AfterMark x.line) (nat_lt g.live old) t _ (stays_off line.Scan at (λ e. cc))
        (pick AfterMark (nat_lt t.scan old) line.Link (line.Pass 0) (λ e. absurd (cc)) (λ e. absurd (cc)))
    came_at line.Link at = pick (λ (x : Spot). AfterMark x.line) (nat_eq old 0) _ _ (λ e. absurd (cc)) (λ e. absurd (cc))
    came_at line.Look at = pick (λ (x : Spot). AfterMark x.line) (nat_lt 0 (header_accessors old)) t _ (stays_off line.Look at (λ e. cc)) (λ e. absurd (cc))
    came_at (line.Cell index stage.Read) at = λ e. absurd (cc)
    came_at (line.Cell index stage.Claim) at = λ e. absurd (cc)
    came_at (line.Cell index stage.Reserve) at = λ e. absurd (cc)
    came_at (line.Cell index stage.Tie) at = λ e. absurd (cc)
    came_at (line.Cell index stage.Write) at = after_cell_off index
    came_at (line.Cell index stage.Mark) at = stays_off (line.Cell index stage.Mark) at (λ e. cc)
    came_at (line.Cell index stage.Empty) at = stays_off (line.Cell index stage.Empty) at (λ e. cc)
    came_at line.ObjectTrade at = pick (λ (x : Spot). AfterMark x.line) (nat_eq old t.first) _ _ (λ e. absurd (cc)) (λ e. absurd (cc))
    came_at (line.Pass n) at = mark_found n at (nat_eq old t.cycle) refl
    came_at (line.PassHead n) at = pick AfterMark (is_old g t old) line.Scan _ (λ e. absurd (cc)) (after_pass_off n)
    came_at (line.Sweep n stage.Read) at = pick AfterMark (nat_lt old t.cycle) (line.Sweep n stage.Write) (line.Sweep (n + 1) stage.Read) (λ e. absurd (cc)) (λ e. absurd (cc))
    came_at (line.Sweep n stage.Claim) at = stays_off (line.Sweep n stage.Claim) at (λ e. cc)
    came_at (line.Sweep n stage.Reserve) at = stays_off (line.Sweep n stage.Reserve) at (λ e. cc)
    came_at (line.Sweep n stage.Tie) at = stays_off (line.Sweep n stage.Tie) at (λ e. cc)
    came_at (line.Sweep n stage.Write) at = λ e. absurd (cc)
    came_at (line.Sweep n stage.Mark) at = λ e. absurd (cc)
    came_at (line.Sweep n stage.Empty) at = pick AfterMark (nat_lt t.entries (list_length g)) (line.Sweep (n + 1) stage.Read) (line.Clear 0) (λ e. absurd (cc)) (λ e. absurd (cc))
    came_at (line.Clear word) at = pick AfterMark (nat_lt (word + 1) (space_words g)) (line.Clear (word + 1)) line.Reset (λ e. absurd (cc)) (λ e. absurd (cc))
    came_at line.Reset at = λ e. absurd (cc)

    comes : (t.line ≡ line.Pass number) × (old ≡ t.cycle) → (spot_took g t old).line ≡ line.PassHead number
    unfolding took_at_line table.pass_took
    comes o = ap (λ (x : Spot). x.line) (took_at g t (line.Pass number) old o.0) ∙ rw (eq-eqb old t.cycle o.1) refl

    pub header_after_mark : ((spot_took g t old).line ≡ line.PassHead number) ↔ ((t.line ≡ line.Pass number) × (old ≡ t.cycle))
    unfolding spot_took
    header_after_mark = (came_at t.line refl, comes)
