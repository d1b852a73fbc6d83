-- What the step of the collector asks of its spot: the numbers that its event is made of are of the geometry. In a lawful
-- state every spot fits.
use Rattle.std.specs.Prelude.{ℕ, ◌+◌, ◌^◌, ◌<◌, ◌≤◌, ⊤}
use Rattle.hk_words.specs.declared.geometry.Geometry.{Geometry}
use Rattle.hk_words.specs.Geometry.{tasks, numbers, list_length, space_words}
use Rattle.hk_words.specs.Row.{IsRegister}
use Rattle.hk_core.specs.declared.spot.Spot.{Spot}
use Rattle.hk_core.specs.declared.spot.Line.{Line}
use Rattle.hk_core.specs.declared.spot.Line.TheVariants as line
use Rattle.hk_core.specs.declared.spot.Stage.{Stage}
use Rattle.hk_core.specs.declared.spot.Stage.TheVariants as stage
use Rattle.hk_core.specs.Step.{reference_size}
use Rattle.hk_core.specs.Collect.{last_cycle, moved_from}
use Rattle.hk_core.specs.Fits.{NamesNumber, IsInSpaces}

-- an attempt has spent few events
abbrev pub FewSpent : Spot → Type 0
FewSpent t = t.spent + 1 < 2 ^ 32

-- what the stages of a register ask
abbrev pub RegisterFits : Geometry → Spot → Stage → Type 0
RegisterFits g t stage.Read = ⊤
RegisterFits g t stage.Claim = NamesNumber g t.cell
RegisterFits g t stage.Reserve = ⊤
RegisterFits g t stage.Tie = t.offset < space_words g
RegisterFits g t stage.Write = ⊤
RegisterFits g t stage.Mark = ⊤
RegisterFits g t stage.Empty = ⊤

-- what the stages of a cell ask
abbrev pub CellFits : Geometry → Spot → ℕ → Stage → Type 0
CellFits g t index stage.Read = IsInSpaces g (moved_from t + 1 + index)
CellFits g t index stage.Claim = NamesNumber g t.cell
CellFits g t index stage.Reserve = ⊤
CellFits g t index stage.Tie = t.offset < space_words g
CellFits g t index stage.Write = t.scan + 1 + index < space_words g
CellFits g t index stage.Mark = ⊤
CellFits g t index stage.Empty = ⊤

-- what the stages of the sweep ask
abbrev pub SweepFits : Geometry → Spot → Stage → Type 0
SweepFits g t stage.Read = ⊤
SweepFits g t stage.Claim = ⊤
SweepFits g t stage.Reserve = ⊤
SweepFits g t stage.Tie = ⊤
SweepFits g t stage.Write = t.entries < list_length g
SweepFits g t stage.Mark = ⊤
SweepFits g t stage.Empty = ⊤

-- what the lines ask
abbrev pub LineFits : Geometry → Spot → Line → Type 0
LineFits g t line.Rest = ⊤
LineFits g t (line.Frame s) = s < tasks g
LineFits g t (line.Register s r stage) = IsRegister g s r × RegisterFits g t stage × FewSpent t
LineFits g t (line.FrameTrade s) = (s < tasks g) × FewSpent t
LineFits g t line.Scan = ⊤
LineFits g t line.Link = t.scan < space_words g
LineFits g t line.Look = NamesNumber g t.item
LineFits g t (line.Cell i stage) = (i + 1 < reference_size t.item) × (reference_size t.item < 256) × CellFits g t i stage × FewSpent t
LineFits g t line.ObjectTrade = NamesNumber g t.item × (t.scan < space_words g) × FewSpent t
LineFits g t (line.Pass n) = n < numbers g
LineFits g t (line.PassHead n) = n < numbers g
LineFits g t (line.Sweep n stage) = (n < numbers g) × SweepFits g t stage
LineFits g t (line.Clear i) = i < space_words g
LineFits g t line.Reset = ⊤

-- a spot fits
pub record SpotFits (g : Geometry) (t : Spot) : Type 0 where
  pub cycle : t.cycle ≤ last_cycle
  pub line : LineFits g t t.line
