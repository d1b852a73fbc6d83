-- Laws of the collector's turns on the shared heap.
use Rattle.std.specs.Prelude.{◌≡◌, ◌≢◌, ◌↔◌, ℕ, ◌+◌, ◌≤◌, List, [], ◌++◌, replicate}
use Rattle.hk_words.specs.declared.geometry.Geometry.{Geometry}
use Rattle.hk_core.specs.declared.spot.Work.{Work}
use Rattle.hk_core.specs.declared.spot.Work.TheVariants.{Useful, Worn}
use Rattle.hk_core.specs.Run.{Action}
use Rattle.hk_table.specs.Actions.{collects}
use Rattle.hk_table.specs.Knows.{KeeperView}
use Rattle.hk_keeper.specs.Collected.{answers, Collected}

-- actions in two parts answer what the parts answer
abbrev pub AnswersTogether : Type 0
AnswersTogether = (g : Geometry) (before a b : List Action) → answers g before (a ++ b) ≡ answers g before a ++ answers g (before ++ a) b

-- actions of the seats answer nothing
abbrev pub SeatsAnswerNothing : Type 0
SeatsAnswerNothing = (g : Geometry) (before later : List Action) → collects later ≡ [] → answers g before later ≡ []

-- a turn answers Useful exactly where each event of its budget was useful
abbrev pub UsefulExactly : Type 0
UsefulExactly = (g : Geometry) (k : KeeperView) (budget : ℕ) (answer : Work) (events : ℕ) (k' : KeeperView) (c : Collected g k budget answer events k')
    → (answer ≡ Useful) ↔ (answers g k.log c.later ≡ replicate budget Useful)

-- a turn does some event, unless a flip was due in the last cycle
abbrev pub SomeEvent : Type 0
SomeEvent = (g : Geometry) (k : KeeperView) (budget : ℕ) (answer : Work) (events : ℕ) (k' : KeeperView) → Collected g k budget answer events k'
    → 1 ≤ budget → answer ≢ Worn → 1 ≤ events

-- a turn after one that used its whole budget is one turn with it
abbrev pub TurnsTogether : Type 0
TurnsTogether = (g : Geometry) (k k' k'' : KeeperView) (m n e e' : ℕ) (answer : Work) → Collected g k m Useful e k' → Collected g k' n answer e' k''
    → Collected g k (m + n) answer (e + e') k''
