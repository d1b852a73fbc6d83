use Rattle.std.proofs.Common.{◌≡◌}
use Rattle.hk_words.specs.declared.geometry.Geometry.{Geometry}
use Rattle.hk_model.specs.History.{History}
use Rattle.hk_race.specs.Jobs.{Agree}
use Rattle.hk_race.specs.Text.{tasks_text}
use Rattle.hk_race.proofs.competing.text_of.Given as goal

-- what the tasks of the first seats tell
abbrev pub invariant-loop-seat : goal.invariant-loop-seat
invariant-loop-seat l = (g : Geometry) (history : History) → Agree l.sheet g history l.told → l.text.items ≡ tasks_text l.sheet g history l.seat
