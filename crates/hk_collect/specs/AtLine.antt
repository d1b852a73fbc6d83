-- The event at a line, what it leaves and what it answers: the tables of the collector, at a line that is named. At the line
-- of the spot they are the step of the collector.
use Rattle.std.specs.Prelude.{ℕ, Option}
use Rattle.hk_core.specs.declared.event.Event.{Event}
use Rattle.hk_core.specs.declared.spot.Line.{Line}
use Rattle.hk_core.specs.declared.spot.Work.{Work}
use Rattle.hk_core.specs.Event.{CanFireIf, fired_if, learnt}
use Rattle.hk_core.specs.State.{State}
use Rattle.hk_core.specs.Collect.{event_at_line, took_at_line, work_at_line}

-- the event, and the word that it finds
abbrev pub event_at : State → Line → Option Event
event_at c line = event_at_line c.geometry c.spot line

abbrev pub found_at : State → Line → ℕ
found_at c line = learnt c.row (event_at c line)

-- the state after it: it is fired, and the spot goes on
abbrev pub next_at : State → Line → State
next_at c line = record c {
  row = fired_if c.row (event_at c line);
  spot = took_at_line c.geometry c.spot (found_at c line) line;
}

-- what it did
abbrev pub work_at : State → Line → Work
work_at c line = work_at_line c.geometry c.spot (found_at c line) line

-- the event of a line may be fired
abbrev pub Fires : State → Line → Type 0
Fires c line = CanFireIf c.row (event_at c line)
