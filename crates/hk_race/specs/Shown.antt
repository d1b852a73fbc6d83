-- What the code keeps of a task.
use Rattle.std.specs.Prelude.{◌≡◌, ℕ, ◌*◌, ◌^◌, ◌<◌, ◌≤◌, length}
use Rattle.hk_script.specs.Cost.{greatest_ticks}
use Rattle.hk_sheet.specs.declared.sheet.TheConstants.{MAX_NAME}
use Rattle.hk_race.specs.declared.desk.TheConstants.{MOST_CALLS}
use Rattle.hk_race.specs.declared.tasks.Held.{Held}
use Rattle.hk_race.specs.Goes.{RunsOn}
use Rattle.hk_race.specs.Tasks.{Task}

-- the task that it is
abbrev pub shown : Held → Task
shown t = record { name = t.name.now; script = t.script.now; jobs = t.jobs }

-- its script is one for tasks with so many registers, and its jobs don't use up a pass
pub record IsHeld (registers : ℕ) (t : Held) : Type 0 where
  pub name : length t.name.now ≤ MAX_NAME
  pub script : RunsOn registers t.script.now
  pub cost : t.cost ≡ greatest_ticks t.script.now
  pub jobs : t.jobs < 2 ^ 32
  pub few : t.jobs * t.cost ≤ MOST_CALLS
