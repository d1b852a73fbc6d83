use Rattle.std.proofs.Common.{◌≡◌, ◌<◌, ℕ, false}
use Rattle.hk_race.specs.Tasks.{is_long, task_at}
use Rattle.hk_race.proofs.long.first_long.Given as goal

-- the tasks of the first seats aren't long
abbrev pub invariant-loop-seat : goal.invariant-loop-seat
invariant-loop-seat l = (earlier : ℕ) → earlier < l.seat → is_long (task_at l.sheet earlier) ≡ false
