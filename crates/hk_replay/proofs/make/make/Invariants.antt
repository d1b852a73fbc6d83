-- The lines so far, and those that are left, are the log.
use Rattle.std.proofs.Common.{◌≡◌, ◌-◌, ◌≤◌, ◌++◌}
use Rattle.hk_replay.specs.Making.{made_lines, made_log}
use Rattle.hk_replay.proofs.make.make.Given as goal

abbrev pub invariant-loop : goal.invariant-loop
invariant-loop l = (l.counter ≤ 20000) × (l.log.items ++ made_lines (20000 - l.counter) l.machine l.draws.state ≡ made_log l.number)
