use Rattle.std.proofs.Common.{◌≡◌, ◌+◌, length}
use Rattle.hk_sheet.specs.Faults.{first_of, faults_of_ticks}
use Rattle.hk_sheet.proofs.tasks.check_ticks.Given as goal

-- the first fault is that of the ticks that are left, of which the first has this place
abbrev pub invariant-loop-rest : goal.invariant-loop-rest
invariant-loop-rest l = record {
  fault : first_of (faults_of_ticks l.task l.gap l.place l.rest) ≡ first_of (faults_of_ticks l.task l.gap 1 l.ticks);
  place : l.place + length l.rest ≡ 1 + length l.ticks;
}

abbrev pub decreases-loop-rest : goal.decreases-loop-rest
decreases-loop-rest l = length l.rest
