use Rattle.std.proofs.Common.{◌≡◌, ◌<◌, length}
use Rattle.hk_plan.specs.AloneBy.{ready_at}
use Rattle.hk_ceiling.specs.Choice.{level_of_row, is_in_section, best_below}
use Rattle.hk_ceiling.proofs.choice.best.Given as goal

abbrev pub invariant-loop-n : goal.invariant-loop-n
invariant-loop-n l = record {
  so_far : l.best ≡ best_below l.sections l.rows l.n;
  within : l.best < length l.rows;
  level : l.level_of_best.0 ≡ level_of_row l.sections (ready_at l.rows l.best);
  inside : l.level_of_best.1 ≡ is_in_section l.sections (ready_at l.rows l.best);
}
