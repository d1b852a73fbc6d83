use Rattle.std.proofs.Common.{◌≡◌, length, take, map}
use Rattle.hk_ceiling.specs.Told.{numbered}
use Rattle.hk_ceiling.proofs.told.all_numbered.Given as goal

abbrev pub invariant-loop-q : goal.invariant-loop-q
invariant-loop-q l = record {
  whole : length l.all ≡ 64;
  so_far : take l.q l.all ≡ map (numbered l.tasks) (take l.q l.sections);
}
