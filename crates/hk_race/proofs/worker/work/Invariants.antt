use Rattle.std.proofs.Common.{◌≡◌, ◌⊎◌, ◌+◌, ◌*◌, ◌≤◌, true, is_some}
use Rattle.hk_model.specs.Heap.{opening_of}
use Rattle.hk_race.specs.Course.{times, job_done}
use Rattle.hk_race.specs.Goes.{Goes}
use Rattle.hk_race.proofs.Going.{Fresh}
use Rattle.hk_race.proofs.worker.work.Given as goal

-- so many jobs were done
abbrev pub invariant-loop : goal.invariant-loop
invariant-loop g l = record {
  good : g.D.Desk.good l.desk;
  same : g.D.Desk.same l.initial.desk l.desk;
  geometry : g.D.Desk.geometry l.desk ≡ g.D.Desk.geometry l.initial.desk;
  seat : g.D.Desk.seat l.desk ≡ g.D.Desk.seat l.initial.desk;
  first : Fresh l.initial.own;
  ended : (l.own.jobs ≡ l.counter) ⊎ (is_some l.own.full ≡ true);
  jobs : l.own.jobs ≤ l.counter;
  begun : g.D.Desk.begun l.desk ≤ g.D.Desk.begun l.initial.desk + l.counter * l.cost;
  goes : Goes (opening_of (g.D.Desk.geometry l.initial.desk)) (g.D.Desk.seat l.initial.desk) (times l.counter (job_done l.script (g.D.Desk.seat l.initial.desk)))
      (g.D.Desk.seen l.initial.desk) (g.D.Desk.seen l.desk) l.initial.own l.own;
}
