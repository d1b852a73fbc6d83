use Rattle.std.proofs.Common.{◌≡◌, ◌⊎◌, ◌+◌, ◌≤◌}
use Rattle.hk_model.specs.Heap.{opening_of}
use Rattle.hk_script.specs.Left.{ticks_left}
use Rattle.hk_race.specs.Course.{stepped, times}
use Rattle.hk_race.specs.Goes.{Goes, Walks, IsThrough}
use Rattle.hk_race.proofs.worker.statements.Given as goal

-- so many statements were done
abbrev pub invariant-loop : goal.invariant-loop
invariant-loop g l = record {
  good : g.D.Desk.good l.desk;
  same : g.D.Desk.same l.initial.desk l.desk;
  geometry : g.D.Desk.geometry l.desk ≡ g.D.Desk.geometry l.initial.desk;
  seat : g.D.Desk.seat l.desk ≡ g.D.Desk.seat l.initial.desk;
  jobs : l.own.jobs ≡ l.initial.own.jobs;
  walks : Walks l.script l.own.walk;
  left : IsThrough l.script l.own ⊎ (ticks_left l.script l.own.walk + l.counter ≤ l.cost);
  begun : g.D.Desk.begun l.desk ≤ g.D.Desk.begun l.initial.desk + l.counter;
  goes : Goes (opening_of (g.D.Desk.geometry l.initial.desk)) (g.D.Desk.seat l.initial.desk) (times l.counter (stepped l.script (g.D.Desk.seat l.initial.desk)))
      (g.D.Desk.seen l.initial.desk) (g.D.Desk.seen l.desk) l.initial.own l.own;
}
