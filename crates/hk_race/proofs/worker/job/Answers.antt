use Rattle.std.proofs.Common.{◌≤◌, sym, refl, subst, arith}
use Rattle.hk_script.specs.declared.walk.Walk.{Walk}
use Rattle.hk_script.specs.Left.{ticks_left}
use Rattle.hk_model.specs.Heap.{opening_of}
use Rattle.hk_race.proofs.Going.{goes_job, goes_ended, goes_ended_full, no_some}
use Rattle.hk_race.specs.Goes.{Walks}
use Rattle.hk_race.proofs.Through.{at_end, walks_started, left_started}
use Rattle.hk_race.proofs.worker.job.Goals as goal

pub returns-then-is_none-clause-goes : goal.returns-then-is_none-clause-goes
returns-then-is_none-clause-goes g c =
    let none = no_some c.statements.new.own.full c.if-is_none.ensures in
    goes_job (opening_of (g.D.Desk.geometry c.args.desk.now)) (g.D.Desk.seat c.args.desk.now) c.args.script.now c.args.cost _ _ c.args.own.now c.statements.new.own _ c.start-own.result c.requires.going c.start-own.ensures.started c.requires.cost
    c.in_ok-statements.ensures.goes
    (goes_ended _ _ c.args.script.now _ c.statements.new.own _ none (at_end c.args.script.now c.statements.new.own none c.in_ok-statements.ensures.through) refl)

pub returns-else-is_none-clause-goes : goal.returns-else-is_none-clause-goes
returns-else-is_none-clause-goes g c =
    goes_job (opening_of (g.D.Desk.geometry c.args.desk.now)) (g.D.Desk.seat c.args.desk.now) c.args.script.now c.args.cost _ _ c.args.own.now c.statements.new.own _ c.start-own.result c.requires.going c.start-own.ensures.started c.requires.cost
    c.in_ok-statements.ensures.goes
    (goes_ended_full _ _ c.args.script.now _ c.statements.new.own c.if-is_none.ensures)

pub statements-requires-clause-walks : goal.statements-requires-clause-walks
statements-requires-clause-walks g c = subst (Walks c.args.script.now) (sym c.start-own.ensures.started) (walks_started _ c.args.script.now c.args.own.now.jobs c.requires.script)

pub statements-requires-clause-left : goal.statements-requires-clause-left
statements-requires-clause-left g c =
    let few = left_started _ c.args.script.now c.args.own.now.jobs c.requires.script in
    subst (λ (w : Walk). ticks_left c.args.script.now w ≤ c.args.cost) (sym c.start-own.ensures.started) (omega (arith, few, c.requires.cost))
