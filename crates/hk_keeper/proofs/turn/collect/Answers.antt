use Rattle.std.proofs.Common.{◌+◌, arith}
use Rattle.hk_table.specs.Passes.{kept}
use Rattle.hk_keeper.proofs.Together.{nothing_yet}
use Rattle.hk_keeper.proofs.Turns.{goes_on, is_over}
use Rattle.hk_keeper.proofs.turn.collect.Goals as goal

pub loop-init : goal.loop-init
loop-init g c = (c.requires.keeper, nothing_yet c.args.heap.now.geometry (kept c.args.keeper.now), omega arith)

pub returns-in_default : goal.returns-in_default
returns-in_default g c =
    let h = c.args.heap.now.geometry in
    let i = c.loop.invariant in
    let e = c.advance.ensures in
    let o = e.collected in
    let steps = o.2 in
    let so_far = i.2 in
    let over = is_over h (kept c.args.keeper.now) (kept c.loop.keeper) (kept c.advance.new.keeper) c.loop.counter o.0 c.advance.result i.1 o.1 c.args.budget c.in_default.not-Useful (let end = c.loop-test.true in omega arith) in
    record {
      keeper = e.keeper;
      collected = (c.loop.counter + o.0, over, omega arith);
      steps = (let few = over.few in omega arith);
    }

pub loop-preserved : goal.loop-preserved
loop-preserved g c =
    let h = c.args.heap.now.geometry in
    let i = c.loop.invariant in
    let o = c.advance.ensures.collected in
    let more = goes_on h (kept c.args.keeper.now) (kept c.loop.keeper) (kept c.advance.new.keeper) c.loop.counter o.0 c.advance.result i.1 o.1 c.in-Useful.is in
    let steps = o.2 in
    let so_far = i.2 in
    let one = more.1 in
    (c.advance.ensures.keeper, more.0, omega arith)
