use Rattle.std.proofs.Common.{◌≡◌, []}
use Rattle.hk_table.specs.Passes.{IsPassOf, kept}
use Rattle.hk_table.proofs.Taking.{taken_is, nothing_left, few_enough, every_seat, closed_so}
use Rattle.hk_table.proofs.finish.close.Goals as goal

pub take_in-requires-clause-pass : goal.take_in-requires-clause-pass
take_in-requires-clause-pass c =
    taken_is (IsPassOf c.args.heap) (kept c.args.keeper) c.args.passes.items c.loop-pass.left.items c.pop.new.self.items c.in-Some.pass _ c.in-Some.ensures.items c.loop-pass.invariant.2 c.requires.passes

pub finish-requires-clause-few : goal.finish-requires-clause-few
finish-requires-clause-few c =
    let left = c.loop-pass.left in
    let empty : left.items ≡ [] = nothing_left left.items left.len c.in_default.ensures.cases.0 left.ok.0 in
    few_enough c.args.heap (kept c.args.keeper) c.args.passes.items left.items _ empty c.loop-pass.invariant.2 c.requires.seats

pub finish-requires-clause-every : goal.finish-requires-clause-every
finish-requires-clause-every c =
    let left = c.loop-pass.left in
    let empty : left.items ≡ [] = nothing_left left.items left.len c.in_default.ensures.cases.0 left.ok.0 in
    every_seat c.args.heap (kept c.args.keeper) c.args.passes.items left.items _ empty c.loop-pass.invariant.2 c.requires.seats c.requires.passes

pub returns : goal.returns
returns c =
    let left = c.loop-pass.left in
    let empty : left.items ≡ [] = nothing_left left.items left.len c.in_default.ensures.cases.0 left.ok.0 in
    let e = c.finish.ensures in
    closed_so c.args.heap (kept c.args.keeper) c.args.passes.items left.items _ empty c.loop-pass.invariant.2 c.requires.seats c.finish.result e.geometry e.log e.whole
