use Rattle.std.proofs.Common.{ℕ, ◌<◌, ◌≤◌, arith, sym, ◌∙◌, ap, subst, Option, IfSome}
use Rattle.hk_words.specs.Geometry.{tasks}
use Rattle.hk_table.specs.Passes.{kept}
use Rattle.hk_table.specs.Knows.{KeeperView}
use Rattle.hk_race.specs.Lives.{live_of, reserved_by}
use Rattle.hk_race.proofs.Living.{live_first, live_after, goes_on_unlive, first_cycle, above_by, within_by}
use Rattle.hk_race.proofs.collector.collect_all.Goals as goal

pub loop-init : goal.loop-init
loop-init g c = record {
  keeper = c.requires.keeper;
  cycle = first_cycle (kept c.args.keeper.now) (tasks c.args.heap.now.geometry) c.requires.fresh;
  live = ap (λ (k : KeeperView). live_of c.args.heap.now.geometry k.log) c.requires.fresh ∙ live_first c.args.heap.now.geometry;
}

pub returns-then-is_last-clause-live : goal.returns-then-is_last-clause-live
returns-then-is_last-clause-live g c =
    c.live_in.ensures ∙ sym (live_after c.args.heap.now.geometry (kept c.loop.keeper) (kept c.collect-answer.new.keeper) 64 c.collect-answer.ensures.collected.0 c.collect-answer.result c.loop.invariant.live c.collect-answer.ensures.collected.1)

pub returns-then-flips-ge2-clause-live : goal.returns-then-flips-ge2-clause-live
returns-then-flips-ge2-clause-live g c =
    sym (live_after c.args.heap.now.geometry (kept c.loop.keeper) (kept c.collect-answer.new.keeper) 64 c.collect-answer.ensures.collected.0 c.collect-answer.result c.loop.invariant.live c.collect-answer.ensures.collected.1
    ∙ goes_on_unlive c.collect-answer.result (sym c.is_last.ensures ∙ c.if-is_last.false))

pub returns-then-is_last-clause-above : goal.returns-then-is_last-clause-above
returns-then-is_last-clause-above g c =
    subst (λ (o : Option ℕ). IfSome o (λ words. c.args.heap.now.geometry.live < words)) (sym c.live_in.ensures)
    (above_by c.args.heap.now.geometry (kept c.loop.keeper) (kept c.collect-answer.new.keeper) 64 c.collect-answer.ensures.collected.0 c.collect-answer.result c.collect-answer.ensures.collected.1)

pub returns-then-is_last-clause-reserved : goal.returns-then-is_last-clause-reserved
returns-then-is_last-clause-reserved g c =
    subst (λ (o : Option ℕ). IfSome o (λ words. words ≤ reserved_by c.args.heap.now.geometry (kept c.collect-answer.new.keeper).log)) (sym c.live_in.ensures)
    (within_by c.args.heap.now.geometry (kept c.loop.keeper) (kept c.collect-answer.new.keeper) 64 c.collect-answer.ensures.collected.0 c.collect-answer.result c.collect-answer.ensures.collected.1)

pub loop-preserved : goal.loop-preserved
loop-preserved g c = record {
  keeper = c.collect-answer.ensures.keeper;
  cycle = omega (arith, c.loop.invariant.cycle, c.counted-flips.ensures, c.collect-answer.ensures.collected.1.cycle);
  live = live_after c.args.heap.now.geometry (kept c.loop.keeper) (kept c.collect-answer.new.keeper) 64 c.collect-answer.ensures.collected.0 c.collect-answer.result c.loop.invariant.live c.collect-answer.ensures.collected.1
      ∙ goes_on_unlive c.collect-answer.result (sym c.is_last.ensures ∙ c.if-is_last.false);
}

pub loop-preserved-then-eq : goal.loop-preserved-then-eq
loop-preserved-then-eq g c = record {
  keeper = c.collect-answer.ensures.keeper;
  cycle = omega (arith, c.loop.invariant.cycle, c.counted-flips.ensures, c.collect-answer.ensures.collected.1.cycle);
  live = live_after c.args.heap.now.geometry (kept c.loop.keeper) (kept c.collect-answer.new.keeper) 64 c.collect-answer.ensures.collected.0 c.collect-answer.result c.loop.invariant.live c.collect-answer.ensures.collected.1
      ∙ goes_on_unlive c.collect-answer.result (sym c.is_last.ensures ∙ c.if-is_last.false);
}
