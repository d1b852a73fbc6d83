use Rattle.hk_table.specs.Passes.{IsPassOf}
use Rattle.shared_mix.proofs.Lists.{one_more}
use Rattle.shared_mix.proofs.history.with_player.Goals as goal

pub returns-clause-passes : goal.returns-clause-passes
returns-clause-passes c = one_more (IsPassOf c.args.heap.now) _ c.args.gathered.passes.items c.args.player.pass c.in_ok-push.ensures.items c.requires.passes c.requires.pass
