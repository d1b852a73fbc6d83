use Rattle.hk_plan.proofs.Had as law
use Rattle.hk_plan.proofs.each_tick_follows_order.Goals as goal

pub returns : goal.returns
returns c = law.each_tick_follows_order
