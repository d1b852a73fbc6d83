-- No row has had a tick.
use Rattle.std.proofs.Common.{rules}
use Rattle.hk_plan.proofs.Track.{track_open}
use Rattle.hk_plan.proofs.Plan.open.Goals as goal

pub invariant_of-result : goal.invariant_of-result
invariant_of-result c =
    track_open c.args.rows.now _ _ _ c.requires c.in_ok-rows.ensures.items
    (c.in_ok-had.ensures.items_if_clones_equal (λ y e. e)) (c.in_ok-finish.ensures.items_if_clones_equal (λ y h. search rules))
