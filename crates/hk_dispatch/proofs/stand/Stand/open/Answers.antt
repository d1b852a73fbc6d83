use Rattle.std.proofs.Common.{refl}
use Rattle.hk_dispatch.proofs.StandsFrom.{sizes_first, own_opening, shows_first}
use Rattle.hk_dispatch.proofs.stand.Stand.open.Goals as goal

pub returns-clause-sizes : goal.returns-clause-sizes
returns-clause-sizes c = sizes_first c.geometry-geometry.result c.in_ok-heap.heap c.args.sheet.now c.in_ok-heap.ensures.state c.geometry-geometry.ensures

pub returns-clause-shows : goal.returns-clause-shows
returns-clause-shows c =
    shows_first c.in_ok-heap.heap.geometry c.args.sheet.now _ (own_opening c.geometry-geometry.result c.in_ok-heap.heap c.in_ok-heap.ensures.state) c.in_ok-tasks.ensures c.new.ensures.room c.new.ensures.stale
    refl refl refl refl refl refl
