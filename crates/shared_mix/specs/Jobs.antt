-- What a thread is given.
use Rattle.std.specs.Prelude.{◌<◌}
use Rattle.hk_table.specs.declared.heap.Heap.{Heap}
use Rattle.hk_table.specs.Passes.{IsPassOf, IsKeeperOf}
use Rattle.shared_mix.specs.declared.jobs.Job.{Job}
use Rattle.shared_mix.specs.declared.jobs.Job.TheVariants.{Work, Collect}
use Rattle.shared_mix.specs.declared.history.round.Actor.{Actor}
use Rattle.shared_mix.specs.declared.history.round.Actor.TheVariants.{Play, Collect as Collects}

-- the pass or the keeper of a job is the heap's
abbrev pub JobFits : Heap → Job → Type 0
JobFits h (Work worker rounds) = IsPassOf h worker.pass × (worker.home < 8)
JobFits h (Collect keeper events) = IsKeeperOf h keeper

-- the pass or the keeper of an actor is the heap's
abbrev pub ActorFits : Heap → Actor → Type 0
ActorFits h (Play player) = IsPassOf h player.pass
ActorFits h (Collects collector) = IsKeeperOf h collector.keeper
