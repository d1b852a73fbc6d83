use Rattle.std.proofs.Common.{◌≡◌, ℕ, ◌<◌}
use Rattle.hk_rta.specs.Demand.{jitter_at}
use Rattle.hk_admit.specs.Analysis.{timings_of}
use Rattle.hk_ceiling.proofs.admission.first_moved.Given as goal

abbrev pub invariant-loop-place : goal.invariant-loop-place
invariant-loop-place l = (j : ℕ) → j < l.place → jitter_at (timings_of l.tasks) j ≡ 0
