use Rattle.std.proofs.Common.{◌≡◌, ◌<◌, ℕ, length, slice_index_or}
use Rattle.hk_race.specs.declared.competing.Job.{Job}
use Rattle.hk_race.specs.Jobs.{IsJobOf}
use Rattle.hk_race.proofs.competing.jobs_of.Given as goal

-- the jobs of the first seats
abbrev pub invariant-loop-pass : goal.invariant-loop-pass
invariant-loop-pass l = record {
  count : length l.jobs.items ≡ length l.yielded;
  each : (seat : ℕ) (d : Job) → seat < length l.jobs.items → IsJobOf l.heap l.sheet seat (slice_index_or l.jobs.items seat d);
}
