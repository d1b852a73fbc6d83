-- What one tick of a busy interval does to abstract counters: what is left to do, and what is owed to the collector, where the jobs
-- that become ready at a tick bring work and debt.
use Rattle.std.proofs.Common.{ℕ, suc, ◌+◌, ◌*◌, ◌≤◌}
use Rattle.hk_plan.proofs.Sums.{total}

module _ (tasks : ℕ) (bring owe : ℕ → ℕ) (base low : ℕ) (fresh : ℕ → ℕ → ℕ) (left_at owed_at : ℕ → ℕ) where
  -- the tick that begins an interval, and a further one
  pub record Begins (t : ℕ) : Type 0 where
    pub left : left_at (suc t) + 1 ≤ base + total (λ i. fresh t i * bring i) tasks
    pub owed : owed_at (suc t) ≤ low + total (λ i. fresh t i * owe i) tasks

  pub record GoesOn (t : ℕ) : Type 0 where
    pub left : left_at (suc t) + 1 ≤ left_at t + total (λ i. fresh t i * bring i) tasks
    pub owed : owed_at (suc t) ≤ owed_at t + total (λ i. fresh t i * owe i) tasks
