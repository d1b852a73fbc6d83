-- What no length of a task is below.
use Rattle.std.proofs.Common.{◌≡◌, ℕ, zero, suc, ◌+◌, ◌-◌, ◌<◌, ◌≤◌, List, All, length, subst, take, arith, inl, inr}
use Rattle.std.proofs.Math.Nat.{mul-le-mul_right}
use Rattle.std.proofs.lemmas.Bool.{cases_lt}
use Rattle.std.proofs.lemmas.Grind.{div_ceil_times}
use Rattle.std.proofs.lemmas.List.Elements.{All-get_or}
use Rattle.std.proofs.lemmas.List.Sums.{sum_by_more}
use Rattle.hk_rta.specs.declared.Timing.{Timing}
use Rattle.hk_rta.specs.Demand.{starts_in, demand_of, demand, IsTimed, no_timing, timing_at, cost_at, jitter_at}
use Rattle.hk_rta.specs.Response.{Solves, Response}
use Rattle.hk_rta.proofs.Steps.{demand_grows}

-- a window with room for the task and for what the tasks before it bring is no shorter than what no length is below
below_room : (n : ℕ) (tasks : List Timing) (i window least : ℕ) → window ≤ n → 0 < cost_at tasks i → ((r : ℕ) → Solves tasks i r → least ≤ r) → cost_at tasks i + demand (take i tasks) window ≤ window → least ≤ window
below_room zero tasks i window least short some below room = absurd (omega arith)
below_room (suc n) tasks i window least short some below room =
    let needed : ℕ = cost_at tasks i + demand (take i tasks) window in
    elim (cases_lt needed window) [
      | inl less ↦
          omega (arith, below_room n tasks i needed least (omega arith) some below (omega (arith, demand_grows (take i tasks) needed window room)))
      | inr full ↦ below window (record { positive = omega arith; balanced = omega arith })
    ]

-- and so the next length after it is no shorter
pub next_no_shorter : (tasks : List Timing) (i least : ℕ) → 0 < cost_at tasks i → ((r : ℕ) → Solves tasks i r → least ≤ r) → least ≤ cost_at tasks i + demand (take i tasks) least
next_no_shorter tasks i least some below =
    let needed : ℕ = cost_at tasks i + demand (take i tasks) least in
    elim (cases_lt needed least) [
      | inl less ↦
          absurd (omega (arith, below_room needed tasks i needed least (omega arith) some below (omega (arith, demand_grows (take i tasks) needed least (omega arith)))))
      | inr fine ↦ fine
    ]

-- a window of at least a tick holds a start of each task
cost-le : (window : ℕ) (task : Timing) → 0 < window → IsTimed task → task.cost ≤ demand_of window task
cost-le window task some timed =
    let starts : ℕ = starts_in (window + task.jitter) task.period in
    elim (cases_lt 0 starts) [
      | inl more ↦ omega (arith, mul-le-mul_right task.cost more)
      | inr none ↦
          absurd (omega (arith, div_ceil_times (window + task.jitter) task.period timed.period.0, mul-le-mul_right task.period none))
    ]

-- a task's length is at least that of the task before it and its own cost
pub below_next : (tasks : List Timing) (i before : ℕ) → 0 < i → i < length tasks → All IsTimed tasks → Response tasks (i - 1) before → (r : ℕ) → Solves tasks i r → before - jitter_at tasks (i - 1) + cost_at tasks i ≤ r
below_next tasks i before some within timed response r solves =
    let j : ℕ = i - 1 in
    let rest : ℕ = r - cost_at tasks i in
    let task : IsTimed (timing_at tasks j) = All-get_or IsTimed tasks j no_timing (omega arith) timed in
    let all : demand (take i tasks) r ≡ demand (take j tasks) r + demand_of r (timing_at tasks j) =
    subst (λ (k : ℕ). demand (take k tasks) r ≡ demand (take j tasks) r + demand_of r (timing_at tasks j)) (omega arith) (sum_by_more (demand_of r) tasks j no_timing (omega arith)) in
    let room : cost_at tasks j + demand (take j tasks) rest ≤ rest =
    omega (arith, all, solves.balanced, cost-le r (timing_at tasks j) solves.positive task, demand_grows (take j tasks) rest r (omega arith)) in
    omega (arith, solves.balanced, below_room rest tasks j rest (before - jitter_at tasks j) (omega arith) task.cost.0 response.least.least room)
