-- Orders of tasks. A task is named by its place in the list of the timings.
use Rattle.std.specs.Prelude.{ℕ, ◌<◌, ◌≤◌, List, [], ◌∷◌, ◌++◌, length, map, take, slice_index, IsPermutation}
use Rattle.std.specs.List.{range_with_len}
use Rattle.hk_rta.specs.declared.Timing.{Timing}
use Rattle.hk_rta.specs.Demand.{timing_at, deadline_at}
use Rattle.hk_rta.specs.Response.{Response}

-- the timings of these tasks, in their order
abbrev pub in_order : List Timing → List ℕ → List Timing
in_order timings tasks = map (timing_at timings) tasks

-- an order of so many tasks: each of them stands in it once
abbrev pub IsOrder : (count : ℕ) → List ℕ → Type 0
IsOrder count order = IsPermutation (range_with_len 0 count) order

-- where these tasks go before it, a task has a response time that is at most its deadline
pub record IsInTime (timings : List Timing) (before : List ℕ) (task : ℕ) : Type 0 where
  pub response : ℕ
  pub is_response : Response (in_order timings (before ++ task ∷ [])) (length before) response
  pub in_time : response ≤ deadline_at timings task

-- an order in which each task has a response time that is at most its deadline; those before it in the order go first
pub record KeepsDeadlines (timings : List Timing) (order : List ℕ) : Type 0 where
  pub is_order : IsOrder (length timings) order
  pub each : (place : ℕ) → place < length order → IsInTime timings (take place order) (slice_index order place)
