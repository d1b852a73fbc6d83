-- Which order is found, and why there is none.
use Rattle.std.specs.Prelude.{ℕ, ◌+◌, ◌<◌, ◌≤◌, ◌==◌, not, List, length, take, slice_index, All, Contains}
use Rattle.std.specs.List.{filter}
use Rattle.std.specs.List.Sorted.{IsStrictlyIncreasing}
use Rattle.hk_rta.specs.declared.Timing.{Timing}
use Rattle.hk_assign.specs.Orders.{IsInTime}

-- all of these tasks but one
abbrev pub others : List ℕ → (task : ℕ) → List ℕ
others tasks task = filter (λ other. not (other == task)) tasks

-- a task can be the last of these: it is in time where all the others go before it
abbrev pub CanBeLast : List Timing → (tasks : List ℕ) → (task : ℕ) → Type 0
CanBeLast timings tasks task = IsInTime timings (others tasks task) task

-- No task of those up to a place that can be the last of them has a greater index than the one that stands there. So an
-- order in which each task is in time is the one that Audsley's rule gives, from the last place to the first, where the
-- greatest index is taken.
abbrev pub TakesGreatest : List Timing → (order : List ℕ) → Type 0
TakesGreatest timings order =
    (place other : ℕ) → place < length order → Contains (take (place + 1) order) other → CanBeLast timings (take (place + 1) order) other → other ≤ slice_index order place

-- a set of tasks, in rising order, of which none can be the last
pub record IsBlocked (timings : List Timing) (tasks : List ℕ) : Type 0 where
  pub rising : IsStrictlyIncreasing tasks
  pub within : All (λ task. task < length timings) tasks
  pub none : (task : ℕ) → Contains tasks task → ¬ (CanBeLast timings tasks task)

-- the largest such set, where it isn't empty: each other is a part of it
pub record IsStuck (timings : List Timing) (tasks : List ℕ) : Type 0 where
  pub some : 0 < length tasks
  pub blocked : IsBlocked timings tasks
  pub largest : (other : List ℕ) → IsBlocked timings other → All (Contains tasks) other
