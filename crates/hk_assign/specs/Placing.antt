-- Places that are filled from the last to the first.
use Rattle.std.specs.Prelude.{ℕ, ◌<◌, ◌≤◌, List, [], ◌∷◌, ◌++◌, length, slice_index, Contains}
use Rattle.std.specs.List.{remove}
use Rattle.hk_rta.specs.declared.Timing.{Timing}
use Rattle.hk_assign.specs.Orders.{IsInTime}
use Rattle.hk_assign.specs.Assignment.{CanBeLast}

-- the task stands behind these: it is in time, and none of them and itself that can be the last has a greater index
pub record IsPlaced (timings : List Timing) (before : List ℕ) (task : ℕ) : Type 0 where
  pub in_time : IsInTime timings before task
  pub greatest : (other : ℕ) → Contains (before ++ task ∷ []) other → CanBeLast timings (before ++ task ∷ []) other → other ≤ task

-- so do the tasks of the last places, each behind the free ones and those of the places before it
abbrev pub ArePlaced : List Timing → (free placed : List ℕ) → Type 0
ArePlaced timings free [] = Unit {0}
ArePlaced timings free (task ∷ rest) = IsPlaced timings free task × ArePlaced timings (free ++ task ∷ []) rest

-- the free task at a place is in time where the other free ones go before it
abbrev pub FitsAt : List Timing → (free : List ℕ) → (place : ℕ) → Type 0
FitsAt timings free place = IsInTime timings (remove free place) (slice_index free place)

-- the last place whose free task fits
pub record IsLastFit (timings : List Timing) (free : List ℕ) (place : ℕ) : Type 0 where
  pub within : place < length free
  pub fits : FitsAt timings free place
  pub later : (other : ℕ) → place < other → other < length free → ¬ (FitsAt timings free other)

-- no free task fits
abbrev pub NoneFits : List Timing → (free : List ℕ) → Type 0
NoneFits timings free = (place : ℕ) → place < length free → ¬ (FitsAt timings free place)
