-- The schedule of rows with critical sections, over the ticks that each row has had.
use Rattle.std.proofs.Common.{◌≡◌, ℕ, suc, ◌+◌, ◌<◌, ◌≤◌, ◌⊎◌, List, Option, Some, None, length}
use Rattle.hk_rta.specs.declared.Timing.{Timing}
use Rattle.hk_rta.specs.Demand.{timing_at, period_at, deadline_at}
use Rattle.hk_plan.specs.declared.Row.{Row}
use Rattle.hk_plan.specs.Alone.{task_of, arrival_of, ticks_of, tick_for}
use Rattle.hk_plan.specs.Bounds.{KeepsTiming}
use Rattle.hk_ceiling.specs.declared.ceilings.TaskSection.{TaskSection}
use Rattle.hk_ceiling.specs.Ceilings.{section_at, ceiling, level, Inside}
use Rattle.hk_ceiling.specs.Bounds.{AreStill, Response}

-- the row at a place has arrived and isn't ended, where each row has had so many ticks
pub record IsReady (rows : List Row) (had : ℕ → ℕ) (t k : ℕ) : Type 0 where
  pub within : k < length rows
  pub arrived : arrival_of rows k ≤ t
  pub unended : had k < ticks_of rows k

-- of the ready rows of its task it is the one at the least place
pub record IsEarliest (rows : List Row) (had : ℕ → ℕ) (t k : ℕ) : Type 0 where
  pub ready : IsReady rows had t k
  pub first : (j : ℕ) → IsReady rows had t j → task_of rows j ≡ task_of rows k → k ≤ j

-- the level of the row at a place
abbrev pub level_at : List Row → List TaskSection → (ℕ → ℕ) → ℕ → ℕ
level_at rows sections had k = level sections (task_of rows k) (had k)

-- the row at k goes before the one at j, or may: its level is less, or it is the same and k is inside a section if j is
pub record Yields (rows : List Row) (sections : List TaskSection) (had : ℕ → ℕ) (k j : ℕ) : Type 0 where
  pub level : level_at rows sections had k ≤ level_at rows sections had j
  pub tie : level_at rows sections had k ≡ level_at rows sections had j → (q : ℕ) → Inside sections (task_of rows j) (had j) q → (p : ℕ) × Inside sections (task_of rows k) (had k) p

-- a schedule by ceilings, up to a moment: who gets each tick, and how many ticks each row has had
pub record ByCeilings (rows : List Row) (sections : List TaskSection) (stop : ℕ) (got : ℕ → Option ℕ) (had : ℕ → ℕ → ℕ) : Type 0 where
  pub none_first : (k : ℕ) → had 0 k ≡ 0
  pub more : (t k : ℕ) → t < stop → had (suc t) k ≡ had t k + tick_for (got t) k
  pub idle : (t k : ℕ) → t < stop → got t ≡ None → ¬ (IsReady rows (had t) t k)
  pub its_first : (t k : ℕ) → t < stop → got t ≡ Some k → IsEarliest rows (had t) t k
  pub yields : (t k j : ℕ) → t < stop → got t ≡ Some k → IsEarliest rows (had t) t j → Yields rows sections (had t) k j

-- the rows of each task arrive in the order of their places
pub record AreOrdered (rows : List Row) : Type 0 where
  pub order : (j k : ℕ) → j < k → k < length rows → task_of rows j ≡ task_of rows k → arrival_of rows j ≤ arrival_of rows k

-- at tick t the row at k holds the resource of the section at q: it is between the section's first tick and its last,
-- or gets the first
pub record Holds (rows : List Row) (sections : List TaskSection) (got : ℕ → Option ℕ) (had : ℕ → ℕ → ℕ) (t k q : ℕ) : Type 0 where
  pub ready : IsReady rows (had t) t k
  pub listed : q < length sections
  pub its : (section_at sections q).task ≡ task_of rows k
  pub held : ((section_at sections q).start < had t k) ⊎ (((section_at sections q).start ≡ had t k) × (got t ≡ Some k))
  pub more : had t k < (section_at sections q).start + (section_at sections q).len

-- no two rows hold one resource at one tick
abbrev pub IsExclusive : List Row → List TaskSection → ℕ → (ℕ → Option ℕ) → (ℕ → ℕ → ℕ) → Type 0
IsExclusive rows sections stop got had =
    (t j k p q : ℕ) → t < stop → Holds rows sections got had t j p → Holds rows sections got had t k q → (section_at sections p).res ≡ (section_at sections q).res → j ≡ k

-- at tick t the row at k is ready, and the tick goes to the row at b, of a later task
pub record HoldsUp (rows : List Row) (got : ℕ → Option ℕ) (had : ℕ → ℕ → ℕ) (k t b : ℕ) : Type 0 where
  pub ready : IsReady rows (had t) t k
  pub gets : got t ≡ Some b
  pub later : task_of rows k < task_of rows b

-- the row at b is inside the section at q as tick t begins, and its resource's ceiling is at most task i
pub record Blocks (rows : List Row) (sections : List TaskSection) (had : ℕ → ℕ → ℕ) (i t b q : ℕ) : Type 0 where
  pub inside : Inside sections (task_of rows b) (had t b) q
  pub later : i < task_of rows b
  pub high : ceiling sections q ≤ i

-- whatever holds a row up does so inside a section that it was inside of as the row arrived
abbrev pub IsHeldByOne : List Row → List TaskSection → ℕ → (ℕ → Option ℕ) → (ℕ → ℕ → ℕ) → Type 0
IsHeldByOne rows sections stop got had =
    (k t u b c : ℕ) → t < stop → u < stop → HoldsUp rows got had k t b → HoldsUp rows got had k u c
    → (b ≡ c) × ((q : ℕ) × ((Blocks rows sections had (task_of rows k) t b q) × (Blocks rows sections had (task_of rows k) u c q)))

-- each row of task i has had all its ticks so long after its arrival
abbrev pub ResponseBounds : List Row → List TaskSection → ℕ → (ℕ → Option ℕ) → (ℕ → ℕ → ℕ) → Type 0
ResponseBounds rows sections stop got had =
    (timings : List Timing) (i r : ℕ)
    → i < length timings
    → ((j : ℕ) → j ≤ i → KeepsTiming rows (arrival_of rows) j (timing_at timings j))
    → AreStill timings
    → deadline_at timings i ≤ period_at timings i
    → Response timings sections i r
    → r ≤ deadline_at timings i
    → (k : ℕ) → k < length rows → task_of rows k ≡ i → arrival_of rows k + r ≤ stop
    → had (arrival_of rows k + r) k ≡ ticks_of rows k
