-- The plain schedule of rows whose lengths are known, by fixed priorities with preemption: each tick goes to the
-- row that goes first among those that have arrived and aren't ended. Of two rows the one of the lesser task goes
-- first, and of two rows of one task the one at the lesser place. Ticks count from 0; tick t lies between the
-- moments t and t + 1, and t ticks have been given at the moment t. A row stands for a job, and arrives when its job
-- becomes ready.
use Rattle.std.specs.Prelude.{◌≡◌, ℕ, zero, suc, ◌+◌, ◌-◌, ◌<◌, ◌≤◌, ◌⊎◌, ◌↔◌, Bool, ◌&&◌, ◌||◌, nat_eq, nat_lt, nat_le, if◌then◌else◌, List, Option, Some, None, length, slice_index_or}
use Rattle.hk_plan.specs.declared.Row.{Row}

-- a row without ticks, which stands for a place where there is none
abbrev pub no_row : Row
no_row = record { task = 0; arrival = 0; ticks = 0 }

-- the row at a place
abbrev pub row_of : List Row → ℕ → Row
row_of rows k = slice_index_or rows k no_row

-- the task of the row at a place
abbrev pub task_of : List Row → ℕ → ℕ
task_of rows k = (row_of rows k).task

-- the moment at which the row at a place arrives
abbrev pub arrival_of : List Row → ℕ → ℕ
arrival_of rows k = (row_of rows k).arrival

-- the ticks that the row at a place takes
abbrev pub ticks_of : List Row → ℕ → ℕ
ticks_of rows k = (row_of rows k).ticks

-- the row at a place has arrived by a moment, and has had fewer ticks than it takes
abbrev pub is_ready : List Row → (ℕ → ℕ) → ℕ → ℕ → Bool
is_ready rows had t k = nat_le (arrival_of rows k) t && nat_lt (had k) (ticks_of rows k)

-- the row at the first place goes before the one at the second: it is of a lesser task, or of the same task and at a lesser place
abbrev pub goes_before : List Row → ℕ → ℕ → Bool
goes_before rows j k = nat_lt (task_of rows j) (task_of rows k) || (nat_eq (task_of rows j) (task_of rows k) && nat_lt j k)

-- the one of two places that goes first, where there may be none
abbrev pub first_of : List Row → Option ℕ → ℕ → ℕ
first_of rows None k = k
first_of rows (Some j) k = if goes_before rows k j then k else j

-- the place that goes first among the ready ones below n
unfoldable pub chosen_below : List Row → (ℕ → ℕ) → ℕ → ℕ → Option ℕ
chosen_below rows had t zero = None
chosen_below rows had t (suc n) =
    let before = chosen_below rows had t n in
    if is_ready rows had t n then Some (first_of rows before n) else before

-- the place that goes first among all ready ones, where each row has had so many ticks
abbrev pub chosen : List Row → (ℕ → ℕ) → ℕ → Option ℕ
chosen rows had t = chosen_below rows had t (length rows)

-- a tick that goes to a place is one tick more for that place, and none for another
abbrev pub tick_for : Option ℕ → ℕ → ℕ
tick_for None k = 0
tick_for (Some j) k = if nat_eq j k then 1 else 0

-- how many of the first t ticks the row at a place has had
unfoldable pub had_after : List Row → ℕ → ℕ → ℕ
had_after rows zero k = 0
had_after rows (suc t) k = had_after rows t k + tick_for (chosen rows (had_after rows t) t) k

-- the place whose row gets tick t, or None where no row is ready
abbrev pub row_at : List Row → ℕ → Option ℕ
row_at rows t = chosen rows (had_after rows t) t

-- the row at a place has had fewer ticks at a moment than it takes
abbrev pub IsUnended : List Row → ℕ → ℕ → Type 0
IsUnended rows t k = had_after rows t k < ticks_of rows k

-- the row at a place is ready at a moment: it has arrived and isn't ended
pub record IsReady (rows : List Row) (t k : ℕ) : Type 0 where
  pub within : k < length rows
  pub arrived : arrival_of rows k ≤ t
  pub unended : IsUnended rows t k

-- no row is ready at a moment
abbrev pub IsIdle : List Row → ℕ → Type 0
IsIdle rows t = (k : ℕ) → ¬ (IsReady rows t k)

-- the row at the first place is of a lesser task than the other, or of the same task and at no greater place
abbrev pub ComesFirst : List Row → ℕ → ℕ → Type 0
ComesFirst rows k j = (task_of rows k < task_of rows j) ⊎ ((task_of rows k ≡ task_of rows j) × (k ≤ j))

-- of the rows that are ready at a moment the one at this place goes first
pub record GoesFirst (rows : List Row) (t k : ℕ) : Type 0 where
  pub ready : IsReady rows t k
  pub first : (j : ℕ) → IsReady rows t j → ComesFirst rows k j

-- a tick goes to a row exactly where that one is ready and goes first, and to nobody exactly where no row is ready
pub record FollowsOrder (rows : List Row) (t : ℕ) : Type 0 where
  pub to_row : (k : ℕ) → (row_at rows t ≡ Some k) ↔ GoesFirst rows t k
  pub to_nobody : (row_at rows t ≡ None) ↔ IsIdle rows t

-- so it is with each tick of all rows
abbrev pub EachTickFollowsOrder : Type 0
EachTickFollowsOrder = (rows : List Row) (t : ℕ) → FollowsOrder rows t

-- the row at a place ends at the moment e: the tick before it goes to the row, and is its last
pub record EndsAt (rows : List Row) (k e : ℕ) : Type 0 where
  pub later : 0 < e
  pub last : row_at rows (e - 1) ≡ Some k
  pub whole : had_after rows e k ≡ ticks_of rows k

-- a row takes at least one tick
abbrev pub TakesTicks : Row → Type 0
TakesTicks row = 1 ≤ row.ticks

-- rows, and how many ticks were given to them so far
pub record Progress : Type 0 where
  pub rows : List Row
  pub given : ℕ
