-- How a plan keeps its schedule.
use Rattle.std.specs.Prelude.{◌≡◌, ℕ, ◌<◌, ◌≤◌, List, Option, None, MatchOption, length, slice_index, slice_index_or}
use Rattle.hk_plan.specs.declared.Row.{Row}
use Rattle.hk_plan.specs.Alone.{ticks_of, had_after, EndsAt}

-- for each row there are the ticks that it has had, and once it is ended the moment of its end
pub record KeepsTrack (rows : List Row) (had : List ℕ) (finish : List (Option ℕ)) (given : ℕ) : Type 0 where
  pub had_length : length had ≡ length rows
  pub finish_length : length finish ≡ length rows
  pub had_is : (k : ℕ) → k < length rows → slice_index had k ≡ had_after rows given k
  pub finish_is : (k : ℕ) → k < length rows → MatchOption (slice_index_or finish k None) (had_after rows given k < ticks_of rows k) (λ e. EndsAt rows k e × (e ≤ given))
