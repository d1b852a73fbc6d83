-- The choice of the least deadline.
use Rattle.std.specs.Prelude.{ℕ, zero, suc, nat_lt, if◌then◌else◌, List, length}
use Rattle.hk_plan.specs.declared.Ready.{Ready}
use Rattle.hk_plan.specs.AloneBy.{ready_at}

-- the deadline of the row at a place
abbrev pub deadline_in : List Ready → ℕ → ℕ
deadline_in rows k = (ready_at rows k).deadline

-- of the places below n the first one with the least deadline
unfoldable pub earliest_below : List Ready → ℕ → ℕ
earliest_below rows zero = 0
earliest_below rows (suc n) =
    let before = earliest_below rows n in
    if nat_lt (deadline_in rows n) (deadline_in rows before) then n else before

-- of all places
abbrev pub earliest_row : List Ready → ℕ
earliest_row rows = earliest_below rows (length rows)
