-- The choice of the least deadline is one of the rows that it is told.
use Rattle.std.specs.Prelude.{ℕ, zero, suc, ◌<◌, Bool, true, false, if◌then◌else◌, List, length}
use Rattle.std.proofs.Math.Nat.{lt-suc_self, lt_trans, not-suc-le-zero}
use Rattle.hk_plan.specs.declared.Ready.{Ready}
use Rattle.hk_dispatch.specs.Rows.{IsChoice}
use Rattle.hk_edf.specs.Earliest.{earliest_below, earliest_row}

-- of a place and one that isn't after it either is below the next place
below_next : (b : Bool) (n best : ℕ) → best < suc n → (if b then n else best) < suc n
below_next true n best lt = lt-suc_self n
below_next false n best lt = lt

earliest_within : (rows : List Ready) (n : ℕ) → earliest_below rows (suc n) < suc n
unfolding earliest_below
earliest_within rows zero = below_next _ 0 0 (lt-suc_self 0)
earliest_within rows (suc n) = below_next _ (suc n) _ (lt_trans (earliest_within rows n) (lt-suc_self (suc n)))

earliest_in : (rows : List Ready) (n : ℕ) → 0 < n → earliest_below rows n < n
earliest_in rows zero none = absurd (not-suc-le-zero none)
earliest_in rows (suc n) some = earliest_within rows n

pub earliest_chooses : IsChoice earliest_row
earliest_chooses rows some rising = earliest_in rows (length rows) some
