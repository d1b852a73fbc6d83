-- The choice by ceilings is one of the rows that it is told.
use Rattle.std.specs.Prelude.{ℕ, zero, suc, ◌<◌, Bool, true, false, if◌then◌else◌, List, length}
use Rattle.std.proofs.Math.Nat.{lt-suc_self, lt_trans, not-suc-le-zero}
use Rattle.hk_plan.specs.declared.Ready.{Ready}
use Rattle.hk_dispatch.specs.Rows.{IsChoice}
use Rattle.hk_ceiling.specs.declared.ceilings.TaskSection.{TaskSection}
use Rattle.hk_ceiling.specs.Choice.{best_below, by_ceilings}

-- of a place and one that isn't after it either is below the next place
below_next : (b : Bool) (n best : ℕ) → best < suc n → (if b then n else best) < suc n
below_next true n best lt = lt-suc_self n
below_next false n best lt = lt

best_within : (sections : List TaskSection) (rows : List Ready) (n : ℕ) → best_below sections rows (suc n) < suc n
unfolding best_below
best_within sections rows zero = below_next _ 0 0 (lt-suc_self 0)
best_within sections rows (suc n) = below_next _ (suc n) _ (lt_trans (best_within sections rows n) (lt-suc_self (suc n)))

best_of : (sections : List TaskSection) (rows : List Ready) (n : ℕ) → 0 < n → best_below sections rows n < n
best_of sections rows zero none = absurd (not-suc-le-zero none)
best_of sections rows (suc n) some = best_within sections rows n

pub by_ceilings_chooses : (sections : List TaskSection) → IsChoice (by_ceilings sections)
by_ceilings_chooses sections rows some rising = best_of sections rows (length rows) some
