-- The choice among ready jobs by their levels.
use Rattle.std.specs.Prelude.{ℕ, zero, suc, Bool, true, false, ◌&&◌, ◌||◌, not, nat_eq, nat_lt, if◌then◌else◌, List, Option, Some, None, length}
use Rattle.hk_plan.specs.declared.Ready.{Ready}
use Rattle.hk_plan.specs.AloneBy.{ready_at}
use Rattle.hk_ceiling.specs.declared.ceilings.TaskSection.{TaskSection}
use Rattle.hk_ceiling.specs.Ceilings.{inside_at, level}

abbrev pub is_there : Option ℕ → Bool
is_there None = false
is_there (Some q) = true

-- the level of a ready job, and whether it is inside a section
abbrev pub level_of_row : List TaskSection → Ready → ℕ
level_of_row sections row = level sections row.task row.done

abbrev pub is_in_section : List TaskSection → Ready → Bool
is_in_section sections row = is_there (inside_at sections row.task row.done)

-- a job goes before another: its level is less, or it is the same and the job alone is inside a section
abbrev pub goes_before_at : (level : ℕ) (inside : Bool) (other_level : ℕ) (other_inside : Bool) → Bool
goes_before_at level inside other_level other_inside = nat_lt level other_level || (nat_eq level other_level && (inside && not other_inside))

abbrev pub goes_before : List TaskSection → Ready → Ready → Bool
goes_before sections x y = goes_before_at (level_of_row sections x) (is_in_section sections x) (level_of_row sections y) (is_in_section sections y)

-- the first place below n, or 0, that no other place below n goes before
unfoldable pub best_below : List TaskSection → List Ready → ℕ → ℕ
best_below sections rows zero = 0
best_below sections rows (suc n) =
    let best = best_below sections rows n in
    if goes_before sections (ready_at rows n) (ready_at rows best) then n else best

-- the choice by ceilings
abbrev pub by_ceilings : List TaskSection → List Ready → ℕ
by_ceilings sections rows = best_below sections rows (length rows)
