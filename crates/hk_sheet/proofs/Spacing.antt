-- Laws of the faults of arrivals.
use Rattle.std.proofs.Common.{◌≡◌, ℕ, ◌<◌, List, [], ◌∷◌, length, refl, arith}
use Rattle.hk_sheet.specs.Faults.{faults_of_ticks}

-- fewer than two ticks are always apart
pub too_few : (task : List ℕ) (gap place : ℕ) (ticks : List ℕ) → length ticks < 2 → faults_of_ticks task gap place ticks ≡ []
too_few task gap place [] few = refl
too_few task gap place (tick ∷ []) few = refl
too_few task gap place (earlier ∷ later ∷ rest) few = absurd (omega arith)
