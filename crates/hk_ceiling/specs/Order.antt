-- When a list of sections is in order: each section begins at or after the end of its task's section before it in the list.
use Rattle.std.specs.Prelude.{◌≡◌, ℕ, zero, suc, ◌+◌, ◌<◌, ◌≤◌, Bool, true, false, ◌||◌, nat_eq, nat_lt, nat_le, if◌then◌else◌, List, Option, Some, None, MatchOption, length, ⊤}
use Rattle.hk_rta.specs.declared.Timing.{Timing}
use Rattle.hk_rta.specs.Demand.{cost_at}
use Rattle.hk_ceiling.specs.declared.ceilings.TaskSection.{TaskSection}
use Rattle.hk_ceiling.specs.Ceilings.{section_at}

-- the last section of a task at a place below n
unfoldable pub last_of : List TaskSection → (task : ℕ) → ℕ → Option ℕ
last_of sections task zero = None
last_of sections task (suc n) = if nat_eq (section_at sections n).task task then Some n else last_of sections task n

-- the section at a place doesn't begin before the end of its task's section before it
abbrev pub Follows : List TaskSection → ℕ → Type 0
Follows sections q = MatchOption (last_of sections (section_at sections q).task q) ⊤ (λ p. (section_at sections p).start + (section_at sections p).len ≤ (section_at sections q).start)

pub record AreInOrder (sections : List TaskSection) : Type 0 where
  pub follow : (q : ℕ) → q < length sections → Follows sections q

-- the section at a place begins before the end of its task's section before it
abbrev pub overlaps_with : List TaskSection → ℕ → Option ℕ → Bool
overlaps_with sections q None = false
overlaps_with sections q (Some p) = nat_lt (section_at sections q).start ((section_at sections p).start + (section_at sections p).len)

abbrev pub overlaps : List TaskSection → ℕ → Bool
overlaps sections q = overlaps_with sections q (last_of sections (section_at sections q).task q)

-- the section at a place is wrong: its task is no high task, its resource is above 63, it has no tick, it ends after its
-- task's cost, or it begins before the end of its task's section before it
abbrev pub is_wrong : List Timing → List TaskSection → ℕ → Bool
is_wrong timings sections q =
    let section = section_at sections q in
    nat_le (length timings) section.task || (nat_lt 63 section.res || (nat_eq section.len 0 || (nat_lt (cost_at timings section.task) (section.start + section.len) || overlaps sections q)))

-- the section at a place is the first wrong one
pub record IsFirstWrong (timings : List Timing) (sections : List TaskSection) (q : ℕ) : Type 0 where
  pub listed : q < length sections
  pub wrong : is_wrong timings sections q ≡ true
  pub earlier : (p : ℕ) → p < q → is_wrong timings sections p ≡ false

abbrev pub NoneWrong : List Timing → List TaskSection → ℕ → Type 0
NoneWrong timings sections n = (q : ℕ) → q < n → is_wrong timings sections q ≡ false
