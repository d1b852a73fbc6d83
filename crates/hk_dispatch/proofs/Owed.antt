-- Statements on the way to the promises of room: of what is owed where a high New takes words, and of the calls in flight.
use Rattle.std.specs.Prelude.{◌≡◌, ◌⊎◌, ℕ, ◌+◌, ◌*◌, ◌≤◌, true, false}
use Rattle.hk_words.specs.declared.shape.Shape.{Shape}
use Rattle.hk_words.specs.Shape.{size}
use Rattle.hk_core.specs.State.{flight_of}
use Rattle.hk_dispatch.specs.Tasks.{is_high}
use Rattle.hk_dispatch.specs.Moment.{core_of}
use Rattle.hk_dispatch.specs.Laws.{OfMoments, OfTicks, NewAt}

-- where a high New gets a tick, at its first place or at its third, what it takes may still be added to what is owed
abbrev pub OwedForNews : Type 0
OwedForNews = OfTicks (λ g choice sheet work attempt busy debt t m.
    (seat spent : ℕ) (shape : Shape) → is_high sheet seat ≡ true → (spent ≡ 0) ⊎ (spent ≡ 2) → NewAt choice sheet m t seat spent shape
    → m.debt + sheet.heap.rate * size shape ≤ debt)

-- no call in flight has found too few words
abbrev pub NoneFull : Type 0
NoneFull = OfMoments (λ g choice sheet work attempt busy debt t m. (seat : ℕ) → (flight_of (core_of m).flights seat).full ≡ false)
