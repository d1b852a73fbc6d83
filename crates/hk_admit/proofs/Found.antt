-- The first element that passes a test, and the conditions and refusals that go by it.
use Rattle.std.proofs.Common.{◌≡◌, refl, ℕ, ◌<◌, zero, suc, Bool, true, false, cond, ◌||◌, Some, List, [], ◌∷◌, length, get_or, take, arith}
use Rattle.std.specs.List.{find, list_any}

-- the first of two failed tests has failed, and so has the second
pub failed : (a b : Bool) → (a || b) ≡ false → (a ≡ false) × (b ≡ false)
failed true b h = absurd (cc)
failed false b h = (refl, h)

skipped : {X : Type 0} (p : X → Bool) (x : X) (xs : List X) (b : Bool) → b ≡ false → cond b (Some x) (find p xs) ≡ find p xs
skipped p x xs true h = absurd (cc)
skipped p x xs false h = refl

here : {X : Type 0} (p : X → Bool) (x : X) (xs : List X) (b : Bool) → b ≡ true → cond b (Some x) (find p xs) ≡ Some x
here p x xs true h = refl
here p x xs false h = absurd (cc)

-- where none before it passes
pub find_at : {X : Type 0} (p : X → Bool) (xs : List X) (i : ℕ) (d : X) → i < length xs → list_any p (take i xs) ≡ false → p (get_or xs i d) ≡ true → find p xs ≡ Some (get_or xs i d)
find_at p [] i d within none passes = absurd (omega arith)
find_at p (x ∷ xs) zero d within none passes = here p x xs (p x) passes
find_at p (x ∷ xs) (suc i) d within none passes =
    let split = failed (p x) (list_any p (take i xs)) none in
    rw (skipped p x xs (p x) split.0) (find_at p xs i d (omega arith) split.1 passes)
