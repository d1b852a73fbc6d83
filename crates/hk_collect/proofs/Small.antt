-- Small facts that several files cite.
use Rattle.std.proofs.Common.{◌≡◌, ℕ, ◌<◌, ◌≤◌, Bool, true, false, refl, arith, Option, Some, None}
use Rattle.std.proofs.lemmas.Bool.{and_left}
use Rattle.std.proofs.lemmas.Bool.Decides.{nat_tests}
use Rattle.std.specs.Prelude.{nat_eq, nat_le, not, ◌&&◌, is_some, if◌then◌else◌}
use Rattle.hk_words.specs.declared.call.Call.{Call}
use Rattle.hk_words.specs.declared.call.Call.TheVariants as call
use Rattle.hk_core.specs.declared.flight.Flight.{Flight}
use Rattle.hk_core.specs.Flights as f
use Rattle.hk_core.specs.View.{Names, refs_at}

pub is_at : (x y : ℕ) → Some x ≡ Some y → x ≡ y
is_at x y e = cc

pub a_birth : (o : Option ℕ) → is_some o ≡ true → (b : ℕ) × (o ≡ Some b)
a_birth None some = absurd (cc)
a_birth (Some b) some = (b, refl)

pub refs_borne : (names : Names) (n b : ℕ) → names.bearer n ≡ Some b → refs_at names n ≡ names.refs b
unfolding refs_at
refs_borne names n b e = rw e refl

-- a call that is not idle is at a place
pub in_flight : (place : ℕ) → nat_eq place 0 ≡ false → 1 ≤ place
in_flight place e = grind (arith, nat_tests)

-- what holds of both parts of an `if` holds of it
pub by_test : {A : Type 0} (P : A → Type 0) (test : Bool) (a b : A) → (test ≡ true → P a) → (test ≡ false → P b) → P (if test then a else b)
by_test P true a b yes' no' = yes' refl
by_test P false a b yes' no' = no' refl

-- a call that isn't at its fourth place yet hasn't raised W0
pub not_making_yet : (x : Flight) → x.place < 4 → f.is_making x ≡ false
unfolding f.is_making f.is_new_at
not_making_yet x early = and_left (f.is_new_at 4 6 x.call x.place) (not x.full) (each x.call)
  where
    before : (p : ℕ) → p < 4 → (nat_le 4 p && nat_le p 6) ≡ false
    before p few = grind (arith, nat_tests)

    each : (k : Call) → f.is_new_at 4 6 k x.place ≡ false
    each (call.Get reg field) = refl
    each (call.Put reg field value) = refl
    each (call.Load dest reg field) = refl
    each (call.Store reg field from) = refl
    each (call.Move dest from) = refl
    each (call.Clear dest) = refl
    each (call.New dest shape) = before x.place early
    each (call.Same a b) = refl
    each (call.IsNull reg) = refl
