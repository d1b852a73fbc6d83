-- Small lemmas that the proofs of many steps use: premises that never hold together, and what is known of each number.
use Rattle.std.proofs.Common.{◌≡◌, ◌≢◌, ◌⊎◌, ℕ, ◌+◌, ◌^◌, ◌<◌, Bool, true, false, inl, inr, refl, sym, ◌∙◌, arith, Option, Some, None}
use Rattle.std.proofs.lemmas.Bool.{both_ways}
use Rattle.hk_words.specs.declared.geometry.Geometry.{Geometry}
use Rattle.hk_words.specs.Geometry.{numbers}
use Rattle.hk_core.specs.View.{Names, refs_at, nums_at, size_at}

-- PREMISES THAT NEVER HOLD TOGETHER

pub never : {A : Type 0} → false ≡ true → A
never e = absurd (cc)

pub never_false : {A : Type 0} → true ≡ false → A
never_false e = absurd (cc)

pub never_some : {A X : Type 0} {x : X} → None ≡ Some x → A
never_some e = absurd (cc)

pub refuted : {A : Type 0} (b : Bool) → b ≡ false → b ≡ true → A
refuted b off on = absurd (both_ways b off on)

pub never_both : {A X : Type 0} (o : Option X) (x : X) → o ≡ None → o ≡ Some x → A
never_both o x none some = absurd (cc)

-- WHAT IS LEFT

-- an option has one value
pub one_value : {X : Type 0} (o : Option X) (x y : X) → o ≡ Some x → o ≡ Some y → x ≡ y
one_value o x y a b = let same : Some x ≡ Some y = sym a ∙ b in cc

-- a word that isn't null, and a birth that is there, have what null or such a one has
pub some_good : (P : Type 0) (word : ℕ) → word ≢ 0 → (word ≡ 0) ⊎ P → P
some_good P word some (inl null) = absurd (some null)
some_good P word some (inr good) = good

pub some_kept : (P : ℕ → Type 0) (plain : Option ℕ) (birth : ℕ) → (plain ≡ None) ⊎ ((b : ℕ) × (plain ≡ Some b) × P b) → plain ≡ Some birth → P birth
some_kept P plain birth (inl none) e = never_both plain birth none e
some_kept P plain birth (inr found) e = rw (one_value plain birth found.0 e found.1) found.2

-- NUMBERS

-- the words of the object that a number bears
pub size_borne : (names : Names) (n b : ℕ) → names.bearer n ≡ Some b → size_at names n ≡ 1 + names.refs b + names.nums b
unfolding size_at refs_at nums_at
size_borne names n b e = rw e refl

-- each object has words
pub size_some : (names : Names) (n : ℕ) → 0 < size_at names n
unfolding size_at
size_some names n = omega arith

-- a reference has room for each number
pub few_numbers : (g : Geometry) (n : ℕ) → n < numbers g → n + 1 < 2 ^ 20
few_numbers g n h = omega arith
