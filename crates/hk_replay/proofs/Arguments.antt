-- What a reader of one argument takes is spelled so, and what is spelled so is taken.
use Rattle.std.proofs.Common.{◌≡◌, ℕ, ◌^◌, ◌<◌, ◌≤◌, Bool, true, false, cond, List, [], ◌∷◌, length, Option, Some, None, refl, ap, ◌∙◌, subst, arith}
use Rattle.std.specs.Prelude.{◌&&◌, nat_le, nat_lt, ◌==◌}
use Rattle.std.specs.List.{list_all}
use Rattle.std.specs.Char.{is_ascii_digit}
use Rattle.std.specs.Str.Parse.{AllDigits, digits_value}
use Rattle.std.proofs.lemmas.Bool.Decides.{nat_tests}
use Rattle.hk_words.specs.declared.geometry.TheConstants.{REGISTERS}
use Rattle.hk_io.specs.Number.{is_number, number_of}
use Rattle.hk_replay.specs.Reading.{◌>>=◌, if_below, below, if_writable, target_of}
use Rattle.hk_replay.specs.Spelling.{Numeral, SpellsPiece, IsTarget}
use Rattle.hk_io.proofs.Digits.{and_parts, all_digits}

pub some_is : {A : Type 0} (x y : A) → Some x ≡ Some y → x ≡ y
some_is x y e = cc

-- a test that passed
pub passed : {A : Type 0} (b : Bool) (x y : A) → cond b (Some x) None ≡ Some y → (b ≡ true) × (x ≡ y)
passed true x y e = (refl, cc)
passed false x y e = absurd cc

failed : {A : Type 0} (b : Bool) (x y : A) → cond b None (Some x) ≡ Some y → (b ≡ false) × (x ≡ y)
failed true x y e = absurd cc
failed false x y e = (refl, cc)

-- the value of a step that did not fail
pub bind_some : {A B : Type 0} (r : Option A) (f : A → Option B) (y : B) → (r >>= f) ≡ Some y → (x : A) × (r ≡ Some x) × (f x ≡ Some y)
bind_some (Some x) f y e = (x, refl, e)
bind_some None f y e = absurd cc

-- ---- numbers

all_digits_back : (word : List ℕ) → AllDigits 10 word → list_all is_ascii_digit word ≡ true
all_digits_back [] h = refl
all_digits_back (c ∷ word) h =
    let d : is_ascii_digit c ≡ true = let small = h.0 in grind (arith, nat_tests) in
    rw (d, all_digits_back word h.1) refl

pub number_takes : (word : List ℕ) (n : ℕ) → number_of word ≡ Some n → SpellsPiece word (Numeral n) × (n < 2 ^ 64)
unfolding number_of
number_takes word n e =
    let p = passed (is_number word) (digits_value 10 word) n e in
    let a = and_parts (nat_lt 0 (length word) && nat_le (length word) 20 && list_all is_ascii_digit word) (nat_lt (digits_value 10 word) (2 ^ 64)) p.0 in
    let b = and_parts (nat_lt 0 (length word) && nat_le (length word) 20) (list_all is_ascii_digit word) a.0 in
    let c = and_parts (nat_lt 0 (length word)) (nat_le (length word) 20) b.0 in
    let some : 0 < length word = grind (arith, nat_tests, c.0) in
    let few : length word ≤ 20 = grind (arith, nat_tests, c.1) in
    let small : digits_value 10 word < 2 ^ 64 = grind (arith, nat_tests, a.1) in
    (((some, all_digits word b.1), few, p.1), omega (arith, small, p.1))

pub number_again : (word : List ℕ) (n : ℕ) → SpellsPiece word (Numeral n) → n < 2 ^ 64 → number_of word ≡ Some n
unfolding number_of
number_again word n h small =
    let value = h.2 in
    let some : nat_lt 0 (length word) ≡ true = let q = h.0.0 in grind (arith, nat_tests) in
    let few : nat_le (length word) 20 ≡ true = let q = h.1 in grind (arith, nat_tests) in
    let fits : nat_lt n (2 ^ 64) ≡ true = grind (arith, nat_tests) in
    rw (some, few, all_digits_back word h.0.1, value, fits) refl

pub below_takes : (limit : ℕ) (word : List ℕ) (n : ℕ) → below limit word ≡ Some n → SpellsPiece word (Numeral n) × (n < limit)
unfolding below
below_takes limit word n e =
    let p = bind_some (number_of word) (if_below limit) n e in
    let q = passed (nat_lt p.0 limit) p.0 n p.2 in
    let lt : p.0 < limit = grind (arith, nat_tests, q.0) in
    ((number_takes word n (p.1 ∙ ap (λ (z : ℕ). Some z) q.1)).0, omega (arith, lt, q.1))

pub below_again : (limit : ℕ) (word : List ℕ) (n : ℕ) → SpellsPiece word (Numeral n) → n < limit → limit ≤ 2 ^ 64 → below limit word ≡ Some n
unfolding below
below_again limit word n h lt wide =
    let b : nat_lt n limit ≡ true = grind (arith, nat_tests) in
    rw (number_again word n h (omega arith), b) refl

-- ---- registers

pub target_takes : (word : List ℕ) (v : ℕ) → target_of word ≡ Some v → SpellsPiece word (Numeral v) × IsTarget v
unfolding target_of
target_takes word v e =
    let p = bind_some (below REGISTERS word) if_writable v e in
    let q = failed (p.0 == 0) p.0 v p.2 in
    let r = below_takes REGISTERS word v (p.1 ∙ ap (λ (z : ℕ). Some z) q.1) in
    let some : 0 < v = let h : (v == 0) ≡ false = subst (λ (z : ℕ). (z == 0) ≡ false) q.1 q.0 in grind (arith, nat_tests, h) in
    (r.0, (some, r.1))

pub target_again : (word : List ℕ) (v : ℕ) → SpellsPiece word (Numeral v) → IsTarget v → target_of word ≡ Some v
unfolding target_of
target_again word v e t =
    let some : (v == 0) ≡ false = let h = t.0 in grind (arith, nat_tests) in
    rw (below_again REGISTERS word v e t.1 (omega arith), some) refl
