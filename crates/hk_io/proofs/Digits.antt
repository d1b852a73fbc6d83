-- Decimal digits: the test of a word, and what std's words say of it.
use Rattle.std.proofs.Common.{◌≡◌, ℕ, ◌+◌, ◌-◌, ◌*◌, ◌^◌, ◌<◌, ◌≤◌, Bool, true, false, List, [], ◌∷◌, length, get_or, take, refl, ap, ◌∙◌, arith}
use Rattle.std.specs.Prelude.{◌&&◌}
use Rattle.std.specs.List.{list_all}
use Rattle.std.specs.Char.{is_ascii_digit, digit_value}
use Rattle.std.specs.Str.Parse.{AllDigits, digits_value}
use Rattle.std.proofs.lemmas.Int.Digits.{digits_value-lt, digits_value_more}
use Rattle.std.proofs.lemmas.Bool.Decides.{nat_tests}
use Rattle.std.proofs.lemmas.List.{length-take}
use Rattle.std.proofs.lemmas.List.Folds.{list_all_more}
use Rattle.std.proofs.Math.Nat.{pow-le-pow_right}

pub digit_is : (c : ℕ) → is_ascii_digit c ≡ true → (digit_value c ≡ c - 48) × (48 ≤ c) × (c < 58)
digit_is c e = grind (arith, nat_tests)

pub and_parts : (a b : Bool) → (a && b) ≡ true → (a ≡ true) × (b ≡ true)
and_parts true b e = (refl, e)
and_parts false b e = absurd cc

pub all_digits : (word : List ℕ) → list_all is_ascii_digit word ≡ true → AllDigits 10 word
all_digits [] e = tt
all_digits (c ∷ word) e =
    let both = and_parts (is_ascii_digit c) (list_all is_ascii_digit word) e in
    let d = digit_is c both.0 in
    (omega (arith, d.0, d.1, d.2), all_digits word both.1)

pub small_so_far : (word : List ℕ) (i : ℕ) → i < length word → length word ≤ 20 → list_all is_ascii_digit (take i word) ≡ true → digits_value 10 (take i word) < 10 ^ 19
small_so_far word i lt few e =
    let below = digits_value-lt 10 (take i word) (all_digits (take i word) e) in
    let grows : 10 ^ length (take i word) ≤ 10 ^ 19 = (let within : length (take i word) ≤ 19 = omega (arith, length-take i word) in pow-le-pow_right {n = 10} (omega arith) within) in
    omega (arith, below, grows)

-- one more digit
pub record OneMore (word : List ℕ) (i : ℕ) : Type 0 where
  pub digits : list_all is_ascii_digit (take (i + 1) word) ≡ true
  pub value : digits_value 10 (take (i + 1) word) ≡ digits_value 10 (take i word) * 10 + (get_or word i 0 - 48)

pub one_more : (word : List ℕ) (i : ℕ) → i < length word → list_all is_ascii_digit (take i word) ≡ true → is_ascii_digit (get_or word i 0) ≡ true → OneMore word i
one_more word i lt before here = record {
  digits = rw (list_all_more is_ascii_digit word i 0 lt, before) here;
  value = digits_value_more 10 word i lt ∙ ap (λ (d : ℕ). digits_value 10 (take i word) * 10 + d) (digit_is (get_or word i 0) here).0;
}
