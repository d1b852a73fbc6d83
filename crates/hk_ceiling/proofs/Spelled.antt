-- Few decimal digits spell a small number.
use Rattle.std.proofs.Common.{◌≡◌, ℕ, ◌^◌, ◌<◌, ◌≤◌, true, List, length, take, arith}
use Rattle.std.specs.List.{list_all}
use Rattle.std.specs.Char.{is_ascii_digit}
use Rattle.std.specs.Str.Parse.{digits_value}
use Rattle.std.proofs.lemmas.Int.Digits.{digits_value-lt}
use Rattle.std.proofs.lemmas.List.{length-take}
use Rattle.std.proofs.Math.Nat.{pow-le-pow_right}
use Rattle.hk_script.proofs.Digits.{all_digits}

pub small_so_far : (word : List ℕ) (i : ℕ) → i < length word → length word ≤ 8 → list_all is_ascii_digit (take i word) ≡ true → digits_value 10 (take i word) < 10 ^ 7
small_so_far word i lt few e =
    let below = digits_value-lt 10 (take i word) (all_digits (take i word) e) in
    let grows : 10 ^ length (take i word) ≤ 10 ^ 7 = (let within : length (take i word) ≤ 7 = omega (arith, length-take i word) in pow-le-pow_right {n = 10} (omega arith) within) in
    omega (arith, below, grows)
