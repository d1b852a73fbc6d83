-- The digits of a number, two and four at a time.
use Rattle.std.proofs.Common.{◌≡◌, ℕ, ◌+◌, ◌/◌, ◌%◌, ◌^◌, ◌<◌, ◌≤◌, List, [], ◌∷◌, ◌++◌, length, ap, ◌∙◌, arith, append_assoc, length-append}
use Rattle.std.specs.Fmt.{decimal}
use Rattle.std.proofs.lemmas.Fmt.{decimal_digit, decimal_step}

abbrev pub pair : ℕ → List ℕ
pair n = (48 + n / 10) ∷ (48 + n % 10) ∷ []

-- one digit
pub length_one : (n : ℕ) → n < 10 → length (decimal n) ≡ 1
length_one n below = ap length (decimal_digit n below)

-- two digits
pub decimal_two : (n : ℕ) → 10 ≤ n → n < 100 → decimal n ≡ pair n
decimal_two n above below = rw (decimal_step n above (omega arith), decimal_digit (n / 10) (omega arith))

pub length_two : (n : ℕ) → 10 ≤ n → n < 100 → length (decimal n) ≡ 2
length_two n above below = ap length (decimal_two n above below)

-- the last two digits behind those before them
pub decimal_pair : (n : ℕ) → 100 ≤ n → n < 2 ^ 64 → decimal n ≡ decimal (n / 100) ++ pair (n % 100)
decimal_pair n above fits =
    let a : n / 10 / 10 ≡ n / 100 = omega arith in
    let b : n / 10 % 10 ≡ n % 100 / 10 = omega arith in
    let c : n % 10 ≡ n % 100 % 10 = omega arith in
    rw (decimal_step n (omega arith) fits, decimal_step (n / 10) (omega arith) (omega arith), append_assoc, a, b, ← c)

pub length_pair : (n : ℕ) → 100 ≤ n → n < 2 ^ 64 → length (decimal n) ≡ length (decimal (n / 100)) + 2
length_pair n above fits = ap length (decimal_pair n above fits) ∙ length-append (decimal (n / 100)) (pair (n % 100))

-- three digits, four, and four behind those before them
pub length_three : (n : ℕ) → 100 ≤ n → n < 1000 → length (decimal n) ≡ 3
length_three n above below = omega (arith, length_pair n above (omega arith), length_one (n / 100) (omega arith))

pub length_four : (n : ℕ) → 1000 ≤ n → n < 10000 → length (decimal n) ≡ 4
length_four n above below = omega (arith, length_pair n (omega arith) (omega arith), length_two (n / 100) (omega arith) (omega arith))

pub length_more : (n : ℕ) → 10000 ≤ n → n < 2 ^ 64 → length (decimal n) ≡ length (decimal (n / 10000)) + 4
length_more n above fits =
    let same : n / 100 / 100 ≡ n / 10000 = omega arith in
    let one = length_pair n (omega arith) fits in
    let other = length_pair (n / 100) (omega arith) (omega arith) in
    omega (arith, one, other, ap (λ m. length (decimal m)) same)
