-- What a reader of one argument takes is spelled so, and what is spelled so is taken.
use Rattle.std.proofs.Common.{◌≡◌, ℕ, ◌^◌, ◌<◌, ◌≤◌, Bool, true, false, cond, List, [], ◌∷◌, length, get_or, Option, Some, None, Result, Ok, Err, refl, sym, ap, ◌∙◌, subst, arith, inl, inr}
use Rattle.std.specs.Prelude.{◌&&◌, not, nat_le, nat_lt, ◌==◌}
use Rattle.std.specs.List.{list_all}
use Rattle.std.specs.Option.{ok_or}
use Rattle.std.specs.Char.{is_ascii_digit}
use Rattle.std.specs.Str.Parse.{AllDigits, digits_value}
use Rattle.std.proofs.lemmas.Bool.Decides.{nat_tests}
use Rattle.std.specs.Fmt.{decimal}
use Rattle.std.proofs.lemmas.Bool.{cases_lt}
use Rattle.std.proofs.lemmas.Fmt.{decimal-digits_value, decimal_is_IsNumeral, decimal_digit, first_decimal, length-decimal-le}
use Rattle.std.proofs.lemmas.Str.Parse.{numerals_by_value, tells_digits}
use Rattle.hk_script.specs.declared.limits.Limits.{Limits}
use Rattle.hk_script.specs.declared.error.Fault.{Fault}
use Rattle.hk_script.specs.declared.error.Fault.TheVariants as fault
use Rattle.hk_script.specs.Limits.{AreLimits}
use Rattle.hk_script.specs.Lex.{is_number, number_of, below, has_leading_zero, index_of}
use Rattle.hk_script.specs.Reading.{◌>>=◌, in_range, number_in, variable_of, register_of, target_of, field_of}
use Rattle.hk_script.specs.Spelling.{Numeral, SpellsPiece, variable, register, IsVariable, IsRegister, IsTarget, IsField}
use Rattle.hk_script.proofs.Digits.{and_parts, all_digits}
use Rattle.hk_script.proofs.Wider.{within_widest}

abbrev pub done : {A : Type 0} → A → Result A Fault
done x = Ok x

pub ok_is : {A : Type 0} (x y : A) → done x ≡ done y → x ≡ y
ok_is x y e = cc

pub some_is : {A : Type 0} (x y : A) → Some x ≡ Some y → x ≡ y
some_is x y e = cc

-- a test that passed
pub passed : {A : Type 0} (b : Bool) (x y : A) → cond b (Some x) None ≡ Some y → (b ≡ true) × (x ≡ y)
passed true x y e = (refl, cc)
passed false x y e = absurd cc

pub chosen : {A : Type 0} (b : Bool) (o : Option A) (x : A) → cond b o None ≡ Some x → (b ≡ true) × (o ≡ Some x)
chosen true o x e = (refl, e)
chosen false o x e = absurd cc

pub passed_or : {A : Type 0} (b : Bool) (d : Fault) (x y : A) → cond b (done x) (Err d) ≡ Ok y → (b ≡ true) × (x ≡ y)
passed_or true d x y e = (refl, cc)
passed_or false d x y e = absurd cc

pub failed_or : {A : Type 0} (b : Bool) (d : Fault) (x y : A) → cond b (Err d) (done x) ≡ Ok y → (b ≡ false) × (x ≡ y)
failed_or true d x y e = absurd cc
failed_or false d x y e = (refl, cc)

pub ok_or_is : {A : Type 0} (o : Option A) (d : Fault) (x : A) → ok_or o d ≡ Ok x → o ≡ Some x
ok_or_is None d x e = absurd cc
ok_or_is (Some y) d x e = ap (λ (z : _). Some z) (ok_is y x e)

-- ---- numbers

all_digits_back : (word : List ℕ) → AllDigits 10 word → list_all is_ascii_digit word ≡ true
all_digits_back [] h = refl
all_digits_back (c ∷ word) h =
    let d : is_ascii_digit c ≡ true = let small = h.0 in grind (arith, nat_tests) in
    rw (d, all_digits_back word h.1) refl

pub number_takes : (word : List ℕ) (n : ℕ) → number_of word ≡ Some n → SpellsPiece word (Numeral n) × (n < 2 ^ 64)
number_takes word n e =
    let p = passed (is_number word) (digits_value 10 word) n e in
    let a = and_parts (nat_lt 0 (length word) && nat_le (length word) 20 && list_all is_ascii_digit word) (nat_lt (digits_value 10 word) (2 ^ 64)) p.0 in
    let b = and_parts (nat_lt 0 (length word) && nat_le (length word) 20) (list_all is_ascii_digit word) a.0 in
    let c = and_parts (nat_lt 0 (length word)) (nat_le (length word) 20) b.0 in
    let some : 0 < length word = grind (arith, nat_tests, c.0) in
    let few : length word ≤ 20 = grind (arith, nat_tests, c.1) in
    let small : digits_value 10 word < 2 ^ 64 = grind (arith, nat_tests, a.1) in
    (((some, all_digits word b.1), few, p.1), omega (arith, small, p.1))

pub number_again : (word : List ℕ) (n : ℕ) → SpellsPiece word (Numeral n) → n < 2 ^ 64 → number_of word ≡ Some n
number_again word n h small =
    let value = h.2 in
    let some : nat_lt 0 (length word) ≡ true = let q = h.0.0 in grind (arith, nat_tests) in
    let few : nat_le (length word) 20 ≡ true = let q = h.1 in grind (arith, nat_tests) in
    let fits : nat_lt n (2 ^ 64) ≡ true = grind (arith, nat_tests) in
    rw (some, few, all_digits_back word h.0.1, value, fits) refl

-- a number below a limit
below_is : (limit : ℕ) (o : Option ℕ) (n : ℕ) → below limit o ≡ Some n → (o ≡ Some n) × (n < limit)
below_is limit None n e = absurd cc
below_is limit (Some m) n e =
    let p = passed (nat_lt m limit) m n e in
    let small : m < limit = grind (arith, nat_tests, p.0) in
    (ap (λ (z : ℕ). Some z) p.1, omega (arith, small, p.1))

below_again : (limit n : ℕ) → n < limit → below limit (Some n) ≡ Some n
below_again limit n lt = let t : nat_lt n limit ≡ true = grind (arith, nat_tests) in rw t refl

-- ---- names

-- digits without leading zeros are those that their number is written with
written : (digits : List ℕ) (n : ℕ) → has_leading_zero digits ≡ false → SpellsPiece digits (Numeral n) → n < 2 ^ 64 → digits ≡ decimal n
written digits n lead h small =
    let value = h.2 in
    sym (decimal-digits_value (numerals_by_value _ tells_digits) digits h.0.1 h.0.0 (one_zero digits lead) (omega (arith, value, small))) ∙ ap decimal value where
      one_zero : (digits : List ℕ) → has_leading_zero digits ≡ false → get_or digits 0 0 ≡ 48 → length digits ≡ 1
      one_zero [] lead e = absurd (omega arith)
      one_zero (d ∷ []) lead e = refl
      one_zero (d ∷ x ∷ digits) lead e = let here : d ≡ 48 = e in let not_zero : (d == 48) ≡ false = lead in absurd (grind (arith, nat_tests))

no_leading_zero : (n : ℕ) → n < 2 ^ 64 → has_leading_zero (decimal n) ≡ false
no_leading_zero n small =
    elim (cases_lt 0 n) [
      | inl some ↦ by_first (decimal n) (first_decimal n some small)
      | inr none ↦ (let zero_is : n ≡ 0 = omega arith in rw (ap decimal zero_is ∙ decimal_digit 0 (omega arith)) refl)
    ] where
      by_first : (digits : List ℕ) → 48 < get_or digits 0 0 → has_leading_zero digits ≡ false
      by_first [] lt = refl
      by_first (d ∷ []) lt = refl
      by_first (d ∷ x ∷ digits) lt = let above : 48 < d = lt in grind (arith, nat_tests)

pub named : (letter limit : ℕ) (word : List ℕ) (v : ℕ) → index_of letter limit word ≡ Some v → (word ≡ letter ∷ decimal v) × (v < limit)
named letter limit [] v e = absurd cc
named letter limit (first ∷ digits) v e =
    let p = chosen (first == letter && not (has_leading_zero digits)) (below limit (number_of digits)) v e in
    let q = and_parts (first == letter) (not (has_leading_zero digits)) p.0 in
    let first_is : first ≡ letter = grind (arith, nat_tests, q.0) in
    let n = below_is limit (number_of digits) v p.1 in
    let t = number_takes digits v n.0 in
    (rw (first_is, written digits v (not_false (has_leading_zero digits) q.1) t.0 t.1) refl, n.1) where
      not_false : (b : Bool) → not b ≡ true → b ≡ false
      not_false true e = absurd cc
      not_false false e = refl

pub named_again : (letter limit v : ℕ) → v < limit → limit ≤ 2 ^ 64 → index_of letter limit (letter ∷ decimal v) ≡ Some v
named_again letter limit v lt wide =
    let small : v < 2 ^ 64 = omega arith in
    let d = decimal_is_IsNumeral v small in
    let few : length (decimal v) ≤ 20 = length-decimal-le 20 v (omega arith) (omega arith) small in
    let a : (letter == letter) ≡ true = grind (arith, nat_tests) in
    rw (a, no_leading_zero v small, number_again (decimal v) v (d.0, few, d.1) small) (below_again limit v lt)

pub variable_takes : (word : List ℕ) (v : ℕ) → variable_of word ≡ Ok v → SpellsPiece word (variable v) × IsVariable v
unfolding variable_of
variable_takes word v e = named 118 8 word v (ok_or_is (index_of 118 8 word) fault.Variable v e)

pub variable_again : (word : List ℕ) (v : ℕ) → SpellsPiece word (variable v) → IsVariable v → variable_of word ≡ Ok v
unfolding variable_of
variable_again word v e lt = rw (e, named_again 118 8 v lt (omega arith)) refl

pub register_takes : (limits : Limits) (word : List ℕ) (v : ℕ) → register_of limits word ≡ Ok v → SpellsPiece word (register v) × IsRegister limits v
unfolding register_of
register_takes limits word v e = named 114 limits.registers word v (ok_or_is (index_of 114 limits.registers word) fault.Register v e)

pub register_again : (limits : Limits) → AreLimits limits → (word : List ℕ) (v : ℕ) → SpellsPiece word (register v) → IsRegister limits v → register_of limits word ≡ Ok v
unfolding register_of
register_again limits are word v e lt =
    let few = (within_widest limits are).1 in
    rw (e, named_again 114 limits.registers v lt (omega arith)) refl

-- the value of a step that did not fail
pub bind_ok : {A B : Type 0} (r : Result A Fault) (f : A → Result B Fault) (y : B) → (r >>= f) ≡ Ok y → (x : A) × (r ≡ Ok x) × (f x ≡ Ok y)
bind_ok (Ok x) f y e = (x, refl, e)
bind_ok (Err d) f y e = absurd cc

pub target_takes : (limits : Limits) (word : List ℕ) (v : ℕ) → target_of limits word ≡ Ok v → SpellsPiece word (register v) × IsTarget limits v
unfolding target_of
target_takes limits word v e =
    let p = bind_ok (register_of limits word) (λ reg. cond (reg == 0) (Err fault.Register) (Ok reg)) v e in
    let q = failed_or (p.0 == 0) fault.Register p.0 v p.2 in
    let r = register_takes limits word v (p.1 ∙ ap (λ (z : ℕ). done z) q.1) in
    let some : 0 < v = let h : (v == 0) ≡ false = subst (λ (z : ℕ). (z == 0) ≡ false) q.1 q.0 in grind (arith, nat_tests, h) in
    (r.0, (some, r.1))

pub target_again : (limits : Limits) → AreLimits limits → (word : List ℕ) (v : ℕ) → SpellsPiece word (register v) → IsTarget limits v → target_of limits word ≡ Ok v
unfolding target_of
target_again limits are word v e t =
    let some : (v == 0) ≡ false = let h = t.0 in grind (arith, nat_tests) in
    rw (register_again limits are word v e t.1, some) refl

pub field_takes : (limits : Limits) (word : List ℕ) (n : ℕ) → field_of limits word ≡ Ok n → SpellsPiece word (Numeral n) × IsField limits n
unfolding field_of
field_takes limits word n e =
    let p = below_is limits.fields (number_of word) n (ok_or_is (below limits.fields (number_of word)) fault.Number n e) in
    ((number_takes word n p.0).0, p.1)

pub field_again : (limits : Limits) → AreLimits limits → (word : List ℕ) (n : ℕ) → SpellsPiece word (Numeral n) → IsField limits n → field_of limits word ≡ Ok n
unfolding field_of
field_again limits are word n h lt =
    let few = (within_widest limits are).0 in
    rw (number_again word n h (omega arith), below_again limits.fields n lt) refl

-- ---- numbers of a range

pub number_in_takes : (low high : ℕ) (word : List ℕ) (n : ℕ) → number_in low high word ≡ Ok n → SpellsPiece word (Numeral n) × (low ≤ n) × (n ≤ high)
unfolding number_in
number_in_takes low high word n e = by_number (number_of word) refl e where
  by_number : (o : Option ℕ) → number_of word ≡ o → in_range low high o ≡ Ok n → SpellsPiece word (Numeral n) × (low ≤ n) × (n ≤ high)
  by_number None is f = absurd cc
  by_number (Some m) is f =
      let p = passed_or (nat_le low m && nat_le m high) fault.Number m n f in
      let q = and_parts (nat_le low m) (nat_le m high) p.0 in
      let l : low ≤ m = grind (arith, nat_tests, q.0) in
      let h : m ≤ high = grind (arith, nat_tests, q.1) in
      ((number_takes word n (is ∙ ap (λ (z : ℕ). Some z) p.1)).0, omega (arith, l, p.1), omega (arith, h, p.1))

pub number_in_again : (low high : ℕ) (word : List ℕ) (n : ℕ) → SpellsPiece word (Numeral n) → low ≤ n → n ≤ high → high < 2 ^ 64 → number_in low high word ≡ Ok n
unfolding number_in
number_in_again low high word n h l m wide =
    let a : nat_le low n ≡ true = grind (arith, nat_tests) in
    let b : nat_le n high ≡ true = grind (arith, nat_tests) in
    rw (number_again word n h (omega arith), a, b) refl
