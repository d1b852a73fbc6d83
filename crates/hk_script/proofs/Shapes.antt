-- A shape is its numbers of fields.
use Rattle.std.proofs.Common.{◌≡◌, ℕ, ◌+◌, ◌<◌, ◌≤◌, true, Option, Some, None, Ok, refl, sym, ap, ◌∙◌, arith}
use Rattle.std.specs.Prelude.{IsNone, IfSome, ◌↔◌, nat_le}
use Rattle.std.proofs.lemmas.Bool.Decides.{nat_tests}
use native.Mathlib.Decide.{dec_le, dec_lt}
use native.Mathlib.Bridge.{le_prop}
use Rattle.hk_words.specs.declared.shape.Shape.{Shape}
use Rattle.hk_words.specs.Shape.{IsShape}
use Rattle.std.specs.Option.{ok_or}
use Rattle.hk_script.specs.declared.error.Fault.TheVariants as fault
use Rattle.hk_script.specs.Shapes.{shape_by, any_shape, shape_of}
use Rattle.hk_script.proofs.Arguments.{some_is, ok_or_is, chosen}

same_by : (refs nums : ℕ) (d : Dec (0 < refs + nums)) (e : Dec (refs + nums ≤ 254)) (some : 0 < refs + nums) (few : refs + nums ≤ 254) → shape_by refs nums d e ≡ Some (record { refs = refs; nums = nums; some = some; few = few })
same_by refs nums (yes s) (yes f) some few =
    ap (λ (p : 0 < refs + nums). Some (record { refs = refs; nums = nums; some = p; few = f })) (le_prop s some)
    ∙ ap (λ (q : refs + nums ≤ 254). Some (record { refs = refs; nums = nums; some = some; few = q })) (le_prop f few)
same_by refs nums (yes s) (no f) some few = absurd (f few)
same_by refs nums (no s) e some few = absurd (s some)

none_by : (refs nums : ℕ) (d : Dec (0 < refs + nums)) (e : Dec (refs + nums ≤ 254)) → ¬ (IsShape refs nums) → shape_by refs nums d e ≡ None
none_by refs nums (yes s) (yes f) h = absurd (h (s, f))
none_by refs nums (yes s) (no f) h = refl
none_by refs nums (no s) e h = refl

-- a shape is the one of its numbers
pub any_shape_own : (s : Shape) → any_shape s.refs s.nums ≡ Some s
unfolding any_shape
any_shape_own s = same_by s.refs s.nums (dec_lt 0 (s.refs + s.nums)) (dec_le (s.refs + s.nums) 254) s.some s.few

pub any_shape_none : (refs nums : ℕ) → ¬ (IsShape refs nums) → any_shape refs nums ≡ None
unfolding any_shape
any_shape_none refs nums h = none_by refs nums (dec_lt 0 (refs + nums)) (dec_le (refs + nums) 254) h

pub any_shape_is : (refs nums : ℕ) (r : Option Shape) → (IsNone r ↔ ¬ (IsShape refs nums)) → IfSome r (λ s. s.refs ≡ refs) → IfSome r (λ s. s.nums ≡ nums) → r ≡ any_shape refs nums
any_shape_is refs nums None h a b = sym (any_shape_none refs nums (h.0 refl))
any_shape_is refs nums (Some s) h a b = sym (any_shape_own s) ∙ ap (λ (n : ℕ). any_shape n s.nums) a ∙ ap (λ (n : ℕ). any_shape refs n) b

numbers_by : (refs nums : ℕ) (s : Shape) (d : Dec (0 < refs + nums)) (e : Dec (refs + nums ≤ 254)) → shape_by refs nums d e ≡ Some s → (s.refs ≡ refs) × (s.nums ≡ nums)
numbers_by refs nums s (yes some) (yes few) h = let made : Shape = record { refs = refs; nums = nums; some = some; few = few } in let e : made ≡ s = some_is made s h in (ap (λ (t : Shape). t.refs) (sym e), ap (λ (t : Shape). t.nums) (sym e))
numbers_by refs nums s (yes some) (no many) h = absurd cc
numbers_by refs nums s (no none) e h = absurd cc

-- the shape of so many fields has so many, and no more than it may have
pub shape_numbers : (fields refs nums : ℕ) (s : Shape) → ok_or (shape_of fields refs nums) fault.Shape ≡ Ok s → (s.refs ≡ refs) × (s.nums ≡ nums) × (refs + nums ≤ fields)
unfolding shape_of any_shape
shape_numbers fields refs nums s h =
    let p = chosen (nat_le (refs + nums) fields) (any_shape refs nums) s (ok_or_is (shape_of fields refs nums) fault.Shape s h) in
    let n = numbers_by refs nums s (dec_lt 0 (refs + nums)) (dec_le (refs + nums) 254) p.1 in
    (n.0, n.1, grind (arith, nat_tests, p.0))

-- a shape of no more fields than it may have is the one of its numbers
pub shape_of_own : (fields : ℕ) (s : Shape) → s.refs + s.nums ≤ fields → shape_of fields s.refs s.nums ≡ Some s
unfolding shape_of
shape_of_own fields s le =
    let t : nat_le (s.refs + s.nums) fields ≡ true = grind (arith, nat_tests) in
    rw t (any_shape_own s)
