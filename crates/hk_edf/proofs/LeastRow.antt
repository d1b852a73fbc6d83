-- The row with the least deadline.
use Rattle.std.proofs.Common.{◌≡◌, ℕ, zero, suc, ◌+◌, ◌-◌, ◌<◌, ◌≤◌, nat_lt, List, length, add-one, ◌∙◌, refl, subst, arith, inl, inr}
use Rattle.std.specs.Prelude.{if◌then◌else◌}
use Rattle.std.proofs.lemmas.Bool.{cases_lt, cases_eq, lt-ltb, le-ltb}
use Rattle.hk_plan.specs.declared.Ready.{Ready}
use Rattle.hk_edf.specs.Earliest.{deadline_in, earliest_below, earliest_row}
use Rattle.hk_edf.specs.Sessions.{EarliestIsChoice}

-- a place of those below n, and none of these has a lesser deadline
pub record IsEarliest (rows : List Ready) (n k : ℕ) : Type 0 where
  pub inside : k < n
  pub least : (l : ℕ) → l < n → deadline_in rows k ≤ deadline_in rows l

one_more : (rows : List Ready) (n k : ℕ) → IsEarliest rows (suc n) k → IsEarliest rows (suc (suc n)) (if nat_lt (deadline_in rows (suc n)) (deadline_in rows k) then suc n else k)
one_more rows n k before = elim (cases_lt (deadline_in rows (suc n)) (deadline_in rows k)) [
  | inl less ↦ rw (lt-ltb _ _ less) (record {
    inside = omega arith;
    least = λ l below. elim (cases_eq (suc n) l) [
      | inl same ↦ subst (λ m. deadline_in rows (suc n) ≤ deadline_in rows m) same (omega arith)
      | inr other ↦ omega (arith, less, before.least l (omega (arith, below, other)))
    ];
  })
  | inr more ↦ rw (le-ltb _ _ more) (record {
    inside = omega (arith, before.inside);
    least = λ l below. elim (cases_eq (suc n) l) [
      | inl same ↦ subst (λ m. deadline_in rows k ≤ deadline_in rows m) same more
      | inr other ↦ before.least l (omega (arith, below, other))
    ];
  })
]

earliest_is : (rows : List Ready) (n : ℕ) → IsEarliest rows (suc n) (earliest_below rows (suc n))
unfolding earliest_below
earliest_is rows zero = rw (le-ltb (deadline_in rows 0) (deadline_in rows 0) (omega arith)) (record {
  inside = omega arith;
  least = λ l below. let none : 0 ≡ l = omega (arith, below) in subst (λ m. deadline_in rows 0 ≤ deadline_in rows m) none (omega arith);
})
earliest_is rows (suc n) = one_more rows n (earliest_below rows (suc n)) (earliest_is rows n)

pub earliest_of : (rows : List Ready) → 0 < length rows → IsEarliest rows (length rows) (earliest_row rows)
earliest_of rows some =
    let e : suc (length rows - 1) ≡ length rows = omega (arith, some) in
    subst (λ n. IsEarliest rows n (earliest_below rows n)) e (earliest_is rows (length rows - 1))

pub earliest_is_choice : EarliestIsChoice
earliest_is_choice rows some rising = (earliest_of rows some).inside

-- ---- place by place

pub earliest_none : (rows : List Ready) → earliest_below rows 0 ≡ 0
unfolding earliest_below
earliest_none rows = refl

earliest_more : (rows : List Ready) (n : ℕ) → earliest_below rows (n + 1) ≡ (if nat_lt (deadline_in rows n) (deadline_in rows (earliest_below rows n)) then n else earliest_below rows n)
unfolding earliest_below
earliest_more rows n = rw add-one refl

pub earliest_taken : (rows : List Ready) (n best : ℕ) → earliest_below rows n ≡ best → deadline_in rows n < deadline_in rows best → earliest_below rows (n + 1) ≡ n
earliest_taken rows n best e less = earliest_more rows n ∙ rw (e, lt-ltb _ _ less) refl

pub earliest_kept : (rows : List Ready) (n best : ℕ) → earliest_below rows n ≡ best → deadline_in rows best ≤ deadline_in rows n → earliest_below rows (n + 1) ≡ best
earliest_kept rows n best e more = earliest_more rows n ∙ rw (e, le-ltb _ _ more) refl
