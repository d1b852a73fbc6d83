-- What the choice by ceilings chooses.
use Rattle.std.proofs.Common.{◌≡◌, ℕ, zero, suc, ◌<◌, ◌≤◌, Bool, true, false, ◌&&◌, nat_eq, nat_lt, List, length, refl, sym, subst, arith, inl, inr, if◌then◌else◌}
use Rattle.std.specs.Prelude.{not}
use Rattle.std.proofs.lemmas.Bool.{cases_eq, cases_Bool, or_cases, or_parts, and_parts, ltb-true, ltb-false, eqb-true, eq-eqb}
use Rattle.hk_plan.specs.declared.Ready.{Ready}
use Rattle.hk_plan.specs.AloneBy.{ready_at}
use Rattle.hk_ceiling.specs.declared.ceilings.TaskSection.{TaskSection}
use Rattle.hk_ceiling.specs.Choice.{level_of_row, is_in_section, goes_before, best_below, by_ceilings}

-- a job may go before another
pub record MayPrecede (sections : List TaskSection) (x y : Ready) : Type 0 where
  pub level : level_of_row sections x ≤ level_of_row sections y
  pub tie : level_of_row sections x ≡ level_of_row sections y → is_in_section sections y ≡ true → is_in_section sections x ≡ true

itself : (sections : List TaskSection) (x : Ready) → MayPrecede sections x x
itself sections x = record { level = omega arith; tie = λ same inside. inside }

goes_on : (sections : List TaskSection) (x y z : Ready) → MayPrecede sections x y → MayPrecede sections y z → MayPrecede sections x z
goes_on sections x y z a b = record {
  level = omega (arith, a.level, b.level);
  tie = λ same inside. a.tie (omega (arith, same, a.level, b.level)) (b.tie (omega (arith, same, a.level, b.level)) inside);
}

if_before : (sections : List TaskSection) (x y : Ready) → goes_before sections x y ≡ true → MayPrecede sections x y
if_before sections x y e = elim (or_cases (nat_lt (level_of_row sections x) (level_of_row sections y)) (nat_eq (level_of_row sections x) (level_of_row sections y) && (is_in_section sections x && not (is_in_section sections y))) e) [
  | inl less ↦
      let l : level_of_row sections x < level_of_row sections y = ltb-true (level_of_row sections x) (level_of_row sections y) less in
      record { level = omega (arith, l); tie = λ same. absurd (omega (arith, l, same)) }
  | inr tie ↦
      let p = and_parts (nat_eq (level_of_row sections x) (level_of_row sections y)) (is_in_section sections x && not (is_in_section sections y)) tie in
      let same : level_of_row sections x ≡ level_of_row sections y = eqb-true (level_of_row sections x) (level_of_row sections y) p.0 in
      let q = and_parts (is_in_section sections x) (not (is_in_section sections y)) p.1 in
      record { level = omega (arith, same); tie = λ equal inside. q.0 }
]

if_not_before : (sections : List TaskSection) (x y : Ready) → goes_before sections x y ≡ false → MayPrecede sections y x
if_not_before sections x y e =
    let p = or_parts (nat_lt (level_of_row sections x) (level_of_row sections y)) (nat_eq (level_of_row sections x) (level_of_row sections y) && (is_in_section sections x && not (is_in_section sections y))) e in
    record {
      level = ltb-false (level_of_row sections x) (level_of_row sections y) p.0;
      tie = λ same inside.
          by_bool (is_in_section sections y) (is_in_section sections x) inside
          (other (nat_eq (level_of_row sections x) (level_of_row sections y)) (is_in_section sections x && not (is_in_section sections y)) (eq-eqb (level_of_row sections x) (level_of_row sections y) (sym same)) p.1);
    }
  where
    other : (a b : Bool) → a ≡ true → (a && b) ≡ false → b ≡ false
    other true b e f = f
    other false b e f = absurd (cc)

    by_bool : (y x : Bool) → x ≡ true → (x && not y) ≡ false → y ≡ true
    by_bool true x e f = refl
    by_bool false true e f = absurd (cc)
    by_bool false false e f = absurd (cc)

-- the best place is in the list, and its job may go before each other
pub record IsBest (sections : List TaskSection) (rows : List Ready) (n best : ℕ) : Type 0 where
  pub within : best < n
  pub precedes : (j : ℕ) → j < n → MayPrecede sections (ready_at rows best) (ready_at rows j)

best_below_law : (sections : List TaskSection) (rows : List Ready) (n : ℕ) → IsBest sections rows (suc n) (best_below sections rows (suc n))
unfolding best_below
best_below_law sections rows zero =
    let first : (b : Bool) → IsBest sections rows 1 (if b then 0 else 0) =
    (λ b. elim (cases_Bool b) [ inl e ↦ rw e zeroth | inr e ↦ rw e zeroth ]) in
    first (goes_before sections (ready_at rows 0) (ready_at rows 0))
  where
    zeroth : IsBest sections rows 1 0
    zeroth = record {
      within = omega arith;
      precedes = λ j lt.
          let same : 0 ≡ j = omega (arith, lt) in
          let P : ℕ → Type 0 = λ x. MayPrecede sections (ready_at rows 0) (ready_at rows x) in
          subst P same (itself sections (ready_at rows 0));
    }
best_below_law sections rows (suc n) = more (best_below sections rows (suc n)) (best_below_law sections rows n)
  where
    more : (best : ℕ) → IsBest sections rows (suc n) best
        → IsBest sections rows (suc (suc n)) (if goes_before sections (ready_at rows (suc n)) (ready_at rows best) then suc n else best)
    more best is = elim (cases_Bool (goes_before sections (ready_at rows (suc n)) (ready_at rows best))) [
      | inl goes ↦
          let before = if_before sections (ready_at rows (suc n)) (ready_at rows best) goes in
          rw goes (record {
            within = omega arith;
            precedes = λ j lt. elim (cases_eq (suc n) j) [
              | inl same ↦
                  let P : ℕ → Type 0 = λ x. MayPrecede sections (ready_at rows (suc n)) (ready_at rows x) in
                  subst P same (itself sections (ready_at rows (suc n)))
              | inr other ↦ goes_on sections (ready_at rows (suc n)) (ready_at rows best) (ready_at rows j) before (is.precedes j (omega (arith, lt, other)))
            ];
          })
      | inr stays ↦
          let after = if_not_before sections (ready_at rows (suc n)) (ready_at rows best) stays in
          rw stays (record {
            within = omega (arith, is.within);
            precedes = λ j lt. elim (cases_eq (suc n) j) [
              | inl same ↦
                  let P : ℕ → Type 0 = λ x. MayPrecede sections (ready_at rows best) (ready_at rows x) in
                  subst P same after
              | inr other ↦ is.precedes j (omega (arith, lt, other))
            ];
          })
    ]

pub chooses_best : (sections : List TaskSection) (rows : List Ready) → 0 < length rows → IsBest sections rows (length rows) (by_ceilings sections rows)
chooses_best sections rows some = by_length (length rows) some
  where
    by_length : (n : ℕ) → 0 < n → IsBest sections rows n (best_below sections rows n)
    by_length zero none = absurd (omega arith)
    by_length (suc n) some_more = best_below_law sections rows n
