-- Who goes first among the ready rows.
use Rattle.std.proofs.Common.{◌≡◌, ℕ, zero, suc, ◌+◌, ◌<◌, ◌≤◌, Bool, true, false, ◌&&◌, nat_eq, nat_lt, nat_le, if◌then◌else◌, List, Option, Some, None, MatchOption, IfSome, refl, sym, ap, ◌∙◌, subst, arith, inl, inr, add-one}
use Rattle.std.proofs.lemmas.Bool.{cases_Bool, cases_eq, and_parts, and_from, or_cases, or_parts, and_cases, ltb-true, ltb-false, leb-true, eqb-true, eqb-false, lt-ltb, le-leb, false≢true, false_from_ne_true}
use Rattle.hk_plan.specs.declared.Row.{Row}
use Rattle.hk_plan.specs.Alone.{task_of, arrival_of, ticks_of, is_ready, goes_before, first_of, chosen_below, ComesFirst}

-- the row at a place has arrived and isn't ended, where each row has had so many ticks
pub record Ready (rows : List Row) (had : ℕ → ℕ) (t k : ℕ) : Type 0 where
  pub arrived : arrival_of rows k ≤ t
  pub unended : had k < ticks_of rows k

-- no place below n has a ready row
abbrev pub NoneBelow : List Row → (ℕ → ℕ) → ℕ → ℕ → Type 0
NoneBelow rows had t n = (k : ℕ) → k < n → ¬ (Ready rows had t k)

-- the place goes first among those below n that have a ready row
pub record FirstBelow (rows : List Row) (had : ℕ → ℕ) (t n k : ℕ) : Type 0 where
  pub within : k < n
  pub ready : Ready rows had t k
  pub first : (j : ℕ) → j < n → Ready rows had t j → ComesFirst rows k j

abbrev pub Law : List Row → (ℕ → ℕ) → ℕ → ℕ → Option ℕ → Type 0
Law rows had t n choice = MatchOption choice (NoneBelow rows had t n) (FirstBelow rows had t n)

-- what the test of readiness means
pub ready_from : (rows : List Row) (had : ℕ → ℕ) (t k : ℕ) → is_ready rows had t k ≡ true → Ready rows had t k
ready_from rows had t k e =
    let parts = and_parts (nat_le (arrival_of rows k) t) (nat_lt (had k) (ticks_of rows k)) e in
    record { arrived = leb-true _ _ parts.0; unended = ltb-true _ _ parts.1 }

pub ready-true : (rows : List Row) (had : ℕ → ℕ) (t k : ℕ) → Ready rows had t k → is_ready rows had t k ≡ true
ready-true rows had t k r = and_from _ _ (le-leb _ _ r.arrived) (lt-ltb _ _ r.unended)

-- what the test of order means
pub before_from : (rows : List Row) (j k : ℕ) → goes_before rows j k ≡ true → ComesFirst rows j k
before_from rows j k e =
    elim (or_cases (nat_lt (task_of rows j) (task_of rows k)) (nat_eq (task_of rows j) (task_of rows k) && nat_lt j k) e) [
      | inl less ↦ inl (ltb-true _ _ less)
      | inr same ↦
          let parts = and_parts (nat_eq (task_of rows j) (task_of rows k)) (nat_lt j k) same in
          inr (eqb-true _ _ parts.0, omega (arith, ltb-true j k parts.1))
    ]

pub after_from : (rows : List Row) (j k : ℕ) → goes_before rows j k ≡ false → ComesFirst rows k j
after_from rows j k e =
    let parts = or_parts (nat_lt (task_of rows j) (task_of rows k)) (nat_eq (task_of rows j) (task_of rows k) && nat_lt j k) e in
    let above : task_of rows k ≤ task_of rows j = ltb-false _ _ parts.0 in
    elim (cases_eq (task_of rows j) (task_of rows k)) [
      | inl same ↦ elim (and_cases (nat_eq (task_of rows j) (task_of rows k)) (nat_lt j k) parts.1) [
        | inl other ↦ absurd (eqb-false _ _ other same)
        | inr past ↦ inr (sym same, ltb-false _ _ past)
      ]
      | inr other ↦ inl (omega arith)
    ]

-- coming first goes on from one to the next
pub comes_on : (rows : List Row) (i j k : ℕ) → ComesFirst rows i j → ComesFirst rows j k → ComesFirst rows i k
comes_on rows i j k (inl a) (inl b) = inl (omega arith)
comes_on rows i j k (inl a) (inr b) = inl (omega (arith, b.0))
comes_on rows i j k (inr a) (inl b) = inl (omega (arith, a.0))
comes_on rows i j k (inr a) (inr b) = inr (a.0 ∙ b.0, omega (arith, a.1, b.1))

-- one more place is looked at
pub law_more : (rows : List Row) (had : ℕ → ℕ) (t n : ℕ) (before : Option ℕ) (b : Bool) → is_ready rows had t n ≡ b
    → Law rows had t n before → Law rows had t (suc n) (if b then Some (first_of rows before n) else before)
law_more rows had t n None false e none = λ k below r.
    elim (cases_eq k n) [
      | inl same ↦ let P : ℕ → Type 0 = Ready rows had t in false≢true (sym e ∙ ready-true rows had t n (subst P same r))
      | inr other ↦ none k (omega arith) r
    ]
law_more rows had t n (Some j) false e best = record {
  within = omega (arith, best.within);
  ready = best.ready;
  first = λ k below r.
      elim (cases_eq k n) [
        | inl same ↦ let P : ℕ → Type 0 = Ready rows had t in absurd (false≢true (sym e ∙ ready-true rows had t n (subst P same r)))
        | inr other ↦ best.first k (omega arith) r
      ];
}
law_more rows had t n None true e none = record {
  within = omega arith;
  ready = ready_from rows had t n e;
  first = λ k below r.
      elim (cases_eq k n) [
        | inl same ↦ inr (ap (λ i. task_of rows i) (sym same), omega arith)
        | inr other ↦ absurd (none k (omega arith) r)
      ];
}
law_more rows had t n (Some j) true e best =
    let now : Ready rows had t n = ready_from rows had t n e in
    elim (cases_Bool (goes_before rows n j)) [
      | inl goes ↦
          let before : ComesFirst rows n j = before_from rows n j goes in
          rw goes (record {
            within = omega arith;
            ready = now;
            first = λ k below r.
                elim (cases_eq k n) [
                  | inl same ↦ inr (ap (λ i. task_of rows i) (sym same), omega arith)
                  | inr other ↦ comes_on rows n j k before (best.first k (omega arith) r)
                ];
          })
      | inr stays ↦
          let after : ComesFirst rows j n = after_from rows n j stays in
          rw stays (record {
            within = omega (arith, best.within);
            ready = best.ready;
            first = λ k below r.
                elim (cases_eq k n) [
                  | inl same ↦ let P : ℕ → Type 0 = ComesFirst rows j in subst P (sym same) after
                  | inr other ↦ best.first k (omega arith) r
                ];
          })
    ]

-- who goes first among the places below n
pub chosen_below_law : (rows : List Row) (had : ℕ → ℕ) (t n : ℕ) → Law rows had t n (chosen_below rows had t n)
unfolding chosen_below
chosen_below_law rows had t zero = λ k below r. absurd (omega arith)
chosen_below_law rows had t (suc n) =
    law_more rows had t n (chosen_below rows had t n) (is_ready rows had t n) refl (chosen_below_law rows had t n)

-- who goes first depends on the ticks had below n alone
pub chosen_below_agrees : (rows : List Row) (had other : ℕ → ℕ) (t n : ℕ) → ((k : ℕ) → k < n → had k ≡ other k) → chosen_below rows had t n ≡ chosen_below rows other t n
unfolding chosen_below
chosen_below_agrees rows had other t zero same = refl
chosen_below_agrees rows had other t (suc n) same =
    let before = chosen_below_agrees rows had other t n (λ k below. same k (omega arith)) in
    let here : had n ≡ other n = same n (omega arith) in
    rw (before, here) refl

-- where the row at n is ready it may go first among the places up to n
pub chosen_more_ready : (rows : List Row) (had : ℕ → ℕ) (t n : ℕ) → Ready rows had t n
    → chosen_below rows had t (n + 1) ≡ Some (first_of rows (chosen_below rows had t n) n)
unfolding chosen_below
chosen_more_ready rows had t n r = rw (add-one, ready-true rows had t n r) refl

-- and where it isn't another does
pub chosen_more_other : (rows : List Row) (had : ℕ → ℕ) (t n : ℕ) → ¬ (Ready rows had t n) → chosen_below rows had t (n + 1) ≡ chosen_below rows had t n
unfolding chosen_below
chosen_more_other rows had t n none = rw (add-one, false_from_ne_true (is_ready rows had t n) (λ e. none (ready_from rows had t n e))) refl

-- below 0 there is none
pub chosen_none : (rows : List Row) (had : ℕ → ℕ) (t : ℕ) → None ≡ chosen_below rows had t 0
unfolding chosen_below
chosen_none rows had t = refl

pub within_more : (o : Option ℕ) (n : ℕ) → IfSome o (λ k. k < n) → IfSome o (λ k. k < n + 1)
within_more None n h = h
within_more (Some k) n h = omega arith
