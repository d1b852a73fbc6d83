-- How the ticks that each row has had grow.
use Rattle.std.proofs.Common.{◌≡◌, ℕ, zero, suc, ◌+◌, ◌-◌, ◌≤◌, ◌⊎◌, List, Option, Some, None, MatchOption, length, refl, ap, ◌∙◌, subst, arith, inl, inr, add-zero, add-suc, add-one}
use Rattle.std.proofs.lemmas.Bool.{cases_eq, eq-eqb, ne_eqb}
use Rattle.hk_plan.specs.declared.Row.{Row}
use Rattle.hk_plan.specs.Alone.{ticks_of, tick_for, had_after, row_at, IsIdle, GoesFirst, ComesFirst, FollowsOrder, EachTickFollowsOrder}
use Rattle.hk_plan.proofs.Chosen.{Law, chosen_below_law}

-- the law of one tick, from what is ready among all places
whole_law : (rows : List Row) (t : ℕ) (choice : Option ℕ) → Law rows (had_after rows t) t (length rows) choice → MatchOption choice (IsIdle rows t) (GoesFirst rows t)
whole_law rows t None none = λ k r. none k r.within (record { arrived = r.arrived; unended = r.unended })
whole_law rows t (Some k) best = record {
  ready = record { within = best.within; arrived = best.ready.arrived; unended = best.ready.unended };
  first = λ j r. best.first j r.within (record { arrived = r.arrived; unended = r.unended });
}

-- a tick goes to the ready row that goes first
pub each_tick_goes_first : (rows : List Row) (t : ℕ) → MatchOption (row_at rows t) (IsIdle rows t) (GoesFirst rows t)
each_tick_goes_first rows t = whole_law rows t (row_at rows t) (chosen_below_law rows (had_after rows t) t (length rows))

-- the row that gets a tick goes first
pub gets_first : (rows : List Row) (t k : ℕ) → row_at rows t ≡ Some k → GoesFirst rows t k
gets_first rows t k e =
    let P : Option ℕ → Type 0 = λ o. MatchOption o (IsIdle rows t) (GoesFirst rows t) in
    subst P e (each_tick_goes_first rows t)

-- two rows that each come first before the other are one
same_first : (rows : List Row) (j k : ℕ) → ComesFirst rows j k → ComesFirst rows k j → j ≡ k
same_first rows j k (inl a) (inl b) = absurd (omega arith)
same_first rows j k (inl a) (inr b) = absurd (omega (arith, b.0))
same_first rows j k (inr a) (inl b) = absurd (omega (arith, a.0))
same_first rows j k (inr a) (inr b) = omega (arith, a.1, b.1)

-- the same, both ways
follows_order : (rows : List Row) (t : ℕ) (o : Option ℕ) → row_at rows t ≡ o → MatchOption o (IsIdle rows t) (GoesFirst rows t) → FollowsOrder rows t
follows_order rows t None e idle = record {
  to_row = λ k. (λ some. cc, λ first. absurd (idle k first.ready));
  to_nobody = (λ _. idle, λ _. e);
}
follows_order rows t (Some l) e best = record {
  to_row = λ k. (
    (λ some. let same : l ≡ k = cc in let P : ℕ → Type 0 = GoesFirst rows t in subst P same best),
    (λ first. e ∙ ap (λ i. Some i) (same_first rows l k (best.first k first.ready) (first.first l best.ready))),
  );
  to_nobody = (λ none. cc, λ idle. absurd (idle l best.ready));
}

pub each_tick_follows_order : EachTickFollowsOrder
each_tick_follows_order rows t = follows_order rows t (row_at rows t) refl (each_tick_goes_first rows t)

-- one tick more
pub had_more : (rows : List Row) (t k : ℕ) → had_after rows (suc t) k ≡ had_after rows t k + tick_for (row_at rows t) k
unfolding had_after
had_more rows t k = refl

pub had_next : (rows : List Row) (t k : ℕ) → had_after rows (t + 1) k ≡ had_after rows t k + tick_for (row_at rows t) k
had_next rows t k = rw add-one (had_more rows t k)

-- before the first tick no row has had any
pub had_none : (rows : List Row) (k : ℕ) → had_after rows 0 k ≡ 0
unfolding had_after
had_none rows k = refl

-- a tick is one more for the row that gets it
pub tick_for_same : (o : Option ℕ) (k : ℕ) → o ≡ Some k → tick_for o k ≡ 1
tick_for_same o k e = rw (e, eq-eqb k k refl) refl

-- and none for another
pub tick_for_other : (o : Option ℕ) (j k : ℕ) → o ≡ Some j → (j ≡ k → ⊥) → tick_for o k ≡ 0
tick_for_other o j k e ne = rw (e, ne_eqb j k ne) refl

pub tick_for_nobody : (o : Option ℕ) (k : ℕ) → o ≡ None → tick_for o k ≡ 0
tick_for_nobody o k e = rw e refl

-- a tick is for the row that gets it, or for it none
pub tick_for_cases : (o : Option ℕ) (k : ℕ) → (o ≡ Some k) ⊎ (tick_for o k ≡ 0)
tick_for_cases None k = inr refl
tick_for_cases (Some j) k =
    elim (cases_eq j k) [
      | inl same ↦ inl (ap (λ i. Some i) same)
      | inr other ↦ inr (tick_for_other (Some j) j k refl other)
    ]

-- no row has more ticks than it takes
pub had-le-ticks : (rows : List Row) (t k : ℕ) → had_after rows t k ≤ ticks_of rows k
had-le-ticks rows zero k = omega (arith, had_none rows k)
had-le-ticks rows (suc t) k =
    elim (tick_for_cases (row_at rows t) k) [
      | inl mine ↦ omega (arith, had_more rows t k, tick_for_same (row_at rows t) k mine, (gets_first rows t k mine).ready.unended)
      | inr other ↦ omega (arith, had_more rows t k, other, had-le-ticks rows t k)
    ]

-- what a row has had is never taken back
pub had_grows : (rows : List Row) (t x k : ℕ) → had_after rows t k ≤ had_after rows (t + x) k
had_grows rows t zero k = rw add-zero (omega arith)
had_grows rows t (suc x) k = rw add-suc (omega (arith, had_more rows (t + x) k, had_grows rows t x k))

pub had-le-had : (rows : List Row) (t u k : ℕ) → t ≤ u → had_after rows t k ≤ had_after rows u k
had-le-had rows t u k h =
    let e : t + (u - t) ≡ u = omega arith in
    let P : ℕ → Type 0 = λ v. had_after rows t k ≤ had_after rows v k in
    subst P e (had_grows rows t (u - t) k)
