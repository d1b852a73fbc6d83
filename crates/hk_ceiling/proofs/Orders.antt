-- Sections in order don't overlap.
use Rattle.std.proofs.Common.{◌≡◌, ℕ, zero, suc, ◌+◌, ◌<◌, ◌≤◌, List, Option, Some, None, MatchOption, length, nat_eq, refl, sym, ap, ◌∙◌, subst, arith, inl, inr}
use Rattle.std.proofs.lemmas.Bool.{cases_eq, eq-eqb, ne_eqb}
use Rattle.hk_ceiling.specs.declared.ceilings.TaskSection.{TaskSection}
use Rattle.hk_ceiling.specs.Ceilings.{section_at, AreApart}
use Rattle.hk_rta.specs.declared.Timing.{Timing}
use Rattle.hk_rta.specs.Demand.{cost_at}
use Rattle.std.specs.Prelude.{◌||◌, nat_lt, nat_le, false}
use Rattle.std.proofs.lemmas.Bool.{or_parts, ltb-false}
use Rattle.hk_ceiling.specs.Order.{last_of, AreInOrder, overlaps_with, overlaps, NoneWrong}

-- the last section of the task below n: a given earlier one is it, or comes before it
record LastOf (sections : List TaskSection) (task n p : ℕ) : Type 0 where
  pub place : ℕ
  pub is : last_of sections task n ≡ Some place
  pub below : place < n
  pub its : (section_at sections place).task ≡ task
  pub after : p ≤ place

last_law : (sections : List TaskSection) (task n p : ℕ) → p < n → (section_at sections p).task ≡ task → LastOf sections task n p
unfolding last_of
last_law sections task zero p lt its = absurd (omega arith)
last_law sections task (suc n) p lt its = elim (cases_eq (section_at sections n).task task) [
  | inl same ↦ record { place = n; is = rw (eq-eqb (section_at sections n).task task same) refl; below = omega arith; its = same; after = omega (arith, lt) }
  | inr other ↦
      let ne : p ≡ n → ⊥ = λ e. other (ap (λ x. (section_at sections x).task) (sym e) ∙ its) in
      let l = last_law sections task n p (elim (cases_eq p n) [ inl e ↦ absurd (ne e) | inr less ↦ omega (arith, lt, less) ]) its in
      record { place = l.place; is = rw (ne_eqb (section_at sections n).task task other) (l.is); below = omega (arith, l.below); its = l.its; after = l.after }
]

-- by how far the two are apart
apart_by : (sections : List TaskSection) → AreInOrder sections → (far p q : ℕ) → p < q → q ≤ p + far → q < length sections → (section_at sections p).task ≡ (section_at sections q).task
    → (section_at sections p).start + (section_at sections p).len ≤ (section_at sections q).start
apart_by sections order zero p q less near listed same = absurd (omega (arith, less, near))
apart_by sections order (suc far) p q less near listed same =
    let l = last_law sections (section_at sections q).task q p less same in
    let P : Option ℕ → Type 0 = λ o. MatchOption o (Unit {0}) (λ x. (section_at sections x).start + (section_at sections x).len ≤ (section_at sections q).start) in
    let follows : (section_at sections l.place).start + (section_at sections l.place).len ≤ (section_at sections q).start = subst P l.is (order.follow q listed) in
    elim (cases_eq p l.place) [
      | inl e ↦
          let Q : ℕ → Type 0 = λ x. (section_at sections x).start + (section_at sections x).len ≤ (section_at sections q).start in
          subst Q (sym e) follows
      | inr other ↦
          let before = apart_by sections order far p l.place (omega (arith, other, l.after)) (omega (arith, near, l.below)) (omega (arith, l.below, listed)) (same ∙ sym l.its) in
          omega (arith, before, follows)
    ]

pub are_apart : (sections : List TaskSection) → AreInOrder sections → AreApart sections
are_apart sections order = record { apart = λ p q less listed same. apart_by sections order q p q less (omega arith) listed same }

-- where none is wrong they are in order
pub in_order : (timings : List Timing) (sections : List TaskSection) → NoneWrong timings sections (length sections) → AreInOrder sections
in_order timings sections none = record { follow = λ q lt. by_last q (last_of sections (section_at sections q).task q) (no_overlap q lt) }
  where
    no_overlap : (q : ℕ) → q < length sections → overlaps sections q ≡ false
    no_overlap q lt =
        let a = or_parts (nat_le (length timings) (section_at sections q).task) (nat_lt 63 (section_at sections q).res || (nat_eq (section_at sections q).len 0 || (nat_lt (cost_at timings (section_at sections q).task) ((section_at sections q).start + (section_at sections q).len) || overlaps sections q))) (none q lt) in
        let b = or_parts (nat_lt 63 (section_at sections q).res) (nat_eq (section_at sections q).len 0 || (nat_lt (cost_at timings (section_at sections q).task) ((section_at sections q).start + (section_at sections q).len) || overlaps sections q)) a.1 in
        let c = or_parts (nat_eq (section_at sections q).len 0) (nat_lt (cost_at timings (section_at sections q).task) ((section_at sections q).start + (section_at sections q).len) || overlaps sections q) b.1 in
        (or_parts (nat_lt (cost_at timings (section_at sections q).task) ((section_at sections q).start + (section_at sections q).len)) (overlaps sections q) c.1).1

    by_last : (q : ℕ) (o : Option ℕ) → overlaps_with sections q o ≡ false → MatchOption o (Unit {0}) (λ p. (section_at sections p).start + (section_at sections p).len ≤ (section_at sections q).start)
    by_last q None e = tt
    by_last q (Some p) e = ltb-false (section_at sections q).start ((section_at sections p).start + (section_at sections p).len) e
