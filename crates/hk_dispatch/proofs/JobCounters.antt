-- The jobs of one task, over abstract counters: which ticks go to the task, which of its jobs is under way, how many ticks
-- that one has had, and how many each job was given so far.
use Rattle.std.proofs.Common.{◌≡◌, ◌≢◌, ℕ, zero, suc, ◌+◌, ◌<◌, ◌≤◌, Bool, true, false, refl, sym, ◌∙◌, ap, arith, inl, inr}
use Rattle.std.proofs.lemmas.Bool.{cases_eq, cases_lt, eq-eqb, ne_eqb}
use Rattle.std.specs.Prelude.{nat_eq, ◌&&◌, if◌then◌else◌}

-- A tick, and what it does to a task: it isn't the task's, or it goes to the task's job, which goes on or ends with it.
pub data Counts (gets : Bool) (job had job' had' : ℕ) : Type 0 where
  waits : gets ≡ false → job' ≡ job → had' ≡ had → Counts gets job had job' had'
  goes_on : gets ≡ true → job' ≡ job → had' ≡ had + 1 → Counts gets job had job' had'
  ends : gets ≡ true → job' ≡ job + 1 → had' ≡ 0 → Counts gets job had job' had'

right_false : (b : Bool) → (b && false) ≡ false
right_false true = refl
right_false false = refl

module _ (gets : ℕ → Bool) (job had : ℕ → ℕ) (given : ℕ → ℕ → ℕ) where
  pub record AreCounters : Type 0 where
    pub first : job 0 ≡ 0
    pub none_had : had 0 ≡ 0
    pub none_given : (j : ℕ) → given 0 j ≡ 0
    pub counts : (t : ℕ) → Counts (gets t) (job t) (had t) (job (suc t)) (had (suc t))
    pub gained : (t j : ℕ) → given (suc t) j ≡ given t j + (if gets t && nat_eq (job t) j then 1 else 0)

  module _ (c : AreCounters) where
    -- ONE TICK

    gain_own : (t j : ℕ) → gets t ≡ true → job t ≡ j → given (suc t) j ≡ given t j + 1
    gain_own t j e same = c.gained t j ∙ one (gets t) (nat_eq (job t) j) e (eq-eqb (job t) j same)
      where
        one : (a b : Bool) → a ≡ true → b ≡ true → given t j + (if a && b then 1 else 0) ≡ given t j + 1
        one a b e f = rw (e, f) refl

    gain_none : (t j : ℕ) → gets t ≡ false → given (suc t) j ≡ given t j
    gain_none t j e = c.gained t j ∙ none (gets t) (nat_eq (job t) j) e
      where
        none : (a b : Bool) → a ≡ false → given t j + (if a && b then 1 else 0) ≡ given t j
        none a b e = rw e (omega arith)

    gain_other : (t j : ℕ) → job t ≢ j → given (suc t) j ≡ given t j
    gain_other t j other = c.gained t j ∙ none (gets t) (nat_eq (job t) j) (ne_eqb (job t) j other)
      where
        none : (a b : Bool) → b ≡ false → given t j + (if a && b then 1 else 0) ≡ given t j
        none a b e = rw (e, right_false a) (omega arith)

    not_less : (t j : ℕ) → given t j ≤ given (suc t) j
    not_less t j = let e = c.gained t j in omega (arith, e)

    -- THE PRESENT JOB was given what it has had, and a later one nothing
    record Stands (t : ℕ) : Type 0 where
      present : given t (job t) ≡ had t
      later : (j : ℕ) → job t < j → given t j ≡ 0

    stands_more : (t : ℕ) → Stands t → Counts (gets t) (job t) (had t) (job (suc t)) (had (suc t)) → Stands (suc t)
    stands_more t s (waits e same still) = record {
      present = ap (given (suc t)) same ∙ gain_none t (job t) e ∙ s.present ∙ sym still;
      later = λ j lt. gain_none t j e ∙ s.later j (omega (arith, same, lt));
    }
    stands_more t s (goes_on e same more) = record {
      present = ap (given (suc t)) same ∙ gain_own t (job t) e refl ∙ ap (λ n. n + 1) s.present ∙ sym more;
      later = λ j lt. gain_other t j (λ own. omega (arith, own, same, lt)) ∙ s.later j (omega (arith, same, lt));
    }
    stands_more t s (ends e next none) = record {
      present = ap (given (suc t)) next ∙ gain_other t (job t + 1) (λ own. omega (arith, own)) ∙ s.later (job t + 1) (omega arith) ∙ sym none;
      later = λ j lt. gain_other t j (λ own. omega (arith, own, next, lt)) ∙ s.later j (omega (arith, next, lt));
    }

    stands : (t : ℕ) → Stands t
    stands zero = record { present = c.none_given (job 0) ∙ sym c.none_had; later = λ j lt. c.none_given j }
    stands (suc t) = stands_more t (stands t) (c.counts t)

    pub present : (t : ℕ) → given t (job t) ≡ had t
    present t = (stands t).present

    -- JOBS come in their order

    one_rise : (t : ℕ) → Counts (gets t) (job t) (had t) (job (suc t)) (had (suc t)) → (job t ≤ job (suc t)) × (job (suc t) ≤ job t + 1)
    one_rise t (waits e same still) = (omega (arith, same), omega (arith, same))
    one_rise t (goes_on e same more) = (omega (arith, same), omega (arith, same))
    one_rise t (ends e next none) = (omega (arith, next), omega (arith, next))

    pub rises : (t u : ℕ) → t ≤ u → job t ≤ job u
    rises t zero le = let e : t ≡ 0 = omega (arith, le) in omega (arith, ap job e)
    rises t (suc u) le = elim (cases_eq t (suc u)) [
      | inl same ↦ omega (arith, ap job same)
      | inr other ↦ let one = (one_rise u (c.counts u)).0 in let all = rises t u (omega (arith, le, other)) in omega (arith, one, all)
    ]

    pub not_fewer : (t u j : ℕ) → t ≤ u → given t j ≤ given u j
    not_fewer t zero j le = let e : t ≡ 0 = omega (arith, le) in omega (arith, ap (λ k. given k j) e)
    not_fewer t (suc u) j le = elim (cases_eq t (suc u)) [
      | inl same ↦ omega (arith, ap (λ k. given k j) same)
      | inr other ↦ let one = not_less u j in let all = not_fewer t u j (omega (arith, le, other)) in omega (arith, one, all)
    ]

    -- an ended job is given no more
    pub settled : (t u j : ℕ) → t ≤ u → j < job t → given u j ≡ given t j
    settled t zero j le lt = let e : 0 ≡ t = omega (arith, le) in ap (λ k. given k j) e
    settled t (suc u) j le lt = elim (cases_eq t (suc u)) [
      | inl same ↦ ap (λ k. given k j) (sym same)
      | inr other ↦
          let far : t ≤ u = omega (arith, le, other) in
          let up = rises t u far in
          gain_other u j (λ own. omega (arith, own, up, lt)) ∙ settled t u j far lt
    ]

    -- a job whose task is past it had its last tick
    pub last_tick : (t : ℕ) → job t < job (suc t) → gets t ≡ true
    last_tick t lt = by_count (c.counts t)
      where
        by_count : Counts (gets t) (job t) (had t) (job (suc t)) (had (suc t)) → gets t ≡ true
        by_count (waits e same still) = absurd (omega (arith, same, lt))
        by_count (goes_on e same more) = e
        by_count (ends e next none) = e

    -- so it was given a tick
    pub given_some : (u j : ℕ) → j < job u → 1 ≤ given u j
    given_some zero j lt = absurd (let e = c.first in omega (arith, e, lt))
    given_some (suc u) j lt = elim (cases_lt j (job u)) [
      | inl before ↦ let some = given_some u j before in let one = not_less u j in omega (arith, some, one)
      | inr not ↦
          let up = (one_rise u (c.counts u)).1 in
          let own : job u ≡ j = omega (arith, up, not, lt) in
          let one = gain_own u j (last_tick u (omega (arith, own, lt))) own in
          omega (arith, one)
    ]

    -- and more than it has had at any moment before its end
    pub given_more : (t u : ℕ) → t ≤ u → job t < job u → had t < given u (job t)
    given_more t zero le lt = absurd (let e : job t ≡ job 0 = ap job (let z : t ≡ 0 = omega (arith, le) in z) in omega (arith, e, lt))
    given_more t (suc u) le lt = elim (cases_eq t (suc u)) [
      | inl same ↦ absurd (let e = ap job same in omega (arith, e, lt))
      | inr other ↦
          let far : t ≤ u = omega (arith, le, other) in
          elim (cases_lt (job t) (job u)) [
            | inl before ↦ let more = given_more t u far before in let one = not_less u (job t) in omega (arith, more, one)
            | inr not ↦
                let up = rises t u far in
                let own : job u ≡ job t = omega (arith, up, not) in
                let one = gain_own u (job t) (last_tick u (omega (arith, own, lt))) own in
                let all = not_fewer t u (job t) far in
                let now = present t in
                omega (arith, one, all, now)
          ]
    ]

    -- where the job under way has always had fewer ticks than some number, no job is given more than that number
    pub given_few : (cost : ℕ) → ((t : ℕ) → had t < cost) → (t j : ℕ) → given t j ≤ cost
    given_few cost few zero j = let none = c.none_given j in omega (arith, none)
    given_few cost few (suc t) j = elim (cases_eq (job t) j) [
      | inr other ↦ let same = gain_other t j other in let all = given_few cost few t j in omega (arith, same, all)
      | inl own ↦
          let one : given (suc t) j ≤ given t j + 1 = let e = c.gained t j in at_most (gets t && nat_eq (job t) j) e in
          let now : given t j ≡ had t = ap (given t) (sym own) ∙ present t in
          let lt = few t in
          omega (arith, one, now, lt)
    ]
      where
        at_most : (b : Bool) → given (suc t) j ≡ given t j + (if b then 1 else 0) → given (suc t) j ≤ given t j + 1
        at_most true e = omega (arith, e)
        at_most false e = omega (arith, e)
