-- A job that gets ticks of the schedule alone is one that has become ready.
use Rattle.std.proofs.Common.{◌≡◌, ℕ, zero, suc, ◌<◌, ◌≤◌, Option, Some, None, List, sym, ◌∙◌, subst, arith, inl, inr, nat_le, nat_lt}
use Rattle.std.proofs.lemmas.Bool.{cases_Bool, and_parts, leb-true}
use Rattle.hk_plan.specs.declared.Ready.{Ready}
use Rattle.hk_plan.specs.AloneBy.{Jobs, is_some_at, is_ready_job, earliest, alone_turn, alone_had}
use Rattle.hk_plan.proofs.ReadyRows.{first_law}
use Rattle.hk_ceiling.proofs.Promised.{at_some, gets_it, none_first, none_more}

same_place : (a b : ℕ) (o : Option ℕ) → o ≡ Some a → o ≡ Some b → a ≡ b
same_place a b o e f = let g : Some a ≡ Some b = sym e ∙ f in cc

no_place : (b : ℕ) (o : Option ℕ) → o ≡ None → o ≡ Some b → ⊥
no_place b o e f = let g : None ≡ Some b = sym e ∙ f in cc

-- the earliest ready job of a task is listed and ready
pub record IsCome (jobs : Jobs) (t i j : ℕ) : Type 0 where
  pub listed : j < jobs.count i
  pub ready : jobs.ready i j ≤ t

pub first_come : (jobs : Jobs) (had : ℕ → ℕ → ℕ) (t i j : ℕ) → earliest jobs had t i ≡ Some j → IsCome jobs t i j
first_come jobs had t i j e = elim (first_law (is_ready_job jobs had t i) (jobs.count i)) [
  | inr none ↦ absurd (no_place j _ none.is e)
  | inl f ↦
      let p = and_parts (nat_le (jobs.ready i f.place) t) (nat_lt (had i f.place) (jobs.ticks i f.place)) f.passes in
      let here : IsCome jobs t i f.place = record { listed = f.within; ready = leb-true (jobs.ready i f.place) t p.0 } in
      subst (IsCome jobs t i) (same_place f.place j _ f.is e) here
]

pub has_come : (choice : List Ready → ℕ) (jobs : Jobs) (t i j : ℕ) → 0 < alone_had choice jobs t i j → IsCome jobs t i j
has_come choice jobs zero i j some = absurd (omega (arith, some, none_first choice jobs i j))
has_come choice jobs (suc t) i j some = elim (cases_Bool (gets_it choice jobs t i j)) [
  | inr other ↦
      let before = has_come choice jobs t i j (omega (arith, some, none_more choice jobs t i j other)) in
      record { listed = before.listed; ready = omega (arith, before.ready) }
  | inl mine ↦
      let p = and_parts (is_some_at (alone_turn choice jobs (alone_had choice jobs t) t) i) (is_some_at (earliest jobs (alone_had choice jobs t) t i) j) mine in
      let c = first_come jobs (alone_had choice jobs t) t i j (at_some choice jobs _ j p.1) in
      record { listed = c.listed; ready = omega (arith, c.ready) }
]
