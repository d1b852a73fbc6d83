-- All lost attempts of a run: at most one for each high job that has become ready and each low New that has taken words. Over
-- abstract counters.
use Rattle.std.proofs.Common.{◌≡◌, ℕ, suc, ◌+◌, ◌*◌, ◌≤◌, ◌⊎◌, ap, arith, inl, inr}
use Rattle.std.proofs.lemmas.Bool.{cases_eq}
use Rattle.std.proofs.Math.Nat.{mul-le-mul_right}

-- `came` counts the high jobs that became ready before a moment, `waiting` those of them that aren't ended
module _ (attempt : ℕ) (fresh debt liable lost came waiting news : ℕ → ℕ) where
  -- Where nothing is owed, each waiting job has still its attempt; where something is owed, the open attempt that was met
  -- has one
  pub record Charged (t : ℕ) : Type 0 where
    pub at_rest : debt t ≡ 0 → lost t + waiting t * attempt ≤ (came t + news t) * attempt
    pub at_work : lost t + liable t ≤ (came t + news t) * attempt ⊎ (debt t ≡ 0)

  pub record Comes (t : ℕ) : Type 0 where
    pub more : came (suc t) ≡ came t + fresh t
    pub few : liable (suc t) ≤ attempt

  pub record HighTick (t : ℕ) : Type 0 where
    pub comes : Comes t
    pub same : (lost (suc t) ≡ lost t) × (news (suc t) ≡ news t)
    pub waits : waiting (suc t) ≤ waiting t + fresh t
    pub first_debt : debt t ≡ 0 → (debt (suc t) ≡ 0) ⊎ (1 ≤ waiting t)
    pub owes_on : debt (suc t) ≡ 0 → debt t ≡ 0
    pub charged : (liable (suc t) ≤ liable t) ⊎ (1 ≤ fresh t)

  pub record LowTick (t : ℕ) : Type 0 where
    pub comes : Comes t
    pub same : lost (suc t) ≡ lost t
    pub none_waits : (waiting (suc t) ≡ 0) × (news t ≤ news (suc t))
    pub first_debt : debt t ≡ 0 → (debt (suc t) ≡ 0) ⊎ (news t + 1 ≤ news (suc t))
    pub owes_on : debt (suc t) ≡ 0 → debt t ≡ 0
    pub charged : (debt t ≡ 0) ⊎ (liable (suc t) ≤ liable t)

  pub record CollectorTick (t : ℕ) : Type 0 where
    pub comes : Comes t
    pub same : news (suc t) ≡ news t
    pub owed : 1 ≤ debt t
    pub none_waits : waiting (suc t) ≡ 0
    pub pays : lost (suc t) + liable (suc t) ≤ lost t + liable t

  pub high_keeps : (t : ℕ) → HighTick t → Charged t → Charged (suc t)
  high_keeps t h c =
      let a = ap (λ n. (n + news (suc t)) * attempt) h.comes.more in
      let n = ap (λ n. (came t + fresh t + n) * attempt) h.same.1 in
      let same = h.same.0 in
      let w = mul-le-mul_right attempt h.waits in
      record {
        at_rest = λ none. let r = c.at_rest (h.owes_on none) in omega arith;
        at_work = elim (cases_eq (debt t) 0) [
          | inl none ↦ elim (h.first_debt none) [
            | inl still ↦ inr still
            | inr one ↦ let r = c.at_rest none in let m = mul-le-mul_right attempt one in let few = h.comes.few in inl (omega arith)
          ]
          | inr some ↦ elim c.at_work [
            | inr none ↦ absurd (some none)
            | inl l ↦ elim h.charged [
              | inl kept ↦ inl (omega arith)
              | inr one ↦ let m = mul-le-mul_right attempt one in let few = h.comes.few in let least : lost t ≤ (came t + news t) * attempt = omega arith in inl (omega arith)
            ]
          ]
        ];
      }

  pub low_keeps : (t : ℕ) → LowTick t → Charged t → Charged (suc t)
  low_keeps t h c =
      let a = ap (λ n. (n + news (suc t)) * attempt) h.comes.more in
      let more = mul-le-mul_right attempt h.none_waits.1 in
      let same = h.same in
      let w = ap (λ n. n * attempt) h.none_waits.0 in
      record {
        at_rest = λ none. let r = c.at_rest (h.owes_on none) in omega arith;
        at_work = elim (cases_eq (debt t) 0) [
          | inl none ↦ elim (h.first_debt none) [
            | inl still ↦ inr still
            | inr one ↦ let r = c.at_rest none in let m = mul-le-mul_right attempt one in let few = h.comes.few in inl (omega arith)
          ]
          | inr some ↦ elim c.at_work [
            | inr none ↦ absurd (some none)
            | inl l ↦ elim h.charged [
              | inl none ↦ absurd (some none)
              | inr kept ↦ inl (omega arith)
            ]
          ]
        ];
      }

  pub collector_keeps : (t : ℕ) → CollectorTick t → Charged t → Charged (suc t)
  collector_keeps t h c =
      let a = ap (λ n. (n + news (suc t)) * attempt) h.comes.more in
      let n = ap (λ n. (came t + fresh t + n) * attempt) h.same in
      let w = ap (λ n. n * attempt) h.none_waits in
      let pays = h.pays in
      let owed = h.owed in
      elim c.at_work [
        | inr none ↦ absurd (omega arith)
        | inl l ↦ record { at_rest = λ none. omega arith; at_work = inl (omega arith) }
      ]

  -- so the losses of a run are few
  pub losses_few : (t : ℕ) → Charged t → lost t ≤ (came t + news t) * attempt
  losses_few t c = elim c.at_work [ inl l ↦ omega arith | inr none ↦ let r = c.at_rest none in omega arith ]
