-- The busy interval: from a quiet moment another follows within a busy period, and what is owed on the way is bounded. Over
-- abstract counters, where `came t i` are all jobs of a task that have become ready before a moment.
use Rattle.std.proofs.Common.{◌≡◌, ℕ, zero, suc, ◌+◌, ◌*◌, ◌<◌, ◌≤◌, ◌⊎◌, Bool, true, false, sym, ap, subst, ◌∙◌, arith, inl, inr}
use Rattle.std.proofs.lemmas.Bool.{cases_Bool}
use Rattle.std.proofs.Math.Nat.{mul-le-mul_right}
use Rattle.hk_plan.proofs.Sums.{total, total-le, total-add}
use Rattle.hk_dispatch.proofs.numbers.Interval.{Begins, GoesOn}

-- `most x i` are the most jobs of a task that become ready in a window of x ticks
module _ (tasks : ℕ) (most : ℕ → ℕ → ℕ) (bring owe : ℕ → ℕ) (base low busy horizon : ℕ) (came fresh : ℕ → ℕ → ℕ) (quiet : ℕ → Bool) (left_at owed_at : ℕ → ℕ) where
  pub record Premises : Type 0 where
    pub start : quiet 0 ≡ true
    pub some : 1 ≤ busy
    pub room : base + total (λ i. most busy i * bring i) tasks ≤ busy
    pub next : (t i : ℕ) → came (suc t) i ≡ came t i + fresh t i
    pub few : (s x i : ℕ) → i < tasks → x ≤ busy → came (s + x) i ≤ came s i + most busy i
    pub waits : (t : ℕ) → t ≤ horizon → quiet t ≡ false → 1 ≤ left_at t
    pub begins : (t : ℕ) → t < horizon → quiet t ≡ true → (quiet (suc t) ≡ true) ⊎ Begins tasks bring owe base low fresh left_at owed_at t
    pub goes_on : (t : ℕ) → t < horizon → quiet t ≡ false → GoesOn tasks bring owe base low fresh left_at owed_at t

  -- what all jobs that have become ready before a moment bring
  abbrev brought : (amount : ℕ → ℕ) → (t : ℕ) → ℕ
  brought amount t = total (λ i. came t i * amount i) tasks

  -- a moment that isn't quiet, so many ticks after a quiet one
  pub record Waiting (t : ℕ) : Type 0 where
    pub start : ℕ
    pub ticks : ℕ
    pub since : t ≡ start + ticks
    pub was : quiet start ≡ true
    pub short : ticks < busy
    pub left_few : left_at t + ticks + brought bring start ≤ base + brought bring t
    pub owed_few : owed_at t + brought owe start ≤ low + brought owe t

  module _ (p : Premises) where
    distributes : (a b c : ℕ) → (a + b) * c ≡ a * c + b * c
    distributes a b c = omega arith

    brought_next : (amount : ℕ → ℕ) (t : ℕ) → brought amount (suc t) ≡ brought amount t + total (λ i. fresh t i * amount i) tasks
    brought_next amount t =
        let apart : (λ i. came (suc t) i * amount i) ≡ (λ i. came t i * amount i + fresh t i * amount i) =
        λ j i. (ap (λ c. c * amount i) (p.next t i) ∙ distributes (came t i) (fresh t i) (amount i)) j in
        ap (λ f. total f tasks) apart ∙ total-add (λ i. came t i * amount i) (λ i. fresh t i * amount i) tasks

    brought_few : (amount : ℕ → ℕ) (s x : ℕ) → x ≤ busy → brought amount (s + x) ≤ brought amount s + total (λ i. most busy i * amount i) tasks
    brought_few amount s x le = omega (
      arith,
      total-le (λ i. came (s + x) i * amount i) (λ i. came s i * amount i + most busy i * amount i) tasks
          (λ i below. let a = mul-le-mul_right (amount i) (p.few s x i below le) in let d = distributes (came s i) (most busy i) (amount i) in omega (arith, a, d)),
      total-add (λ i. came s i * amount i) (λ i. most busy i * amount i) tasks,
    )

    few_since : (amount : ℕ → ℕ) (t s x : ℕ) → t ≡ s + x → x ≤ busy → brought amount t ≤ brought amount s + total (λ i. most busy i * amount i) tasks
    few_since amount t s x e le = subst (λ u. brought amount u ≤ brought amount s + total (λ i. most busy i * amount i) tasks) (sym e) (brought_few amount s x le)

    -- one tick more of an interval: it is still short, since what is left is at least one tick
    more : (t s x : ℕ) → t ≤ horizon → t ≡ s + x → quiet s ≡ true → x ≤ busy → quiet t ≡ false
        → left_at t + x + brought bring s ≤ base + brought bring t → owed_at t + brought owe s ≤ low + brought owe t → Waiting t
    more t s x le since was short later l o = record {
      start = s;
      ticks = x;
      since = since;
      was = was;
      short = let some = p.waits t le later in let few = few_since bring t s x since short in let room = p.room in omega (arith, some, few, room, l);
      left_few = l;
      owed_few = o;
    }

    from_quiet : (t : ℕ) → suc t ≤ horizon → quiet t ≡ true → quiet (suc t) ≡ false → Waiting (suc t)
    from_quiet t le before later = elim (p.begins t (omega (arith, le)) before) [
      | inl now ↦ absurd (let e : true ≡ false = sym now ∙ later in cc)
      | inr b ↦
          let some = p.some in
          let l = b.left in
          let o = b.owed in
          more (suc t) t 1 le (omega arith) before (omega (arith, some)) later (omega (arith, l, brought_next bring t)) (omega (arith, o, brought_next owe t))
    ]

    -- each moment is quiet, or so many ticks after a quiet one, fewer than a busy period has
    pub waiting : (t : ℕ) → t ≤ horizon → (quiet t ≡ true) ⊎ Waiting t
    waiting zero le = inl p.start
    waiting (suc t) le = elim (cases_Bool (quiet (suc t))) [
      | inl now ↦ inl now
      | inr later ↦ inr (elim (cases_Bool (quiet t)) [
        | inl before ↦ from_quiet t le before later
        | inr still ↦ elim (waiting t (omega (arith, le))) [
          | inl before ↦ from_quiet t le before later
          | inr w ↦
              let g = p.goes_on t (omega (arith, le)) still in
              let l = g.left in
              let o = g.owed in
              let wl = w.left_few in
              let wo = w.owed_few in
              let since = w.since in
              let short = w.short in
              more (suc t) w.start (suc w.ticks) le (omega (arith, since)) w.was (omega (arith, short)) later
              (omega (arith, l, wl, brought_next bring t)) (omega (arith, o, wo, brought_next owe t))
        ]
      ])
    ]

    abbrev most_owed : ℕ
    most_owed = low + total (λ i. most busy i * owe i) tasks

    -- the debt at any moment: it is a part of what is owed, and at a quiet moment there is none
    pub owed_within : (t debt : ℕ) → t ≤ horizon → debt ≤ owed_at t → (quiet t ≡ true → debt ≡ 0) → debt ≤ most_owed
    owed_within t debt le part none = elim (waiting t le) [
      | inl now ↦ omega (arith, none now)
      | inr w ↦
          let few = few_since owe t w.start w.ticks w.since (let s = w.short in omega (arith, s)) in
          let o = w.owed_few in
          omega (arith, part, few, o)
    ]

    -- and what may be owed before the next one, with the jobs that become ready at the tick
    pub owed_soon : (t debt : ℕ) → t ≤ horizon → debt ≤ owed_at t + total (λ i. fresh t i * owe i) tasks → (quiet t ≡ true → debt ≤ total (λ i. fresh t i * owe i) tasks) → debt ≤ most_owed
    owed_soon t debt le part first = elim (waiting t le) [
      | inl now ↦
          let some = p.some in
          let few = few_since owe (suc t) t 1 (omega arith) (omega (arith, some)) in
          omega (arith, first now, few, brought_next owe t)
      | inr w ↦
          let since = w.since in
          let short = w.short in
          let few = few_since owe (suc t) w.start (suc w.ticks) (omega (arith, since)) (omega (arith, short)) in
          let o = w.owed_few in
          omega (arith, part, few, o, brought_next owe t)
    ]

    -- from each quiet moment another follows within a busy period, as far as the run goes
    pub next_quiet : (s : ℕ) → s + busy ≤ horizon → (t : ℕ) × (s < t) × (t ≤ s + busy) × (quiet t ≡ true)
    next_quiet s fits = elim (waiting (s + busy) fits) [
      | inl now ↦ let some = p.some in (s + busy, omega (arith, some), omega arith, now)
      | inr w ↦ let since = w.since in let short = w.short in (w.start, omega (arith, since, short), omega (arith, since), w.was)
    ]
