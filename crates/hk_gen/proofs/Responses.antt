-- The response times: each task's cost and those of the tasks before it, since no period begins anew meanwhile.
use Rattle.std.proofs.Common.{◌≡◌, refl, subst, ℕ, zero, suc, ◌+◌, ◌*◌, ◌<◌, ◌≤◌, List, [], ◌∷◌, All, slice_index, arith}
use Rattle.std.proofs.Math.Nat.{mul-le-mul_right}
use Rattle.std.proofs.lemmas.List.Elements.{All-nil, All-cons}
use Rattle.hk_rta.specs.declared.Timing.{Timing}
use Rattle.hk_rta.specs.Demand.{starts_in, deadline_at, jitter_at}
use Rattle.hk_rta.specs.Least.{IsLeast}
use Rattle.hk_rta.specs.Response.{Solves, Response}
use Rattle.hk_admit.specs.Conditions.{AreResponses}
use Rattle.hk_gen.proofs.Starts.{starts_some, starts_once}
use Rattle.hk_gen.proofs.Times.{three, AreTimes}

-- what one task brings in a window of a tick or more, and in one that isn't longer than its period
at_least : (window cost period : ℕ) → 1 ≤ window → 1 ≤ period → cost ≤ starts_in (window + 0) period * cost
at_least window cost period some positive =
    omega (arith, mul-le-mul_right cost (starts_some (window + 0) period (omega arith) positive))

exactly : (window cost period : ℕ) → 1 ≤ window → window ≤ period → starts_in (window + 0) period * cost ≡ cost
exactly window cost period some short = rw (starts_once (window + 0) period (omega arith) (omega arith)) (omega arith)

module _ (c0 c1 c2 p0 p1 p2 : ℕ) (t : AreTimes c0 c1 c2 p0 p1 p2) where
  abbrev tasks : List Timing
  tasks = three c0 c1 c2 p0 p1 p2

  -- a length is a response time, where it solves the equation and no solution is shorter
  response_from : (i r : ℕ) → jitter_at tasks i ≡ 0 → Solves tasks i r → ((m : ℕ) → Solves tasks i m → r ≤ m) → Response tasks i r
  response_from i r none solves least = record {
    after_jitter = omega (arith, none);
    least = subst (IsLeast (Solves tasks i)) (omega (arith, none)) (record { holds = solves; least = least });
  }

  first : Response tasks 0 c0
  first = response_from 0 c0 refl
      (record { positive = omega (arith, t.first.some); balanced = omega arith })
      (λ m s. omega (arith, s.balanced))

  second : Response tasks 1 (c0 + c1)
  second = response_from 1 (c0 + c1) refl
      (record {
        positive = omega (arith, t.first.some);
        balanced = omega (arith, exactly (c0 + c1) c0 p0 (omega (arith, t.first.some)) (omega (arith, t.first.few, t.second.few, t.once.some)));
      })
      (λ m s. omega (arith, s.balanced, at_least m c0 p0 (omega (arith, s.positive)) (omega (arith, t.once.some))))

  third : Response tasks 2 (c0 + c1 + c2)
  third =
      let some : 1 ≤ c0 + c1 + c2 = omega (arith, t.first.some) in
      let few : c0 + c1 + c2 ≤ 210 = omega (arith, t.first.few, t.second.few, t.third.few) in
      response_from 2 (c0 + c1 + c2) refl
      (record {
        positive = some;
        balanced = omega (arith, exactly (c0 + c1 + c2) c0 p0 some (omega (arith, few, t.once.some)), exactly (c0 + c1 + c2) c1 p1 some (omega (arith, few, t.twice.some)));
      })
      (λ m s.
      let positive : 1 ≤ m = omega (arith, s.positive) in
      omega (arith, s.balanced, at_least m c0 p0 positive (omega (arith, t.once.some)), at_least m c1 p1 positive (omega (arith, t.twice.some))))

  abbrev pub responses : List ℕ
  responses = c0 ∷ (c0 + c1) ∷ (c0 + c1 + c2) ∷ []

  each : (i : ℕ) → i < 3 → Response tasks i (slice_index responses i)
  each zero less = first
  each (suc zero) less = second
  each (suc (suc zero)) less = third
  each (suc (suc (suc i))) less = absurd (omega arith)

  short : (i : ℕ) → i < 3 → slice_index responses i ≤ deadline_at tasks i
  short zero less = omega (arith, t.first.few, t.once.some)
  short (suc zero) less = omega (arith, t.first.few, t.second.few, t.twice.some)
  short (suc (suc zero)) less = omega (arith, t.first.few, t.second.few, t.third.few, t.fourth.some)
  short (suc (suc (suc i))) less = absurd (omega arith)

  pub are_responses : AreResponses tasks responses
  are_responses = record { whole = refl; each = each; in_time = short }

  -- none is above 210 ticks
  pub responses_few : All (λ response. response ≤ 210) responses
  responses_few =
      All-cons (λ response. response ≤ 210) c0 ((c0 + c1) ∷ (c0 + c1 + c2) ∷ []) (omega (arith, t.first.few))
      (All-cons (λ response. response ≤ 210) (c0 + c1) ((c0 + c1 + c2) ∷ []) (omega (arith, t.first.few, t.second.few))
      (All-cons (λ response. response ≤ 210) (c0 + c1 + c2) [] (omega (arith, t.first.few, t.second.few, t.third.few))
      (All-nil (λ response. response ≤ 210))))
