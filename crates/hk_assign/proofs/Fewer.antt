-- Where tasks that demand no more go before it, a task that was in time is in time.
use Rattle.std.proofs.Common.{◌≡◌, refl, sym, ap, subst, ℕ, ◌+◌, ◌-◌, ◌<◌, ◌≤◌, zero, suc, Bool, true, false, ◌&&◌, nat_lt, nat_le, List, [], ◌∷◌, ◌++◌, length, arith, inl, inr}
use Rattle.std.specs.List.{sum_by}
use Rattle.std.proofs.lemmas.Bool.{cases_lt}
use Rattle.std.proofs.lemmas.Bool.Decides.{nat_tests}
use Rattle.hk_rta.specs.declared.Timing.{Timing}
use Rattle.hk_rta.specs.Demand.{timing_at, jitter_at}
use Rattle.hk_rta.specs.Least.{IsLeast}
use Rattle.hk_rta.specs.Response.{Solves}
use Rattle.hk_rta.proofs.Steps.{demand_grows}
use Rattle.hk_assign.specs.Orders.{in_order, IsInTime}
use Rattle.hk_assign.proofs.Demands.{asks, demand_is, last_is, Ends, ends_from, solves_from}

-- the least number that passes a test, where one does
pub record LeastTo (p : ℕ → Bool) (bound : ℕ) : Type 0 where
  pub n : ℕ
  pub passes : p n ≡ true
  pub within : n ≤ bound
  pub below : (k : ℕ) → k < n → p k ≡ false

least_from : (p : ℕ → Bool) (fuel m : ℕ) → p (m + fuel) ≡ true → ((k : ℕ) → k < m → p k ≡ false) → LeastTo p (m + fuel)
least_from p zero m here below = record { n = m; passes = subst (λ (n : ℕ). p n ≡ true) (omega arith) here; within = omega arith; below = below }
least_from p (suc fuel) m here below = by (least_from p fuel (m + 1) (subst (λ (n : ℕ). p n ≡ true) (omega arith) here)) (p m) refl
  where
    more : p m ≡ false → (k : ℕ) → k < m + 1 → p k ≡ false
    more e k less = elim (cases_lt k m) [
      | inl before ↦ below k before
      | inr past ↦ let same : k ≡ m = omega arith in subst (λ (n : ℕ). p n ≡ false) (sym same) e
    ]

    by : (((k : ℕ) → k < m + 1 → p k ≡ false) → LeastTo p (m + 1 + fuel)) → (b : Bool) → p m ≡ b → LeastTo p (m + suc fuel)
    by later true e = record { n = m; passes = e; within = omega arith; below = below }
    by later false e =
        let rest = later (more e) in
        record { n = rest.n; passes = rest.passes; within = omega (arith, rest.within); below = rest.below }

pub least_to : (p : ℕ → Bool) (bound : ℕ) → p bound ≡ true → LeastTo p bound
least_to p bound here =
    let same : 0 + bound ≡ bound = omega arith in
    subst (LeastTo p) same (least_from p bound 0 (subst (λ (n : ℕ). p n ≡ true) (sym same) here) (λ k less. absurd (omega arith)))

-- a positive length that has room for the task and for what goes before it
abbrev has_room : List Timing → List ℕ → ℕ → ℕ → Bool
has_room timings before task r = nat_lt 0 r && nat_le ((timing_at timings task).cost + sum_by (asks timings r) before) r

room_from : (n r : ℕ) → 0 < r → n ≤ r → (nat_lt 0 r && nat_le n r) ≡ true
room_from n r some fits = grind (arith, nat_tests)

room_gives : (n r : ℕ) → (nat_lt 0 r && nat_le n r) ≡ true → (0 < r) × (n ≤ r)
room_gives n r holds = (grind (arith, nat_tests), grind (arith, nat_tests))

no_room : (n r : ℕ) → (nat_lt 0 r && nat_le n r) ≡ false → 0 < r → r < n
no_room n r fails some = grind (arith, nat_tests)

-- in a longer window tasks ask for no less
asks_grow : (timings : List Timing) (tasks : List ℕ) (a b : ℕ) → a ≤ b → sum_by (asks timings a) tasks ≤ sum_by (asks timings b) tasks
asks_grow timings tasks a b less =
    omega (arith, demand_is timings tasks a, demand_is timings tasks b, demand_grows (in_order timings tasks) a b less)

-- the least length with room is one that the equation holds of
least_ends : (timings : List Timing) (before : List ℕ) (task bound : ℕ) → 1 ≤ (timing_at timings task).cost → (l : LeastTo (has_room timings before task) bound) → Ends timings before task l.n
least_ends timings before task bound some l =
    let holds = room_gives ((timing_at timings task).cost + sum_by (asks timings l.n) before) l.n l.passes in
    let needed : ℕ = (timing_at timings task).cost + sum_by (asks timings l.n) before in
    elim (cases_lt needed l.n) [
      | inl less ↦ absurd (omega (
        arith,
        no_room ((timing_at timings task).cost + sum_by (asks timings needed) before) needed (l.below needed less) (omega arith),
        asks_grow timings before needed l.n (omega (arith, holds.1)),
      ))
      | inr past ↦ record { positive = holds.0; balanced = omega (arith, holds.1) }
    ]

least_is : (timings : List Timing) (before : List ℕ) (task bound : ℕ) → 1 ≤ (timing_at timings task).cost → (l : LeastTo (has_room timings before task) bound) → IsLeast (Solves (in_order timings (before ++ task ∷ [])) (length before)) l.n
least_is timings before task bound some l = record {
  holds = solves_from timings before task l.n (least_ends timings before task bound some l);
  least = λ m solves.
      let ends = ends_from timings before task m solves in
      elim (cases_lt m l.n) [
        | inl less ↦ absurd (omega (
          arith,
          ends.balanced,
          no_room ((timing_at timings task).cost + sum_by (asks timings m) before) m (l.below m less) ends.positive,
        ))
        | inr past ↦ past
      ];
}

-- A task that is in time behind some tasks is in time behind others, where these ask for no more in any window. So the
-- response time depends on the set of the tasks before it alone, and each part of the set gives one that is no longer.
pub fewer : (timings : List Timing) (fewer more : List ℕ) (task : ℕ) → 1 ≤ (timing_at timings task).cost → ((window : ℕ) → sum_by (asks timings window) fewer ≤ sum_by (asks timings window) more) → IsInTime timings more task → IsInTime timings fewer task
fewer timings xs ys task some less h =
    let own : ℕ = (timing_at timings task).jitter in
    let jitter_xs : jitter_at (in_order timings (xs ++ task ∷ [])) (length xs) ≡ own = ap (λ (t : Timing). t.jitter) (last_is timings xs task) in
    let jitter_ys : jitter_at (in_order timings (ys ++ task ∷ [])) (length ys) ≡ own = ap (λ (t : Timing). t.jitter) (last_is timings ys task) in
    let r : ℕ = h.response - jitter_at (in_order timings (ys ++ task ∷ [])) (length ys) in
    let ends = ends_from timings ys task r h.is_response.least.holds in
    let l = least_to (has_room timings xs task) r (room_from ((timing_at timings task).cost + sum_by (asks timings r) xs) r ends.positive (omega (arith, ends.balanced, less r))) in
    record {
      response = l.n + own;
      is_response = record {
        after_jitter = omega (arith, jitter_xs);
        least = subst (IsLeast (Solves (in_order timings (xs ++ task ∷ [])) (length xs))) (omega (arith, jitter_xs)) (least_is timings xs task r some l);
      };
      in_time = omega (arith, l.within, h.in_time, h.is_response.after_jitter, jitter_ys);
    }
