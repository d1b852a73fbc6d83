-- Why there is no order: tasks of which none can be the last.
use Rattle.std.proofs.Common.{◌≡◌, ◌∙◌, sym, ap, subst, ℕ, ◌+◌, ◌<◌, ◌≤◌, ◌⊎◌, zero, suc, List, [], ◌∷◌, ◌++◌, All, Contains, length, take, slice_index, arith, inl, inr}
use Rattle.std.specs.List.{range_with_len}
use Rattle.std.proofs.lemmas.List.{take_all, take_more}
use Rattle.std.proofs.lemmas.List.Elements.{All-contains, Contains-push_cases, Contains-get_or}
use Rattle.std.proofs.lemmas.List.Sorted.{Contains-permutation}
use Rattle.hk_rta.specs.declared.Timing.{Timing}
use Rattle.hk_rta.specs.Demand.{IsTimed, timing_at, no_timing}
use Rattle.hk_assign.specs.Orders.{IsInTime, KeepsDeadlines}
use Rattle.hk_assign.specs.Assignment.{others, IsBlocked, IsStuck}
use Rattle.hk_assign.proofs.Demands.{asks}
use Rattle.hk_assign.proofs.Fewer.{fewer}
use Rattle.hk_assign.proofs.Sets.{among_others, different_others, rising_differ, part-le, is_index}

-- a task takes a tick at least
pub costs : (timings : List Timing) (task : ℕ) → All IsTimed timings → task < length timings → 1 ≤ (timing_at timings task).cost
costs timings task timed within = (timed task no_timing within).cost.0

-- Where a task is in time behind some tasks, and each of a blocked set is that task or one of those before it, it is one of
-- those before it: otherwise the task could be the last of the set.
pub blocked_before : (timings : List Timing) (set before : List ℕ) (task : ℕ) → All IsTimed timings → IsBlocked timings set → IsInTime timings before task → ((z : ℕ) → Contains set z → Contains before z ⊎ (task ≡ z)) → (z : ℕ) → Contains set z → Contains before z
blocked_before timings set before task timed blocked in_time each z among =
    elim (each z among) [
      | inl first ↦ first
      | inr here ↦
          let member : Contains set task = subst (Contains set) (sym here) among in
          let within : task < length timings = All-contains (λ (t : ℕ). t < length timings) set task blocked.within member in
          let part : (w : ℕ) → Contains (others set task) w → Contains before w =
          λ w h. let both = among_others set task w h in
          elim (each w both.0) [
            | inl first ↦ first
            | inr same ↦ absurd (both.1 (sym same))
          ] in
          absurd (blocked.none task member
          (fewer timings (others set task) before task (costs timings task timed within)
          (λ window. part-le (asks timings window) (others set task) before (different_others set task (rising_differ set blocked.rising)) part)
          in_time))
    ]

-- the first so many and one more
take_next : (xs : List ℕ) (k : ℕ) → k < length xs → take (suc k) xs ≡ take k xs ++ slice_index xs k ∷ []
take_next xs k within =
    let same : suc k ≡ k + 1 = omega arith in
    ap (λ (n : ℕ). take n xs) same ∙ take_more xs k 0 within

-- A set of which none can be the last lies within each first part of an order that keeps deadlines.
within_first : (timings : List Timing) (set order : List ℕ) → All IsTimed timings → IsBlocked timings set → KeepsDeadlines timings order → (left : ℕ) → left ≤ length order → ((z : ℕ) → Contains set z → Contains (take left order) z) → (z : ℕ) → Contains set z → ⊥
within_first timings set order timed blocked keeps zero short each z among = let at = each z among in absurd (omega (arith, at.1))
within_first timings set order timed blocked keeps (suc left) short each z among =
    within_first timings set order timed blocked keeps left (omega arith)
    (blocked_before timings set (take left order) (slice_index order left) timed blocked (keeps.each left (omega arith))
    (λ w h. Contains-push_cases (take left order) (slice_index order left) w
    (subst (λ (l : List ℕ). Contains l w) (take_next order left (omega arith)) (each w h))))
    z among

-- so where there is such a set, no order keeps deadlines
pub no_order : (timings : List Timing) (set : List ℕ) → All IsTimed timings → IsStuck timings set → (order : List ℕ) → ¬ (KeepsDeadlines timings order)
no_order timings set timed stuck order keeps =
    within_first timings set order timed stuck.blocked keeps (length order) (omega arith)
    (λ z among.
    let within : z < length timings = All-contains (λ (t : ℕ). t < length timings) set z stuck.blocked.within among in
    subst (λ (l : List ℕ). Contains l z) (sym (take_all (length order) order (omega arith)))
    (Contains-permutation (range_with_len 0 (length timings)) order z keeps.is_order (is_index (length timings) z within)))
    (slice_index set 0) (Contains-get_or set 0 0 stuck.some)
