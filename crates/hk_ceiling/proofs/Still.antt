-- What jobs bring in a window, where none becomes ready after it arrives.
use Rattle.std.proofs.Common.{◌≡◌, ℕ, zero, suc, ◌+◌, ◌*◌, ◌≤◌, List, length, take, refl, ap, subst, arith}
use Rattle.std.proofs.lemmas.List.Sums.{sum_by_more}
use Rattle.hk_rta.specs.declared.Timing.{Timing}
use Rattle.hk_rta.specs.Demand.{starts_in, demand_of, demand, no_timing, timing_at}
use Rattle.hk_ceiling.specs.Bounds.{AreStill, brought}

pub still_demand : (task : Timing) (window : ℕ) → task.jitter ≡ 0 → demand_of window task ≡ starts_in window task.period * task.cost
still_demand task window still =
    let same : window + task.jitter ≡ window = omega (arith, still) in
    ap (λ w. starts_in w task.period * task.cost) same

pub brought_is : (tasks : List Timing) (window : ℕ) → AreStill tasks → (n : ℕ) → n ≤ length tasks → demand (take n tasks) window ≡ brought (take n tasks) window
brought_is tasks window still zero fits = refl
brought_is tasks window still (suc n) fits =
    let next : n + 1 ≡ suc n = omega arith in
    let P : ℕ → Type 0 = λ k. demand (take k tasks) window ≡ brought (take k tasks) window in
    let a = sum_by_more (demand_of window) tasks n no_timing (omega (arith, fits)) in
    let b = sum_by_more (λ (task : Timing). starts_in window task.period * task.cost) tasks n no_timing (omega (arith, fits)) in
    subst P next (omega (arith, a, b, brought_is tasks window still n (omega (arith, fits)), still_demand (timing_at tasks n) window (still n (omega (arith, fits)))))
