-- How the work in a window grows with the window.
use Rattle.std.proofs.Common.{◌≡◌, ℕ, ◌+◌, ◌≤◌, List, length, take, arith, inl, inr}
use Rattle.std.proofs.Math.Nat.{mul-le-mul_right, div-zero, mod-zero}
use Rattle.std.proofs.lemmas.Bool.{cases_lt}
use Rattle.std.proofs.lemmas.Grind.{div_ceil_times}
use Rattle.std.proofs.lemmas.List.Sums.{sum_by-le-sum_by}
use Rattle.hk_rta.specs.declared.Timing.{Timing}
use Rattle.hk_rta.specs.declared.Load.{Load}
use Rattle.hk_rta.specs.Demand.{starts_in, demand_of, demand, work_of, work_in, cost_at}
use Rattle.hk_rta.specs.Busy.{Suffices}
use Rattle.hk_rta.specs.Response.{Solves}

-- in a longer window a period begins at least as often
pub starts_grow : (a b period : ℕ) → a ≤ b → starts_in a period ≤ starts_in b period
starts_grow a b period h =
    elim (cases_lt 0 period) [
      | inl some ↦ elim (cases_lt (starts_in b period) (starts_in a period)) [
        | inl less ↦ absurd (omega (arith, div_ceil_times a period some, div_ceil_times b period some, mul-le-mul_right period less))
        | inr fine ↦ fine
      ]
      | inr none ↦ let e : period ≡ 0 = omega arith in rw (e, div-zero a, div-zero b, mod-zero a, mod-zero b) (omega arith)
    ]

-- in a longer window the tasks bring at least as much work
pub demand_grows : (tasks : List Timing) (a b : ℕ) → a ≤ b → demand tasks a ≤ demand tasks b
demand_grows tasks a b h =
    sum_by-le-sum_by (demand_of a) (demand_of b) tasks
    (λ t. mul-le-mul_right t.cost (starts_grow (a + t.jitter) (b + t.jitter) t.period (omega (arith, h))))

-- in a longer window the loads bring at least as much work
pub work_grows : (loads : List Load) (a b : ℕ) → a ≤ b → work_in loads a ≤ work_in loads b
work_grows loads a b h =
    sum_by-le-sum_by (work_of a) (work_of b) loads
    (λ l. mul-le-mul_right l.work (starts_grow (a + l.jitter) (b + l.jitter) l.period (omega (arith, h))))

-- one step of the iteration from below stays at or below each solution
pub solves_above : (tasks : List Timing) (i length r : ℕ) → length ≤ r → Solves tasks i r → cost_at tasks i + demand (take i tasks) length ≤ r
solves_above tasks i length r h s = omega (arith, s.balanced, demand_grows (take i tasks) length r h)

-- and so does one of a busy period
pub suffices_above : (loads : List Load) (base length x : ℕ) → length ≤ x → Suffices loads base x → base + work_in loads length ≤ x
suffices_above loads base length x h s = omega (arith, s.enough, work_grows loads length x h)
