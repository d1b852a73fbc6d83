-- What tasks demand, by their indices, and what the equation of the response time says of a task behind others.
use Rattle.std.proofs.Common.{◌≡◌, ◌∙◌, refl, sym, ap, ℕ, ◌+◌, ◌<◌, List, [], ◌∷◌, ◌++◌, length, take}
use Rattle.std.specs.List.{sum_by}
use Rattle.std.proofs.lemmas.List.{map_push, length-map, take_at, get_or_push}
use Rattle.std.proofs.lemmas.List.Sums.{sum_by-cons}
use Rattle.hk_rta.specs.declared.Timing.{Timing}
use Rattle.hk_rta.specs.Demand.{demand, demand_of, timing_at, cost_at, no_timing}
use Rattle.hk_rta.specs.Response.{Solves}
use Rattle.hk_assign.specs.Orders.{in_order}

-- what a task demands in a window
abbrev pub asks : List Timing → ℕ → ℕ → ℕ
asks timings window task = demand_of window (timing_at timings task)

pub demand_is : (timings : List Timing) (tasks : List ℕ) (window : ℕ) → demand (in_order timings tasks) window ≡ sum_by (asks timings window) tasks
demand_is timings [] window = refl
demand_is timings (task ∷ rest) window =
    sum_by-cons (demand_of window) (timing_at timings task) (in_order timings rest)
    ∙ ap (λ (n : ℕ). asks timings window task + n) (demand_is timings rest window)
    ∙ sym (sum_by-cons (asks timings window) task rest)

-- the row of some tasks and one behind them
row_is : (timings : List Timing) (before : List ℕ) (task : ℕ) → in_order timings (before ++ task ∷ []) ≡ in_order timings before ++ timing_at timings task ∷ []
row_is timings before task = map_push (timing_at timings) before task

pub last_is : (timings : List Timing) (before : List ℕ) (task : ℕ) → timing_at (in_order timings (before ++ task ∷ [])) (length before) ≡ timing_at timings task
last_is timings before task =
    ap (λ (row : List Timing). timing_at row (length before)) (row_is timings before task)
    ∙ get_or_push (in_order timings before) (timing_at timings task) no_timing (length before) (length-map before (timing_at timings))

before_is : (timings : List Timing) (before : List ℕ) (task : ℕ) → take (length before) (in_order timings (before ++ task ∷ [])) ≡ in_order timings before
before_is timings before task =
    ap (λ (row : List Timing). take (length before) row) (row_is timings before task)
    ∙ take_at (in_order timings before) (timing_at timings task ∷ []) (length before) (length-map before (timing_at timings))

pub needed_is : (timings : List Timing) (before : List ℕ) (task r : ℕ) → cost_at (in_order timings (before ++ task ∷ [])) (length before) + demand (take (length before) (in_order timings (before ++ task ∷ []))) r ≡ (timing_at timings task).cost + sum_by (asks timings r) before
needed_is timings before task r =
    let cost = ap (λ (t : Timing). t.cost) (last_is timings before task) in
    let asked = ap (λ (row : List Timing). demand row r) (before_is timings before task) ∙ demand_is timings before r in
    λ i. cost i + asked i

-- a task solves the equation behind others
pub record Ends (timings : List Timing) (before : List ℕ) (task r : ℕ) : Type 0 where
  pub positive : 0 < r
  pub balanced : r ≡ (timing_at timings task).cost + sum_by (asks timings r) before

pub ends_from : (timings : List Timing) (before : List ℕ) (task r : ℕ) → Solves (in_order timings (before ++ task ∷ [])) (length before) r → Ends timings before task r
ends_from timings before task r s = record { positive = s.positive; balanced = s.balanced ∙ needed_is timings before task r }

pub solves_from : (timings : List Timing) (before : List ℕ) (task r : ℕ) → Ends timings before task r → Solves (in_order timings (before ++ task ∷ [])) (length before) r
solves_from timings before task r e = record { positive = e.positive; balanced = e.balanced ∙ sym (needed_is timings before task r) }
