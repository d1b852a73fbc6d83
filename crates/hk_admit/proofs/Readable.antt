-- What follows for a sheet that can be read.
use Rattle.std.proofs.Common.{◌≡◌, subst, ℕ, ◌≤◌, List, map, All, arith}
use Rattle.std.proofs.lemmas.List.Elements.{All-from_recursion, All-weaker, All-map}
use Rattle.std.proofs.lemmas.Nat.{mul-le}
use Rattle.hk_rta.specs.Demand.{IsTimed, IsLoad}
use Rattle.hk_sheet.specs.declared.sheet.HeapKeys.{HeapKeys}
use Rattle.hk_sheet.specs.declared.sheet.High.{High}
use Rattle.hk_sheet.specs.declared.sheet.Sheet.{Sheet}
use Rattle.hk_sheet.specs.Valid.{IsHigh, IsSheet}
use Rattle.hk_admit.specs.Analysis.{timings_of, load_of, loads, attempt_events}
use Rattle.hk_admit.specs.Ranges.{MOST_ATTEMPT, IsInRange}

-- the times and the words of each high task are in range
in_range : (ticks : ℕ) (heap : HeapKeys) (task : High) → IsHigh ticks heap task → IsInRange task
in_range ticks heap task high = record {
  timing = record {
    cost = (high.timing.cost.at_least, high.timing.cost.at_most);
    period = (high.timing.period.at_least, high.timing.period.at_most);
    deadline = (high.timing.deadline.at_least, omega (arith, high.timing.deadline.at_most, high.timing.period.at_most));
    jitter = omega (arith, high.timing.jitter, high.timing.deadline.at_most, high.timing.period.at_most);
  };
  words = high.words;
}

pub all_in_range : (sheet : Sheet) → IsSheet sheet → All IsInRange sheet.high
all_in_range sheet readable =
    All-weaker (IsHigh sheet.ticks sheet.heap) IsInRange (in_range sheet.ticks sheet.heap) sheet.high
    (All-from_recursion (IsHigh sheet.ticks sheet.heap) sheet.high readable.high)

-- the times of tasks in range are in range, and as many
pub all_timed : (tasks : List High) → All IsInRange tasks → All IsTimed (timings_of tasks)
all_timed tasks all =
    All-map IsTimed (λ (task : High). task.timing) tasks (All-weaker IsInRange (λ (task : High). IsTimed task.timing) (λ task ok. ok.timing) tasks all)

-- what tasks in range bring is in range
load_in_range : (rate attempt : ℕ) → rate ≤ 4096 → attempt ≤ MOST_ATTEMPT → (task : High) → IsInRange task → IsLoad (load_of rate attempt task)
load_in_range rate attempt r a task ok = record {
  period = ok.timing.period;
  jitter = ok.timing.jitter;
  work = omega (arith, ok.timing.cost.1, mul-le rate task.words 4096 16777216 r ok.words);
}

pub all_loads : (rate attempt : ℕ) (tasks : List High) → rate ≤ 4096 → attempt ≤ MOST_ATTEMPT → All IsInRange tasks → All IsLoad (map (load_of rate attempt) tasks)
all_loads rate attempt tasks r a all =
    All-map IsLoad (load_of rate attempt) tasks
    (All-weaker IsInRange (λ (task : High). IsLoad (load_of rate attempt task)) (load_in_range rate attempt r a) tasks all)

pub sheet_loads : (sheet : Sheet) (attempt : ℕ) → IsSheet sheet → attempt ≡ attempt_events sheet → attempt ≤ MOST_ATTEMPT → All IsLoad (loads sheet)
sheet_loads sheet attempt readable is small =
    all_loads sheet.heap.rate (attempt_events sheet) sheet.high readable.heap.rate.at_most (subst (λ (n : ℕ). n ≤ MOST_ATTEMPT) is small) (all_in_range sheet readable)
