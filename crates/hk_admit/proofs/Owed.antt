-- The most that can be owed in a busy period is at most its length.
use Rattle.std.proofs.Common.{◌≡◌, refl, subst, ℕ, ◌+◌, ◌^◌, ◌≤◌, ◌↔◌, List, [], ◌∷◌, map, Option, None, Some, IfSome, IsNone, MatchOption, arith}
use Rattle.std.specs.List.{sum_by}
use Rattle.std.proofs.lemmas.List.Sums.{sum_by-cons, sum_by-le-sum_by}
use Rattle.std.proofs.Math.Nat.{mul-le-mul_left}
use Rattle.hk_rta.specs.declared.Load.{Load}
use Rattle.hk_rta.specs.Busy.{Busy, IsOverfull}
use Rattle.hk_rta.specs.Demand.{starts_in, work_of, work_in}
use Rattle.hk_sheet.specs.declared.sheet.High.{High}
use Rattle.hk_sheet.specs.declared.sheet.Sheet.{Sheet}
use Rattle.hk_admit.specs.Analysis.{job_events, load_of, loads, base, events_in, attempt_events, IsBusy}

-- a sum over a list that was mapped
sum_by-map : {X Y : Type 0} (f : Y → ℕ) (g : X → Y) (xs : List X) → sum_by f (map g xs) ≡ sum_by (λ x. f (g x)) xs
sum_by-map f g [] = refl
sum_by-map f g (x ∷ xs) =
    rw (sum_by-cons f (g x) (map g xs), sum_by-cons (λ x. f (g x)) x xs, sum_by-map f g xs) refl

-- what a task's jobs make the collector owe in a window is part of what the task brings
events-le-work : (rate attempt window : ℕ) (task : High) → events_in rate attempt window task ≤ work_of window (load_of rate attempt task)
events-le-work rate attempt window task =
    let less : job_events rate attempt task ≤ task.timing.cost + job_events rate attempt task = omega arith in
    mul-le-mul_left (starts_in (window + task.timing.jitter) task.timing.period) less

all_events-le-work : (rate attempt window : ℕ) (tasks : List High) → sum_by (events_in rate attempt window) tasks ≤ work_in (map (load_of rate attempt) tasks) window
all_events-le-work rate attempt window tasks =
    rw (sum_by-map (work_of window) (load_of rate attempt) tasks)
    (sum_by-le-sum_by (events_in rate attempt window) (λ task. work_of window (load_of rate attempt task)) tasks (events-le-work rate attempt window))

owed-le-busy : (sheet : Sheet) (x : ℕ) → IsBusy sheet x → sum_by (events_in sheet.heap.rate (attempt_events sheet) x) sheet.high ≤ x
owed-le-busy sheet x busy =
    omega (arith, busy.least.holds.enough, all_events-le-work sheet.heap.rate (attempt_events sheet) x sheet.high)

-- the same of the parts that the code reads
pub owed_few : (sheet : Sheet) (rate attempt x : ℕ) (tasks : List High) → rate ≡ sheet.heap.rate → attempt ≡ attempt_events sheet → tasks ≡ sheet.high → IsBusy sheet x → sum_by (events_in rate attempt x) tasks ≤ 2 ^ 24
owed_few sheet rate attempt x tasks r a t busy =
    rw (r, a, t) (omega (arith, busy.short, owed-le-busy sheet x busy))

pub same_loads : (sheet : Sheet) (rate attempt : ℕ) (tasks : List High) → rate ≡ sheet.heap.rate → attempt ≡ attempt_events sheet → tasks ≡ sheet.high → map (load_of rate attempt) tasks ≡ loads sheet
same_loads sheet rate attempt tasks r a t = λ i. map (load_of (r i) (a i)) (t i)

-- what is answered of the busy period
pub busy_answer : (sheet : Sheet) (brought : List Load) (waiting cap : ℕ) (r : Option ℕ) → brought ≡ loads sheet → waiting ≡ base sheet → cap ≡ 2 ^ 24 → IfSome r (λ x. Busy brought waiting x) → IfSome r (λ x. x ≤ cap) → (IsNone r ↔ IsOverfull brought waiting cap) → MatchOption r (IsOverfull (loads sheet) (base sheet) (2 ^ 24)) (λ x. IsBusy sheet x)
busy_answer sheet brought waiting cap None b w e found short none =
    subst (λ (n : ℕ). IsOverfull (loads sheet) (base sheet) n) e (subst (λ (n : ℕ). IsOverfull (loads sheet) n cap) w (subst (λ (l : List Load). IsOverfull l waiting cap) b (none.0 refl)))
busy_answer sheet brought waiting cap (Some x) b w e found short none = record {
  least = subst (λ (n : ℕ). Busy (loads sheet) n x) w (subst (λ (l : List Load). Busy l waiting x) b found);
  short = subst (λ (n : ℕ). x ≤ n) e short;
}
