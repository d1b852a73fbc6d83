-- The task of a seat.
use Rattle.std.proofs.Common.{◌≡◌, ℕ, ◌<◌, ◌≤◌, ◌+◌, ◌*◌, ◌^◌, List, [], ◌∷◌, ◌++◌, length, map, zero, suc, refl, sym, ◌∙◌, ap, subst, arith, true, false, Bool}
use Rattle.std.proofs.lemmas.Bool.Decides.{nat_tests}
use Rattle.std.specs.Prelude.{nat_le, slice_index_or, ◌&&◌}
use Rattle.std.specs.List.{AllByRecursion}
use Rattle.hk_script.specs.Cost.{greatest_ticks}
use Rattle.hk_sheet.specs.declared.sheet.High.{High}
use Rattle.hk_sheet.specs.declared.sheet.Low.{Low}
use Rattle.hk_sheet.specs.declared.sheet.Sheet.{Sheet}
use Rattle.hk_sheet.specs.Faults.{is_name}
use Rattle.hk_sheet.specs.declared.sheet.TheConstants.{MAX_NAME}
use Rattle.hk_sheet.specs.Valid.{IsHigh, IsLow, IsSheet, AreArrivals}
use Rattle.hk_race.specs.declared.desk.TheConstants.{MOST_CALLS}
use Rattle.hk_race.specs.declared.tasks.Held.{Held}
use Rattle.hk_race.specs.Goes.{RunsOn}
use Rattle.hk_race.specs.Shown.{shown, IsHeld}
use Rattle.hk_race.specs.Tasks.{Task, no_task, of_high, of_low, tasks_of, task_at, is_long, HasNoLong}

pub each_at : {A : Type 0} (P : A → Type 0) (xs : List A) (i : ℕ) (d : A) → AllByRecursion P xs → i < length xs → P (slice_index_or xs i d)
each_at P [] i d each below = absurd (omega (arith, below))
each_at P (x ∷ xs) zero d each below = each.0
each_at P (x ∷ xs) (suc i) d each below = each_at P xs i d each.1 (omega (arith, below))

front : (horizon : ℕ) (high : List High) (low : List Task) (seat : ℕ) (d : High) → seat < length high
    → slice_index_or (map (of_high horizon) high ++ low) seat no_task ≡ of_high horizon (slice_index_or high seat d)
front horizon [] low seat d below = absurd (omega (arith, below))
front horizon (x ∷ high) low zero d below = refl
front horizon (x ∷ high) low (suc seat) d below = front horizon high low seat d (omega (arith, below))

rest_at : (horizon : ℕ) (low : List Low) (seat : ℕ) (d : Low) → seat < length low → slice_index_or (map (of_low horizon) low) seat no_task ≡ of_low horizon (slice_index_or low seat d)
rest_at horizon [] seat d below = absurd (omega (arith, below))
rest_at horizon (x ∷ low) zero d below = refl
rest_at horizon (x ∷ low) (suc seat) d below = rest_at horizon low seat d (omega (arith, below))

back : (horizon : ℕ) (high : List High) (low : List Low) (seat : ℕ) (d : Low) → seat < length low
    → slice_index_or (map (of_high horizon) high ++ map (of_low horizon) low) (length high + seat) no_task ≡ of_low horizon (slice_index_or low seat d)
back horizon [] low seat d below = let e : 0 + seat ≡ seat = omega arith in ap (λ (n : ℕ). slice_index_or (map (of_low horizon) low) n no_task) e ∙ rest_at horizon low seat d below
back horizon (x ∷ high) low seat d below =
    let e : suc (length high) + seat ≡ suc (length high + seat) = omega arith in
    ap (λ (n : ℕ). slice_index_or (of_high horizon x ∷ (map (of_high horizon) high ++ map (of_low horizon) low)) n no_task) e ∙ back horizon high low seat d below

pub high_at : (sheet : Sheet) (seat : ℕ) (d : High) → seat < length sheet.high → task_at sheet seat ≡ of_high sheet.ticks (slice_index_or sheet.high seat d)
high_at sheet seat d below = front sheet.ticks sheet.high (map (of_low sheet.ticks) sheet.low) seat d below

pub low_at : (sheet : Sheet) (seat place : ℕ) (d : Low) → seat ≡ length sheet.high + place → place < length sheet.low → task_at sheet seat ≡ of_low sheet.ticks (slice_index_or sheet.low place d)
low_at sheet seat place d is below = ap (task_at sheet) is ∙ back sheet.ticks sheet.high sheet.low place d below

map_length : {A B : Type 0} (f : A → B) (xs : List A) → length (map f xs) ≡ length xs
map_length f [] = refl
map_length f (x ∷ xs) = ap suc (map_length f xs)

append_length : {A : Type 0} (xs ys : List A) → length (xs ++ ys) ≡ length xs + length ys
append_length [] ys = omega arith
append_length (x ∷ xs) ys = let e = append_length xs ys in omega (arith, e)

pub tasks_count : (sheet : Sheet) → length (tasks_of sheet) ≡ length sheet.high + length sheet.low
tasks_count sheet =
    let a = append_length (map (of_high sheet.ticks) sheet.high) (map (of_low sheet.ticks) sheet.low) in
    let h = map_length (of_high sheet.ticks) sheet.high in
    let l = map_length (of_low sheet.ticks) sheet.low in
    omega (arith, a, h, l)

-- WHAT A SHEET SAYS OF A TASK
name_short : (name : List ℕ) → is_name name ≡ true → length name ≤ MAX_NAME
name_short [] is = omega arith
name_short (x ∷ name) is = few (and_right _ _ (and_right _ _ is))
  where
    and_right : (a b : Bool) → (a && b) ≡ true → b ≡ true
    and_right true b e = e
    and_right false b e = absurd (cc)

    few : nat_le (length (x ∷ name)) 16 ≡ true → length (x ∷ name) ≤ MAX_NAME
    few le = grind (arith, nat_tests)

-- a task of a seat that isn't long, of a sheet that can be read
pub record TaskFits (sheet : Sheet) (seat : ℕ) (x : Task) : Type 0 where
  pub is : task_at sheet seat ≡ x
  pub short : is_long x ≡ false
  pub name : length x.name ≤ MAX_NAME
  pub script : RunsOn sheet.heap.registers x.script

pub high_valid : (sheet : Sheet) (seat : ℕ) (task : High) → IsSheet sheet → seat < length sheet.high → ((d : High) → slice_index_or sheet.high seat d ≡ task) → IsHigh sheet.ticks sheet.heap task
high_valid sheet seat task valid below at = subst (IsHigh sheet.ticks sheet.heap) (at task) (each_at (IsHigh sheet.ticks sheet.heap) sheet.high seat task valid.high below)

pub low_valid : (sheet : Sheet) (place : ℕ) (task : Low) → IsSheet sheet → place < length sheet.low → ((d : Low) → slice_index_or sheet.low place d ≡ task) → IsLow sheet.ticks sheet.heap task
low_valid sheet place task valid below at = subst (IsLow sheet.ticks sheet.heap) (at task) (each_at (IsLow sheet.ticks sheet.heap) sheet.low place task valid.low below)

pub high_arrivals : (sheet : Sheet) (seat ticks : ℕ) (task : High) → IsSheet sheet → seat < length sheet.high → ((d : High) → slice_index_or sheet.high seat d ≡ task) → ticks ≡ sheet.ticks
    → AreArrivals ticks task.timing.period task.arrivals
high_arrivals sheet seat ticks task valid below at is =
    subst (λ (n : ℕ). AreArrivals n task.timing.period task.arrivals) (sym is) (high_valid sheet seat task valid below at).arrivals

pub low_arrivals : (sheet : Sheet) (place ticks : ℕ) (task : Low) → IsSheet sheet → place < length sheet.low → ((d : Low) → slice_index_or sheet.low place d ≡ task) → ticks ≡ sheet.ticks
    → AreArrivals ticks 1 task.arrivals
low_arrivals sheet place ticks task valid below at is = subst (λ (n : ℕ). AreArrivals n 1 task.arrivals) (sym is) (low_valid sheet place task valid below at).arrivals

pub high_fits : (sheet : Sheet) (seat ticks : ℕ) (task : High) → IsSheet sheet → HasNoLong sheet → seat < length sheet.high → ((d : High) → slice_index_or sheet.high seat d ≡ task) → ticks ≡ sheet.ticks
    → TaskFits sheet seat (of_high ticks task)
high_fits sheet seat ticks task valid short below at is =
    let whole : task_at sheet seat ≡ of_high ticks task = high_at sheet seat task below ∙ (λ i. of_high (sym is i) (at task i)) in
    let count = tasks_count sheet in
    let fits = high_valid sheet seat task valid below at in
    record {
      is = whole;
      short = ap is_long (sym whole) ∙ short seat (omega (arith, below, count));
      name = name_short task.name fits.name;
      script = record { fields = sheet.heap.fields; is = fits.script };
    }

pub low_fits : (sheet : Sheet) (seat place ticks : ℕ) (task : Low) → IsSheet sheet → HasNoLong sheet → seat ≡ length sheet.high + place → place < length sheet.low → ((d : Low) → slice_index_or sheet.low place d ≡ task)
    → ticks ≡ sheet.ticks → TaskFits sheet seat (of_low ticks task)
low_fits sheet seat place ticks task valid short where' below at is =
    let whole : task_at sheet seat ≡ of_low ticks task = low_at sheet seat place task where' below ∙ (λ i. of_low (sym is i) (at task i)) in
    let count = tasks_count sheet in
    let fits = low_valid sheet place task valid below at in
    record {
      is = whole;
      short = ap is_long (sym whole) ∙ short seat (omega (arith, below, count, where'));
      name = name_short task.name fits.name;
      script = record { fields = sheet.heap.fields; is = fits.script };
    }

pub is_held : (sheet : Sheet) (seat : ℕ) (x : Task) (t : Held) → TaskFits sheet seat x → shown t ≡ x → t.cost ≡ greatest_ticks x.script → t.jobs < 2 ^ 32 → t.jobs * t.cost ≤ MOST_CALLS
    → IsHeld sheet.heap.registers t
is_held sheet seat x t fits is cost jobs few = record {
  name = subst (λ (y : Task). length y.name ≤ MAX_NAME) (sym is) fits.name;
  script = subst (λ (y : Task). RunsOn sheet.heap.registers y.script) (sym is) fits.script;
  cost = cost ∙ ap (λ (y : Task). greatest_ticks y.script) (sym is);
  jobs = jobs;
  few = few;
}

pub high_is : (sheet : Sheet) (seat ticks : ℕ) (task : High) → seat < length sheet.high → ((d : High) → slice_index_or sheet.high seat d ≡ task) → ticks ≡ sheet.ticks → task_at sheet seat ≡ of_high ticks task
high_is sheet seat ticks task below at is = high_at sheet seat task below ∙ (λ i. of_high (sym is i) (at task i))

pub low_is : (sheet : Sheet) (seat place ticks : ℕ) (task : Low) → seat ≡ length sheet.high + place → place < length sheet.low → ((d : Low) → slice_index_or sheet.low place d ≡ task) → ticks ≡ sheet.ticks
    → task_at sheet seat ≡ of_low ticks task
low_is sheet seat place ticks task where' below at is = low_at sheet seat place task where' below ∙ (λ i. of_low (sym is i) (at task i))
