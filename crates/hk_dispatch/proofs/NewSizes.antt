-- The objects that the scripts of a sheet make are no larger than its largest ones; and where no script makes an object no job
-- takes words.
use Rattle.std.proofs.Common.{◌≡◌, ℕ, zero, suc, ◌≤◌, Bool, true, false, ltb, List, [], ◌∷◌, ◌++◌, map, max, length, refl, ◌∙◌, arith, get_or}
use Rattle.std.proofs.lemmas.Bool.Decides.{nat_tests}
use Rattle.std.specs.Prelude.{◌||◌, slice_get}
use Rattle.std.specs.List.{AllByRecursion, fold, list_any}
use Rattle.hk_words.specs.declared.call.Call.{Call}
use Rattle.hk_words.specs.declared.call.Call.TheVariants as call
use Rattle.hk_words.specs.Bounds.{places_of, most_places}
use Rattle.hk_script.specs.declared.statement.Statement.{Statement}
use Rattle.hk_script.specs.declared.statement.Statement.TheVariants as statement
use Rattle.hk_script.specs.declared.statement.Test.TheVariants as test
use Rattle.hk_script.specs.declared.walk.Walk.{Walk}
use Rattle.hk_script.specs.Cost.{words_of, largest_of}
use Rattle.hk_script.specs.Runs.{need_words, taken_by}
use Rattle.hk_script.specs.Walks.{need_in, need_at, need_of}
use Rattle.hk_sheet.specs.declared.sheet.High.{High}
use Rattle.hk_sheet.specs.declared.sheet.Low.{Low}
use Rattle.hk_sheet.specs.declared.sheet.Sheet.{Sheet}
use Rattle.hk_admit.specs.Analysis.{high_sizes, low_sizes, largest_low, largest_object, makes, some_makes}
use Rattle.hk_admit.proofs.Sizes.{makes_is}
use Rattle.hk_dispatch.specs.Tasks.{Task, IsLowSeat, high_task, low_task, tasks_of, no_task, task_at}

-- an operation has at most so many places
pub places_few : (c : Call) → places_of c ≤ most_places
places_few (call.Get reg field) = omega arith
places_few (call.Put reg field value) = omega arith
places_few (call.Load dest reg field) = omega arith
places_few (call.Store reg field from) = omega arith
places_few (call.Move dest from) = omega arith
places_few (call.Clear dest) = omega arith
places_few (call.New dest shape) = omega arith
places_few (call.Same a b) = omega arith
places_few (call.IsNull reg) = omega arith

-- WHAT A WALK WANTS takes no more words than the largest object of its script

need_takes : (w : Walk) (s : Statement) → taken_by need_words (need_in w s) ≤ words_of s
need_takes w (statement.Work n) = omega arith
need_takes w (statement.Set v n) = omega arith
need_takes w (statement.Copy v u) = omega arith
need_takes w (statement.Add v u) = omega arith
need_takes w (statement.Sub v u) = omega arith
need_takes w (statement.Job v) = omega arith
need_takes w (statement.Out v) = omega arith
need_takes w (statement.Get v r f) = omega arith
need_takes w (statement.Put r f v) = omega arith
need_takes w (statement.Load d r f) = omega arith
need_takes w (statement.Store r f t) = omega arith
need_takes w (statement.Move d r) = omega arith
need_takes w (statement.Clear d) = omega arith
need_takes w (statement.New d shape) = omega arith
need_takes w (statement.If (test.Less l r)) = omega arith
need_takes w (statement.If (test.Equal l r)) = omega arith
need_takes w (statement.If (test.Null r)) = omega arith
need_takes w (statement.If (test.Same l r)) = omega arith
need_takes w statement.Else = omega arith
need_takes w (statement.Repeat n) = omega arith
need_takes w statement.End = omega arith

largest_at : (s : List Statement) (place : ℕ) (w : Walk) → taken_by need_words (need_at w (slice_get s place)) ≤ largest_of s
largest_at [] place w = omega arith
largest_at (x ∷ s) zero w = omega (arith, need_takes w x)
largest_at (x ∷ s) (suc place) w = omega (arith, largest_at s place w)

pub wanted_small : (s : List Statement) (w : Walk) → taken_by need_words (need_of s w) ≤ largest_of s
unfolding need_of
wanted_small s w = largest_at s w.place w

-- THE TASKS of a sheet

fold_least : (xs : List ℕ) (a : ℕ) → a ≤ fold max a xs
fold_least [] a = omega arith
fold_least (x ∷ xs) a = omega (arith, fold_least xs (max a x))

-- the script of a task makes no larger object than so many words
abbrev MakesWithin : ℕ → Task → Type 0
MakesWithin most task = largest_of task.script ≤ most

highs_within : (most : ℕ) (xs : List High) (a : ℕ) (rest : List Task) → fold max a (high_sizes xs) ≤ most → AllByRecursion (MakesWithin most) rest → AllByRecursion (MakesWithin most) (map high_task xs ++ rest)
highs_within most [] a rest few all = all
highs_within most (x ∷ xs) a rest few all =
    let least = fold_least (high_sizes xs) (max a (largest_of x.script)) in
    (omega (arith, least, few), highs_within most xs (max a (largest_of x.script)) rest few all)

lows_within : (most : ℕ) (xs : List Low) (a : ℕ) → fold max a (low_sizes xs) ≤ most → AllByRecursion (MakesWithin most) (map low_task xs)
lows_within most [] a few = tt
lows_within most (x ∷ xs) a few =
    let least = fold_least (low_sizes xs) (max a (largest_of x.script)) in
    (omega (arith, least, few), lows_within most xs (max a (largest_of x.script)) few)

each_at : (P : Task → Type 0) (xs : List Task) (i : ℕ) → AllByRecursion P xs → P no_task → P (get_or xs i no_task)
each_at P [] i all none = none
each_at P (x ∷ xs) zero all none = all.0
each_at P (x ∷ xs) (suc i) all none = each_at P xs i all.1 none

beyond_at : (P : Task → Type 0) (xs ys : List Task) (i : ℕ) → AllByRecursion P ys → P no_task → length xs ≤ i → P (get_or (xs ++ ys) i no_task)
beyond_at P [] ys i all none from = each_at P ys i all none
beyond_at P (x ∷ xs) ys zero all none from = absurd (omega (arith, from))
beyond_at P (x ∷ xs) ys (suc i) all none from = beyond_at P xs ys i all none (omega (arith, from))

high_count : (xs : List High) → length (map high_task xs) ≡ length xs
high_count [] = refl
high_count (x ∷ xs) = omega (arith, high_count xs)

module _ (sheet : Sheet) where
  -- any task makes objects of at most the largest size, and a low one of at most that of the low ones
  pub makes_small : (seat : ℕ) → largest_of (task_at sheet seat).script ≤ largest_object sheet
  makes_small seat =
      each_at (MakesWithin (largest_object sheet)) (tasks_of sheet) seat
      (highs_within (largest_object sheet) sheet.high 0 (map low_task sheet.low) (omega arith) (lows_within (largest_object sheet) sheet.low 0 (omega arith)))
      (omega arith)

  pub low_makes_small : (seat : ℕ) → IsLowSeat sheet seat → largest_of (task_at sheet seat).script ≤ largest_low sheet
  low_makes_small seat low =
      beyond_at (MakesWithin (largest_low sheet)) (map high_task sheet.high) (map low_task sheet.low) seat
      (lows_within (largest_low sheet) sheet.low 0 (omega arith)) (omega arith) (let from = low.from in omega (arith, from, high_count sheet.high))

-- WHERE NO SCRIPT MAKES AN OBJECT

neither : (a b : Bool) → (a || b) ≡ false → (a ≡ false) × (b ≡ false)
neither true b e = absurd (cc)
neither false b e = (refl, e)

none_positive : (n : ℕ) → ltb 0 n ≡ false → n ≤ 0
none_positive n e = grind (arith, nat_tests)

makes_none : (script : List Statement) → makes script ≡ false → largest_of script ≤ 0
makes_none script e = none_positive (largest_of script) (makes_is script ∙ e)

highs_none : (xs : List High) (rest : List Task) → list_any (λ (task : High). makes task.script) xs ≡ false → AllByRecursion (MakesWithin 0) rest → AllByRecursion (MakesWithin 0) (map high_task xs ++ rest)
highs_none [] rest none all = all
highs_none (x ∷ xs) rest none all =
    let parts = neither (makes x.script) (list_any (λ (task : High). makes task.script) xs) none in
    (makes_none x.script parts.0, highs_none xs rest parts.1 all)

lows_none : (xs : List Low) → list_any (λ (task : Low). makes task.script) xs ≡ false → AllByRecursion (MakesWithin 0) (map low_task xs)
lows_none [] none = tt
lows_none (x ∷ xs) none =
    let parts = neither (makes x.script) (list_any (λ (task : Low). makes task.script) xs) none in
    (makes_none x.script parts.0, lows_none xs parts.1)

pub makes_nothing : (sheet : Sheet) → some_makes sheet ≡ false → (seat : ℕ) → largest_of (task_at sheet seat).script ≤ 0
makes_nothing sheet none seat =
    let parts = neither (list_any (λ (task : High). makes task.script) sheet.high) (list_any (λ (task : Low). makes task.script) sheet.low) none in
    each_at (MakesWithin 0) (tasks_of sheet) seat (highs_none sheet.high (map low_task sheet.low) parts.0 (lows_none sheet.low parts.1)) (omega arith)
