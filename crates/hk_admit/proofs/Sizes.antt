-- Sizes of objects: their bounds, and the greatest of some.
use Rattle.std.proofs.Common.{◌≡◌, ◌∙◌, ap, refl, ℕ, ◌≤◌, max, Bool, ◌||◌, ltb, List, [], ◌∷◌, map, arith}
use Rattle.std.proofs.lemmas.Bool.Decides.{nat_tests}
use Rattle.std.specs.List.{fold}
use Rattle.hk_script.specs.declared.statement.Statement.{Statement}
use Rattle.hk_script.specs.declared.statement.Statement.TheVariants as statement
use Rattle.hk_script.specs.Cost.{words_of, largest_of}
use Rattle.hk_sheet.specs.declared.sheet.High.{High}
use Rattle.hk_sheet.specs.declared.sheet.Low.{Low}
use Rattle.hk_admit.specs.Analysis.{greatest, high_sizes, low_sizes, is_new, makes}
use Rattle.hk_admit.specs.Ranges.{MOST_MADE}

-- a statement makes an object of at most so many words
words_made_le : (s : Statement) → words_of s ≤ MOST_MADE
words_made_le (statement.New dest shape) = let few = shape.few in omega arith
words_made_le s = omega arith

pub largest_made_le : (script : List Statement) → largest_of script ≤ MOST_MADE
largest_made_le [] = omega arith
largest_made_le (s ∷ rest) = omega (arith, words_made_le s, largest_made_le rest)

-- a statement takes words exactly where it makes an object
new_is : (s : Statement) → ltb 0 (words_of s) ≡ is_new s
new_is (statement.New dest shape) = grind (arith, nat_tests)
new_is s = refl

positive_max : (m n : ℕ) → ltb 0 (max m n) ≡ (ltb 0 m || ltb 0 n)
positive_max m n = grind (arith, nat_tests)

pub makes_is : (script : List Statement) → ltb 0 (largest_of script) ≡ makes script
makes_is [] = refl
makes_is (s ∷ rest) =
    positive_max (words_of s) (largest_of rest) ∙ ap (λ (b : Bool). b || ltb 0 (largest_of rest)) (new_is s) ∙ ap (λ (b : Bool). is_new s || b) (makes_is rest)

-- the greatest of some sizes within a bound is within it
within : {X : Type 0} (f : X → ℕ) (bound a : ℕ) (xs : List X) → a ≤ bound → ((x : X) → f x ≤ bound) → fold max a (map f xs) ≤ bound
within f bound a [] first each = first
within f bound a (x ∷ xs) first each = within f bound (max a (f x)) xs (omega (arith, each x)) each

pub high_made_le : (tasks : List High) → greatest (high_sizes tasks) ≤ MOST_MADE
high_made_le tasks = within (λ (task : High). largest_of task.script) MOST_MADE 0 tasks (omega arith) (λ task. largest_made_le task.script)

pub low_made_le : (tasks : List Low) → greatest (low_sizes tasks) ≤ MOST_MADE
low_made_le tasks = within (λ (task : Low). largest_of task.script) MOST_MADE 0 tasks (omega arith) (λ task. largest_made_le task.script)
