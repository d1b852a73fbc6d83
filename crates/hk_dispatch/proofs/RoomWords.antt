-- The words that are left: what the two tests of the analysis say beside the words used, and how large an object of a low task
-- may be.
use Rattle.std.proofs.Common.{◌≡◌, ℕ, zero, suc, ◌+◌, ◌-◌, ◌*◌, ◌≤◌, max, false, List, [], ◌∷◌, ◌++◌, map, length, Option, Some, refl, ap, arith, inl, inr, get_or}
use Rattle.std.proofs.lemmas.Bool.{cases_lt, ltb-false}
use Rattle.std.proofs.Math.Nat.{mul-le-mul_left}
use Rattle.std.specs.Prelude.{slice_get}
use Rattle.std.specs.List.{fold}
use Rattle.hk_words.specs.declared.call.Call.TheVariants as call
use Rattle.hk_words.specs.declared.shape.Shape.{Shape}
use Rattle.hk_words.specs.Shape.{size}
use Rattle.hk_script.specs.declared.statement.Statement.{Statement}
use Rattle.hk_script.specs.declared.statement.Statement.TheVariants as statement
use Rattle.hk_script.specs.declared.statement.Test.TheVariants as test
use Rattle.hk_script.specs.declared.walk.Need.{Need}
use Rattle.hk_script.specs.declared.walk.Need.TheVariants as need
use Rattle.hk_script.specs.declared.walk.Walk.{Walk}
use Rattle.hk_script.specs.Cost.{words_of, largest_of}
use Rattle.hk_script.specs.Walks as walks
use Rattle.hk_script.specs.Walks.{need_in, need_of}
use Rattle.hk_sheet.specs.declared.sheet.High.{High}
use Rattle.hk_sheet.specs.declared.sheet.Low.{Low}
use Rattle.hk_sheet.specs.declared.sheet.Sheet.{Sheet}
use Rattle.hk_admit.specs.Analysis.{greatest, low_sizes, largest_low}
use Rattle.hk_dispatch.specs.Tasks.{high_task, low_task, no_task, task_at, is_high}
use Rattle.hk_dispatch.specs.Moment.{Moment, course_at, need_at}

-- WORDS

-- a factor that isn't 0 goes away
factor_away : (rate a b : ℕ) → 1 ≤ rate → rate * a ≤ rate * b → a ≤ b
factor_away rate a b some le = elim (cases_lt b a) [
  | inl less ↦ absurd (let more : rate * (b + 1) ≤ rate * a = mul-le-mul_left rate (omega (arith, less)) in omega (arith, some, le, more))
  | inr not ↦ not
]

-- The useful events of a cycle and what is owed cover the words used. So where what is owed, with so many words more, stays within
-- the reserve, these words are free beside it and beside the largest object of a low task.
module _ (rate alloc reserve largest work : ℕ) (some_rate : 1 ≤ rate) (some_work : 1 ≤ work) where
  rest_left : (rest used useful owed words : ℕ) → rest ≡ alloc - reserve - largest → work ≤ rate * rest → rate * used ≤ useful + owed → useful ≤ work
      → owed + rate * words ≤ rate * reserve → used + words + largest ≤ alloc
  rest_left rest used useful owed words is outside paid few fits =
      let some : 1 ≤ rest = elim (cases_lt 0 rest) [
        | inl yes' ↦ omega (arith, yes')
        | inr no' ↦ absurd (let none : rate * rest ≡ rate * 0 = ap (λ n. rate * n) (omega (arith, no')) in omega (arith, none, outside, some_work))
      ] in
      let le : used + words ≤ rest + reserve = factor_away rate (used + words) (rest + reserve) some_rate (omega (arith, paid, few, fits, outside)) in
      omega (arith, some, le, is)

  pub words_left : (used useful owed words : ℕ) → work ≤ rate * (alloc - reserve - largest) → rate * used ≤ useful + owed → useful ≤ work
      → owed + rate * words ≤ rate * reserve → used + words + largest ≤ alloc
  words_left used useful owed words outside paid few fits = rest_left (alloc - reserve - largest) used useful owed words refl outside paid few fits

-- SIZES

-- a New that a walk wants makes an object that its script counts
module _ (w : Walk) (dest : ℕ) (shape : Shape) where
  abbrev WantsNew : Option Need → Type 0
  WantsNew o = o ≡ Some (need.Heap (call.New dest shape))

  new_in : (s : Statement) → WantsNew (need_in w s) → size shape ≤ words_of s
  new_in (statement.Work n) e = absurd (cc)
  new_in (statement.Set v n) e = absurd (cc)
  new_in (statement.Copy v u) e = absurd (cc)
  new_in (statement.Add v u) e = absurd (cc)
  new_in (statement.Sub v u) e = absurd (cc)
  new_in (statement.Job v) e = absurd (cc)
  new_in (statement.Out v) e = absurd (cc)
  new_in (statement.Get v r f) e = absurd (cc)
  new_in (statement.Put r f v) e = absurd (cc)
  new_in (statement.Load d r f) e = absurd (cc)
  new_in (statement.Store r f t) e = absurd (cc)
  new_in (statement.Move d r) e = absurd (cc)
  new_in (statement.Clear d) e = absurd (cc)
  new_in (statement.New d made) e = let same : made ≡ shape = cc in let sizes : size made ≡ size shape = ap size same in omega (arith, sizes)
  new_in (statement.If (test.Less l r)) e = absurd (cc)
  new_in (statement.If (test.Equal l r)) e = absurd (cc)
  new_in (statement.If (test.Null r)) e = absurd (cc)
  new_in (statement.If (test.Same l r)) e = absurd (cc)
  new_in statement.Else e = absurd (cc)
  new_in (statement.Repeat n) e = absurd (cc)
  new_in statement.End e = absurd (cc)

  new_at : (script : List Statement) (place : ℕ) → WantsNew (walks.need_at w (slice_get script place)) → size shape ≤ largest_of script
  new_at [] place e = absurd (cc)
  new_at (s ∷ rest) zero e = let few = new_in s e in omega (arith, few)
  new_at (s ∷ rest) (suc place) e = let few = new_at rest place e in omega (arith, few)

  new_within : (script : List Statement) → WantsNew (need_of script w) → size shape ≤ largest_of script
  unfolding need_of
  new_within script e = new_at script w.place e

-- the greatest of some sizes is none of them less
first_within : (a : ℕ) (xs : List Low) → a ≤ fold max a (low_sizes xs)
first_within a [] = omega arith
first_within a (x ∷ xs) = let few = first_within (max a (largest_of x.script)) xs in omega (arith, few)

low_within : (a : ℕ) (xs : List Low) (i : ℕ) → largest_of (get_or (map low_task xs) i no_task).script ≤ fold max a (low_sizes xs)
low_within a [] i = omega arith
low_within a (x ∷ xs) zero = let few = first_within (max a (largest_of x.script)) xs in omega (arith, few)
low_within a (x ∷ xs) (suc i) = low_within (max a (largest_of x.script)) xs i

after_high : (hs : List High) (ls : List Low) (i : ℕ) → length hs ≤ i → largest_of (get_or (map high_task hs ++ map low_task ls) i no_task).script ≤ greatest (low_sizes ls)
after_high [] ls i le = low_within 0 ls i
after_high (h ∷ hs) ls zero le = absurd (omega (arith, le))
after_high (h ∷ hs) ls (suc i) le = after_high hs ls i (omega (arith, le))

-- so a New of a low task is no larger than the largest one
pub low_new_within : (sheet : Sheet) (m : Moment) (seat dest : ℕ) (shape : Shape) → is_high sheet seat ≡ false
    → need_at sheet m seat ≡ Some (need.Heap (call.New dest shape)) → size shape ≤ largest_low sheet
low_new_within sheet m seat dest shape low wants =
    let made = new_within (course_at m seat).walk dest shape (task_at sheet seat).script wants in
    let few = after_high sheet.high sheet.low seat (ltb-false seat (length sheet.high) low) in
    omega (arith, made, few)
