-- The first low seat of which a test holds.
use Rattle.std.proofs.Common.{◌≡◌, ℕ, zero, suc, ◌+◌, ◌-◌, ◌<◌, ◌≤◌, ◌⊎◌, Bool, true, false, List, [], ◌∷◌, length, refl, sym, ◌∙◌, ap, arith, inl, inr, Some, None, get_or}
use Rattle.std.proofs.lemmas.Bool.{cases_Bool}
use Rattle.std.proofs.lemmas.List.FromFn.{length-range_with_len, get_or-range_with_len}
use Rattle.std.specs.List.{find, range_with_len}
use Rattle.hk_sheet.specs.declared.sheet.Sheet.{Sheet}
use Rattle.hk_dispatch.specs.Turns.{first_low}
use Rattle.hk_dispatch.specs.Rules.{FirstLowIs, NoLow}

-- an element that is found is at some place, passes the test, and none before it does
record FoundAt (p : ℕ → Bool) (xs : List ℕ) : Type 0 where
  place : ℕ
  within : place < length xs
  is : find p xs ≡ Some (get_or xs place 0)
  passes : p (get_or xs place 0) ≡ true
  before : (k : ℕ) → k < place → p (get_or xs k 0) ≡ false

record NoneFound (p : ℕ → Bool) (xs : List ℕ) : Type 0 where
  is : find p xs ≡ None
  fails : (k : ℕ) → k < length xs → p (get_or xs k 0) ≡ false

find_law : (p : ℕ → Bool) (xs : List ℕ) → FoundAt p xs ⊎ NoneFound p xs
find_law p [] = inr (record { is = refl; fails = λ k lt. absurd (omega arith) })
find_law p (x ∷ xs) = elim (cases_Bool (p x)) [
  | inl yes' ↦ inl (record { place = 0; within = omega arith; is = rw yes' refl; passes = yes'; before = λ k lt. absurd (omega arith) })
  | inr no' ↦ elim (find_law p xs) [
    | inl f ↦ inl (record {
      place = suc f.place;
      within = let w = f.within in omega arith;
      is = rw no' f.is;
      passes = f.passes;
      before = earlier no' f;
    })
    | inr n ↦ inr (record { is = rw no' n.is; fails = later no' n })
  ]
]
  where
    earlier : p x ≡ false → (f : FoundAt p xs) (k : ℕ) → k < suc f.place → p (get_or (x ∷ xs) k 0) ≡ false
    earlier no' f zero lt = no'
    earlier no' f (suc k) lt = f.before k (omega arith)

    later : p x ≡ false → (n : NoneFound p xs) (k : ℕ) → k < suc (length xs) → p (get_or (x ∷ xs) k 0) ≡ false
    later no' n zero lt = no'
    later no' n (suc k) lt = n.fails k (omega arith)

-- the same over a stretch of numbers
module _ (p : ℕ → Bool) (h l : ℕ) where
  at : (k : ℕ) → k < l → get_or (range_with_len h l) k 0 ≡ h + k
  at k lt = get_or-range_with_len h l k 0 lt

  short : (k : ℕ) → k < length (range_with_len h l) → k < l
  short k lt = omega (arith, lt, length-range_with_len h l)

  long : (k : ℕ) → k < l → k < length (range_with_len h l)
  long k lt = omega (arith, lt, length-range_with_len h l)

  -- a number of the stretch is at its place
  test_at : (other : ℕ) → h ≤ other → other < h + l → p other ≡ p (get_or (range_with_len h l) (other - h) 0)
  test_at other from below = ap p (let e = at (other - h) (omega (arith, from, below)) in omega (arith, e, from))

  record FirstIn (x : ℕ) : Type 0 where
    is : find p (range_with_len h l) ≡ Some x
    from : h ≤ x
    below : x < h + l
    passes : p x ≡ true
    before : (other : ℕ) → h ≤ other → other < x → p other ≡ false

  record NoneIn : Type 0 where
    is : find p (range_with_len h l) ≡ None
    fails : (other : ℕ) → h ≤ other → other < h + l → p other ≡ false

  first_of : FoundAt p (range_with_len h l) → (x : ℕ) × FirstIn x
  first_of f =
      let w = short f.place f.within in
      let e = at f.place w in (
        h + f.place,
        record {
          is = f.is ∙ ap (λ k. Some k) e;
          from = omega arith;
          below = omega (arith, w);
          passes = ap p (sym e) ∙ f.passes;
          before = λ other from lt. test_at other from (omega (arith, lt, w)) ∙ f.before (other - h) (omega (arith, from, lt));
        },
      )

  none_of : NoneFound p (range_with_len h l) → NoneIn
  none_of n = record {
    is = n.is;
    fails = λ other from below. test_at other from below ∙ n.fails (other - h) (long (other - h) (omega (arith, from, below)));
  }

pub first_low_law : (sheet : Sheet) (test : ℕ → Bool) → ((seat : ℕ) × FirstLowIs sheet test seat) ⊎ NoLow sheet test
unfolding first_low
first_low_law sheet test = elim (find_law test (range_with_len (length sheet.high) (length sheet.low))) [
  | inl f ↦
      let x = first_of test (length sheet.high) (length sheet.low) f in
      inl (x.0, record { is = x.1.is; low = record { from = x.1.from; below = x.1.below }; passes = x.1.passes; before = λ other low lt. x.1.before other low.from lt })
  | inr n ↦
      let x = none_of test (length sheet.high) (length sheet.low) n in
      inr (record { is = x.is; fails = λ other low. x.fails other low.from low.below })
]
