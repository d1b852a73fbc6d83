-- The words reserved for evacuation are few: ranges tile them, and no number has two.
use Rattle.std.proofs.Common.{◌≡◌, ◌≢◌, ℕ, zero, suc, ◌+◌, ◌*◌, ◌^◌, ◌<◌, ◌≤◌, Bool, true, false, inl, inr, refl, sym, ◌∙◌, ap, arith, Option, Some, None}
use Rattle.std.proofs.lemmas.Bool.{cases_Bool, cases_eq, cases_lt, and_parts, and_from, leb-true, le-leb, eqb-true, eq-eqb, ltb-true, lt-ltb}
use Rattle.std.specs.Prelude.{nat_eq, nat_le, nat_lt, ◌&&◌}
use Rattle.hk_words.specs.Geometry.{numbers}
use Rattle.hk_model.specs.History.{History}
use Rattle.hk_core.specs.Counts.{count_below}
use Rattle.hk_core.specs.Facts as fact
use Rattle.hk_core.specs.State.{State}
use Rattle.hk_core.specs.View.{words_of, names_of, flight_at, size_at}
use Rattle.hk_core.specs.Colours.{shades_of}
use Rattle.hk_core.specs.Lawful.{Lawful}
use Rattle.hk_core.proofs.Counts.{one_if, count_some, count_bounded}
use Rattle.hk_core.proofs.Inside.{shapes_fit, refs_small, nums_small}
use Rattle.hk_core.proofs.kinds.WriteCell.{shades_mean}

-- COUNTS

one_mono : (b d : Bool) → (b ≡ true → d ≡ true) → one_if b ≤ one_if d
one_mono true d only = let x : one_if d ≡ 1 = ap one_if (only refl) in omega arith
one_mono false d only = omega arith

-- a weaker test passes as often or more
count_mono : (p q : ℕ → Bool) (n : ℕ) → ((k : ℕ) → p k ≡ true → q k ≡ true) → count_below n p ≤ count_below n q
unfolding count_below
count_mono p q zero only = omega arith
count_mono p q (suc n) only =
    let i : count_below n p ≤ count_below n q = count_mono p q n only in
    let one : one_if (p n) ≤ one_if (q n) = one_mono (p n) (q n) (only n) in
    omega arith

-- and more often, where there is one that passes it alone
count_more_often : (p q : ℕ → Bool) (m n : ℕ) → m < n → ((k : ℕ) → p k ≡ true → q k ≡ true) → p m ≡ false → q m ≡ true → count_below n p + 1 ≤ count_below n q
unfolding count_below
count_more_often p q m zero below only no' yes' = absurd (omega arith)
count_more_often p q m (suc n) below only no' yes' =
    elim (cases_eq m n) [
      | inl e ↦
          let i : count_below n p ≤ count_below n q = count_mono p q n only in
          let a : one_if (p n) ≡ 0 = ap one_if (ap p (sym e) ∙ no') in
          let b : one_if (q n) ≡ 1 = ap one_if (ap q (sym e) ∙ yes') in
          omega arith
      | inr d ↦
          let i : count_below n p + 1 ≤ count_below n q = count_more_often p q m n (omega arith) only no' yes' in
          let one : one_if (p n) ≤ one_if (q n) = one_mono (p n) (q n) (only n) in
          omega arith
    ]

-- what is counted is there
count_found : (p : ℕ → Bool) (n : ℕ) → 0 < count_below n p → (k : ℕ) × (k < n) × (p k ≡ true)
unfolding count_below
count_found p zero some = absurd (omega arith)
count_found p (suc n) some =
    elim (cases_Bool (p n)) [
      | inl e ↦ (n, omega arith, e)
      | inr d ↦
          let none : one_if (p n) ≡ 0 = ap one_if d in
          let i = count_found p n (omega arith) in
          (i.0, (let less = i.1 in omega arith), i.2)
    ]

-- RANGES

-- a range is that of a number
is_of : Option ℕ → ℕ → Bool
is_of None n = false
is_of (Some m) n = nat_eq m n

of_number : (o : Option ℕ) (n : ℕ) → is_of o n ≡ true → o ≡ Some n
unfolding is_of
of_number None n e = absurd (cc)
of_number (Some m) n e = ap (λ k. Some k) (eqb-true m n e)

number_of_range : (o : Option ℕ) (n : ℕ) → o ≡ Some n → is_of o n ≡ true
unfolding is_of
number_of_range None n e = absurd (cc)
number_of_range (Some m) n e = let same : m ≡ n = cc in eq-eqb m n same

some_range : (o : Option ℕ) → o ≢ None → (n : ℕ) × (o ≡ Some n)
some_range None some = absurd (some refl)
some_range (Some n) some = (n, refl)

module _ (many reserved : ℕ) (size : ℕ → ℕ) (range : ℕ → Option ℕ) (join : fact.RangesJoin reserved size range) (one : fact.OneRangeEach range)
    (small : (x n : ℕ) → range x ≡ Some n → (n < many) × (0 < size n) × (size n ≤ 2 ^ 10)) where
  -- a number has a range that begins at an offset or above
  has_from : ℕ → ℕ → Bool
  has_from x n = nat_lt 0 (count_below reserved (λ y. nat_le x y && is_of (range y) n))

  found_from : (x n : ℕ) → has_from x n ≡ true → (y : ℕ) × (y < reserved) × (x ≤ y) × (range y ≡ Some n)
  unfolding has_from
  found_from x n e =
      let i = count_found (λ y. nat_le x y && is_of (range y) n) reserved (ltb-true 0 _ e) in
      let p = and_parts _ _ i.2 in
      (i.0, i.1, leb-true x i.0 p.0, of_number (range i.0) n p.1)

  has_from_at : (x y n : ℕ) → y < reserved → x ≤ y → range y ≡ Some n → has_from x n ≡ true
  unfolding has_from
  has_from_at x y n below from e =
      lt-ltb 0 _ (count_some (λ y. nat_le x y && is_of (range y) n) y reserved below (and_from _ _ (le-leb x y from) (number_of_range (range y) n e)))

  -- what is reserved from an offset on at which a range begins is at most what the ranges from there on have
  reserved_from : (fuel x : ℕ) → reserved ≤ x + fuel → (x < reserved → range x ≢ None) → reserved ≤ x + 2 ^ 10 * count_below many (has_from x)
  reserved_from zero x done begins = omega arith
  reserved_from (suc fuel) x done begins =
      elim (cases_lt x reserved) [
        | inl less ↦
            let r = some_range (range x) (begins less) in
            let n = r.0 in
            let s = small x n r.1 in
            let some : 0 < size n = s.1 in
            let few : size n ≤ 2 ^ 10 = s.2 in
            let later = x + size n in
            let i : reserved ≤ later + 2 ^ 10 * count_below many (has_from later) = reserved_from fuel later (omega arith) (λ more. join x n r.1 more) in
            let gone : has_from later n ≡ false = elim (cases_Bool (has_from later n)) [
              | inl e ↦ let o = found_from later n e in let same : x ≡ o.0 = one x o.0 n r.1 o.3 in let from : later ≤ o.0 = o.2 in absurd (omega arith)
              | inr e ↦ e
            ] in
            let fewer : count_below many (has_from later) + 1 ≤ count_below many (has_from x) =
            count_more_often (has_from later) (has_from x) n many s.0
            (λ k e. let o = found_from later k e in has_from_at x o.0 k o.1 (let from : later ≤ o.0 = o.2 in omega arith) o.3)
            gone (has_from_at x x n less (omega arith) r.1) in
            omega arith
        | inr over ↦ omega arith
      ]

  -- so all that is reserved is at most that of as many objects as there are numbers
  pub reserved_bounded : fact.FirstRange reserved range → reserved ≤ 2 ^ 10 * many
  reserved_bounded first =
      let all : reserved ≤ 0 + 2 ^ 10 * count_below many (has_from 0) = reserved_from reserved 0 (omega arith) first in
      let few : count_below many (has_from 0) ≤ many = count_bounded (has_from 0) many in
      omega arith

-- in a lawful state
pub reserved_small : (c : State) (history : History) → Lawful c history → (words_of c.geometry c.row).reserved < 2 ^ 60
unfolding size_at
reserved_small c history h =
    let g = c.geometry in
    let w = words_of g c.row in
    let names = names_of g history in
    let sh = shades_of g w (flight_at c) c.spot.line names in
    let fit = shapes_fit g history in
    let m = shades_mean g w (flight_at c) c.spot.line names in
    let small : (x n : ℕ) → h.range x ≡ Some n → (n < numbers g) × (0 < sh.size n) × (sh.size n ≤ 2 ^ 10) = λ x n e.
    let kept : sh.kept n ≡ true = elim (cases_lt x c.spot.scan) [ inl less ↦ (h.facts.ranges_below_moved x n e less).is_kept | inr over ↦ (h.facts.ranges_above_grey x n e (omega arith)).0 ] in
    let size : sh.size n ≡ size_at names n = m.size n in
    let refs = refs_small names n fit in
    let nums = nums_small names n fit in
    ((m.kept n kept).within, omega arith, omega arith) in
    let bound : w.reserved ≤ 2 ^ 10 * numbers g = reserved_bounded (numbers g) w.reserved sh.size h.range h.facts.ranges_join h.facts.one_range_each small h.facts.first_range in
    omega arith
