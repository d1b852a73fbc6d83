-- The ranges tile what is reserved, no number has two, and a number with a range was claimed.
use Rattle.std.proofs.Common.{◌≡◌, ◌≢◌, ℕ, zero, suc, ◌+◌, ◌<◌, ◌≤◌, true, false, List, [], ◌∷◌, length, get_or, inl, inr, refl, ◌∙◌, ap, arith, Option, Some, None}
use Rattle.std.proofs.lemmas.Bool.{cases_Bool, cases_eq, cases_lt, and_from, or_right, eq-eqb, le-leb, lt-ltb}
use Rattle.std.proofs.lemmas.List.Elements.{All-nil, All-cons, All-weaker, All-get_or, All-contains}
use Rattle.std.proofs.lemmas.List.Sums.{sum_by-cons}
use Rattle.std.specs.Prelude.{nat_eq, nat_le, nat_lt, ◌&&◌, All, Contains, sum_by}
use Rattle.hk_words.specs.Geometry.{numbers}
use Rattle.hk_model.specs.History.{History}
use Rattle.hk_core.specs.Facts as fact
use Rattle.hk_core.specs.State.{State}
use Rattle.hk_core.specs.View.{words_of, names_of, flight_at, size_at, decoded, raw}
use Rattle.hk_core.specs.Colours.{shades_of, spaces_of, is_within}
use Rattle.hk_core.specs.Lines as l
use Rattle.hk_core.specs.Lawful.{Lawful}
use Rattle.hk_core.proofs.Shared.{size_some}
use Rattle.hk_core.proofs.kinds.Seats.{kept_means}
use Rattle.hk_core.proofs.kinds.WriteCell.{shades_mean}
use Rattle.hk_collect.specs.Used.{is_claimed, stands_claimed}
use Rattle.hk_collect.specs.Reserved.{ReservedIsClaimed}
use Rattle.hk_collect.proofs.UsedFacts.{grey_claimed}

-- LISTS

-- no number stands twice
abbrev pub Distinct : List ℕ → Type 0
Distinct xs = (i j : ℕ) → i < j → j < length xs → get_or xs i 0 ≢ get_or xs j 0

with_first : (x : ℕ) (xs : List ℕ) → All (λ y. x ≢ y) xs → Distinct xs → Distinct (x ∷ xs)
with_first x xs new distinct i zero less below e = absurd (omega arith)
with_first x xs new distinct zero (suc j) less below e = All-get_or (λ y. x ≢ y) xs j 0 (omega arith) new e
with_first x xs new distinct (suc i) (suc j) less below e = distinct i j (omega arith) (omega arith) e

pub contains_first : (x : ℕ) (xs : List ℕ) → Contains (x ∷ xs) x
contains_first x xs = (0, omega arith, refl)

pub contains_later : (x : ℕ) (xs : List ℕ) (y : ℕ) → Contains xs y → Contains (x ∷ xs) y
contains_later x xs y (k, below, at) = (suc k, omega (arith, below), at)

-- sums of terms that agree
pub sums_agree : (f k : ℕ → ℕ) (xs : List ℕ) → ((x : ℕ) → Contains xs x → f x ≡ k x) → sum_by f xs ≡ sum_by k xs
sums_agree f k [] same = refl
sums_agree f k (x ∷ xs) same =
    let here = same x (contains_first x xs) in
    let later = sums_agree f k xs (λ y there. same y (contains_later x xs y there)) in
    let a = sum_by-cons f x xs in
    let b = sum_by-cons k x xs in
    omega (arith, here, later, a, b)

-- TILES

module _ (size : ℕ → ℕ) (range : ℕ → Option ℕ) (reserved : ℕ) (words : (n : ℕ) → 0 < size n) (within : fact.RangesWithin reserved size range)
    (join : fact.RangesJoin reserved size range) (first : fact.FirstRange reserved range) (one : fact.OneRangeEach range) where
  -- a number has a range that begins at an offset or above
  abbrev HasFrom : ℕ → ℕ → Type 0
  HasFrom from n = (x : ℕ) × (from ≤ x) × (range x ≡ Some n)

  -- the words reserved from an offset on are those of some numbers
  record Tiles (from : ℕ) : Type 0 where
    pub tiled : List ℕ
    pub ranged : All (HasFrom from) tiled
    pub distinct : Distinct tiled
    pub counts : reserved ≡ from + sum_by size tiled

  a_number : (o : Option ℕ) → o ≢ None → (n : ℕ) × (o ≡ Some n)
  a_number None some = absurd (some refl)
  a_number (Some n) some = (n, refl)

  -- a range below those from an offset on is of another number
  another : (x n to m : ℕ) → range x ≡ Some n → x < to → HasFrom to m → n ≢ m
  another x n to m there lt (y, above, found) e =
      let same : x ≡ y = one x y m (there ∙ ap (λ k. Some k) e) found in
      absurd (omega (arith, above, lt, same))

  nothing : (from : ℕ) → from ≡ reserved → Tiles from
  nothing from all = record { tiled = []; ranged = All-nil (HasFrom from); distinct = λ i j less below. absurd (omega arith); counts = omega (arith, all) }

  -- one range, and those from its end on
  and_then : (x n : ℕ) → range x ≡ Some n → Tiles (x + size n) → Tiles x
  and_then x n there rest =
      let some = words n in
      let counts = rest.counts in
      let more = sum_by-cons size n rest.tiled in
      record {
        tiled = n ∷ rest.tiled;
        ranged = All-cons (HasFrom x) n rest.tiled (x, omega arith, there)
            (All-weaker (HasFrom (x + size n)) (HasFrom x) (λ m o. (o.0, (let above = o.1 in omega (arith, above)), o.2)) rest.tiled rest.ranged);
        distinct = with_first n rest.tiled
            (All-weaker (HasFrom (x + size n)) (λ m. n ≢ m) (λ m o. another x n (x + size n) m there (omega (arith, some)) o) rest.tiled rest.ranged)
            rest.distinct;
        counts = omega (arith, counts, more);
      }

  tiles_from : (fuel x n : ℕ) → range x ≡ Some n → reserved < x + fuel → Tiles x
  tiles_from zero x n there enough = absurd (let w = within x n there in omega (arith, w, enough))
  tiles_from (suc fuel) x n there enough =
      let some = words n in
      let inside = within x n there in
      and_then x n there (elim (cases_lt (x + size n) reserved) [
        | inl more ↦ let next = a_number (range (x + size n)) (join x n there more) in tiles_from fuel (x + size n) next.0 next.1 (omega (arith, some, enough))
        | inr last ↦ nothing (x + size n) (omega (arith, last, inside))
      ])

  -- all that is reserved
  tiles : Tiles 0
  tiles = elim (cases_eq reserved 0) [
    | inl none ↦ nothing 0 (omega (arith, none))
    | inr some ↦ let start = a_number (range 0) (first (omega (arith, some))) in tiles_from (reserved + 1) 0 start.0 start.1 (omega arith)
  ]

-- CLAIMS

module _ (c : State) (history : History) (h : Lawful c history) where
  -- a number with a range was claimed
  ranged_claimed : (x n : ℕ) → h.range x ≡ Some n → (n < numbers c.geometry) × (is_claimed c n ≡ true)
  unfolding is_claimed shades_of
  ranged_claimed x n there =
      let g = c.geometry in
      let w = words_of g c.row in
      let z = spaces_of g w.cycle in
      let names = names_of g history in
      let sh = shades_of g w (flight_at c) c.spot.line names in
      let size : sh.size n ≡ size_at names n = (shades_mean g w (flight_at c) c.spot.line names).size n in
      let some : 0 < size_at names n = size_some names n in
      let inside : x + sh.size n ≤ w.reserved = h.facts.ranges_within x n there in
      elim (cases_lt x c.spot.scan) [
        | inl below ↦
            let moved = h.facts.ranges_below_moved x n there below in
            let busy : l.is_resting c.spot.line ≡ false = elim (cases_Bool (l.is_resting c.spot.line)) [
              | inl rests ↦ absurd (let none = h.facts.nothing_reserved_at_rest rests in omega (arith, inside, size, some, none))
              | inr busy' ↦ busy'
            ] in
            let live : c.spot.scan ≤ g.live = (h.facts.scan_bounded busy).1 in
            let at : w.place n ≡ z.current + x = moved.stands in
            let ends : x + sh.size n ≤ c.spot.scan = moved.ends in (
              (kept_means g w (flight_at c) c.spot.line names n moved.is_kept).within,
              and_from (nat_eq (w.mark n) w.cycle) (stands_claimed z (w.place n)) (eq-eqb (w.mark n) w.cycle moved.is_claimed)
                  (or_right (is_within z z.old (w.place n)) (nat_le z.current (w.place n) && nat_lt (w.place n) (z.current + z.live))
                  (and_from (nat_le z.current (w.place n)) (nat_lt (w.place n) (z.current + z.live))
                  (le-leb z.current (w.place n) (omega arith)) (lt-ltb (w.place n) (z.current + z.live) (omega arith)))),
            )
        | inr above ↦
            let both = h.facts.ranges_above_grey x n there above in
            ((kept_means g w (flight_at c) c.spot.line names n both.0).within, grey_claimed g w n both.1)
      ]

pub reserved_is_claimed : ReservedIsClaimed
unfolding words_of decoded raw
reserved_is_claimed c history h =
    let g = c.geometry in
    let w = words_of g c.row in
    let names = names_of g history in
    let sh = shades_of g w (flight_at c) c.spot.line names in
    let m = shades_mean g w (flight_at c) c.spot.line names in
    let all = tiles sh.size h.range w.reserved
    (λ n. let same : sh.size n ≡ size_at names n = m.size n in let some = size_some names n in omega (arith, same, some))
    h.facts.ranges_within h.facts.ranges_join h.facts.first_range h.facts.one_range_each in
    let counts = all.counts in
    let same = sums_agree sh.size (size_at names) all.tiled (λ n there. m.size n) in
    let ranged : (n : ℕ) → Contains all.tiled n → (x : ℕ) × (0 ≤ x) × (h.range x ≡ Some n) =
    λ n there. All-contains (λ k. (x : ℕ) × (0 ≤ x) × (h.range x ≡ Some k)) all.tiled n all.ranged there in
    record {
      objects = all.tiled;
      distinct = all.distinct;
      within = λ n there. let o = ranged n there in (ranged_claimed c history h o.0 n o.2).0;
      claimed = λ n there. let o = ranged n there in (ranged_claimed c history h o.0 n o.2).1;
      counts = omega (arith, counts, same);
    }
