-- The rule gives one order, or one set because of which there is none.
use Rattle.std.proofs.Common.{◌≡◌, ◌∙◌, refl, sym, ap, subst, ℕ, ◌+◌, ◌<◌, ◌≤◌, ◌⊎◌, zero, suc, Bool, true, false, cond, not, ◌==◌, List, [], ◌∷◌, ◌++◌, All, Contains, length, take, slice_index, arith, inl, inr}
use Rattle.std.specs.List.{sum_by, range_with_len}
use Rattle.std.specs.List.Sorted.{IsStrictlyIncreasing}
use Rattle.std.proofs.lemmas.Bool.Decides.{nat_tests}
use Rattle.std.proofs.lemmas.List.{take_more, take_all}
use Rattle.std.proofs.lemmas.List.Elements.{All-contains, Contains-push}
use Rattle.std.proofs.lemmas.List.Sorted.{sum_by-IsPermutation}
use Rattle.std.proofs.lemmas.List.Sums.{sum_by-cons, sum_by_push}
use Rattle.hk_rta.specs.declared.Timing.{Timing}
use Rattle.hk_rta.specs.Demand.{IsTimed, timing_at}
use Rattle.hk_assign.specs.Orders.{IsInTime, IsOrder, KeepsDeadlines}
use Rattle.hk_assign.specs.Assignment.{others, CanBeLast, TakesGreatest, IsStuck}
use Rattle.hk_assign.proofs.Blocked.{costs}
use Rattle.hk_assign.proofs.Demands.{asks}
use Rattle.hk_assign.proofs.Fewer.{fewer}
use Rattle.hk_assign.proofs.Filled.{order_length, all_tasks}
use Rattle.hk_assign.proofs.Sets.{first_or_rest, is_first, in_rest, rest_rises, all_above, others_sum}

-- THE SAME NUMBERS

-- two lists have the same numbers, each as often: the same sum, whatever is added up
abbrev AreSame : List ℕ → List ℕ → Type 0
AreSame xs ys = (f : ℕ → ℕ) → sum_by f xs ≡ sum_by f ys

-- 1 for a number, and 0 for each other
abbrev one_at : ℕ → ℕ → ℕ
one_at z w = cond (w == z) 1 0

one_here : (z w : ℕ) → w ≡ z → one_at z w ≡ 1
one_here z w e = let is : (w == z) ≡ true = grind (arith, nat_tests, e) in ap (λ (b : Bool). cond b 1 0) is

one_elsewhere : (z w : ℕ) → (w == z) ≡ false → one_at z w ≡ 0
one_elsewhere z w e = ap (λ (b : Bool). cond b 1 0) e

counted : (z : ℕ) (xs : List ℕ) → Contains xs z → 0 < sum_by (one_at z) xs
counted z [] h = absurd (omega (arith, h.1))
counted z (x ∷ xs) h = elim (first_or_rest x xs z h) [
  | inl here ↦ omega (arith, sum_by-cons (one_at z) x xs, one_here z x here)
  | inr later ↦ omega (arith, sum_by-cons (one_at z) x xs, counted z xs later)
]

member : (z : ℕ) (xs : List ℕ) → 0 < sum_by (one_at z) xs → Contains xs z
member z [] some = absurd (omega (arith, some))
member z (x ∷ xs) some = by (member z xs) (x == z) refl
  where
    by : (0 < sum_by (one_at z) xs → Contains xs z) → (b : Bool) → (x == z) ≡ b → Contains (x ∷ xs) z
    by later true e = let same : x ≡ z = grind (arith, nat_tests, e) in subst (Contains (x ∷ xs)) same (is_first x xs)
    by later false e = in_rest x xs z (later (omega (arith, some, sum_by-cons (one_at z) x xs, one_elsewhere z x e)))

same_members : (xs ys : List ℕ) (z : ℕ) → AreSame xs ys → Contains xs z → Contains ys z
same_members xs ys z same h = member z ys (omega (arith, same (one_at z), counted z xs h))

-- without the last one
shorter : (xs ys : List ℕ) (z : ℕ) → AreSame (xs ++ z ∷ []) (ys ++ z ∷ []) → AreSame xs ys
shorter xs ys z same f = omega (arith, same f, sum_by_push f xs z, sum_by_push f ys z)

-- THE LAST TASK

-- the others of some tasks ask for no more
others-le : (f : ℕ → ℕ) (xs : List ℕ) (task : ℕ) → sum_by f (others xs task) ≤ sum_by f xs
others-le f [] task = omega arith
others-le f (x ∷ xs) task = by (x == task) (others-le f xs task)
  where
    by : (b : Bool) → sum_by f (others xs task) ≤ sum_by f xs → sum_by f (cond (not b) (x ∷ others xs task) (others xs task)) ≤ sum_by f (x ∷ xs)
    by true rest = omega (arith, rest, sum_by-cons f x xs)
    by false rest = omega (arith, rest, sum_by-cons f x xs, sum_by-cons f x (others xs task))

-- and without the task itself behind them
others_push-le : (f : ℕ → ℕ) (xs : List ℕ) (task : ℕ) → sum_by f (others (xs ++ task ∷ []) task) ≤ sum_by f xs
others_push-le f xs task =
    let itself : (task == task) ≡ true = grind (arith, nat_tests) in
    let none : cond (not (task == task)) (f task) 0 ≡ 0 = ap (λ (b : Bool). cond (not b) (f task) 0) itself in
    omega (
      arith,
      others_sum f (xs ++ task ∷ []) task,
      sum_by_push (λ z. cond (not (z == task)) (f z) 0) xs task,
      none,
      others_sum f xs task,
      others-le f xs task,
    )

can_be_last : (timings : List Timing) (before : List ℕ) (task : ℕ) → 1 ≤ (timing_at timings task).cost → IsInTime timings before task → CanBeLast timings (before ++ task ∷ []) task
can_be_last timings before task some h =
    fewer timings (others (before ++ task ∷ []) task) before task some (λ window. others_push-le (asks timings window) before task) h

last_of_same : (timings : List Timing) (xs ys : List ℕ) (task : ℕ) → 1 ≤ (timing_at timings task).cost → AreSame xs ys → CanBeLast timings xs task → CanBeLast timings ys task
last_of_same timings xs ys task some same h =
    fewer timings (others ys task) (others xs task) task some
    (λ window. omega (arith, others_sum (asks timings window) ys task, others_sum (asks timings window) xs task, same (λ z. cond (not (z == task)) (asks timings window z) 0)))
    h

-- ONE ORDER

-- the first so many and one more
next : (xs : List ℕ) (k : ℕ) → k < length xs → take (k + 1) xs ≡ take k xs ++ slice_index xs k ∷ []
next xs k within = take_more xs k 0 within

module _ (timings : List Timing) (timed : All IsTimed timings) where
  module _ (a b : List ℕ) (keeps : KeepsDeadlines timings a) (greatest : TakesGreatest timings b) (order : IsOrder (length timings) b) where
    -- the last of the first tasks of one order is none with a greater index than that of the other
    no_greater : (k : ℕ) → k < length timings → AreSame (take (k + 1) a) (take (k + 1) b) → slice_index a k ≤ slice_index b k
    no_greater k less same =
        let in_a : k < length a = omega (arith, less, order_length (length timings) a keeps.is_order) in
        let in_b : k < length b = omega (arith, less, order_length (length timings) b order) in
        let task = slice_index a k in
        let some = costs timings task timed (all_tasks (length timings) a keeps.is_order k 0 in_a) in
        let last : CanBeLast timings (take (k + 1) a) task =
        subst (λ (l : List ℕ). CanBeLast timings l task) (sym (next a k in_a)) (can_be_last timings (take k a) task some (keeps.each k in_a)) in
        let among : Contains (take (k + 1) a) task = subst (λ (l : List ℕ). Contains l task) (sym (next a k in_a)) (Contains-push (take k a) task) in
        greatest k task in_b (same_members (take (k + 1) a) (take (k + 1) b) task same among) (last_of_same timings (take (k + 1) a) (take (k + 1) b) task some same last)

  module _ (a b : List ℕ) (keeps : KeepsDeadlines timings a) (keeps' : KeepsDeadlines timings b) (greatest : TakesGreatest timings a) (greatest' : TakesGreatest timings b) where
    same_first : (k : ℕ) → k ≤ length timings → AreSame (take k a) (take k b) → take k a ≡ take k b
    same_first zero short same = refl
    same_first (suc k) short same =
        let less : k < length timings = omega (arith, short) in
        let in_a : k < length a = omega (arith, less, order_length (length timings) a keeps.is_order) in
        let in_b : k < length b = omega (arith, less, order_length (length timings) b keeps'.is_order) in
        let e : suc k ≡ k + 1 = omega arith in
        let more : AreSame (take (k + 1) a) (take (k + 1) b) = subst (λ (n : ℕ). AreSame (take n a) (take n b)) e same in
        let one : slice_index a k ≡ slice_index b k =
        omega (
          arith,
          no_greater a b keeps greatest' keeps'.is_order k less more,
          no_greater b a keeps' greatest keeps.is_order k less (λ f. sym (more f)),
        ) in
        let pushed : AreSame (take k a ++ slice_index a k ∷ []) (take k b ++ slice_index a k ∷ []) =
        λ f. ap (sum_by f) (sym (next a k in_a)) ∙ more f ∙ ap (sum_by f) (next b k in_b) ∙ ap (λ (n : ℕ). sum_by f (take k b ++ n ∷ [])) (sym one) in
        let rest = same_first k (omega (arith, short)) (shorter (take k a) (take k b) (slice_index a k) pushed) in
        ap (λ (n : ℕ). take n a) e
        ∙ next a k in_a
        ∙ (λ i. rest i ++ one i ∷ [])
        ∙ sym (next b k in_b)
        ∙ ap (λ (n : ℕ). take n b) (sym e)

    pub one_order : a ≡ b
    one_order =
        let n = length timings in
        let all_a : take n a ≡ a = take_all n a (omega (arith, order_length n a keeps.is_order)) in
        let all_b : take n b ≡ b = take_all n b (omega (arith, order_length n b keeps'.is_order)) in
        let same : AreSame (take n a) (take n b) =
        λ f. ap (sum_by f) all_a ∙ sum_by-IsPermutation f (range_with_len 0 n) a keeps.is_order ∙ sym (sum_by-IsPermutation f (range_with_len 0 n) b keeps'.is_order) ∙ ap (sum_by f) (sym all_b) in
        sym all_a ∙ same_first n (omega arith) same ∙ all_b

-- ONE SET

same_rising : (xs ys : List ℕ) → IsStrictlyIncreasing xs → IsStrictlyIncreasing ys → ((z : ℕ) → Contains xs z → Contains ys z) → ((z : ℕ) → Contains ys z → Contains xs z) → xs ≡ ys
same_rising [] [] up up' to from = refl
same_rising [] (y ∷ ys) up up' to from = let h = from y (is_first y ys) in absurd (omega (arith, h.1))
same_rising (x ∷ xs) [] up up' to from = let h = to x (is_first x xs) in absurd (omega (arith, h.1))
same_rising (x ∷ xs) (y ∷ ys) up up' to from =
    let first : x ≡ y = by (first_or_rest y ys x (to x (is_first x xs))) (first_or_rest x xs y (from y (is_first y ys))) in
    let rest : xs ≡ ys =
    same_rising xs ys (rest_rises x xs up) (rest_rises y ys up')
    (λ z h. later y ys z (to z (in_rest x xs z h)) (omega (arith, all_above x xs up z h, first)))
    (λ z h. later x xs z (from z (in_rest y ys z h)) (omega (arith, all_above y ys up' z h, first))) in
    (λ i. first i ∷ rest i)
  where
    by : (y ≡ x) ⊎ Contains ys x → (x ≡ y) ⊎ Contains xs y → x ≡ y
    by (inl e) other = sym e
    by (inr h) (inl e) = e
    by (inr h) (inr i) = absurd (omega (arith, all_above y ys up' x h, all_above x xs up y i))

    later : (w : ℕ) (ws : List ℕ) (z : ℕ) → Contains (w ∷ ws) z → w < z → Contains ws z
    later w ws z h above = elim (first_or_rest w ws z h) [
      | inl here ↦ absurd (omega (arith, here, above))
      | inr rest ↦ rest
    ]

pub one_set : (timings : List Timing) (a b : List ℕ) → IsStuck timings a → IsStuck timings b → a ≡ b
one_set timings a b s t =
    same_rising a b s.blocked.rising t.blocked.rising
    (λ z h. All-contains (Contains b) a z (t.largest a s.blocked) h)
    (λ z h. All-contains (Contains a) b z (s.largest b t.blocked) h)
