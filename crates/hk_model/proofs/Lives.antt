-- So many words of a plain heap are live, and no other number.
use Rattle.std.proofs.Common.{◌≡◌, ◌≢◌, ◌⊎◌, inl, inr, ℕ, zero, suc, ◌+◌, ◌<◌, ◌≤◌, Bool, true, false, nat_eq, refl, sym, ◌∙◌, ap, subst, arith, List, [], ◌∷◌, length, get_or, Option, Some, None, if◌then◌else◌}
use Rattle.std.proofs.lemmas.Bool.{cases_Bool, cases_eq}
use Rattle.std.proofs.lemmas.Bool.Decides.{eqb_tells}
use Rattle.std.proofs.lemmas.List.Sums.{sum_by-cons}
use Rattle.std.specs.Prelude.{All, Contains, sum_by}
use Rattle.hk_model.specs.Heap.{Heap, IsHeap, born, register, refs, link}
use Rattle.hk_model.specs.Reach.{Reached, in_register, in_cell, words_of_birth, Live}
use Rattle.hk_model.specs.View.{upd}
use Rattle.hk_model.proofs.Updates.{upd_same, upd_other}

-- LISTS WITHOUT REPETITION

-- a number stands in a list
abbrev In : ℕ → List ℕ → Type 0
In x [] = ⊥
In x (y ∷ ys) = (x ≡ y) ⊎ In x ys

in_contained : (xs : List ℕ) (x : ℕ) → Contains xs x → In x xs
in_contained [] x (k, below, e) = absurd (omega arith)
in_contained (y ∷ ys) x (zero, below, e) = inl (sym e)
in_contained (y ∷ ys) x (suc k, below, e) = inr (in_contained ys x (k, omega arith, e))

contained_in : (xs : List ℕ) (x : ℕ) → In x xs → Contains xs x
contained_in [] x none = absurd none
contained_in (y ∷ ys) x (inl e) = (0, omega arith, sym e)
contained_in (y ∷ ys) x (inr later) = let c = contained_in ys x later in let below : c.0 < length ys = c.1 in (suc c.0, omega arith, c.2)

-- at some place, and what stands at a place
index_in : (xs : List ℕ) (x : ℕ) → In x xs → (k : ℕ) × (k < length xs) × (get_or xs k 0 ≡ x)
index_in [] x none = absurd none
index_in (y ∷ ys) x (inl e) = (0, omega arith, sym e)
index_in (y ∷ ys) x (inr later) = let c = index_in ys x later in let below : c.0 < length ys = c.1 in (suc c.0, omega arith, c.2)

in_at : (xs : List ℕ) (k x : ℕ) → k < length xs → get_or xs k 0 ≡ x → In x xs
in_at [] k x below e = absurd (omega arith)
in_at (y ∷ ys) zero x below e = inl (sym e)
in_at (y ∷ ys) (suc k) x below e = inr (in_at ys k x (omega arith) e)

abbrev Distinct : List ℕ → Type 0
Distinct xs = (i j : ℕ) → i < j → j < length xs → get_or xs i 0 ≢ get_or xs j 0

not_again : (x : ℕ) (xs : List ℕ) → Distinct (x ∷ xs) → In x xs → ⊥
not_again x xs distinct again =
    let c = index_in xs x again in let below : c.0 < length xs = c.1 in distinct 0 (suc c.0) (omega arith) (omega arith) (sym c.2)

rest_distinct : (x : ℕ) (xs : List ℕ) → Distinct (x ∷ xs) → Distinct xs
rest_distinct x xs distinct i j less below = distinct (suc i) (suc j) (omega arith) (omega arith)

with_first : (x : ℕ) (xs : List ℕ) → (In x xs → ⊥) → Distinct xs → Distinct (x ∷ xs)
with_first x xs new distinct i zero less below e = absurd (omega arith)
with_first x xs new distinct zero (suc j) less below e = new (in_at xs j x (omega arith) (sym e))
with_first x xs new distinct (suc i) (suc j) less below e = distinct i j (omega arith) (omega arith) e

-- a list without the first place of a number
abbrev without : ℕ → List ℕ → List ℕ
without x [] = []
without x (y ∷ ys) = if nat_eq x y then ys else (y ∷ without x ys)

sum_without : (f : ℕ → ℕ) (x : ℕ) (ys : List ℕ) → In x ys → sum_by f ys ≡ f x + sum_by f (without x ys)
sum_without f x [] none = absurd none
sum_without f x (y ∷ ys) there = elim (eqb_tells x y) [
  | inl (t, e) ↦ rw t (sum_by-cons f y ys ∙ ap (λ k. f k + sum_by f ys) (sym e))
  | inr (t, d) ↦
      let later : In x ys = past there d in
      let rest : sum_by f ys ≡ f x + sum_by f (without x ys) = sum_without f x ys later in
      let all : sum_by f (y ∷ ys) ≡ f y + sum_by f ys = sum_by-cons f y ys in
      let left : sum_by f (y ∷ without x ys) ≡ f y + sum_by f (without x ys) = sum_by-cons f y (without x ys) in
      rw t (omega arith)
]
  where
    past : In x (y ∷ ys) → x ≢ y → In x ys
    past (inl e) d = absurd (d e)
    past (inr later) d = later

in_without : (x y : ℕ) (ys : List ℕ) → In y ys → y ≢ x → In y (without x ys)
in_without x y [] none d = none
in_without x y (z ∷ zs) (inl e) d = elim (eqb_tells x z) [
  | inl (t, same) ↦ absurd (d (e ∙ sym same))
  | inr (t, other) ↦ rw t (inl e)
]
in_without x y (z ∷ zs) (inr later) d = elim (eqb_tells x z) [
  | inl (t, same) ↦ rw t later
  | inr (t, other) ↦ rw t (inr (in_without x y zs later d))
]

-- what a list without repetition sums up to is no more than what one does that has all its numbers
sum_less : (f : ℕ → ℕ) (xs ys : List ℕ) → Distinct xs → ((x : ℕ) → In x xs → In x ys) → sum_by f xs ≤ sum_by f ys
sum_less f [] ys distinct each = omega arith
sum_less f (x ∷ xs) ys distinct each =
    let whole : sum_by f ys ≡ f x + sum_by f (without x ys) = sum_without f x ys (each x (inl refl)) in
    let rest : sum_by f xs ≤ sum_by f (without x ys) = sum_less f xs (without x ys) (rest_distinct x xs distinct)
    (λ y there. in_without x y ys (each y (inr there)) (λ same. not_again x xs distinct (subst (λ k. In k xs) same there))) in
    let all : sum_by f (x ∷ xs) ≡ f x + sum_by f xs = sum_by-cons f x xs in
    omega arith

-- ONE NUMBER

pub one_live : (tasks count : ℕ) (h : Heap) (some other : ℕ) → Live tasks count h some → Live tasks count h other → some ≡ other
one_live tasks count h some other a b =
    let up : sum_by (words_of_birth h) a.births ≤ sum_by (words_of_birth h) b.births = sum_less (words_of_birth h) a.births b.births a.lists.distinct (in_other a b) in
    let down : sum_by (words_of_birth h) b.births ≤ sum_by (words_of_birth h) a.births = sum_less (words_of_birth h) b.births a.births b.lists.distinct (in_other b a) in
    let first : some ≡ sum_by (words_of_birth h) a.births = a.counts in
    let second : other ≡ sum_by (words_of_birth h) b.births = b.counts in
    omega arith
  where
    in_other : {v w : ℕ} (c : Live tasks count h v) (d : Live tasks count h w) (x : ℕ) → In x c.births → In x d.births
    in_other c d x there = in_contained d.births x ((d.lists.each x).0 ((c.lists.each x).1 (contained_in c.births x there)))

-- births that can be reached, each once, have no more words
pub within_live : (tasks count : ℕ) (h : Heap) (words : ℕ) (births : List ℕ) → Live tasks count h words → Distinct births → All (Reached tasks count h) births
    → sum_by (words_of_birth h) births ≤ words
within_live tasks count h words births live distinct reached =
    let fewer : sum_by (words_of_birth h) births ≤ sum_by (words_of_birth h) live.births = sum_less (words_of_birth h) births live.births distinct
    (λ x there. let at = index_in births x there in in_contained live.births x ((live.lists.each x).0 (subst (Reached tasks count h) at.2 (reached at.0 0 at.1)))) in
    let all : words ≡ sum_by (words_of_birth h) live.births = live.counts in
    omega arith

-- SETS OF NUMBERS BELOW A BOUND

-- the members below a bound
abbrev members : (ℕ → Bool) → ℕ → List ℕ
members member zero = []
members member (suc n) = if member n then (n ∷ members member n) else members member n

members_few : (member : ℕ → Bool) (n : ℕ) → length (members member n) ≤ n
members_few member zero = omega arith
members_few member (suc n) = let few = members_few member n in elim (cases_Bool (member n)) [ inl has ↦ rw has (omega arith) | inr lacks ↦ rw lacks (omega arith) ]

is_member : (member : ℕ → Bool) (n x : ℕ) → In x (members member n) → (x < n) × (member x ≡ true)
is_member member zero x none = absurd none
is_member member (suc n) x there = elim (cases_Bool (member n)) [
  | inl has ↦ at has (is_member member n x) (rw has at there)
  | inr lacks ↦ let o = is_member member n x (rw lacks at there) in (omega (arith, o.0), o.1)
]
  where
    at : member n ≡ true → (In x (members member n) → (x < n) × (member x ≡ true)) → In x (n ∷ members member n) → (x < suc n) × (member x ≡ true)
    at has rest (inl e) = (omega arith, ap member e ∙ has)
    at has rest (inr later) = let o = rest later in (omega (arith, o.0), o.1)

member_in : (member : ℕ → Bool) (n x : ℕ) → x < n → member x ≡ true → In x (members member n)
member_in member zero x below has = absurd (omega arith)
member_in member (suc n) x below has = elim (cases_eq x n) [
  | inl e ↦ rw (ap member (sym e) ∙ has) (inl e)
  | inr d ↦
      let there : In x (members member n) = member_in member n x (omega arith) has in
      elim (cases_Bool (member n)) [ inl first ↦ rw first (inr there) | inr lacks ↦ rw lacks there ]
]

members_distinct : (member : ℕ → Bool) (n : ℕ) → Distinct (members member n)
members_distinct member zero = λ i j less below. absurd (omega arith)
members_distinct member (suc n) = elim (cases_Bool (member n)) [
  | inl has ↦ rw has (with_first n (members member n) (λ again. let o = is_member member n n again in absurd (omega (arith, o.0))) (members_distinct member n))
  | inr lacks ↦ rw lacks (members_distinct member n)
]

-- one member more
unchanged : (member : ℕ → Bool) (b n : ℕ) → n ≤ b → members (upd member b true) n ≡ members member n
unchanged member b zero above = refl
unchanged member b (suc n) above =
    let here : upd member b true n ≡ member n = upd_other member b true n (omega arith) in
    rw (here, unchanged member b n (omega arith)) refl

one_more : (member : ℕ → Bool) (b n : ℕ) → b < n → member b ≡ false → length (members (upd member b true) n) ≡ length (members member n) + 1
one_more member b zero below new = absurd (omega arith)
one_more member b (suc n) below new = elim (cases_eq n b) [
  | inl e ↦
      let here : upd member b true n ≡ true = ap (upd member b true) e ∙ upd_same member b true in
      let before : member n ≡ false = ap member e ∙ new in
      rw (here, before, unchanged member b n (omega arith)) (omega arith)
  | inr d ↦
      let here : upd member b true n ≡ member n = upd_other member b true n d in
      let rest = one_more member b n (omega arith) new in
      elim (cases_Bool (member n)) [ inl has ↦ rw (here, has) (omega arith) | inr lacks ↦ rw (here, lacks) rest ]
]

-- some number below a bound has a property, or each has another
search : (n : ℕ) (A B : ℕ → Type 0) → ((i : ℕ) → i < n → A i ⊎ B i) → ((i : ℕ) × A i) ⊎ ((i : ℕ) → i < n → B i)
search zero A B each = inr (λ i below. absurd (omega arith))
search (suc n) A B each = elim (search n A B (λ i below. each i (omega arith))) [
  | inl found ↦ inl found
  | inr none ↦ elim (each n (omega arith)) [
    | inl found ↦ inl (n, found)
    | inr last ↦ inr (λ i below. elim (cases_eq i n) [ inl e ↦ subst B (sym e) last | inr d ↦ none i (omega arith) ])
  ]
]

-- WHAT CAN BE REACHED

module _ (tasks count : ℕ) (h : Heap) (is : IsHeap tasks count h) where
  reached_born : (birth : ℕ) → Reached tasks count h birth → birth < born h
  reached_born birth (in_register seat reg below fits holds) = is.register_born seat reg birth holds
  reached_born birth (in_cell holder field reach within holds) = is.link_born holder field birth holds

  -- each member can be reached
  abbrev IsSound : (ℕ → Bool) → Type 0
  IsSound member = (b : ℕ) → member b ≡ true → Reached tasks count h b

  -- a birth that can be reached and isn't a member
  abbrev IsMissing : (ℕ → Bool) → ℕ → Type 0
  IsMissing member b = Reached tasks count h b × (member b ≡ false)

  -- what null or a birth says is a member
  abbrev AreMembers : (ℕ → Bool) → Option ℕ → Type 0
  AreMembers member held = (b : ℕ) → held ≡ Some b → member b ≡ true

  -- no birth in a register and none in a field of a member is missing
  record IsClosed (member : ℕ → Bool) : Type 0 where
    registers : (seat : ℕ) → seat < tasks → (reg : ℕ) → reg < count → AreMembers member (register h seat reg)
    fields : (holder : ℕ) → holder < born h → member holder ≡ true → (field : ℕ) → field < refs h holder → AreMembers member (link h holder field)

  held_or_missing : (member : ℕ → Bool) (held : Option ℕ) → ((b : ℕ) → held ≡ Some b → Reached tasks count h b) → ((b : ℕ) × IsMissing member b) ⊎ AreMembers member held
  held_or_missing member None reach = inr (λ b e. absurd (cc))
  held_or_missing member (Some c) reach = elim (cases_Bool (member c)) [
    | inl has ↦ inr (λ b e. let same : c ≡ b = cc in subst (λ k. member k ≡ true) same has)
    | inr lacks ↦ inl (c, (reach c refl, lacks))
  ]

  abbrev SomeMissing : (ℕ → Bool) → ℕ → Type 0
  SomeMissing member i = (b : ℕ) × IsMissing member b

  abbrev SeatIn : (ℕ → Bool) → ℕ → Type 0
  SeatIn member seat = (reg : ℕ) → reg < count → AreMembers member (register h seat reg)

  abbrev HolderIn : (ℕ → Bool) → ℕ → Type 0
  HolderIn member holder = member holder ≡ true → (field : ℕ) → field < refs h holder → AreMembers member (link h holder field)

  of_seat : (member : ℕ → Bool) → (seat : ℕ) → seat < tasks → SomeMissing member seat ⊎ SeatIn member seat
  of_seat member seat below = elim (search count (SomeMissing member) (λ reg. AreMembers member (register h seat reg))
      (λ reg fits. held_or_missing member (register h seat reg) (λ b e. in_register seat reg below fits e))) [
        | inl (reg, found) ↦ inl found
        | inr all ↦ inr all
      ]

  of_holder : (member : ℕ → Bool) → IsSound member → (holder : ℕ) → holder < born h → SomeMissing member holder ⊎ HolderIn member holder
  of_holder member sound holder below = elim (cases_Bool (member holder)) [
    | inl has ↦ elim (search (refs h holder) (SomeMissing member) (λ field. AreMembers member (link h holder field))
        (λ field within. held_or_missing member (link h holder field) (λ b e. in_cell holder field (sound holder has) within e))) [
          | inl (field, found) ↦ inl found
          | inr all ↦ inr (λ again. all)
        ]
    | inr lacks ↦ inr (λ has. absurd (let both : true ≡ false = sym has ∙ lacks in cc))
  ]

  missing_or_closed : (member : ℕ → Bool) → IsSound member → ((b : ℕ) × IsMissing member b) ⊎ IsClosed member
  missing_or_closed member sound = elim (search tasks (SomeMissing member) (SeatIn member) (of_seat member)) [
    | inl (seat, found) ↦ inl found
    | inr shown ↦ elim (search (born h) (SomeMissing member) (HolderIn member) (of_holder member sound)) [
      | inl (holder, found) ↦ inl found
      | inr closed ↦ inr (record { registers = shown; fields = closed })
    ]
  ]

  -- the set with a birth that was missing
  still_sound : (member : ℕ → Bool) (b : ℕ) → IsSound member → Reached tasks count h b → IsSound (upd member b true)
  still_sound member b sound reach c has = elim (cases_eq c b) [
    | inl e ↦ subst (λ k. Reached tasks count h k) (sym e) reach
    | inr d ↦ sound c (sym (upd_other member b true c d) ∙ has)
  ]

  record IsWhole (member : ℕ → Bool) : Type 0 where
    sound : IsSound member
    closed : IsClosed member

  whole : (left : ℕ) (member : ℕ → Bool) → IsSound member → born h ≤ length (members member (born h)) + left → (all : ℕ → Bool) × IsWhole all
  whole zero member sound enough = elim (missing_or_closed member sound) [
    | inl (b, (reach, new)) ↦
        let more = one_more member b (born h) (reached_born b reach) new in
        let few = members_few (upd member b true) (born h) in
        absurd (omega arith)
    | inr closed ↦ (member, record { sound = sound; closed = closed })
  ]
  whole (suc left) member sound enough = elim (missing_or_closed member sound) [
    | inl (b, (reach, new)) ↦
        let more = one_more member b (born h) (reached_born b reach) new in
        whole left (upd member b true) (still_sound member b sound reach) (omega arith)
    | inr closed ↦ (member, record { sound = sound; closed = closed })
  ]

  all_members : (member : ℕ → Bool) → IsClosed member → (birth : ℕ) → Reached tasks count h birth → member birth ≡ true
  all_members member closed birth (in_register seat reg below fits holds) = closed.registers seat below reg fits birth holds
  all_members member closed birth (in_cell holder field reach within holds) =
      closed.fields holder (reached_born holder reach) (all_members member closed holder reach) field within birth holds

  pub some_live : (words : ℕ) × Live tasks count h words
  some_live =
      let w = whole (born h) (λ b. false) (λ b has. absurd (cc)) (omega arith) in
      let births = members w.0 (born h) in (
        sum_by (words_of_birth h) births,
        record {
          births = births;
          lists = record {
            distinct = members_distinct w.0 (born h);
            each = λ birth. (
              λ reach. contained_in births birth (member_in w.0 (born h) birth (reached_born birth reach) (all_members w.0 w.1.closed birth reach)),
              λ there. w.1.sound birth (is_member w.0 (born h) birth (in_contained births birth there)).1,
            );
          };
          counts = refl;
        },
      )
