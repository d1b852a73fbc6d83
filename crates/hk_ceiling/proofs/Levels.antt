-- What a job's level is.
use Rattle.std.proofs.Common.{◌≡◌, ℕ, zero, suc, ◌+◌, ◌-◌, ◌<◌, ◌≤◌, ◌⊎◌, true, false, ◌&&◌, nat_eq, nat_lt, List, Some, None, length, refl, sym, ap, ◌∙◌, subst, arith, inl, inr}
use Rattle.std.proofs.lemmas.Bool.{cases_lt, cases_eq, cases_Bool, and_parts, and_from, ltb-true, eqb-true, lt-ltb, le-ltb, le-leb, eq-eqb}
use Rattle.hk_ceiling.specs.declared.ceilings.TaskSection.{TaskSection}
use Rattle.hk_ceiling.specs.Ceilings.{section_at, is_inside, lesser, greater, ceiling_below, ceiling, inside_below, inside_at, level, can_block, block_below, block, AreApart, Inside}
use Rattle.hk_ceiling.specs.Choice.{is_there}

lesser-le_left : (a b : ℕ) → lesser a b ≤ a
lesser-le_left a b = elim (cases_lt a b) [ inl less ↦ rw (lt-ltb a b less) (omega arith) | inr above ↦ rw (le-ltb a b above) (omega arith) ]

lesser-le_right : (a b : ℕ) → lesser a b ≤ b
lesser-le_right a b = elim (cases_lt a b) [ inl less ↦ rw (lt-ltb a b less) (omega arith) | inr above ↦ rw (le-ltb a b above) (omega arith) ]

greater-le_left : (a b : ℕ) → a ≤ greater a b
greater-le_left a b = elim (cases_lt a b) [ inl less ↦ rw (lt-ltb a b less) (omega arith) | inr above ↦ rw (le-ltb a b above) (omega arith) ]

greater-le_right : (a b : ℕ) → b ≤ greater a b
greater-le_right a b = elim (cases_lt a b) [ inl less ↦ rw (lt-ltb a b less) (omega arith) | inr above ↦ rw (le-ltb a b above) (omega arith) ]

-- the ceiling is at most the task itself
ceiling_below-le : (sections : List TaskSection) (res task n : ℕ) → ceiling_below sections res task n ≤ task
unfolding ceiling_below
ceiling_below-le sections res task zero = omega arith
ceiling_below-le sections res task (suc n) = elim (cases_Bool (nat_eq (section_at sections n).res res)) [
  | inl e ↦ rw e (omega (arith, lesser-le_right (section_at sections n).task (ceiling_below sections res task n), ceiling_below-le sections res task n))
  | inr e ↦ rw e (ceiling_below-le sections res task n)
]

-- and at most each task with a section of the resource
ceiling_below-le_task : (sections : List TaskSection) (res task n p : ℕ) → p < n → (section_at sections p).res ≡ res → ceiling_below sections res task n ≤ (section_at sections p).task
unfolding ceiling_below
ceiling_below-le_task sections res task zero p lt same = absurd (omega arith)
ceiling_below-le_task sections res task (suc n) p lt same = elim (cases_eq p n) [
  | inl here ↦
      let P : ℕ → Type 0 = λ x. (section_at sections x).res ≡ res in
      let Q : ℕ → Type 0 = λ x. ceiling_below sections res task (suc n) ≤ (section_at sections x).task in
      let last : ceiling_below sections res task (suc n) ≤ (section_at sections n).task = rw (eq-eqb (section_at sections n).res res (subst P here same)) (lesser-le_left (section_at sections n).task (ceiling_below sections res task n)) in
      subst Q (sym here) last
  | inr other ↦
      let before = ceiling_below-le_task sections res task n p (omega arith) same in
      elim (cases_Bool (nat_eq (section_at sections n).res res)) [
        | inl e ↦ rw e (omega (arith, before, lesser-le_right (section_at sections n).task (ceiling_below sections res task n)))
        | inr e ↦ rw e before
      ]
]

pub ceiling-le : (sections : List TaskSection) (q : ℕ) → ceiling sections q ≤ (section_at sections q).task
ceiling-le sections q = ceiling_below-le sections (section_at sections q).res (section_at sections q).task (length sections)

pub ceiling-le_task : (sections : List TaskSection) (p q : ℕ) → p < length sections → (section_at sections p).res ≡ (section_at sections q).res → ceiling sections q ≤ (section_at sections p).task
ceiling-le_task sections p q lt same = ceiling_below-le_task sections (section_at sections q).res (section_at sections q).task (length sections) p lt same

-- of what the test of being inside means
inside_from : (sections : List TaskSection) (task done q : ℕ) → q < length sections → is_inside (section_at sections q) task done ≡ true → Inside sections task done q
inside_from sections task done q lt e =
    let outer = and_parts (nat_eq (section_at sections q).task task) (nat_lt (section_at sections q).start done && nat_lt done ((section_at sections q).start + (section_at sections q).len)) e in
    let inner = and_parts (nat_lt (section_at sections q).start done) (nat_lt done ((section_at sections q).start + (section_at sections q).len)) outer.1 in
    record { listed = lt; its = eqb-true _ _ outer.0; begun = ltb-true _ _ inner.0; more = ltb-true _ _ inner.1 }

inside-true : (sections : List TaskSection) (task done q : ℕ) → Inside sections task done q → is_inside (section_at sections q) task done ≡ true
inside-true sections task done q i = and_from _ _ (eq-eqb _ _ i.its) (and_from _ _ (lt-ltb _ _ i.begun) (lt-ltb _ _ i.more))

-- a job has its tick in one section at most
pub one_section : (sections : List TaskSection) → AreApart sections → (task done p q : ℕ) → p < length sections → q < length sections
    → (section_at sections p).task ≡ task → (section_at sections q).task ≡ task
    → (section_at sections p).start ≤ done → done < (section_at sections p).start + (section_at sections p).len
    → (section_at sections q).start ≤ done → done < (section_at sections q).start + (section_at sections q).len → p ≡ q
one_section sections a task done p q lp lq tp tq sp ep sq eq = elim (cases_eq p q) [
  | inl same ↦ same
  | inr other ↦ elim (cases_lt p q) [
    | inl less ↦ absurd (omega (arith, a.apart p q less lq (tp ∙ sym tq), ep, sq))
    | inr above ↦ absurd (omega (arith, a.apart q p (omega arith) lp (tq ∙ sym tp), eq, sp))
  ]
]

pub one_inside : (sections : List TaskSection) → AreApart sections → (task done p q : ℕ) → Inside sections task done p → Inside sections task done q → p ≡ q
one_inside sections a task done p q i j = one_section sections a task done p q i.listed j.listed i.its j.its (omega (arith, i.begun)) i.more (omega (arith, j.begun)) j.more

-- the search finds a section that the job is inside, or there is none
pub record NoneInside (sections : List TaskSection) (task done n : ℕ) : Type 0 where
  pub none : (q : ℕ) → q < n → ¬ (Inside sections task done q)

inside_below_law : (sections : List TaskSection) (task done n : ℕ) → n ≤ length sections
    → ((q : ℕ) × ((inside_below sections task done n ≡ Some q) × Inside sections task done q)) ⊎ ((inside_below sections task done n ≡ None) × NoneInside sections task done n)
unfolding inside_below
inside_below_law sections task done zero fits = inr (refl, record { none = λ q lt i. omega arith })
inside_below_law sections task done (suc n) fits = elim (cases_Bool (is_inside (section_at sections n) task done)) [
  | inl e ↦ rw e (inl (n, (refl, inside_from sections task done n (omega arith) e)))
  | inr e ↦ rw e (elim (inside_below_law sections task done n (omega arith)) [
    | inl found ↦ inl found
    | inr nowhere ↦ inr (
      nowhere.0,
      record {
        none = λ q lt i. elim (cases_eq q n) [
          | inl same ↦
              let P : ℕ → Type 0 = λ x. Inside sections task done x in
              let here : true ≡ false = sym (inside-true sections task done n (subst P same i)) ∙ e in cc
          | inr other ↦ nowhere.1.none q (omega (arith, lt, other)) i
        ];
      },
    )
  ])
]

-- the level of a job that is inside a section
pub level_inside : (sections : List TaskSection) → AreApart sections → (task done q : ℕ) → Inside sections task done q → level sections task done ≡ ceiling sections q
level_inside sections a task done q i = elim (inside_below_law sections task done (length sections) (omega arith)) [
  | inl found ↦ rw (found.1.0) (ap (λ x. ceiling sections x) (one_inside sections a task done found.0 q found.1.1 i))
  | inr nowhere ↦ absurd (nowhere.1.none q i.listed i)
]

-- and of one that is inside none
pub level_outside : (sections : List TaskSection) (task done : ℕ) → ((q : ℕ) → ¬ (Inside sections task done q)) → level sections task done ≡ task
level_outside sections task done none = elim (inside_below_law sections task done (length sections) (omega arith)) [
  | inl found ↦ absurd (none found.0 found.1.1)
  | inr nowhere ↦ rw (nowhere.0) refl
]

-- a job is inside a section, or its level is its task
pub record At (sections : List TaskSection) (task done : ℕ) : Type 0 where
  pub place : ℕ
  pub inside : Inside sections task done place
  pub level_is : level sections task done ≡ ceiling sections place

pub record Out (sections : List TaskSection) (task done : ℕ) : Type 0 where
  pub none : (q : ℕ) → ¬ (Inside sections task done q)
  pub level_is : level sections task done ≡ task

pub at_or_out : (sections : List TaskSection) → AreApart sections → (task done : ℕ) → At sections task done ⊎ Out sections task done
at_or_out sections a task done = elim (inside_below_law sections task done (length sections) (omega arith)) [
  | inl found ↦ inl (record { place = found.0; inside = found.1.1; level_is = level_inside sections a task done found.0 found.1.1 })
  | inr nowhere ↦
      let none : (q : ℕ) → ¬ (Inside sections task done q) = λ q i. nowhere.1.none q i.listed i in
      inr (record { none = none; level_is = level_outside sections task done none })
]

-- the search answers a place exactly where the job is inside a section
pub found_inside : (sections : List TaskSection) (task done q : ℕ) → Inside sections task done q → is_there (inside_at sections task done) ≡ true
found_inside sections task done q i = elim (inside_below_law sections task done (length sections) (omega arith)) [
  | inl found ↦ rw (found.1.0) refl
  | inr nowhere ↦ absurd (nowhere.1.none q i.listed i)
]

pub inside_found : (sections : List TaskSection) (task done : ℕ) → is_there (inside_at sections task done) ≡ true → (q : ℕ) × Inside sections task done q
inside_found sections task done e = elim (inside_below_law sections task done (length sections) (omega arith)) [
  | inl found ↦ (found.0, found.1.1)
  | inr nowhere ↦
      let none : false ≡ true = ap (λ o. is_there o) (sym (nowhere.0)) ∙ e in
      absurd (cc)
]

pub level-le : (sections : List TaskSection) → AreApart sections → (task done : ℕ) → level sections task done ≤ task
level-le sections a task done = elim (at_or_out sections a task done) [
  | inl at ↦ omega (arith, at.level_is, ceiling-le sections at.place, at.inside.its)
  | inr out ↦ omega (arith, out.level_is)
]

-- each section that can hold up a task is at most its block
block_below-le : (sections : List TaskSection) (i n q : ℕ) → q < n → i < (section_at sections q).task → ceiling sections q ≤ i → (section_at sections q).len - 1 ≤ block_below sections i n
unfolding block_below
block_below-le sections i zero q lt later high = absurd (omega arith)
block_below-le sections i (suc n) q lt later high = elim (cases_eq q n) [
  | inl here ↦
      let P : ℕ → Type 0 = λ x. i < (section_at sections x).task in
      let Q : ℕ → Type 0 = λ x. ceiling sections x ≤ i in
      let R : ℕ → Type 0 = λ x. (section_at sections x).len - 1 ≤ block_below sections i (suc n) in
      let last : (section_at sections n).len - 1 ≤ block_below sections i (suc n) =
      rw (and_from _ _ (lt-ltb i (section_at sections n).task (subst P here later)) (le-leb (ceiling sections n) i (subst Q here high)))
      (greater-le_right (block_below sections i n) ((section_at sections n).len - 1)) in
      subst R (sym here) last
  | inr other ↦
      let before = block_below-le sections i n q (omega arith) later high in
      elim (cases_Bool (can_block sections i n)) [
        | inl e ↦ rw e (omega (arith, before, greater-le_left (block_below sections i n) ((section_at sections n).len - 1)))
        | inr e ↦ rw e before
      ]
]

pub block-le : (sections : List TaskSection) (i q : ℕ) → q < length sections → i < (section_at sections q).task → ceiling sections q ≤ i → (section_at sections q).len - 1 ≤ block sections i
block-le sections i q lt later high = block_below-le sections i (length sections) q lt later high
