-- The list of ready jobs that a choice gets.
use Rattle.std.proofs.Common.{◌≡◌, ℕ, zero, suc, ◌+◌, ◌-◌, ◌<◌, ◌⊎◌, Bool, true, false, List, [], ◌∷◌, ◌++◌, Option, Some, None, length, get_or, refl, sym, ap, ◌∙◌, subst, arith, inl, inr, length-append}
use Rattle.std.proofs.lemmas.Bool.{cases_lt, cases_eq, cases_Bool}
use Rattle.std.proofs.lemmas.List.{get_or_append_left, get_or-append-add}
use Rattle.hk_plan.specs.declared.Ready.{Ready}
use Rattle.hk_plan.specs.AloneBy.{first_below, rows_below, no_ready, ready_at, chosen_task}

-- the first number of which a test holds, or there is none
pub record FirstIs (test : ℕ → Bool) (n : ℕ) (found : Option ℕ) : Type 0 where
  pub place : ℕ
  pub is : found ≡ Some place
  pub within : place < n
  pub passes : test place ≡ true
  pub least : (k : ℕ) → k < place → test k ≡ false

pub record NoneIs (test : ℕ → Bool) (n : ℕ) (found : Option ℕ) : Type 0 where
  pub is : found ≡ None
  pub fails : (k : ℕ) → k < n → test k ≡ false

pub first_law : (test : ℕ → Bool) (n : ℕ) → FirstIs test n (first_below test n) ⊎ NoneIs test n (first_below test n)
unfolding first_below
first_law test zero = inr (record { is = refl; fails = λ k lt. absurd (omega arith) })
first_law test (suc n) = elim (first_law test n) [
  | inl f ↦ rw (f.is) (inl (record { place = f.place; is = refl; within = omega (arith, f.within); passes = f.passes; least = f.least }))
  | inr none ↦ elim (cases_Bool (test n)) [
    | inl e ↦ rw (none.is, e) (inl (record { place = n; is = refl; within = omega arith; passes = e; least = none.fails }))
    | inr e ↦ rw (none.is, e) (inr (record {
      is = refl;
      fails = λ k lt. elim (cases_eq k n) [ inl same ↦ ap test same ∙ e | inr other ↦ none.fails k (omega (arith, lt, other)) ];
    }))
  ]
]

-- a row of the list is one of some task
pub record RowFrom (a : ℕ → List Ready) (n p : ℕ) : Type 0 where
  pub task : ℕ
  pub at : ℕ
  pub known : task < n
  pub listed : at < length (a task)
  pub row : ready_at (rows_below a n) p ≡ ready_at (a task) at

pub row_from : (a : ℕ → List Ready) (n p : ℕ) → p < length (rows_below a n) → RowFrom a n p
unfolding rows_below
row_from a zero p lt = absurd (omega arith)
row_from a (suc n) p lt = elim (cases_lt p (length (rows_below a n))) [
  | inl before ↦
      let r = row_from a n p before in
      record { task = r.task; at = r.at; known = omega (arith, r.known); listed = r.listed; row = get_or_append_left (rows_below a n) (a n) no_ready p before ∙ r.row }
  | inr past ↦
      let e : p ≡ length (rows_below a n) + (p - length (rows_below a n)) = omega (arith, past) in
      record {
        task = n;
        at = p - length (rows_below a n);
        known = omega arith;
        listed = omega (arith, past, lt, length-append (rows_below a n) (a n));
        row = ap (λ k. ready_at (rows_below a n ++ a n) k) e ∙ get_or-append-add (rows_below a n) (a n) (p - length (rows_below a n)) no_ready;
      }
]

-- and each row of a task is in the list
pub record RowTo (a : ℕ → List Ready) (n i q : ℕ) : Type 0 where
  pub at : ℕ
  pub within : at < length (rows_below a n)
  pub row : ready_at (rows_below a n) at ≡ ready_at (a i) q

pub row_to : (a : ℕ → List Ready) (n i q : ℕ) → i < n → q < length (a i) → RowTo a n i q
unfolding rows_below
row_to a zero i q lt listed = absurd (omega arith)
row_to a (suc n) i q lt listed = elim (cases_eq i n) [
  | inr other ↦
      let r = row_to a n i q (omega (arith, lt, other)) listed in
      record {
        at = r.at;
        within = omega (arith, r.within, length-append (rows_below a n) (a n));
        row = get_or_append_left (rows_below a n) (a n) no_ready r.at r.within ∙ r.row;
      }
  | inl same ↦
      let P : ℕ → Type 0 = λ x. RowTo a (suc n) x q in
      let Q : ℕ → Type 0 = λ x. q < length (a x) in
      subst P (sym same) (record {
        at = length (rows_below a n) + q;
        within = omega (arith, length-append (rows_below a n) (a n), subst Q same listed);
        row = get_or-append-add (rows_below a n) (a n) q no_ready;
      })
]

-- the first row of the list is that of the least task that has one
pub record HeadIs (a : ℕ → List Ready) (n : ℕ) : Type 0 where
  pub task : ℕ
  pub known : task < n
  pub some : 0 < length (a task)
  pub before : (m : ℕ) → m < task → length (a m) ≡ 0
  pub more : 0 < length (rows_below a n)
  pub head : ready_at (rows_below a n) 0 ≡ ready_at (a task) 0

-- or no task has one
pub record NoHead (a : ℕ → List Ready) (n : ℕ) : Type 0 where
  pub empty : (m : ℕ) → m < n → length (a m) ≡ 0
  pub none : length (rows_below a n) ≡ 0

pub head_law : (a : ℕ → List Ready) (n : ℕ) → HeadIs a n ⊎ NoHead a n
unfolding rows_below
head_law a zero = inr (record { empty = λ m lt. absurd (omega arith); none = refl })
head_law a (suc n) =
    let own : List Ready = rows_below a n in
    let both = length-append own (a n) in
    elim (head_law a n) [
      | inl h ↦ inl (record {
        task = h.task;
        known = omega (arith, h.known);
        some = h.some;
        before = h.before;
        more = omega (arith, h.more, both);
        head = get_or_append_left own (a n) no_ready 0 h.more ∙ h.head;
      })
      | inr no_head ↦ elim (cases_lt 0 (length (a n))) [
        | inl some ↦
            let e : 0 ≡ length own + 0 = omega (arith, no_head.none) in
            inl (record {
              task = n;
              known = omega arith;
              some = some;
              before = no_head.empty;
              more = omega (arith, some, both);
              head = ap (λ k. ready_at (own ++ a n) k) e ∙ get_or-append-add own (a n) 0 no_ready;
            })
        | inr empty ↦
            let here : length (a n) ≡ 0 = omega (arith, empty) in
            inr (record {
              empty = λ m lt. elim (cases_eq m n) [ inl same ↦ ap (λ k. length (a k)) same ∙ here | inr other ↦ no_head.empty m (omega (arith, lt, other)) ];
              none = omega (arith, both, here, no_head.none);
            })
      ]
    ]

-- the chosen task is that of the chosen row
pub record IsChosen (choice : List Ready → ℕ) (rows : List Ready) : Type 0 where
  pub some : 0 < length rows
  pub is : chosen_task choice rows ≡ Some (get_or rows (choice rows) no_ready).task

pub record NoneChosen (choice : List Ready → ℕ) (rows : List Ready) : Type 0 where
  pub none : length rows ≡ 0
  pub is : chosen_task choice rows ≡ None

pub chosen_law : (choice : List Ready → ℕ) (rows : List Ready) → IsChosen choice rows ⊎ NoneChosen choice rows
chosen_law choice [] = inr (record { none = refl; is = refl })
chosen_law choice (row ∷ rows) = inl (record { some = omega arith; is = refl })
