-- Who gets a tick, and what that says: of each rule that applies, that those before it don't.
use Rattle.std.proofs.Common.{◌≡◌, ℕ, zero, suc, ◌+◌, ◌<◌, ◌≤◌, true, false, List, [], ◌∷◌, ◌++◌, length, refl, sym, ◌∙◌, ap, arith, inl, inr, Some, get_or}
use Rattle.std.proofs.lemmas.List.{get_or_append_left, get_or-append-add, length-append}
use Rattle.std.proofs.lemmas.Bool.{cases_Bool, cases_lt, lt-ltb, le-ltb}
use Rattle.std.specs.Prelude.{nat_lt, if◌then◌else◌}
use Rattle.hk_plan.specs.declared.Ready.{Ready}
use Rattle.hk_plan.specs.AloneBy.{rows_below, chosen_task, no_ready, ready_at}
use Rattle.hk_plan.proofs.ReadyRows.{row_from, row_to, chosen_law}
use Rattle.hk_sheet.specs.declared.sheet.Sheet.{Sheet}
use Rattle.hk_dispatch.specs.Tasks.{high_at}
use Rattle.hk_dispatch.specs.Moment.{Moment, course_at}
use Rattle.hk_dispatch.specs.Rows.{TasksRise, IsChoice}
use Rattle.hk_dispatch.specs.Turns.{Turn, to_task, to_collector, to_nobody, row_of, ready_row, ready_rows, in_mid_course, first_low, or_else, turn}
use Rattle.hk_dispatch.specs.Rules.{ready_now, NoHighReady, ToHigh, TurnIs, by_high, by_operation, by_collector, by_low, by_nobody, RulesApply, HighFirst, RowsRise}
use Rattle.hk_dispatch.proofs.FirstLow.{first_low_law}

-- the tasks of the rows rise
module _ (a : ℕ → List Ready) where
  rows_rise : (n : ℕ) → ((i : ℕ) → i < n → length (a i) ≤ 1) → ((i k : ℕ) → i < n → k < length (a i) → (ready_at (a i) k).task ≡ i) → TasksRise (rows_below a n)
  unfolding rows_below
  rows_rise zero few own i j lt within = absurd (omega arith)
  rows_rise (suc n) few own i j lt within = elim (cases_lt j (length (rows_below a n))) [
    | inl before ↦
        let first = ap (λ (x : Ready). x.task) (get_or_append_left (rows_below a n) (a n) no_ready i (omega (arith, lt, before))) in
        let second = ap (λ (x : Ready). x.task) (get_or_append_left (rows_below a n) (a n) no_ready j before) in
        let less = rows_rise n (λ k b. few k (omega (arith, b))) (λ k q b c. own k q (omega (arith, b)) c) i j lt before in
        omega (arith, first, second, less)
    | inr after ↦
        let all = length-append (rows_below a n) (a n) in
        let one = few n (omega arith) in
        let at : j ≡ length (rows_below a n) + 0 = omega (arith, after, all, one, within) in
        let some : 0 < length (a n) = omega (arith, after, all, within) in
        let second : (ready_at (rows_below a n ++ a n) j).task ≡ n =
        ap (λ k. (ready_at (rows_below a n ++ a n) k).task) at ∙ ap (λ (x : Ready). x.task) (get_or-append-add (rows_below a n) (a n) 0 no_ready) ∙ own n 0 (omega arith) some in
        let inside : i < length (rows_below a n) = omega (arith, lt, at) in
        let first = ap (λ (x : Ready). x.task) (get_or_append_left (rows_below a n) (a n) no_ready i inside) in
        let r = row_from a n i inside in
        let known = r.known in
        let its : (ready_at (rows_below a n) i).task ≡ r.task = ap (λ (x : Ready). x.task) r.row ∙ own r.task r.at (omega (arith, known)) r.listed in
        omega (arith, first, second, its, known)
  ]

module _ (sheet : Sheet) (m : Moment) (tick : ℕ) where
  -- a row is that of a ready task
  row_ready : (seat k : ℕ) → k < length (ready_row sheet m tick seat) → (get_or (ready_row sheet m tick seat) k no_ready ≡ row_of seat (high_at sheet seat) (course_at m seat)) × (ready_now sheet m tick seat ≡ true)
  row_ready seat k lt = elim (cases_Bool (ready_now sheet m tick seat)) [
    | inl yes' ↦ (rw yes' (first k (let e : length (ready_row sheet m tick seat) ≡ 1 = rw yes' refl in omega (arith, e, lt))), yes')
    | inr no' ↦ absurd (let e : length (ready_row sheet m tick seat) ≡ 0 = rw no' refl in omega (arith, e, lt))
  ]
    where
      first : (k : ℕ) → k ≡ 0 → get_or (row_of seat (high_at sheet seat) (course_at m seat) ∷ []) k no_ready ≡ row_of seat (high_at sheet seat) (course_at m seat)
      first k e = rw e refl

  one_row : (seat : ℕ) → length (ready_row sheet m tick seat) ≤ 1
  one_row seat = elim (cases_Bool (ready_now sheet m tick seat)) [
    | inl yes' ↦ let e : length (ready_row sheet m tick seat) ≡ 1 = rw yes' refl in omega (arith, e)
    | inr no' ↦ let e : length (ready_row sheet m tick seat) ≡ 0 = rw no' refl in omega (arith, e)
  ]

  -- the rows are those of the ready high tasks
  no_row : length (ready_rows sheet m tick) ≡ 0 → NoHighReady sheet m tick
  unfolding ready_rows
  no_row none seat high = elim (cases_Bool (ready_now sheet m tick seat)) [
    | inl yes' ↦ absurd (
        let one : length (ready_row sheet m tick seat) ≡ 1 = rw yes' refl in
        let r = row_to (ready_row sheet m tick) (length sheet.high) seat 0 high (omega (arith, one)) in
        let w = r.within in omega (arith, none, w)
        )
    | inr no' ↦ no'
  ]

  pub ready_rows_rise : TasksRise (ready_rows sheet m tick)
  unfolding ready_rows
  ready_rows_rise = rows_rise (ready_row sheet m tick) (length sheet.high) (λ i b. one_row i) (λ i k b lt. ap (λ (x : Ready). x.task) (row_ready i k lt).0)

module _ (choice : List Ready → ℕ) (sheet : Sheet) (m : Moment) (tick : ℕ) (choice_is : IsChoice choice) where
  to_high : 0 < length (ready_rows sheet m tick) → chosen_task choice (ready_rows sheet m tick) ≡ Some (get_or (ready_rows sheet m tick) (choice (ready_rows sheet m tick)) no_ready).task
      → (seat : ℕ) × ToHigh choice sheet m tick seat
  unfolding ready_rows
  to_high some is =
      let rise = ready_rows_rise sheet m tick in
      let r = row_from (ready_row sheet m tick) (length sheet.high) (choice (ready_rows sheet m tick)) (choice_is (ready_rows sheet m tick) some rise) in
      let own = row_ready sheet m tick r.task r.at r.listed in
      let task_is : (get_or (ready_rows sheet m tick) (choice (ready_rows sheet m tick)) no_ready).task ≡ r.task = ap (λ (x : Ready). x.task) (r.row ∙ own.0) in
      (r.task, record { high = r.known; ready = own.1; chosen = is ∙ ap (λ k. Some k) task_is })

  after_high : NoHighReady sheet m tick → TurnIs choice sheet m tick
      (or_else (first_low sheet (in_mid_course sheet m)) (if nat_lt 0 m.debt then to_collector else or_else (first_low sheet (ready_now sheet m tick)) to_nobody))
  after_high no_high = elim (first_low_law sheet (in_mid_course sheet m)) [
    | inl f ↦ rw f.1.is (by_operation f.0 (record { no_high = no_high; first = f.1 }))
    | inr n ↦ rw n.is (elim (cases_lt 0 m.debt) [
      | inl owed ↦ rw (lt-ltb 0 m.debt owed) (by_collector (record { no_high = no_high; no_operation = n; owed = owed }))
      | inr not ↦ rw (le-ltb 0 m.debt not) (elim (first_low_law sheet (ready_now sheet m tick)) [
        | inl f ↦ rw f.1.is (by_low f.0 (record { no_high = no_high; no_operation = n; nothing_owed = omega (arith, not); first = f.1 }))
        | inr none ↦ rw none.is (by_nobody (record { no_high = no_high; no_operation = n; nothing_owed = omega (arith, not); no_low = none }))
      ])
    ])
  ]

  pub turn_is : TurnIs choice sheet m tick (turn choice sheet m tick)
  unfolding turn
  turn_is = elim (chosen_law choice (ready_rows sheet m tick)) [
    | inl c ↦ let h = to_high c.some c.is in rw h.1.chosen (by_high h.0 h.1)
    | inr n ↦ rw n.is (after_high (no_row sheet m tick n.none))
  ]

-- THE LAWS

pub rows_rise_law : RowsRise
rows_rise_law sheet m tick = ready_rows_rise sheet m tick

pub rules_apply : RulesApply
rules_apply choice sheet m tick choice_is = turn_is choice sheet m tick choice_is

module _ (choice : List Ready → ℕ) (sheet : Sheet) (m : Moment) (tick : ℕ) where
  abbrev SomeReady : Type 0
  SomeReady = (seat : ℕ) × (seat < length sheet.high) × (ready_now sheet m tick seat ≡ true)

  abbrev GoesHigh : Turn → Type 0
  GoesHigh o = (seat : ℕ) × (o ≡ to_task seat) × ToHigh choice sheet m tick seat

  none_ready : NoHighReady sheet m tick → SomeReady → ⊥
  none_ready no_high s = absurd (let e : true ≡ false = sym s.2 ∙ no_high s.0 s.1 in cc)

  goes_high : (o : Turn) → TurnIs choice sheet m tick o → SomeReady → GoesHigh o
  goes_high o (by_high seat f) s = (seat, refl, f)
  goes_high o (by_operation seat f) s = absurd (none_ready f.no_high s)
  goes_high o (by_collector f) s = absurd (none_ready f.no_high s)
  goes_high o (by_low seat f) s = absurd (none_ready f.no_high s)
  goes_high o (by_nobody f) s = absurd (none_ready f.no_high s)

pub high_first : HighFirst
high_first choice sheet m tick choice_is = (
  (λ s. goes_high choice sheet m tick (turn choice sheet m tick) (turn_is choice sheet m tick choice_is) s),
  (λ w. (w.0, w.2.high, w.2.ready)),
)
