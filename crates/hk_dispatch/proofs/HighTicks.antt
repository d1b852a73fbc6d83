-- What the choice is told at a tick, and which high task gets it: the rows are those that the schedule alone tells, from the job
-- that is under way and the ticks that it has had.
use Rattle.std.proofs.Common.{◌≡◌, ℕ, zero, suc, ◌+◌, ◌<◌, ◌≤◌, Bool, true, false, List, [], ◌∷◌, ◌++◌, length, Option, Some, None, refl, sym, ◌∙◌, ap, subst, arith, inl, inr}
use Rattle.std.proofs.lemmas.Bool.{ne_eqb}
use Rattle.std.specs.Prelude.{nat_lt, nat_le, ◌&&◌, if◌then◌else◌}
use Rattle.hk_plan.specs.declared.Ready.{Ready}
use Rattle.hk_plan.specs.AloneBy.{rows_below, chosen_task, is_some_at}
use Rattle.hk_plan.proofs.ReadyRows.{head_law, chosen_law}
use Rattle.hk_sheet.specs.declared.sheet.Sheet.{Sheet}
use Rattle.hk_sheet.specs.Arrivals.{arrival_of, ready_of}
use Rattle.hk_sheet.specs.Valid.{IsSheet}
use Rattle.hk_dispatch.specs.Tasks.{Task, high_at, is_by}
use Rattle.hk_dispatch.specs.Moment.{Moment, course_at}
use Rattle.hk_dispatch.specs.Turns.{Turn, arrived, row_of, ready_row, ready_rows}
use Rattle.hk_dispatch.specs.Rules.{ready_now, NoHighReady, TurnIs, by_high, by_operation, by_collector, by_low, by_nobody}
use Rattle.hk_dispatch.specs.HighJobs.{is_to, arrivals_before}
use Rattle.hk_dispatch.proofs.JobsKept.{high_is}
use Rattle.hk_dispatch.proofs.ReadyMoments.{high_right}
use Rattle.hk_dispatch.proofs.ListedJobs.{ready_same}

one_some : {a b : ℕ} → Some a ≡ Some b → a ≡ b
one_some e = cc

-- a list of rows from equal rows
pub rows_same : (a b : ℕ → List Ready) (n : ℕ) → ((i : ℕ) → i < n → a i ≡ b i) → rows_below a n ≡ rows_below b n
unfolding rows_below
rows_same a b zero same = refl
rows_same a b (suc n) same = λ k. rows_same a b n (λ i lt. same i (omega (arith, lt))) k ++ same n (omega arith) k

module _ (choice : List Ready → ℕ) (sheet : Sheet) (m : Moment) (t : ℕ) where
  -- the high task that the choice names, if a high task has a ready job
  abbrev pub high_turn : Option ℕ
  high_turn = chosen_task choice (ready_rows sheet m t)

  none_named : NoHighReady sheet m t → high_turn ≡ None
  unfolding ready_rows
  none_named no_high = elim (chosen_law choice (ready_rows sheet m t)) [
    | inr none ↦ none.is
    | inl some ↦ elim (head_law (ready_row sheet m t) (length sheet.high)) [
      | inr no_head ↦ absurd (let n = no_head.none in let s = some.some in omega (arith, n, s))
      | inl head ↦ absurd (
          let none : length (ready_row sheet m t head.task) ≡ 0 = rw (no_high head.task head.known) refl in
          let s = head.some in omega (arith, none, s)
          )
    ]
  ]

  -- a tick goes to a high task exactly where the choice names it
  pub named : (o : Turn) → TurnIs choice sheet m t o → (seat : ℕ) → seat < length sheet.high → is_some_at high_turn seat ≡ is_to o seat
  named o (by_high s f) seat high = ap (λ c. is_some_at c seat) f.chosen
  named o (by_operation s f) seat high = ap (λ c. is_some_at c seat) (none_named f.no_high) ∙ sym (ne_eqb s seat (λ e. let from = f.first.low.from in omega (arith, e, from, high)))
  named o (by_collector f) seat high = ap (λ c. is_some_at c seat) (none_named f.no_high)
  named o (by_low s f) seat high = ap (λ c. is_some_at c seat) (none_named f.no_high) ∙ sym (ne_eqb s seat (λ e. let from = f.first.low.from in omega (arith, e, from, high)))
  named o (by_nobody f) seat high = ap (λ c. is_some_at c seat) (none_named f.no_high)

  none_some : {a : ℕ} → None ≡ Some a → ⊥
  none_some e = cc

  -- and that one has a ready job
  pub named_ready : (o : Turn) → TurnIs choice sheet m t o → (seat : ℕ) → high_turn ≡ Some seat → (seat < length sheet.high) × (ready_now sheet m t seat ≡ true)
  named_ready o (by_high s f) seat e =
      let same : s ≡ seat = one_some (sym f.chosen ∙ e) in
      (subst (λ k. k < length sheet.high) same f.high, subst (λ k. ready_now sheet m t k ≡ true) same f.ready)
  named_ready o (by_operation s f) seat e = absurd (none_some (sym (none_named f.no_high) ∙ e))
  named_ready o (by_collector f) seat e = absurd (none_some (sym (none_named f.no_high) ∙ e))
  named_ready o (by_low s f) seat e = absurd (none_some (sym (none_named f.no_high) ∙ e))
  named_ready o (by_nobody f) seat e = absurd (none_some (sym (none_named f.no_high) ∙ e))

  -- so it names no seat that isn't a high task's
  pub none_past : (o : Turn) → TurnIs choice sheet m t o → (seat : ℕ) → length sheet.high ≤ seat → is_some_at high_turn seat ≡ false
  none_past o is seat past = by_turn high_turn (λ k e. (named_ready o is k e).0)
    where
      by_turn : (c : Option ℕ) → ((k : ℕ) → c ≡ Some k → k < length sheet.high) → is_some_at c seat ≡ false
      by_turn None few = refl
      by_turn (Some k) few = let lt = few k refl in ne_eqb k seat (λ e. omega (arith, e, lt, past))

  -- THE ROWS

  -- the row of a task's job under way, by its number and the ticks that it has had
  abbrev pub row_by : (seat job done : ℕ) → Ready
  row_by seat job done =
      let arrival = arrived (arrival_of (high_at sheet seat).arrivals job) in
      record { task = seat; job = job; arrival = arrival; deadline = arrival + (high_at sheet seat).timing.deadline; done = done }

  abbrev pub is_due : (seat job : ℕ) → Bool
  is_due seat job = nat_lt job (arrivals_before sheet.ticks (high_at sheet seat).arrivals) && nat_le (arrived (ready_of (high_at sheet seat) job)) t

  row_same : (seat job done : ℕ) (a b : Bool) → a ≡ b → (course_at m seat).job ≡ job → (course_at m seat).had ≡ done
      → (if a then row_of seat (high_at sheet seat) (course_at m seat) ∷ [] else []) ≡ (if b then row_by seat job done ∷ [] else [])
  row_same seat job done a b e f h = λ k. if e k then row_by seat (f k) (h k) ∷ [] else []

  module _ (readable : IsSheet sheet) (before : t < sheet.ticks) (seat : ℕ) (high : seat < length sheet.high) where
    -- before the horizon the job under way is ready exactly where it is listed and its moment has come
    pub due : ready_now sheet m t seat ≡ is_due seat (course_at m seat).job
    due =
        ap (λ (a : Task). is_by (a.ready (course_at m seat).job) t) (high_is sheet seat high)
        ∙ ready_same sheet readable.ticks.at_most (high_at sheet seat) (high_right sheet readable seat high) t (course_at m seat).job before

    pub row_is : (job done : ℕ) → (course_at m seat).job ≡ job → (course_at m seat).had ≡ done → ready_row sheet m t seat ≡ (if is_due seat job then row_by seat job done ∷ [] else [])
    row_is job done f h = row_same seat job done (ready_now sheet m t seat) (is_due seat job) (due ∙ ap (is_due seat) f) f h
