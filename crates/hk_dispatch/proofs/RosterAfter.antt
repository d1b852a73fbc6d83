-- The roster after a tick: its rows and its low task stay until a job becomes ready or a low one ends, but for the row of the high
-- job that had the tick. That counts the ticks of the job, or it goes where the job ended.
use Rattle.std.proofs.Common.{◌≡◌, ◌≢◌, ℕ, zero, suc, ◌+◌, ◌-◌, ◌<◌, ◌≤◌, Bool, true, false, List, [], ◌∷◌, ◌++◌, length, refl, sym, ◌∙◌, ap, subst, arith, inl, inr, Option, Some, None, set, length-append}
use Rattle.std.proofs.Math.Nat.{min-le_left, min-le_right}
use Rattle.std.proofs.lemmas.List.{get_or_append_left, get_or-append-add, set-append_left, set-append_right}
use Rattle.std.proofs.lemmas.List.Edits.{remove-append_left, remove-append_right}
use Rattle.std.proofs.lemmas.Bool.{cases_eq, cases_lt, le-leb, lt-leb}
use Rattle.std.specs.Prelude.{find, if◌then◌else◌}
use Rattle.std.specs.List.{range_with_len, remove}
use Rattle.hk_plan.specs.declared.Ready.{Ready}
use Rattle.hk_plan.specs.AloneBy.{rows_below, no_ready, ready_at}
use Rattle.hk_plan.proofs.ReadyRows.{row_from}
use Rattle.hk_sheet.specs.declared.sheet.High.{High}
use Rattle.hk_sheet.specs.declared.sheet.Sheet.{Sheet}
use Rattle.hk_dispatch.specs.declared.roster.Roster.{Roster}
use Rattle.hk_dispatch.specs.declared.run.TaskRun.{TaskRun}
use Rattle.hk_dispatch.specs.Tasks.{IsLowSeat, tasks_of, task_at, high_at, is_by}
use Rattle.hk_dispatch.specs.Moment.{Course, Moment, course_at}
use Rattle.hk_dispatch.specs.Turns.{row_of, ready_row, ready_rows, first_low}
use Rattle.hk_dispatch.specs.Rules.{ready_now}
use Rattle.hk_dispatch.specs.TaskRuns.{ShowsCourse}
use Rattle.hk_dispatch.specs.Opened.{due_by, HighWent, ShowsReady}
use Rattle.hk_dispatch.proofs.Sheets.{count_tasks}

-- ROWS

rows_same : (a b : ℕ → List Ready) (n : ℕ) → ((i : ℕ) → i < n → b i ≡ a i) → rows_below b n ≡ rows_below a n
unfolding rows_below
rows_same a b zero same = refl
rows_same a b (suc n) same = ap (λ (xs : List Ready). xs ++ b n) (rows_same a b n (λ i lt. same i (omega (arith, lt)))) ∙ ap (λ (xs : List Ready). rows_below a n ++ xs) (same n (omega arith))

-- where the rows of one task were edited at a place, by an edit that leaves alone what stands in front and behind
module _ (edit : List Ready → ℕ → List Ready) (left : (xs ys : List Ready) (k : ℕ) → k < length xs → edit (xs ++ ys) k ≡ edit xs k ++ ys)
    (right : (xs ys : List Ready) (n k : ℕ) → length xs ≡ n → n ≤ k → edit (xs ++ ys) k ≡ xs ++ edit ys (k - n)) (a b : ℕ → List Ready) (seat : ℕ) where
  rows_edited : (n : ℕ) → ((i : ℕ) → i < n → i ≢ seat → b i ≡ a i) → (seat < n → b seat ≡ edit (a seat) 0) → ((i : ℕ) → i < n → length (a i) ≤ 1)
      → ((i k : ℕ) → i < n → k < length (a i) → (ready_at (a i) k).task ≡ i)
      → (place : ℕ) → place < length (rows_below a n) → (ready_at (rows_below a n) place).task ≡ seat → rows_below b n ≡ edit (rows_below a n) place
  unfolding rows_below
  rows_edited zero same own few tasks place within is = absurd (omega (arith, within))
  rows_edited (suc n) same own few tasks place within is = elim (cases_lt place (length (rows_below a n))) [
    | inl before ↦
        let is_before : (ready_at (rows_below a n) place).task ≡ seat = sym (ap (λ (r : Ready). r.task) (get_or_append_left (rows_below a n) (a n) no_ready place before)) ∙ is in
        let r = row_from a n place before in
        let known = r.known in
        let its : (ready_at (rows_below a n) place).task ≡ r.task = ap (λ (q : Ready). q.task) r.row ∙ tasks r.task r.at (omega (arith, known)) r.listed in
        let differs : n ≢ seat = λ e. omega (arith, e, its, is_before, known) in
        ap (λ (xs : List Ready). xs ++ b n) (rows_edited n (λ i lt d. same i (omega (arith, lt)) d) (λ lt. own (omega (arith, lt))) (λ i lt. few i (omega (arith, lt))) (λ i k lt w. tasks i k (omega (arith, lt)) w) place before is_before)
        ∙ ap (λ (xs : List Ready). edit (rows_below a n) place ++ xs) (same n (omega arith) differs)
        ∙ sym (left (rows_below a n) (a n) place before)
    | inr after ↦
        let all = length-append (rows_below a n) (a n) in
        let one = few n (omega arith) in
        let some : 0 < length (a n) = omega (arith, after, all, within) in
        let at : place ≡ length (rows_below a n) + 0 = omega (arith, after, all, one, within) in
        let here : (ready_at (rows_below a n ++ a n) place).task ≡ n =
        ap (λ k. (ready_at (rows_below a n ++ a n) k).task) at ∙ ap (λ (r : Ready). r.task) (get_or-append-add (rows_below a n) (a n) 0 no_ready) ∙ tasks n 0 (omega arith) some in
        let mine : seat ≡ n = sym is ∙ here in
        ap (λ (xs : List Ready). xs ++ b n) (rows_same a b n (λ i lt. same i (omega (arith, lt)) (λ e. omega (arith, e, mine, lt))))
        ∙ ap (λ (xs : List Ready). rows_below a n ++ xs) (subst (λ k. b k ≡ edit (a k) 0) mine (own (omega (arith, mine))))
        ∙ sym (right (rows_below a n) (a n) (length (rows_below a n)) place refl after ∙ ap (λ k. rows_below a n ++ edit (a n) k) (omega (arith, at)))
  ]

-- THE FIRST LOW SEAT

find_same : (p q : ℕ → Bool) (n from : ℕ) → ((k : ℕ) → from ≤ k → k < from + n → p k ≡ q k) → find p (range_with_len from n) ≡ find q (range_with_len from n)
find_same p q zero from same = refl
find_same p q (suc n) from same =
    let rest = find_same p q n (from + 1) (λ k le lt. same k (omega (arith, le)) (omega (arith, lt))) in
    ap (λ b. if b then Some from else find p (range_with_len (from + 1) n)) (same from (omega arith) (omega arith)) ∙ ap (λ (o : Option ℕ). if q from then Some from else o) rest

pub first_low_same : (sheet : Sheet) (p q : ℕ → Bool) → ((seat : ℕ) → IsLowSeat sheet seat → p seat ≡ q seat) → first_low sheet p ≡ first_low sheet q
unfolding first_low
first_low_same sheet p q same = find_same p q (length sheet.low) (length sheet.high) (λ k le lt. same k (record { from = le; below = lt }))

-- WHO IS READY

-- one that becomes ready at a later tick doesn't so at the next, where that comes before the next look
by_next : (o : Option ℕ) (tick stale : ℕ) → ((ready : ℕ) → o ≡ Some ready → tick < ready → stale ≤ ready) → suc tick < stale → is_by o (suc tick) ≡ is_by o tick
by_next None tick stale later fresh = refl
by_next (Some ready) tick stale later fresh = elim (cases_lt tick ready) [
  | inl after ↦ let le = later ready refl after in grind (arith, le, fresh, after)
  | inr by ↦ le-leb ready (suc tick) (omega (arith, by)) ∙ sym (le-leb ready tick (omega (arith, by)))
]

-- a look that is due by a moment is due no later than it was, and no later than that moment
pub due_sooner : (next : Option ℕ) (due : ℕ) → due_by next due ≤ due
due_sooner None due = omega arith
due_sooner (Some ready) due = min-le_left due ready

due_next : (next : Option ℕ) (due ready : ℕ) → next ≡ Some ready → due_by next due ≤ ready
due_next None due ready e = absurd (cc)
due_next (Some x) due ready e = let same : x ≡ ready = cc in let le = min-le_right due x in omega (arith, same, le)

-- a job isn't ready before the look that is due by it
not_yet_due : (next : Option ℕ) (due tick : ℕ) → tick < due_by next due → is_by next tick ≡ false
not_yet_due None due tick lt = refl
not_yet_due (Some ready) due tick lt = lt-leb ready tick (let le = min-le_right due ready in omega (arith, lt, le))

-- a row is that of a ready task, which has one row at most
module _ (sheet : Sheet) (m : Moment) (tick seat : ℕ) where
  abbrev own : Ready
  own = row_of seat (high_at sheet seat) (course_at m seat)

  row_ready : (k : ℕ) → k < length (ready_row sheet m tick seat) → (ready_at (ready_row sheet m tick seat) k ≡ own) × (ready_now sheet m tick seat ≡ true)
  row_ready k lt = by_ready (ready_now sheet m tick seat) refl lt
    where
      by_ready : (b : Bool) → ready_now sheet m tick seat ≡ b → k < length (if b then own ∷ [] else []) → (ready_at (if b then own ∷ [] else []) k ≡ own) × (b ≡ true)
      by_ready true e lt = (let zero_is : k ≡ 0 = omega (arith, lt) in ap (λ i. ready_at (own ∷ []) i) zero_is, refl)
      by_ready false e lt = absurd (omega (arith, lt))

  one_row : length (ready_row sheet m tick seat) ≤ 1
  one_row = by_ready (ready_now sheet m tick seat)
    where
      by_ready : (b : Bool) → length (if b then own ∷ [] else []) ≤ 1
      by_ready true = omega arith
      by_ready false = omega arith

module _ (sheet : Sheet) (m n : Moment) (tick : ℕ) (r : Roster) (h : ShowsReady sheet m tick r) (fresh : suc tick < r.stale_from) where
  -- where a task stays at its job
  ready_same : (seat : ℕ) → seat < length (tasks_of sheet) → (course_at n seat).job ≡ (course_at m seat).job → ready_now sheet n (suc tick) seat ≡ ready_now sheet m tick seat
  ready_same seat below job =
      ap (λ j. is_by ((task_at sheet seat).ready j) (suc tick)) job
      ∙ by_next ((task_at sheet seat).ready (course_at m seat).job) tick r.stale_from (λ ready e lt. h.later seat ready below e lt) fresh

  later_same : (seat ready : ℕ) → seat < length (tasks_of sheet) → (course_at n seat).job ≡ (course_at m seat).job
      → (task_at sheet seat).ready (course_at n seat).job ≡ Some ready → suc tick < ready → r.stale_from ≤ ready
  later_same seat ready below job e lt = h.later seat ready below (ap (λ j. (task_at sheet seat).ready j) (sym job) ∙ e) (omega (arith, lt))

  high_below : (seat : ℕ) → seat < length sheet.high → seat < length (tasks_of sheet)
  high_below seat lt = omega (arith, lt, count_tasks sheet)

  row_same : (seat : ℕ) → seat < length sheet.high → (course_at n seat).job ≡ (course_at m seat).job → (course_at n seat).had ≡ (course_at m seat).had
      → ready_row sheet n (suc tick) seat ≡ ready_row sheet m tick seat
  row_same seat lt job had =
      ap (λ b. if b then row_of seat (high_at sheet seat) (course_at n seat) ∷ [] else []) (ready_same seat (high_below seat lt) job)
      ∙ ap (λ (x : Ready). if ready_now sheet m tick seat then x ∷ [] else []) (row_by seat (high_at sheet seat) (course_at n seat) (course_at m seat) job had)
    where
      row_by : (seat : ℕ) (task : High) (c d : Course) → c.job ≡ d.job → c.had ≡ d.had → row_of seat task c ≡ row_of seat task d
      row_by seat task c d job had = rw (job, had) refl

  low_same : ((seat : ℕ) → IsLowSeat sheet seat → (course_at n seat).job ≡ (course_at m seat).job) → first_low sheet (ready_now sheet m tick) ≡ first_low sheet (ready_now sheet n (suc tick))
  low_same jobs = first_low_same sheet _ _ (λ seat low. sym (ready_same seat (let b = low.below in omega (arith, b, count_tasks sheet)) (jobs seat low)))

  -- where no high job had the tick
  pub roster_waits : ((seat : ℕ) → seat < length (tasks_of sheet) → (course_at n seat).job ≡ (course_at m seat).job)
      → ((seat : ℕ) → seat < length sheet.high → (course_at n seat).had ≡ (course_at m seat).had) → ShowsReady sheet n (suc tick) r
  unfolding ready_rows
  roster_waits jobs had = record {
    rows = h.rows ∙ sym (rows_same (ready_row sheet m tick) (ready_row sheet n (suc tick)) (length sheet.high) (λ i lt. row_same i lt (jobs i (high_below i lt)) (had i lt)));
    low = h.low ∙ low_same (λ seat low. jobs seat (let b = low.below in omega (arith, b, count_tasks sheet)));
    later = λ seat ready below e lt. later_same seat ready below (jobs seat below) e lt;
  }

  -- where a high one had it, that of the row at a place
  module _ (place seat : ℕ) (within : place < length (ready_rows sheet m tick)) (task : (ready_at (ready_rows sheet m tick) place).task ≡ seat)
      (others : (other : ℕ) → other ≢ seat → course_at n other ≡ course_at m other) where
    record OwnRow : Type 0 where
      high : seat < length sheet.high
      row : ready_at (ready_rows sheet m tick) place ≡ row_of seat (high_at sheet seat) (course_at m seat)
      ready : ready_now sheet m tick seat ≡ true

    own_row : OwnRow
    unfolding ready_rows
    own_row =
        let f = row_from (ready_row sheet m tick) (length sheet.high) place within in
        let own = row_ready sheet m tick f.task f.at f.listed in
        let e : f.task ≡ seat = sym (ap (λ (x : Ready). x.task) (f.row ∙ own.0)) ∙ task in
        record {
          high = subst (λ k. k < length sheet.high) e f.known;
          row = subst (λ k. ready_at (rows_below (ready_row sheet m tick) (length sheet.high)) place ≡ row_of k (high_at sheet k) (course_at m k)) e (f.row ∙ own.0);
          ready = subst (λ k. ready_now sheet m tick k ≡ true) e own.1;
        }

    job_of : (other : ℕ) → other ≢ seat → (course_at n other).job ≡ (course_at m other).job
    job_of other differs = ap (λ (c : Course). c.job) (others other differs)

    low_kept : first_low sheet (ready_now sheet m tick) ≡ first_low sheet (ready_now sheet n (suc tick))
    low_kept = low_same (λ other low. job_of other (λ e. let high = own_row.high in let from = low.from in omega (arith, e, high, from)))

    -- the one row that the task had
    row_was : ready_row sheet m tick seat ≡ row_of seat (high_at sheet seat) (course_at m seat) ∷ []
    row_was = ap (λ b. if b then row_of seat (high_at sheet seat) (course_at m seat) ∷ [] else []) own_row.ready

    module _ (edit : List Ready → ℕ → List Ready) (left : (xs ys : List Ready) (k : ℕ) → k < length xs → edit (xs ++ ys) k ≡ edit xs k ++ ys)
        (right : (xs ys : List Ready) (n k : ℕ) → length xs ≡ n → n ≤ k → edit (xs ++ ys) k ≡ xs ++ edit ys (k - n)) where
      rows_gone : ready_row sheet n (suc tick) seat ≡ edit (ready_row sheet m tick seat) 0 → ready_rows sheet n (suc tick) ≡ edit (ready_rows sheet m tick) place
      unfolding ready_rows
      rows_gone own = rows_edited edit left right (ready_row sheet m tick) (ready_row sheet n (suc tick)) seat (length sheet.high)
          (λ i lt differs. row_same i lt (job_of i differs) (ap (λ (c : Course). c.had) (others i differs))) (λ lt. own) (λ i lt. one_row sheet m tick i)
          (λ i k lt w. ap (λ (x : Ready). x.task) (row_ready sheet m tick i k w).0) place within task

    module _ (run : TaskRun) (shows : ShowsCourse (task_at sheet seat) (course_at n seat) run) (after : Roster) where
      -- it stays at its job: its row counts the ticks that the job has had
      module _ (job : (course_at n seat).job ≡ (course_at m seat).job) (went : HighWent place run false r after) where
        abbrev row_now : Ready
        row_now = record (ready_at (ready_rows sheet m tick) place) { done = run.had }

        own_now : ready_row sheet n (suc tick) seat ≡ row_now ∷ []
        own_now =
            let o = own_row in
            ap (λ b. if b then row_of seat (high_at sheet seat) (course_at n seat) ∷ [] else []) (ready_same seat (high_below seat o.high) job ∙ o.ready)
            ∙ ap (λ (x : Ready). x ∷ []) (row_after seat (high_at sheet seat) (course_at n seat) (course_at m seat) job
            ∙ (λ i. record (sym (o.row) i) { done = sym (shows.had) i }))
          where
            row_after : (seat : ℕ) (task : High) (c d : Course) → c.job ≡ d.job → row_of seat task c ≡ record (row_of seat task d) { done = c.had }
            row_after seat task c d job = rw job refl

        pub roster_counts : ShowsReady sheet n (suc tick) after
        roster_counts =
            let due = went.due in
            record {
              rows = went.rows ∙ ap (λ (xs : List Ready). set xs place (record (ready_at xs place) { done = run.had })) h.rows
                  ∙ sym (rows_gone (λ xs k. set xs k row_now) (λ xs ys k lt. set-append_left xs ys k row_now lt) (λ xs ys n k is le. set-append_right xs ys n k row_now is le)
                  (own_now ∙ ap (λ (xs : List Ready). set xs 0 row_now) (sym row_was)));
              low = went.low ∙ h.low ∙ low_kept;
              later = λ other ready below e lt. elim (cases_eq other seat) [
                | inl same ↦ let k = later_same other ready below (subst (λ s. (course_at n s).job ≡ (course_at m s).job) (sym same) job) e lt in omega (arith, k, due)
                | inr differs ↦ let k = later_same other ready below (job_of other differs) e lt in omega (arith, k, due)
              ];
            }

      -- its job ended and the next one isn't ready yet: its row goes
      module _ (went : HighWent place run true r after) (waits : suc tick < after.stale_from) where
        none_now : ready_row sheet n (suc tick) seat ≡ []
        none_now = ap (λ b. if b then row_of seat (high_at sheet seat) (course_at n seat) ∷ [] else [])
            (ap (λ o. is_by o (suc tick)) (sym (shows.ready)) ∙ not_yet_due run.ready r.stale_from (suc tick) (let due = went.due in omega (arith, due, waits)))

        pub roster_goes : ShowsReady sheet n (suc tick) after
        roster_goes =
            let due = went.due in
            record {
              rows = went.rows ∙ ap (λ (xs : List Ready). remove xs place) h.rows
                  ∙ sym (rows_gone remove (λ xs ys k lt. remove-append_left xs ys k lt) (λ xs ys n k is le. remove-append_right xs ys n k is le) (none_now ∙ ap (λ (xs : List Ready). remove xs 0) (sym row_was)));
              low = went.low ∙ h.low ∙ low_kept;
              later = λ other ready below e lt. elim (cases_eq other seat) [
                | inl same ↦
                    let next : run.ready ≡ Some ready = shows.ready ∙ subst (λ s. (task_at sheet s).ready (course_at n s).job ≡ Some ready) same e in
                    let k = due_next run.ready r.stale_from ready next in omega (arith, k, due)
                | inr differs ↦
                    let k = later_same other ready below (job_of other differs) e lt in
                    let sooner = due_sooner run.ready r.stale_from in omega (arith, k, due, sooner)
              ];
            }

-- the seat of a row is a high one
pub row_is_high : (sheet : Sheet) (m : Moment) (tick place : ℕ) → place < length (ready_rows sheet m tick) → (ready_at (ready_rows sheet m tick) place).task < length sheet.high
unfolding ready_rows
row_is_high sheet m tick place within =
    let f = row_from (ready_row sheet m tick) (length sheet.high) place within in
    let e = ap (λ (x : Ready). x.task) (f.row ∙ (row_ready sheet m tick f.task f.at f.listed).0) in
    let known = f.known in
    omega (arith, e, known)
