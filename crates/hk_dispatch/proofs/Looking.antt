-- What the roster finds as it looks through the tasks, seat by seat.
use Rattle.std.proofs.Common.{◌≡◌, ℕ, zero, suc, ◌+◌, ◌<◌, ◌≤◌, Bool, true, false, List, [], ◌∷◌, ◌++◌, length, refl, sym, ◌∙◌, ap, subst, arith, inl, inr, Option, Some, None, get_or, set, take, drop, length-set, ◌-◌}
use Rattle.std.proofs.Math.Seq.{take-suc-set}
use Rattle.std.proofs.lemmas.List.{append-nil}
use Rattle.std.proofs.lemmas.Bool.{cases_lt, lt-ltb, le-ltb, leb-true, lt-leb, le-leb}
use Rattle.std.specs.Prelude.{nat_lt, ◌&&◌, if◌then◌else◌}
use Rattle.hk_plan.specs.declared.Ready.{Ready}
use Rattle.hk_plan.specs.AloneBy.{rows_below}
use Rattle.hk_sheet.specs.declared.sheet.High.{High}
use Rattle.hk_sheet.specs.declared.sheet.Sheet.{Sheet}
use Rattle.hk_dispatch.specs.declared.run.TaskRun.{TaskRun}
use Rattle.hk_dispatch.specs.declared.roster.Roster.{Roster}
use Rattle.hk_dispatch.specs.Tasks.{Task, tasks_of, task_at, high_task, high_at, no_high, is_by}
use Rattle.hk_dispatch.specs.Moment.{Moment, course_at}
use Rattle.hk_dispatch.specs.Turns.{arrived, row_of, ready_row, ready_rows, first_low}
use Rattle.hk_dispatch.specs.Rules.{ready_now, FirstLowIs, NoLow}
use Rattle.hk_dispatch.specs.TaskRuns.{ShowsCourse}
use Rattle.hk_dispatch.specs.Opened.{ShowsCourses, ShowsReady}
use Rattle.hk_dispatch.proofs.FirstLow.{first_low_law}
use Rattle.hk_dispatch.proofs.Sheets.{count_tasks}
use Rattle.hk_dispatch.proofs.JobsKept.{high_is}

-- a run of no job, which stands for a seat where there is none
abbrev pub no_run : TaskRun
no_run = record { job = 0; arrival = None; ready = None; walk = record { job = 0; variables = []; place = 0; turns = [] }; spent = 0; had = 0; latest = 0 }

-- the row of a high task, by its run
abbrev pub row_by : (seat : ℕ) → TaskRun → (deadline : ℕ) → Ready
row_by seat run deadline = record { task = seat; job = run.job; arrival = arrived run.arrival; deadline = arrived run.arrival + deadline; done = run.had }

module _ (high : List High) (runs : List TaskRun) (tick : ℕ) where
  abbrev pub run_at : (seat : ℕ) → TaskRun
  run_at seat = get_or runs seat no_run

  abbrev pub is_due : (seat : ℕ) → Bool
  is_due seat = is_by (run_at seat).ready tick

  abbrev pub due_row : (seat : ℕ) → List Ready
  due_row seat = if nat_lt seat (length high) && is_due seat then row_by seat (run_at seat) (get_or high seat no_high).timing.deadline ∷ [] else []

  -- the first low seat so far whose task has a ready job
  abbrev pub LowSoFar : (n : ℕ) → Option ℕ → Type 0
  LowSoFar n None = (k : ℕ) → length high ≤ k → k < n → is_due k ≡ false
  LowSoFar n (Some x) = (length high ≤ x) × (x < n) × (is_due x ≡ true) × ((k : ℕ) → length high ≤ k → k < x → is_due k ≡ false)

  -- what was found below a seat
  pub record Looked (n : ℕ) (r : Roster) : Type 0 where
    pub size : length r.rows ≡ 31
    pub none_gone : r.gone ≡ 0
    pub few : r.count ≤ n
    pub rows : take r.count r.rows ≡ rows_below due_row n
    pub low : LowSoFar n r.low
    pub later : (seat ready : ℕ) → seat < n → (run_at seat).ready ≡ Some ready → tick < ready → r.stale_from ≤ ready

  pub looked_first : (r : Roster) → length r.rows ≡ 31 → r.count ≡ 0 → r.gone ≡ 0 → r.low ≡ None → Looked 0 r
  unfolding rows_below
  looked_first r size none none_gone no_low = record {
    size = size;
    none_gone = none_gone;
    few = omega (arith, none);
    rows = ap (λ k. take k r.rows) none;
    low = subst (LowSoFar 0) (sym no_low) (λ k from lt. absurd (omega (arith, lt)));
    later = λ seat ready lt. absurd (omega (arith, lt));
  }

  low_later : (n : ℕ) (o : Option ℕ) → (length high ≤ n → (o ≡ None) → is_due n ≡ false) → LowSoFar n o → LowSoFar (suc n) o
  low_later n None here h = λ k from lt. elim (cases_lt k n) [ inl before ↦ h k from before | inr after ↦ let e : k ≡ n = omega (arith, lt, after) in rw e (here (omega (arith, from, e)) refl) ]
  low_later n (Some x) here h = (h.0, (let lt = h.1 in omega (arith, lt)), h.2, h.3)

  -- a seat with no row
  no_row_due : (n : ℕ) → (nat_lt n (length high) && is_due n) ≡ false → rows_below due_row (suc n) ≡ rows_below due_row n
  unfolding rows_below
  no_row_due n e = rw e (append-nil (rows_below due_row n))

  and_false : (a b : Bool) → b ≡ false → (a && b) ≡ false
  and_false true b e = e
  and_false false b e = refl

  -- a task whose job isn't ready
  pub looked_waits : (n : ℕ) (r s : Roster) → is_due n ≡ false → ((ready : ℕ) → (run_at n).ready ≡ Some ready → s.stale_from ≤ ready) → s.stale_from ≤ r.stale_from
      → s.rows ≡ r.rows → s.count ≡ r.count → s.gone ≡ r.gone → s.low ≡ r.low → Looked n r → Looked (n + 1) s
  looked_waits n r s not own fewer rows count gone low h = subst (λ k. Looked k s) (let e : suc n ≡ n + 1 = omega arith in e) (record {
    size = ap length rows ∙ h.size;
    none_gone = gone ∙ h.none_gone;
    few = let few = h.few in omega (arith, few, count);
    rows = ap (λ (xs : List Ready). take s.count xs) rows ∙ ap (λ k. take k r.rows) count ∙ h.rows ∙ sym (no_row_due n (and_false _ _ not));
    low = subst (LowSoFar (suc n)) (sym low) (low_later n r.low (λ from none. not) h.low);
    later = λ seat ready lt is after. elim (cases_lt seat n) [
      | inl before ↦ let k = h.later seat ready before is after in omega (arith, k, fewer)
      | inr here ↦ own ready (let e : seat ≡ n = omega (arith, lt, here) in ap (λ j. (run_at j).ready) (sym e) ∙ is)
    ];
  })

  -- one whose job is ready: it becomes ready at no later tick
  not_later : (n seat ready : ℕ) → seat ≡ n → is_due n ≡ true → (run_at seat).ready ≡ Some ready → tick < ready → ⊥
  not_later n seat ready e due is after =
      let by : is_by (Some ready) tick ≡ true = ap (λ o. is_by o tick) (sym is) ∙ ap (λ k. is_due k) e ∙ due in
      let le : ready ≤ tick = leb-true ready tick by in omega (arith, le, after)

  later_due : (n : ℕ) (r s : Roster) → is_due n ≡ true → s.stale_from ≡ r.stale_from → Looked n r
      → (seat ready : ℕ) → seat < suc n → (run_at seat).ready ≡ Some ready → tick < ready → s.stale_from ≤ ready
  later_due n r s due stale h seat ready lt is after = elim (cases_lt seat n) [
    | inl before ↦ let k = h.later seat ready before is after in omega (arith, k, stale)
    | inr here ↦ absurd (not_later n seat ready (omega (arith, lt, here)) due is after)
  ]

  -- a high one
  pub looked_high : (n : ℕ) (r s : Roster) → n < 31 → n < length high → is_due n ≡ true → s.rows ≡ set r.rows r.count (row_by n (run_at n) (get_or high n no_high).timing.deadline)
      → s.count ≡ r.count + 1 → s.gone ≡ r.gone → s.low ≡ r.low → s.stale_from ≡ r.stale_from → Looked n r → Looked (n + 1) s
  unfolding rows_below
  looked_high n r s small is_high due rows count gone low stale h = subst (λ k. Looked k s) (let e : suc n ≡ n + 1 = omega arith in e) (record {
    size = ap length rows ∙ length-set r.rows r.count _ ∙ h.size;
    none_gone = gone ∙ h.none_gone;
    few = let few = h.few in omega (arith, few, count);
    rows =
        let row = row_by n (run_at n) (get_or high n no_high).timing.deadline in
        let room : r.count < length r.rows = let few = h.few in let size = h.size in omega (arith, few, size, small) in
        let own : due_row n ≡ row ∷ [] = rw (lt-ltb n (length high) is_high, due) refl in
        let more : s.count ≡ suc r.count = omega (arith, count) in
        ap (λ (xs : List Ready). take s.count xs) rows ∙ ap (λ k. take k (set r.rows r.count row)) more ∙ take-suc-set r.rows r.count row room
        ∙ ap (λ (xs : List Ready). xs ++ row ∷ []) h.rows ∙ ap (λ (xs : List Ready). rows_below due_row n ++ xs) (sym own);
    low = subst (LowSoFar (suc n)) (sym low) (low_later n r.low (λ from none. absurd (omega (arith, from, is_high))) h.low);
    later = later_due n r s due stale h;
  })

  -- a low one: the first is kept
  pub looked_low : (n : ℕ) (r s : Roster) → length high ≤ n → is_due n ≡ true → (r.low ≡ None → s.low ≡ Some n) → ((x : ℕ) → r.low ≡ Some x → s.low ≡ Some x)
      → s.rows ≡ r.rows → s.count ≡ r.count → s.gone ≡ r.gone → s.stale_from ≡ r.stale_from → Looked n r → Looked (n + 1) s
  looked_low n r s is_low due first kept rows count gone stale h = subst (λ k. Looked k s) (let e : suc n ≡ n + 1 = omega arith in e) (record {
    size = ap length rows ∙ h.size;
    none_gone = gone ∙ h.none_gone;
    few = let few = h.few in omega (arith, few, count);
    rows = ap (λ (xs : List Ready). take s.count xs) rows ∙ ap (λ k. take k r.rows) count ∙ h.rows ∙ sym (no_row_due n (rw (le-ltb n (length high) is_low) refl));
    low = by_low r.low refl h.low;
    later = later_due n r s due stale h;
  })
    where
      by_low : (o : Option ℕ) → r.low ≡ o → LowSoFar n o → LowSoFar (suc n) s.low
      by_low None e l = subst (LowSoFar (suc n)) (sym (first e)) (is_low, omega arith, due, l)
      by_low (Some x) e l = subst (LowSoFar (suc n)) (sym (kept x e)) (low_later n (Some x) (λ from none. absurd (cc)) l)

-- a moment that isn't there, or is later, is not by a tick
pub not_by : (o : Option ℕ) (tick : ℕ) → ((x : ℕ) → o ≡ Some x → ⊥) → is_by o tick ≡ false
not_by None tick none = refl
not_by (Some x) tick none = absurd (none x refl)

pub not_yet : (o : Option ℕ) (tick x : ℕ) → o ≡ Some x → tick < x → is_by o tick ≡ false
not_yet o tick x e lt = ap (λ p. is_by p tick) e ∙ lt-leb x tick lt

pub by_now : (o : Option ℕ) (tick x : ℕ) → o ≡ Some x → x ≤ tick → is_by o tick ≡ true
by_now o tick x e le = ap (λ p. is_by p tick) e ∙ le-leb x tick le

-- THE WHOLE LOOK

rows_same : (a b : ℕ → List Ready) (n : ℕ) → ((i : ℕ) → i < n → a i ≡ b i) → rows_below a n ≡ rows_below b n
unfolding rows_below
rows_same a b zero same = refl
rows_same a b (suc n) same = ap (λ (xs : List Ready). xs ++ a n) (rows_same a b n (λ i lt. same i (omega (arith, lt)))) ∙ ap (λ (xs : List Ready). rows_below b n ++ xs) (same n (omega arith))

module _ (sheet : Sheet) (m : Moment) (runs : List TaskRun) (tick : ℕ) (h : ShowsCourses sheet m runs) where
  shows_at : (seat : ℕ) → seat < length (tasks_of sheet) → ShowsCourse (task_at sheet seat) (course_at m seat) (run_at sheet.high runs tick seat)
  shows_at seat below = h.each seat no_run below

  due_is : (seat : ℕ) → seat < length (tasks_of sheet) → is_due sheet.high runs tick seat ≡ ready_now sheet m tick seat
  due_is seat below = ap (λ o. is_by o tick) (shows_at seat below).ready

  -- no rows but of high tasks
  beyond : (k n : ℕ) → n ≡ length sheet.high + k → rows_below (due_row sheet.high runs tick) n ≡ rows_below (due_row sheet.high runs tick) (length sheet.high)
  beyond zero n e = ap (rows_below (due_row sheet.high runs tick)) (omega (arith, e))
  beyond (suc k) zero e = absurd (omega (arith, e))
  beyond (suc k) (suc n) e = no_row_due sheet.high runs tick n (rw (le-ltb n (length sheet.high) (omega (arith, e))) refl) ∙ beyond k n (omega (arith, e))

  row_is : (seat : ℕ) → seat < length sheet.high → due_row sheet.high runs tick seat ≡ ready_row sheet m tick seat
  row_is seat lt =
      let below : seat < length (tasks_of sheet) = omega (arith, lt, count_tasks sheet) in
      let s = shows_at seat below in
      let arrival : (run_at sheet.high runs tick seat).arrival ≡ (high_task (high_at sheet seat)).arrival (course_at m seat).job = s.arrival ∙ ap (λ (t : Task). t.arrival (course_at m seat).job) (high_is sheet seat lt) in
      let row : row_by seat (run_at sheet.high runs tick seat) (high_at sheet seat).timing.deadline ≡ row_of seat (high_at sheet seat) (course_at m seat) =
      λ i. record { task = seat; job = s.job i; arrival = arrived (arrival i); deadline = arrived (arrival i) + (high_at sheet seat).timing.deadline; done = s.had i } in
      rw (lt-ltb seat (length sheet.high) lt, due_is seat below) (ap (λ (x : Ready). if ready_now sheet m tick seat then x ∷ [] else []) row)

  low_is : (o : Option ℕ) → LowSoFar sheet.high runs tick (length runs) o → o ≡ first_low sheet (ready_now sheet m tick)
  low_is o l = elim (first_low_law sheet (ready_now sheet m tick)) [ inl f ↦ by_first f.0 f.1 o l ∙ sym f.1.is | inr n ↦ by_none n o l ∙ sym n.is ] where
    all : (k : ℕ) → k < length runs → k < length (tasks_of sheet)
    all k lt = let e = h.all in omega (arith, lt, e)

    by_first : (seat : ℕ) → FirstLowIs sheet (ready_now sheet m tick) seat → (o : Option ℕ) → LowSoFar sheet.high runs tick (length runs) o → o ≡ Some seat
    by_first seat f None none = absurd (
        let low = f.low in
        let below : seat < length (tasks_of sheet) = let b = low.below in omega (arith, b, count_tasks sheet) in
        let e : true ≡ false = sym f.passes ∙ sym (due_is seat below) ∙ none seat low.from (let e = h.all in omega (arith, below, e)) in cc
        )
    by_first seat f (Some x) l =
        let low = f.low in
        let below : seat < length (tasks_of sheet) = let b = low.below in omega (arith, b, count_tasks sheet) in
        let x_below = all x l.1 in
        let not_before : ¬ (seat < x) = λ lt. let e : true ≡ false = sym f.passes ∙ sym (due_is seat below) ∙ l.3 seat low.from lt in cc in
        let not_after : ¬ (x < seat) = λ lt.
        let e : true ≡ false = sym l.2 ∙ due_is x x_below ∙ f.before x (record { from = l.0; below = omega (arith, x_below, count_tasks sheet) }) lt in cc in
        ap (λ k. Some k) (elim (cases_lt seat x) [ inl lt ↦ absurd (not_before lt) | inr le ↦ elim (cases_lt x seat) [ inl lt ↦ absurd (not_after lt) | inr ge ↦ omega (arith, le, ge) ] ])

    by_none : NoLow sheet (ready_now sheet m tick) → (o : Option ℕ) → LowSoFar sheet.high runs tick (length runs) o → o ≡ None
    by_none n None none = refl
    by_none n (Some x) l = absurd (
        let x_below = all x l.1 in
        let e : true ≡ false = sym l.2 ∙ due_is x x_below ∙ n.fails x (record { from = l.0; below = omega (arith, x_below, count_tasks sheet) }) in cc
        )

  -- what was found is what is ready
  pub looked_all : (r : Roster) → length sheet.high ≤ length runs → Looked sheet.high runs tick (length runs) r → ShowsReady sheet m tick r
  unfolding ready_rows
  looked_all r first l = record {
    rows =
        let none = l.none_gone in
        let whole : r.count - r.gone ≡ r.count = omega (arith, none) in
        (λ i. take (whole i) (drop (none i) r.rows)) ∙ l.rows ∙ beyond (length runs - length sheet.high) (length runs) (omega (arith, first)) ∙ rows_same (due_row sheet.high runs tick) (ready_row sheet m tick) (length sheet.high) row_is;
    low = low_is r.low l.low;
    later = λ seat ready below is after. l.later seat ready (let e = h.all in omega (arith, below, e)) ((shows_at seat below).ready ∙ is) after;
  }
