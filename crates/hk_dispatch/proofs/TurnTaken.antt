-- Who gets a tick, by the roster and by the fields that show the moment.
use Rattle.std.proofs.Common.{◌≡◌, ℕ, zero, suc, ◌+◌, ◌^◌, ◌<◌, ◌≤◌, Bool, true, false, List, [], ◌∷◌, ◌++◌, length, Option, Some, None, refl, sym, ◌∙◌, ap, subst, arith, inl, inr, get_or}
use Rattle.std.proofs.lemmas.Bool.{lt-ltb, le-ltb, eqb-true}
use Rattle.std.specs.Prelude.{map, nat_lt, ◌==◌, if◌then◌else◌}
use Rattle.std.specs.List.{AllByRecursion}
use Rattle.hk_plan.specs.declared.Ready.{Ready}
use Rattle.hk_plan.specs.AloneBy.{ready_at, chosen_task}
use Rattle.hk_sheet.specs.declared.sheet.High.{High}
use Rattle.hk_sheet.specs.declared.sheet.Low.{Low}
use Rattle.hk_sheet.specs.declared.sheet.Sheet.{Sheet}
use Rattle.hk_sheet.specs.Arrivals.{arrival_of, delay_of, ready_after}
use Rattle.hk_sheet.specs.Valid.{IsHigh}
use Rattle.hk_dispatch.specs.declared.roster.Roster.{Roster}
use Rattle.hk_dispatch.specs.declared.run.TaskRun.{TaskRun}
use Rattle.hk_dispatch.specs.declared.stand.Stand.{Stand}
use Rattle.hk_dispatch.specs.Tasks.{Task, high_task, low_task, no_task, no_high, tasks_of}
use Rattle.hk_dispatch.specs.Moment.{Moment, core_of, course_at}
use Rattle.hk_dispatch.specs.Rows.{TasksRise}
use Rattle.hk_dispatch.specs.Turns.{Turn, to_task, to_collector, to_nobody, arrived, ready_rows, first_low, in_mid_course, or_else, turn}
use Rattle.hk_dispatch.specs.Rules.{ready_now, FirstLowIs, NoLow}
use Rattle.hk_dispatch.specs.Opened.{MayLook, ShowsCourses, rows_of, HasRoom, ShowsReady, Before, AtTurn, OnlyLow}
use Rattle.hk_dispatch.proofs.FirstLow.{first_low_law}
use Rattle.hk_dispatch.proofs.Sheets.{count_tasks}
use Rattle.hk_dispatch.proofs.TurnFacts.{rows_rise_law}

-- THE LOOK

-- a job of a task becomes ready at its arrival or later
abbrev ReadyLate : Task → Type 0
ReadyLate task = (job ready : ℕ) → task.ready job ≡ Some ready → arrived (task.arrival job) ≤ ready

high_late : (task : High) → ReadyLate (high_task task)
high_late task job ready e = by_arrival (arrival_of task.arrivals job) e
  where
    by_word : (n : ℕ) (b : Bool) → (if b then Some n else None) ≡ Some ready → n ≡ ready
    by_word n true e = cc
    by_word n false e = absurd (cc)

    by_arrival : (o : Option ℕ) → ready_after (delay_of task job) o ≡ Some ready → arrived o ≤ ready
    by_arrival None e = absurd (cc)
    by_arrival (Some a) e = let f = by_word (a + delay_of task job) _ e in omega (arith, f)

low_late : (task : Low) → ReadyLate (low_task task)
low_late task job ready e = by_arrival (arrival_of task.arrivals job) e
  where
    by_arrival : (o : Option ℕ) → o ≡ Some ready → arrived o ≤ ready
    by_arrival None e = absurd (cc)
    by_arrival (Some a) e = let f : a ≡ ready = cc in omega (arith, f)

none_late : ReadyLate no_task
none_late job ready e = absurd (cc)

all_late : (high : List High) (low : List Low) (seat : ℕ) → ReadyLate (get_or (map high_task high ++ map low_task low) seat no_task)
all_late [] [] seat = none_late
all_late [] (x ∷ xs) zero = low_late x
all_late [] (x ∷ xs) (suc seat) = all_late [] xs seat
all_late (x ∷ xs) low zero = high_late x
all_late (x ∷ xs) low (suc seat) = all_late xs low seat

deadlines : (ticks : ℕ) (sheet : Sheet) (high : List High) → AllByRecursion (IsHigh ticks sheet.heap) high → (seat : ℕ) → seat < length high → (get_or high seat no_high).timing.deadline ≤ 2 ^ 24
deadlines ticks sheet [] all seat lt = absurd (omega (arith, lt))
deadlines ticks sheet (x ∷ xs) all zero lt =
    let timing = all.0.timing in
    let most = timing.deadline.at_most in
    let period = timing.period.at_most in
    omega (arith, most, period)
deadlines ticks sheet (x ∷ xs) all (suc seat) lt = deadlines ticks sheet xs all.1 seat (omega (arith, lt))

module _ (sheet : Sheet) (m : Moment) (t : ℕ) (s : Stand) (b : Before sheet m t s) where
  pub few_tasks : length (tasks_of sheet) ≤ 31
  few_tasks =
      let few = (core_of m).geometry.tasks_few in
      let seats = b.may.seats in
      omega (arith, few, seats)

  own_look : MayLook sheet.high s.tasks.items t
  own_look = record {
    few = let all = b.shows.courses.all in omega (arith, all, few_tasks);
    high_first = let all = b.shows.courses.all in omega (arith, all, count_tasks sheet);
    deadline = deadlines sheet.ticks sheet sheet.high b.may.readable.high;
    arrival = λ seat d ready lt e.
        let all = b.shows.courses.all in
        let c = b.shows.courses.each seat d (omega (arith, lt, all)) in
        subst (λ o. arrived o ≤ ready) (sym (c.arrival)) (all_late sheet.high sheet.low seat (course_at m seat).job ready (sym (c.ready) ∙ e));
    early = let lt = b.may.within in let most = b.may.readable.ticks.at_most in omega (arith, lt, most);
  }

  pub may_look : (high : List High) (runs : List TaskRun) → high ≡ sheet.high → runs ≡ s.tasks.items → MayLook high runs t
  may_look high runs e f = subst (λ (hs : List High). MayLook hs runs t) (sym e) (subst (λ (rs : List TaskRun). MayLook sheet.high rs t) (sym f) own_look)

  pub courses_seen : (runs : List TaskRun) → runs ≡ s.tasks.items → ShowsCourses sheet m runs
  courses_seen runs f = subst (λ (rs : List TaskRun). ShowsCourses sheet m rs) (sym f) b.shows.courses

  -- after the look
  pub looked : (r : Roster) → HasRoom r → ShowsReady sheet m t r → AtTurn sheet m t (record s { roster = r })
  looked r room ready = record {
    before = record {
      may = b.may;
      shows = record {
        heap_is = b.shows.heap_is;
        courses = b.shows.courses;
        roster_room = room;
        roster_is = λ fresh. ready;
        in_mid_is = b.shows.in_mid_is;
        debt_is = b.shows.debt_is;
        flips_is = b.shows.flips_is;
        events_is = b.shows.events_is;
        idle_is = b.shows.idle_is;
        over_is = b.shows.over_is;
      };
      fit = record { debt_few = b.fit.debt_few; flips_few = b.fit.flips_few; events_few = b.fit.events_few; idle_few = b.fit.idle_few };
    };
    ready = ready;
  }

-- THE TURN

same_seat : (a b : ℕ) → ◌≡◌ {A = Option ℕ} (Some a) (Some b) → a ≡ b
same_seat a b e = cc

first_is : (sheet : Sheet) (test : ℕ → Bool) (seat : ℕ) → Some seat ≡ first_low sheet test → FirstLowIs sheet test seat
first_is sheet test seat is = elim (first_low_law sheet test) [
  | inl f ↦ subst (FirstLowIs sheet test) (sym (same_seat seat f.0 (is ∙ f.1.is))) f.1
  | inr n ↦ absurd (let e : ◌≡◌ {A = Option ℕ} (Some seat) None = is ∙ n.is in cc)
]

none_is : (sheet : Sheet) (test : ℕ → Bool) → None ≡ first_low sheet test → NoLow sheet test
none_is sheet test is = elim (first_low_law sheet test) [
  | inl f ↦ absurd (let e : ◌≡◌ {A = Option ℕ} None (Some f.0) = is ∙ f.1.is in cc)
  | inr n ↦ n
]

pub some_rows : (rows : List Ready) → (length rows == 0) ≡ false → 0 < length rows
some_rows [] e = absurd (cc)
some_rows (x ∷ xs) e = omega arith

pub no_rows : (rows : List Ready) → (length rows == 0) ≡ true → length rows ≡ 0
no_rows rows e = eqb-true (length rows) 0 e

chosen_some : (choice : List Ready → ℕ) (rows : List Ready) → 0 < length rows → chosen_task choice rows ≡ Some (ready_at rows (choice rows)).task
chosen_some choice [] some = absurd (omega (arith, some))
chosen_some choice (x ∷ xs) some = refl

chosen_none : (choice : List Ready → ℕ) (rows : List Ready) → length rows ≡ 0 → chosen_task choice rows ≡ None
chosen_none choice [] none = refl
chosen_none choice (x ∷ xs) none = absurd (omega (arith, none))

module _ (choice : List Ready → ℕ) (sheet : Sheet) (m : Moment) (t : ℕ) (s : Stand) (h : AtTurn sheet m t s) where
  abbrev third : Turn
  third = if nat_lt 0 m.debt then to_collector else or_else (first_low sheet (ready_now sheet m t)) to_nobody

  abbrev second : Turn
  second = or_else (first_low sheet (in_mid_course sheet m)) third

  pub rows_rise : (rows : List Ready) → rows ≡ rows_of s.roster → TasksRise rows
  rows_rise rows are = subst TasksRise (sym (are ∙ h.ready.rows)) (rows_rise_law sheet m t)

  pub high_turn : (rows : List Ready) → rows ≡ rows_of s.roster → 0 < length rows → (place : ℕ) → place ≡ choice rows
      → to_task (ready_at (ready_rows sheet m t) place).task ≡ turn choice sheet m t
  unfolding turn
  high_turn rows are some place is =
      let same = are ∙ h.ready.rows in
      ap (λ k. to_task (ready_at (ready_rows sheet m t) k).task) (is ∙ ap choice same)
      ∙ sym (ap (λ o. or_else o second) (chosen_some choice (ready_rows sheet m t) (subst (λ (xs : List Ready). 0 < length xs) same some)))

  module _ (rows : List Ready) (are : rows ≡ rows_of s.roster) (none : length rows ≡ 0) where
    second_turn : second ≡ turn choice sheet m t
    unfolding turn
    second_turn = sym (ap (λ o. or_else o second) (chosen_none choice (ready_rows sheet m t) (ap length (sym (are ∙ h.ready.rows)) ∙ none)))

    mid_now : s.in_mid_course ≡ first_low sheet (in_mid_course sheet m)
    mid_now = h.before.shows.in_mid_is h.before.may.going

    pub operation_turn : (seat : ℕ) → s.in_mid_course ≡ Some seat → to_task seat ≡ turn choice sheet m t
    operation_turn seat e = sym (ap (λ o. or_else o third) (sym mid_now ∙ e)) ∙ second_turn

    pub operation_is : (seat : ℕ) → s.in_mid_course ≡ Some seat → FirstLowIs sheet (in_mid_course sheet m) seat
    operation_is seat e = first_is sheet (in_mid_course sheet m) seat (sym e ∙ mid_now)

    pub operation_only : (seat : ℕ) → s.in_mid_course ≡ Some seat → OnlyLow sheet m seat
    operation_only seat e other low mid = let f = operation_is seat e in h.before.may.one_low other seat low f.low mid f.passes

    module _ (no_operation : s.in_mid_course ≡ None) where
      third_turn : third ≡ turn choice sheet m t
      third_turn = sym (ap (λ o. or_else o third) (sym mid_now ∙ no_operation)) ∙ second_turn

      pub collector_turn : 0 < s.debt → to_collector ≡ turn choice sheet m t
      collector_turn owed =
          let debt = h.before.shows.debt_is in
          sym (ap (λ b. if b then to_collector else or_else (first_low sheet (ready_now sheet m t)) to_nobody) (lt-ltb 0 m.debt (omega (arith, owed, debt)))) ∙ third_turn

      module _ (paid : s.debt ≡ 0) where
        fourth_turn : or_else (first_low sheet (ready_now sheet m t)) to_nobody ≡ turn choice sheet m t
        fourth_turn =
            let debt = h.before.shows.debt_is in
            sym (ap (λ b. if b then to_collector else or_else (first_low sheet (ready_now sheet m t)) to_nobody) (le-ltb 0 m.debt (omega (arith, paid, debt)))) ∙ third_turn

        pub low_turn : (seat : ℕ) → s.roster.low ≡ Some seat → to_task seat ≡ turn choice sheet m t
        low_turn seat e = sym (ap (λ o. or_else o to_nobody) (sym (h.ready.low) ∙ e)) ∙ fourth_turn

        pub low_is : (seat : ℕ) → s.roster.low ≡ Some seat → FirstLowIs sheet (ready_now sheet m t) seat
        low_is seat e = first_is sheet (ready_now sheet m t) seat (sym e ∙ h.ready.low)

        pub low_only : (seat : ℕ) → OnlyLow sheet m seat
        low_only seat other low mid = absurd (
            let n = none_is sheet (in_mid_course sheet m) (sym no_operation ∙ mid_now) in
            let e : true ≡ false = sym mid ∙ n.fails other low in cc
            )

        pub nobody_turn : s.roster.low ≡ None → to_nobody ≡ turn choice sheet m t
        nobody_turn e = sym (ap (λ o. or_else o to_nobody) (sym (h.ready.low) ∙ e)) ∙ fourth_turn
