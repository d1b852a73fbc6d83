-- What a tick leaves: of nobody, of the collector, and of a task.
use Rattle.std.proofs.Common.{◌≡◌, ℕ, suc, ◌+◌, ◌^◌, ◌<◌, ◌≤◌, Bool, true, false, List, length, refl, sym, ◌∙◌, ap, subst, arith, Option, Some, None}
use Rattle.std.specs.Bool.{then_some}
use Rattle.std.specs.Option.{is_some}
use Rattle.std.specs.Prelude.{if◌then◌else◌}
use Rattle.hk_core.specs.declared.spot.Work.{Work}
use Rattle.hk_core.specs.Collect.{next_collected, work_by_collector}
use Rattle.hk_collect.specs.Pays.{lost_in, debt_after}
use Rattle.hk_collect.specs.Used.{is_flip}
use Rattle.hk_plan.specs.declared.Ready.{Ready}
use Rattle.hk_plan.specs.AloneBy.{ready_at}
use Rattle.hk_sheet.specs.declared.sheet.Sheet.{Sheet}
use Rattle.hk_dispatch.specs.declared.roster.Roster.{Roster}
use Rattle.hk_dispatch.specs.declared.run.Done.{Done}
use Rattle.hk_dispatch.specs.declared.run.TaskRun.{TaskRun}
use Rattle.hk_dispatch.specs.declared.stand.Stand.{Stand}
use Rattle.hk_dispatch.specs.declared.tick.Tick.{Tick}
use Rattle.hk_dispatch.specs.declared.tick.Tick.TheVariants as tick
use Rattle.hk_dispatch.specs.declared.tick.Who.TheVariants as who
use Rattle.hk_dispatch.specs.Tasks.{IsLowSeat, tasks_of, task_at}
use Rattle.hk_dispatch.specs.Moment.{Moment, core_of, course_at}
use Rattle.hk_dispatch.specs.Turns.{to_task, to_collector, to_nobody, ready_rows, first_low, in_mid_course}
use Rattle.hk_dispatch.specs.Ticks.{over_in, after_task, after_event}
use Rattle.hk_dispatch.specs.Told.{who_is, told_event}
use Rattle.hk_dispatch.specs.TaskRuns.{ShowsCourse}
use Rattle.hk_dispatch.specs.Opened.{ShowsCourses, rows_of, HasRoom, roster_after, HighWent, ShowsReady, Shows, Fit, AtTurn, OnlyLow, Gave, Went}
use Rattle.hk_dispatch.proofs.CollectorTick.{core_collected}
use Rattle.hk_dispatch.proofs.RosterAfter.{row_is_high}
use Rattle.hk_dispatch.proofs.Sheets.{count_tasks}
use Rattle.hk_dispatch.proofs.ShownAfter.{courses_wait, roster_wait, mid_wait, high_roster, low_roster, high_mid, low_mid}

module _ (sheet : Sheet) (m : Moment) (t : ℕ) (s : Stand) (h : AtTurn sheet m t s) where
  abbrev shown : Shows sheet m t s
  shown = h.before.shows

  abbrev fits : Fit t s
  fits = h.before.fit

  -- OF NOBODY
  pub pass_went : Went sheet m t to_nobody (record s { idle = s.idle + 1 }) (tick.Ran who.Idle None None)
  pass_went =
      let n : Moment = record m { idle = m.idle + 1 } in
      let debt = fits.debt_few in
      let flips = fits.flips_few in
      let events = fits.events_few in
      let idle = fits.idle_few in
      record {
        answer_is = refl;
        shows = record {
          heap_is = shown.heap_is;
          courses = courses_wait sheet m n refl s.tasks.items shown.courses;
          roster_room = shown.roster_room;
          roster_is = λ fresh. roster_wait sheet m n refl t s.roster h.ready fresh;
          in_mid_is = λ none. shown.in_mid_is none ∙ mid_wait sheet m n refl;
          debt_is = shown.debt_is;
          flips_is = shown.flips_is;
          events_is = shown.events_is;
          idle_is = ap (λ k. k + 1) shown.idle_is;
          over_is = shown.over_is;
        };
        fit = record { debt_few = omega (arith, debt); flips_few = omega (arith, flips); events_few = omega (arith, events); idle_few = omega (arith, idle) };
      }

  -- OF THE COLLECTOR, whose event was this work
  module _ (owed : 0 < s.debt) (work : Work) (work_is : work ≡ work_by_collector s.heap) (few : lost_in work ≤ 2 ^ 32) where
    abbrev n : Moment
    n = after_event m

    -- the fields after it
    pub record Collected (u : Stand) : Type 0 where
      pub heap : u.heap ≡ next_collected s.heap
      pub tasks : u.tasks.items ≡ s.tasks.items
      pub roster : u.roster ≡ s.roster
      pub in_mid : u.in_mid_course ≡ s.in_mid_course
      pub debt : u.debt ≡ debt_after work s.debt
      pub flips : u.flips ≡ (if is_flip work then s.flips + 1 else s.flips)
      pub events : u.events ≡ s.events + 1
      pub idle : u.idle ≡ s.idle
      pub over : u.over ≡ over_in work

    work_now : work ≡ work_by_collector (core_of m)
    work_now = work_is ∙ ap work_by_collector shown.heap_is

    flips_few : (b : Bool) → (if b then s.flips + 1 else s.flips) ≤ suc t
    flips_few true = let few = fits.flips_few in omega (arith, few)
    flips_few false = let few = fits.flips_few in omega (arith, few)

    pub collect_went : (u : Stand) → Collected u → (answer : Tick) → answer ≡ told_event work (over_in work) → Went sheet m t to_collector u answer
    unfolding after_event
    collect_went u c answer answer_is =
        let debt = fits.debt_few in
        let events = fits.events_few in
        let idle = fits.idle_few in
        let flips = flips_few (is_flip work) in
        record {
          answer_is = answer_is ∙ ap (λ (w : Work). told_event w (over_in w)) work_now;
          shows = record {
            heap_is = c.heap ∙ ap next_collected shown.heap_is ∙ sym (core_collected m);
            courses = courses_wait sheet m n refl u.tasks.items (subst (λ (xs : List TaskRun). ShowsCourses sheet m xs) (sym (c.tasks)) shown.courses);
            roster_room = subst HasRoom (sym (c.roster)) shown.roster_room;
            roster_is = λ fresh. subst (λ (r : Roster). ShowsReady sheet n (suc t) r) (sym (c.roster)) (roster_wait sheet m n refl t s.roster h.ready (subst (λ (r : Roster). suc t < r.stale_from) c.roster fresh));
            in_mid_is = λ none. c.in_mid ∙ shown.in_mid_is h.before.may.going ∙ mid_wait sheet m n refl;
            debt_is = c.debt ∙ (λ i. debt_after (work_now i) (shown.debt_is i));
            flips_is = c.flips ∙ (λ i. if is_flip (work_now i) then shown.flips_is i + 1 else shown.flips_is i);
            events_is = c.events ∙ ap (λ k. k + 1) shown.events_is;
            idle_is = c.idle ∙ shown.idle_is;
            over_is = c.over ∙ ap over_in work_now;
          };
          fit = record {
            debt_few = let e = c.debt in omega (arith, debt, e, few);
            flips_few = let e = c.flips in omega (arith, e, flips);
            events_few = let e = c.events in omega (arith, e, events);
            idle_few = let e = c.idle in omega (arith, e, idle);
          };
        }

  -- OF A TASK
  module _ (seat : ℕ) (below : seat < length (tasks_of sheet)) (done : Done) where
    abbrev after : Moment
    after = after_task sheet m t seat

    known : seat < length m.courses
    known = subst (λ k. seat < k) (sym (h.before.may.jobs.courses)) below

    -- what the tick gave, where it went to that seat; the roster and the low operation are as its caller leaves them
    module _ (v : Stand) (gave : Gave sheet m t seat v done) (keeps : v ≡ record s { heap = v.heap; tasks = v.tasks; debt = v.debt }) where
      fit_after : (roster : Roster) (mid : Option ℕ) → Fit (suc t) (record v { roster = roster; in_mid_course = mid })
      fit_after roster mid =
          let debt = gave.debt_few in
          let flips = fits.flips_few in
          let events = fits.events_few in
          let idle = fits.idle_few in
          let f = ap (λ (x : Stand). x.flips) keeps in
          let e = ap (λ (x : Stand). x.events) keeps in
          let i = ap (λ (x : Stand). x.idle) keeps in
          record { debt_few = omega (arith, debt); flips_few = omega (arith, flips, f); events_few = omega (arith, events, e); idle_few = omega (arith, idle, i) }

      went : (roster : Roster) (mid : Option ℕ) → HasRoom roster → (suc t < roster.stale_from → ShowsReady sheet after (suc t) roster) → mid ≡ first_low sheet (in_mid_course sheet after)
          → Went sheet m t (to_task seat) (record v { roster = roster; in_mid_course = mid }) (tick.Ran (who_is sheet seat) done.out done.end)
      unfolding after_task
      went roster mid room ready low = record {
        answer_is = λ i. tick.Ran (who_is sheet seat) (gave.out_is i) (gave.end_is i);
        shows = record {
          heap_is = gave.heap_is;
          courses = gave.courses;
          roster_room = room;
          roster_is = ready;
          in_mid_is = λ none. low;
          debt_is = gave.debt_is;
          flips_is = ap (λ (x : Stand). x.flips) keeps ∙ shown.flips_is;
          events_is = ap (λ (x : Stand). x.events) keeps ∙ shown.events_is;
          idle_is = ap (λ (x : Stand). x.idle) keeps ∙ shown.idle_is;
          over_is = ap (λ (x : Stand). x.over) keeps ∙ shown.over_is;
        };
        fit = fit_after roster mid;
      }

      module _ (answer : Tick) (answer_is : answer ≡ tick.Ran (who_is sheet seat) done.out done.end) (ended : Bool) (ended_is : ended ≡ is_some done.end) (roster : Roster) where
        -- a low one
        pub low_went : roster ≡ roster_after ended v.roster → IsLowSeat sheet seat → OnlyLow sheet m seat → (mid : Option ℕ) → mid ≡ (if done.mid_course then Some seat else None)
            → Went sheet m t (to_task seat) (record v { roster = roster; in_mid_course = mid }) answer
        low_went roster_is low only mid mid_is =
            let roster_now : roster ≡ roster_after (is_some done.end) s.roster = roster_is ∙ (λ i. roster_after (ended_is i) (keeps i).roster) in
            subst (λ (a : Tick). Went sheet m t (to_task seat) (record v { roster = roster; in_mid_course = mid }) a) (sym answer_is) (went roster mid (subst HasRoom (sym roster_now) (room_after (is_some done.end)))
            (λ fresh. subst (λ (r : Roster). ShowsReady sheet after (suc t) r) (sym roster_now)
            (low_roster sheet m t seat s.roster done.end h.ready known gave.end_is low (subst (λ (r : Roster). suc t < r.stale_from) roster_now fresh)))
            (mid_is ∙ ap (λ b. if b then Some seat else None) gave.mid_course_is ∙ low_mid sheet m t seat low only))
          where
            room_after : (b : Bool) → HasRoom (roster_after b s.roster)
            room_after false = shown.roster_room
            room_after true = record { gone = (shown.roster_room).gone; few = (shown.roster_room).few }

        -- a high one, of the row at a place
        module _ (place : ℕ) (high : seat < length sheet.high) (within : place < length (ready_rows sheet m t)) (task : (ready_at (ready_rows sheet m t) place).task ≡ seat)
            (run : TaskRun) (shows : ShowsCourse (task_at sheet seat) (course_at after seat) run) where
          pub high_went : HighWent place run ended v.roster roster → Went sheet m t (to_task (ready_at (ready_rows sheet m t) place).task) (record v { roster = roster }) answer
          high_went w =
              let now : HighWent place run (is_some done.end) s.roster roster = subst (λ (b : Bool). HighWent place run b s.roster roster) ended_is
              (subst (λ (r : Roster). HighWent place run ended r roster) (ap (λ (x : Stand). x.roster) keeps) w) in
              subst (λ k. Went sheet m t (to_task k) (record v { roster = roster }) answer) (sym task)
              (subst (λ (a : Tick). Went sheet m t (to_task seat) (record v { roster = roster }) a) (sym answer_is) (went roster v.in_mid_course w.room
              (λ fresh. high_roster sheet m t seat s.roster roster done.end place run h.ready known gave.end_is within task shows now fresh)
              (ap (λ (x : Stand). x.in_mid_course) keeps ∙ shown.in_mid_is h.before.may.going ∙ high_mid sheet m t seat high)))

  -- THE ROW AT A PLACE
  module _ (place : ℕ) where
    pub row_within : place < length (rows_of s.roster) → place < length (ready_rows sheet m t)
    row_within within = subst (λ (xs : List Ready). place < length xs) h.ready.rows within

    module _ (rows : List Ready) (rows_are : rows ≡ rows_of s.roster) where
      pub row_task : (ready_at (ready_rows sheet m t) place).task ≡ (ready_at rows place).task
      row_task = ap (λ (xs : List Ready). (ready_at xs place).task) (sym (rows_are ∙ h.ready.rows))

    pub row_below : place < length (rows_of s.roster) → (rows : List Ready) → rows ≡ rows_of s.roster → (ready_at rows place).task < length (tasks_of sheet)
    row_below within rows rows_are =
        let high = row_is_high sheet m t place (row_within within) in
        let task = row_task rows rows_are in
        omega (arith, high, task, count_tasks sheet)

-- a count, where a test may add one
pub counted : (count : ℕ) (test : Bool) → count + (if test then 1 else 0) ≡ (if test then count + 1 else count)
counted count true = refl
counted count false = omega arith

-- a seat, where a test holds
pub some_if : (test : Bool) (seat : ℕ) → then_some test seat ≡ (if test then Some seat else None)
some_if true seat = refl
some_if false seat = refl
