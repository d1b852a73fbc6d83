-- Where a session stands: at its start, and after each tick.
use Rattle.std.proofs.Common.{◌≡◌, ℕ, suc, ◌+◌, ◌<◌, ◌≤◌, Bool, true, false, List, length, Some, None, refl, sym, ◌∙◌, ap, subst, arith, inl, inr}
use Rattle.std.proofs.lemmas.Bool.{lt-ltb, le-ltb}
use Rattle.std.specs.Prelude.{nat_lt, ◌&&◌, slice_index_or, if◌then◌else◌}
use Rattle.hk_words.specs.declared.geometry.Geometry.{Geometry}
use Rattle.hk_words.specs.Geometry.{HasSizes, tasks}
use Rattle.hk_model.proofs.Views.{get_or-replicate_same}
use Rattle.hk_core.specs.State as machine
use Rattle.hk_core.specs.State.{State}
use Rattle.hk_collect.specs.Used.{trace_opening}
use Rattle.hk_plan.specs.declared.Ready.{Ready}
use Rattle.hk_script.specs.Walks.{need_of}
use Rattle.hk_sheet.specs.declared.sheet.Sheet.{Sheet}
use Rattle.hk_sheet.specs.Faults.{sizes_of}
use Rattle.hk_admit.specs.Facts.{IsChecked}
use Rattle.hk_dispatch.specs.declared.run.TaskRun.{TaskRun}
use Rattle.hk_dispatch.specs.declared.stand.Stand.{Stand}
use Rattle.hk_dispatch.specs.declared.tick.Tick.{Tick}
use Rattle.hk_dispatch.specs.declared.tick.Tick.TheVariants as tick
use Rattle.hk_dispatch.specs.Rows.{IsChoice}
use Rattle.hk_dispatch.specs.Tasks.{tasks_of, task_at}
use Rattle.hk_dispatch.specs.Moment.{Course, Moment, no_course, core_of, course_at, opening}
use Rattle.hk_dispatch.specs.Turns.{is_operation, in_mid_course, first_low, turn}
use Rattle.hk_dispatch.specs.Ticks.{after_turn}
use Rattle.hk_dispatch.specs.Told.{told_turn, told_by, told}
use Rattle.hk_dispatch.specs.Session.{after_tick, state}
use Rattle.hk_dispatch.specs.TaskRuns.{ShowsCourse}
use Rattle.hk_dispatch.specs.Opened.{ShowsStart, ShowsCourses, HasRoom, Shows, Fit, Stands, Before, Went}
use Rattle.hk_dispatch.proofs.FirstLow.{first_low_law}
use Rattle.hk_dispatch.proofs.Runs.{geometry_at, lawful_at}
use Rattle.hk_dispatch.proofs.SessionJobs.{jobs_kept, one_low}
use Rattle.hk_dispatch.proofs.Sheets.{seats}

-- THE START

module _ (g : Geometry) (sheet : Sheet) where
  course_first : (seat : ℕ) → course_at (opening g sheet) seat ≡ no_course
  unfolding opening
  course_first seat = get_or-replicate_same (length (tasks_of sheet)) seat no_course

  never : (b : Bool) → (b && false) ≡ false
  never true = refl
  never false = refl

  none_mid : (seat : ℕ) → in_mid_course sheet (opening g sheet) seat ≡ false
  unfolding in_mid_course
  none_mid seat = ap (λ (c : Course). is_operation (need_of (task_at sheet seat).script c.walk) && nat_lt 0 c.spent) (course_first seat) ∙ never _

  no_mid : first_low sheet (in_mid_course sheet (opening g sheet)) ≡ None
  no_mid = elim (first_low_law sheet (in_mid_course sheet (opening g sheet))) [
    | inl f ↦ absurd (let e : true ≡ false = sym (f.1.passes) ∙ none_mid f.0 in cc)
    | inr n ↦ n.is
  ]

  core_first : machine.opening g ≡ core_of (opening g sheet)
  unfolding opening trace_opening
  core_first = refl

  courses_first : (runs : List TaskRun) → ShowsStart sheet runs → ShowsCourses sheet (opening g sheet) runs
  courses_first runs h = record {
    all = h.all;
    each = λ seat d below. subst (λ (c : Course). ShowsCourse (task_at sheet seat) c (slice_index_or runs seat d)) (sym (course_first seat)) (h.each seat d below);
  }

  pub shows_first : (s : Stand) → s.heap ≡ machine.opening g → ShowsStart sheet s.tasks.items → HasRoom s.roster → s.roster.stale_from ≡ 0 → s.in_mid_course ≡ None
      → s.debt ≡ 0 → s.flips ≡ 0 → s.events ≡ 0 → s.idle ≡ 0 → s.over ≡ None → Shows sheet (opening g sheet) 0 s
  unfolding opening
  shows_first s heap runs room stale mid debt flips events idle over = record {
    heap_is = heap ∙ core_first;
    courses = courses_first s.tasks.items runs;
    roster_room = room;
    roster_is = λ fresh. absurd (omega (arith, fresh, stale));
    in_mid_is = λ none. mid ∙ sym no_mid;
    debt_is = debt;
    flips_is = flips;
    events_is = events;
    idle_is = idle;
    over_is = over;
  }

-- by the geometry of the heap itself
geometry_first : (g : Geometry) → (machine.opening g).geometry ≡ g
unfolding machine.opening
geometry_first g = refl

pub own_geometry : (g : Geometry) (heap : State) → heap ≡ machine.opening g → g ≡ heap.geometry
own_geometry g heap e = sym (ap (λ (c : State). c.geometry) e ∙ geometry_first g)

pub own_opening : (g : Geometry) (heap : State) → heap ≡ machine.opening g → heap ≡ machine.opening heap.geometry
own_opening g heap e = e ∙ ap machine.opening (own_geometry g heap e)

pub sizes_first : (g : Geometry) (heap : State) (sheet : Sheet) → heap ≡ machine.opening g → HasSizes g (sizes_of sheet) → HasSizes heap.geometry (sizes_of sheet)
sizes_first g heap sheet e h = subst (λ (k : Geometry). HasSizes k (sizes_of sheet)) (own_geometry g heap e) h

pub stands_first : (choice : List Ready → ℕ) (sheet : Sheet) (s : Stand) → HasSizes s.heap.geometry (sizes_of sheet) → Shows sheet (opening s.heap.geometry sheet) 0 s → Fit 0 s → Stands choice sheet 0 s
unfolding state
stands_first choice sheet s sizes shows fit = record { sizes = sizes; within = omega arith; shows = shows; fit = fit }

-- A TICK

module _ (choice : List Ready → ℕ) (sheet : Sheet) (work attempt busy debt given : ℕ) (s : Stand) (stands : Stands choice sheet given s) (choice_is : IsChoice choice) (checked : IsChecked sheet work attempt busy debt) where
  abbrev pub at : ℕ → Moment
  at t = state s.heap.geometry choice sheet t

  -- what is told, by the end that was found
  pub told_over : (words : ℕ) → s.over ≡ Some words → tick.LiveOver words ≡ told s.heap.geometry choice sheet given
  unfolding told
  told_over words over = ap (told_by choice sheet (at given) given) (sym over ∙ stands.shows.over_is)

  module _ (going : s.over ≡ None) where
    none_over : None ≡ (at given).over
    none_over = sym going ∙ stands.shows.over_is

    pub told_end : sheet.ticks ≤ given → tick.Over ≡ told s.heap.geometry choice sheet given
    unfolding told
    told_end past =
        ap (λ b. if b then told_turn sheet (at given) given (turn choice sheet (at given) given) else tick.Over) (sym (le-ltb given sheet.ticks past))
        ∙ ap (told_by choice sheet (at given) given) none_over

    module _ (early : given < sheet.ticks) where
      pub before : Before sheet (at given) given s
      before =
          let g = s.heap.geometry in
          let geometry = geometry_at g choice sheet given in
          record {
            may = record {
              readable = checked.readable;
              within = early;
              going = sym none_over;
              seats = ap tasks geometry ∙ seats g sheet stands.sizes;
              registers = sym (stands.sizes.registers) ∙ sym (ap (λ (k : Geometry). k.registers) geometry);
              sized = (lawful_at g choice sheet given).sized;
              jobs = jobs_kept g choice choice_is sheet checked.readable checked.declared stands.sizes given;
              one_low = one_low g choice choice_is sheet given;
            };
            shows = stands.shows;
            fit = stands.fit;
          }

      module _ (u : Stand) (answer : Tick) (went : Went sheet (at given) given (turn choice sheet (at given) given) u answer) where
        pub told_went : answer ≡ told s.heap.geometry choice sheet given
        unfolding told
        told_went = went.answer_is
            ∙ ap (λ b. if b then told_turn sheet (at given) given (turn choice sheet (at given) given) else tick.Over) (sym (lt-ltb given sheet.ticks early))
            ∙ ap (told_by choice sheet (at given) given) none_over

        next_is : after_turn sheet (at given) given (turn choice sheet (at given) given) ≡ at (suc given)
        unfolding state
        next_is = ap (after_tick choice sheet (at given) given) none_over

        shows_next : Shows sheet (at (suc given)) (suc given) u
        shows_next = subst (λ (n : Moment). Shows sheet n (suc given) u) next_is went.shows

        pub same_geometry : u.heap.geometry ≡ s.heap.geometry
        same_geometry = ap (λ (c : State). c.geometry) shows_next.heap_is ∙ geometry_at s.heap.geometry choice sheet (suc given)

        pub stands_next : Stands choice sheet (given + 1) u
        stands_next =
            let e : suc given ≡ given + 1 = omega arith in
            subst (λ k. Stands choice sheet k u) e (record {
              sizes = subst (λ (k : Geometry). HasSizes k (sizes_of sheet)) (sym same_geometry) stands.sizes;
              within = omega (arith, early);
              shows = subst (λ (k : Geometry). Shows sheet (state k choice sheet (suc given)) (suc given) u) (sym same_geometry) shows_next;
              fit = went.fit;
            })
