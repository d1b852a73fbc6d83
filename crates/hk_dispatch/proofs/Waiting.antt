-- Who waits: a job in mid-course is ready; where the collector has its turn no call is in flight; and a tick goes to nobody
-- exactly where no job is ready and nothing is owed.
use Rattle.std.proofs.Common.{◌≡◌, ℕ, ◌<◌, ◌⊎◌, true, false, List, length, Option, refl, sym, ◌∙◌, ap, subst, arith, inl, inr}
use Rattle.std.proofs.lemmas.Bool.{cases_lt, and_from, and_parts, lt-ltb, ltb-true, le-leb}
use Rattle.std.specs.Prelude.{nat_lt, ◌&&◌, ◌↔◌}
use Rattle.hk_words.specs.Geometry.{tasks}
use Rattle.hk_core.specs.declared.flight.Flight.{Flight}
use Rattle.hk_core.specs.State.{flight_of}
use Rattle.hk_collect.specs.Measure.{NoneInFlight}
use Rattle.hk_plan.specs.declared.Ready.{Ready}
use Rattle.hk_script.specs.declared.walk.Need.{Need}
use Rattle.hk_sheet.specs.declared.sheet.Sheet.{Sheet}
use Rattle.hk_dispatch.specs.Tasks.{IsLowSeat, Task, tasks_of, task_at}
use Rattle.hk_dispatch.specs.Moment.{Course, Moment, core_of, course_at, need_at}
use Rattle.hk_dispatch.specs.Rows.{IsChoice}
use Rattle.hk_dispatch.specs.Turns.{Turn, to_task, to_nobody, is_operation, is_ready, in_mid_course, turn}
use Rattle.hk_dispatch.specs.InStep.{SeatInStep, aside, under_way}
use Rattle.hk_dispatch.specs.Kept.{CourseKept}
use Rattle.hk_dispatch.specs.Rules.{ready_now, NoHighReady, NoLow, TurnIs, by_high, by_operation, by_collector, by_low, by_nobody}
use Rattle.hk_dispatch.proofs.TurnFacts.{turn_is}
use Rattle.hk_dispatch.proofs.Sheets.{count_tasks}
use Rattle.hk_dispatch.specs.Jobs.{JobsKept}

-- a job that has had a tick is ready
pub begun_ready : (task : Task) (course : Course) (t : ℕ) → CourseKept task course t → 0 < course.had → is_ready task course t ≡ true
begun_ready task course t h some =
    let b = h.began some in
    let lt = b.2 in
    rw b.1 (le-leb b.0 t (omega (arith, lt)))

-- a seat is a high or a low one
pub high_or_low : (sheet : Sheet) (seat : ℕ) → seat < length (tasks_of sheet) → (seat < length sheet.high) ⊎ IsLowSeat sheet seat
high_or_low sheet seat below = elim (cases_lt seat (length sheet.high)) [
  | inl high ↦ inl high
  | inr low ↦ inr (record { from = low; below = omega (arith, below, count_tasks sheet) })
]

module _ (sheet : Sheet) (m : Moment) (t : ℕ) (h : JobsKept sheet m t) where
  -- an operation in mid-course has a ready job
  pub mid_course_ready : (seat : ℕ) → seat < length (tasks_of sheet) → in_mid_course sheet m seat ≡ true → ready_now sheet m t seat ≡ true
  unfolding in_mid_course
  mid_course_ready seat below e =
      let some : 0 < (course_at m seat).spent = ltb-true 0 (course_at m seat).spent (and_parts (is_operation (need_at sheet m seat)) (nat_lt 0 (course_at m seat).spent) e).1 in
      let k = h.course seat below in
      let had = k.spent_had in
      begun_ready (task_at sheet seat) (course_at m seat) t k (omega (arith, some, had))

  -- a call in flight is of an operation in mid-course
  flying_mid : (seat : ℕ) (x : Flight) (w : Option Need) (spent : ℕ) → SeatInStep x w spent → (x.place ≡ 0) ⊎ ((is_operation w && nat_lt 0 spent) ≡ true)
  flying_mid seat x w spent (aside idle o) = inl idle
  flying_mid seat x w spent (under_way c is at place some within) = inr (and_from _ _ (ap is_operation is) (lt-ltb 0 spent (omega (arith, some))))

  pub flying_is_mid : (seat : ℕ) → seat < length (tasks_of sheet) → ((flight_of (core_of m).flights seat).place ≡ 0) ⊎ (in_mid_course sheet m seat ≡ true)
  unfolding in_mid_course
  flying_is_mid seat below = flying_mid seat _ _ _ (h.in_step seat below)

  -- where no high job is ready and no low operation is in mid-course, no call is in flight
  pub none_in_flight : tasks (core_of m).geometry ≡ length (tasks_of sheet) → NoHighReady sheet m t → NoLow sheet (in_mid_course sheet m) → NoneInFlight (core_of m)
  none_in_flight seats no_high no_low seat within =
      let below : seat < length (tasks_of sheet) = subst (λ k. seat < k) seats within in
      elim (flying_is_mid seat below) [
        | inl idle ↦ idle
        | inr mid ↦ elim (high_or_low sheet seat below) [
          | inl high ↦ absurd (let e : true ≡ false = sym (mid_course_ready seat below mid) ∙ no_high seat high in cc)
          | inr low ↦ absurd (let e : true ≡ false = sym mid ∙ no_low.fails seat low in cc)
        ]
      ]

  -- no job of the sheet is ready
  abbrev pub NoneReady : Type 0
  NoneReady = (seat : ℕ) → seat < length (tasks_of sheet) → ready_now sheet m t seat ≡ false

  below_all : (seat : ℕ) → IsLowSeat sheet seat → seat < length (tasks_of sheet)
  below_all seat low = let b = low.below in omega (arith, b, count_tasks sheet)

  module _ (choice : List Ready → ℕ) (choice_is : IsChoice choice) where
    idle_means : (o : Turn) → TurnIs choice sheet m t o → o ≡ to_nobody → NoneReady × (m.debt ≡ 0)
    idle_means o (by_high seat f) e = absurd (cc)
    idle_means o (by_operation seat f) e = absurd (cc)
    idle_means o (by_collector f) e = absurd (cc)
    idle_means o (by_low seat f) e = absurd (cc)
    idle_means o (by_nobody f) e = (
      (λ seat below. elim (high_or_low sheet seat below) [ inl high ↦ f.no_high seat high | inr low ↦ f.no_low.fails seat low ]),
      f.nothing_owed,
    )

    idle_where : (o : Turn) → TurnIs choice sheet m t o → NoneReady → m.debt ≡ 0 → o ≡ to_nobody
    idle_where o (by_high seat f) none owed = absurd (let e : true ≡ false = sym f.ready ∙ none seat (let high = f.high in omega (arith, high, count_tasks sheet)) in cc)
    idle_where o (by_operation seat f) none owed =
        let below = below_all seat f.first.low in
        absurd (let e : true ≡ false = sym (mid_course_ready seat below f.first.passes) ∙ none seat below in cc)
    idle_where o (by_collector f) none owed = absurd (let some = f.owed in omega (arith, some, owed))
    idle_where o (by_low seat f) none owed = absurd (let e : true ≡ false = sym f.first.passes ∙ none seat (below_all seat f.first.low) in cc)
    idle_where o (by_nobody f) none owed = refl

    -- a tick goes to nobody exactly where no job is ready and nothing is owed
    pub idle_exactly : (turn choice sheet m t ≡ to_nobody) ↔ (NoneReady × (m.debt ≡ 0))
    idle_exactly = (
      (λ e. idle_means (turn choice sheet m t) (turn_is choice sheet m t choice_is) e),
      (λ n. idle_where (turn choice sheet m t) (turn_is choice sheet m t choice_is) n.0 n.1),
    )

-- a tick that goes to a task goes to a seat of the sheet
pub seat_below : (choice : List Ready → ℕ) (sheet : Sheet) (m : Moment) (t : ℕ) (o : Turn) (seat : ℕ) → TurnIs choice sheet m t o → o ≡ to_task seat → seat < length (tasks_of sheet)
seat_below choice sheet m t o seat (by_high s f) e = let same : s ≡ seat = cc in let high = f.high in omega (arith, high, same, count_tasks sheet)
seat_below choice sheet m t o seat (by_operation s f) e = let same : s ≡ seat = cc in let b = f.first.low.below in omega (arith, b, same, count_tasks sheet)
seat_below choice sheet m t o seat (by_collector f) e = absurd (cc)
seat_below choice sheet m t o seat (by_low s f) e = let same : s ≡ seat = cc in let b = f.first.low.below in omega (arith, b, same, count_tasks sheet)
seat_below choice sheet m t o seat (by_nobody f) e = absurd (cc)
