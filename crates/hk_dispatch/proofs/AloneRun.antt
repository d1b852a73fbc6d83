-- A session's run up to a moment keeps to the schedule of its high jobs alone: each tick goes to the same high job or to none.
use Rattle.std.proofs.Common.{◌≡◌, ℕ, zero, suc, ◌+◌, ◌<◌, ◌≤◌, Bool, false, List, length, Option, Some, None, refl, sym, ◌∙◌, ap, subst, arith, inl, inr}
use Rattle.std.proofs.lemmas.Bool.{cases_lt, cases_eq, lt-ltb, le-ltb, ltb-true, leb-true, and_parts}
use Rattle.std.proofs.lemmas.List.{get_or_past}
use Rattle.std.specs.Prelude.{nat_eq, nat_lt, nat_le, ◌&&◌, is_none, if◌then◌else◌}
use Rattle.hk_words.specs.declared.geometry.Geometry.{Geometry}
use Rattle.hk_plan.specs.declared.Ready.{Ready}
use Rattle.hk_plan.specs.AloneBy.{Jobs, rows_below, chosen_task, is_some_at, alone_turn, alone_had, AloneGives}
use Rattle.hk_plan.proofs.AloneBy.{Premises, its_row, keeps, turn_is, gives}
use Rattle.hk_sheet.specs.declared.sheet.High.{High}
use Rattle.hk_sheet.specs.declared.sheet.Sheet.{Sheet}
use Rattle.hk_dispatch.specs.Tasks.{no_high, high_at}
use Rattle.hk_dispatch.specs.Moment.{Moment}
use Rattle.hk_dispatch.specs.Turns.{ready_row, ready_rows, turn}
use Rattle.hk_dispatch.specs.Session.{after_tick, state, IsSession, IsMoment}
use Rattle.hk_dispatch.specs.Rules.{TurnIs}
use Rattle.hk_dispatch.specs.HighJobs.{is_to, arrivals_before, given, jobs_by}
use Rattle.hk_dispatch.proofs.JobCounters as counter
use Rattle.hk_dispatch.proofs.SeatCounters.{goes, job_of, had_of, counters, had_few}
use Rattle.hk_dispatch.proofs.ListedJobs.{in_order}
use Rattle.hk_dispatch.proofs.HighTicks.{high_turn, named, named_ready, none_past, rows_same, due, row_is}
use Rattle.hk_dispatch.proofs.ReadyMoments.{high_right}
use Rattle.hk_dispatch.proofs.TurnFacts as turns

-- Where the collector hasn't found too many words reserved by a moment, it hadn't at any earlier one.

before_tick : (choice : List Ready → ℕ) (sheet : Sheet) (m : Moment) (t : ℕ) (over : Option ℕ) → m.over ≡ over → (after_tick choice sheet m t over).over ≡ None → m.over ≡ None
before_tick choice sheet m t None e none = e
before_tick choice sheet m t (Some words) e none = none

pub before_over : (g : Geometry) (choice : List Ready → ℕ) (sheet : Sheet) (t u : ℕ) → t ≤ u → (state g choice sheet u).over ≡ None → (state g choice sheet t).over ≡ None
unfolding state
before_over g choice sheet t zero le none = let e : t ≡ 0 = omega (arith, le) in ap (λ k. (state g choice sheet k).over) e ∙ none
before_over g choice sheet t (suc u) le none = elim (cases_eq t (suc u)) [
  | inl same ↦ ap (λ k. (state g choice sheet k).over) same ∙ none
  | inr other ↦ before_over g choice sheet t u (omega (arith, le, other)) (before_tick choice sheet (state g choice sheet u) u (state g choice sheet u).over refl none)
]

module _ (g : Geometry) (choice : List Ready → ℕ) (sheet : Sheet) (work attempt busy debt : ℕ) (s : IsSession g choice sheet work attempt busy debt) (stop : ℕ) (moment : IsMoment g choice sheet stop) where
  abbrev pub at : ℕ → Moment
  at t = state g choice sheet t

  abbrev pub jobs : Jobs
  jobs = jobs_by g choice sheet stop

  abbrev pub count : ℕ
  count = length sheet.high

  -- the counters of high seats; those of another seat stand still
  abbrev pub current : ℕ → ℕ → ℕ
  current t i = if nat_lt i count then job_of g choice sheet t i else 0

  abbrev pub received : ℕ → ℕ → ℕ → ℕ
  received t i j = if nat_lt i count then given g choice sheet t i j else 0

  abbrev pub gets : ℕ → Option ℕ
  gets t = high_turn choice sheet (at t) t

  is_turn : (t : ℕ) → TurnIs choice sheet (at t) t (turn choice sheet (at t) t)
  is_turn t = turns.turn_is choice sheet (at t) t s.choice_is

  its : (i : ℕ) → counter.AreCounters (λ t. goes g choice sheet t i) (λ t. job_of g choice sheet t i) (λ t. had_of g choice sheet t i) (λ t j. given g choice sheet t i j)
  its i = counters g choice sheet work attempt busy debt s i

  current_is : (t i : ℕ) → i < count → current t i ≡ job_of g choice sheet t i
  current_is t i high = rw (lt-ltb i count high) refl

  received_is : (t i j : ℕ) → i < count → received t i j ≡ given g choice sheet t i j
  received_is t i j high = rw (lt-ltb i count high) refl

  none_current : (t i : ℕ) → count ≤ i → current t i ≡ 0
  none_current t i past = rw (le-ltb i count past) refl

  none_received : (t i j : ℕ) → count ≤ i → received t i j ≡ 0
  none_received t i j past = rw (le-ltb i count past) refl

  -- a seat past the high ones has no high jobs
  no_jobs : (i : ℕ) → count ≤ i → jobs.count i ≡ 0
  no_jobs i past = ap (λ (task : High). arrivals_before sheet.ticks task.arrivals) (get_or_past sheet.high i no_high past)

  -- THE LENGTHS

  pub ticks_ended : (i j : ℕ) → j < job_of g choice sheet stop i → jobs.ticks i j ≡ given g choice sheet stop i j
  ticks_ended i j lt = rw (lt-ltb j (job_of g choice sheet stop i) lt) refl

  pub ticks_declared : (i j : ℕ) → job_of g choice sheet stop i ≤ j → jobs.ticks i j ≡ (high_at sheet i).timing.cost
  ticks_declared i j le = rw (le-ltb j (job_of g choice sheet stop i) le) refl

  -- THE PREMISES of the schedule by a choice, over the run's counters

  start : (i j : ℕ) → received 0 i j ≡ 0
  start i j = elim (cases_lt i count) [
    | inl high ↦ received_is 0 i j high ∙ (its i).none_given j
    | inr past ↦ none_received 0 i j past
  ]

  own_row : (t i : ℕ) → t < stop → i < count → ready_row sheet (at t) t i ≡ its_row choice jobs stop current received gets t i
  own_row t i lt high =
      row_is choice sheet (at t) t s.checked.readable (let le = moment.within in omega (arith, lt, le)) i high
      (current t i) (received t i (current t i)) (sym (current_is t i high))
      (sym (received_is t i (current t i) high ∙ ap (given g choice sheet t i) (current_is t i high) ∙ counter.present _ _ _ _ (its i) t))

  chosen : (t : ℕ) → t < stop → gets t ≡ chosen_task choice (rows_below (its_row choice jobs stop current received gets t) jobs.tasks)
  unfolding ready_rows
  chosen t lt = ap (chosen_task choice) (rows_same (ready_row sheet (at t) t) (its_row choice jobs stop current received gets t) count (λ i high. own_row t i lt high))

  pub goes_is : (t i : ℕ) → t < stop → i < count → goes g choice sheet t i ≡ is_some_at (gets t) i
  goes_is t i lt high =
      ap (λ o. is_none o && is_to (turn choice sheet (at t) t) i) (before_over g choice sheet t stop (omega (arith, lt)) moment.before_over)
      ∙ sym (named choice sheet (at t) t (turn choice sheet (at t) t) (is_turn t) i high)

  gained : (t i j : ℕ) → t < stop → received (suc t) i j ≡ received t i j + (if is_some_at (gets t) i && nat_eq (current t i) j then 1 else 0)
  gained t i j lt = elim (cases_lt i count) [
    | inl high ↦
        received_is (suc t) i j high ∙ (its i).gained t j
        ∙ sum_same (given g choice sheet t i j) (received t i j) (goes g choice sheet t i) (is_some_at (gets t) i) (job_of g choice sheet t i) (current t i)
        (sym (received_is t i j high)) (goes_is t i lt high) (sym (current_is t i high))
    | inr past ↦
        none_received (suc t) i j past ∙ sum_none (received t i j) (is_some_at (gets t) i) (nat_eq (current t i) j) (none_received t i j past)
        (none_past choice sheet (at t) t (turn choice sheet (at t) t) (is_turn t) i past)
  ]
    where
      sum_same : (a b : ℕ) (x y : Bool) (p q : ℕ) → a ≡ b → x ≡ y → p ≡ q → a + (if x && nat_eq p j then 1 else 0) ≡ b + (if y && nat_eq q j then 1 else 0)
      sum_same a b x y p q e f h = λ k. e k + (if f k && nat_eq (h k) j then 1 else 0)

      sum_none : (a : ℕ) (x y : Bool) → a ≡ 0 → x ≡ false → 0 ≡ a + (if x && y then 1 else 0)
      sum_none a x y e f = rw (e, f) refl

  ended : (t i j : ℕ) → t ≤ stop → j < current t i → jobs.ticks i j ≤ received t i j
  ended t i j le lt = elim (cases_lt i count) [
    | inr past ↦ absurd (let e = none_current t i past in omega (arith, e, lt))
    | inl high ↦
        let before : j < job_of g choice sheet t i = let e = current_is t i high in omega (arith, e, lt) in
        let up = counter.rises _ _ _ _ (its i) t stop le in
        let length = ticks_ended i j (omega (arith, before, up)) in
        let same = counter.settled _ _ _ _ (its i) t stop j le before in
        let all = received_is t i j high in
        omega (arith, length, same, all)
  ]

  -- the job under way at a moment has had fewer ticks than it takes
  pub under_way : (t i : ℕ) → t ≤ stop → i < count → given g choice sheet t i (job_of g choice sheet t i) < jobs.ticks i (job_of g choice sheet t i)
  under_way t i le high =
      let now = counter.present _ _ _ _ (its i) t in
      elim (cases_lt (job_of g choice sheet t i) (job_of g choice sheet stop i)) [
        | inl over ↦ let more = counter.given_more _ _ _ _ (its i) t stop le over in let length = ticks_ended i (job_of g choice sheet t i) over in omega (arith, now, more, length)
        | inr not ↦ let few = had_few g choice sheet work attempt busy debt s i high t in let length = ticks_declared i (job_of g choice sheet t i) not in omega (arith, now, few, length)
      ]

  going : (t i : ℕ) → t ≤ stop → current t i < jobs.count i → received t i (current t i) < jobs.ticks i (current t i)
  going t i le lt = elim (cases_lt i count) [
    | inr past ↦ absurd (let none = no_jobs i past in omega (arith, none, lt))
    | inl high ↦
        let all = received_is t i (current t i) high in
        let few : given g choice sheet t i (current t i) < jobs.ticks i (current t i) = subst (λ j. given g choice sheet t i j < jobs.ticks i j) (sym (current_is t i high)) (under_way t i le high) in
        omega (arith, all, few)
  ]

  ordered : (i j k : ℕ) → j ≤ k → k < jobs.count i → jobs.ready i j ≤ jobs.ready i k
  ordered i j k le lt = elim (cases_lt i count) [
    | inr past ↦ absurd (let none = no_jobs i past in omega (arith, none, lt))
    | inl high ↦ in_order sheet s.checked.readable.ticks.at_most (high_at sheet i) (high_right sheet s.checked.readable i high) j k le lt
  ]

  due_at : (t i : ℕ) → t < stop → gets t ≡ Some i → (current t i < jobs.count i) × (jobs.ready i (current t i) ≤ t)
  due_at t i lt e =
      let named = named_ready choice sheet (at t) t (turn choice sheet (at t) t) (is_turn t) i e in
      let is_due = sym (due choice sheet (at t) t s.checked.readable (let le = moment.within in omega (arith, lt, le)) i named.0) ∙ named.1 in
      let job = job_of g choice sheet t i in
      let parts = and_parts (nat_lt job (jobs.count i)) (nat_le (jobs.ready i job) t) is_due in
      subst (λ j. (j < jobs.count i) × (jobs.ready i j ≤ t)) (sym (current_is t i named.0)) (ltb-true job (jobs.count i) parts.0, leb-true (jobs.ready i job) t parts.1)

  pub premises : Premises choice jobs stop current received gets
  premises = record {
    start = start;
    chosen = chosen;
    gained = gained;
    ended = ended;
    going = going;
    ordered = ordered;
    due = due_at;
  }

  -- THE SCHEDULE ALONE gives each job as many ticks as the run does
  pub had_alone : (t i j : ℕ) → t ≤ stop → i < count → alone_had choice jobs t i j ≡ given g choice sheet t i j
  had_alone t i j le high = keeps choice jobs stop current received gets premises t i j le ∙ received_is t i j high

  -- and each tick to the same high task
  pub turn_alone : (t : ℕ) → t < stop → alone_turn choice jobs (alone_had choice jobs t) t ≡ gets t
  turn_alone t lt = turn_is choice jobs stop current received gets premises t lt

  -- and there to the job under way
  pub gives_alone : (t i : ℕ) → t < stop → gets t ≡ Some i → AloneGives choice jobs t i (job_of g choice sheet t i)
  gives_alone t i lt mine =
      subst (AloneGives choice jobs t i) (current_is t i (named_ready choice sheet (at t) t (turn choice sheet (at t) t) (is_turn t) i mine).0)
      (gives choice jobs stop current received gets premises t i lt mine)
