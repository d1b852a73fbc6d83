-- A run that goes by a choice among the ready jobs keeps to the schedule of the jobs alone, whatever else it does in
-- between. Over abstract counters: the current job of each task, and the ticks that each job was given.
use Rattle.std.proofs.Common.{◌≡◌, ℕ, zero, suc, ◌+◌, ◌<◌, ◌≤◌, Bool, true, false, List, [], ◌++◌, inl, inr, refl, sym, ◌∙◌, ap, arith, Option, Some, None}
use Rattle.std.proofs.lemmas.Bool.{cases_Bool, cases_eq, cases_lt, lt-ltb, le-ltb, le-leb, and_from, ne_eqb}
use Rattle.std.proofs.lemmas.Bool.Decides.{nat_tests}
use Rattle.std.specs.Prelude.{nat_lt, nat_le, nat_eq, ◌&&◌, if◌then◌else◌}
use Rattle.hk_plan.specs.declared.Ready.{Ready}
use Rattle.hk_plan.specs.AloneBy.{Jobs, first_below, rows_below, chosen_task, is_ready_job, earliest, row_for, alone_turn, is_some_at, alone_had, AloneGives}

-- no number, and the first number of which a test holds
first_none : (test : ℕ → Bool) (n : ℕ) → ((k : ℕ) → k < n → test k ≡ false) → first_below test n ≡ None
unfolding first_below
first_none test zero none = refl
first_none test (suc n) none = rw (first_none test n (λ k lt. none k (omega arith)), none n (omega arith)) refl

first_is : (test : ℕ → Bool) (j n : ℕ) → j < n → test j ≡ true → ((k : ℕ) → k < j → test k ≡ false) → first_below test n ≡ Some j
unfolding first_below
first_is test j zero lt here none = absurd (omega arith)
first_is test j (suc n) lt here none = elim (cases_eq j n) [
  | inl same ↦ rw (first_none test n (λ k below. none k (omega (arith, same, below))), ap test (sym same) ∙ here) (ap (λ k. Some k) (sym same))
  | inr other ↦ rw (first_is test j n (omega (arith, lt, other)) here none) refl
]

by_left : (a b : Bool) → b ≡ false → (a && b) ≡ false
by_left true b e = e
by_left false b e = refl

at_some : (o : Option ℕ) (k : ℕ) → is_some_at o k ≡ true → o ≡ Some k
at_some None k e = absurd (cc)
at_some (Some m) k e = elim (cases_eq m k) [ inl same ↦ ap (λ x. Some x) same | inr other ↦ absurd (let x : true ≡ false = sym e ∙ ne_eqb m k other in cc) ]

rows_same : (a b : ℕ → List Ready) (n : ℕ) → ((i : ℕ) → i < n → a i ≡ b i) → rows_below a n ≡ rows_below b n
unfolding rows_below
rows_same a b zero same = refl
rows_same a b (suc n) same = λ k. rows_same a b n (λ i lt. same i (omega (arith, lt))) k ++ same n (omega arith) k

module _ (choice : List Ready → ℕ) (jobs : Jobs) (stop : ℕ) (current : ℕ → ℕ → ℕ) (given : ℕ → ℕ → ℕ → ℕ) (turn : ℕ → Option ℕ) where
  -- the row of a task whose current job is ready
  abbrev pub its_row : (t i : ℕ) → List Ready
  its_row t i = if nat_lt (current t i) (jobs.count i) && nat_le (jobs.ready i (current t i)) t
      then row_for jobs (given t) i (Some (current t i)) else []

  -- what is asked of the run: it begins with nothing given, each tick goes to the task of the chosen row or to nobody,
  -- and is one tick more for the current job of that task, which is there and is ready
  pub record Premises : Type 0 where
    pub start : (i j : ℕ) → given 0 i j ≡ 0
    pub chosen : (t : ℕ) → t < stop → turn t ≡ chosen_task choice (rows_below (its_row t) jobs.tasks)
    pub gained : (t i j : ℕ) → t < stop → given (suc t) i j ≡ given t i j + (if is_some_at (turn t) i && nat_eq (current t i) j then 1 else 0)
    -- each earlier job has had all its ticks, the current one hasn't, and jobs become ready in their order
    pub ended : (t i j : ℕ) → t ≤ stop → j < current t i → jobs.ticks i j ≤ given t i j
    pub going : (t i : ℕ) → t ≤ stop → current t i < jobs.count i → given t i (current t i) < jobs.ticks i (current t i)
    pub ordered : (i j k : ℕ) → j ≤ k → k < jobs.count i → jobs.ready i j ≤ jobs.ready i k
    pub due : (t i : ℕ) → t < stop → turn t ≡ Some i → (current t i < jobs.count i) × (jobs.ready i (current t i) ≤ t)

  module _ (p : Premises) where
    -- the earliest ready job is the current one, where it is ready
    pub earliest_is : (t i : ℕ) → t ≤ stop → row_for jobs (given t) i (earliest jobs (given t) t i) ≡ its_row t i
    earliest_is t i le = elim (cases_lt (current t i) (jobs.count i)) [
      | inr past ↦
          let none : earliest jobs (given t) t i ≡ None = first_none _ (jobs.count i) (λ k lt. over k (omega (arith, past, lt))) in
          rw (none, le-ltb (current t i) (jobs.count i) past) refl
      | inl listed ↦ elim (cases_lt t (jobs.ready i (current t i))) [
        | inl later ↦
            let none : earliest jobs (given t) t i ≡ None = first_none _ (jobs.count i) (λ k lt. elim (cases_lt k (current t i)) [
              | inl before ↦ over k before
              | inr after ↦ not_come k (let o = p.ordered i (current t i) k after lt in omega (arith, o, later))
            ]) in
            rw (none, late (jobs.ready i (current t i)) t later, right_false) refl
        | inr come ↦
            let some : earliest jobs (given t) t i ≡ Some (current t i) = first_is _ (current t i) (jobs.count i) listed
            (and_from _ _ (le-leb (jobs.ready i (current t i)) t come) (lt-ltb _ _ (p.going t i le listed))) (λ k before. over k before) in
            rw (some, lt-ltb (current t i) (jobs.count i) listed, le-leb (jobs.ready i (current t i)) t come) refl
      ]
    ]
      where
        late : (a b : ℕ) → b < a → nat_le a b ≡ false
        late a b lt = grind (arith, nat_tests)

        right_false : (nat_lt (current t i) (jobs.count i) && false) ≡ false
        right_false = elim (cases_Bool (nat_lt (current t i) (jobs.count i))) [ inl e ↦ rw e refl | inr e ↦ rw e refl ]

        over : (k : ℕ) → k < current t i → is_ready_job jobs (given t) t i k ≡ false
        over k before = by_left (nat_le (jobs.ready i k) t) (nat_lt (given t i k) (jobs.ticks i k)) (le-ltb (given t i k) (jobs.ticks i k) (p.ended t i k le before))

        not_come : (k : ℕ) → t < jobs.ready i k → is_ready_job jobs (given t) t i k ≡ false
        not_come k lt = rw (late (jobs.ready i k) t lt) refl

    -- at a tick that goes to a task, its earliest ready job is the current one
    pub first_is_current : (t i : ℕ) → t < stop → turn t ≡ Some i → earliest jobs (given t) t i ≡ Some (current t i)
    first_is_current t i lt mine =
        let d = p.due t i lt mine in
        first_is _ (current t i) (jobs.count i) d.0
        (and_from _ _ (le-leb (jobs.ready i (current t i)) t d.1) (lt-ltb _ _ (p.going t i (omega (arith, lt)) d.0)))
        (λ k before. by_left (nat_le (jobs.ready i k) t) (nat_lt (given t i k) (jobs.ticks i k)) (le-ltb (given t i k) (jobs.ticks i k) (p.ended t i k (omega (arith, lt)) before)))

    -- what the choice takes from the counters of the run
    pub turn_by_given : (t : ℕ) → t < stop → alone_turn choice jobs (given t) t ≡ turn t
    turn_by_given t lt =
        ap (chosen_task choice) (rows_same (λ a. row_for jobs (given t) a (earliest jobs (given t) t a)) (its_row t) jobs.tasks (λ a below. earliest_is t a (omega (arith, lt))))
        ∙ sym (p.chosen t lt)

    -- one tick more for a job, by the earliest ready one and by the current one
    same_gain : (t i j : ℕ) → t < stop → (b : Bool) → is_some_at (turn t) i ≡ b
        → given t i j + (if is_some_at (turn t) i && is_some_at (earliest jobs (given t) t i) j then 1 else 0)
        ≡ given t i j + (if is_some_at (turn t) i && nat_eq (current t i) j then 1 else 0)
    same_gain t i j lt false e = rw e refl
    same_gain t i j lt true e = rw (first_is_current t i lt (at_some (turn t) i e)) refl

    -- each job has had the ticks that it was given
    pub keeps : (t i j : ℕ) → t ≤ stop → alone_had choice jobs t i j ≡ given t i j
    unfolding alone_had
    keeps zero i j le = sym (p.start i j)
    keeps (suc t) i j le =
        let lt : t < stop = omega (arith, le) in
        let same : alone_had choice jobs t ≡ given t = λ k a b. keeps t a b (omega (arith, le)) k in
        let turns : alone_turn choice jobs (alone_had choice jobs t) t ≡ turn t = ap (λ (h : ℕ → ℕ → ℕ). alone_turn choice jobs h t) same ∙ turn_by_given t lt in
        let firsts : earliest jobs (alone_had choice jobs t) t i ≡ earliest jobs (given t) t i = ap (λ (h : ℕ → ℕ → ℕ). earliest jobs h t i) same in
        let before : alone_had choice jobs t i j ≡ given t i j = keeps t i j (omega (arith, le)) in
        rw (turns, firsts, before) (same_gain t i j lt (is_some_at (turn t) i) refl ∙ sym (p.gained t i j lt))

    all_given : (t : ℕ) → t ≤ stop → alone_had choice jobs t ≡ given t
    all_given t le = λ k a b. keeps t a b le k

    -- the same task gets each tick, or nobody
    pub turn_is : (t : ℕ) → t < stop → alone_turn choice jobs (alone_had choice jobs t) t ≡ turn t
    turn_is t lt = ap (λ (h : ℕ → ℕ → ℕ). alone_turn choice jobs h t) (all_given t (omega (arith, lt))) ∙ turn_by_given t lt

    -- and there the current job
    pub gives : (t i : ℕ) → t < stop → turn t ≡ Some i → AloneGives choice jobs t i (current t i)
    gives t i lt mine = record {
      task = turn_is t lt ∙ mine;
      job = ap (λ (h : ℕ → ℕ → ℕ). earliest jobs h t i) (all_given t (omega (arith, lt))) ∙ first_is_current t i lt mine;
    }
