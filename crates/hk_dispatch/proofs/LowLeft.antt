-- What a tick of a low task leaves of the low operation in mid-course: one of its own takes a tick and the events of its words, and
-- the first tick of a statement begins at most one operation.
use Rattle.std.proofs.Common.{◌≡◌, ◌≢◌, ℕ, zero, suc, ◌+◌, ◌-◌, ◌*◌, ◌<◌, ◌≤◌, ◌⊎◌, Bool, true, false, length, Option, Some, None, refl, sym, ◌∙◌, ap, subst, arith, inl, inr}
use Rattle.std.proofs.lemmas.Bool.{cases_Bool, cases_eq, and_parts, lt-ltb, ltb-false}
use Rattle.std.proofs.Math.Nat.{mul-le-mul_left}
use Rattle.std.specs.Prelude.{nat_lt, ◌&&◌, if◌then◌else◌}
use Rattle.hk_words.specs.Bounds.{most_places}
use Rattle.hk_core.specs.State.{State}
use Rattle.hk_script.specs.declared.walk.Need.{Need}
use Rattle.hk_script.specs.declared.walk.Need.TheVariants as need
use Rattle.hk_script.specs.Runs.{need_ticks, need_words, taken_by}
use Rattle.hk_script.specs.Walks.{need_of}
use Rattle.hk_sheet.specs.declared.sheet.Sheet.{Sheet}
use Rattle.hk_admit.specs.Analysis.{largest_low}
use Rattle.hk_dispatch.specs.declared.operation.Left.{Left}
use Rattle.hk_dispatch.specs.declared.operation.Left.TheVariants as left
use Rattle.hk_dispatch.specs.Tasks.{Task, IsLowSeat, task_at}
use Rattle.hk_dispatch.specs.Moment.{Course, Moment, core_of, course_at, need_at}
use Rattle.hk_dispatch.specs.Turns.{is_operation, in_mid_course}
use Rattle.hk_dispatch.specs.Ticks.{words_by, course_after, after_task}
use Rattle.hk_dispatch.specs.Kept.{taken_already}
use Rattle.hk_dispatch.proofs.Counters.{ticks_of_low, words_of_low, low_ticks, low_events}
use Rattle.hk_dispatch.proofs.Courses.{left_now, words_now, own_course, other_course, passes_spent}
use Rattle.hk_dispatch.proofs.LowSeats.{only_low, none_low, is_mid, course_ticks, course_words}
use Rattle.hk_dispatch.proofs.NewSizes.{places_few, wanted_small, low_makes_small}
use Rattle.hk_dispatch.proofs.TaskTick.{words_few, words_none}

-- THE COURSE after a tick

never : (b : Bool) → (b && false) ≡ false
never true = refl
never false = refl

mid_none : (sheet : Sheet) (seat : ℕ) (c : Course) → c.spent ≡ 0 → is_mid sheet seat c ≡ false
mid_none sheet seat c e =
    let wants = is_operation (need_of (task_at sheet seat).script c.walk) in
    ap (λ s. wants && nat_lt 0 s) e ∙ never wants

-- after a tick the job is at the same statement, with a tick more of it, or has had no tick of the next one
after_left : (task : Task) (course : Course) (t words : ℕ) (l : Left)
    → let c = course_after task course t words l in (c.spent ≡ 0) ⊎ ((c.walk ≡ course.walk) × (c.spent ≡ course.spent + 1))
after_left task course t words left.Stays = inr (refl, refl)
after_left task course t words (left.Passes r) = inl (passes_spent task course t words r)
after_left task course t words (left.Faults f) = inl refl

-- THE NUMBERS of a tick

-- an operation of so many words, which are taken at its third place alone
words_fall : (s a w : ℕ) → (s ≢ 2 → w ≡ 0) → w ≤ a → (a - (if nat_lt 2 (s + 1) then a else 0)) + w ≤ a - (if nat_lt 2 s then a else 0)
words_fall zero a w none few = let n = none (λ e. absurd (omega (arith, e))) in omega (arith, n)
words_fall (suc zero) a w none few = let n = none (λ e. absurd (omega (arith, e))) in omega (arith, n)
words_fall (suc (suc zero)) a w none few = omega (arith, few)
words_fall (suc (suc (suc s))) a w none few =
    let n = none (λ e. absurd (omega (arith, e))) in
    let b : nat_lt 2 (suc (suc (suc s))) ≡ true = lt-ltb 2 (suc (suc (suc s))) (omega arith) in
    let c : nat_lt 2 (suc (suc (suc s)) + 1) ≡ true = lt-ltb 2 (suc (suc (suc s)) + 1) (omega arith) in
    let x : (if nat_lt 2 (suc (suc (suc s))) then a else 0) ≡ a = rw b refl in
    let y : (if nat_lt 2 (suc (suc (suc s)) + 1) then a else 0) ≡ a = rw c refl in
    omega (arith, n, x, y)

words_end : (s a w : ℕ) → (s ≢ 2 → w ≡ 0) → w ≤ a → w ≤ a - (if nat_lt 2 s then a else 0)
words_end s a w none few = let all = words_fall s a w none few in omega (arith, all)

-- an operation that is at its start takes no words, and has at most so many places
start_words : (core : State) (seat spent : ℕ) (wants : Option Need) → (is_operation wants && nat_lt 0 spent) ≡ false → words_by core seat spent wants ≡ 0
start_words core seat zero wants e = words_none core seat 0 wants (λ k. absurd (omega (arith, k)))
start_words core seat (suc spent) (Some (need.Heap c)) e = absurd (let f : true ≡ false = sym (lt-ltb 0 (suc spent) (omega arith)) ∙ e in cc)
start_words core seat (suc spent) (Some (need.Work n)) e = refl
start_words core seat (suc spent) (Some need.Local) e = refl
start_words core seat (suc spent) (Some (need.Out value)) e = refl
start_words core seat (suc spent) (Some (need.Ask c)) e = refl
start_words core seat (suc spent) None e = refl

operation_ticks : (wants : Option Need) → is_operation wants ≡ true → taken_by need_ticks wants ≤ most_places
operation_ticks (Some (need.Heap c)) e = places_few c
operation_ticks (Some (need.Work n)) e = absurd (cc)
operation_ticks (Some need.Local) e = absurd (cc)
operation_ticks (Some (need.Out value)) e = absurd (cc)
operation_ticks (Some (need.Ask c)) e = absurd (cc)
operation_ticks None e = absurd (cc)

-- A TICK OF A LOW TASK, where no other low operation is in mid-course

module _ (sheet : Sheet) (m : Moment) (t seat : ℕ) (low : IsLowSeat sheet seat) (inside : seat < length m.courses)
    (alone : (other : ℕ) → IsLowSeat sheet other → in_mid_course sheet m other ≡ true → other ≡ seat) where
  abbrev n : Moment
  n = after_task sheet m t seat

  abbrev course : Course
  course = course_at m seat

  abbrev wants : Option Need
  wants = need_at sheet m seat

  alone_after : (other : ℕ) → IsLowSeat sheet other → in_mid_course sheet n other ≡ true → other ≡ seat
  unfolding in_mid_course
  alone_after other l e = elim (cases_eq other seat) [
    | inl same ↦ same
    | inr differs ↦ alone other l (sym (ap (is_mid sheet other) (other_course sheet m t seat other differs)) ∙ e)
  ]

  -- what is left, where the seat's operation is in mid-course afterwards, and where it isn't
  record Leaves (ticks words : ℕ) : Type 0 where
    ticks_are : low_ticks sheet n ≡ ticks
    events_are : low_events sheet n ≡ sheet.heap.rate * words

  leaves_some : in_mid_course sheet n seat ≡ true → Leaves (course_ticks sheet seat (course_at n seat)) (course_words sheet seat (course_at n seat))
  leaves_some e =
      let is = only_low sheet (in_mid_course sheet n) seat low e alone_after in
      record { ticks_are = ap (ticks_of_low sheet n) is; events_are = ap (λ o. sheet.heap.rate * words_of_low sheet n o) is }

  leaves_none : in_mid_course sheet n seat ≡ false → Leaves 0 0
  leaves_none e =
      let is = none_low sheet (in_mid_course sheet n) (λ other l. elim (cases_Bool (in_mid_course sheet n other)) [
        | inl yes' ↦ absurd (let f : true ≡ false = sym yes' ∙ ap (in_mid_course sheet n) (alone_after other l yes') ∙ e in cc)
        | inr no' ↦ no'
      ]) in
      record { ticks_are = ap (ticks_of_low sheet n) is; events_are = ap (λ o. sheet.heap.rate * words_of_low sheet n o) is }

  -- the course after the tick
  leads : ((course_at n seat).spent ≡ 0) ⊎ (((course_at n seat).walk ≡ course.walk) × ((course_at n seat).spent ≡ course.spent + 1))
  leads =
      let P : Course → Type 0 = λ (c : Course). (c.spent ≡ 0) ⊎ ((c.walk ≡ course.walk) × (c.spent ≡ course.spent + 1)) in
      subst P (sym (own_course sheet m t seat inside)) (after_left (task_at sheet seat) course t (words_now sheet m t seat) (left_now sheet m t seat))

  record Further : Type 0 where
    ticks_then : course_ticks sheet seat (course_at n seat) ≡ taken_by need_ticks wants - (course.spent + 1)
    words_then : course_words sheet seat (course_at n seat) ≡ taken_by need_words wants - taken_already wants (course.spent + 1)
    mid_then : in_mid_course sheet n seat ≡ is_operation wants

  further : (course_at n seat).walk ≡ course.walk → (course_at n seat).spent ≡ course.spent + 1 → Further
  unfolding in_mid_course
  further walk spent = record {
    ticks_then = λ i. taken_by need_ticks (need_of (task_at sheet seat).script (walk i)) - spent i;
    words_then = λ i. taken_by need_words (need_of (task_at sheet seat).script (walk i)) - taken_already (need_of (task_at sheet seat).script (walk i)) (spent i);
    mid_then =
        let a : in_mid_course sheet n seat ≡ (is_operation wants && nat_lt 0 (course.spent + 1)) = λ i. is_operation (need_of (task_at sheet seat).script (walk i)) && nat_lt 0 (spent i) in
        a ∙ always (is_operation wants) (nat_lt 0 (course.spent + 1)) (lt-ltb 0 (course.spent + 1) (omega arith));
  }
    where
      always : (b c : Bool) → c ≡ true → (b && c) ≡ b
      always true c e = e
      always false c e = refl

  not_mid : (course_at n seat).spent ≡ 0 → in_mid_course sheet n seat ≡ false
  unfolding in_mid_course
  not_mid none = mid_none sheet seat (course_at n seat) none

  mid_means : in_mid_course sheet m seat ≡ true → is_operation wants ≡ true
  unfolding in_mid_course
  mid_means e = (and_parts (is_operation wants) (nat_lt 0 course.spent) e).0

  -- a tick of the operation in mid-course
  pub operation_falls : in_mid_course sheet m seat ≡ true → course.spent < taken_by need_ticks wants
      → (low_ticks sheet n + 1 ≤ low_ticks sheet m) × (low_events sheet n + sheet.heap.rate * words_now sheet m t seat ≤ low_events sheet m)
  operation_falls mid few =
      let is = only_low sheet (in_mid_course sheet m) seat low mid alone in
      let ticks : low_ticks sheet m ≡ taken_by need_ticks wants - course.spent = ap (ticks_of_low sheet m) is in
      let events : low_events sheet m ≡ sheet.heap.rate * (taken_by need_words wants - taken_already wants course.spent) = ap (λ o. sheet.heap.rate * words_of_low sheet m o) is in
      let w = words_now sheet m t seat in
      let none : course.spent ≢ 2 → w ≡ 0 = λ other. words_none (core_of m) seat course.spent wants other in
      let most : w ≤ taken_by need_words wants = words_few (core_of m) seat course.spent wants in
      elim leads [
        | inl over ↦
            let l = leaves_none (not_mid over) in
            let a = l.ticks_are in
            let b = l.events_are in
            let c = mul-le-mul_left sheet.heap.rate (words_end course.spent (taken_by need_words wants) w none most) in
            (omega (arith, a, ticks, few), omega (arith, b, c, events))
        | inr more ↦
            let f = further more.0 more.1 in
            let l = leaves_some (f.mid_then ∙ mid_means mid) in
            let a = l.ticks_are ∙ f.ticks_then in
            let b : low_events sheet n ≡ sheet.heap.rate * (taken_by need_words wants - taken_already wants (course.spent + 1)) = l.events_are ∙ ap (λ k. sheet.heap.rate * k) f.words_then in
            let c = mul-le-mul_left sheet.heap.rate (words_fall course.spent (taken_by need_words wants) w none most) in
            let d : sheet.heap.rate * ((taken_by need_words wants - taken_already wants (course.spent + 1)) + w) ≡ sheet.heap.rate * (taken_by need_words wants - taken_already wants (course.spent + 1)) + sheet.heap.rate * w = omega arith in
            (omega (arith, a, ticks, few), omega (arith, b, c, d, events))
      ]

  -- the first tick of a statement
  at_start : in_mid_course sheet m seat ≡ false → words_now sheet m t seat ≡ 0
  unfolding in_mid_course
  at_start e = start_words (core_of m) seat course.spent wants e

  start_spent : in_mid_course sheet m seat ≡ false → is_operation wants ≡ true → course.spent ≤ 0
  unfolding in_mid_course
  start_spent e op = ltb-false 0 course.spent (let f : nat_lt 0 course.spent ≡ false = rw op at e in f)

  pub low_starts : in_mid_course sheet m seat ≡ false
      → (low_ticks sheet n + 1 ≤ most_places) × (low_events sheet n + sheet.heap.rate * words_now sheet m t seat ≤ sheet.heap.rate * largest_low sheet)
  low_starts start =
      let w : sheet.heap.rate * words_now sheet m t seat ≡ 0 = ap (λ k. sheet.heap.rate * k) (at_start start) ∙ omega arith in
      elim (cases_Bool (in_mid_course sheet n seat)) [
        | inr no' ↦
            let l = leaves_none no' in
            let a = l.ticks_are in
            let b = l.events_are in
            (omega (arith, a), omega (arith, b, w))
        | inl yes' ↦ elim leads [
          | inl over ↦ absurd (let e : true ≡ false = sym yes' ∙ not_mid over in cc)
          | inr more ↦
              let f = further more.0 more.1 in
              let op : is_operation wants ≡ true = sym f.mid_then ∙ yes' in
              let first = start_spent start op in
              let l = leaves_some yes' in
              let a = l.ticks_are ∙ f.ticks_then in
              let ticks = operation_ticks wants op in
              let b = l.events_are ∙ ap (λ k. sheet.heap.rate * k) f.words_then in
              let size = wanted_small (task_at sheet seat).script course.walk in
              let most = low_makes_small sheet seat low in
              let few : taken_by need_words wants - taken_already wants (course.spent + 1) ≤ largest_low sheet = omega (arith, size, most) in
              let c = mul-le-mul_left sheet.heap.rate few in
              (omega (arith, a, ticks, first), omega (arith, b, c, w))
        ]
      ]
