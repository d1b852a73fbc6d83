-- The low operation in mid-course, and what it has left: the first low seat of which a test holds, and a tick that changes no low
-- course.
use Rattle.std.proofs.Common.{◌≡◌, ℕ, ◌-◌, ◌*◌, ◌≤◌, Bool, true, false, Some, None, sym, ◌∙◌, ap, arith, inl, inr}
use Rattle.std.proofs.lemmas.Bool.{cases_lt}
use Rattle.std.specs.Prelude.{nat_lt, ◌&&◌}
use Rattle.hk_script.specs.Runs.{need_ticks, need_words, taken_by}
use Rattle.hk_script.specs.Walks.{need_of}
use Rattle.hk_sheet.specs.declared.sheet.Sheet.{Sheet}
use Rattle.hk_dispatch.specs.Tasks.{IsLowSeat, task_at}
use Rattle.hk_dispatch.specs.Moment.{Course, Moment, course_at}
use Rattle.hk_dispatch.specs.Turns.{is_operation, in_mid_course, first_low}
use Rattle.hk_dispatch.specs.Kept.{taken_already}
use Rattle.hk_dispatch.specs.Rules.{FirstLowIs}
use Rattle.hk_dispatch.proofs.Counters.{ticks_of_low, words_of_low, low_ticks, low_events}
use Rattle.hk_dispatch.proofs.FirstLow.{first_low_law}

-- THE FIRST LOW SEAT of which a test holds

-- the only one is the first
pub only_low : (sheet : Sheet) (test : ℕ → Bool) (seat : ℕ) → IsLowSeat sheet seat → test seat ≡ true
    → ((other : ℕ) → IsLowSeat sheet other → test other ≡ true → other ≡ seat) → first_low sheet test ≡ Some seat
only_low sheet test seat low passes only = elim (first_low_law sheet test) [
  | inl f ↦ f.1.is ∙ ap (λ s. Some s) (only f.0 f.1.low f.1.passes)
  | inr n ↦ absurd (let e : true ≡ false = sym passes ∙ n.fails seat low in cc)
]

pub none_low : (sheet : Sheet) (test : ℕ → Bool) → ((seat : ℕ) → IsLowSeat sheet seat → test seat ≡ false) → first_low sheet test ≡ None
none_low sheet test fails = elim (first_low_law sheet test) [
  | inl f ↦ absurd (let e : true ≡ false = sym f.1.passes ∙ fails f.0 f.1.low in cc)
  | inr n ↦ n.is
]

-- tests that agree on the low seats find the same
not_later : (sheet : Sheet) (p q : ℕ → Bool) (a b : ℕ) → ((seat : ℕ) → IsLowSeat sheet seat → p seat ≡ q seat) → FirstLowIs sheet p a → FirstLowIs sheet q b → a ≤ b
not_later sheet p q a b same f g = elim (cases_lt b a) [
  | inl less ↦ absurd (let e : false ≡ true = sym (f.before b g.low less) ∙ same b g.low ∙ g.passes in cc)
  | inr after' ↦ after'
]

first_same : (sheet : Sheet) (p q : ℕ → Bool) → ((seat : ℕ) → IsLowSeat sheet seat → p seat ≡ q seat) → first_low sheet p ≡ first_low sheet q
first_same sheet p q same = elim (first_low_law sheet p) [
  | inl f ↦ elim (first_low_law sheet q) [
    | inl g ↦
        let le = not_later sheet p q f.0 g.0 same f.1 g.1 in
        let ge = not_later sheet q p g.0 f.0 (λ s l. sym (same s l)) g.1 f.1 in
        let e : f.0 ≡ g.0 = omega (arith, le, ge) in
        f.1.is ∙ ap (λ s. Some s) e ∙ sym g.1.is
    | inr n ↦ absurd (let e : true ≡ false = sym f.1.passes ∙ same f.0 f.1.low ∙ n.fails f.0 f.1.low in cc)
  ]
  | inr n ↦ n.is ∙ sym (none_low sheet q (λ s l. sym (same s l) ∙ n.fails s l))
]

-- A COURSE in mid-course of an operation, with the ticks and the words that this may still take

abbrev pub is_mid : Sheet → (seat : ℕ) → Course → Bool
is_mid sheet seat c = is_operation (need_of (task_at sheet seat).script c.walk) && nat_lt 0 c.spent

abbrev pub course_ticks : Sheet → (seat : ℕ) → Course → ℕ
course_ticks sheet seat c = taken_by need_ticks (need_of (task_at sheet seat).script c.walk) - c.spent

abbrev pub course_words : Sheet → (seat : ℕ) → Course → ℕ
course_words sheet seat c = taken_by need_words (need_of (task_at sheet seat).script c.walk) - taken_already (need_of (task_at sheet seat).script c.walk) c.spent

-- A TICK THAT CHANGES NO LOW COURSE

module _ (sheet : Sheet) (m n : Moment) (same : (seat : ℕ) → IsLowSeat sheet seat → course_at n seat ≡ course_at m seat) where
  mid_same : (seat : ℕ) → IsLowSeat sheet seat → in_mid_course sheet n seat ≡ in_mid_course sheet m seat
  unfolding in_mid_course
  mid_same seat low = ap (is_mid sheet seat) (same seat low)

  low_same : first_low sheet (in_mid_course sheet n) ≡ first_low sheet (in_mid_course sheet m)
  low_same = first_same sheet (in_mid_course sheet n) (in_mid_course sheet m) mid_same

  pub low_ticks_same : low_ticks sheet n ≡ low_ticks sheet m
  low_ticks_same = elim (first_low_law sheet (in_mid_course sheet m)) [
    | inl f ↦ ap (ticks_of_low sheet n) (low_same ∙ f.1.is) ∙ ap (course_ticks sheet f.0) (same f.0 f.1.low) ∙ sym (ap (ticks_of_low sheet m) f.1.is)
    | inr none ↦ ap (ticks_of_low sheet n) (low_same ∙ none.is) ∙ sym (ap (ticks_of_low sheet m) none.is)
  ]

  low_words_same : words_of_low sheet n (first_low sheet (in_mid_course sheet n)) ≡ words_of_low sheet m (first_low sheet (in_mid_course sheet m))
  low_words_same = elim (first_low_law sheet (in_mid_course sheet m)) [
    | inl f ↦ ap (words_of_low sheet n) (low_same ∙ f.1.is) ∙ ap (course_words sheet f.0) (same f.0 f.1.low) ∙ sym (ap (words_of_low sheet m) f.1.is)
    | inr none ↦ ap (words_of_low sheet n) (low_same ∙ none.is) ∙ sym (ap (words_of_low sheet m) none.is)
  ]

  pub low_events_same : low_events sheet n ≡ low_events sheet m
  low_events_same = ap (λ k. sheet.heap.rate * k) low_words_same
