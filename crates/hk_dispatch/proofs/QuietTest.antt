-- Quiet moments by a test: what is owed, the low operation in mid-course and the high jobs that wait, all counted, are none.
use Rattle.std.proofs.Common.{◌≡◌, ℕ, zero, suc, ◌+◌, ◌<◌, ◌≤◌, Bool, true, false, length, Option, Some, None, refl, sym, ◌∙◌, ap, subst, arith, inl, inr}
use Rattle.std.proofs.lemmas.Bool.{cases_eq, cases_lt, eqb-true, eq-eqb, eqb-false}
use Rattle.std.specs.Prelude.{nat_eq, nat_lt, ◌&&◌}
use Rattle.hk_words.specs.declared.geometry.Geometry.{Geometry}
use Rattle.hk_model.proofs.Views.{get_or-replicate_same}
use Rattle.hk_plan.proofs.Sums.{total, total_zero}
use Rattle.hk_script.specs.Walks.{need_of}
use Rattle.hk_sheet.specs.declared.sheet.Sheet.{Sheet}
use Rattle.hk_sheet.specs.Valid.{IsSheet}
use Rattle.hk_dispatch.specs.Tasks.{tasks_of, task_at}
use Rattle.hk_dispatch.specs.Moment.{Course, Moment, no_course, opening}
use Rattle.hk_dispatch.specs.Turns.{is_operation, in_mid_course, first_low}
use Rattle.hk_dispatch.specs.Quiet.{IsQuiet}
use Rattle.hk_dispatch.specs.Rules.{NoHighReady, NoLow}
use Rattle.hk_dispatch.proofs.Counters.{backlog}
use Rattle.hk_dispatch.proofs.FirstLow.{first_low_law}
use Rattle.hk_dispatch.proofs.ReadyCounts.{no_backlog, none_waits_where}
use Rattle.hk_dispatch.proofs.ReadyMoments.{none_waits}

-- SUMS OF NONE

pub term_few : (f : ℕ → ℕ) (n i : ℕ) → i < n → f i ≤ total f n
term_few f zero i lt = absurd (omega (arith, lt))
term_few f (suc n) i lt = elim (cases_eq i n) [
  | inl same ↦ subst (λ k. f k ≤ total f (suc n)) (sym same) (omega arith)
  | inr other ↦ let few = term_few f n i (omega (arith, lt, other)) in omega (arith, few)
]

pub all_none : (f : ℕ → ℕ) (n : ℕ) → total f n ≡ 0 → (i : ℕ) → i < n → f i ≡ 0
all_none f n none i lt = let few = term_few f n i lt in omega (arith, none, few)

-- where some term is, so is one of a sum in which such terms are
pub some_term : (f g : ℕ → ℕ) (n : ℕ) → ((i : ℕ) → i < n → 1 ≤ g i → 1 ≤ f i) → 1 ≤ total g n → 1 ≤ total f n
some_term f g zero each some = absurd (omega (arith, some))
some_term f g (suc n) each some = elim (cases_lt 0 (g n)) [
  | inl here ↦ let one = each n (omega arith) (omega (arith, here)) in omega (arith, one)
  | inr not ↦ let before = some_term f g n (λ i lt. each i (omega (arith, lt))) (omega (arith, some, not)) in omega (arith, before)
]

-- THE TEST

abbrev one_if : Option ℕ → ℕ
one_if None = 0
one_if (Some seat) = 1

pub waiting_sum : Sheet → Moment → (t : ℕ) → ℕ
waiting_sum sheet m t = m.debt + one_if (first_low sheet (in_mid_course sheet m)) + total (backlog sheet m t) (length sheet.high)

pub quiet_now : Sheet → Moment → (t : ℕ) → Bool
quiet_now sheet m t = nat_eq (waiting_sum sheet m t) 0

none_if : (o : Option ℕ) → one_if o ≡ 0 → o ≡ None
none_if None e = refl
none_if (Some seat) e = absurd (omega (arith, e))

one_at : (o : Option ℕ) → o ≡ None → one_if o ≡ 0
one_at o e = ap one_if e

module _ (sheet : Sheet) (readable : IsSheet sheet) (m : Moment) (t : ℕ) where
  pub quiet_is : quiet_now sheet m t ≡ true → IsQuiet sheet m t
  unfolding quiet_now waiting_sum
  quiet_is e =
      let none : m.debt + one_if (first_low sheet (in_mid_course sheet m)) + total (backlog sheet m t) (length sheet.high) ≡ 0 = eqb-true _ 0 e in
      let all : total (backlog sheet m t) (length sheet.high) ≡ 0 = omega (arith, none) in
      record {
        nothing_owed = omega (arith, none);
        no_high_waits = none_waits_where sheet readable m t (all_none (backlog sheet m t) (length sheet.high) all);
        no_low_in_mid_course = none_if _ (omega (arith, none));
      }

  pub is_quiet : IsQuiet sheet m t → quiet_now sheet m t ≡ true
  unfolding quiet_now waiting_sum
  is_quiet q =
      let debt = q.nothing_owed in
      let low = one_at _ q.no_low_in_mid_course in
      let high = total_zero (backlog sheet m t) (length sheet.high) (no_backlog sheet readable m t q.no_high_waits) in
      eq-eqb _ 0 (omega (arith, debt, low, high))

  -- where a moment isn't quiet, something is owed, or a low operation is in mid-course, or a high job waits
  pub data Busy : Type 0 where
    owes : 0 < m.debt → Busy
    low_waits : (first_low sheet (in_mid_course sheet m) ≡ None → ⊥) → Busy
    high_waits : 1 ≤ total (backlog sheet m t) (length sheet.high) → Busy

  pub busy_is : quiet_now sheet m t ≡ false → Busy
  unfolding quiet_now waiting_sum
  busy_is e =
      let some = eqb-false _ 0 e in
      elim (cases_lt 0 m.debt) [
        | inl owed ↦ owes owed
        | inr not_owed ↦ by_low (first_low sheet (in_mid_course sheet m)) refl (λ none. some (omega (arith, none, not_owed)))
      ]
    where
      by_low : (o : Option ℕ) → first_low sheet (in_mid_course sheet m) ≡ o → (one_if (first_low sheet (in_mid_course sheet m)) + total (backlog sheet m t) (length sheet.high) ≡ 0 → ⊥) → Busy
      by_low None is some = high_waits (elim (cases_lt 0 (total (backlog sheet m t) (length sheet.high))) [
        | inl more ↦ omega (arith, more)
        | inr none ↦ absurd (some (omega (arith, none, one_at _ is)))
      ])
      by_low (Some seat) is some = low_waits (λ none. let e : ◌≡◌ {A = Option ℕ} (Some seat) None = sym is ∙ none in cc)

  -- where no high job is ready, no low operation is in mid-course and nothing is owed, the moment is quiet, and a tick of nobody
  -- leaves it so
  pub rests : NoHighReady sheet m t → NoLow sheet (in_mid_course sheet m) → m.debt ≡ 0 → IsQuiet sheet m t
  rests no_high no_low none = record {
    nothing_owed = none;
    no_high_waits = λ seat job ready high e lt. none_waits sheet readable m t no_high seat job ready high e (omega (arith, lt));
    no_low_in_mid_course = no_low.is;
  }

  pub rests_on : NoHighReady sheet m t → NoLow sheet (in_mid_course sheet m) → m.debt ≡ 0 → IsQuiet sheet (record m { idle = m.idle + 1 }) (suc t)
  unfolding in_mid_course
  rests_on no_high no_low none = record {
    nothing_owed = none;
    no_high_waits = none_waits sheet readable m t no_high;
    no_low_in_mid_course = no_low.is;
  }

-- THE START

module _ (g : Geometry) (sheet : Sheet) where
  none_mid : (seat : ℕ) → in_mid_course sheet (opening g sheet) seat ≡ false
  unfolding in_mid_course opening
  none_mid seat = ap (λ (c : Course). is_operation (need_of (task_at sheet seat).script c.walk) && nat_lt 0 c.spent) (get_or-replicate_same (length (tasks_of sheet)) seat no_course) ∙ never _
    where
      never : (b : Bool) → (b && false) ≡ false
      never true = refl
      never false = refl

  pub quiet_first : IsQuiet sheet (opening g sheet) 0
  unfolding opening
  quiet_first = record {
    nothing_owed = refl;
    no_high_waits = λ seat job ready high e lt. absurd (omega (arith, lt));
    no_low_in_mid_course = elim (first_low_law sheet (in_mid_course sheet (opening g sheet))) [
      | inl f ↦ absurd (let e : true ≡ false = sym f.1.passes ∙ none_mid f.0 in cc)
      | inr n ↦ n.is
    ];
  }
