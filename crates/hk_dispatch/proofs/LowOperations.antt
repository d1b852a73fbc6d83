-- The low operation in mid-course: there is one at most, and none while an attempt goes on that wasn't met.
use Rattle.std.proofs.Common.{◌≡◌, ◌≢◌, ℕ, suc, ◌<◌, Bool, true, false, List, length, sym, ◌∙◌, ap, subst, arith, inl, inr}
use Rattle.std.proofs.lemmas.Bool.{cases_eq}
use Rattle.std.specs.Prelude.{nat_lt, ◌&&◌, slice_index_or}
use Rattle.hk_script.specs.Walks.{need_of}
use Rattle.hk_sheet.specs.declared.sheet.Sheet.{Sheet}
use Rattle.hk_sheet.specs.Valid.{IsSheet}
use Rattle.hk_collect.specs.Runs.{in_attempt}
use Rattle.hk_dispatch.specs.Tasks.{IsLowSeat, task_at}
use Rattle.hk_dispatch.specs.Moment.{Course, Moment, no_course, core_of, course_at}
use Rattle.hk_dispatch.specs.Turns.{is_operation, in_mid_course, first_low}
use Rattle.hk_dispatch.specs.Ticks.{after_task}
use Rattle.hk_dispatch.specs.Kept.{OneLow, AttemptFresh}
use Rattle.hk_dispatch.proofs.Courses.{other_course}
use Rattle.hk_dispatch.specs.Rules.{NoHighReady, NoLow, ToOperation, ToLow}
use Rattle.hk_dispatch.proofs.ReadyMoments.{none_waits}

-- whether an operation is in mid-course, by the courses
mid_by : (sheet : Sheet) (m n : Moment) (seat : ℕ) → course_at n seat ≡ course_at m seat → in_mid_course sheet n seat ≡ in_mid_course sheet m seat
unfolding in_mid_course
mid_by sheet m n seat e = ap (λ (c : Course). is_operation (need_of (task_at sheet seat).script c.walk) && nat_lt 0 c.spent) e

-- a tick that changes no course
module _ (sheet : Sheet) (m n : Moment) (same : n.courses ≡ m.courses) where
  course_same : (seat : ℕ) → course_at n seat ≡ course_at m seat
  course_same seat = ap (λ (cs : List Course). slice_index_or cs seat no_course) same

  pub one_low_waits : OneLow sheet m → OneLow sheet n
  one_low_waits one a b la lb ma mb = one a b la lb (sym (mid_by sheet m n a (course_same a)) ∙ ma) (sym (mid_by sheet m n b (course_same b)) ∙ mb)

  -- of the collector, or of nobody: no high job is ready and no low operation is in mid-course
  pub attempt_fresh : IsSheet sheet → (t : ℕ) (met_now : Bool) → NoHighReady sheet m t → NoLow sheet (in_mid_course sheet m) → AttemptFresh sheet n met_now (suc t)
  attempt_fresh readable t met_now no_high no_low = record {
    high = λ o met_not seat job ready high e lt. subst (λ (c : Course). job < c.job) (sym (course_same seat)) (none_waits sheet readable m t no_high seat job ready high e lt);
    low = λ o met_not. ap (first_low sheet) (λ k s. mid_by sheet m n s (course_same s) k) ∙ no_low.is;
  }

-- after a tick of a task an open attempt was met
pub attempt_met : (sheet : Sheet) (n : Moment) (t : ℕ) → AttemptFresh sheet n (in_attempt (core_of n).spot.line) t
attempt_met sheet n t = record {
  high = λ o met_not. absurd (let e : true ≡ false = sym o ∙ met_not in cc);
  low = λ o met_not. absurd (let e : true ≡ false = sym o ∙ met_not in cc);
}

module _ (sheet : Sheet) (m : Moment) (t seat : ℕ) (one : OneLow sheet m) where
  abbrev n : Moment
  n = after_task sheet m t seat

  before : (a : ℕ) → a ≢ seat → in_mid_course sheet n a ≡ true → in_mid_course sheet m a ≡ true
  before a differs e = sym (mid_by sheet m n a (other_course sheet m t seat a differs)) ∙ e

  -- where each low operation in mid-course afterwards is that of the seat
  own : ((a : ℕ) → IsLowSeat sheet a → in_mid_course sheet n a ≡ true → a ≡ seat) → OneLow sheet n
  own only a b la lb ma mb = only a la ma ∙ sym (only b lb mb)

  pub one_low_high : seat < length sheet.high → OneLow sheet n
  one_low_high high a b la lb ma mb = one a b la lb (before a (apart a la) ma) (before b (apart b lb) mb)
    where
      apart : (c : ℕ) → IsLowSeat sheet c → c ≢ seat
      apart c low e = let from = low.from in omega (arith, e, from, high)

  pub one_low_operation : ToOperation sheet m t seat → OneLow sheet n
  one_low_operation f = own (λ a la ma. elim (cases_eq a seat) [
    | inl same ↦ same
    | inr differs ↦ one a seat la f.first.low (before a differs ma) f.first.passes
  ])

  pub one_low_low : ToLow sheet m t seat → OneLow sheet n
  one_low_low f = own (λ a la ma. elim (cases_eq a seat) [
    | inl same ↦ same
    | inr differs ↦ absurd (let e : true ≡ false = sym (before a differs ma) ∙ f.no_operation.fails a la in cc)
  ])
