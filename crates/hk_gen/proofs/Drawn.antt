-- The numbers that are drawn are in range, whatever the number.
use Rattle.std.proofs.Common.{◌≡◌, ℕ, ◌+◌, ◌*◌, ◌^◌, ◌<◌, ◌≤◌, arith}
use Rattle.std.proofs.lemmas.Nat.{mod_below}
use Rattle.hk_sheet.specs.Valid.{IsSheet}
use Rattle.hk_admit.specs.declared.refused.Refused.{Refused}
use Rattle.hk_admit.specs.declared.refused.Refused.TheVariants.{Memory}
use Rattle.hk_admit.specs.Refusals.{IsRefusal}
use Rattle.hk_admit.proofs.Excluded.{admitted_excludes}
use Rattle.hk_gen.specs.Admission.{IsAdmitted}
use Rattle.hk_words.specs.Draws.{draw}
use Rattle.hk_gen.specs.Made.{after, made}
use Rattle.hk_gen.proofs.Admissible.{admitted}
use Rattle.hk_gen.proofs.Readable.{readable}
use Rattle.hk_gen.proofs.Times.{IsIn, AreTimes, AreArrived}

-- a draw is below its limit
below : (limit state : ℕ) → 0 < limit → draw limit state < limit
below limit state some = mod_below _ limit some

-- the numbers of a high task that is drawn from a state, and those of a low one
abbrev work : (state : ℕ) → ℕ
work state = 1 + draw 20 state

abbrev period : (i state : ℕ) → ℕ
period i state = 400 * 2 ^ i + draw (100 * 2 ^ i) (after 1 state)

abbrev first : (state : ℕ) → ℕ
first state = draw 100 (after 2 state)

abbrev low_period : (state : ℕ) → ℕ
low_period state = 900 + draw 300 state

abbrev low_first : (state : ℕ) → ℕ
low_first state = draw 100 (after 1 state)

cost_in : (state : ℕ) → IsIn 51 70 (50 + work state)
cost_in state = record { some = omega arith; few = omega (arith, below 20 state (omega arith)) }

first_in : (state : ℕ) → first state ≤ 99
first_in state = omega (arith, below 100 (after 2 state) (omega arith))

low_period_in : (state : ℕ) → IsIn 900 1199 (low_period state)
low_period_in state = record { some = omega arith; few = omega (arith, below 300 state (omega arith)) }

low_first_in : (state : ℕ) → low_first state ≤ 99
low_first_in state = omega (arith, below 100 (after 1 state) (omega arith))

times : (n : ℕ) → AreTimes (50 + work n) (50 + work (after 3 n)) (50 + work (after 6 n)) (period 0 n) (period 1 (after 3 n)) (period 2 (after 6 n))
times n = record {
  first = cost_in n;
  second = cost_in (after 3 n);
  third = cost_in (after 6 n);
  once = record { some = omega arith; few = omega (arith, below 100 (after 1 n) (omega arith)) };
  twice = record { some = omega arith; few = omega (arith, below 200 (after 4 n) (omega arith)) };
  fourth = record { some = omega arith; few = omega (arith, below 400 (after 7 n) (omega arith)) };
}

arrived : (n : ℕ) → AreArrived (first n) (first (after 3 n)) (first (after 6 n)) (low_period (after 9 n)) (low_period (after 11 n)) (low_first (after 9 n)) (low_first (after 11 n))
arrived n = record {
  first = first_in n;
  second = first_in (after 3 n);
  third = first_in (after 6 n);
  fourth = low_period_in (after 9 n);
  fifth = low_period_in (after 11 n);
  low_first = low_first_in (after 9 n);
  low_second = low_first_in (after 11 n);
}

-- each sheet that is made can be read
pub made_readable : (n : ℕ) → IsSheet (made n)
unfolding made
made_readable n =
    readable (work n) (work (after 3 n)) (work (after 6 n)) (period 0 n) (period 1 (after 3 n)) (period 2 (after 6 n))
    (first n) (first (after 3 n)) (first (after 6 n)) (low_period (after 9 n)) (low_period (after 11 n)) (low_first (after 9 n)) (low_first (after 11 n))
    (times n) (arrived n)

-- and is admitted
pub made_admitted : (n : ℕ) → IsAdmitted (made n) 16813 34 649 359 210
unfolding made
made_admitted n =
    admitted (work n) (work (after 3 n)) (work (after 6 n)) (period 0 n) (period 1 (after 3 n)) (period 2 (after 6 n))
    (first n) (first (after 3 n)) (first (after 6 n)) (low_period (after 9 n)) (low_period (after 11 n)) (low_first (after 9 n)) (low_first (after 11 n))
    (times n) (arrived n)

-- so there is no refusal but want of memory
pub made_unrefused : (n : ℕ) (refused : Refused) → IsRefusal (made n) refused → refused ≡ Memory
made_unrefused n refused is =
    let a = made_admitted n in
    admitted_excludes (made n) 16813 34 a.busy a.debt a.responses refused a.checked a.in_time is
