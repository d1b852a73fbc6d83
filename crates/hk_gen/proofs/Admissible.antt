-- A sheet with numbers in range is admitted.
use Rattle.std.proofs.Common.{◌≡◌, refl, ℕ, ◌+◌, ◌≤◌, Bool, false, leb, ltb, arith}
use Rattle.std.proofs.Math.Nat.{mul-le-mul_right}
use Rattle.std.proofs.lemmas.Bool.Decides.{nat_tests}
use Rattle.hk_script.specs.Cost.{told}
use Rattle.hk_sheet.specs.declared.sheet.Sheet.{Sheet}
use Rattle.hk_admit.specs.Analysis.{most_owed}
use Rattle.hk_admit.specs.Conditions.{exceeds, is_too_long, is_too_large, KeepsToDeclared}
use Rattle.hk_gen.specs.Admission.{IsAdmitted}
use Rattle.hk_gen.specs.Made.{high_task}
use Rattle.hk_gen.proofs.BusyPeriod.{FoundBusy, found_busy}
use Rattle.hk_gen.proofs.Readable.{readable}
use Rattle.hk_gen.proofs.Responses.{responses, are_responses, responses_few}
use Rattle.hk_gen.proofs.Statements.{high_ticks, high_words}
use Rattle.hk_gen.proofs.Times.{IsIn, AreTimes, AreArrived, sheet_by}

-- what is needed is what is declared
not_more : (n : ℕ) → n ≤ 70 → exceeds (told n) n ≡ false
not_more n few =
    let fits : leb n 16777216 ≡ Bool.true = grind (arith, nat_tests) in
    let same : ltb n n ≡ false = grind (arith, nat_tests) in
    rw (fits, same) refl

keeps_ticks : (i work period first : ℕ) → IsIn 51 70 (50 + work) → is_too_long (high_task i work period first) ≡ false
keeps_ticks i work period first cost = rw (high_ticks i work) (not_more (50 + work) cost.few)

keeps_words : (i work period first : ℕ) → is_too_large (high_task i work period first) ≡ false
keeps_words i work period first = rw (high_words i work) refl

module _ (w0 w1 w2 p0 p1 p2 f0 f1 f2 e0 e1 g0 g1 : ℕ) (t : AreTimes (50 + w0) (50 + w1) (50 + w2) p0 p1 p2) where
  abbrev sheet : Sheet
  sheet = sheet_by w0 w1 w2 p0 p1 p2 f0 f1 f2 e0 e1 g0 g1

  keeps : KeepsToDeclared sheet.high
  keeps = record {
    ticks = rw (keeps_ticks 0 w0 p0 f0 t.first, keeps_ticks 1 w1 p1 f1 t.second, keeps_ticks 2 w2 p2 f2 t.third) refl;
    words = rw (keeps_words 0 w0 p0 f0, keeps_words 1 w1 p1 f1, keeps_words 2 w2 p2 f2) refl;
  }

  -- what is owed in the busy period: the first task comes at most twice in it, and the others once
  owed : (b : FoundBusy (50 + w0) (50 + w1) (50 + w2) p0 p1 p2) → most_owed sheet b.length ≤ 359
  owed b = omega (arith, mul-le-mul_right 70 b.firsts, b.seconds, b.thirds)

  pub admitted : AreArrived f0 f1 f2 e0 e1 g0 g1 → IsAdmitted sheet 16813 34 649 359 210
  admitted a =
      let b = found_busy (50 + w0) (50 + w1) (50 + w2) p0 p1 p2 t in
      record {
        busy = b.length;
        debt = most_owed sheet b.length;
        responses = responses (50 + w0) (50 + w1) (50 + w2) p0 p1 p2 t;
        checked = record {
          readable = readable w0 w1 w2 p0 p1 p2 f0 f1 f2 e0 e1 g0 g1 t a;
          declared = keeps;
          work_is = refl;
          attempt_is = refl;
          busy_is = record { least = b.busy; short = omega (arith, b.short) };
          debt_is = refl;
          rate = omega arith;
          reserve = omega (arith, owed b);
        };
        in_time = are_responses (50 + w0) (50 + w1) (50 + w2) p0 p1 p2 t;
        short_busy = b.short;
        small_debt = owed b;
        short_responses = responses_few (50 + w0) (50 + w1) (50 + w2) p0 p1 p2 t;
      }
