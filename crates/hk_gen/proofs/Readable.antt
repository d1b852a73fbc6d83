-- A sheet with numbers in range can be read.
use Rattle.std.proofs.Common.{◌≡◌, refl, sym, ℕ, ◌+◌, ◌≤◌, true, true≢false, [], ◌∷◌, ◌++◌, codes, decimal, arith}
use Rattle.std.proofs.lemmas.Fmt.{decimal_digit}
use Rattle.hk_sheet.specs.Faults.{is_name}
use Rattle.hk_sheet.specs.Valid.{IsHigh, IsLow, AreDistinct, names_in, IsSheet}
use Rattle.hk_gen.specs.Made.{made_heap, high_task, low_task}
use Rattle.hk_gen.proofs.Statements.{high_is_script, low_is_script}
use Rattle.hk_gen.proofs.Times.{IsIn, AreTimes, AreArrived, sheet_by}

high_name : (i : ℕ) → is_name (104 ∷ (48 + i) ∷ []) ≡ true → i ≤ 9 → is_name (codes "h" ++ decimal i) ≡ true
high_name i named digit = rw (decimal_digit i (omega arith)) named

low_name : (i : ℕ) → is_name (108 ∷ (48 + i) ∷ []) ≡ true → i ≤ 9 → is_name (codes "l" ++ decimal i) ≡ true
low_name i named digit = rw (decimal_digit i (omega arith)) named

is_high : (i work period first : ℕ) → is_name (codes "h" ++ decimal i) ≡ true → i ≤ 4 → IsIn 51 70 (50 + work) → IsIn 400 1999 period → first ≤ 99 → IsHigh 200000 made_heap (high_task i work period first)
is_high i work period first named field cost long soon = record {
  name = named;
  timing = record {
    period = record { at_least = omega (arith, long.some); at_most = omega (arith, long.few) };
    deadline = record { at_least = omega (arith, long.some); at_most = omega arith };
    cost = record { at_least = omega arith; at_most = omega (arith, cost.few) };
    jitter = omega (arith, long.some);
  };
  words = omega arith;
  lag = omega arith;
  arrivals = (omega (arith, soon), record { at_least = omega (arith, long.some); at_most = omega (arith, long.few) }, omega arith);
  script = high_is_script i work field (omega (arith, cost.some)) (omega (arith, cost.few));
}

is_low : (i period first : ℕ) → is_name (codes "l" ++ decimal i) ≡ true → i ≤ 1 → IsIn 900 1199 period → first ≤ 99 → IsLow 200000 made_heap (low_task i period first)
is_low i period first named field long soon = record {
  name = named;
  arrivals = (omega (arith, soon), record { at_least = omega (arith, long.some); at_most = omega (arith, long.few) }, omega (arith, long.some));
  script = low_is_script (3 + i) (omega (arith, field));
}

module _ (w0 w1 w2 p0 p1 p2 f0 f1 f2 e0 e1 g0 g1 : ℕ) where
  distinct : AreDistinct (names_in (sheet_by w0 w1 w2 p0 p1 p2 f0 f1 f2 e0 e1 g0 g1))
  distinct =
      rw (decimal_digit 0 (omega arith), decimal_digit 1 (omega arith), decimal_digit 2 (omega arith))
      (λ e. true≢false (sym e), (λ e. true≢false (sym e), (λ e. true≢false (sym e), (λ e. true≢false (sym e), (λ e. true≢false (sym e), tt)))))

  pub readable : AreTimes (50 + w0) (50 + w1) (50 + w2) p0 p1 p2 → AreArrived f0 f1 f2 e0 e1 g0 g1 → IsSheet (sheet_by w0 w1 w2 p0 p1 p2 f0 f1 f2 e0 e1 g0 g1)
  readable t a = record {
    ticks = record { at_least = omega arith; at_most = omega arith };
    heap = record {
      live = omega arith;
      alloc = omega arith;
      reserve = omega arith;
      rate = record { at_least = omega arith; at_most = omega arith };
      refs = omega arith;
      nums = omega arith;
      breadth = refl;
    };
    high = (
      is_high 0 w0 p0 f0 (high_name 0 refl (omega arith)) (omega arith) t.first t.once a.first,
      (
        is_high 1 w1 p1 f1 (high_name 1 refl (omega arith)) (omega arith) t.second (record { some = omega (arith, t.twice.some); few = t.twice.few }) a.second,
        (is_high 2 w2 p2 f2 (high_name 2 refl (omega arith)) (omega arith) t.third (record { some = omega (arith, t.fourth.some); few = t.fourth.few }) a.third, tt),
      ),
    );
    low = (
      is_low 0 e0 g0 (low_name 0 refl (omega arith)) (omega arith) a.fourth a.low_first,
      (is_low 1 e1 g1 (low_name 1 refl (omega arith)) (omega arith) a.fifth a.low_second, tt),
    );
    names = distinct;
    geometry = refl;
  }
