-- Two digits more in front of those that are written.
use Rattle.std.proofs.Common.{◌≡◌, ℕ, ◌+◌, ◌-◌, ◌≤◌, List, take, sym, ap, ◌∙◌, arith, append_assoc, take-take}
use Rattle.hk_io.proofs.DecimalDigits.{decimal_pair, length_pair}
use Rattle.hk_io.proofs.spelling.write_digits.Goals as goal

shorter : (m n : ℕ) (xs ys : List ℕ) → m ≤ n → take n xs ≡ take n ys → take m xs ≡ take m ys
shorter m n xs ys within same = sym (take-take m n xs within) ∙ ap (take m) same ∙ take-take m n ys within

pub overflow_sub-at : goal.overflow_sub-at
overflow_sub-at c = omega (arith, length_pair c.loop-left.left c.loop-left-test.true c.loop-left.auto.left-fits.fits)

pub write_pair-requires : goal.write_pair-requires
write_pair-requires c = omega (arith, length_pair c.loop-left.left c.loop-left-test.true c.loop-left.auto.left-fits.fits)

pub overflow_sub-at-in-loop-left : goal.overflow_sub-at-in-loop-left
overflow_sub-at-in-loop-left c = omega (arith, length_pair c.loop-left.left c.loop-left-test.true c.loop-left.auto.left-fits.fits)

pub loop-left-preserved : goal.loop-left-preserved
loop-left-preserved c =
    let l = c.loop-left in
    let long = length_pair l.left c.loop-left-test.true l.auto.left-fits.fits in
    let e : l.at - 2 + 2 ≡ l.at = omega arith in (
      omega arith,
      omega arith,
      omega arith,
      rw (c.write_pair.ensures.written, e) (rw (decimal_pair l.left c.loop-left-test.true l.auto.left-fits.fits, append_assoc) at l.invariant.3),
      c.write_pair.ensures.before ∙ shorter (l.at - 2) l.at _ _ (omega arith) l.invariant.4,
    )

pub returns-clause-before : goal.returns-clause-before
returns-clause-before c =
    let l = c.loop-left in
    c.write_first.ensures.before ∙ shorter c.write_first.result l.at _ _ (omega (arith, c.write_first.ensures.start)) l.invariant.4
