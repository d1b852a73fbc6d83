use Rattle.std.proofs.Common.{◌+◌, ◌*◌, ℕ, ap, sym, ◌∙◌, arith}
use Rattle.hk_io.proofs.Digits.{small_so_far, one_more}
use Rattle.hk_io.proofs.decimal.digits_of.Goals as goal

pub overflow_mul-value : goal.overflow_mul-value
overflow_mul-value c =
    let small = small_so_far c.args.word.now c.loop-byte.byte-index (omega arith) c.requires c.loop-byte.invariant.0 in
    omega (arith, small, c.loop-byte.invariant.1)

pub overflow_add-value : goal.overflow_add-value
overflow_add-value c =
    let small = small_so_far c.args.word.now c.loop-byte.byte-index (omega arith) c.requires c.loop-byte.invariant.0 in
    omega (arith, small, c.loop-byte.invariant.1)

pub loop-byte-preserved : goal.loop-byte-preserved
loop-byte-preserved c =
    let digit = sym c.is_ascii_digit.ensures.value ∙ c.if-not-is_ascii_digit.false in
    let more = one_more c.args.word.now c.loop-byte.byte-index (omega arith) c.loop-byte.invariant.0 digit in
    (more.digits, rw (more.value, ← c.loop-byte.invariant.1) (ap (λ (n : ℕ). c.loop-byte.value * 10 + n) c.from.ensures))
