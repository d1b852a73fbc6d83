use Rattle.std.proofs.Common.{sym, arith}
use Rattle.std.specs.Prelude.{◌==◌}
use Rattle.std.proofs.lemmas.Bool.Decides.{nat_tests}
use Rattle.std.proofs.lemmas.List.Sums.{position_or_len_is}
use Rattle.hk_replay.proofs.lex.end_of.Goals as goal

pub returns-then-byte-eq10-clause-place : goal.returns-then-byte-eq10-clause-place
returns-then-byte-eq10-clause-place c =
    sym (position_or_len_is (λ x. x == 10) c.args.bytes.now c.loop-place.place 0 (omega arith) c.loop-place.invariant (λ h. grind (arith, nat_tests, c.if-byte-eq10.true)))

pub returns-clause-place : goal.returns-clause-place
returns-clause-place c =
    sym (position_or_len_is (λ x. x == 10) c.args.bytes.now _ 0 (omega arith) (λ k lt. c.loop-place.invariant k (omega arith)) (λ h. absurd (omega arith)))
