-- The second digit, and then the first in front of it.
use Rattle.std.proofs.Common.{◌≡◌, ◌+◌, ◌%◌, set, arith, length-set}
use Rattle.std.proofs.lemmas.List.{set_comm, drop-set}
use Rattle.hk_io.proofs.spelling.write_pair.Goals as goal

pub returns-clause-written : goal.returns-clause-written
returns-clause-written c =
    let at = c.args.at in
    let bytes = c.args.bytes.now in
    let last = 48 + c.args.pair % 10 in
    let e : at + 1 + 1 ≡ at + 2 = omega arith in
    rw (set_comm bytes at (at + 1) _ _ (λ x. omega arith), drop-set (set bytes (at + 1) last) at _ (omega (arith, length-set bytes (at + 1) last)), drop-set bytes (at + 1) _ (omega arith), e)
