use Rattle.std.proofs.Common.{arith}
use Rattle.hk_replay.proofs.Lines.{cut_at, not_cut}
use Rattle.hk_replay.proofs.lex.first_line.Goals as goal

pub returns-then-end-text-clause-lines : goal.returns-then-end-text-clause-lines
returns-then-end-text-clause-lines c = cut_at c.args.text.now c.end_of-end.result c.end_of-end.ensures.place (omega arith)

pub returns-else-end-text-clause-lines : goal.returns-else-end-text-clause-lines
returns-else-end-text-clause-lines c = not_cut c.args.text.now c.end_of-end.result c.end_of-end.ensures.place (omega arith) c.requires
