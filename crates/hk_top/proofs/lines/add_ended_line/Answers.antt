-- The parts of the line, one behind another.
use Rattle.hk_top.proofs.InPlace.{ended_parts}
use Rattle.hk_top.proofs.lines.add_ended_line.Goals as goal

pub returns : goal.returns
returns c =
    rw (c.add_end.ensures, c.add_next_number-3.ensures.added, c.add_next_number-2.ensures.added, c.add_next_word.ensures.added, c.add_next_number.ensures.added, c.add.ensures)
    (ended_parts c.args.gather.now c.args.tick c.args.name.now c.args.job c.args.ticks)
