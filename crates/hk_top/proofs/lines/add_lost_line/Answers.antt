-- The parts of the line, one behind another.
use Rattle.hk_top.proofs.InPlace.{lost_parts}
use Rattle.hk_top.proofs.lines.add_lost_line.Goals as goal

pub returns : goal.returns
returns c =
    rw (c.add_end.ensures, c.add_next_number.ensures.added, c.add_next_word.ensures.added, c.add_tick.ensures.added)
    (lost_parts c.args.gather.now c.args.tick c.args.events)
