-- The parts of the line, one behind another.
use Rattle.hk_top.proofs.InPlace.{out_parts}
use Rattle.hk_top.proofs.lines.add_out_line.Goals as goal

pub returns : goal.returns
returns c =
    rw (c.add_end.ensures, c.add_next_number-2.ensures.added, c.add_next_word.ensures.added, c.add_next_number.ensures.added, c.add.ensures)
    (out_parts c.args.gather.now c.args.tick c.args.name.now c.args.value)
