-- The parts of the line, one behind another.
use Rattle.hk_top.proofs.InPlace.{task_parts}
use Rattle.hk_top.proofs.lines.add_task_line.Goals as goal

pub returns : goal.returns
returns c =
    rw (c.add_end.ensures, c.add_next_word-2.ensures.added, c.add_next_word.ensures.added, c.add_tick.ensures.added)
    (task_parts c.args.gather.now c.args.tick c.args.kind.now c.args.name.now)
