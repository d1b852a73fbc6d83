-- The words of a script's fault that has no line.
use Rattle.std.proofs.Common.{sym, ap}
use Rattle.hk_front.specs.Refusals.{script_line}
use Rattle.hk_front.proofs.WordLemmas.{put_as}
use Rattle.hk_front.proofs.refusals.put_script_error.Goals as goal

pub returns-in-Long : goal.returns-in-Long
returns-in-Long g c =
    put_as _ _ _ _ _ _ _ (ap (script_line c.args.task.now) (sym c.in-Long.is)) c.put_line.ensures.ok c.put_line.ensures.prefix c.put_line.ensures.cause

pub returns-in-Empty : goal.returns-in-Empty
returns-in-Empty g c =
    put_as _ _ _ _ _ _ _ (ap (script_line c.args.task.now) (sym c.in-Empty.is))
    c.put_line-in-Empty.ensures.ok c.put_line-in-Empty.ensures.prefix c.put_line-in-Empty.ensures.cause

pub returns-in-Memory : goal.returns-in-Memory
returns-in-Memory g c =
    put_as _ _ _ _ _ _ _ (ap (script_line c.args.task.now) (sym c.in-Memory.is))
    c.put_line-in-Memory.ensures.ok c.put_line-in-Memory.ensures.prefix c.put_line-in-Memory.ensures.cause
