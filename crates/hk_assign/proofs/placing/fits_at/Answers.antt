use Rattle.std.proofs.Common.{sym, subst, All, arith}
use Rattle.std.specs.List.{remove}
use Rattle.std.proofs.lemmas.List.Edits.{length-remove}
use Rattle.hk_rta.specs.Demand.{IsTimed}
use Rattle.hk_assign.proofs.Rows.{rotated, all_timed, turned_tasks, last_answer}
use Rattle.hk_assign.proofs.placing.fits_at.Goals as goal

pub response-requires-clause-timed : goal.response-requires-clause-timed
response-requires-clause-timed c =
    subst (All IsTimed) (sym (rotated c.args.timings.now _ c.rotate_left.new.self c.args.free.now c.args.place _ c.row-row.ensures c.requires.within (omega arith) c.rotate_left.ensures.after))
    (all_timed c.args.timings.now _ c.requires.timed (turned_tasks _ c.args.free.now c.args.place c.requires.within c.requires.tasks))

pub returns : goal.returns
returns c =
    let is = rotated c.args.timings.now _ c.rotate_left.new.self c.args.free.now c.args.place _ c.row-row.ensures c.requires.within (omega arith) c.rotate_left.ensures.after in
    let shorter = length-remove c.args.free.now c.args.place c.requires.within in
    rw (c.is_some.ensures) (last_answer c.args.timings.now _ (remove c.args.free.now c.args.place) _ _ c.response.result is (omega arith) c.response.ensures.found c.response.ensures.in_time c.response.ensures.none)
