use Rattle.std.proofs.Common.{◌∙◌, arith, ap, subst, length}
use Rattle.hk_dispatch.specs.Tasks.{Task}
use Rattle.hk_dispatch.specs.Moment.{no_course}
use Rattle.hk_dispatch.specs.TaskRuns.{ShowsCourse}
use Rattle.hk_dispatch.proofs.Started.{start_more, starts_all}
use Rattle.hk_dispatch.proofs.seats.start_all.Goals as goal

pub loop-seat-init : goal.loop-seat-init
loop-seat-init c = record { all = ap length c.new-tasks.ensures.items; each = λ seat d lt. absurd (omega (arith, lt)) }

pub loop-seat-preserved : goal.loop-seat-preserved
loop-seat-preserved c =
    let i = c.loop-seat.invariant in
    let items = c.in_ok-push.ensures.items in
    let own = subst (λ (task : Task). ShowsCourse task no_course c.start.result) c.task_at.ensures c.start.ensures in
    let more = start_more c.args.sheet.now c.loop-seat.tasks.items c.loop-seat.seat c.start.result i.all i.each own in
    record { all = ap length items ∙ more.0; each = λ seat d lt. rw items (more.1 seat d lt) }

pub returns : goal.returns
returns c =
    let i = c.loop-seat.invariant in
    let far = c.loop-seat.auto.seat-end in
    starts_all c.args.sheet.now c.loop-seat.tasks.items c.loop-seat.seat (omega arith) i.all i.each
