use Rattle.std.proofs.Common.{ap, arith}
use Rattle.hk_race.proofs.Coming.{text_more, text_whole}
use Rattle.hk_race.proofs.competing.text_of.Goals as goal

pub loop-seat-preserved : goal.loop-seat-preserved
loop-seat-preserved c = λ g history agree.
    text_more c.args.sheet.now g history c.args.told.now c.loop-seat.seat c.loop-seat.text.items c.tell.new.text.items c.task_at-task.result.name.now c.index-told-seat.result
    agree (omega (arith, c.loop-seat-test.true)) c.index-told-seat.is (ap (λ t. t.name) c.task_at-task.ensures.shown) (c.loop-seat.invariant g history agree) c.in_ok-tell.ensures

pub returns : goal.returns
returns c = λ g history agree.
    text_whole c.args.sheet.now g history c.args.live c.declared.result c.loop-seat.seat c.loop-seat.text.items c.tell_end.new.text.items
    (omega (arith, c.loop-seat-test.false, c.loop-seat.auto.seat-end, c.requires.count)) c.declared.ensures (c.loop-seat.invariant g history agree) c.in_ok-tell_end.ensures
