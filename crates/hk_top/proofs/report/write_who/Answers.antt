-- Room was made, and the line added.
use Rattle.std.proofs.Common.{ap}
use Rattle.std.proofs.lemmas.Result.{err_from_is_err_and}
use Rattle.hk_io.proofs.BytesLemmas.{AppendsPrefix-append}
use Rattle.hk_top.specs.Report.{who_text, traced}
use Rattle.hk_top.proofs.Written.{front_more}
use Rattle.hk_top.proofs.report.write_who.Goals as goal

pub returns-in_err-make_room-in-Trace-clause-prefix : goal.returns-in_err-make_room-in-Trace-clause-prefix
returns-in_err-make_room-in-Trace-clause-prefix g c =
    let text = traced c.args.form (who_text c.args.sheet.now c.args.tick c.args.who) in
    let p = err_from_is_err_and c.from_residual.result c.from_residual.ensures.1 in
    rw p.1 (AppendsPrefix-append (g.K.Sink.taken c.args.sink.now) (g.K.Sink.taken c.make_room.new.sink) c.args.gather.now text c.in_err-make_room-in-Trace.ensures.prefix)

pub returns-in_ok-make_room-in-Trace-clause-ok : goal.returns-in_ok-make_room-in-Trace-clause-ok
returns-in_ok-make_room-in-Trace-clause-ok g c =
    let who = who_text c.args.sheet.now c.args.tick c.args.who in
    front_more (g.K.Sink.taken c.args.sink.now) (g.K.Sink.taken c.make_room.new.sink) c.args.gather.now c.make_room.new.self who c.add_who.new.gather (traced c.args.form who)
    c.in_ok-make_room-in-Trace.ensures.ok c.add_who.ensures (ap (λ f. traced f who) c.in-Trace.is)
