-- Room was made, and the line added.
use Rattle.std.proofs.Common.{refl}
use Rattle.std.proofs.lemmas.Result.{err_from_is_err_and}
use Rattle.hk_io.proofs.BytesLemmas.{AppendsPrefix-append}
use Rattle.hk_top.specs.Text.{fault_line}
use Rattle.hk_top.proofs.Written.{front_more}
use Rattle.hk_top.proofs.report.put_fault.Goals as goal

pub returns-in_err-make_room-clause-prefix : goal.returns-in_err-make_room-clause-prefix
returns-in_err-make_room-clause-prefix g c =
    let text = fault_line c.args.tick c.args.name.now c.args.job c.args.fault.statement c.args.fault.nil in
    let p = err_from_is_err_and c.from_residual.result c.from_residual.ensures.1 in
    rw p.1 (AppendsPrefix-append (g.K.Sink.taken c.args.sink.now) (g.K.Sink.taken c.make_room.new.sink) c.args.gather.now text c.in_err-make_room.ensures.prefix)

pub returns-clause-ok : goal.returns-clause-ok
returns-clause-ok g c =
    let text = fault_line c.args.tick c.args.name.now c.args.job c.args.fault.statement c.args.fault.nil in
    front_more (g.K.Sink.taken c.args.sink.now) (g.K.Sink.taken c.make_room.new.sink) c.args.gather.now c.make_room.new.self text c.add_fault_line.new.gather text
    c.in_ok-make_room.ensures.ok c.add_fault_line.ensures refl
