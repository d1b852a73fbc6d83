-- What a tick says, one part behind another.
use Rattle.std.proofs.Common.{refl}
use Rattle.std.proofs.lemmas.Result.{err_from_is_err_and, on_ok_weaker, on_err_weaker}
use Rattle.hk_top.specs.Report.{who_text, out_text, fault_text, ended_text, traced, voiced}
use Rattle.hk_top.proofs.Four.{four_first, four_second, four_third, four_last, four_all}
use Rattle.hk_top.proofs.ReportParts.{tick_parts}
use Rattle.hk_top.proofs.report.write_tick.Goals as goal

pub returns-in_err-write_who-clause-prefix : goal.returns-in_err-write_who-clause-prefix
returns-in_err-write_who-clause-prefix g c =
    let f = c.args.form in
    let at = c.args.tick in
    let name = c.name_of-name.result.now in
    let who = traced f (who_text c.args.sheet.now at c.args.ran.0) in
    let out = voiced f (out_text at name c.args.ran.1) in
    let fault = voiced f (fault_text at name c.args.ran.2) in
    let ended = traced f (ended_text at name c.args.ran.2) in
    let whole = tick_parts f c.args.sheet.now at c.args.ran.0 c.args.ran.1 c.args.ran.2 (who_text c.args.sheet.now at c.args.ran.0) name refl c.name_of-name.ensures.name in
    let p = err_from_is_err_and c.from_residual.result c.from_residual.ensures.1 in
    rw p.1 (four_first _ _ c.args.gather.now who out fault ended _ whole c.in_err-write_who.ensures.prefix)

pub returns-in_err-write_out-clause-prefix : goal.returns-in_err-write_out-clause-prefix
returns-in_err-write_out-clause-prefix g c =
    let f = c.args.form in
    let at = c.args.tick in
    let name = c.name_of-name.result.now in
    let who = traced f (who_text c.args.sheet.now at c.args.ran.0) in
    let out = voiced f (out_text at name c.args.ran.1) in
    let fault = voiced f (fault_text at name c.args.ran.2) in
    let ended = traced f (ended_text at name c.args.ran.2) in
    let whole = tick_parts f c.args.sheet.now at c.args.ran.0 c.args.ran.1 c.args.ran.2 (who_text c.args.sheet.now at c.args.ran.0) name refl c.name_of-name.ensures.name in
    let p = err_from_is_err_and c.from_residual-in_err-write_out.result c.from_residual-in_err-write_out.ensures.1 in
    rw p.1 (four_second _ _ c.args.gather.now who out fault ended _ whole _ _ c.in_ok-write_who.ensures.ok c.in_err-write_out.ensures.prefix)

pub returns-in_err-write_fault-clause-prefix : goal.returns-in_err-write_fault-clause-prefix
returns-in_err-write_fault-clause-prefix g c =
    let f = c.args.form in
    let at = c.args.tick in
    let name = c.name_of-name.result.now in
    let who = traced f (who_text c.args.sheet.now at c.args.ran.0) in
    let out = voiced f (out_text at name c.args.ran.1) in
    let fault = voiced f (fault_text at name c.args.ran.2) in
    let ended = traced f (ended_text at name c.args.ran.2) in
    let whole = tick_parts f c.args.sheet.now at c.args.ran.0 c.args.ran.1 c.args.ran.2 (who_text c.args.sheet.now at c.args.ran.0) name refl c.name_of-name.ensures.name in
    let p = err_from_is_err_and c.from_residual-in_err-write_fault.result c.from_residual-in_err-write_fault.ensures.1 in
    rw p.1 (four_third _ _ c.args.gather.now who out fault ended _ whole _ _ c.in_ok-write_who.ensures.ok _ _ c.in_ok-write_out.ensures.ok c.in_err-write_fault.ensures.prefix)

pub returns-clause-ok : goal.returns-clause-ok
returns-clause-ok g c =
    let f = c.args.form in
    let at = c.args.tick in
    let name = c.name_of-name.result.now in
    let who = traced f (who_text c.args.sheet.now at c.args.ran.0) in
    let out = voiced f (out_text at name c.args.ran.1) in
    let fault = voiced f (fault_text at name c.args.ran.2) in
    let ended = traced f (ended_text at name c.args.ran.2) in
    let whole = tick_parts f c.args.sheet.now at c.args.ran.0 c.args.ran.1 c.args.ran.2 (who_text c.args.sheet.now at c.args.ran.0) name refl c.name_of-name.ensures.name in
    on_ok_weaker c.write_ended.result
    (four_all _ _ c.args.gather.now who out fault ended _ whole _ _ c.in_ok-write_who.ensures.ok _ _ c.in_ok-write_out.ensures.ok _ _ c.in_ok-write_fault.ensures.ok _) c.write_ended.ensures.ok

pub returns-clause-prefix : goal.returns-clause-prefix
returns-clause-prefix g c =
    let f = c.args.form in
    let at = c.args.tick in
    let name = c.name_of-name.result.now in
    let who = traced f (who_text c.args.sheet.now at c.args.ran.0) in
    let out = voiced f (out_text at name c.args.ran.1) in
    let fault = voiced f (fault_text at name c.args.ran.2) in
    let ended = traced f (ended_text at name c.args.ran.2) in
    let whole = tick_parts f c.args.sheet.now at c.args.ran.0 c.args.ran.1 c.args.ran.2 (who_text c.args.sheet.now at c.args.ran.0) name refl c.name_of-name.ensures.name in
    on_err_weaker c.write_ended.result
    (four_last _ _ c.args.gather.now who out fault ended _ whole _ _ c.in_ok-write_who.ensures.ok _ _ c.in_ok-write_out.ensures.ok _ _ c.in_ok-write_fault.ensures.ok) c.write_ended.ensures.prefix
