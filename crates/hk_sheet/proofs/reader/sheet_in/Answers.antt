use Rattle.std.proofs.Common.{◌≡◌, subst, sym, ◌∙◌}
use Rattle.std.proofs.lemmas.Result.{err_from_is_err_and}
use Rattle.toml.specs.View.{table_view}
use Rattle.hk_sheet.specs.Reading.{sheet_in}
use Rattle.hk_sheet.specs.Code.{Gives}
use Rattle.hk_sheet.specs.Faults.{fault_of}
use Rattle.hk_sheet.specs.Raw.{judged_fault}
use Rattle.hk_sheet.proofs.FaultOrder.{skip, stop}
use Rattle.hk_sheet.proofs.RawFaults.{judged-is, sheet-is}
use Rattle.hk_sheet.proofs.reader.sheet_in.Goals as goal

pub returns-in_err-raw : goal.returns-in_err-raw
unfolding fault_of
returns-in_err-raw c =
    let p = err_from_is_err_and c.from_residual.result c.from_residual.ensures.1 in
    rw (p.1, p.2) (λ other. stop _ (c.in_err-raw.ensures.fault other))

pub judged-requires-clause-right : goal.judged-requires-clause-right
judged-requires-clause-right c = c.in_ok-raw.ensures.read.right

pub judged-requires-clause-fit : goal.judged-requires-clause-fit
judged-requires-clause-fit c = c.in_ok-raw.ensures.read.fit

pub returns : goal.returns
unfolding fault_of
returns c =
    let document = table_view c.args.document.now in
    let is = c.in_ok-raw.ensures.read in
    let whole : fault_of document ≡ judged_fault c.in_ok-raw.raw = skip c.in_ok-raw.ensures.fault ∙ sym (judged-is document c.in_ok-raw.raw is) in
    subst (λ fault. Gives fault (sheet_in document) c.judged.result) (sym whole) (subst (λ sheet. Gives (judged_fault c.in_ok-raw.raw) sheet c.judged.result) (sheet-is document c.in_ok-raw.raw is) c.judged.ensures)
