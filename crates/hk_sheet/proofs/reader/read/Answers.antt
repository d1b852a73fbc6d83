use Rattle.std.proofs.lemmas.Result.{err_from_is_err_and}
use Rattle.toml.specs.View.{table_view}
use Rattle.hk_sheet.proofs.Answering.{answers, valid}
use Rattle.hk_sheet.proofs.reader.read.Goals as goal

pub returns-in_err-document-clause-answer : goal.returns-in_err-document-clause-answer
returns-in_err-document-clause-answer c =
    let p = err_from_is_err_and c.from_residual.result c.from_residual.ensures.1 in
    rw (p.1, p.2) c.in_err-document.ensures.refused

pub returns-clause-answer : goal.returns-clause-answer
returns-clause-answer c = answers c.args.bytes.now (table_view c.in_ok-document.document) c.in_ok-document.ensures.document c.sheet_in.result c.sheet_in.ensures

pub returns-clause-valid : goal.returns-clause-valid
returns-clause-valid c = valid (table_view c.in_ok-document.document) c.sheet_in.result c.sheet_in.ensures
