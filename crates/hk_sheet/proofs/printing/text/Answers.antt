use Rattle.std.proofs.Common.{◌≡◌, ◌≤◌, List, ℕ, true, Some, Err, string_bytes, arith, sym, ap, ◌∙◌, subst}
use Rattle.std.proofs.lemmas.Bool.{both_ways}
use Rattle.std.proofs.lemmas.Str.{IsUtf8-string_bytes}
use Rattle.toml.specs.Data.{members_depth, members_have_valid_dates}
use Rattle.toml.specs.Parse.{parse_document}
use Rattle.toml.specs.View.{table_view}
use Rattle.hk_sheet.specs.Answers.{IsDocument}
use Rattle.hk_sheet.specs.Printing.{document_of}
use Rattle.hk_sheet.proofs.Shallow.{document_depth, document_dated}
use Rattle.hk_sheet.proofs.Unfaulted.{document_again}
use Rattle.hk_sheet.proofs.printing.text.Goals as goal

pub returns-in-Ok : goal.returns-in-Ok
returns-in-Ok c =
    let sheet = c.args.sheet.now in
    let table = c.in_ok-document.document in
    let built : table_view table ≡ document_of sheet = c.in_ok-document.ensures in
    let few = document_depth sheet in
    let shallow : members_depth (table_view table) ≤ 80 = rw built (omega arith) in
    let parsed : parse_document (string_bytes c.in-Ok.text) ≡ Some (document_of sheet) = c.in-Ok.ensures.reads_back shallow ∙ ap Some built in
    let bytes : string_bytes c.in-Ok.text ≡ c.into_bytes.result.items = sym (ap (λ (v : _). v.items) c.into_bytes.ensures.value) in
    let is : IsDocument (string_bytes c.in-Ok.text) (document_of sheet) = record { utf8 = IsUtf8-string_bytes c.in-Ok.text; parsed = parsed } in
    record { document = document_of sheet; is = subst (λ (b : List ℕ). IsDocument b (document_of sheet)) bytes is; read = document_again sheet c.requires }

pub unreachable-requires : goal.unreachable-requires
unreachable-requires c =
    let sheet = c.args.sheet.now in
    let table = c.in_ok-document.document in
    let built : table_view table ≡ document_of sheet = c.in_ok-document.ensures in
    let dated : members_have_valid_dates (table_view table) ≡ true = rw built (document_dated sheet) in
    both_ways _ (c.in-Err-DateInvalid.ensures.dates.0 (ap Err c.in-Err-DateInvalid.field-0-is)) dated
