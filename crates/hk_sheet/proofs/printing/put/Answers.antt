use Rattle.std.proofs.Common.{ap, ◌∙◌}
use Rattle.toml.specs.View.{members_view}
use Rattle.hk_sheet.proofs.Puts.{view_insert}
use Rattle.hk_sheet.proofs.printing.put.Goals as goal

pub returns : goal.returns
returns c =
    let entries = c.args.table.now.entries in
    ap members_view c.in_ok-insert.ensures.entries ∙ view_insert c.in_ok-from_str.field-0 c.args.value entries ∙ rw c.in_ok-from_str.ensures.ok
