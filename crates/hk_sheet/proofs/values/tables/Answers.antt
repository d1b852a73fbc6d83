use Rattle.std.proofs.Common.{sym, ◌∙◌, arith}
use Rattle.toml.specs.View.{view}
use Rattle.hk_sheet.proofs.Elements.{one_more_table, table_pushed, tables_left}
use Rattle.hk_sheet.proofs.values.tables.Goals as goal

pub loop-value-preserved : goal.loop-value-preserved
loop-value-preserved c =
    let value = c.value-item.result in
    let step = one_more_table c.args.values.now c.loop-value.value-index value (omega arith) c.value-item.is in
    record {
      read = table_pushed _ _ _ _ (view value) c.loop-value.invariant.read c.in_ok-push.ensures.items c.in-Some.ensures ∙ sym step;
      left = tables_left c.args.values.now c.loop-value.value-index value _ _ (omega arith) c.value-item.is c.in-Some.ensures c.loop-value.invariant.left;
    }
