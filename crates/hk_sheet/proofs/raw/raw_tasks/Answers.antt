use Rattle.std.proofs.Common.{All, ap, subst, sym, ◌∙◌, arith}
use Rattle.std.proofs.lemmas.List.Elements.{All-push}
use Rattle.toml.specs.View.{table_view}
use Rattle.hk_sheet.specs.Rules.{task_rules}
use Rattle.hk_sheet.specs.Faults.{fault_of_table}
use Rattle.hk_sheet.specs.Raw.{raw_task, IsFit}
use Rattle.hk_sheet.proofs.Turns.{one_more_read, one_passed}
use Rattle.hk_sheet.proofs.raw.raw_tasks.Goals as goal

pub loop-index-preserved : goal.loop-index-preserved
loop-index-preserved c =
    let tables = c.args.tables.now in
    let at = c.loop-index in
    let t = c.index-tables-index.result in
    let entries = table_view t.now in
    let rules = task_rules c.args.high c.args.run in
    let none = sym (ap (λ path. fault_of_table path (rules entries) entries) (c.as_str.ensures.value ∙ c.in_ok-path.ensures)) ∙ c.in_ok-task.ensures.read.0 in
    record {
      read = one_more_read tables at.index t (omega arith) c.index-tables-index.is (raw_task c.args.high c.args.heap.now) _ _ _ at.invariant.read c.in_ok-push.ensures.items c.in_ok-task.ensures.read.1;
      left = one_passed tables at.index t (omega arith) c.index-tables-index.is c.args.kind.now rules _ none at.invariant.left;
      fits = subst (All IsFit) (sym c.in_ok-push.ensures.items) (All-push IsFit at.tasks.items c.in_ok-task.field-0 at.invariant.fits c.in_ok-task.ensures.fits);
    }
